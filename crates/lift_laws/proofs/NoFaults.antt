-- A well-typed program has no fault in any of its parts.
use Rattle.std.proofs.Common.{◌≡◌, ℕ, Bool, true, false, List, [], ◌∷◌, ◌++◌, drop, Option, Some, None, refl, sym}
use Rattle.std.specs.Prelude.{map, codes, IsTrue, is_none, if◌then◌else◌}
use Rattle.std.specs.List.{flat_map, AllByRecursion}
use Rattle.c_tree.specs.declared.cause.CheckCause.TheVariants as c
use Rattle.c_tree.specs.declared.cause.LimitKind.TheVariants as limit
use Rattle.c_tree.specs.declared.scope.Fault.{Fault}
use Rattle.c_tree.specs.declared.program.Program.{Program}
use Rattle.c_tree.specs.Fault.{is_before, fault, unless, first, with_faults}
use Rattle.c_tree.specs.Scope.{Scope, is_defined, names_of, file_scope}
use Rattle.c_tree.specs.Typing.{IsWellTyped, first_fault, program_faults, second_names, struct_faults, name_repeats, global_faults, function_faults, definitions}

-- a list of faults that has no first is empty
pub with_some : (xs : List Fault) (f : Fault) → with_faults (Some f) xs ≡ None → ⊥
with_some [] f e = cc
with_some (x ∷ xs) f e = pick (is_before x f) (with_some xs x) (with_some xs f) e where
  pick : (b : Bool) → (with_faults (Some x) xs ≡ None → ⊥) → (with_faults (Some f) xs ≡ None → ⊥) → with_faults (if b then Some x else Some f) xs ≡ None → ⊥
  pick true p q = p
  pick false p q = q

pub none-from_first : (xs : List Fault) → IsTrue (is_none (first xs)) → xs ≡ []
none-from_first [] t = refl
none-from_first (x ∷ xs) t = absurd (pick (with_faults (Some x) xs) refl t) where
  pick : (o : Option Fault) → o ≡ with_faults (Some x) xs → IsTrue (is_none o) → ⊥
  pick None e t = with_some xs x (sym e)
  pick (Some f) e t = cc

-- parts of an empty list
pub no_left : {A : Type 0} (xs ys : List A) → xs ++ ys ≡ [] → xs ≡ []
no_left [] ys e = refl
no_left (x ∷ xs) ys e = cc

pub no_right : {A : Type 0} (xs ys : List A) → xs ++ ys ≡ [] → ys ≡ []
no_right [] ys e = e
no_right (x ∷ xs) ys e = cc

pub passes : (b : Bool) (f : Fault) → unless b (f ∷ []) ≡ [] → b ≡ true
passes true f e = refl
passes false f e = cc

pub none_each : {A : Type 0} (f : A → List Fault) (xs : List A) → flat_map f xs ≡ [] → AllByRecursion (λ x. f x ≡ []) xs
none_each f [] e = tt
none_each f (x ∷ xs) e = (no_left (f x) (flat_map f xs) e, none_each f xs (no_right (f x) (flat_map f xs) e))

-- part by part
pub record Parts (p : Program) : Type 0 where
  pub structs : second_names [] (map (λ d. d.name) p.structs) ≡ []
  pub fields : AllByRecursion (λ d. struct_faults (file_scope p) d ≡ []) p.structs
  pub names : name_repeats p [] (names_of p) ≡ []
  pub globals : global_faults (file_scope p) 0 p.globals ≡ []
  pub few : flat_map (λ f. fault f.name.at (c.Limit limit.Functions)) (drop 2000 (definitions p)) ≡ []
  pub functions : AllByRecursion (λ f. function_faults (file_scope p) f ≡ []) p.functions
  pub main : is_defined p (codes "main") ≡ true

pub parts : (p : Program) → IsWellTyped p → Parts p
unfolding first_fault
parts p t = record {
  structs = no_left S F e2;
  fields = none_each (struct_faults (file_scope p)) p.structs (no_right S F e2);
  names = no_right (S ++ F) N e3;
  globals = no_right (S ++ F ++ N) G e4;
  few = no_right (S ++ F ++ N ++ G) L e5;
  functions = none_each (function_faults (file_scope p)) p.functions (no_right (S ++ F ++ N ++ G ++ L) D e6);
  main = passes (is_defined p (codes "main")) _ (no_right (S ++ F ++ N ++ G ++ L ++ D) M all);
} where
  S : List Fault
  S = second_names [] (map (λ d. d.name) p.structs)

  F : List Fault
  F = flat_map (struct_faults (file_scope p)) p.structs

  N : List Fault
  N = name_repeats p [] (names_of p)

  G : List Fault
  G = global_faults (file_scope p) 0 p.globals

  L : List Fault
  L = flat_map (λ f. fault f.name.at (c.Limit limit.Functions)) (drop 2000 (definitions p))

  D : List Fault
  D = flat_map (function_faults (file_scope p)) p.functions

  M : List Fault
  M = unless (is_defined p (codes "main")) (fault p.len c.NoMain)

  all : S ++ F ++ N ++ G ++ L ++ D ++ M ≡ []
  all = none-from_first (program_faults p) t

  e6 : S ++ F ++ N ++ G ++ L ++ D ≡ []
  e6 = no_left (S ++ F ++ N ++ G ++ L ++ D) M all

  e5 : S ++ F ++ N ++ G ++ L ≡ []
  e5 = no_left (S ++ F ++ N ++ G ++ L) D e6

  e4 : S ++ F ++ N ++ G ≡ []
  e4 = no_left (S ++ F ++ N ++ G) L e5

  e3 : S ++ F ++ N ≡ []
  e3 = no_left (S ++ F ++ N) G e4

  e2 : S ++ F ≡ []
  e2 = no_left (S ++ F) N e3

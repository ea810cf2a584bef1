-- The lifting of a well-typed program keeps the limits.
use Rattle.std.proofs.Common.{◌≡◌, ℕ, zero, suc, ◌+◌, ◌<◌, ◌≤◌, ℤ, pos, negsuc, Bool, true, false, ◌&&◌, List, [], ◌∷◌, ◌++◌, length, drop, Option, Some, None, refl, sym, ap, subst, ◌∙◌, arith, nat_lt}
use Rattle.std.specs.Prelude.{map, All, nat_le, if◌then◌else◌}
use Rattle.std.specs.List.{flat_map, sum_by, AllByRecursion}
use Rattle.std.proofs.lemmas.Bool.{ltb-true, ltb-false, leb-true}
use Rattle.std.proofs.lemmas.List.{length-map}
use Rattle.std.proofs.lemmas.List.Sums.{sum_by-cons}
use Rattle.std.proofs.lemmas.List.Elements.{All-from_recursion, All-map}
use Rattle.c_tree.specs.declared.cause.CheckCause.TheVariants as c
use Rattle.c_tree.specs.declared.cause.LimitKind.{LimitKind}
use Rattle.c_tree.specs.declared.cause.LimitKind.TheVariants as limit
use Rattle.c_tree.specs.declared.scope.Fault.{Fault}
use Rattle.c_tree.specs.declared.program.Program.{Program}
use Rattle.c_tree.specs.declared.program.Function.{Function}
use Rattle.c_tree.specs.declared.program.GlobalDecl.{GlobalDecl}
use Rattle.c_tree.specs.declared.lifted.LFunction.{LFunction}
use Rattle.c_tree.specs.Fault.{fault, unless}
use Rattle.c_tree.specs.Scope.{Scope, file_scope}
use Rattle.c_tree.specs.Typing.{definitions, global_faults, type_faults, length_faults, init_faults, words}
use Rattle.c_tree.specs.Layout.{size_of}
use Rattle.c_tree.specs.Lifting.{lift, lift_function, lift_global, passed_limit, limit_at, first_limit, lift_limit}
use Rattle.c_tree.specs.Formed.{IsWithinLimits, words_of}
use Rattle.lift_laws.proofs.NoFaults.{Parts, no_left, no_right, passes}

-- functions
pub drop_none : {A : Type 0} (n : ℕ) (xs : List A) → drop n xs ≡ [] → length xs ≤ n
drop_none n [] e = omega arith
drop_none zero (x ∷ xs) e = cc
drop_none (suc n) (x ∷ xs) e = let r = drop_none n xs e in omega (arith, r)

pub few_functions : (fs : List Function) → flat_map (λ f. fault f.name.at (c.Limit limit.Functions)) fs ≡ [] → fs ≡ []
few_functions [] e = refl
few_functions (f ∷ fs) e = cc

-- places and slots
pub within : (g : LFunction) → passed_limit g ≡ None → (size_of g.body + 2 ≤ 10000) × (length g.slots ≤ 128)
within g e = pick (nat_lt 10000 (size_of g.body + 2)) (nat_lt 128 (length g.slots)) refl refl e where
  pick : (a b : Bool) → a ≡ nat_lt 10000 (size_of g.body + 2) → b ≡ nat_lt 128 (length g.slots) →
      (if a then Some limit.Places else (if b then Some limit.Slots else None)) ≡ None → (size_of g.body + 2 ≤ 10000) × (length g.slots ≤ 128)
  pick false false a b e = (ltb-false 10000 (size_of g.body + 2) (sym a), ltb-false 128 (length g.slots) (sym b))
  pick false true a b e = cc
  pick true b a b' e = cc

pub none_passed : (p : Program) (fs : List Function) → first_limit p fs ≡ None → AllByRecursion (λ f. passed_limit (lift_function p f) ≡ None) fs
none_passed p [] e = tt
none_passed p (f ∷ fs) e = pick (passed_limit (lift_function p f)) refl e (none_passed p fs) where
  pick : (o : Option LimitKind) → o ≡ passed_limit (lift_function p f) → limit_at f.name.at o (first_limit p fs) ≡ None →
      (first_limit p fs ≡ None → AllByRecursion (λ f. passed_limit (lift_function p f) ≡ None) fs) →
      (passed_limit (lift_function p f) ≡ None) × AllByRecursion (λ f. passed_limit (lift_function p f) ≡ None) fs
  pick None is e more = (sym is, more e)
  pick (Some kind) is e more = cc

pub each_within : (p : Program) (fs : List Function) → AllByRecursion (λ f. passed_limit (lift_function p f) ≡ None) fs →
    AllByRecursion (λ f. (size_of (lift_function p f).body + 2 ≤ 10000) × (length (lift_function p f).slots ≤ 128)) fs
each_within p [] h = tt
each_within p (f ∷ fs) h = (within (lift_function p f) h.0, each_within p fs h.1)

pub each_first : {A : Type 0} (P Q : A → Type 0) (xs : List A) → AllByRecursion (λ x. P x × Q x) xs → AllByRecursion P xs
each_first P Q [] h = tt
each_first P Q (x ∷ xs) h = (h.0.0, each_first P Q xs h.1)

pub each_second : {A : Type 0} (P Q : A → Type 0) (xs : List A) → AllByRecursion (λ x. P x × Q x) xs → AllByRecursion Q xs
each_second P Q [] h = tt
each_second P Q (x ∷ xs) h = (h.0.1, each_second P Q xs h.1)

-- globals
pub record Fine (file : Scope) (g : GlobalDecl) : Type 0 where
  pub some : 0 < words_of (lift_global file g)
  pub few : words_of (lift_global file g) ≤ 65536
  pub init : init_faults file g.ty g.init ≡ []

pub record AllFine (file : Scope) (before : ℕ) (gs : List GlobalDecl) : Type 0 where
  pub each : AllByRecursion (λ g. Fine file g) gs
  pub few : before + sum_by (λ g. words_of (lift_global file g)) gs ≤ 1000000

pub words_are : (file : Scope) (g : GlobalDecl) → words_of (lift_global file g) ≡ words file g.count
words_are file g = pick g.count refl where
  pick : (o : Option _) → o ≡ g.count → words_of (lift_global file g) ≡ words file g.count
  pick None e = ap (λ o. words_of (lift_global file (record g { count = o }))) (sym e) ∙ ap (words file) e
  pick (Some n) e = ap (λ o. words_of (lift_global file (record g { count = o }))) (sym e) ∙ ap (words file) e

pub both_true : (a b : Bool) → (a && b) ≡ true → (a ≡ true) × (b ≡ true)
both_true true true e = (refl, refl)
both_true true false e = cc
both_true false b e = cc

pub fine_more : (file : Scope) (before : ℕ) (g : GlobalDecl) (gs : List GlobalDecl) → global_faults file before (g ∷ gs) ≡ [] →
    (before + words file g.count ≤ 1000000 → global_faults file (before + words file g.count) gs ≡ [] → AllFine file (before + words file g.count) gs) → AllFine file before (g ∷ gs)
fine_more file before g gs e later = record {
  each = (record { some = subst (λ n. 0 < n) (sym (words_are file g)) (ltb-true 0 size lengths.0); few = subst (λ n. n ≤ 65536) (sym (words_are file g)) (leb-true size 65536 lengths.1); init = no_right (T ++ L) I e3 }, others.each);
  few = let s = sum_by-cons (λ g. words_of (lift_global file g)) g gs in let w = words_are file g in let o = others.few in omega (arith, s, w, o);
} where
  size : ℕ
  size = words file g.count

  I : List Fault
  I = init_faults file g.ty g.init

  W : List Fault
  W = unless (nat_le (before + size) 1000000) (fault g.name.at (c.Limit limit.GlobalWords))

  L : List Fault
  L = unless (nat_lt 0 size && nat_le size 65536) (fault g.name.at (c.Limit limit.ArrayLength))

  rest : List Fault
  rest = global_faults file (before + size) gs

  T : List Fault
  T = type_faults file g.name.at g.ty ++ length_faults file g.count

  e4 : T ++ L ++ I ++ W ≡ []
  e4 = no_left (T ++ L ++ I ++ W) rest e

  e3 : T ++ L ++ I ≡ []
  e3 = no_left (T ++ L ++ I) W e4

  e2 : T ++ L ≡ []
  e2 = no_left (T ++ L) I e3

  lengths : (nat_lt 0 size ≡ true) × (nat_le size 65536 ≡ true)
  lengths = both_true (nat_lt 0 size) (nat_le size 65536) (passes (nat_lt 0 size && nat_le size 65536) _ (no_right T L e2))

  others : AllFine file (before + size) gs
  others = later (leb-true (before + size) 1000000 (passes (nat_le (before + size) 1000000) _ (no_right (T ++ L ++ I) W e4))) (no_right (T ++ L ++ I ++ W) rest e)

pub all_fine : (file : Scope) (before : ℕ) (gs : List GlobalDecl) → before ≤ 1000000 → global_faults file before gs ≡ [] → AllFine file before gs
all_fine file before [] small e = record { each = tt; few = let z : before + 0 ≡ before = omega arith in omega (arith, small) }
all_fine file before (g ∷ gs) small e = fine_more file before g gs e (all_fine file (before + words file g.count) gs)

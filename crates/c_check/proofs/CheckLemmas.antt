-- The faults of a whole program, and their first.
use Rattle.std.proofs.Common.{◌≡◌, ◌⊎◌, inl, inr, ℕ, zero, suc, ◌∙◌, arith, Bool, true, false, List, [], ◌∷◌, ◌++◌, map, Option, Some, None, refl, sym, ap, subst}
use Rattle.std.specs.Prelude.{All, Contains, IsTrue, is_none, codes, if◌then◌else◌}
use Rattle.c_tree.specs.declared.cause.CheckCause.{CheckCause}
use Rattle.c_tree.specs.declared.cause.CheckCause.TheVariants as c
use Rattle.c_tree.specs.declared.scope.Fault.{Fault}
use Rattle.c_tree.specs.declared.program.At.{At}
use Rattle.c_tree.specs.declared.program.Program.{Program}
use Rattle.c_tree.specs.Fault.{IsNotBefore, is_before, fault, unless, first, with_faults}
use Rattle.c_tree.specs.Scope.{is_defined, names_of}
use Rattle.c_tree.specs.Typing.{first_fault, program_faults, answered}
use Rattle.c_tree.proofs.FirstLemmas.{Among, NoneBefore, first_is_least}
use Rattle.c_check.specs.Words.{noted}
use Rattle.c_check.specs.Files.{seconds, of_structs, repeats, of_globals, past, of_functions, of_declarations, of_main, of_routines}
use Rattle.c_check.specs.Laws.{FirstIsLeast, WellTypedHasNoFault, IsFirstAt, RefusedAtTheFirst, RefusedIsNotWellTyped}
use Rattle.c_check.proofs.NoteLemmas.{noting, noted-append, noted-none}

-- part by part
pub of_declarations-is : (p : Program) → of_declarations p ≡ seconds [] (map (λ d. d.name) p.structs) ++ of_structs p p.structs ++ repeats p [] (names_of p) ++ of_globals p 0 p.globals
unfolding of_declarations
of_declarations-is p = refl

pub of_routines-is : (p : Program) → of_routines p ≡ past 2000 p.functions ++ of_functions p p.functions ++ of_main p
unfolding of_routines
of_routines-is p = refl

pub noted-split : (f : Option Fault) (ds es fs gs : List Fault) → noted f (((ds ++ es) ++ fs) ++ gs) ≡ noted (noted f ds) ((es ++ fs) ++ gs)
noted-split f ds es fs gs =
    noted-append f ((ds ++ es) ++ fs) gs
    ∙ (ap (λ x. noted x gs) (noted-append f (ds ++ es) fs ∙ (ap (λ x. noted x fs) (noted-append f ds es) ∙ sym (noted-append (noted f ds) es fs)))
    ∙ sym (noted-append (noted f ds) (es ++ fs) gs))

pub first_fault-is : (p : Program) → first_fault p ≡ noted (noted None (of_declarations p)) (of_routines p)
unfolding first_fault noted seconds of_structs repeats of_globals past of_functions of_declarations of_routines of_main
first_fault-is p = noted-split None (of_declarations p) (past 2000 p.functions) (of_functions p p.functions) (of_main p)

pub ruleset whole = (noting, of_declarations-is, of_routines-is)

pub ruleset joined = (noted-none, first_fault-is)

-- the first fault, in the words of lists
pub Contains-from_Among : (xs : List Fault) (f : Fault) → Among f xs → Contains xs f
Contains-from_Among [] f a = absurd a
Contains-from_Among (g ∷ rest) f (inl e) = (0, omega arith, sym e)
Contains-from_Among (g ∷ rest) f (inr a) = let r = Contains-from_Among rest f a in (suc r.0, omega (arith, r.1), r.2)

pub All-from_NoneBefore : (xs : List Fault) (f : Fault) → NoneBefore f xs → All (λ g. IsNotBefore g f) xs
All-from_NoneBefore [] f n = λ k d l. absurd (omega (arith, l))
All-from_NoneBefore (g ∷ rest) f n = at n.0 (All-from_NoneBefore rest f n.1) where
  at : IsNotBefore g f → All (λ g. IsNotBefore g f) rest → All (λ g. IsNotBefore g f) (g ∷ rest)
  at here there zero d l = here
  at here there (suc k) d l = there k d (omega (arith, l))

pub first-least : FirstIsLeast
first-least faults f e = let r = first_is_least faults f e in (Contains-from_Among faults f r.0, All-from_NoneBefore faults f r.1)

-- no fault
pub with_some : (xs : List Fault) (f : Fault) → with_faults (Some f) xs ≡ None → ⊥
with_some [] f e = cc
with_some (x ∷ xs) f e = pick (is_before x f) (with_some xs x) (with_some xs f) e where
  pick : (b : Bool) → (with_faults (Some x) xs ≡ None → ⊥) → (with_faults (Some f) xs ≡ None → ⊥) → with_faults (if b then Some x else Some f) xs ≡ None → ⊥
  pick true p q = p
  pick false p q = q

pub none-from_first : (xs : List Fault) → IsTrue (is_none (first xs)) → xs ≡ []
none-from_first [] t = refl
none-from_first (x ∷ xs) t = absurd (pick (with_faults (Some x) xs) refl t) where
  pick : (o : Option Fault) → o ≡ with_faults (Some x) xs → IsTrue (is_none o) → ⊥
  pick None e t = with_some xs x (sym e)
  pick (Some f) e t = cc

pub well_typed-none : WellTypedHasNoFault
unfolding first_fault
well_typed-none p = (none-from_first (program_faults p), λ e. subst (λ xs. IsTrue (is_none (first xs))) (sym e) refl)

pub refused-not : RefusedIsNotWellTyped
refused-not p at cause e t = pick (first_fault p) e t where
  pick : (o : Option Fault) → answered o ≡ Some (record { at = at; it = cause }) → IsTrue (is_none o) → ⊥
  pick None e t = cc
  pick (Some f) e t = cc

-- the first fault is the one that is answered
pub same_answer : (a b : At CheckCause) → Some a ≡ Some b → a ≡ b
same_answer a b e = cc

pub refused-first : RefusedAtTheFirst
unfolding first_fault
refused-first p at cause e = pick (first_fault p) refl e where
  pick : (o : Option Fault) → first_fault p ≡ o → answered o ≡ Some (record { at = at; it = cause }) → IsFirstAt (program_faults p) at cause
  pick None s a = absurd (let no : ⊥ = cc in no)
  pick (Some f) s a =
      let same : record { at = f.at; it = f.cause } ≡ record { at = at; it = cause } = same_answer (record { at = f.at; it = f.cause }) (record { at = at; it = cause }) a in
      let least = first-least (program_faults p) f s in
      (f, ap (λ x. x.at) same, ap (λ x. x.it) same, least.0, least.1)

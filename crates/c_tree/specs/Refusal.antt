-- Answers that go on, or end in a refusal.
use Rattle.std.specs.Prelude.{Bool, if◌then◌else◌, List, [], ◌∷◌, Option, Some, None, Result, Ok, Err}

-- goes on with what is there, or ends in its refusal
abbrev pub onward : {A B E : Type 0} → Result A E → (A → Result B E) → Result B E
onward (Ok x) go = go x
onward (Err e) go = Err e

-- goes on unless a test holds, which has a cause
abbrev pub refuse_if : {A E : Type 0} → Bool → E → Result A E → Result A E
refuse_if b cause rest = if b then Err cause else rest

-- goes on unless there is a refusal
abbrev pub unless_refused : {A E : Type 0} → Option E → Result A E → Result A E
unless_refused None rest = rest
unless_refused (Some e) rest = Err e

-- the first that is there
abbrev pub first_some : {A : Type 0} → List (Option A) → Option A
first_some [] = None
first_some (None ∷ rest) = first_some rest
first_some (Some x ∷ rest) = Some x

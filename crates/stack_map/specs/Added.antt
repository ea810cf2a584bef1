-- What was made, and what the rest gives.
use Rattle.std.specs.Prelude.{List, ◌++◌, Result, Ok}
use Rattle.c_tree.specs.declared.event.Reason.{Reason}
use Rattle.c_tree.specs.Refusal.{onward}

-- what the rest gives, behind what was made
abbrev pub after : {A : Type 0} → List A → Result (List A) Reason → Result (List A) Reason
after made rest = onward rest (λ vs. Ok (made ++ vs))

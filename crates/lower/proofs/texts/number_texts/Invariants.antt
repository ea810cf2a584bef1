use Rattle.std.proofs.Common.{◌≡◌, ◌++◌, length, drop}
use Rattle.target_code.specs.Code.{texts_in}
use Rattle.lower.specs.Numbers.{numbers_from}
use Rattle.lower.proofs.texts.number_texts.Given as goal

-- what is told so far and what the rest has are the whole
abbrev pub invariant-places : goal.invariant-places
invariant-places l =
    (l.numbers.items ++ numbers_from (length l.texts.items) (drop l.n l.row) ≡ numbers_from (length l.initial.texts.items) l.row)
    × (l.texts.items ++ texts_in (drop l.n l.row) ≡ l.initial.texts.items ++ texts_in l.row)

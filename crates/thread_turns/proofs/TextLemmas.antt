-- The number of `%d` in what is left of a text.
use Rattle.std.proofs.Common.{◌≡◌, ℕ, ◌+◌, arith, Bool, true, false, List, Option, Some, None, refl, ap}
use Rattle.c_tree.specs.Typing.{one_more, directives, directive}

-- so many more
abbrev pub added : ℕ → Option ℕ → Option ℕ
added n None = None
added n (Some m) = Some (n + m)

pub added-one_more : (n : ℕ) (o : Option ℕ) → added n (one_more o) ≡ added (n + 1) o
added-one_more n None = refl
added-one_more n (Some m) = let e : n + (m + 1) ≡ n + 1 + m = omega arith in ap Some e

-- what is left, with a `%` before it or not
abbrev pub left : Bool → List ℕ → Option ℕ
left true rest = directive rest
left false rest = directives rest

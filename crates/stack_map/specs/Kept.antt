-- Which old functions stay as they are.
use Rattle.std.specs.Prelude.{◌≡◌, ℕ, Bool, false, not, ◌&&◌, List, map, length, Option, Some, None}
use Rattle.std.specs.List.{range_with_len}
use Rattle.c_tree.specs.declared.place.PlaceKind.TheVariants as kind
use Rattle.c_tree.specs.Link.{Link, match_at}
use Rattle.c_tree.specs.Points.{is_kind, kind_in}
use Rattle.c_tree.specs.Same.{is_unchanged}
use Rattle.c_tree.specs.Step.{function_of}

-- whether a match leaves an old function unchanged
abbrev pub unchanged_by : Link → ℕ → Option ℕ → Bool
unchanged_by k f None = false
unchanged_by k f (Some g) = is_unchanged k f g

-- whether an old function has a match that leaves it unchanged
abbrev pub is_same_function : Link → ℕ → Bool
is_same_function k f = unchanged_by k f (match_at k.functions f)

-- the answer for each old function
abbrev pub AreUnchanged : Link → List Bool → Type 0
AreUnchanged k same = same ≡ map (is_same_function k) (range_with_len 0 (length k.old.functions))

-- whether a place of an old function is plain
abbrev pub is_plain : Link → ℕ → ℕ → Bool
is_plain k f i = is_kind kind.Plain (kind_in (function_of k.old f) i)

-- whether a frame stays at the same place of the match
abbrev pub is_kept : Link → ℕ → ℕ → ℕ → Bool
is_kept k f g i = is_unchanged k f g && not (is_plain k f i)

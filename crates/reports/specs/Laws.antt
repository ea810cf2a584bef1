-- What the slots of a reason are.
use Rattle.std.specs.Prelude.{◌≡◌, ℕ, List, Some}
use Rattle.std.specs.List.{flat_map}
use Rattle.c_tree.specs.declared.mapping.LEntry.{LEntry}
use Rattle.c_tree.specs.Link.{Link}
use Rattle.c_tree.specs.MapStack.{Part, parts_at}
use Rattle.c_tree.specs.Step.{function_of}
use Rattle.reports.specs.Words.{part_slots}

-- where a place has a map, the slots that a reason counts are those of its parts, one part after the other
abbrev pub SlotsAreThoseOfTheParts : Type 0
SlotsAreThoseOfTheParts =
    (k : Link) (entries : List LEntry) (f p : ℕ) (parts : List Part) → parts_at k entries f p ≡ Some parts
    → part_slots k entries f p ≡ flat_map (λ part. (function_of k.new part.function).slots) parts

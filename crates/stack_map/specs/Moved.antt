-- What frames become, as the definitions see it.
use Rattle.std.specs.Prelude.{◌≡◌, ℕ, List, [], map, Option, Some, None}
use Rattle.c_tree.specs.declared.mapping.LEntry.{LEntry}
use Rattle.c_tree.specs.declared.lifted.Slot.{Slot}
use Rattle.c_tree.specs.Link.{Link}
use Rattle.c_tree.specs.MapStack.{Part, parts_at}
use Rattle.c_tree.specs.Step.{function_of}
use Rattle.stack_map.specs.declared.parts.Part as code
use Rattle.stack_map.specs.declared.known.Known.{Known}

-- a part without its representation
abbrev pub part : code.Part → Part
part p = record { function = p.function; place = p.place; fillings = p.fillings }

-- a frame becomes parts, or has no map
abbrev pub parts : Option (List code.Part) → Option (List Part)
parts None = None
parts (Some ps) = Some (map part ps)

-- the slots that are carried over to a part: those of an old function, or none
abbrev pub carried_from : Link → Option ℕ → List Slot
carried_from k None = []
carried_from k (Some f) = (function_of k.old f).slots

-- what is known is true of its function and place
abbrev pub Tells : Link → List LEntry → Known → Type 0
Tells k entries known = parts known.parts ≡ parts_at k entries known.function known.place

use Rattle.std.proofs.Common.{◌≡◌, drop}
use Rattle.c_tree.specs.Names.{slot_name}
use Rattle.reports.specs.Words as spec
use Rattle.reports.proofs.named.name_in.Given as goal

abbrev pub invariant-loop-part : goal.invariant-loop-part
invariant-loop-part l =
    slot_name (spec.slots_in l.link (spec.functions_of l.parts)) l.slot ≡ slot_name (spec.slots_in l.link (spec.functions_of (drop l.part-index l.parts))) l.left

use Rattle.std.proofs.Common.{◌≡◌, ◌++◌, drop}
use Rattle.c_tree.specs.MapStack as spec
use Rattle.c_tree.specs.Step.{function_of}
use Rattle.stack_map.specs.Moved.{carried_from}
use Rattle.stack_map.proofs.FillingsFrom.{fillings_from}
use Rattle.stack_map.proofs.slots.slot_fillings.Given as goal

abbrev pub invariant-loop-j : goal.invariant-loop-j
invariant-loop-j l =
    spec.slot_fillings l.k (carried_from l.k l.from) l.fills (function_of l.k.new l.g).slots
    ≡ l.made.items ++ fillings_from l.k (carried_from l.k l.from) l.fills l.j (drop l.j (function_of l.k.new l.g).slots)

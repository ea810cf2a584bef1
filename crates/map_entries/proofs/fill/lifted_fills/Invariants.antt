use Rattle.std.proofs.Common.{◌≡◌, ◌++◌, drop, map}
use Rattle.std.specs.Option.{option_map}
use Rattle.c_tree.specs.Step.{function_of}
use Rattle.c_tree.specs.Suits.{reads_slots}
use Rattle.c_tree.specs.Entries.{all_there}
use Rattle.c_tree.specs.Chain.{lifted_fill}
use Rattle.map_entries.proofs.fill.lifted_fills.Given as goal

-- what is lifted so far, and what is left
abbrev pub invariant-loop-fill : goal.invariant-loop-fill
invariant-loop-fill l =
    all_there (map (lifted_fill l.k (reads_slots l.k l.from) (function_of l.k.new l.to).slots) l.fills)
    ≡ option_map (λ rest. l.lifted.items ++ rest) (all_there (map (lifted_fill l.k (reads_slots l.k l.from) (function_of l.k.new l.to).slots) (drop l.fill-index l.fills)))

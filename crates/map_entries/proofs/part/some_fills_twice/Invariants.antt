use Rattle.std.proofs.Common.{◌≡◌, drop}
use Rattle.std.specs.List.{list_any}
use Rattle.c_tree.specs.Chain.{is_twice_filled}
use Rattle.map_entries.proofs.part.some_fills_twice.Given as goal

-- one that is left fills a slot twice, if any does
abbrev pub invariant-loop-part : goal.invariant-loop-part
invariant-loop-part l = list_any is_twice_filled l.parts ≡ list_any is_twice_filled (drop l.part-index l.parts)

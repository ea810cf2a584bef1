use Rattle.std.proofs.Common.{◌∙◌, ap, map}
use Rattle.map_entries.proofs.NumberLemmas.{each_numbers}
use Rattle.map_entries.specs.Numbers.{numbers_of}
use Rattle.map_entries.proofs.points.PointTable.of.Goals as goal

pub invariant_of-result : goal.invariant_of-result
invariant_of-result c = (c.in_ok-places.ensures, c.in_ok-numbers.ensures ∙ (ap (map numbers_of) c.in_ok-places.ensures ∙ each_numbers c.args.program.now.functions))

use Rattle.std.proofs.Common.{◌+◌, ◌*◌}
use Rattle.c_tree.specs.Layout as spec
use Rattle.c_places.proofs.enter.+entering.Given as goal

abbrev pub decreases-enter : goal.decreases-enter
decreases-enter l = 2 * spec.count l.s.now

abbrev pub decreases-begin : goal.decreases-begin
decreases-begin l = 2 * spec.size_of l.block.now + 1

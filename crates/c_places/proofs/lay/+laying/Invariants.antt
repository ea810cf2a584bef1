use Rattle.std.proofs.Common.{◌≡◌, ◌≤◌, ◌+◌, ◌*◌, ◌++◌, drop}
use Rattle.c_tree.specs.Layout as spec
use Rattle.c_places.proofs.lay.+laying.Given as goal

abbrev pub decreases-lay : goal.decreases-lay
decreases-lay l = 4 * spec.count l.s.now + 1

abbrev pub decreases-lay_if : goal.decreases-lay_if
decreases-lay_if l = 4 * (1 + spec.size_of l.yes.now + spec.size_of l.no.now)

abbrev pub decreases-lay_loop : goal.decreases-lay_loop
decreases-lay_loop l = 4 * (spec.size_of l.calls.now + 1 + spec.size_of l.body.now + spec.size_of l.step.now + 1)

abbrev pub decreases-lay_block : goal.decreases-lay_block
decreases-lay_block l = 4 * spec.size_of l.block.now + 2

-- what is laid out so far, and what the rest is at
abbrev pub invariant-lay_block-block : goal.invariant-lay_block-block
invariant-lay_block-block l =
    (l.out.items ++ spec.layout_of l.exits l.at l.next (drop l.i l.block) ≡ l.initial.out.items ++ spec.layout_of l.exits l.n l.next l.block)
    × (l.at + spec.size_of (drop l.i l.block) ≡ l.n + spec.size_of l.block)
    × (l.n ≤ l.at)

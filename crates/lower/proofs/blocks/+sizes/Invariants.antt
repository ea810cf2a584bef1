use Rattle.std.proofs.Common.{◌≡◌, ◌+◌, ◌*◌, ◌≤◌, min, drop}
use Rattle.c_tree.specs.Layout.{count, size_of}
use Rattle.target_code.specs.Code.{block_size}
use Rattle.lower.proofs.blocks.+sizes.Given as goal

abbrev pub decreases-statement_size : goal.decreases-statement_size
decreases-statement_size l = 4 * count l.s.now + 1

abbrev pub decreases-if_size : goal.decreases-if_size
decreases-if_size l = 4 * (1 + size_of l.yes.now + size_of l.no.now)

abbrev pub decreases-loop_size : goal.decreases-loop_size
decreases-loop_size l = 4 * (size_of l.calls.now + 1 + size_of l.body.now + size_of l.step.now + 1)

abbrev pub decreases-block_size : goal.decreases-block_size
decreases-block_size l = 4 * size_of l.block.now + 2

-- what is counted so far and what the rest has are the whole
abbrev pub invariant-block_size-block : goal.invariant-block_size-block
invariant-block_size-block l =
    (l.size ≤ 4294967296) × (min (l.size + block_size (drop l.i l.block)) 4294967296 ≡ min (block_size l.block) 4294967296)

use Rattle.std.proofs.Common.{◌≡◌, ◌+◌, ◌*◌, ◌++◌, drop}
use Rattle.c_tree.specs.Layout.{count, size_of}
use Rattle.target_code.specs.Code.{block_size, block_marks}
use Rattle.lower.proofs.marks.+marking.Given as goal

abbrev pub decreases-mark_statement : goal.decreases-mark_statement
decreases-mark_statement l = 4 * count l.s.now + 1

abbrev pub decreases-mark_if : goal.decreases-mark_if
decreases-mark_if l = 4 * (1 + size_of l.yes.now + size_of l.no.now)

abbrev pub decreases-mark_loop : goal.decreases-mark_loop
decreases-mark_loop l = 4 * (size_of l.calls.now + 1 + size_of l.body.now + size_of l.step.now + 1)

abbrev pub decreases-mark_block : goal.decreases-mark_block
decreases-mark_block l = 4 * size_of l.block.now + 2

-- what is put so far, and where the rest begins
abbrev pub invariant-mark_block-block : goal.invariant-mark_block-block
invariant-mark_block-block l =
    (l.out.items ++ block_marks l.from (drop l.i l.block) ≡ l.initial.out.items ++ block_marks l.at l.block)
    × (l.from + block_size (drop l.i l.block) ≡ l.at + block_size l.block)

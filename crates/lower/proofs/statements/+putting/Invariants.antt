use Rattle.std.proofs.Common.{◌≡◌, ◌+◌, ◌*◌, ◌++◌, drop}
use Rattle.c_tree.specs.Layout.{count, size_of}
use Rattle.target_code.specs.Code.{block_size, block_code}
use Rattle.lower.specs.Texts.{number}
use Rattle.lower.proofs.statements.+putting.Given as goal

abbrev pub decreases-put_statement : goal.decreases-put_statement
decreases-put_statement l = 4 * count l.s.now + 1

abbrev pub decreases-put_if : goal.decreases-put_if
decreases-put_if l = 4 * (1 + size_of l.yes.now + size_of l.no.now)

abbrev pub decreases-put_loop : goal.decreases-put_loop
decreases-put_loop l = 4 * (size_of l.calls.now + 1 + size_of l.body.now + size_of l.step.now + 1)

abbrev pub decreases-put_block : goal.decreases-put_block
decreases-put_block l = 4 * size_of l.block.now + 2

-- what is put so far, and where the rest begins
abbrev pub invariant-put_block-block : goal.invariant-put_block-block
invariant-put_block-block l =
    (l.out.items ++ block_code (number l.numbers) l.exits l.spot.at l.spot.place (drop l.i l.block) ≡ l.initial.out.items ++ block_code (number l.numbers) l.exits l.at l.n l.block)
    × (l.spot.at + block_size (drop l.i l.block) ≡ l.at + block_size l.block)
    × (l.spot.place + size_of (drop l.i l.block) ≡ l.n + size_of l.block)

use Rattle.std.proofs.Common.{◌≡◌, ◌+◌, ◌*◌, ◌++◌, drop}
use Rattle.c_tree.specs.Layout.{count, size_of}
use Rattle.frame_transform.specs.Blocks.{text_of}
use Rattle.frame_transform.specs.Inside.{reads}
use Rattle.frame_transform.specs.Loops.{loops_of}
use Rattle.frame_transform.proofs.blocks.+blocks.Given as goal

abbrev pub decreases-append_statement : goal.decreases-append_statement
decreases-append_statement l = 4 * count l.s.now + 1

abbrev pub decreases-append_if : goal.decreases-append_if
decreases-append_if l = 4 * (1 + size_of l.yes.now + size_of l.no.now)

abbrev pub decreases-append_loop : goal.decreases-append_loop
decreases-append_loop l = 4 * (size_of l.calls.now + 1 + size_of l.body.now + size_of l.step.now + 1)

abbrev pub decreases-append_block : goal.decreases-append_block
decreases-append_block l = 4 * size_of l.block.now + 2

-- what is printed so far, and where the rest begins
abbrev pub invariant-append_block-block : goal.invariant-append_block-block
invariant-append_block-block l =
    (l.out.items ++ text_of (reads l.inside) l.depth l.label l.at l.before (drop l.i l.block) ≡ l.initial.out.items ++ text_of (reads l.inside) l.depth l.label l.n l.k l.block)
    × (l.at + size_of (drop l.i l.block) ≡ l.n + size_of l.block)
    × (l.before + loops_of (drop l.i l.block) ≡ l.k + loops_of l.block)

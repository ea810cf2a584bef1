-- A block, and what becomes of it where its value is written.
use base.Fml.{Fml}
use denote.RattleType.{RattleType}
use denote.Ref.{MutBor}
use denote.Follow.{follows}
use Rattle.core.specs.declared.alloc.Allocator.{Ghosts}
use Rattle.seg_stack.specs.declared.segment.Block.{Block}
use Rattle.seg_stack.specs.contracts.segment.Block.{the_row}

-- the block with another value
abbrev pub with_value : {X Z : Type 0} → Block X Z → X → Block X Z
with_value b w = record { at = b.at; alloc = b.alloc; value = w }

-- once the borrow r ends, the block behind b holds the last value written through r
abbrev pub block_follows : (R Z : RattleType) (g : Ghosts Z.Denot) → MutBor (Block R.Denot Z.Denot) → MutBor R.Denot → Fml
block_follows R Z g b r = follows (the_row R Z g) R b.ghost_name r.ghost_name (with_value b.now)

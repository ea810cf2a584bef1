use Rattle.std.proofs.Common.{sym, ◌∙◌}
use Rattle.c_check.proofs.FileLemmas.{past_step, past_end}
use Rattle.c_check.proofs.function.too_many.Goals as goal

pub loop-f-preserved : goal.loop-f-preserved
loop-f-preserved c =
    c.loop-f.invariant
    ∙ past_step c.args.functions.now c.loop-f.f-index c.loop-f.room c.room_after-room.result c.f-item.result c.loop-f.first c.room_after-room.new.first
    c.loop-f-test.true c.f-item.is c.room_after-room.ensures

pub returns : goal.returns
returns c = sym (c.loop-f.invariant ∙ past_end c.args.functions.now c.loop-f.f-index c.loop-f.room c.loop-f.first c.loop-f-test.false)

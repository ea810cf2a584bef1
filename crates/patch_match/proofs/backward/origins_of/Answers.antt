use Rattle.std.proofs.Common.{take}
use Rattle.patch_match.proofs.OriginLemmas.{origins_more, count_before}
use Rattle.patch_match.proofs.backward.origins_of.Goals as goal

pub loop-i-preserved : goal.loop-i-preserved
loop-i-preserved c =
    origins_more c.add_origin.new.origins c.args.found.now c.loop-i.i c.loop-i-test.true
    (c.in_ok-add_origin.ensures {u = tt} (take c.loop-i.i c.args.found.now) c.loop-i.invariant
    (count_before c.args.found.now c.loop-i.i c.in_ok-narrowed.field-0 c.loop-i-test.true (c.in_ok-narrowed.ensures {u = tt})))

use Rattle.std.proofs.Common.{arith}
use Rattle.patch_form.proofs.Numbers.{value_more}
use Rattle.patch_form.proofs.number.value_of.Goals as goal

pub overflow_sub-digit : goal.overflow_sub-digit
overflow_sub-digit c = omega (arith, (value_more c.args.digits.now c.loop-digit.digit-index c.requires c.loop-digit-test.true).0)

pub loop-digit-preserved : goal.loop-digit-preserved
loop-digit-preserved c =
    let more = value_more c.args.digits.now c.loop-digit.digit-index c.requires c.loop-digit-test.true in
    omega (arith, more)

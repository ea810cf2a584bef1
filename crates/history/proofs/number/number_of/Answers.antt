use Rattle.std.proofs.Common.{◌+◌, arith}
use Rattle.std.proofs.lemmas.Str.Parse.{digits_value-take-le}
use Rattle.history.proofs.DigitLemmas.{digit_more}
use Rattle.history.proofs.number.number_of.Goals as goal

pub overflow_sub-digit : goal.overflow_sub-digit
overflow_sub-digit c =
    omega (arith, (digit_more c.args.digits.now c.loop-digit.digit-index c.requires (omega arith)).0)

pub returns-then-number-gt4294967295 : goal.returns-then-number-gt4294967295
returns-then-number-gt4294967295 c =
    let i = c.loop-digit.digit-index in
    omega (arith, digit_more c.args.digits.now i c.requires (omega arith), digits_value-take-le 10 c.args.digits.now (i + 1) (omega arith))

pub loop-digit-preserved : goal.loop-digit-preserved
loop-digit-preserved c =
    let more = digit_more c.args.digits.now c.loop-digit.digit-index c.requires (omega arith) in
    (omega (arith, more), omega arith)

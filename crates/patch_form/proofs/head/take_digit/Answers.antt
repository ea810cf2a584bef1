use Rattle.std.proofs.Common.{arith}
use Rattle.patch_form.proofs.Heads.{digit_cut, digit_wrong}
use Rattle.patch_form.proofs.head.take_digit.Goals as goal

pub returns-in-None : goal.returns-in-None
returns-in-None c = digit_cut c.args.bytes.now c.args.at c.in-None.ensures.lookup.3

pub returns-in-Some : goal.returns-in-Some
returns-in-Some c =
    let there = c.in-Some.ensures.lookup.3 in
    let test = c.in-Some.field-0-test in
    (0, omega arith, digit_wrong c.args.bytes.now c.args.at c.in-Some.field-0.now there.0 (there.1 0) test.0.1 test.1)

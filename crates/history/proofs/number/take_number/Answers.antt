use Rattle.std.proofs.Common.{arith}
use Rattle.std.proofs.lemmas.Bool.Decides.{nat_tests}
use Rattle.history.proofs.DigitLemmas.{lacks_empty, lacks_zero, lacks_above, takes_number}
use Rattle.history.proofs.number.take_number.Goals as goal
use Rattle.history.proofs.number.take_number.Goals.{then-is_empty-via-then-is_empty, then-is_empty-via-else-is_empty+then-digits-eq48, then-digits-gt1, else-digits-gt1}

pub returns-then-is_empty : goal.returns-then-is_empty
returns-then-is_empty c =
    let s = c.split_digits.ensures in
    let ds = c.split_digits.result.0.now in
    let rest = c.split_digits.result.1.now in
    elim c.then-is_empty.branch [
      | then-is_empty-via-then-is_empty w ↦ lacks_empty c.args.bytes.now ds rest s.whole s.digits s.rest (grind (arith, nat_tests))
      | then-is_empty-via-else-is_empty+then-digits-eq48 w ↦
          elim w.if-digits-gt1.branch [
            | then-digits-gt1 v ↦ lacks_zero c.args.bytes.now ds rest s.whole s.digits s.rest (omega arith) (grind (arith, nat_tests))
            | else-digits-gt1 v ↦ absurd (grind (arith, nat_tests))
          ]
    ]

pub returns-in_err-number : goal.returns-in_err-number
returns-in_err-number c =
    let s = c.split_digits.ensures in
    rw c.from_residual.ensures
    (lacks_above c.args.bytes.now c.split_digits.result.0.now c.split_digits.result.1.now s.whole s.digits s.rest c.in_err-number.ensures)

pub returns : goal.returns
returns c =
    let s = c.split_digits.ensures in
    takes_number c.args.bytes.now c.split_digits.result.0.now c.split_digits.result.1.now c.in_ok-number.number s.whole s.digits s.rest (grind (arith, nat_tests)) (λ zero. grind (arith, nat_tests)) c.in_ok-number.ensures.0 c.in_ok-number.ensures.1

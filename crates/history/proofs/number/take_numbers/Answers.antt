use Rattle.std.proofs.Common.{◌≡◌, ◌+◌, ◌-◌, ◌<◌, ℕ, suc, length, arith, subst, sym}
use Rattle.std.proofs.lemmas.List.{length-set}
use Rattle.history.specs.Taken.{LacksNumbers}
use Rattle.history.proofs.NumberLemmas.{lacks_first, lacks_next, one_more, short_more}
use Rattle.history.proofs.number.take_numbers.Goals as goal

pub returns-in_err-number : goal.returns-in_err-number
returns-in_err-number c =
    let left : c.args.count - c.loop-i.i ≡ suc (c.args.count - c.loop-i.i - 1) = omega arith in
    let none : LacksNumbers (suc (c.args.count - c.loop-i.i - 1)) c.loop-i.rest.now =
    lacks_first (c.args.count - c.loop-i.i - 1) c.loop-i.rest.now c.in_err-number.ensures in
    rw c.from_residual.ensures (c.loop-i.invariant.lacks (subst (λ (n : ℕ). LacksNumbers n c.loop-i.rest.now) (sym left) none))

pub loop-i-preserved : goal.loop-i-preserved
loop-i-preserved c =
    let took = c.in_ok-number.ensures in
    let lt : c.loop-i.i < length c.loop-i.numbers = omega (arith, c.loop-i.invariant.four) in
    let left : suc (c.args.count - (c.loop-i.i + 1)) ≡ c.args.count - c.loop-i.i = omega arith in
    record {
      four = omega (arith, length-set {A = ℕ}, c.loop-i.invariant.four);
      short = short_more c.loop-i.numbers c.loop-i.i c.in_ok-number.number lt c.loop-i.invariant.short took.0;
      whole = one_more c.args.bytes.now c.loop-i.numbers c.loop-i.i c.in_ok-number.number c.loop-i.rest.now c.in_ok-number.more.now lt c.loop-i.invariant.whole took;
      lacks = λ none. c.loop-i.invariant.lacks (subst (λ (n : ℕ). LacksNumbers n c.loop-i.rest.now) left (lacks_next (c.args.count - (c.loop-i.i + 1)) c.loop-i.rest.now c.in_ok-number.number c.in_ok-number.more.now took none));
    }

pub returns-in_err-rest : goal.returns-in_err-rest
returns-in_err-rest c =
    let none_left : 0 ≡ c.args.count - c.loop-i.i = omega arith in
    rw c.from_residual-in_err-rest.ensures (c.loop-i.invariant.lacks (subst (λ (n : ℕ). LacksNumbers n c.loop-i.rest.now) none_left c.in_err-rest.ensures))

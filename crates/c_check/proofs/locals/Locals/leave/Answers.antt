use Rattle.std.proofs.Common.{◌∙◌, ap, arith}
use Rattle.c_check.proofs.StackLemmas.{one_less}
use Rattle.c_check.proofs.locals.Locals.leave.Goals as goal

pub loop-self-preserved : goal.loop-self-preserved
loop-self-preserved c =
    let r = one_less c.args.mark.now.names c.loop-self.self.names c.forget.new.self.names (ap (λ l. l.names) c.in_ok-forget.ensures) (omega (arith, c.loop-self-test.true, c.len.ensures)) in
    record {
      enough = r.0;
      names = r.1 ∙ c.loop-self.invariant.names;
      block = ap (λ l. l.block) c.in_ok-forget.ensures;
      slots = ap (λ l. l.slots) c.in_ok-forget.ensures ∙ c.loop-self.invariant.slots;
    }

use Rattle.std.proofs.Common.{◌∙◌, ap}
use Rattle.c_check.proofs.StackLemmas.{popped, never_absent}
use Rattle.c_check.proofs.locals.Locals.forget.Goals as goal

pub invariant_of-self : goal.invariant_of-self
invariant_of-self c =
    popped c.self.inside.heights c.set_height.new.heights c.self.inside.entries.items c.pop.new.self.items c.self.inside.block c.in-Some.entry
    c.self.invariant (ap (λ l. l.block) c.self.view_is ∙ c.requires) c.in-Some.ensures.items c.in_ok-set_height.ensures.ok

pub invariant_of-self-in_err-set_height : goal.invariant_of-self-in_err-set_height
invariant_of-self-in_err-set_height c =
    absurd (never_absent c.self.inside.heights c.self.inside.entries.items c.pop.new.self.items c.self.inside.block c.in-Some.entry
    c.self.invariant c.in-Some.ensures.items c.in_err-set_height.ensures.absent)

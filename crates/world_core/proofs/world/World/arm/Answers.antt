use Rattle.std.proofs.Common.{ap, sym, ◌∙◌}
use Rattle.world_core.proofs.GateLemmas.{arm_keeps}
use Rattle.world_core.proofs.world.World.arm.Goals as goal

pub invariant_of-self : goal.invariant_of-self
invariant_of-self c =
    arm_keeps c.self.inside (record { patch = c.args.patch; at = c.args.at }) c.self.invariant (ap (λ h. h.events) c.self.view_is ∙ c.requires.new) (record {
      same = c.requires.same ∙ sym (ap (λ h. h.settings.program) c.self.view_is);
      sound = c.requires.sound;
      placed = c.requires.placed;
      old_placed = c.requires.old_placed;
    })

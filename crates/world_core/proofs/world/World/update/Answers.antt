use Rattle.std.proofs.Common.{refl}
use Rattle.c_tree.specs.declared.event.EventKind.TheVariants.{Update}
use Rattle.plain_run.specs.Decision.{IsUpdate}
use Rattle.world_core.proofs.EventLemmas.{is_made}
use Rattle.world_core.proofs.UpdateLemmas.{awaits, commit_room, decided_told, update_keeps}
use Rattle.world_core.proofs.world.World.update.Goals as goal

pub push_reserved-requires : goal.push_reserved-requires
push_reserved-requires c = commit_room c.self.inside c.args.self.now c.self.view_is c.self.invariant c.requires.may

pub invariant_of-self : goal.invariant_of-self
invariant_of-self c =
    update_keeps c.self.inside _ c.args.worker c.self.invariant (record {
      earlier = refl;
      settings = refl;
      events = c.push_reserved.ensures.items;
      makes = c.update.ensures c.self.inside.settings (awaits c.self.inside c.args.self.now c.self.view_is c.self.invariant c.requires.may)
          (decided_told (λ k d. IsUpdate k d c.args.parts c.args.places) c.self.inside c.args.self.now c.self.view_is c.self.invariant c.requires.decided);
    }) refl c.push_reserved.ensures.room

pub returns : goal.returns
returns c =
    is_made c.self.inside _ c.args.self.now _ c.args.worker Update c.self.view_is c.self.invariant refl (invariant_of-self c) (record {
      earlier = refl;
      settings = refl;
      events = c.push_reserved.ensures.items;
      makes = c.update.ensures c.self.inside.settings (awaits c.self.inside c.args.self.now c.self.view_is c.self.invariant c.requires.may)
          (decided_told (λ k d. IsUpdate k d c.args.parts c.args.places) c.self.inside c.args.self.now c.self.view_is c.self.invariant c.requires.decided);
    })

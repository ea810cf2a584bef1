use Rattle.std.proofs.Common.{refl}
use Rattle.c_tree.specs.declared.event.EventKind.TheVariants.{Refuse}
use Rattle.plain_run.specs.Decision.{IsReason}
use Rattle.world_core.proofs.EventLemmas.{is_made}
use Rattle.world_core.proofs.UpdateLemmas.{awaits, commit_asked, commit_room, decided_told, refuse_keeps}
use Rattle.world_core.proofs.world.World.refuse.Goals as goal

pub push_reserved-requires : goal.push_reserved-requires
push_reserved-requires c = commit_room c.self.inside c.args.self.now c.self.view_is c.self.invariant c.requires.may

pub invariant_of-self : goal.invariant_of-self
invariant_of-self c =
    refuse_keeps c.self.inside _ c.args.worker c.args.reason c.self.invariant (commit_asked c.self.inside c.args.self.now c.self.view_is c.self.invariant c.requires.may) (record {
      earlier = refl;
      settings = refl;
      events = c.push_reserved.ensures.items;
      makes = c.refuse.ensures c.self.inside.settings c.self.inside.places (awaits c.self.inside c.args.self.now c.self.view_is c.self.invariant c.requires.may)
          (decided_told (λ k d. IsReason k d c.args.reason) c.self.inside c.args.self.now c.self.view_is c.self.invariant c.requires.decided);
    }) c.named_in-self-inside.ensures c.push_reserved.ensures.room

pub returns : goal.returns
returns c =
    is_made c.self.inside _ c.args.self.now _ c.args.worker (Refuse c.args.reason) c.self.view_is c.self.invariant refl (invariant_of-self c) (record {
      earlier = refl;
      settings = refl;
      events = c.push_reserved.ensures.items;
      makes = c.refuse.ensures c.self.inside.settings c.self.inside.places (awaits c.self.inside c.args.self.now c.self.view_is c.self.invariant c.requires.may)
          (decided_told (λ k d. IsReason k d c.args.reason) c.self.inside c.args.self.now c.self.view_is c.self.invariant c.requires.decided);
    })

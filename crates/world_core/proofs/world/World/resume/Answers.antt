use Rattle.std.proofs.Common.{refl}
use Rattle.c_tree.specs.Run as r
use Rattle.c_tree.specs.declared.event.EventKind.TheVariants.{Resume}
use Rattle.world_core.proofs.EventLemmas.{is_made}
use Rattle.world_core.proofs.GateLemmas.{resume_keeps, resume_room}
use Rattle.world_core.proofs.WorldLemmas.{may_told}
use Rattle.world_core.proofs.world.World.resume.Goals as goal

pub push_reserved-requires : goal.push_reserved-requires
push_reserved-requires c = resume_room c.self.inside c.args.self.now c.args.t c.self.view_is c.self.invariant c.requires

pub invariant_of-self : goal.invariant_of-self
invariant_of-self c =
    resume_keeps c.self.inside _ c.args.worker c.args.t c.self.invariant (record {
      earlier = refl;
      settings = refl;
      events = c.push_reserved.ensures.items;
      makes = c.resume.ensures c.self.inside.settings c.self.inside.places c.self.invariant.ready
          (may_told (λ k d. r.may_resume d c.args.t) c.self.inside c.args.self.now c.self.view_is c.self.invariant c.requires);
    }) refl c.push_reserved.ensures.room

pub returns : goal.returns
returns c =
    is_made c.self.inside _ c.args.self.now _ c.args.worker (Resume c.args.t) c.self.view_is c.self.invariant refl (invariant_of-self c) (record {
      earlier = refl;
      settings = refl;
      events = c.push_reserved.ensures.items;
      makes = c.resume.ensures c.self.inside.settings c.self.inside.places c.self.invariant.ready
          (may_told (λ k d. r.may_resume d c.args.t) c.self.inside c.args.self.now c.self.view_is c.self.invariant c.requires);
    })

use Rattle.std.proofs.Common.{◌++◌, ◌∷◌, [], ◌∙◌, refl, ap, arith}
use Rattle.c_tree.specs.Run as r
use Rattle.c_tree.specs.declared.event.EventKind.TheVariants.{Park}
use Rattle.world_core.proofs.EventLemmas.{is_made}
use Rattle.world_core.proofs.GateLemmas.{park_keeps, roomy_keeps}
use Rattle.world_core.proofs.WorldLemmas.{may_told}
use Rattle.world_core.proofs.world.World.park.Goals as goal

pub invariant_of-self-in_err-park : goal.invariant_of-self-in_err-park
invariant_of-self-in_err-park c =
    roomy_keeps c.self.inside _ c.self.invariant refl refl refl refl c.in_ok-reserve.ensures.items c.in_err-park.ensures.err c.in_ok-reserve.ensures.room

pub invariant_of-self-2 : goal.invariant_of-self-2
invariant_of-self-2 c =
    park_keeps c.self.inside _ c.args.worker c.args.t c.self.invariant (record {
      earlier = refl;
      settings = refl;
      events = c.push_reserved.ensures.items ∙ ap (λ es. es ++ (record { worker = c.args.worker; kind = Park c.args.t }) ∷ []) c.in_ok-reserve.ensures.items;
      makes = c.in_ok-park.ensures.ok c.self.inside.settings c.self.inside.places c.self.invariant.ready
          (may_told (λ k d. r.may_park d c.args.t) c.self.inside c.args.self.now c.self.view_is c.self.invariant c.requires);
    }) refl (omega (arith, c.in_ok-reserve.ensures.ok, c.push_reserved.ensures.room, c.owed.ensures))

pub returns-clause-ok : goal.returns-clause-ok
returns-clause-ok c =
    is_made c.self.inside _ c.args.self.now _ c.args.worker (Park c.args.t) c.self.view_is c.self.invariant refl (invariant_of-self-2 c) (record {
      earlier = refl;
      settings = refl;
      events = c.push_reserved.ensures.items ∙ ap (λ es. es ++ (record { worker = c.args.worker; kind = Park c.args.t }) ∷ []) c.in_ok-reserve.ensures.items;
      makes = c.in_ok-park.ensures.ok c.self.inside.settings c.self.inside.places c.self.invariant.ready
          (may_told (λ k d. r.may_park d c.args.t) c.self.inside c.args.self.now c.self.view_is c.self.invariant c.requires);
    })

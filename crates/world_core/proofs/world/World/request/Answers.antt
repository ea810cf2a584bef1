use Rattle.std.proofs.Common.{◌++◌, ◌∷◌, [], ◌∙◌, refl, ap, arith}
use Rattle.c_tree.specs.Run as r
use Rattle.c_tree.specs.declared.event.EventKind.TheVariants.{Request}
use Rattle.world_core.proofs.EventLemmas.{is_made}
use Rattle.world_core.proofs.GateLemmas.{request_keeps}
use Rattle.world_core.proofs.WorldLemmas.{may_told}
use Rattle.world_core.proofs.world.World.request.Goals as goal

pub invariant_of-self-2 : goal.invariant_of-self-2
invariant_of-self-2 c =
    request_keeps c.self.inside _ c.args.worker c.self.invariant (record {
      earlier = refl;
      settings = refl;
      events = c.push_reserved.ensures.items ∙ ap (λ es. es ++ (record { worker = c.args.worker; kind = Request }) ∷ []) c.in_ok-reserve.ensures.items;
      makes = c.request.ensures c.self.inside.settings c.self.inside.places c.self.invariant.ready (may_told r.is_due c.self.inside c.args.self.now c.self.view_is c.self.invariant c.requires);
    }) refl (omega (arith, c.in_ok-reserve.ensures.ok, c.push_reserved.ensures.room, c.owed.ensures))

pub returns-clause-ok : goal.returns-clause-ok
returns-clause-ok c =
    is_made c.self.inside _ c.args.self.now _ c.args.worker Request c.self.view_is c.self.invariant refl (invariant_of-self-2 c) (record {
      earlier = refl;
      settings = refl;
      events = c.push_reserved.ensures.items ∙ ap (λ es. es ++ (record { worker = c.args.worker; kind = Request }) ∷ []) c.in_ok-reserve.ensures.items;
      makes = c.request.ensures c.self.inside.settings c.self.inside.places c.self.invariant.ready (may_told r.is_due c.self.inside c.args.self.now c.self.view_is c.self.invariant c.requires);
    })

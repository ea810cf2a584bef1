use Rattle.std.proofs.Common.{◌≡◌, subst}
use Rattle.std.specs.Prelude.{MatchResult, Ok}
use Rattle.stack_map.specs.Refusal.{IsRefusal}
use Rattle.state_transform.proofs.StructLemmas.{goes_to}
use Rattle.state_transform.proofs.heap.map_live.Goals as goal

pub returns-in-Some : goal.returns-in-Some
returns-in-Some c =
    let m = c.args.m.now in
    subst (λ w. MatchResult c.map_to.result (λ o. w ≡ Ok o) (IsRefusal w))
    (goes_to m.link.now m.entries.now c.args.state.now c.args.number c.in-Ok.number c.args.object.now c.in-Some.map.now c.in-Some.ensures c.in-Ok.ensures) c.map_to.ensures

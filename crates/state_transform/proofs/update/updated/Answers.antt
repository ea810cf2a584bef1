use Rattle.std.proofs.Common.{◌≡◌, subst, sym}
use Rattle.std.specs.Prelude.{MatchResult, Ok}
use Rattle.stack_map.specs.Refusal.{IsRefusal}
use Rattle.state_transform.specs.Parts.{with_parts}
use Rattle.state_transform.specs.Whole.{IsWhole}
use Rattle.state_transform.proofs.LinkLemmas.{linked}
use Rattle.state_transform.proofs.UpdateLemmas.{linked_update}
use Rattle.state_transform.proofs.update.updated.Goals as goal

pub by_link-requires-clause-whole : goal.by_link-requires-clause-whole
by_link-requires-clause-whole c =
    subst (λ k. IsWhole k) (sym c.in-Ok.ensures) (linked c.args.patch.now.old c.args.patch.now.new c.as_slice.result.now)

pub returns-in-Ok : goal.returns-in-Ok
returns-in-Ok c =
    subst (λ w. MatchResult c.by_link.result (λ ps. w ≡ Ok (with_parts ps c.args.state.now)) (IsRefusal w))
    (linked_update c.args.patch.now c.args.state.now c.in-Ok.k c.as_slice.result.now c.as_slice-in-Ok.result.now c.as_slice.ensures c.as_slice-in-Ok.ensures c.in-Ok.ensures)
    c.by_link.ensures

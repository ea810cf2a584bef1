use Rattle.std.proofs.Common.{◌≡◌, subst}
use Rattle.std.specs.Prelude.{MatchResult, Ok}
use Rattle.stack_map.specs.Added.{after}
use Rattle.stack_map.specs.Refusal.{IsRefusal}
use Rattle.stack_map.proofs.FrameLemmas.{framed}
use Rattle.stack_map.proofs.frames.map_frame.Goals as goal

pub returns-in-Some-clause-maps : goal.returns-in-Some-clause-maps
returns-in-Some-clause-maps c =
    let m = c.args.m.now in
    subst (λ w. MatchResult c.add_parts.result (λ u. after c.args.made.now.items w ≡ Ok c.add_parts.new.made.items) (IsRefusal w))
    (framed m.link.now m.entries.now c.args.state.now c.args.whose.0 c.in-Ok.number c.args.whose.1 c.args.frame.now c.turn.new.self c.as_slice.result.now c.in-Ok-turn.ensures.tells
    c.in-Ok-turn.ensures.at.0 c.in-Ok-turn.ensures.at.1 (cc) c.in-Ok.ensures)
    c.add_parts.ensures

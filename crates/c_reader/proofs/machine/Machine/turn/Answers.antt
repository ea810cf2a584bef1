use Rattle.std.proofs.Common.{sym}
use Rattle.c_reader.proofs.Turns.{in_front, at_take_refused, at_unless_refused, at_unless_changed, at_act_changed, at_expand_refused, at_expand_changed, state_is}
use Rattle.c_reader.proofs.machine.Machine.turn.Goals as goal

pub returns-else-is_next-clause-turned : goal.returns-else-is_next-clause-turned
returns-else-is_next-clause-turned c = at_take_refused _ _ _ _ c.requires c.in-Take.kind c.in-Take.mark (in_front _ _ _ _ c.in-Some.ensures.items c.in-Take.is) (sym c.if-is_next.ensures)

pub returns-then-is_next-2-clause-turned : goal.returns-then-is_next-2-clause-turned
returns-then-is_next-2-clause-turned c = at_unless_refused _ _ _ _ c.requires c.in-Unless.kind (in_front _ _ _ _ c.in-Some.ensures.items c.in-Unless.is) (sym c.if-is_next-2.ensures)

pub returns-else-is_next-2-clause-turned : goal.returns-else-is_next-2-clause-turned
returns-else-is_next-2-clause-turned c = at_unless_changed _ _ _ _ c.requires c.in-Unless.kind (in_front _ _ _ _ c.in-Some.ensures.items c.in-Unless.is) (sym c.if-is_next-2.ensures)

pub returns-in_ok-act-in-Act-clause-turned : goal.returns-in_ok-act-in-Act-clause-turned
returns-in_ok-act-in-Act-clause-turned c = at_act_changed _ _ _ _ c.requires c.in-Act.action _ (in_front _ _ _ _ c.in-Some.ensures.items c.in-Act.is) (state_is _ _ _ _ _ _ _ _ c.in_ok-act-in-Act.ensures c.saturating_sub-self.ensures c.closes.ensures c.operators_after-self.ensures)

pub returns-in-None-clause-turned : goal.returns-in-None-clause-turned
returns-in-None-clause-turned c = at_expand_refused _ _ _ _ c.requires c.in-Expand.rule (in_front _ _ _ _ c.in-Some.ensures.items c.in-Expand.is) (sym c.in-None.ensures)

pub returns-in_ok-push_all-in-Some-pick-clause-turned : goal.returns-in_ok-push_all-in-Some-pick-clause-turned
returns-in_ok-push_all-in-Some-pick-clause-turned c = at_expand_changed _ _ _ _ c.requires c.in-Expand.rule c.in-Some-pick.front.now _ (in_front _ _ _ _ c.in-Some.ensures.items c.in-Expand.is) (sym c.in-Some-pick.ensures) c.in_ok-push_all-in-Some-pick.ensures

use Rattle.std.proofs.Common.{subst}
use Rattle.c_tree.specs.Update.{update}
use Rattle.stack_map.specs.Refusal.{IsRefusal}
use Rattle.plain_run.proofs.ReasonLemmas.{not_memory}
use Rattle.plain_run.proofs.decision.decide.Goals as goal

pub returns-in_ok-reason_of-in-Err-clause-named : goal.returns-in_ok-reason_of-in-Err-clause-named
returns-in_ok-reason_of-in-Err-clause-named c =
    not_memory c.in-Some.armed.patch c.args.now.now.state c.in_ok-reason_of-in-Err.field-0
    (subst (λ x. IsRefusal (update c.in-Some.armed.patch c.args.now.now.state) x) c.in_ok-reason_of-in-Err.ensures c.in-Err.ensures)

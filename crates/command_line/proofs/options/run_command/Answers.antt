use Rattle.std.proofs.Common.{ap₂, ◌∙◌}
use Rattle.std.proofs.lemmas.Result.{IfOk-weaker}
use Rattle.clap.specs.Words.{with_rule}
use Rattle.command_line.proofs.options.run_command.Goals as goal

pub returns : goal.returns
returns c =
    let patch = c.in_ok-arg.ensures.shape c.patch.ensures.1 ∙ ap₂ with_rule c.in_ok-file_command.ensures c.patch.ensures.0 in
    let at = c.in_ok-arg-2.ensures.shape c.at.ensures.1 ∙ ap₂ with_rule patch c.at.ensures.0 in
    let input = c.in_ok-arg-3.ensures.shape c.input.ensures.1 ∙ ap₂ with_rule at c.input.ensures.0 in
    let seed = c.in_ok-arg-4.ensures.shape c.seed.ensures.1 ∙ ap₂ with_rule input c.seed.ensures.0 in
    let schedule = c.in_ok-arg-5.ensures.shape c.schedule.ensures.1 ∙ ap₂ with_rule seed c.schedule.ensures.0 in
    let steps = c.in_ok-arg-6.ensures.shape c.steps.ensures.1 ∙ ap₂ with_rule schedule c.steps.ensures.0 in
    IfOk-weaker c.arg-7.result _ _ (λ r added. added.shape c.history.ensures.1 ∙ ap₂ with_rule steps c.history.ensures.0) c.arg-7.ensures

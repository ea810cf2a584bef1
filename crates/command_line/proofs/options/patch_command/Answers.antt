use Rattle.std.proofs.Common.{ap₂, ◌∙◌}
use Rattle.std.proofs.lemmas.Result.{IfOk-weaker}
use Rattle.clap.specs.Words.{with_rule}
use Rattle.command_line.proofs.options.patch_command.Goals as goal

pub returns : goal.returns
returns c =
    let old = c.in_ok-arg.ensures.shape c.old.ensures.1 ∙ ap₂ with_rule c.bare.ensures c.old.ensures.0 in
    let new = c.in_ok-arg-2.ensures.shape c.new.ensures.1 ∙ ap₂ with_rule old c.new.ensures.0 in
    let mapping = c.in_ok-arg-3.ensures.shape c.mapping.ensures.1 ∙ ap₂ with_rule new c.mapping.ensures.0 in
    IfOk-weaker c.arg-4.result _ _ (λ r added. added.shape c.output.ensures.1 ∙ ap₂ with_rule mapping c.output.ensures.0) c.arg-4.ensures

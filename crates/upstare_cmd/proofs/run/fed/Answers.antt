use Rattle.std.specs.Prelude.{IfOk}
use Rattle.upstare_cmd.specs.Parts as parts
use Rattle.answers.specs.Views as view
use Rattle.command_line.specs.Views as words_view
use Rattle.upstare_cmd.proofs.Running.{of_begun}
use Rattle.upstare_cmd.proofs.run.fed.Goals as goal

pub returns : goal.returns
returns c =
    let run = words_view.run c.args.words.now in
    of_begun _ _ (λ k. IfOk c.planned.result (λ a. parts.Plans k run run.schedule c.args.texts.now (view.answer a))) c.in_ok-world.ensures c.planned.ensures

use Rattle.upstare_cmd.specs.Parts as parts
use Rattle.command_line.specs.Views as words_view
use Rattle.upstare_cmd.proofs.Refusing.{turned_down}
use Rattle.upstare_cmd.proofs.run.source_meant.Goals as goal

pub returns-in-Err : goal.returns-in-Err
returns-in-Err c = turned_down _ _ (λ a p. parts.ProgramMeans (words_view.run c.args.words.now) c.args.source.now c.args.texts.now p a) _ _ c.in-Err.ensures.verdict c.turned_down.ensures

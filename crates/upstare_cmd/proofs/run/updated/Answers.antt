use Rattle.std.specs.Prelude.{Some}
use Rattle.command_line.specs.Views as words_view
use Rattle.upstare_cmd.specs.Parts as parts
use Rattle.upstare_cmd.proofs.Running.{file_turned_down}
use Rattle.upstare_cmd.proofs.run.updated.Goals as goal

pub returns-in-Err : goal.returns-in-Err
returns-in-Err c =
    file_turned_down c.args.update.now.patch.now c.args.file.now
    (λ p a. parts.OfOld c.args.update.now.patch.now c.args.source.now p
    (parts.ArmedMeans (words_view.run c.args.words.now) c.args.program (Some (record { patch = p; at = c.args.update.now.at })) c.args.texts.now a) a)
    c.in-Err.why c.file_turned_down.result c.in-Err.ensures c.file_turned_down.ensures

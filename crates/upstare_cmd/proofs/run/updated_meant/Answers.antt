use Rattle.std.specs.Prelude.{Some}
use Rattle.command_line.specs.Views as words_view
use Rattle.upstare_cmd.specs.Parts as parts
use Rattle.upstare_cmd.proofs.Running.{of_first}
use Rattle.upstare_cmd.proofs.run.updated_meant.Goals as goal

pub returns : goal.returns
returns c =
    of_first
    (λ ts a. parts.WithUpdate (Some (record { patch = c.args.update.now.patch.now; at = c.args.update.now.at })) c.args.source.now ts
    (λ armed rest. parts.ArmedMeans (words_view.run c.args.words.now) c.args.program armed rest a) a)
    _ _ _ _ _ c.in-Some.ensures.cases.0 c.as_bytes.ensures c.updated.ensures

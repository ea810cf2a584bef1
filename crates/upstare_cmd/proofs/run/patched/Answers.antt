use Rattle.std.proofs.Common.{refl}
use Rattle.std.specs.Prelude.{Some}
use Rattle.command_line.specs.Views as words_view
use Rattle.upstare_cmd.specs.Parts as parts
use Rattle.upstare_cmd.proofs.Running.{of_same, of_another}
use Rattle.upstare_cmd.proofs.run.patched.Goals as goal

pub returns-in-None : goal.returns-in-None
returns-in-None c =
    of_same c.args.update.now.patch.now c.args.source.now c.as_bytes.result.now c.args.patch c.into_patch-patch.result
    (λ p a. parts.ArmedMeans (words_view.run c.args.words.now) c.args.program (Some (record { patch = p; at = c.args.update.now.at })) c.args.texts.now a)
    c.program_meant.result c.into_patch-patch.ensures.same c.as_bytes.ensures (c.in-None.ensures.same refl) c.program_meant.ensures

pub returns-in-Some : goal.returns-in-Some
returns-in-Some c =
    of_another c.args.update.now.patch.now c.args.source.now c.as_bytes.result.now c.as_bytes-old.result.now c.args.patch c.into_patch-patch.result
    (λ p a. parts.ArmedMeans (words_view.run c.args.words.now) c.args.program (Some (record { patch = p; at = c.args.update.now.at })) c.args.texts.now a)
    c.in-Some.at c.patch_differs.result c.into_patch-patch.ensures.same c.as_bytes.ensures c.as_bytes-old.ensures (c.in-Some.ensures.differ c.in-Some.at refl).0 c.patch_differs.ensures

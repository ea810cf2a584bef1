use Rattle.std.proofs.Common.{subst}
use Rattle.upstare_cmd.specs.Asked as asks
use Rattle.answers.specs.Views as view
use Rattle.upstare_cmd.specs.Views as inner
use Rattle.command_line.specs.Views as words_view
use Rattle.upstare_cmd.proofs.Patching.{patch_put, patch_refused}
use Rattle.upstare_cmd.proofs.patch.texts_meant.Goals as goal

pub returns-in-Patch : goal.returns-in-Patch
returns-in-Patch c =
    let words = words_view.patch c.args.words.now in
    patch_put words c.args.old_text.now c.args.new_text.now c.args.map_text.now c.in-Patch.patch c.made_meant.result
    (subst (λ j. inner.IsOfTexts (asks.names_of words) c.args.old_text.now c.args.new_text.now c.args.map_text.now j) c.in-Patch.is c.in_ok-patch.ensures)
    c.made_meant.ensures

pub returns-in-Refused : goal.returns-in-Refused
returns-in-Refused c =
    let words = words_view.patch c.args.words.now in
    patch_refused words c.args.old_text.now c.args.new_text.now c.args.map_text.now (view.answer c.in-Refused.answer)
    (subst (λ j. inner.IsOfTexts (asks.names_of words) c.args.old_text.now c.args.new_text.now c.args.map_text.now j) c.in-Refused.is c.in_ok-patch.ensures)

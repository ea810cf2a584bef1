use Rattle.upstare_cmd.specs.Meaning as meaning
use Rattle.upstare_cmd.specs.Parts as parts
use Rattle.answers.specs.Views as view
use Rattle.upstare_cmd.specs.Views as inner
use Rattle.upstare_cmd.proofs.Judging.{of_old}
use Rattle.upstare_cmd.proofs.Refusing.{judged}
use Rattle.upstare_cmd.proofs.judged.texts_judged.Goals as goal

pub returns-in-Ok : goal.returns-in-Ok
returns-in-Ok c =
    of_old (inner.names c.args.names.now) c.args.old_text.now c.in-Ok.old c.args.new_text.now c.args.map_text.now c.new_judged.result
    c.in-Ok.ensures.verdict c.new_judged.ensures

pub returns-in_ok-turned_down-in-Err : goal.returns-in_ok-turned_down-in-Err
returns-in_ok-turned_down-in-Err c =
    let names = inner.names c.args.names.now in
    judged names.old c.args.old_text.now
    (λ a p. parts.OfSource names.new c.args.new_text.now
    (λ q. parts.OfMapping names.map c.args.map_text.now (λ m. inner.TurnsDownEntries names.map (meaning.entries_of p q m) a) a) a)
    c.in-Err.why (view.answer c.in_ok-turned_down-in-Err.field-0) c.in-Err.ensures.verdict c.in_ok-turned_down-in-Err.ensures

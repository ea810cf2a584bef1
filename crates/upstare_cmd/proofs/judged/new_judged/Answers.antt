use Rattle.upstare_cmd.specs.Meaning as meaning
use Rattle.upstare_cmd.specs.Parts as parts
use Rattle.answers.specs.Views as view
use Rattle.upstare_cmd.specs.Views as inner
use Rattle.upstare_cmd.proofs.Judging.{of_new}
use Rattle.upstare_cmd.proofs.Refusing.{judged}
use Rattle.upstare_cmd.proofs.judged.new_judged.Goals as goal

pub returns-in-Ok : goal.returns-in-Ok
returns-in-Ok c =
    of_new (inner.names c.args.names.now) c.args.old_text.now c.args.old c.args.new_text.now c.in-Ok.new c.args.map_text.now c.mapping_judged.result
    c.in-Ok.ensures.verdict c.mapping_judged.ensures

pub returns-in_ok-turned_down-in-Err : goal.returns-in_ok-turned_down-in-Err
returns-in_ok-turned_down-in-Err c =
    let names = inner.names c.args.names.now in
    judged names.new c.args.new_text.now
    (λ a q. parts.OfMapping names.map c.args.map_text.now (λ m. inner.TurnsDownEntries names.map (meaning.entries_of c.args.old q m) a) a)
    c.in-Err.why (view.answer c.in_ok-turned_down-in-Err.field-0) c.in-Err.ensures.verdict c.in_ok-turned_down-in-Err.ensures

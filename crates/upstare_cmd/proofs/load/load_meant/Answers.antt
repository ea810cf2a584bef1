use Rattle.std.proofs.Common.{◌∙◌, subst}
use Rattle.std.proofs.lemmas.Result.{IfOk-weaker}
use Rattle.upstare_cmd.specs.Asked as asks
use Rattle.answers.specs.Views as view
use Rattle.upstare_cmd.specs.Views as inner
use Rattle.upstare_cmd.proofs.Loading.{accepted_means, of_load, of_refused_load}
use Rattle.upstare_cmd.proofs.load.load_meant.Goals as goal

pub returns-in-Patch : goal.returns-in-Patch
returns-in-Patch c =
    let old = c.as_bytes.result.now in
    let new = c.as_bytes-2.result.now in
    let text = c.as_bytes-3.result.now in
    IfOk-weaker c.sound_loaded.result _ _
    (λ a means. accepted_means c.a_source_has_one_verdict.ensures c.a_mapping_has_one_answer.ensures.mapping c.loads_are_accepted.ensures c.args.n c.requires.least c.requires.most (view.answer a) means)
    (of_load c.args.n old new text c.in-Patch.patch c.sound_loaded.result
    (c.as_bytes.ensures ∙ c.in_ok-old.ensures) (c.as_bytes-2.ensures ∙ c.in_ok-new.ensures) (c.as_bytes-3.ensures ∙ c.in_ok-map.ensures)
    (subst (λ j. inner.IsOfTexts asks.load_names old new text j) c.in-Patch.is c.in_ok-patch.ensures)
    c.sound_loaded.ensures)

pub returns : goal.returns
returns c =
    let old = c.as_bytes.result.now in
    let new = c.as_bytes-2.result.now in
    let text = c.as_bytes-3.result.now in
    let answer = view.answer c.in-Refused.answer in
    accepted_means c.a_source_has_one_verdict.ensures c.a_mapping_has_one_answer.ensures.mapping c.loads_are_accepted.ensures c.args.n c.requires.least c.requires.most answer
    (of_refused_load c.args.n old new text answer
    (c.as_bytes.ensures ∙ c.in_ok-old.ensures) (c.as_bytes-2.ensures ∙ c.in_ok-new.ensures) (c.as_bytes-3.ensures ∙ c.in_ok-map.ensures)
    (subst (λ j. inner.IsOfTexts asks.load_names old new text j) c.in-Refused.is c.in_ok-patch.ensures))

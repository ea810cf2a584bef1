use Rattle.patch_form.proofs.Answers.{one_framing, none_is_bad, no_short_is_bad, one_offset}
use Rattle.patch_form.proofs.laws.no_text_has_two_answers.Goals as goal

pub returns-clause-texts : goal.returns-clause-texts
returns-clause-texts c = one_framing

pub returns-clause-not_bad : goal.returns-clause-not_bad
returns-clause-not_bad c = none_is_bad

pub returns-clause-short : goal.returns-clause-short
returns-clause-short c = no_short_is_bad

pub returns-clause-offset : goal.returns-clause-offset
returns-clause-offset c = one_offset

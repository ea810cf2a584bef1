use Rattle.patch_form.proofs.Answers.{each_is_answered}
use Rattle.patch_form.proofs.laws.each_text_is_answered.Goals as goal

pub returns : goal.returns
returns c = each_is_answered

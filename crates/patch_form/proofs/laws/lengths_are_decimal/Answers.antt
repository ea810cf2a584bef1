use Rattle.patch_form.proofs.Numbers.{is_decimal}
use Rattle.patch_form.proofs.laws.lengths_are_decimal.Goals as goal

pub returns : goal.returns
returns c = is_decimal

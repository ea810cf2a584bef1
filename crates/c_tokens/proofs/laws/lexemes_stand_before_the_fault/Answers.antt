use Rattle.c_tokens.proofs.TextOrder.{in_text_order}
use Rattle.c_tokens.proofs.laws.lexemes_stand_before_the_fault.Goals as goal

pub returns : goal.returns
returns c = in_text_order

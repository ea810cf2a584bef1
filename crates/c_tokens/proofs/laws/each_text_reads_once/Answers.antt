use Rattle.c_tokens.proofs.ReadsOnce.{one_reading}
use Rattle.c_tokens.proofs.laws.each_text_reads_once.Goals as goal

pub returns : goal.returns
returns c = one_reading

use Rattle.c_tokens.proofs.ScansOnce.{one_scan}
use Rattle.c_tokens.proofs.laws.each_source_scans_once.Goals as goal

pub returns : goal.returns
returns c = one_scan

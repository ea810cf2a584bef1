use Rattle.c_reader.proofs.Fronts.{end_is}
use Rattle.c_reader.proofs.front.end_of.Goals as goal

pub returns-in-len1-up : goal.returns-in-len1-up
returns-in-len1-up c = end_is _ _ c.in-len1-up.len_at_least c.last-item.is

use Rattle.c_reader.proofs.NearestElse.{same_live}
use Rattle.c_reader.proofs.laws.nearest_if_changes_no_live_list.Goals as goal

pub returns : goal.returns
returns c = same_live

use Rattle.read_back.proofs.Kept.{mappings_keep}
use Rattle.read_back.proofs.laws.mappings_keep_limits.Goals as goal

pub returns : goal.returns
returns c = mappings_keep

use Rattle.state_laws.proofs.NoPatch.{without_patch}
use Rattle.state_laws.proofs.run_laws.a_refused_update_changes_nothing.Goals as goal

pub returns : goal.returns
returns c = without_patch

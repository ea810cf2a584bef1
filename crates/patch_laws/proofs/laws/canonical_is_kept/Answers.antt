use Rattle.patch_laws.proofs.Kept.{canonical_kept}
use Rattle.patch_laws.proofs.laws.canonical_is_kept.Goals as goal

pub returns : goal.returns
returns c = canonical_kept

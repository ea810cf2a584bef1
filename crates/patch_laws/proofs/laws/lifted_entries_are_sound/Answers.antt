use Rattle.patch_laws.proofs.LiftedSound.{lifted_entries_sound}
use Rattle.patch_laws.proofs.laws.lifted_entries_are_sound.Goals as goal

pub returns : goal.returns
returns c = lifted_entries_sound

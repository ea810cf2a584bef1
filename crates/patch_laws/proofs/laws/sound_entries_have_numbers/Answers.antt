use Rattle.patch_laws.proofs.AskedInOrder.{sound_numbers}
use Rattle.patch_laws.proofs.laws.sound_entries_have_numbers.Goals as goal

pub returns : goal.returns
returns c = sound_numbers

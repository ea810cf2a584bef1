use Rattle.target_laws.proofs.Sounds.{valid_stacks_are_sound}
use Rattle.target_laws.proofs.laws.valid_stacks_are_sound.Goals as goal

pub returns : goal.returns
returns c = valid_stacks_are_sound

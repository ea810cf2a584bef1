use Rattle.thread_machine.proofs.PlaceLemmas.{update_has_flag}
use Rattle.thread_machine.proofs.laws.an_update_place_has_a_flag.Goals as goal

pub returns : goal.returns
returns c = update_has_flag

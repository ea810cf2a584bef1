use Rattle.patch_file.proofs.Refusals.{of_map}
use Rattle.patch_file.proofs.reading.mapping_in.Goals as goal

pub returns-in-Err-clause-read : goal.returns-in-Err-clause-read
returns-in-Err-clause-read c = λ p q old new. of_map c.args.frame.now p q c.in-Err.why c.map_refused.result c.requires.placed old new c.in-Err.ensures.read c.map_refused.ensures

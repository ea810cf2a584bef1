use Rattle.patch_file.proofs.Refusals.{of_old}
use Rattle.patch_file.proofs.reading.old_program.Goals as goal

pub returns-in-Err-clause-read : goal.returns-in-Err-clause-read
returns-in-Err-clause-read c = of_old c.args.frame.now c.in-Err.why c.old_refused.result c.requires c.in-Err.ensures.verdict c.old_refused.ensures

use Rattle.patch_file.proofs.Refusals.{of_new}
use Rattle.patch_file.proofs.reading.new_program.Goals as goal

pub returns-in-Err-clause-read : goal.returns-in-Err-clause-read
returns-in-Err-clause-read c = λ p old. of_new c.args.frame.now p c.in-Err.why c.new_refused.result c.requires old c.in-Err.ensures.verdict c.new_refused.ensures

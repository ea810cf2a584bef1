use Rattle.patch_file.proofs.Refusals.{of_entry}
use Rattle.patch_file.proofs.reading.patch_made.Goals as goal

pub returns-in-Err : goal.returns-in-Err
returns-in-Err c = λ read. of_entry c.args.frame.now c.args.old c.args.new c.args.mapping.now c.in-Err.why c.entry_refused.result c.requires.placed read c.in-Err.ensures c.entry_refused.ensures

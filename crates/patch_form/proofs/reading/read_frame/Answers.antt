use Rattle.patch_form.proofs.Answers.{exact_framing, exact_short, exact_bad}
use Rattle.patch_form.proofs.reading.read_frame.Goals as goal

pub returns-clause-framing : goal.returns-clause-framing
returns-clause-framing c = exact_framing c.args.bytes.now c.find_frame.result c.find_frame.ensures

pub returns-clause-short : goal.returns-clause-short
returns-clause-short c = exact_short c.args.bytes.now c.find_frame.result c.find_frame.ensures

pub returns-clause-bad : goal.returns-clause-bad
returns-clause-bad c = exact_bad c.args.bytes.now c.find_frame.result c.find_frame.ensures

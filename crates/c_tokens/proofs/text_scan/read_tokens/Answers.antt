use Rattle.c_tokens.proofs.TextScanning.{clean_read, fault_read}
use Rattle.c_tokens.proofs.text_scan.read_tokens.Goals as goal

pub returns-in-None-clause-ok : goal.returns-in-None-clause-ok
returns-in-None-clause-ok c = clean_read c.args.bytes.now c.in-Ok.field-0 c.in-Ok.ensures c.in-None.is

pub returns-in-Some-clause-fault : goal.returns-in-Some-clause-fault
returns-in-Some-clause-fault c = fault_read c.args.bytes.now c.in-Ok.field-0 c.in-Some.why c.in-Ok.ensures c.in-Some.is

use Rattle.std.proofs.Common.{◌∙◌, ap}
use Rattle.c_tokens.specs.declared.lexeme.Scan.{Scan}
use Rattle.c_tokens.specs.Source.{scan}
use Rattle.c_reader.proofs.Formed.{answer_formed}
use Rattle.c_reader.proofs.Sources.{whole_answer}
use Rattle.c_reader.proofs.source.read_program.Goals as goal

pub returns-in-Ok-clause-answer : goal.returns-in-Ok-clause-answer
returns-in-Ok-clause-answer c =
    whole_answer c.args.bytes.now (scan c.as_slice.result.now c.in-Ok.field-0.fault) c.read_scan.result c.if-bytes.false
    (ap {B = Scan} (λ ls. scan ls c.in-Ok.field-0.fault) c.as_slice.ensures ∙ c.in-Ok.ensures.scan) c.read_scan.ensures

pub returns-in-Ok-clause-form : goal.returns-in-Ok-clause-form
returns-in-Ok-clause-form c = answer_formed c.args.bytes.now c.read_scan.result (returns-in-Ok-clause-answer c)

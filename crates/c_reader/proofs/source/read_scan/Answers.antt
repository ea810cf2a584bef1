use Rattle.std.proofs.Common.{ap}
use Rattle.c_tree.specs.declared.program.Program.{Program}
use Rattle.c_tokens.specs.Source.{scan}
use Rattle.c_reader.proofs.Outcomes.{at_case}
use Rattle.c_reader.proofs.Sources.{program_here, fault_behind, fault_here}
use Rattle.c_reader.proofs.source.read_scan.Goals as goal

pub returns-in-None : goal.returns-in-None
returns-in-None c =
    program_here (scan c.args.lexemes.now c.args.fault) _ _ _ (at_case _ _ _ _ c.in-Ok-Done.ensures c.in-Ok-Done.field-0-is) c.in-None.is
    (ap {A = Program} (λ p. record p { len = c.args.len }) c.pop_program-program.ensures.value)

pub returns-in-Ok-Done : goal.returns-in-Ok-Done
returns-in-Ok-Done c =
    fault_behind (scan c.args.lexemes.now c.args.fault) _ _ c.in-Some.why (at_case _ _ _ _ c.in-Ok-Done.ensures c.in-Ok-Done.field-0-is) c.in-Some.is

pub returns-in-Ok-Fault : goal.returns-in-Ok-Fault
returns-in-Ok-Fault c =
    fault_here (scan c.args.lexemes.now c.args.fault) _ _ _ _ (at_case _ _ _ _ c.in-Ok-Fault.ensures c.in-Ok-Fault.field-0-is)

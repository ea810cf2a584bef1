use Rattle.c_tokens.specs.Text.{scanned}
use Rattle.map_lang.proofs.Readings.{plain, start_fits, answer_at, mapping_here, fault_behind, fault_behind_cut, fault_at_end, fault_seen}
use Rattle.map_lang.proofs.reading.read_scan.Goals as goal

pub parse-requires : goal.parse-requires
parse-requires c = start_fits _ c.requires

pub returns-in-None : goal.returns-in-None
returns-in-None c =
    mapping_here c.args.begin.now (scanned (plain c.args.tokens.now) c.args.fault) _ _ c.requires
    (answer_at c.args.begin.now _ _ _ c.in-Ok-Done.ensures c.in-Ok-Done.field-0-is) c.in-None.is c.pop_mapping.ensures.value

pub returns-in-Ok-Done : goal.returns-in-Ok-Done
returns-in-Ok-Done c =
    fault_behind c.args.begin.now (scanned (plain c.args.tokens.now) c.args.fault) _ _ c.in-Some.why
    (answer_at c.args.begin.now _ _ _ c.in-Ok-Done.ensures c.in-Ok-Done.field-0-is) c.in-Some.is

pub returns-in-Ok-Fault : goal.returns-in-Ok-Fault
returns-in-Ok-Fault c = fault_seen c.args.begin.now c.args.tokens.now c.args.fault _ _ _ _ (answer_at c.args.begin.now _ _ _ c.in-Ok-Fault.ensures c.in-Ok-Fault.field-0-is)

pub returns-in-None-fault : goal.returns-in-None-fault
returns-in-None-fault c =
    fault_at_end c.args.begin.now (scanned (plain c.args.tokens.now) c.args.fault) _
    (answer_at c.args.begin.now _ _ _ c.in-Ok-CutShort.ensures c.in-Ok-CutShort.field-0-is) c.in-None-fault.is

pub returns-in-Ok-CutShort : goal.returns-in-Ok-CutShort
returns-in-Ok-CutShort c =
    fault_behind_cut c.args.begin.now (scanned (plain c.args.tokens.now) c.args.fault) _ c.in-Some-fault.why
    (answer_at c.args.begin.now _ _ _ c.in-Ok-CutShort.ensures c.in-Ok-CutShort.field-0-is) c.in-Some-fault.is

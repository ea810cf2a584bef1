use Rattle.c_check.proofs.FileLemmas.{second_is}
use Rattle.c_check.proofs.declared.with_name.Goals as goal

pub returns-clause-faults : goal.returns-clause-faults
returns-clause-faults c =
    second_is c.args.seen c.args.name.now c.is_some-is_second.result c.number.result c.args.first.now c.note_twice.new.first
    c.number.ensures c.is_some-is_second.ensures c.in_ok-note_twice.ensures

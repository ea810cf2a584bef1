use Rattle.std.proofs.Common.{refl, arith}
use Rattle.answers.proofs.Reading.{more_read, stops_here, begins_here, all_read, all_begun, then_reads}
use Rattle.answers.proofs.read.read_all.Goals as goal

pub returns-in-Err-clause-taken : goal.returns-in-Err-clause-taken
returns-in-Err-clause-taken g c =
    stops_here c.args.wanted.now c.loop-file.file-index _ _ _ _ _ _ _ (omega arith) refl c.loop-file.invariant (rw c.in-Err.is at c.in_ok-text.ensures.read)

pub loop-file-preserved : goal.loop-file-preserved
loop-file-preserved g c =
    more_read c.args.wanted.now c.loop-file.file-index _ _ _ _ _ _ _ _ (omega arith) refl c.in_ok-push-in-Ok.ensures.items c.loop-file.invariant
    c.in_ok-text.ensures.rereads (rw c.in-Ok.is at c.in_ok-text.ensures.read)

pub returns-clause-taken : goal.returns-clause-taken
returns-clause-taken g c = rw c.from_vec.ensures (all_read c.args.wanted.now c.loop-file.file-index _ _ _ (omega arith) c.loop-file.invariant)

pub returns-clause-begins : goal.returns-clause-begins
returns-clause-begins g c = all_begun c.args.wanted.now c.loop-file.file-index _ _ _ (omega arith) c.loop-file.invariant

pub returns-in_err-text-clause-begins : goal.returns-in_err-text-clause-begins
returns-in_err-text-clause-begins g c =
    begins_here c.args.wanted.now c.loop-file.file-index _ _ _ _ _ _ (omega arith) refl c.loop-file.invariant c.in_err-text.ensures.begins

pub returns-in_err-push-in-Ok-clause-begins : goal.returns-in_err-push-in-Ok-clause-begins
returns-in_err-push-in-Ok-clause-begins g c =
    begins_here c.args.wanted.now c.loop-file.file-index _ _ _ _ _ _ (omega arith) refl c.loop-file.invariant c.in_ok-text.ensures.begins

pub returns-in-Err-clause-begins : goal.returns-in-Err-clause-begins
returns-in-Err-clause-begins g c =
    begins_here c.args.wanted.now c.loop-file.file-index _ _ _ _ _ _ (omega arith) refl c.loop-file.invariant c.in_ok-text.ensures.begins

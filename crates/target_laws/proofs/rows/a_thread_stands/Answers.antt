use Rattle.target_laws.proofs.Threads.{thread_stands, counts_tell_nothing}
use Rattle.target_laws.proofs.rows.a_thread_stands.Goals as goal

pub returns-clause-stands : goal.returns-clause-stands
returns-clause-stands c = thread_stands

pub returns-clause-counts : goal.returns-clause-counts
returns-clause-counts c = counts_tell_nothing

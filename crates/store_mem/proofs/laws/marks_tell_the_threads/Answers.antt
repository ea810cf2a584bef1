use Rattle.store_mem.proofs.MarkLemmas.{counts-threads, counts-live, tells-live, spawns-thread}
use Rattle.store_mem.proofs.laws.marks_tell_the_threads.Goals as goal

pub returns-clause-made : goal.returns-clause-made
returns-clause-made c = counts-threads

pub returns-clause-count : goal.returns-clause-count
returns-clause-count c = counts-live

pub returns-clause-live : goal.returns-clause-live
returns-clause-live c = tells-live

pub returns-clause-spawn : goal.returns-clause-spawn
returns-clause-spawn c = spawns-thread

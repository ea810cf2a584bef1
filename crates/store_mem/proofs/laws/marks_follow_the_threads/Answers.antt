use Rattle.store_mem.proofs.KeepLemmas.{spawn-keeps, begin-keeps, end-keeps, forget-undoes}
use Rattle.store_mem.proofs.laws.marks_follow_the_threads.Goals as goal

pub returns-clause-spawn : goal.returns-clause-spawn
returns-clause-spawn c = spawn-keeps

pub returns-clause-begin : goal.returns-clause-begin
returns-clause-begin c = begin-keeps

pub returns-clause-end : goal.returns-clause-end
returns-clause-end c = end-keeps

pub returns-clause-forget : goal.returns-clause-forget
returns-clause-forget c = forget-undoes

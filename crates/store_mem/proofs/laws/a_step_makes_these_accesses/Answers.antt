use Rattle.store_mem.proofs.AccessLemmas.{reads-first, stores-first, sets-scalar, stores-element, stores-field, makes-object, gets-byte, puts-text, frees-object, locks-mutex, unlocks-mutex}
use Rattle.store_mem.proofs.laws.a_step_makes_these_accesses.Goals as goal

pub returns-clause-scalar : goal.returns-clause-scalar
returns-clause-scalar c = reads-first

pub returns-clause-first : goal.returns-clause-first
returns-clause-first c = stores-first

pub returns-clause-set : goal.returns-clause-set
returns-clause-set c = sets-scalar

pub returns-clause-element : goal.returns-clause-element
returns-clause-element c = stores-element

pub returns-clause-field : goal.returns-clause-field
returns-clause-field c = stores-field

pub returns-clause-new : goal.returns-clause-new
returns-clause-new c = makes-object

pub returns-clause-byte : goal.returns-clause-byte
returns-clause-byte c = gets-byte

pub returns-clause-text : goal.returns-clause-text
returns-clause-text c = puts-text

pub returns-clause-free : goal.returns-clause-free
returns-clause-free c = frees-object

pub returns-clause-lock : goal.returns-clause-lock
returns-clause-lock c = locks-mutex

pub returns-clause-unlock : goal.returns-clause-unlock
returns-clause-unlock c = unlocks-mutex

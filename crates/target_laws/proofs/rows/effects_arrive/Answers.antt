use Rattle.target_laws.proofs.Arriving.{effects_arrive, spawns_store, functions_begin, functions_arrive, callers_arrive, returns_arrive}
use Rattle.target_laws.proofs.rows.effects_arrive.Goals as goal

pub returns-clause-effects : goal.returns-clause-effects
returns-clause-effects c = effects_arrive

pub returns-clause-spawns : goal.returns-clause-spawns
returns-clause-spawns c = spawns_store

pub returns-clause-functions : goal.returns-clause-functions
returns-clause-functions c = functions_arrive

pub returns-clause-callers : goal.returns-clause-callers
returns-clause-callers c = callers_arrive

pub returns-clause-returns : goal.returns-clause-returns
returns-clause-returns c = returns_arrive

pub returns-clause-begins : goal.returns-clause-begins
returns-clause-begins c = functions_begin

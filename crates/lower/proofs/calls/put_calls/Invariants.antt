use Rattle.std.proofs.Common.{◌≡◌, ◌++◌}
use Rattle.target_code.specs.Code.{called_in, parts, spots}
use Rattle.lower.proofs.CallLemmas.{calls_from}
use Rattle.lower.proofs.calls.put_calls.Given as goal

-- what is put so far and what the rest has are the whole
abbrev pub invariant-each : goal.invariant-each
invariant-each l =
    (l.body.items ++ parts l.program (calls_from l.n l.row l.marks) ≡ l.initial.body.items ++ parts l.program (called_in 0 l.row l.marks))
    × (l.spots.items ++ spots l.program l.from (calls_from l.n l.row l.marks) ≡ l.initial.spots.items ++ spots l.program l.at (called_in 0 l.row l.marks))

use Rattle.theorems.proofs.runs.accepted_runs_stay_valid.Goals as goal

pub returns : goal.returns
returns c = λ source k events core accepted armed ran.
    (c.whole_runs_stay_valid.ensures k events core (c.accepted_programs_are_formed.ensures source k.program accepted) armed ran).1

use Rattle.upstare_cmd.proofs.call.carry.Goals as goal

pub returns-in-Ok-clause-played : goal.returns-in-Ok-clause-played
returns-in-Ok-clause-played g c = rw (c.in-Ok.is, c.code.ensures) c.finish.ensures.played

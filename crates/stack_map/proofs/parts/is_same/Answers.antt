use Rattle.std.proofs.Common.{arith}
use Rattle.std.proofs.lemmas.Grind.{common_steps}
use Rattle.std.proofs.lemmas.Option.{gets}
use Rattle.stack_map.proofs.KeptLemmas.{same_within, same_past}
use Rattle.stack_map.proofs.parts.is_same.Goals as goal

pub returns-in-Some : goal.returns-in-Some
returns-in-Some c =
    let m = c.args.m.now in
    same_within m.link.now m.same.now c.args.function c.in-Some.same.now m.unchanged (grind (arith, common_steps)) (grind (arith, common_steps, gets))

pub returns-in-None : goal.returns-in-None
returns-in-None c = let m = c.args.m.now in same_past m.link.now m.same.now c.args.function m.unchanged m.whole (grind (arith, common_steps))

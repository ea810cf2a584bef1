use Rattle.std.proofs.Common.{arith}
use Rattle.std.proofs.lemmas.Grind.{common_steps}
use Rattle.std.proofs.lemmas.Option.{gets}
use Rattle.state_transform.proofs.StructLemmas.{struct_within, struct_past}
use Rattle.state_transform.proofs.heap.struct_at.Goals as goal

pub returns-in-Some-Some : goal.returns-in-Some-Some
returns-in-Some-Some c =
    let m = c.args.m.now in
    struct_within m.link.now m.entries.now m.structs.now c.args.old _ m.maps (grind (arith, common_steps)) (grind (arith, common_steps, gets))

pub returns-in-Some-None : goal.returns-in-Some-None
returns-in-Some-None c =
    let m = c.args.m.now in
    struct_within m.link.now m.entries.now m.structs.now c.args.old _ m.maps (grind (arith, common_steps)) (grind (arith, common_steps, gets))

pub returns-in-None : goal.returns-in-None
returns-in-None c = let m = c.args.m.now in struct_past m.link.now m.entries.now m.structs.now c.args.old m.maps m.whole (grind (arith, common_steps))

use Rattle.std.proofs.Common.{length, ap, subst, arith}
use Rattle.thread_machine.specs.Room.{words_of_all, HaveFewSlots}
use Rattle.thread_machine.proofs.StackLemmas.{words_snoc, few_snoc}
use Rattle.thread_machine.proofs.stack.put_one.Goals as goal

pub put-requires-clause-few : goal.put-requires-clause-few
put-requires-clause-few g c =
    let few = few_snoc c.pop.new.self c.in-Some.last (subst HaveFewSlots c.in-Some.ensures.items c.requires.few) in
    let same = ap length c.as_slice.ensures in
    omega (arith, few.1, same)

pub put-requires-clause-room : goal.put-requires-clause-room
put-requires-clause-room g c =
    let all = ap words_of_all c.in-Some.ensures.items in
    let more = words_snoc c.pop.new.self c.in-Some.last in
    let same = ap length c.as_slice.ensures in
    omega (arith, all, more, same, c.requires.room)

pub returns-clause-few : goal.returns-clause-few
returns-clause-few g c = (few_snoc c.pop.new.self c.in-Some.last (subst HaveFewSlots c.in-Some.ensures.items c.requires.few)).0

pub returns-clause-room : goal.returns-clause-room
returns-clause-room g c =
    let all = ap words_of_all c.in-Some.ensures.items in
    let more = words_snoc c.pop.new.self c.in-Some.last in
    let same = ap length c.as_slice.ensures in
    omega (arith, all, more, same, c.requires.room, c.put.ensures.spare)

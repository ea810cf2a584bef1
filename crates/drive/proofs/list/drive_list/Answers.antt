use Rattle.std.proofs.Common.{refl}
use Rattle.drive.proofs.ListLemmas.{list_begins, list_refuses, list_takes_got}
use Rattle.drive.proofs.list.drive_list.Goals as goal

pub loop-i-init : goal.loop-i-init
loop-i-init c = list_begins c.args.world.now.settings c.args.clean c.args.listed.now.items c.args.world.now refl c.requires.single c.requires.new

pub loop-i-preserved : goal.loop-i-preserved
loop-i-preserved c =
    list_takes_got c.args.world.now.settings c.args.clean c.args.listed.now.items c.loop-i.i c.loop-i.world c.take_event.new.world c.in-Some.event c.in_ok-taken.taken
    c.loop-i.invariant c.in-Some.ensures c.if-not-taken.false c.in_ok-taken.ensures.taken

pub returns-then-not-taken-clause-answer : goal.returns-then-not-taken-clause-answer
returns-then-not-taken-clause-answer c =
    list_refuses c.args.world.now.settings c.args.clean c.args.listed.now.items c.loop-i.i c.loop-i.world c.take_event.new.world c.in-Some.event c.in_ok-taken.taken
    c.loop-i.invariant c.in-Some.ensures c.if-not-taken.true c.in_ok-taken.ensures.taken

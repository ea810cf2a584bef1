use Rattle.std.proofs.Common.{refl}
use Rattle.c_reader.proofs.Outcomes.{starts_at, steps_at, faults_at, reads_at, cut_at}
use Rattle.c_reader.proofs.run.parse.Goals as goal

pub loop-i-init : goal.loop-i-init
loop-i-init g c = starts_at _ _ c.new.result.items c.push_all.new.stack.items _ c.requires c.in_ok-push_all.ensures c.new.ensures.items c.new-2.ensures.items

pub returns-in-Some : goal.returns-in-Some
returns-in-Some g c = faults_at g.T.Readable.piece _ _ _ _ _ _ _ _ _ _ c.loop-i.invariant c.loop-i-test.true c.index-tokens-i.is c.in_ok-meet.ensures c.in-Some.is

pub loop-i-preserved : goal.loop-i-preserved
loop-i-preserved g c = steps_at g.T.Readable.piece _ _ _ _ _ _ _ _ _ c.loop-i.invariant c.loop-i-test.true c.index-tokens-i.is c.in_ok-meet.ensures c.in-None.is

pub returns-then-branch : goal.returns-then-branch
returns-then-branch g c = reads_at g.T.Readable.piece _ _ _ _ _ _ _ _ c.loop-i.invariant c.loop-i-test.false c.in_ok-finish.ensures c.if-branch.true refl

pub returns-else-branch : goal.returns-else-branch
returns-else-branch g c = cut_at g.T.Readable.piece _ _ _ _ _ _ _ c.loop-i.invariant c.loop-i-test.false c.in_ok-finish.ensures c.if-branch.false

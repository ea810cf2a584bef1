use Rattle.c_tree.specs.Scope.{named}
use Rattle.c_tree.specs.declared.scope.Meaning.TheVariants as m
use Rattle.name_index.proofs.NameLemmas.{named_more}
use Rattle.name_index.proofs.names.add_mutexes.Goals as goal

pub loop-i-preserved : goal.loop-i-preserved
loop-i-preserved c =
    named_more (λ x. named x.1 (m.Mutex x.0)) c.args.mutexes.now c.loop-i.i c.in_ok-narrowed.field-0 c.index-mutexes-i.result
    c.args.names.now.items c.loop-i.names.items c.add.new.names.items
    c.loop-i-test.true c.index-mutexes-i.is c.in_ok-narrowed.ensures c.loop-i.invariant c.in_ok-add.ensures

use Rattle.stack_map.proofs.SubjectLemmas.{about_nothing, about_before, about_now}
use Rattle.std.proofs.Common.{sym}
use Rattle.stack_map.proofs.entries.add.Goals as goal

pub returns-in-None : goal.returns-in-None
returns-in-None c = λ before gives at. about_nothing c.args.declared.now before c.args.entry.now c.in-None.ensures gives

pub returns-in-Some-get : goal.returns-in-Some-get
returns-in-Some-get c = λ before gives at.
    about_before c.args.declared.now before c.args.entry.now c.in-Some.subject _ c.in-Some.ensures gives (sym c.in-Some-get.ensures.value)

pub returns-in_ok-insert-in-None-get : goal.returns-in_ok-insert-in-None-get
returns-in_ok-insert-in-None-get c = λ before gives at.
    about_now c.args.declared.now c.insert.new.self before c.args.entry.now c.in-Some.subject c.args.at c.in-Some.ensures gives (sym c.in-None-get.ensures.value) at
    c.in_ok-insert-in-None-get.ensures.updates.0

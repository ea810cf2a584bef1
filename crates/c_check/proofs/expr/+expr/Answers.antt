use Rattle.std.proofs.Common.{◌++◌, sym, ap, ◌∙◌}
use Rattle.c_tree.specs.declared.program.ExprKind.TheVariants as e
use Rattle.c_check.specs.Inner.{around}
use Rattle.c_check.specs.Words.{typed, found, member, selected, valued}
use Rattle.c_check.specs.declared.types.Test.TheVariants as test
use Rattle.c_check.proofs.NoteLemmas.{told_by, noted_by, noted_after}
use Rattle.c_check.proofs.ExprLemmas.{typed-Index, typed-Field, typed-Malloc, typed-Create, typed-Lock, typed-Unlock, found-Index, found-Field, found-Malloc, found-Create, found-Lock, found-Unlock, arguments_step, arguments_end}
use Rattle.c_check.proofs.expr.+expr.Goals as goal

pub all_arguments-loop-arg-preserved : goal.all_arguments-loop-arg-preserved
all_arguments-loop-arg-preserved t c =
    c.loop-arg.invariant
    ∙ arguments_step (around c.args.file.now c.args.locals.now) c.loop-arg.left.now c.in_ok-left.left.now c.args.args.now c.loop-arg.arg-index c.arg-item.result
    c.loop-arg.first c.argument.new.first c.loop-arg-test.true c.arg-item.is c.in_ok-left.ensures.faults c.in_ok-left.ensures.rest

pub all_arguments-returns : goal.all_arguments-returns
all_arguments-returns t c =
    sym (c.loop-arg.invariant
    ∙ arguments_end (around c.args.file.now c.args.locals.now) c.loop-arg.left.now c.args.args.now c.loop-arg.arg-index c.loop-arg.first c.loop-arg-test.false)

pub expr-returns-in-Name-clause-ty : goal.expr-returns-in-Name-clause-ty
expr-returns-in-Name-clause-ty t c =
    let sc = around c.args.file.now c.args.locals.now in
    told_by c.value_of_name.result (ap (typed sc) (c.in-Name.is)) c.value_of_name.ensures.ty

pub expr-returns-in-Name-clause-faults : goal.expr-returns-in-Name-clause-faults
expr-returns-in-Name-clause-faults t c =
    let sc = around c.args.file.now c.args.locals.now in
    let at = c.args.x.now.at in
    noted_by c.value_of_name.result c.args.first.now c.value_of_name.new.first (ap (found sc at) (c.in-Name.is)) c.value_of_name.ensures.faults

pub expr-returns-in-Cast-clause-ty : goal.expr-returns-in-Cast-clause-ty
expr-returns-in-Cast-clause-ty t c =
    let sc = around c.args.file.now c.args.locals.now in
    told_by c.cast.result (ap (typed sc) (c.in-Cast.is ∙ ap (e.Cast c.in-Cast.to) (sym c.get-in-Cast.ensures))) c.cast.ensures.ty

pub expr-returns-in-Cast-clause-faults : goal.expr-returns-in-Cast-clause-faults
expr-returns-in-Cast-clause-faults t c =
    let sc = around c.args.file.now c.args.locals.now in
    let at = c.args.x.now.at in
    noted_by c.cast.result c.args.first.now c.cast.new.first (ap (found sc at) (c.in-Cast.is ∙ ap (e.Cast c.in-Cast.to) (sym c.get-in-Cast.ensures))) c.cast.ensures.faults

pub expr-returns-in-Call-clause-ty : goal.expr-returns-in-Call-clause-ty
expr-returns-in-Call-clause-ty t c =
    let sc = around c.args.file.now c.args.locals.now in
    told_by c.call.result (ap (typed sc) (c.in-Call.is ∙ ap (e.Call c.in-Call.name) (sym c.as_slice.ensures))) c.call.ensures.ty

pub expr-returns-in-Call-clause-faults : goal.expr-returns-in-Call-clause-faults
expr-returns-in-Call-clause-faults t c =
    let sc = around c.args.file.now c.args.locals.now in
    let at = c.args.x.now.at in
    noted_by c.call.result c.args.first.now c.call.new.first (ap (found sc at) (c.in-Call.is ∙ ap (e.Call c.in-Call.name) (sym c.as_slice.ensures))) c.call.ensures.faults

pub expr-returns-in-Malloc-clause-ty : goal.expr-returns-in-Malloc-clause-ty
expr-returns-in-Malloc-clause-ty t c =
    let sc = around c.args.file.now c.args.locals.now in
    told_by c.object_of.result (ap (typed sc) c.in-Malloc.is ∙ typed-Malloc sc c.in-Malloc.name) c.object_of.ensures.ty

pub expr-returns-in-Malloc-clause-faults : goal.expr-returns-in-Malloc-clause-faults
expr-returns-in-Malloc-clause-faults t c =
    let sc = around c.args.file.now c.args.locals.now in
    let at = c.args.x.now.at in
    noted_by c.object_of.result c.args.first.now c.object_of.new.first (ap (found sc at) c.in-Malloc.is ∙ found-Malloc sc at c.in-Malloc.name) c.object_of.ensures.faults

pub expr-returns-in-Lock-clause-ty : goal.expr-returns-in-Lock-clause-ty
expr-returns-in-Lock-clause-ty t c =
    let sc = around c.args.file.now c.args.locals.now in
    told_by c.lock.result (ap (typed sc) c.in-Lock.is ∙ typed-Lock sc c.in-Lock.name) c.lock.ensures.ty

pub expr-returns-in-Lock-clause-faults : goal.expr-returns-in-Lock-clause-faults
expr-returns-in-Lock-clause-faults t c =
    let sc = around c.args.file.now c.args.locals.now in
    let at = c.args.x.now.at in
    noted_by c.lock.result c.args.first.now c.lock.new.first (ap (found sc at) c.in-Lock.is ∙ found-Lock sc at c.in-Lock.name) c.lock.ensures.faults

pub expr-returns-in-Unlock-clause-ty : goal.expr-returns-in-Unlock-clause-ty
expr-returns-in-Unlock-clause-ty t c =
    let sc = around c.args.file.now c.args.locals.now in
    told_by c.lock-in-Unlock.result (ap (typed sc) c.in-Unlock.is ∙ typed-Unlock sc c.in-Unlock.name) c.lock-in-Unlock.ensures.ty

pub expr-returns-in-Unlock-clause-faults : goal.expr-returns-in-Unlock-clause-faults
expr-returns-in-Unlock-clause-faults t c =
    let sc = around c.args.file.now c.args.locals.now in
    let at = c.args.x.now.at in
    noted_by c.lock-in-Unlock.result c.args.first.now c.lock-in-Unlock.new.first (ap (found sc at) c.in-Unlock.is ∙ found-Unlock sc at c.in-Unlock.name) c.lock-in-Unlock.ensures.faults

pub expr-returns-in_ok-value-in-Index-clause-ty : goal.expr-returns-in_ok-value-in-Index-clause-ty
expr-returns-in_ok-value-in-Index-clause-ty t c =
    let sc = around c.args.file.now c.args.locals.now in
    told_by c.element_of.result (ap (typed sc) (c.in-Index.is ∙ ap (e.Index c.in-Index.name) (sym c.get.ensures)) ∙ typed-Index sc c.in-Index.name c.get.result.now) c.element_of.ensures.ty

pub expr-returns-in_ok-value-in-Index-clause-faults : goal.expr-returns-in_ok-value-in-Index-clause-faults
expr-returns-in_ok-value-in-Index-clause-faults t c =
    let sc = around c.args.file.now c.args.locals.now in
    let at = c.args.x.now.at in
    noted_after _ _ c.element_of.result c.args.first.now c.value.new.first c.element_of.new.first (ap (found sc at) (c.in-Index.is ∙ ap (e.Index c.in-Index.name) (sym c.get.ensures)) ∙ found-Index sc at c.in-Index.name c.get.result.now) c.in_ok-value-in-Index.ensures.faults c.element_of.ensures.faults

pub expr-returns-in_ok-owner-in-Field-clause-ty : goal.expr-returns-in_ok-owner-in-Field-clause-ty
expr-returns-in_ok-owner-in-Field-clause-ty t c =
    let sc = around c.args.file.now c.args.locals.now in
    told_by c.field_of.result (ap (typed sc) (c.in-Field.is ∙ ap (λ y. e.Field y c.in-Field.name) (sym c.get-in-Field.ensures)) ∙ typed-Field sc c.get-in-Field.result.now c.in-Field.name ∙ ap (λ o. member sc.program o c.in-Field.name) (sym c.in_ok-owner-in-Field.ensures.ty)) c.field_of.ensures.ty

pub expr-returns-in_ok-owner-in-Field-clause-faults : goal.expr-returns-in_ok-owner-in-Field-clause-faults
expr-returns-in_ok-owner-in-Field-clause-faults t c =
    let sc = around c.args.file.now c.args.locals.now in
    let at = c.args.x.now.at in
    noted_after _ _ c.field_of.result c.args.first.now c.value-in-Field.new.first c.field_of.new.first (ap (found sc at) (c.in-Field.is ∙ ap (λ y. e.Field y c.in-Field.name) (sym c.get-in-Field.ensures)) ∙ found-Field sc at c.get-in-Field.result.now c.in-Field.name ∙ ap (λ o. valued sc test.Anything c.get-in-Field.result.now ++ selected sc.program at o c.in-Field.name) (sym c.in_ok-owner-in-Field.ensures.ty)) c.in_ok-owner-in-Field.ensures.faults c.field_of.ensures.faults

use Rattle.std.proofs.Common.{◌+◌, ◌∷◌, ◌++◌, Some, [], drop, pos, true, sym, ap, subst, refl, ◌∙◌}
use Rattle.std.specs.Prelude.{IfOk, unwrap_or}
use Rattle.std.proofs.lemmas.List.{drop_more, drop_all}
use Rattle.c_tree.specs.declared.lifted.LExpr as l
use Rattle.c_tree.specs.declared.lifted.LStmt.TheVariants as s
use Rattle.c_tree.specs.declared.ty.Ty.TheVariants as ty
use Rattle.c_tree.specs.declared.program.ExprKind as e
use Rattle.c_tree.specs.Scope.{meaning, routine}
use Rattle.c_tree.specs.Types.{name_type, result_type}
use Rattle.c_tree.specs.Typing.{parameters}
use Rattle.c_tree.specs.Lifting.{literal, named, function_number, fitted_first}
use Rattle.c_lift.specs.Around.{around}
use Rattle.c_lift.specs.Taking.{Took, take_list}
use Rattle.c_lift.proofs.OutcomeLemmas.{if_ok, if_ok2}
use Rattle.c_lift.proofs.TakeLemmas.{take-Num, take-Null, take-Eof, take-Slot, take-Name, take-Join, take-Call, took_leaf, took_index, took_field, took_un, took_cast, took_operator, took_start, took_zero, took_temporary, whole_more, whole_all}
use Rattle.c_lift.proofs.take.+take.Goals as goal

pub take-returns-in-Null : goal.take-returns-in-Null
take-returns-in-Null t c =
    took_leaf e.Null l.Null c.in-Null.is (take-Null (around c.args.at.now) c.args.made.now.items) (ap (λ y. y.ty) c.null_pointer.ensures) (ap (λ y. y.value) c.null_pointer.ensures)

pub take-returns-in-Eof : goal.take-returns-in-Eof
take-returns-in-Eof t c =
    if_ok c.end_of_file.result c.end_of_file.ensures (λ r h. took_leaf e.Eof (literal true (pos 1)) c.in-Eof.is (take-Eof (around c.args.at.now) c.args.made.now.items) (ap (λ y. y.ty) h) (ap (λ y. y.value) h))

pub take-returns-in-Slot : goal.take-returns-in-Slot
take-returns-in-Slot t c =
    took_leaf (e.Slot c.in-Slot.field-0 c.in-Slot.field-1) l.Null c.in-Slot.is (take-Slot (around c.args.at.now) c.args.made.now.items c.in-Slot.field-0 c.in-Slot.field-1)
    (ap (λ y. y.ty) c.untold.ensures) (ap (λ y. y.value) c.untold.ensures)

pub take-returns-in-Name : goal.take-returns-in-Name
take-returns-in-Name t c =
    let w = around c.args.at.now in
    let name = c.in-Name.name in
    if_ok c.name_value.result c.name_value.ensures
    (λ r h. took_leaf (e.Name name) (named w.scope.program (meaning w.scope name)) c.in-Name.is (take-Name w c.args.made.now.items name) (ap (λ y. y.ty) h) (ap (λ y. y.value) h))

pub take-returns-in_ok-take-in-Index : goal.take-returns-in_ok-take-in-Index
take-returns-in_ok-take-in-Index t c =
    if_ok2 c.element.result c.element.ensures.value c.element.ensures.ty
    (λ r value told. took_index c.in-Index.name c.in-Index.index c.in-Index.is (ap (λ y. y.kind) c.get.ensures) c.in_ok-take-in-Index.ensures value told)

pub take-returns-in_ok-take-in-Field : goal.take-returns-in_ok-take-in-Field
take-returns-in_ok-take-in-Field t c =
    if_ok2 c.member.result c.member.ensures.value c.member.ensures.ty
    (λ r value told. took_field c.in-Field.base c.in-Field.name c.in-Field.is (ap (λ y. y.kind) c.get-in-Field.ensures) c.in_ok-take-in-Field.ensures value told)

pub take-returns-in_ok-take-in-Un : goal.take-returns-in_ok-take-in-Un
take-returns-in_ok-take-in-Un t c =
    if_ok c.unary.result c.unary.ensures
    (λ r h. took_un c.in-Un.op c.in-Un.operand c.in-Un.is (ap (λ y. y.kind) c.get-in-Un.ensures) c.in_ok-take-in-Un.ensures (ap (λ y. y.value) h) (ap (λ y. y.ty) h))

pub take-returns-in_ok-b-in-Bin : goal.take-returns-in_ok-b-in-Bin
take-returns-in_ok-b-in-Bin t c =
    let a = c.get-left.result.now in
    let b = c.get-right.result.now in
    if_ok c.operator.result c.operator.ensures
    (λ r h. took_operator c.in-Bin.op a b (c.in-Bin.is ∙ (ap (λ y. e.Bin c.in-Bin.op y c.in-Bin.right) (sym c.get-left.ensures) ∙ ap (e.Bin c.in-Bin.op a) (sym c.get-right.ensures)))
    c.in_ok-a-in-Bin.ensures c.in_ok-slot-in-Bin.ensures.slot c.in_ok-slot-in-Bin.ensures.made
    (subst (λ xs. Took (around c.args.at.now) b.kind xs c.deciding_slot.new.made.items c.in_ok-b-in-Bin.b.value c.in_ok-b-in-Bin.b.ty c.take-in-Bin-2.new.calls.items c.take-in-Bin-2.new.made.items)
    c.new-more.ensures.items c.in_ok-b-in-Bin.ensures) h)

pub take-returns-in_ok-take-in-Cast : goal.take-returns-in_ok-take-in-Cast
take-returns-in_ok-take-in-Cast t c =
    if_ok c.cast.result c.cast.ensures
    (λ r h. took_cast c.in-Cast.to c.in-Cast.operand c.in-Cast.is (ap (λ y. y.kind) c.get-in-Cast.ensures) c.in_ok-take-in-Cast.ensures (ap (λ y. y.value) h) (ap (λ y. y.ty) h))

pub take-returns-in_ok-value-in-Create : goal.take-returns-in_ok-value-in-Create
take-returns-in_ok-value-in-Create t c =
    if_ok2 c.start.result c.start.ensures.calls c.start.ensures.value
    (λ r added h. took_start c.in-Create.dest c.in-Create.name c.get-arg.result.now
    (c.in-Create.is ∙ ap (e.Create c.in-Create.dest c.in-Create.name) (sym c.get-arg.ensures)) (ap (λ y. y.kind) c.get-in-Create.ensures) refl
    c.in_ok-dest-in-Create.ensures c.in_ok-value-in-Create.ensures added (ap (λ y. y.value) h) (ap (λ y. y.ty) h))

pub take-returns-in_ok-take-in-Join : goal.take-returns-in_ok-take-in-Join
take-returns-in_ok-take-in-Join t c =
    let w = around c.args.at.now in
    let x = c.get-in-Join.result.now in
    if_ok2 c.join.result c.join.ensures.calls c.join.ensures.value
    (λ r added h. took_zero (e.Join x) _ _ _ (c.in-Join.is ∙ ap e.Join (sym c.get-in-Join.ensures)) (take-Join w c.args.made.now.items x) (ap (λ y. y.ty) h) (ap (λ y. y.value) h)
    c.in_ok-take-in-Join.ensures.added (added ∙ ap (λ v. c.take-in-Join.new.calls.items ++ s.Join v ∷ []) c.in_ok-take-in-Join.ensures.left) c.in_ok-take-in-Join.ensures.all)

pub take_arguments-loop-arg-preserved : goal.take_arguments-loop-arg-preserved
take_arguments-loop-arg-preserved t c =
    let i = c.loop-arg.arg-index in
    whole_more c.arg-item.result (drop (i + 1) c.args.args.now) _ (drop_more c.args.args.now i c.arg-item.result c.loop-arg-test.true ∙ ap (λ x. x ∷ drop (i + 1) c.args.args.now) (sym c.arg-item.is))
    refl c.loop-arg.invariant c.in_ok-taken.ensures (c.fitted_first.ensures ∙ ap (fitted_first (around c.args.at.now).scope c.loop-arg.left.now c.arg-item.result.kind) c.into_value.ensures) c.in_ok-add_value.ensures c.rest_of-left.ensures

pub take_arguments-returns : goal.take_arguments-returns
take_arguments-returns t c = whole_all c.args.args.now _ (drop_all c.loop-arg.arg-index c.args.args.now c.loop-arg-test.false) c.loop-arg.invariant

pub take_call-returns : goal.take_call-returns
take_call-returns t c =
    let w = around c.args.at.now in
    let name = c.args.name.now in
    let f = routine w.scope.program (meaning w.scope name) in
    let callee = c.routine-callee.ensures ∙ (ap (λ p. routine p c.meaning.result) c.program.ensures ∙ ap (routine w.scope.program) c.meaning.ensures) in
    let qs = c.parameters.ensures ∙ ap parameters callee in
    let told = c.in_ok-ty.ensures ∙ ap result_type callee in
    let all = take_list w c.args.made.now.items (parameters f) c.args.args.now in
    let taken = ap (λ q. take_list w c.args.made.now.items q c.args.args.now) qs in
    let calls1 = c.take_arguments.new.calls.items in
    took_temporary (e.Call name c.args.args.now) all.calls all.made _ (unwrap_or (result_type f) ty.Int) (λ k. s.Call (Some k) (function_number w.scope.program name) all.values) c.in_ok-k.k
    refl (take-Call w c.args.made.now.items name c.args.args.now) told refl (c.in_ok-values.ensures.added ∙ ap (λ y. c.args.calls.now.items ++ y.calls) taken)
    (c.in_ok-values.ensures.all ∙ ap (λ y. y.made) taken) (c.in_ok-type_or_int.ensures ∙ ap (λ o. unwrap_or o ty.Int) told) c.in_ok-k.ensures.slot c.in_ok-k.ensures.made
    (c.in_ok-add_call.ensures ∙ (ap (λ n. calls1 ++ s.Call (Some c.in_ok-k.k) n c.from_vec.result ∷ []) c.function_number-function.ensures
    ∙ ap (λ v. calls1 ++ s.Call (Some c.in_ok-k.k) (function_number w.scope.program name) v ∷ []) (c.from_vec.ensures ∙ (c.in_ok-values.ensures.left ∙ ap (λ y. y.values) taken))))

pub take-returns-in-Num : goal.take-returns-in-Num
take-returns-in-Num t c =
    took_leaf (e.Num c.in-Num.n) (l.Num c.in-Num.n) c.in-Num.is (take-Num (around c.args.at.now) c.args.made.now.items c.in-Num.n)
    (ap (λ y. y.ty) c.literal_value.ensures) (ap (λ y. y.value) c.literal_value.ensures)

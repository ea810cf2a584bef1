use Rattle.std.proofs.Common.{◌+◌, ◌∷◌, ◌++◌, [], take, drop, sym, ap, subst, refl, ◌∙◌}
use Rattle.std.proofs.lemmas.List.{drop_more, drop_all, append-nil}
use Rattle.c_tree.specs.declared.lifted.LStmt as out
use Rattle.c_tree.specs.declared.program.StmtKind as s
use Rattle.c_tree.specs.Lifting.{lift_of, give_back, assign, run, freed, printed}
use Rattle.c_lift.specs.Adding.{Adds}
use Rattle.c_lift.specs.Around.{standing}
use Rattle.c_lift.proofs.OutcomeLemmas.{if_ok}
use Rattle.c_lift.proofs.StmtLemmas.{lift-Empty, lift-Break, lift-Continue, lift-Return, lift-Assign, lift-Run, lift-Free, lift-Print, lifts_plain}
use Rattle.c_lift.proofs.CompoundLemmas.{lifts_as, lifts_block, lifts_if, lifts_while, lifts_for, whole_more, whole_all}
use Rattle.c_lift.proofs.stmt.+lift.Goals as goal

pub lift_all-loop-s-preserved : goal.lift_all-loop-s-preserved
lift_all-loop-s-preserved t c =
    let i = c.loop-s.s-index in
    whole_more c.s-item.result (drop (i + 1) c.args.stmts.now) (drop_more c.args.stmts.now i c.s-item.result c.loop-s-test.true ∙ ap (λ x. x ∷ drop (i + 1) c.args.stmts.now) (sym c.s-item.is))
    c.loop-s.invariant c.in_ok-lift_stmt.ensures

pub lift_all-returns : goal.lift_all-returns
lift_all-returns t c = whole_all c.args.stmts.now (drop_all c.loop-s.s-index c.args.stmts.now c.loop-s-test.false) c.loop-s.invariant

pub lift_stmt-returns-in-Empty : goal.lift_stmt-returns-in-Empty
lift_stmt-returns-in-Empty t c =
    let w = standing c.args.setting.now c.args.locals.now in
    lifts_plain s.Empty (lift_of [] c.args.made.now.items) c.in-Empty.is (lift-Empty w c.args.made.now.items c.args.s.now.at) refl refl
    (record { added = sym (append-nil c.args.body.now.items); all = refl })

pub lift_stmt-returns-in-Block : goal.lift_stmt-returns-in-Block
lift_stmt-returns-in-Block t c =
    if_ok c.lift_block.result c.lift_block.ensures (λ _ all. lifts_as (s.Block c.as_slice.result.now) (c.in-Block.is ∙ ap s.Block (sym c.as_slice.ensures)) (all c.args.s.now.at))

pub lift_stmt-returns-in_ok-no-in-If : goal.lift_stmt-returns-in_ok-no-in-If
lift_stmt-returns-in_ok-no-in-If t c =
    if_ok c.add_if.result c.add_if.ensures
    (λ _ added. lifts_if {new = c.leave.new.locals} c.args.s.now.at c.in-If.test c.get.result.now c.in-If.no (c.in-If.is ∙ ap (λ y. s.If c.in-If.test y c.in-If.no) (sym c.get.ensures))
    c.in_ok-test-in-If.ensures c.in_ok-yes-in-If.ensures c.in_ok-no-in-If.ensures (c.leave.ensures.names ∙ ap (λ n. take n c.lift_other.new.locals.names.items) c.scope_depth-names.ensures) c.leave.ensures.slots added)

pub lift_stmt-returns-in-While : goal.lift_stmt-returns-in-While
lift_stmt-returns-in-While t c =
    if_ok c.lift_while.result c.lift_while.ensures
    (λ _ all. lifts_as (s.While c.in-While.test c.get-in-While.result.now) (c.in-While.is ∙ ap (s.While c.in-While.test) (sym c.get-in-While.ensures)) (all c.args.s.now.at))

pub lift_stmt-returns-in_ok-inner-in-For : goal.lift_stmt-returns-in_ok-inner-in-For
lift_stmt-returns-in_ok-inner-in-For t c =
    let b = c.get-in-For.result.now in
    if_ok c.add_loop.result c.add_loop.ensures
    (λ _ added. lifts_for {new = c.leave-in-For.new.locals} c.args.s.now.at c.as_slice-in-For.result.now c.in-For.test c.in-For.step b
    (c.in-For.is ∙ (ap (λ xs. s.For xs c.in-For.test c.in-For.step c.in-For.inner) (sym c.as_slice-in-For.ensures) ∙ ap (s.For c.as_slice-in-For.result.now c.in-For.test c.in-For.step) (sym c.get-in-For.ensures)))
    c.in_ok-lift_all-in-For.ensures c.in_ok-test-in-For.ensures.calls c.in_ok-test-in-For.ensures.value c.in_ok-test-in-For.ensures.made
    c.in_ok-step-in-For.ensures.adds c.in_ok-step-in-For.ensures.names c.in_ok-step-in-For.ensures.slots c.in_ok-inner-in-For.ensures (c.leave-in-For.ensures.names ∙ ap (λ n. take n c.lift_apart-in-For.new.locals.names.items) c.scope_depth-names.ensures) c.leave-in-For.ensures.slots added)

pub lift_block-returns : goal.lift_block-returns
lift_block-returns t c = λ at.
    lifts_block {new = c.leave.new.locals} at c.args.inner.now refl c.in_ok-lift_all.ensures (c.leave.ensures.names ∙ ap (λ n. take n c.lift_all.new.locals.names.items) c.scope_depth-names.ensures) c.leave.ensures.slots

pub lift_while-returns : goal.lift_while-returns
lift_while-returns t c =
    if_ok c.add_loop.result c.add_loop.ensures
    (λ _ added. λ at. lifts_while {new = c.leave.new.locals} at c.args.test.now c.args.inner.now refl
    c.in_ok-test.ensures.calls c.in_ok-test.ensures.value c.in_ok-test.ensures.made c.in_ok-inner.ensures (c.leave.ensures.names ∙ ap (λ n. take n c.lift_apart.new.locals.names.items) c.scope_depth-names.ensures) c.leave.ensures.slots
    (added ∙ ap (λ xs. c.args.body.now.items ++ out.Loop c.in_ok-test.test.calls.items c.in_ok-test.test.value c.in_ok-inner.inner.items xs ∷ []) c.new.ensures.items))

pub lift_stmt-returns-in-Break : goal.lift_stmt-returns-in-Break
lift_stmt-returns-in-Break t c =
    if_ok c.add_call.result c.add_call.ensures
    (λ _ added. lifts_plain s.Break (lift_of (out.Break ∷ []) c.args.made.now.items) c.in-Break.is (lift-Break (standing c.args.setting.now c.args.locals.now) c.args.made.now.items c.args.s.now.at) refl refl
    (record { added = added; all = refl }))

pub lift_stmt-returns-in-Continue : goal.lift_stmt-returns-in-Continue
lift_stmt-returns-in-Continue t c =
    if_ok c.add_call-in-Continue.result c.add_call-in-Continue.ensures
    (λ _ added. lifts_plain s.Continue (lift_of (out.Continue ∷ []) c.args.made.now.items) c.in-Continue.is (lift-Continue (standing c.args.setting.now c.args.locals.now) c.args.made.now.items c.args.s.now.at) refl refl
    (record { added = added; all = refl }))

pub lift_stmt-returns-in-Return : goal.lift_stmt-returns-in-Return
lift_stmt-returns-in-Return t c =
    let w = standing c.args.setting.now c.args.locals.now in
    let made = c.args.made.now.items in
    if_ok c.give_back.result c.give_back.ensures
    (λ _ adds. lifts_plain (s.Return c.in-Return.value) (give_back w made c.in-Return.value) c.in-Return.is (lift-Return w made c.args.s.now.at c.in-Return.value) refl refl adds)

pub lift_stmt-returns-in-Assign : goal.lift_stmt-returns-in-Assign
lift_stmt-returns-in-Assign t c =
    let w = standing c.args.setting.now c.args.locals.now in
    let made = c.args.made.now.items in
    if_ok c.assign.result c.assign.ensures
    (λ _ adds. lifts_plain (s.Assign c.in-Assign.x c.in-Assign.op c.in-Assign.y) (assign w made c.in-Assign.x c.in-Assign.op c.in-Assign.y) c.in-Assign.is
    (lift-Assign w made c.args.s.now.at c.in-Assign.x c.in-Assign.op c.in-Assign.y) refl refl adds)

pub lift_stmt-returns-in-Run : goal.lift_stmt-returns-in-Run
lift_stmt-returns-in-Run t c =
    let w = standing c.args.setting.now c.args.locals.now in
    let made = c.args.made.now.items in
    if_ok c.run.result c.run.ensures (λ _ adds. lifts_plain (s.Run c.in-Run.x) (run w made c.in-Run.x.kind) c.in-Run.is (lift-Run w made c.args.s.now.at c.in-Run.x) refl refl adds)

pub lift_stmt-returns-in-Free : goal.lift_stmt-returns-in-Free
lift_stmt-returns-in-Free t c =
    let w = standing c.args.setting.now c.args.locals.now in
    let made = c.args.made.now.items in
    if_ok c.free.result c.free.ensures (λ _ adds. lifts_plain (s.Free c.in-Free.x) (freed w made c.in-Free.x) c.in-Free.is (lift-Free w made c.args.s.now.at c.in-Free.x) refl refl adds)

pub lift_stmt-returns-in-Print : goal.lift_stmt-returns-in-Print
lift_stmt-returns-in-Print t c =
    let w = standing c.args.setting.now c.args.locals.now in
    let made = c.args.made.now.items in
    let args = c.as_slice-in-Print.result.now in
    if_ok c.print.result c.print.ensures
    (λ _ adds. lifts_plain (s.Print c.in-Print.text args) (printed w made c.in-Print.text args) (c.in-Print.is ∙ ap (s.Print c.in-Print.text) (sym c.as_slice-in-Print.ensures))
    (lift-Print w made c.args.s.now.at c.in-Print.text args) refl refl adds)

use Rattle.std.proofs.Common.{◌+◌, ◌∷◌, ◌++◌, [], drop, sym, ap, refl, ◌∙◌}
use Rattle.std.proofs.lemmas.List.{drop_more, drop_all, append-nil}
use Rattle.c_tree.specs.declared.program.StmtKind as s
use Rattle.c_lift.specs.Variables.{slots_of, slots_list, slots_other}
use Rattle.c_lift.proofs.OutcomeLemmas.{if_ok}
use Rattle.c_lift.proofs.VariableLemmas.{slots_of-If, slots_of-For, slots_of-Empty, slots_of-Break, slots_of-Continue, slots_of-Return, slots_of-Assign, slots_of-Run, slots_of-Free, slots_of-Print, slots_other-None, no_slots, slots_more, slots_left, slots_done}
use Rattle.c_lift.proofs.variables.+locals.Goals as goal

pub add_all-loop-s-preserved : goal.add_all-loop-s-preserved
add_all-loop-s-preserved t c =
    let i = c.loop-s.s-index in
    slots_left c.loop-s.slots.items c.add_locals.new.slots.items (c.args.slots.now.items ++ slots_list c.args.stmts.now) (drop i c.args.stmts.now) c.s-item.result (drop (i + 1) c.args.stmts.now)
    (drop_more c.args.stmts.now i c.s-item.result c.loop-s-test.true ∙ ap (λ x. x ∷ drop (i + 1) c.args.stmts.now) (sym c.s-item.is)) c.loop-s.invariant c.in_ok-add_locals.ensures

pub add_all-returns : goal.add_all-returns
add_all-returns t c =
    slots_done c.loop-s.slots.items (c.args.slots.now.items ++ slots_list c.args.stmts.now) (drop c.loop-s.s-index c.args.stmts.now)
    (drop_all c.loop-s.s-index c.args.stmts.now c.loop-s-test.false) c.loop-s.invariant

pub add_locals-returns-in_ok-add_locals-in-If : goal.add_locals-returns-in_ok-add_locals-in-If
add_locals-returns-in_ok-add_locals-in-If t c =
    let test = c.in-If.field-0 in
    let b = c.get.result.now in
    let other = c.in-If.no in
    if_ok c.add_other.result c.add_other.ensures
    (λ _ more. slots_more c.args.slots.now.items c.add_locals.new.slots.items c.add_other.new.slots.items (slots_of c.args.s.now.kind) (slots_of b.kind) (slots_other other) c.in_ok-add_locals-in-If.ensures more
    (ap slots_of (c.in-If.is ∙ ap (λ y. s.If test y other) (sym c.get.ensures)) ∙ slots_of-If test b other))

pub add_locals-returns-in_ok-add_all-in-For : goal.add_locals-returns-in_ok-add_all-in-For
add_locals-returns-in_ok-add_all-in-For t c =
    let starts = c.as_slice-in-For.result.now in
    let test = c.in-For.field-1 in
    let step = c.in-For.field-2 in
    let b = c.get-in-For.result.now in
    if_ok c.add_locals-in-For.result c.add_locals-in-For.ensures
    (λ _ more. slots_more c.args.slots.now.items c.add_all-in-For.new.slots.items c.add_locals-in-For.new.slots.items (slots_of c.args.s.now.kind) (slots_list starts) (slots_of b.kind) c.in_ok-add_all-in-For.ensures more
    (ap slots_of (c.in-For.is ∙ (ap (λ xs. s.For xs test step c.in-For.inner) (sym c.as_slice-in-For.ensures) ∙ ap (s.For starts test step) (sym c.get-in-For.ensures))) ∙ slots_of-For starts test step b))

pub add_locals-returns-in-Empty : goal.add_locals-returns-in-Empty
add_locals-returns-in-Empty t c = no_slots c.args.slots.now.items c.args.s.now.kind s.Empty c.in-Empty.is slots_of-Empty

pub add_locals-returns-in-Break : goal.add_locals-returns-in-Break
add_locals-returns-in-Break t c = no_slots c.args.slots.now.items c.args.s.now.kind s.Break c.in-Break.is slots_of-Break

pub add_locals-returns-in-Continue : goal.add_locals-returns-in-Continue
add_locals-returns-in-Continue t c = no_slots c.args.slots.now.items c.args.s.now.kind s.Continue c.in-Continue.is slots_of-Continue

pub add_locals-returns-in-Return : goal.add_locals-returns-in-Return
add_locals-returns-in-Return t c = no_slots c.args.slots.now.items c.args.s.now.kind (s.Return c.in-Return.field-0) c.in-Return.is (slots_of-Return c.in-Return.field-0)

pub add_locals-returns-in-Assign : goal.add_locals-returns-in-Assign
add_locals-returns-in-Assign t c = no_slots c.args.slots.now.items c.args.s.now.kind (s.Assign c.in-Assign.field-0 c.in-Assign.field-1 c.in-Assign.field-2) c.in-Assign.is (slots_of-Assign c.in-Assign.field-0 c.in-Assign.field-1 c.in-Assign.field-2)

pub add_locals-returns-in-Run : goal.add_locals-returns-in-Run
add_locals-returns-in-Run t c = no_slots c.args.slots.now.items c.args.s.now.kind (s.Run c.in-Run.field-0) c.in-Run.is (slots_of-Run c.in-Run.field-0)

pub add_locals-returns-in-Free : goal.add_locals-returns-in-Free
add_locals-returns-in-Free t c = no_slots c.args.slots.now.items c.args.s.now.kind (s.Free c.in-Free.field-0) c.in-Free.is (slots_of-Free c.in-Free.field-0)

pub add_locals-returns-in-Print : goal.add_locals-returns-in-Print
add_locals-returns-in-Print t c = no_slots c.args.slots.now.items c.args.s.now.kind (s.Print c.in-Print.field-0 c.in-Print.field-1) c.in-Print.is (slots_of-Print c.in-Print.field-0 c.in-Print.field-1)

pub add_other-returns-in-None : goal.add_other-returns-in-None
add_other-returns-in-None t c = sym (append-nil c.args.slots.now.items) ∙ ap (λ xs. c.args.slots.now.items ++ xs) (sym (ap slots_other c.in-None.is ∙ slots_other-None))

use Rattle.std.proofs.Common.{◌+◌, ◌∷◌, ◌++◌, [], take, drop, sym, ap, ◌∙◌}
use Rattle.std.proofs.lemmas.List.{drop_more, take_more}
use Rattle.c_tree.specs.declared.lifted.Slot.{Slot}
use Rattle.c_tree.specs.Lifting.{slot_name}
use Rattle.c_lift.specs.Variables.{numbered_after}
use Rattle.c_lift.proofs.NameNumberLemmas.{numbered_more}
use Rattle.c_lift.proofs.names.numbered.Goals as goal

pub loop-i-preserved : goal.loop-i-preserved
loop-i-preserved c =
    let i = c.loop-i.i in
    let slots = c.args.slots.now in
    let x = c.index-slots-i.result in
    numbered_more c.loop-i.named.items c.add_numbered.new.named.items (numbered_after [] slots) slots i x c.loop-i-test.true
    (take_more slots i x c.loop-i-test.true ∙ ap (λ y. take i slots ++ y ∷ []) (sym c.index-slots-i.is))
    (drop_more slots i x c.loop-i-test.true ∙ ap (λ y. y ∷ drop (i + 1) slots) (sym c.index-slots-i.is)) c.loop-i.invariant
    (c.in_ok-add_numbered.ensures ∙ ap (λ n. let y : Slot = record { name = slot_name x.name (n + 1); ty = x.ty } in c.loop-i.named.items ++ y ∷ [])
    c.count_of-before.ensures)

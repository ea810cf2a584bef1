use Rattle.std.proofs.Common.{◌++◌, ap, ◌∙◌}
use Rattle.std.specs.Prelude.{map}
use Rattle.c_tree.specs.declared.lifted.Slot.{Slot}
use Rattle.c_tree.specs.Lifting.{body_of}
use Rattle.c_lift.specs.Variables.{slots_list}
use Rattle.c_lift.proofs.VariableLemmas.{variables_are}
use Rattle.c_lift.proofs.variables.variables.Goals as goal

pub returns : goal.returns
returns c =
    let f = c.args.function.now in
    c.in_ok-add_body.ensures ∙ (ap (λ xs. xs ++ slots_list (body_of f.body)) (c.in_ok-add_parameters.ensures
    ∙ (ap (λ xs. xs ++ map (λ q. let x : Slot = record { name = q.name.it; ty = q.ty } in x) c.as_slice.result.now) c.new-slots.ensures.items
    ∙ ap (λ qs. map (λ q. let x : Slot = record { name = q.name.it; ty = q.ty } in x) qs) c.as_slice.ensures)) ∙ variables_are f)

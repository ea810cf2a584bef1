use Rattle.std.proofs.Common.{◌≡◌, ◌++◌, [], length, sym, ap, ◌∙◌}
use Rattle.c_tree.specs.Lifting.{temporary_slots}
use Rattle.c_lift.specs.Variables.{numbered_after}
use Rattle.c_lift.proofs.FunctionLemmas.{function_is}
use Rattle.c_lift.proofs.function.lift_function.Goals as goal

pub returns : goal.returns
returns c =
    function_is c.args.file.now c.args.function.now c.in_ok-lifted.lifted c.in_ok-narrowed.field-0 c.lift_body.new.made.items c.in_ok-plain.plain.items c.in_ok-slots.slots.items c.in_ok-body.body.items
    (c.in_ok-narrowed.ensures ∙ c.len.ensures ∙ sym c.as_slice.ensures.len ∙ ap length c.as_slice.ensures.value) c.in_ok-plain.ensures
    (c.in_ok-slots.ensures ∙ (ap (λ xs. numbered_after [] xs ++ temporary_slots 1 c.as_slice-2.result.now) c.as_slice.ensures.value
    ∙ ap (λ ms. numbered_after [] c.in_ok-plain.plain.items ++ temporary_slots 1 ms) c.as_slice-2.ensures.value))
    c.in_ok-body.ensures c.in_ok-lifted.ensures

use Rattle.std.proofs.Common.{ap, sym, ◌∙◌, append-nil}
use Rattle.c_tree.specs.Names.{slot_name}
use Rattle.c_tree.specs.Step.{function_of}
use Rattle.reports.specs.Words as spec
use Rattle.reports.proofs.named.slot_of.Goals as goal

pub returns-in-Some : goal.returns-in-Some
returns-in-Some c =
    let k = c.args.link.now in
    c.name_in.ensures ∙ ap (λ o. slot_name (spec.slots_in k (spec.functions_by k c.args.at.0 o)) c.args.slot) c.in-Some.ensures

pub returns-in-None : goal.returns-in-None
returns-in-None c =
    let k = c.args.link.now in
    let g = spec.matched_function k c.args.at.0 in
    c.slot_name.ensures
    ∙ (ap (λ xs. slot_name xs c.args.slot) (c.slots.ensures ∙ (ap (λ p. (function_of p c.matched_function.result).slots) c.new.ensures ∙ (ap (λ f. (function_of k.new f).slots) c.matched_function.ensures ∙ sym (append-nil (function_of k.new g).slots))))
    ∙ ap (λ o. slot_name (spec.slots_in k (spec.functions_by k c.args.at.0 o)) c.args.slot) c.in-None.ensures)

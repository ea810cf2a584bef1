use Rattle.std.proofs.Common.{◌++◌, sym, ap, ◌∙◌}
use Rattle.std.proofs.lemmas.List.{append-nil}
use Rattle.c_tree.specs.Lifting.{body_of}
use Rattle.c_lift.specs.Variables.{slots_list}
use Rattle.c_lift.proofs.VariableLemmas.{slots_list-none}
use Rattle.c_lift.proofs.variables.add_body.Goals as goal

pub returns-in-None : goal.returns-in-None
returns-in-None c =
    sym (append-nil c.args.slots.now.items) ∙ ap (λ xs. c.args.slots.now.items ++ xs) (sym (ap (λ b. slots_list (body_of b)) c.in-None.is ∙ slots_list-none))

use Rattle.std.proofs.Common.{Some, sym, ap, ◌∙◌}
use Rattle.c_tree.specs.Lifting.{field_in}
use Rattle.c_tree.specs.Types.{member_type}
use Rattle.c_lift.specs.Around.{around}
use Rattle.c_lift.proofs.OutcomeLemmas.{if_ok}
use Rattle.c_lift.proofs.taken.Taken.member.Goals as goal

pub returns-in-Some-Ptr-clause-value : goal.returns-in-Some-Ptr-clause-value
returns-in-Some-Ptr-clause-value c =
    if_ok c.field_of.result c.field_of.ensures.value
    (λ t e. e ∙ ap (λ o. field_in (around c.args.at.now).scope c.args.self.value o c.args.name.now) (ap Some (sym c.in-Some-Ptr.field-0-is) ∙ sym c.in-Some-Ptr.is))

pub returns-in-Some-Ptr-clause-ty : goal.returns-in-Some-Ptr-clause-ty
returns-in-Some-Ptr-clause-ty c =
    if_ok c.field_of.result c.field_of.ensures.ty
    (λ t e. e ∙ ap (λ o. member_type (around c.args.at.now).scope o c.args.name.now) (ap Some (sym c.in-Some-Ptr.field-0-is) ∙ sym c.in-Some-Ptr.is))

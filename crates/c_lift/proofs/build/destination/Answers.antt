use Rattle.std.proofs.Common.{sym, ap, ◌∙◌}
use Rattle.c_tree.specs.declared.lifted.Dest.TheVariants as d
use Rattle.c_tree.specs.Lifting.{destination}
use Rattle.c_lift.proofs.BuildLemmas.{destination-Elem, destination-Field}
use Rattle.c_lift.proofs.build.destination.Goals as goal

pub returns-in-Elem : goal.returns-in-Elem
returns-in-Elem c = ap (d.Elem c.in-Elem.g) c.into_inner.ensures ∙ (sym (destination-Elem c.in-Elem.g c.in-Elem.index) ∙ ap destination (sym c.in-Elem.is))

pub returns-in-Field : goal.returns-in-Field
returns-in-Field c =
    ap (λ p. d.Field p c.in-Field.owner c.in-Field.field) c.into_inner-in-Field.ensures
    ∙ (sym (destination-Field c.in-Field.base c.in-Field.owner c.in-Field.field) ∙ ap destination (sym c.in-Field.is))

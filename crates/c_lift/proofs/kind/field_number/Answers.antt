use Rattle.std.proofs.Common.{sym, ap, ◌∙◌}
use Rattle.std.specs.Prelude.{unwrap_or}
use Rattle.lift_laws.proofs.NumberLemmas.{number_of-map}
use Rattle.c_lift.proofs.kind.field_number.Goals as goal

pub returns : goal.returns
returns c = c.in_ok-n.ensures ∙ (c.unwrap_or.ensures ∙ (ap (λ o. unwrap_or o 0) c.field_place.ensures ∙ sym (number_of-map (λ f. f.name) c.args.fields.now c.args.name.now)))

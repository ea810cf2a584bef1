use Rattle.std.proofs.Common.{ap, ◌∙◌}
use Rattle.stack_map.specs.Subjects.{field_value}
use Rattle.stack_map.proofs.EntryLemmas.{first_field}
use Rattle.stack_map.proofs.entries.declared_field.Goals as goal

pub returns-in-Some : goal.returns-in-Some
returns-in-Some c = c.field_value.ensures ∙ (ap (λ o. field_value o) c.in-Some.ensures ∙ first_field c.args.owner c.args.field c.args.entries.now)

pub returns-in-None : goal.returns-in-None
returns-in-None c = ap (λ o. field_value o) c.in-None.ensures ∙ first_field c.args.owner c.args.field c.args.entries.now

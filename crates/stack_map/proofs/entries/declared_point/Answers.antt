use Rattle.std.proofs.Common.{ap, ◌∙◌}
use Rattle.stack_map.specs.Subjects.{point_of}
use Rattle.stack_map.proofs.EntryLemmas.{first_point}
use Rattle.stack_map.proofs.entries.declared_point.Goals as goal

pub returns-in-Some : goal.returns-in-Some
returns-in-Some c = c.point_value.ensures ∙ ap (λ o. point_of o) (c.in-Some.ensures ∙ first_point c.args.function c.args.place c.args.entries.now)

pub returns-in-None : goal.returns-in-None
returns-in-None c = ap (λ o. point_of o) (c.in-None.ensures ∙ first_point c.args.function c.args.place c.args.entries.now)

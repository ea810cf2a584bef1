use Rattle.std.proofs.Common.{ap, ◌∙◌}
use Rattle.stack_map.specs.Subjects.{init_value}
use Rattle.stack_map.proofs.EntryLemmas.{first_init}
use Rattle.stack_map.proofs.entries.declared_init.Goals as goal

pub returns-in-Some : goal.returns-in-Some
returns-in-Some c = c.init_value.ensures ∙ (ap (λ o. init_value o) c.in-Some.ensures ∙ first_init c.args.global c.args.entries.now)

pub returns-in-None : goal.returns-in-None
returns-in-None c = ap (λ o. init_value o) c.in-None.ensures ∙ first_init c.args.global c.args.entries.now

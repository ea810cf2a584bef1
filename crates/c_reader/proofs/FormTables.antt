-- Each alternative of a rule makes of what the rule finds what the rule leaves.
use Rattle.std.specs.Prelude.{true}
use Rattle.std.specs.List.{list_all}
use Rattle.std.proofs.Common.{◌≡◌, refl}
use Rattle.c_grammar.specs.declared.rule.Rule.{Rule}
use Rattle.c_grammar.specs.declared.rule.Rule.TheVariants as rule
use Rattle.c_reader.proofs.Forms.{read_by}
use Rattle.c_reader.proofs.FormRuns.{keeps_deal}

pub each_rule : (r : Rule) → list_all (λ d. keeps_deal r d) (read_by r) ≡ true
each_rule rule.Items = refl
each_rule r = refl

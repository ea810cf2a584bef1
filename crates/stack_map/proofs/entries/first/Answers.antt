use Rattle.std.proofs.Common.{◌≡◌, arith, sym, ◌∙◌}
use Rattle.std.specs.Prelude.{slice_get}
use Rattle.std.proofs.lemmas.Grind.{common_steps}
use Rattle.std.proofs.lemmas.Option.{gets}
use Rattle.std.specs.Option.{option_map}
use Rattle.stack_map.proofs.SubjectLemmas.{first_in, first_absent}
use Rattle.stack_map.proofs.entries.first.Goals as goal

pub returns-in-Some : goal.returns-in-Some
returns-in-Some c =
    let at : option_map (λ r. r.now) c.get-in-Some.result ≡ slice_get c.args.entries.now c.in-Some.at.now = grind (arith, common_steps, gets) in
    at ∙ first_in c.args.declared.now c.args.entries.now c.args.subject _ c.requires (sym c.in-Some.ensures.value)

pub returns-in-None : goal.returns-in-None
returns-in-None c = sym (first_absent c.args.declared.now c.args.entries.now c.args.subject c.requires (sym c.in-None.ensures.value))

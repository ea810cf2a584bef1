use Rattle.std.proofs.Common.{not, ap, rules, tests}
use Rattle.std.specs.Prelude.{◌==◌}
use Rattle.c_tree.specs.Run.{Core}
use Rattle.plain_run.specs.CoreAt.{core_at}
use Rattle.plain_run.proofs.EventLemmas.{resume_makes}
use Rattle.plain_run.proofs.RetainLemmas.{retained}
use Rattle.plain_run.proofs.event.resume.Goals as goal

pub returns : goal.returns
returns c =
    resume_makes c.args.now.now _ c.args.t (λ p.
    ap (λ us. let d : Core = record (core_at p c.args.now.now) { parked = us } in d)
    (retained _ (λ u. not (u == c.args.t)) _ (λ x b g k. (search (rules, tests), search rules)) _ _ c.retain.ensures.filtered))

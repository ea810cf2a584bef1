use Rattle.std.proofs.Common.{◌≡◌, ◌∷◌, ap, rules}
use Rattle.c_tree.specs.Run.{Core}
use Rattle.plain_run.specs.CoreAt.{core_at}
use Rattle.plain_run.proofs.EventLemmas.{park_makes}
use Rattle.plain_run.proofs.event.park.Goals as goal

pub returns-in-Ok-clause-ok : goal.returns-in-Ok-clause-ok
returns-in-Ok-clause-ok c =
    let e : c.insert.new.self.items ≡ c.args.t ∷ c.args.now.now.parked.items = search rules in
    park_makes c.args.now.now _ c.args.t (λ p. ap (λ us. let d : Core = record (core_at p c.args.now.now) { parked = us } in d) e)

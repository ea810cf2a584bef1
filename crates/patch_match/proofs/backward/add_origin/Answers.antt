use Rattle.std.proofs.Common.{[], ◌∷◌, ◌++◌, sym, subst}
use Rattle.patch_match.specs.Origins.{GivesOrigins}
use Rattle.patch_match.proofs.OriginLemmas.{origin_none, origin_before, origin_now}
use Rattle.patch_match.proofs.backward.add_origin.Goals as goal

pub returns-in-None : goal.returns-in-None
returns-in-None c = λ found gives at.
    subst (λ o. GivesOrigins c.args.origins.now (found ++ o ∷ [])) (sym c.in-None.is) (origin_none c.args.origins.now found gives)

pub returns-in-Some-get : goal.returns-in-Some-get
returns-in-Some-get c = λ found gives at.
    subst (λ o. GivesOrigins c.args.origins.now (found ++ o ∷ [])) (sym c.in-Some.is)
    (origin_before c.args.origins.now found c.in-Some.side _ gives (sym c.in-Some-get.ensures.value))

pub returns-in_ok-insert-in-None-get : goal.returns-in_ok-insert-in-None-get
returns-in_ok-insert-in-None-get c = λ found gives at.
    subst (λ o. GivesOrigins c.insert.new.self (found ++ o ∷ [])) (sym c.in-Some.is)
    (origin_now c.args.origins.now c.insert.new.self found c.in-Some.side c.args.at gives (sym c.in-None-get.ensures.value) at c.in_ok-insert-in-None-get.ensures.updates.0)

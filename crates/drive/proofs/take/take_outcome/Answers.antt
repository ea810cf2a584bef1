use Rattle.std.proofs.Common.{◌≡◌, rules, refl, sym, ap, ◌∙◌}
use Rattle.c_tree.specs.Plan.{is_memory_refusal}
use Rattle.world_core.specs.History.{core}
use Rattle.drive.proofs.TakeLemmas.{bad-memory, bad-outcome, unlike-outcome}
use Rattle.drive.proofs.take.take_outcome.Goals as goal
use Rattle.drive.proofs.take.take_outcome.Goals.{then-is_memory-via-then-is_memory, then-is_memory-via-else-is_memory+then-not-may_commit}

pub returns-then-is_memory-clause-taken : goal.returns-then-is_memory-clause-taken
returns-then-is_memory-clause-taken c =
    elim c.then-is_memory.branch [
      | then-is_memory-via-then-is_memory w ↦ (bad-memory c.args.world.now.settings (core c.args.world.now) c.args.listed (sym c.is_memory.ensures ∙ w.if-is_memory.true), refl)
      | then-is_memory-via-else-is_memory+then-not-may_commit w ↦ (bad-outcome c.args.world.now c.args.listed c.requires (sym w.may_commit.ensures ∙ w.if-not-may_commit.true), refl)
    ]

pub returns-clause-taken : goal.returns-clause-taken
returns-clause-taken c =
    let differ : c.kind_of-kind.result ≡ c.args.listed → ⊥ = λ q. search rules in (
      unlike-outcome c.args.world.now c.in_ok-decision.decision c.args.listed c.requires c.in_ok-decision.ensures.decided
          (ap is_memory_refusal (sym c.kind_of-kind.ensures) ∙ c.in_ok-unless_short.ensures)
          (λ q. differ (c.kind_of-kind.ensures ∙ q)),
      refl,
    )

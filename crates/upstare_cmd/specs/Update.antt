-- What came of the update of a run, in words.
use Rattle.std.specs.Prelude.{ℕ, List, [], ◌++◌, Option, Some, None, codes}
use Rattle.c_tree.specs.declared.event.Reason.{Reason}
use Rattle.c_tree.specs.declared.run.Armed.{Armed}
use Rattle.c_tree.specs.Link.{link_of}
use Rattle.reports.specs.Words.{reason}
use Rattle.world_core.specs.History.{History}
use Rattle.world_core.specs.Outcome.{outcome}
use Rattle.world_core.specs.Refused.{named_at_refusal}
use Rattle.world_core.specs.declared.outcome.Outcome.{Outcome}
use Rattle.world_core.specs.declared.outcome.Outcome.TheVariants as o

-- the words of a reason against the armed patch
abbrev pub refusal_words : Option Armed → ℕ × ℕ → Reason → List ℕ
refusal_words None at r = []
refusal_words (Some a) at r = reason (link_of a.patch.old a.patch.new a.patch.entries) a.patch.entries at r

-- the words of an outcome
abbrev pub outcome_words : Option Armed → ℕ × ℕ → Outcome → List ℕ
outcome_words armed at o.NoPatch = codes "none"
outcome_words armed at o.NotAsked = codes "not asked"
outcome_words armed at o.Asked = codes "asked"
outcome_words armed at o.Done = codes "done"
outcome_words armed at (o.Refused r) = codes "refused: " ++ refusal_words armed at r

-- what came of a run's update
abbrev pub update_words : History → List ℕ
update_words h = outcome_words h.settings.armed (named_at_refusal h) (outcome h)

-- How many events may still come: each event of a plan lowers this.
use Rattle.std.specs.Prelude.{ℕ, ◌+◌, ◌*◌, ◌-◌, ◌==◌, not, List, filter, length}
use Rattle.std.specs.List.{list_any, range_with_len}
use Rattle.c_tree.specs.declared.run.Phase.{Phase}
use Rattle.c_tree.specs.declared.run.Phase.TheVariants as phase
use Rattle.c_tree.specs.Run.{Core}
use Rattle.world_core.specs.History.{History, core}

-- how many of the first n numbers aren't listed
unfoldable pub missing : ℕ → List ℕ → ℕ
missing n ps = length (filter (λ t. not (list_any (λ u. u == t) ps)) (range_with_len 0 n))

-- how many events but Steps may still come, where u threads aren't parked and n are
abbrev pub rank_of : Phase → ℕ → ℕ → ℕ
rank_of phase.Before u n = 2003
rank_of phase.Asked u n = 1 + 2 * u + n
rank_of phase.Updated u n = n
rank_of (phase.Refused r) u n = n

-- at most how many events but Steps may still come from a core
abbrev pub rank : Core → ℕ
rank c = rank_of c.phase (missing 1000 c.parked) (length c.parked)

-- at most how many events of a plan may still come behind a history
abbrev pub measure : History → ℕ
measure h = (h.settings.limit - (core h).steps) + rank (core h)

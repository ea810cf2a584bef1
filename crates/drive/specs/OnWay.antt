-- A run that a plan made so far.
use Rattle.std.specs.Prelude.{◌≡◌, ◌<◌, ◌≤◌, ◌+◌, ⊤, IfSome, Bool, true, nat_lt, [], length}
use Rattle.std.specs.List.{list_all}
use Rattle.c_tree.specs.declared.run.Phase.{Phase}
use Rattle.c_tree.specs.declared.run.Picker.{Picker}
use Rattle.c_tree.specs.declared.run.Picker.TheVariants.{Round, Seed}
use Rattle.c_tree.specs.declared.run.Settings.{Settings}
use Rattle.c_tree.specs.Plan.{Progress, advance, progress}
use Rattle.c_tree.specs.Run.{Core, is_before, is_after, is_refused_for_memory}
use Rattle.world_core.specs.History.{History, core}
use Rattle.drive.specs.Measure.{measure}

-- the picker's last thread has a thread's number
abbrev pub IsLow : Picker → Type 0
IsLow (Round last) = IfSome last (λ t. t < 1000)
IsLow (Seed x) = ⊤

-- nothing is parked before the Request, and what is parked are threads
pub record IsKept (c : Core) : Type 0 where
  pub begins : is_before c.phase ≡ true → c.parked ≡ []
  pub made : list_all (λ t. nat_lt t (length c.state.threads)) c.parked ≡ true
  pub few : length c.state.threads ≤ 1000

-- the update may still come to this: until its outcome both, then what memory came to
abbrev pub Agrees : Bool → Phase → Type 0
Agrees short phase = is_after phase ≡ true → short ≡ is_refused_for_memory phase

-- how far a plan has come
abbrev pub progress_at : History → Picker → Progress
progress_at h g = record { core = core h; picker = g; events = h.events }

-- one event of the plan was made
pub record IsOnward (h h2 : History) (g g2 : Picker) : Type 0 where
  pub same : h2.settings ≡ h.settings
  pub parts : h2.earlier ≡ h.earlier
  pub kept : IsKept (core h2)
  pub low : IsLow g2
  pub more : length h2.events ≡ length h.events + 1
  pub earlier : (short : Bool) → Agrees short (core h2).phase → Agrees short (core h).phase
  pub way : (short : Bool) → Agrees short (core h2).phase → advance h.settings short (progress_at h g) ≡ progress_at h2 g2
  pub less : measure h2 < measure h

-- the events so far are the first ones of the plan
pub record OnWay (k : Settings) (start : Picker) (h : History) (g : Picker) : Type 0 where
  pub same : h.settings ≡ k
  pub single : h.earlier ≡ []
  pub kept : IsKept (core h)
  pub low : IsLow g
  pub way : (short : Bool) → Agrees short (core h).phase → progress k short start (length h.events) ≡ progress_at h g

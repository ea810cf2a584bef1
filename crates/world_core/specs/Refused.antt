-- Where the update of a run was refused.
use Rattle.std.specs.Prelude.{ℕ, List, [], ◌∷◌, Option, Some, None}
use Rattle.c_tree.specs.declared.event.Event.{Event}
use Rattle.c_tree.specs.declared.event.EventKind.{EventKind}
use Rattle.c_tree.specs.declared.event.EventKind.TheVariants as e
use Rattle.c_tree.specs.declared.event.Reason.{Reason}
use Rattle.c_tree.specs.declared.run.Settings.{Settings}
use Rattle.c_tree.specs.Run.{Core, next}
use Rattle.plain_run.specs.Named.{named_in}
use Rattle.world_core.specs.History.{History, first_of}

-- a refusal in this core, else one that comes later
abbrev pub refused_or : Core → EventKind → Option (Core × Reason) → Option (Core × Reason)
refused_or c (e.Refuse r) later = Some (c, r)
refused_or c e.Request later = later
refused_or c (e.Step t) later = later
refused_or c (e.Park t) later = later
refused_or c e.Update later = later
refused_or c (e.Resume t) later = later

-- the core in which the update was refused, and the reason
abbrev pub refused_in : Settings → Core → List Event → Option (Core × Reason)
refused_in k c [] = None
refused_in k c (x ∷ es) =
    refused_or c x.kind (elim (next k c x.kind) as (λ _. Option (Core × Reason)) [ None ↦ None | Some d ↦ refused_in k d es ])

-- what a refusal names in the core where it was made; zeroes where there is none
abbrev pub place_named : Option (Core × Reason) → ℕ × ℕ
place_named None = (0, 0)
place_named (Some (c, r)) = named_in c.state r

-- what the refusal of a run's update names, as it stood then; zeroes where none was refused
abbrev pub named_at_refusal : History → ℕ × ℕ
named_at_refusal h = place_named (refused_in h.settings (first_of h) h.events)

-- What the answer of a plan says of the run.
use Rattle.std.specs.Prelude.{◌≡◌, ◌-◌, take, true, Some, None}
use Rattle.c_tree.specs.declared.run.Picker.{Picker}
use Rattle.c_tree.specs.declared.run.Picker.TheVariants as picker
use Rattle.c_tree.specs.declared.run.Settings.{Settings}
use Rattle.c_tree.specs.Plan.{IsPlanned, refused_at}
use Rattle.c_tree.specs.Run.{first, is_short}
use Rattle.history.specs.declared.listing.Listing.{Listing}
use Rattle.world_core.specs.History.{History, core, over}
use Rattle.drive.specs.declared.list.Driven.{Driven}
use Rattle.drive.specs.declared.list.Driven.TheVariants.{Ended, ListRefused}
use Rattle.drive.specs.declared.plan.Plan.{Plan}
use Rattle.drive.specs.declared.plan.Plan.TheVariants as plan

-- the run is over, and its events are those of the picker: a picker's plan is never refused. Where memory was short, they are those
-- with that refusal as the outcome of the update
abbrev pub IsPicked : Picker → Settings → History → Driven → Type 0
IsPicked start k h (Ended end) = (over h ≡ Some end) × IsPlanned k (is_short (core h)) start h.events
IsPicked start k h (ListRefused n) = ⊥

-- the run is over, and its events are the listed ones; or n is the number at which the listing is refused, and the events before
-- it were made
abbrev pub IsListed : Listing → Settings → History → Driven → Type 0
IsListed l k h (Ended end) =
    (over h ≡ Some end) × (h.events ≡ l.events.items) × (l.clean ≡ true)
    × (refused_at k l.clean 1 (first k) l.events.items ≡ None)
IsListed l k h (ListRefused n) =
    (refused_at k l.clean 1 (first k) l.events.items ≡ Some n) × (h.events ≡ take (n - 1) l.events.items)

-- what a plan's answer says of the run
abbrev pub IsDriven : Plan → Settings → History → Driven → Type 0
IsDriven plan.Round k h d = IsPicked (picker.Round None) k h d
IsDriven (plan.Seed seed) k h d = IsPicked (picker.Seed seed) k h d
IsDriven (plan.List listing) k h d = IsListed listing k h d

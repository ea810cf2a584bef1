-- The progress of a plan, from its start, by one more event, and at its end.
use Rattle.std.proofs.Common.{◌≡◌, true, [], length, Option, refl, ap, sym, ◌∙◌, subst, arith, add-one}
use Rattle.std.specs.Prelude.{is_some}
use Rattle.c_tree.specs.declared.run.End.{End}
use Rattle.c_tree.specs.declared.run.Picker.{Picker}
use Rattle.c_tree.specs.declared.run.Settings.{Settings}
use Rattle.c_tree.specs.Run as r
use Rattle.c_tree.specs.Plan.{IsPlanned, Progress, progress, advance}
use Rattle.world_core.specs.History.{History, core, over}
use Rattle.world_core.proofs.WorldLemmas.{core_empty}
use Rattle.drive.specs.OnWay.{IsLow, IsKept, IsOnward, OnWay, progress_at}

first_kept : (k : Settings) → IsKept (r.first k)
first_kept k = record { begins = λ h. refl; made = refl; few = omega arith }

pub way_begins : (k : Settings) (h : History) (g : Picker) → h.settings ≡ k → h.earlier ≡ [] → h.events ≡ [] → IsLow g → OnWay k g h g
way_begins k h g s one n l =
    let c : core h ≡ r.first k = core_empty h one n ∙ ap r.first s in
    record {
      same = s;
      single = one;
      kept = subst IsKept (sym c) (first_kept k);
      low = l;
      way = λ short a. ap (λ es. progress k short g (length es)) n
          ∙ (ap (λ d. let w : Progress = record { core = d; picker = g; events = [] } in w) (sym c)
          ∙ ap (λ es. let w : Progress = record { core = core h; picker = g; events = es } in w) (sym n));
    }

pub way_goes : (k : Settings) (start g g2 : Picker) (h h2 : History) → OnWay k start h g → IsOnward h h2 g g2 → OnWay k start h2 g2
way_goes k start g g2 h h2 w o =
    record {
      same = o.same ∙ w.same;
      single = o.parts ∙ w.single;
      kept = o.kept;
      low = o.low;
      way = λ short a. ap (progress k short start) (o.more ∙ add-one (length h.events))
          ∙ (ap (advance k short) (w.way short (o.earlier short a))
          ∙ (ap (λ j. advance j short (progress_at h g)) (sym w.same) ∙ o.way short a));
    }

pub way_ends : (k : Settings) (start g : Picker) (h : History) (o : Option End) → OnWay k start h g → o ≡ over h → is_some o ≡ true
    → IsPlanned k (r.is_short (core h)) start h.events
way_ends k start g h o w p s =
    let e = w.way (r.is_short (core h)) (λ b. refl) in
    record {
      count = length h.events;
      events = ap (λ x. x.events) e;
      ends = ap (λ x. is_some (r.over k x.core)) e ∙ (ap (λ j. is_some (r.over j (core h))) (sym w.same) ∙ (ap is_some (sym p) ∙ s));
    }

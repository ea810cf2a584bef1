-- A plan stays put once the run is over, so all counts after that give the same events.
use Rattle.std.proofs.Common.{◌≡◌, ◌⊎◌, inl, inr, ℕ, zero, suc, ◌+◌, ◌-◌, ◌≤◌, Bool, List, Option, Some, None, refl, sym, ap, ◌∙◌, arith}
use Rattle.std.specs.Prelude.{is_some, IsTrue}
use Rattle.c_tree.specs.declared.event.Event.{Event}
use Rattle.c_tree.specs.declared.event.EventKind.{EventKind}
use Rattle.c_tree.specs.declared.run.End.{End}
use Rattle.c_tree.specs.declared.run.Picker.{Picker}
use Rattle.c_tree.specs.declared.run.Settings.{Settings}
use Rattle.c_tree.specs.Plan.{IsPlanned, Progress, progress, advance, chosen, with_choice}
use Rattle.c_tree.specs.Run.{over}

none_where_over : (o : Option End) (x : Option EventKind) → IsTrue (is_some o) → (elim o as (λ _. Option EventKind) [ None ↦ x | Some z ↦ None ]) ≡ None
none_where_over (Some z) x h = refl
none_where_over None x h = cc

advance_stays : (k : Settings) (short : Bool) (w : Progress) → IsTrue (is_some (over k w.core)) → advance k short w ≡ w
unfolding advance
advance_stays k short w h = ap (λ x. with_choice k w x) (none_where_over (over k w.core) (chosen k short w.core w.picker) h)

way_stays : (k : Settings) (short : Bool) (g : Picker) (n d : ℕ) → IsTrue (is_some (over k (progress k short g n).core)) → progress k short g (d + n) ≡ progress k short g n
way_stays k short g n zero h = let e : 0 + n ≡ n = omega arith in ap (progress k short g) e
way_stays k short g n (suc d) h =
    let e : suc d + n ≡ suc (d + n) = omega arith in
    ap (progress k short g) e ∙ (ap (advance k short) (way_stays k short g n d h) ∙ advance_stays k short (progress k short g n) h)

later : (k : Settings) (short : Bool) (g : Picker) (n m : ℕ) → n ≤ m → IsTrue (is_some (over k (progress k short g n).core)) → progress k short g m ≡ progress k short g n
later k short g n m l h =
    let e : m ≡ m - n + n = omega arith in
    ap (progress k short g) e ∙ way_stays k short g n (m - n) h

same_way : (k : Settings) (short : Bool) (g : Picker) (n m : ℕ) → (n ≤ m) ⊎ (m ≤ n)
    → IsTrue (is_some (over k (progress k short g n).core)) → IsTrue (is_some (over k (progress k short g m).core)) → progress k short g n ≡ progress k short g m
same_way k short g n m (inl l) h i = sym (later k short g n m l h)
same_way k short g n m (inr l) h i = later k short g m n l i

one_more : (n m : ℕ) → (n ≤ m) ⊎ (m ≤ n) → (suc n ≤ suc m) ⊎ (suc m ≤ suc n)
one_more n m (inl l) = inl (omega arith)
one_more n m (inr l) = inr (omega arith)

either_way : (n m : ℕ) → (n ≤ m) ⊎ (m ≤ n)
either_way zero m = inl (omega arith)
either_way (suc n) zero = inr (omega arith)
either_way (suc n) (suc m) = one_more n m (either_way n m)

pub one_plan : (k : Settings) (short : Bool) (g : Picker) (es es' : List Event) → IsPlanned k short g es → IsPlanned k short g es' → es ≡ es'
one_plan k short g es es' p q =
    sym p.events ∙ (ap (λ w. w.events) (same_way k short g p.count q.count (either_way p.count q.count) p.ends q.ends) ∙ q.events)

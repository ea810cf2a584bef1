-- Each plan comes to an end.
use Rattle.std.proofs.Common.{◌≡◌, inl, inr, ℕ, zero, suc, ◌<◌, ◌≤◌, Bool, List, Option, Some, None, refl, sym, ap, subst, arith}
use Rattle.std.specs.Prelude.{is_some, IsTrue}
use Rattle.c_tree.specs.declared.event.Event.{Event}
use Rattle.c_tree.specs.declared.run.End.{End}
use Rattle.c_tree.specs.declared.run.Picker.{Picker}
use Rattle.c_tree.specs.declared.run.Settings.{Settings}
use Rattle.c_tree.specs.Run.{Core, over}
use Rattle.c_tree.specs.Plan.{IsPlanned, Progress, progress}
use Rattle.c_tree.proofs.ChosenLemmas.{advance-by}
use Rattle.state_laws.proofs.PlanSteps.{IsKept, IsLess, first_kept, GoesOn, goes_on, steps_left, stage_of, marks_left}

-- the core of a plan after n events
abbrev core_at : Settings → Bool → Picker → ℕ → Core
core_at k short g n = (progress k short g n).core

-- the plan comes to an end
abbrev Ends : Settings → Bool → Picker → Type 0
Ends k short g = (count : ℕ) × IsTrue (is_some (over k (core_at k short g count)))

-- one more event
after_one : (k : Settings) (short : Bool) (g : Picker) (n : ℕ) → over k (core_at k short g n) ≡ None → (w : GoesOn k short (core_at k short g n) (progress k short g n).picker)
    → core_at k short g (suc n) ≡ w.core
after_one k short g n o w =
    let p : Progress = progress k short g n in
    ap (λ q. q.core) (advance-by k short p.core w.core p.picker p.events w.kind o w.chosen w.next)

is_over : (o : Option End) (x : End) → o ≡ Some x → IsTrue (is_some o)
is_over None x h = cc
is_over (Some y) x h = refl

-- where a run isn't over, by what comes to less with its next event
record IsBound (k : Settings) (short : Bool) (g : Picker) (a b i n : ℕ) : Type 0 where
  steps : steps_left k (core_at k short g n) ≤ a
  stage : stage_of (core_at k short g n) ≤ b
  marks : marks_left (core_at k short g n) < suc i

by_less : (k : Settings) (short : Bool) (g : Picker) (a b i n : ℕ)
    → ((n : ℕ) → IsKept k (core_at k short g n) → steps_left k (core_at k short g n) < a → Ends k short g)
    → ((n : ℕ) → IsKept k (core_at k short g n) → steps_left k (core_at k short g n) ≤ a → stage_of (core_at k short g n) < b → Ends k short g)
    → ((n : ℕ) → IsKept k (core_at k short g n) → steps_left k (core_at k short g n) ≤ a → stage_of (core_at k short g n) ≤ b → marks_left (core_at k short g n) < i → Ends k short g)
    → IsBound k short g a b i n → (d : Core) → core_at k short g (suc n) ≡ d → IsKept k d → IsLess k (core_at k short g n) d → Ends k short g
by_less k short g a b i n fewer later nearer w d is kept (inl l) =
    let x : steps_left k d < a = lower (steps_left k d) (steps_left k (core_at k short g n)) a l.steps w.steps in
    fewer (suc n) (subst (IsKept k) (sym is) kept) (subst (λ y. steps_left k y < a) (sym is) x)
  where
    lower : (x y z : ℕ) → x < y → y ≤ z → x < z
    lower x y z h i = omega arith
by_less k short g a b i n fewer later nearer w d is kept (inr (inl l)) =
    let x : steps_left k d ≤ a = as_low (steps_left k d) (steps_left k (core_at k short g n)) a l.steps w.steps in
    let y : stage_of d < b = lower (stage_of d) (stage_of (core_at k short g n)) b l.stage w.stage in
    later (suc n) (subst (IsKept k) (sym is) kept) (subst (λ y. steps_left k y ≤ a) (sym is) x) (subst (λ y. stage_of y < b) (sym is) y)
  where
    as_low : (x y z : ℕ) → x ≡ y → y ≤ z → x ≤ z
    as_low x y z h i = omega arith

    lower : (x y z : ℕ) → x < y → y ≤ z → x < z
    lower x y z h i = omega arith
by_less k short g a b i n fewer later nearer w d is kept (inr (inr l)) =
    let x : steps_left k d ≤ a = as_low (steps_left k d) (steps_left k (core_at k short g n)) a l.steps w.steps in
    let y : stage_of d ≤ b = as_low (stage_of d) (stage_of (core_at k short g n)) b l.stage w.stage in
    let z : marks_left d < i = lower (marks_left d) (marks_left (core_at k short g n)) i l.marks w.marks in
    nearer (suc n) (subst (IsKept k) (sym is) kept) (subst (λ y. steps_left k y ≤ a) (sym is) x) (subst (λ y. stage_of y ≤ b) (sym is) y) (subst (λ y. marks_left y < i) (sym is) z)
  where
    as_low : (x y z : ℕ) → x ≡ y → y ≤ z → x ≤ z
    as_low x y z h i = omega arith

    lower : (x y z : ℕ) → x < y → y < suc z → x < z
    lower x y z h i = omega arith

by_over : (k : Settings) (short : Bool) (g : Picker) (a b i n : ℕ)
    → ((n : ℕ) → IsKept k (core_at k short g n) → steps_left k (core_at k short g n) < a → Ends k short g)
    → ((n : ℕ) → IsKept k (core_at k short g n) → steps_left k (core_at k short g n) ≤ a → stage_of (core_at k short g n) < b → Ends k short g)
    → ((n : ℕ) → IsKept k (core_at k short g n) → steps_left k (core_at k short g n) ≤ a → stage_of (core_at k short g n) ≤ b → marks_left (core_at k short g n) < i → Ends k short g)
    → IsKept k (core_at k short g n) → steps_left k (core_at k short g n) ≤ a → stage_of (core_at k short g n) ≤ b → marks_left (core_at k short g n) < suc i
    → (o : Option End) → over k (core_at k short g n) ≡ o → Ends k short g
by_over k short g a b i n fewer later nearer w s t m (Some x) o = (n, is_over (over k (core_at k short g n)) x o)
by_over k short g a b i n fewer later nearer w s t m None o =
    let on = goes_on k short (core_at k short g n) (progress k short g n).picker w o in
    by_less k short g a b i n fewer later nearer (record { steps = s; stage = t; marks = m }) on.core (after_one k short g n o on) on.kept on.less

-- by the number of marks, where fewer Steps or a later stage lead to an end
by_marks : (k : Settings) (short : Bool) (g : Picker) (a b : ℕ)
    → ((n : ℕ) → IsKept k (core_at k short g n) → steps_left k (core_at k short g n) < a → Ends k short g)
    → ((n : ℕ) → IsKept k (core_at k short g n) → steps_left k (core_at k short g n) ≤ a → stage_of (core_at k short g n) < b → Ends k short g)
    → (i n : ℕ) → IsKept k (core_at k short g n) → steps_left k (core_at k short g n) ≤ a → stage_of (core_at k short g n) ≤ b → marks_left (core_at k short g n) < i → Ends k short g
by_marks k short g a b fewer later zero n w s t m = absurd (omega (arith, m))
by_marks k short g a b fewer later (suc i) n w s t m = by_over k short g a b i n fewer later (by_marks k short g a b fewer later i) w s t m (over k (core_at k short g n)) refl

-- by the stage, where fewer Steps lead to an end
by_stage : (k : Settings) (short : Bool) (g : Picker) (a : ℕ) → ((n : ℕ) → IsKept k (core_at k short g n) → steps_left k (core_at k short g n) < a → Ends k short g)
    → (b n : ℕ) → IsKept k (core_at k short g n) → steps_left k (core_at k short g n) ≤ a → stage_of (core_at k short g n) ≤ b → Ends k short g
by_stage k short g a fewer zero n w s t =
    by_marks k short g a 0 fewer (λ m v r q. absurd (omega (arith, q))) (suc (marks_left (core_at k short g n))) n w s t (omega arith)
by_stage k short g a fewer (suc b) n w s t =
    by_marks k short g a (suc b) fewer (λ m v r q. by_stage k short g a fewer b m v r (omega (arith, q))) (suc (marks_left (core_at k short g n))) n w s t (omega arith)

-- by the number of Steps
by_steps : (k : Settings) (short : Bool) (g : Picker) (a n : ℕ) → IsKept k (core_at k short g n) → steps_left k (core_at k short g n) ≤ a → Ends k short g
by_steps k short g zero n w s = by_stage k short g 0 (λ m v r. absurd (omega (arith, r))) (stage_of (core_at k short g n)) n w s (omega arith)
by_steps k short g (suc a) n w s = by_stage k short g (suc a) (λ m v r. by_steps k short g a m v (omega (arith, r))) (stage_of (core_at k short g n)) n w s (omega arith)

plan_ends : (k : Settings) (short : Bool) (g : Picker) → Ends k short g
plan_ends k short g = by_steps k short g (steps_left k (core_at k short g 0)) 0 (first_kept k) (omega arith)

pub plan_has_a_list : (k : Settings) (short : Bool) (g : Picker) → (es : List Event) × IsPlanned k short g es
plan_has_a_list k short g =
    let ends = plan_ends k short g in
    ((progress k short g ends.0).events, record { count = ends.0; events = refl; ends = ends.1 })

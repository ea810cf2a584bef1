-- More fuel leads the target machine to the same core, so its run leads to one.
use Rattle.std.proofs.Common.{◌≡◌, ℕ, ◌+◌, ◌≤◌, List, [], ◌∷◌, Option, Some, None, refl, ap, ◌∙◌, arith}
use Rattle.std.specs.Prelude.{true, false, fold, slice_get}
use Rattle.std.specs.Option.{option_and_then}
use Rattle.c_tree.specs.declared.event.Event.{Event}
use Rattle.c_tree.specs.declared.event.EventKind.{EventKind}
use Rattle.c_tree.specs.declared.event.EventKind.TheVariants as e
use Rattle.c_tree.specs.declared.run.Settings.{Settings}
use Rattle.target_code.specs.Machine.{Machine, Setting, Ran, Stopped, Trapped, Ended, Finished, Unwound, Blocked, Unfinished, Stuck, go, advance, machine_of, rebuilds}
use Rattle.target_code.specs.Target.{Target}
use Rattle.target_code.specs.TargetRun.{TargetCore, setting_of, after_turn, after_unwinding, after_rebuilding, live_in, target_first, target_next, target_after, target_run}
use Rattle.target_laws.proofs.Over.{IsOver, longer}
use Rattle.target_laws.specs.Laws as law

turn_over : (c : TargetCore) (t : ℕ) (x : Target) (r : Ran) (d : TargetCore) → after_turn c t x r ≡ Some d → IsOver r
turn_over c t x (Stopped m) d e = tt
turn_over c t x (Ended memory n) d e = tt
turn_over c t x (Trapped cause n) d e = tt
turn_over c t x (Finished status n) d e = tt
turn_over c t x (Unwound saved memory n) d e = tt
turn_over c t x Blocked d e = tt
turn_over c t x Unfinished d e = cc
turn_over c t x Stuck d e = tt

unwinding_over : (c : TargetCore) (t : ℕ) (x : Target) (r : Ran) (d : TargetCore) → after_unwinding c t x r ≡ Some d → IsOver r
unwinding_over c t x (Unwound saved memory n) d e = tt
unwinding_over c t x Unfinished d e = cc
unwinding_over c t x _ d e = tt

rebuilding_over : (c : TargetCore) (t : ℕ) (x : Target) (r : Ran) (d : TargetCore) → after_rebuilding c t x r ≡ Some d → IsOver r
rebuilding_over c t x (Stopped m) d e = tt
rebuilding_over c t x Unfinished d e = cc
rebuilding_over c t x _ d e = tt

-- what is done with a run that is over is done with a longer one
with_longer : (w : Setting) (m n : ℕ) (b : Machine) (d : TargetCore) (f : Ran → Option TargetCore)
    → ((r : Ran) → f r ≡ Some d → IsOver r) → m ≤ n → f (go w m b) ≡ Some d → f (go w n b) ≡ Some d
with_longer w m n b d f over le e = ap f (longer w m n b le (over (go w m b) e)) ∙ e

-- a core where there is one
abbrev pub Keeps : Option TargetCore → Option TargetCore → Type 0
Keeps a b = (c : TargetCore) → a ≡ Some c → b ≡ Some c

on_live : (o : Option Target) (f g : Target → Option TargetCore) → ((x : Target) → Keeps (f x) (g x)) → Keeps (option_and_then f o) (option_and_then g o)
on_live None f g h c e = e
on_live (Some x) f g h c e = h x c e

pub next_longer : (m n : ℕ) (k : Settings) (c : TargetCore) (kind : EventKind) → m ≤ n → Keeps (target_next m k c kind) (target_next n k c kind)
unfolding target_next
next_longer m n k c (e.Step t) le =
    on_live (live_in (slice_get c.threads t)) _ _ (λ x d. with_longer (setting_of c t false) m n (advance (machine_of x c.memory)) d (after_turn c t x) (λ r. turn_over c t x r d) le)
next_longer m n k c e.Request le = λ d h. h
next_longer m n k c (e.Park t) le =
    on_live (live_in (slice_get c.threads t)) _ _ (λ x d. with_longer (setting_of c t true) m n (advance (machine_of x c.memory)) d (after_unwinding c t x) (λ r. unwinding_over c t x r d) le)
next_longer m n k c e.Update le = λ d h. h
next_longer m n k c (e.Refuse r) le = λ d h. h
next_longer m n k c (e.Resume t) le =
    on_live (live_in (slice_get c.threads t)) _ _ (λ x d. with_longer (setting_of c t false) m n (rebuilds c.code x c.memory) d (after_rebuilding c t x) (λ r. rebuilding_over c t x r d) le)

after_longer : (m n : ℕ) (k : Settings) (a b : Option TargetCore) (x : Event) → m ≤ n → Keeps a b → Keeps (target_after m k a x) (target_after n k b x)
after_longer m n k None b x le h c q = cc
after_longer m n k (Some d) b x le h c q = ap (λ o. target_after n k o x) (h d refl) ∙ next_longer m n k d x.kind le c q

events_longer : (m n : ℕ) (k : Settings) (a b : Option TargetCore) (es : List Event) → m ≤ n → Keeps a b → Keeps (fold (target_after m k) a es) (fold (target_after n k) b es)
events_longer m n k a b [] le h = h
events_longer m n k a b (x ∷ es) le h = events_longer m n k (target_after m k a x) (target_after n k b x) es le (after_longer m n k a b x le h)

-- more fuel leads to the same core
pub more_fuel : law.MoreFuelIsTheSame
more_fuel m n k es c le = events_longer m n k (Some (target_first k)) (Some (target_first k)) es le (λ d h. h) c

one_core : (o : Option TargetCore) (c d : TargetCore) → o ≡ Some c → o ≡ Some d → c ≡ d
one_core o c d a b = cc

-- two runs of one list of events lead to one core
pub one_target : law.RunsHaveOneTarget
one_target k es c d a b =
    let both = a.fuel + b.fuel in
    one_core (target_run both k es) c d (more_fuel a.fuel both k es c (omega arith) a.leads) (more_fuel b.fuel both k es d (omega arith) b.leads)

-- An event that may not come is not legal.
use Rattle.std.proofs.Common.{◌≡◌, ℕ, Bool, true, false, not, ◌&&◌, Option, Some, None, refl, ap, sym, ◌∙◌}
use Rattle.std.specs.Prelude.{is_some, if◌then◌else◌, Result, Ok, Err, OnErr}
use Rattle.c_tree.specs.declared.event.EventKind.{EventKind}
use Rattle.c_tree.specs.declared.event.EventKind.TheVariants as e
use Rattle.c_tree.specs.declared.lifted.Lifted.{Lifted}
use Rattle.c_tree.specs.declared.place.Places.{Places}
use Rattle.c_tree.specs.declared.run.End.{End}
use Rattle.c_tree.specs.declared.run.Settings.{Settings}
use Rattle.c_tree.specs.Run as r
use Rattle.c_tree.specs.Step.{step}
use Rattle.plain_run.specs.Decision.{IsOutcome}
use Rattle.plain_run.specs.CoreAt.{core_at, present}
use Rattle.plain_run.specs.Made.{Keeps, on}
use Rattle.plain_run.specs.declared.now.Now.{Now}

stop : (o : Option End) (b : Bool) (c : r.Core) → (not (is_some o) && b) ≡ false → r.while_on o (r.legal b c) ≡ None
stop None true c h = cc
stop None false c h = refl
stop (Some x) b c h = refl

pub bad-Step : (k : Settings) (c : r.Core) (t : ℕ) → on k c (r.may_step k c t) ≡ false → r.next k c (e.Step t) ≡ None
unfolding r.next
bad-Step k c t m = stop (r.over k c) (r.may_step k c t) (r.stepped c t (step c.program t c.state)) m

pub bad-Request : (k : Settings) (c : r.Core) → on k c (r.is_due k c) ≡ false → r.next k c e.Request ≡ None
unfolding r.next
bad-Request k c m = stop (r.over k c) (r.is_due k c) _ m

pub bad-Park : (k : Settings) (c : r.Core) (t : ℕ) → on k c (r.may_park c t) ≡ false → r.next k c (e.Park t) ≡ None
unfolding r.next
bad-Park k c t m = stop (r.over k c) (r.may_park c t) _ m

pub bad-Resume : (k : Settings) (c : r.Core) (t : ℕ) → on k c (r.may_resume c t) ≡ false → r.next k c (e.Resume t) ≡ None
unfolding r.next
bad-Resume k c t m = stop (r.over k c) (r.may_resume c t) _ m

stop_if : (o : Option End) (b : Bool) (x : Option r.Core) → (not (is_some o) && b) ≡ false → r.while_on o (if b then x else None) ≡ None
stop_if None true x h = cc
stop_if None false x h = refl
stop_if (Some y) b x h = refl

stop_and : (o : Option End) (a b : Bool) (c : r.Core) → (not (is_some o) && a) ≡ false → r.while_on o (r.legal (a && b) c) ≡ None
stop_and None true b c h = cc
stop_and None false b c h = refl
stop_and (Some x) a b c h = refl

-- an outcome that may not come
pub bad-outcome : (k : Settings) (c : r.Core) (kind : EventKind) → IsOutcome kind → on k c (r.may_decide c) ≡ false → r.next k c kind ≡ None
unfolding r.next
bad-outcome k c (e.Step t) i m = absurd i
bad-outcome k c e.Request i m = absurd i
bad-outcome k c (e.Park t) i m = absurd i
bad-outcome k c (e.Resume t) i m = absurd i
bad-outcome k c e.Update i m = stop_if (r.over k c) (r.may_decide c) (r.updated k c (r.decided k c)) m
bad-outcome k c (e.Refuse x) i m = stop_and (r.over k c) (r.may_decide c) (r.may_refuse k c x) _ m

-- nothing may come where the run is over
pub is_off : (k : Settings) (c : r.Core) (b o : Bool) → o ≡ not (is_some (r.over k c)) → o ≡ false → on k c b ≡ false
is_off k c b o e f = ap (λ x. x && b) (sym e ∙ f)

-- and where a test fails
pub is_barred : (k : Settings) (c : r.Core) (b : Bool) → b ≡ false → on k c b ≡ false
is_barred k c b e = ap (λ x. not (is_some (r.over k c)) && x) e ∙ never (not (is_some (r.over k c)))
  where
    never : (x : Bool) → (x && false) ≡ false
    never true = refl
    never false = refl

-- where it is on and a test holds
pub is_open : (k : Settings) (c : r.Core) (b o : Bool) → o ≡ not (is_some (r.over k c)) → o ≡ true → b ≡ true → on k c b ≡ true
is_open k c b o e f g = ap (λ x. x && b) (sym e ∙ f) ∙ g

-- a fact in the clause of an error
pub on_err : {A E P : Type 0} (x : Result A E) → P → OnErr x P
on_err (Ok a) p = tt
on_err (Err b) p = p

-- where the core of each program stays, all stays
pub keeps_core : (k : Settings) (ps : Places) (now now2 : Now) → ((p : Lifted) → core_at p now2 ≡ core_at p now) → Keeps k ps now ps now2
keeps_core k ps now now2 cp =
    let ph : now2.phase ≡ now.phase = ap (λ c. c.phase) (cp k.program) in
    record { places = refl; core = ap (λ p. core_at (present p k.armed k.program) now2) ph ∙ cp (present now.phase k.armed k.program) }

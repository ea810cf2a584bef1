-- What it takes for an event to be legal, and the core that it leads to.
use Rattle.std.proofs.Common.{◌≡◌, ℕ, Bool, true, false, ◌&&◌, List, [], ◌∷◌, ◌++◌, Option, Some, None, Result, Ok, Err, fold, refl, sym, ◌∙◌}
use Rattle.std.specs.Prelude.{if◌then◌else◌}
use Rattle.std.proofs.lemmas.List.Sums.{fold-append}
use Rattle.c_tree.specs.declared.event.Event.{Event}
use Rattle.c_tree.specs.declared.event.EventKind.{EventKind}
use Rattle.c_tree.specs.declared.event.EventKind.TheVariants as e
use Rattle.c_tree.specs.declared.event.Reason.{Reason}
use Rattle.c_tree.specs.declared.run.End.{End}
use Rattle.c_tree.specs.declared.run.Phase.TheVariants as phase
use Rattle.c_tree.specs.declared.run.Settings.{Settings}
use Rattle.c_tree.specs.declared.state.State.{State}
use Rattle.c_tree.specs.Step.{step}
use Rattle.c_tree.specs.Run.{Core, after, run_from, next, over, table, while_on, legal, stepped, decided, updated, new_program, may_decide, may_step, may_park, may_resume, is_due, may_refuse, without}
use Rattle.c_tree.proofs.BoolLemmas.{and_first, and_last}

on_none : (o : Option End) (x : Option Core) (d : Core) → while_on o x ≡ Some d → o ≡ None
on_none None x d h = refl
on_none (Some y) x d h = cc

on_table : (o : Option End) (x : Option Core) (d : Core) → while_on o x ≡ Some d → x ≡ Some d
on_table None x d h = h
on_table (Some y) x d h = cc

while_none : (o : Option End) (x : Option Core) → o ≡ None → while_on o x ≡ x
while_none None x h = refl
while_none (Some y) x h = cc

pub over_none : (k : Settings) (c d : Core) (x : EventKind) → next k c x ≡ Some d → over k c ≡ None
unfolding next
over_none k c d x h = on_none (over k c) (table k c x) d h

pub table_of : (k : Settings) (c d : Core) (x : EventKind) → next k c x ≡ Some d → table k c x ≡ Some d
unfolding next
table_of k c d x h = on_table (over k c) (table k c x) d h

pub next_is : (k : Settings) (c : Core) (x : EventKind) → over k c ≡ None → next k c x ≡ table k c x
unfolding next
next_is k c x h = while_none (over k c) (table k c x) h

legal_is : (b : Bool) (c d : Core) → legal b c ≡ Some d → (b ≡ true) × (d ≡ c)
legal_is true c d h = (refl, cc)
legal_is false c d h = cc

pub legal_true : (b : Bool) (c : Core) → b ≡ true → legal b c ≡ Some c
legal_true true c h = refl
legal_true false c h = cc

pub request_is : (k : Settings) (c d : Core) → next k c e.Request ≡ Some d → (is_due k c ≡ true) × (d ≡ record c { phase = phase.Asked })
request_is k c d h = legal_is (is_due k c) (record c { phase = phase.Asked }) d (table_of k c d e.Request h)

pub step_is : (k : Settings) (c d : Core) (t : ℕ) → next k c (e.Step t) ≡ Some d → (may_step k c t ≡ true) × (d ≡ stepped c t (step c.program t c.state))
step_is k c d t h = legal_is (may_step k c t) (stepped c t (step c.program t c.state)) d (table_of k c d (e.Step t) h)

pub park_is : (k : Settings) (c d : Core) (t : ℕ) → next k c (e.Park t) ≡ Some d → (may_park c t ≡ true) × (d ≡ record c { parked = t ∷ c.parked })
park_is k c d t h = legal_is (may_park c t) (record c { parked = t ∷ c.parked }) d (table_of k c d (e.Park t) h)

pub resume_is : (k : Settings) (c d : Core) (t : ℕ) → next k c (e.Resume t) ≡ Some d → (may_resume c t ≡ true) × (d ≡ record c { parked = without t c.parked })
resume_is k c d t h = legal_is (may_resume c t) (record c { parked = without t c.parked }) d (table_of k c d (e.Resume t) h)

refuse_is : (k : Settings) (c d : Core) (r : Reason) → next k c (e.Refuse r) ≡ Some d
    → ((may_decide c && may_refuse k c r) ≡ true) × (d ≡ record c { phase = phase.Refused r })
refuse_is k c d r h = legal_is (may_decide c && may_refuse k c r) (record c { phase = phase.Refused r }) d (table_of k c d (e.Refuse r) h)

-- an update was refused: why it may be
pub record IsRefused (k : Settings) (c d : Core) (r : Reason) : Type 0 where
  pub may : may_decide c ≡ true
  pub why : may_refuse k c r ≡ true
  pub is : d ≡ record c { phase = phase.Refused r }

pub refused : (k : Settings) (c d : Core) (r : Reason) → next k c (e.Refuse r) ≡ Some d → IsRefused k c d r
refused k c d r h =
    let both = refuse_is k c d r h in
    record { may = and_first (may_decide c) _ both.0; why = and_last (may_decide c) (may_refuse k c r) both.0; is = both.1 }

-- an update was made
pub record IsUpdated (k : Settings) (c d : Core) : Type 0 where
  pub may : may_decide c ≡ true
  pub state : State
  pub decides : decided k c ≡ Ok state
  pub is : d ≡ record c { program = new_program k c; state = state; phase = phase.Updated }

updated_of : (k : Settings) (c d : Core) (b : Bool) (r : Result State Reason) → may_decide c ≡ b → decided k c ≡ r → (if b then updated k c r else None) ≡ Some d → IsUpdated k c d
updated_of k c d true (Ok s) m r h = record { may = m; state = s; decides = r; is = cc }
updated_of k c d true (Err x) m r h = cc
updated_of k c d false r m s h = cc

pub update_is : (k : Settings) (c d : Core) → next k c e.Update ≡ Some d → IsUpdated k c d
update_is k c d h = updated_of k c d (may_decide c) (decided k c) refl refl (table_of k c d e.Update h)

none_runs : (k : Settings) (es : List Event) (d : Core) → fold (after k) None es ≡ Some d → ⊥
none_runs k [] d h = cc
none_runs k (x ∷ es) d h = none_runs k es d h

-- a run of at least one event, by its first event and the rest
pub record IsRunOn (k : Settings) (c d : Core) (x : Event) (es : List Event) : Type 0 where
  pub between : Core
  pub first : next k c x.kind ≡ Some between
  pub rest : run_from k between es ≡ Some d

run_on : (k : Settings) (c d : Core) (x : Event) (es : List Event) (o : Option Core) → next k c x.kind ≡ o → fold (after k) o es ≡ Some d → IsRunOn k c d x es
run_on k c d x es None n h = absurd (none_runs k es d h)
run_on k c d x es (Some b) n h = record { between = b; first = n; rest = h }

pub run_cons : (k : Settings) (c d : Core) (x : Event) (es : List Event) → run_from k c (x ∷ es) ≡ Some d → IsRunOn k c d x es
run_cons k c d x es h = run_on k c d x es (next k c x.kind) refl h

-- what each event keeps holds after a run
pub run_keeps : (P : Core → Type 0) (k : Settings) → ((c d : Core) (x : EventKind) → P c → next k c x ≡ Some d → P d) → (es : List Event) (c d : Core) → P c → run_from k c es ≡ Some d → P d
run_keeps P k keeps [] c d p h = let same : c ≡ d = cc in subst_core P c d same p
  where
    subst_core : (P : Core → Type 0) (c d : Core) → c ≡ d → P c → P d
    subst_core P c d s p = rw (← s) p
run_keeps P k keeps (x ∷ es) c d p h =
    let on = run_cons k c d x es h in
    run_keeps P k keeps es on.between d (keeps c on.between x.kind p on.first) on.rest

-- a run of two parts
pub record IsSplit (k : Settings) (c d : Core) (front back : List Event) : Type 0 where
  pub between : Core
  pub first : run_from k c front ≡ Some between
  pub rest : run_from k between back ≡ Some d

split_of : (k : Settings) (c d : Core) (front back : List Event) (o : Option Core) → run_from k c front ≡ o → fold (after k) o back ≡ Some d → IsSplit k c d front back
split_of k c d front back None n h = absurd (none_runs k back d h)
split_of k c d front back (Some b) n h = record { between = b; first = n; rest = h }

pub run_split : (k : Settings) (c d : Core) (front back : List Event) → run_from k c (front ++ back) ≡ Some d → IsSplit k c d front back
run_split k c d front back h = split_of k c d front back (run_from k c front) refl (sym (fold-append (after k) (Some c) front back) ∙ h)

-- What may come next while an update is asked for, and where a Request stands.
use Rattle.std.proofs.Common.{◌≡◌, ◌⊎◌, inl, inr, ℕ, Bool, true, false, not, ◌&&◌, ◌||◌, ◌==◌, List, [], ◌∷◌, Option, Some, None, Result, Ok, Err, refl, sym, ap, ◌∙◌}
use Rattle.std.specs.Prelude.{filter, cond, is_some, if◌then◌else◌}
use Rattle.std.specs.List.{list_all}
use Rattle.c_tree.specs.declared.event.Event.{Event}
use Rattle.c_tree.specs.declared.event.EventKind.{EventKind}
use Rattle.c_tree.specs.declared.event.EventKind.TheVariants as e
use Rattle.c_tree.specs.declared.event.Reason.{Reason}
use Rattle.c_tree.specs.declared.event.Reason.TheVariants as why
use Rattle.c_tree.specs.declared.lifted.LStmt.TheVariants as stmt
use Rattle.c_tree.specs.declared.lifted.Lifted.{Lifted}
use Rattle.c_tree.specs.declared.place.Act.{Act}
use Rattle.c_tree.specs.declared.place.Act.TheVariants.{Do}
use Rattle.c_tree.specs.declared.run.Armed.{Armed}
use Rattle.c_tree.specs.declared.run.Phase.{Phase}
use Rattle.c_tree.specs.declared.run.Phase.TheVariants as phase
use Rattle.c_tree.specs.declared.run.Settings.{Settings}
use Rattle.c_tree.specs.declared.state.Frame.{Frame}
use Rattle.c_tree.specs.declared.state.State.{State}
use Rattle.c_tree.specs.Able.{able, standing, waits, is_update_place}
use Rattle.c_tree.specs.Step.{is_live, at_frame, top_of, frames_at, step}
use Rattle.c_tree.specs.Update.{update}
use Rattle.c_tree.specs.Run.{Core, first, next, over, run, legal, decided, updated, threads, live_threads, is_due, is_at, is_before, is_asked, is_after, is_parked, may_step, may_park, may_decide, may_refuse, may_resume, is_memory, is_same_reason, refuses}
use Rattle.state_laws.specs.RunLaws.{is_outcome, is_of_gate, IsLegal, Decides}
use Rattle.c_tree.proofs.BoolLemmas.{true_false, and_first, and_last, and_both, first_false, last_false, by_test, same_number, number_is}
use Rattle.state_laws.proofs.Legal.{next_is, legal_true, run_keeps, request_is, step_is, park_is, update_is, refused, resume_is}
use Rattle.state_laws.proofs.ParkedStand.{due_parts, step_parts, park_parts, decide_asked, live_of_standing, live_parked}
use Rattle.state_laws.proofs.Counts.{phase_stepped}

-- equal reasons
pub same_reason : (r : Reason) → is_same_reason r r ≡ true
same_reason (why.Unmapped a b) = and_both (a == a) (b == b) (same_number a) (same_number b)
same_reason (why.Held a) = same_number a
same_reason (why.Removed a) = same_number a
same_reason (why.Check a b) = and_both (a == a) (b == b) (same_number a) (same_number b)
same_reason (why.Global a b) = and_both (a == a) (b == b) (same_number a) (same_number b)
same_reason (why.Field a b c) = and_both (a == a && b == b) (c == c) (and_both (a == a) (b == b) (same_number a) (same_number b)) (same_number c)
same_reason (why.Slot a b c d) =
    and_both (a == a && b == b && c == c) (d == d) (and_both (a == a && b == b) (c == c) (and_both (a == a) (b == b) (same_number a) (same_number b)) (same_number c)) (same_number d)
same_reason why.Memory = refl
same_reason (why.Depth a) = same_number a

reason_is : (x y : Reason) → is_same_reason x y ≡ true → x ≡ y
reason_is (why.Unmapped a b) (why.Unmapped c d) h =
    ap (λ n. why.Unmapped n b) (number_is a c (and_first (a == c) (b == d) h)) ∙ ap (λ n. why.Unmapped c n) (number_is b d (and_last (a == c) (b == d) h))
reason_is (why.Held a) (why.Held b) h = ap why.Held (number_is a b h)
reason_is (why.Removed a) (why.Removed b) h = ap why.Removed (number_is a b h)
reason_is (why.Check a b) (why.Check c d) h =
    ap (λ n. why.Check n b) (number_is a c (and_first (a == c) (b == d) h)) ∙ ap (λ n. why.Check c n) (number_is b d (and_last (a == c) (b == d) h))
reason_is (why.Global a b) (why.Global c d) h =
    ap (λ n. why.Global n b) (number_is a c (and_first (a == c) (b == d) h)) ∙ ap (λ n. why.Global c n) (number_is b d (and_last (a == c) (b == d) h))
reason_is (why.Field a b c) (why.Field d f g) h =
    let most = and_first (a == d && b == f) (c == g) h in
    ap (λ n. why.Field n b c) (number_is a d (and_first (a == d) (b == f) most))
    ∙ (ap (λ n. why.Field d n c) (number_is b f (and_last (a == d) (b == f) most)) ∙ ap (λ n. why.Field d f n) (number_is c g (and_last (a == d && b == f) (c == g) h)))
reason_is (why.Slot a b c d) (why.Slot f g i j) h =
    let most = and_first (a == f && b == g && c == i) (d == j) h in
    let first = and_first (a == f && b == g) (c == i) most in
    ap (λ n. why.Slot n b c d) (number_is a f (and_first (a == f) (b == g) first))
    ∙ (ap (λ n. why.Slot f n c d) (number_is b g (and_last (a == f) (b == g) first))
    ∙ (ap (λ n. why.Slot f g n d) (number_is c i (and_last (a == f && b == g) (c == i) most)) ∙ ap (λ n. why.Slot f g i n) (number_is d j (and_last (a == f && b == g && c == i) (d == j) h))))
reason_is why.Memory why.Memory h = refl
reason_is (why.Depth a) (why.Depth b) h = ap why.Depth (number_is a b h)
reason_is _ _ h = cc

-- a run that is past its Request is armed
pub record IsAsked (k : Settings) (c : Core) : Type 0 where
  pub armed : is_before c.phase ≡ false → is_some k.armed ≡ true

at_armed : (o : Option Armed) (n : ℕ) → is_at o n ≡ true → is_some o ≡ true
at_armed None n h = cc
at_armed (Some a) n h = refl

asked_not_before : (p : Phase) → p ≡ phase.Asked → is_before p ≡ false
asked_not_before p h = ap is_before h

pub event_asked : (k : Settings) (c d : Core) (x : EventKind) → IsAsked k c → next k c x ≡ Some d → IsAsked k d
event_asked k c d e.Request w h = record { armed = λ _. at_armed k.armed c.steps (due_parts k c (request_is k c d h).0).at }
event_asked k c d (e.Step t) w h =
    let o = step c.program t c.state in
    record { armed = λ b. w.armed (sym (ap is_before (ap (λ y. y.phase) (step_is k c d t h).1 ∙ phase_stepped c t o)) ∙ b) }
event_asked k c d (e.Park t) w h = record { armed = λ b. w.armed (sym (ap (λ y. is_before y.phase) (park_is k c d t h).1) ∙ b) }
event_asked k c d e.Update w h = record { armed = λ _. w.armed (asked_not_before c.phase (decide_asked c (update_is k c d h).may)) }
event_asked k c d (e.Refuse r) w h = record { armed = λ _. w.armed (asked_not_before c.phase (decide_asked c (refused k c d r h).may)) }
event_asked k c d (e.Resume t) w h = record { armed = λ b. w.armed (sym (ap (λ y. is_before y.phase) (resume_is k c d t h).1) ∙ b) }

pub asked_armed : (k : Settings) (es : List Event) (c : Core) → run k es ≡ Some c → is_before c.phase ≡ false → is_some k.armed ≡ true
asked_armed k es c h b = (run_keeps (IsAsked k) k (event_asked k) es (first k) c (record { armed = λ n. absurd (true_false n) }) h).armed b

the_armed : (o : Option Armed) → is_some o ≡ true → (a : Armed) × (o ≡ Some a)
the_armed None h = cc
the_armed (Some a) h = (a, refl)

-- what an armed update decides
pub decided_as : (k : Settings) (c : Core) (a : Armed) → k.armed ≡ Some a → decided k c ≡ update a.patch c.state
decided_as k c a h = ap (λ o. elim o as (λ _. Result State Reason) [ None ↦ Err why.Memory | Some x ↦ update x.patch c.state ]) h

-- what may come where the outcome may
update_goes : (k : Settings) (c : Core) (b : Bool) (r : Result State Reason) (s : State) → b ≡ true → r ≡ Ok s → (d : Core) × ((if b then updated k c r else None) ≡ Some d)
update_goes k c true (Ok x) s h i = (_, refl)
update_goes k c true (Err x) s h i = cc
update_goes k c false r s h i = cc

update_stops : (k : Settings) (c : Core) (b : Bool) (r : Result State Reason) (x : Reason) → r ≡ Err x → (if b then updated k c r else None) ≡ None
update_stops k c true (Ok s) x h = cc
update_stops k c true (Err y) x h = refl
update_stops k c false r x h = refl

pub may_update : (k : Settings) (c : Core) (s : State) → over k c ≡ None → may_decide c ≡ true → decided k c ≡ Ok s → IsLegal k c e.Update
may_update k c s o m r =
    let go = update_goes k c (may_decide c) (decided k c) s m r in
    (go.0, next_is k c e.Update o ∙ go.1)

refuse_parts : (a m b : Bool) → a ≡ true → (m ≡ true) ⊎ (b ≡ true) → (a && (m || b)) ≡ true
refuse_parts true true b h i = refl
refuse_parts true false true h i = refl
refuse_parts true false false h (inl i) = cc
refuse_parts true false false h (inr i) = cc
refuse_parts false m b h i = cc

pub may_refuse_for : (k : Settings) (c : Core) (r : Reason) → over k c ≡ None → may_decide c ≡ true → is_some k.armed ≡ true → (is_memory r ≡ true) ⊎ (refuses r (decided k c) ≡ true)
    → IsLegal k c (e.Refuse r)
may_refuse_for k c r o m a i = (
  record c { phase = phase.Refused r },
  next_is k c (e.Refuse r) o
      ∙ legal_true (may_decide c && may_refuse k c r) (record c { phase = phase.Refused r })
      (and_both (may_decide c) (may_refuse k c r) m (refuse_parts (is_some k.armed) (is_memory r) (refuses r (decided k c)) a i)),
)

not_legal : (b : Bool) (c : Core) → b ≡ false → legal b c ≡ None
not_legal true c h = cc
not_legal false c h = refl

neither : (a m b : Bool) → m ≡ false → b ≡ false → (a && (m || b)) ≡ false
neither true true b h i = cc
neither true false b h i = i
neither false m b h i = refl

refuses_is : (r : Reason) (x : Result State Reason) → refuses r x ≡ true → x ≡ Err r
refuses_is r (Ok s) h = cc
refuses_is r (Err y) h = ap (λ z. let q : Result State Reason = Err z in q) (sym (reason_is r y h))

pub undue : (k : Settings) (c : Core) → is_before c.phase ≡ false → is_due k c ≡ false
undue k c b = by_test (is_due k c) (λ d. true_false (sym (ap is_before (due_parts k c d).before) ∙ b))

able_live : (c : Core) (t : ℕ) → able c.program c.state t ≡ true → is_live c.state t ≡ true
able_live c t h = and_first (is_live c.state t) _ h

no_step : (k : Settings) (c : Core) (t : ℕ) → may_decide c ≡ true → may_step k c t ≡ false
no_step k c t m = by_test (may_step k c t) (λ s.
    let parts = step_parts k c t s in
    true_false (sym (live_parked c t m (able_live c t parts.able)) ∙ parts.free))

no_park : (c : Core) (t : ℕ) → may_decide c ≡ true → may_park c t ≡ false
no_park c t m = by_test (may_park c t) (λ p.
    let parts = park_parts c t p in
    true_false (sym (live_parked c t m (live_of_standing c t parts.stands)) ∙ parts.free))

after_asked : (p : Phase) → p ≡ phase.Asked → is_after p ≡ false
after_asked p h = ap is_after h

no_other : (k : Settings) (c : Core) (x : EventKind) → over k c ≡ None → may_decide c ≡ true → is_outcome x ≡ false → next k c x ≡ None
no_other k c e.Request o m h = next_is k c e.Request o ∙ not_legal (is_due k c) _ (undue k c (ap is_before (decide_asked c m)))
no_other k c (e.Step t) o m h = next_is k c (e.Step t) o ∙ not_legal (may_step k c t) _ (no_step k c t m)
no_other k c (e.Park t) o m h = next_is k c (e.Park t) o ∙ not_legal (may_park c t) _ (no_park c t m)
no_other k c e.Update o m h = cc
no_other k c (e.Refuse r) o m h = cc
no_other k c (e.Resume t) o m h = next_is k c (e.Resume t) o ∙ not_legal (may_resume c t) _ (first_false (is_after c.phase) (is_parked c t) (ap is_after (decide_asked c m)))

pub gate_decides : (k : Settings) (es : List Event) (c : Core) → run k es ≡ Some c → over k c ≡ None → may_decide c ≡ true → Decides k c
gate_decides k es c h o m =
    let some = asked_armed k es c h (asked_not_before c.phase (decide_asked c m)) in
    let found = the_armed k.armed some in
    let same = decided_as k c found.0 found.1 in
    record {
      armed = found.0;
      arms = found.1;
      accepts = λ s u. may_update k c s o m (same ∙ u);
      refuses = λ r u. may_refuse_for k c r o m some (inr (ap (refuses r) (same ∙ u) ∙ same_reason r));
      memory = may_refuse_for k c why.Memory o m some (inl refl);
      no_update = λ r u. next_is k c e.Update o ∙ update_stops k c (may_decide c) (decided k c) r (same ∙ u);
      no_refusal = λ r n u. next_is k c (e.Refuse r) o
          ∙ not_legal (may_decide c && may_refuse k c r) (record c { phase = phase.Refused r })
          (last_false (may_decide c) (may_refuse k c r) (neither (is_some k.armed) (is_memory r) (refuses r (decided k c))
          (by_test (is_memory r) (λ i. n (reason_is r why.Memory i)))
          (by_test (refuses r (decided k c)) (λ i. u (sym same ∙ refuses_is r (decided k c) i)))));
      no_other = λ x n. no_other k c x o m n;
    }

-- while an update is asked for, some event may come
waits_there : (s : State) (t : ℕ) (f : Frame) (a : Act) → is_update_place a ≡ false → waits s t f a ≡ false
waits_there s t f (Do (stmt.Lock m)) h = cc
waits_there s t f (Do (stmt.Join e)) h = cc
waits_there s t f _ h = refl

able_of : (l u w : Bool) → l ≡ true → (l && u) ≡ false → (u ≡ false → w ≡ false) → (l && not w) ≡ true
able_of true false w l h f = ap not (f refl)
able_of true true w l h f = cc
able_of false u w l h f = cc

pub live_able : (p : Lifted) (s : State) (t : ℕ) → is_live s t ≡ true → standing p s t ≡ false → able p s t ≡ true
live_able p s t l h =
    let f = top_of (frames_at s t) in
    able_of (is_live s t) (is_update_place (at_frame p f).act) (waits s t f (at_frame p f).act) l h (waits_there s t f (at_frame p f).act)

pub may_of : (d a p g : Bool) → d ≡ false → a ≡ true → p ≡ false → g ≡ false → (not d && a && not p && not g) ≡ true
may_of false true false false d a p g = refl
may_of true _ _ _ d a p g = cc
may_of false false _ _ d a p g = cc
may_of false true true _ d a p g = cc
may_of false true false true d a p g = cc

-- a live thread that isn't parked
pub record IsFree (c : Core) : Type 0 where
  pub thread : ℕ
  pub live : is_live c.state thread ≡ true
  pub free : is_parked c thread ≡ false

free_cons : (c : Core) (t : ℕ) (ts : List ℕ) (l p : Bool) → is_live c.state t ≡ l → is_parked c t ≡ p
    → list_all (is_parked c) (cond l (t ∷ filter (is_live c.state) ts) (filter (is_live c.state) ts)) ≡ false → (list_all (is_parked c) (filter (is_live c.state) ts) ≡ false → IsFree c) → IsFree c
free_cons c t ts true false l p h go = record { thread = t; live = l; free = p }
free_cons c t ts true true l p h go = go (ap (λ b. b && list_all (is_parked c) (filter (is_live c.state) ts)) (sym p) ∙ h)
free_cons c t ts false p l q h go = go h

pub free_in : (c : Core) (ts : List ℕ) → list_all (is_parked c) (filter (is_live c.state) ts) ≡ false → IsFree c
free_in c [] h = cc
free_in c (t ∷ ts) h = free_cons c t ts (is_live c.state t) (is_parked c t) refl refl h (free_in c ts)

pub not_all : (a b : Bool) → a ≡ true → (a && b) ≡ false → b ≡ false
not_all true b h i = i
not_all false b h i = cc

some_moves : (k : Settings) (c : Core) (w : IsFree c) (b : Bool) → standing c.program c.state w.thread ≡ b → over k c ≡ None → c.phase ≡ phase.Asked
    → (x : EventKind) × (is_of_gate x ≡ true) × IsLegal k c x
some_moves k c w true s o a =
    let t = w.thread in
    let may : may_park c t ≡ true =
    and_both (is_asked c.phase && standing c.program c.state t) (not (is_parked c t)) (and_both (is_asked c.phase) (standing c.program c.state t) (ap is_asked a) s) (ap not w.free)
    in
    (e.Park t, refl, (_, next_is k c (e.Park t) o ∙ legal_true (may_park c t) _ may))
some_moves k c w false s o a =
    let t = w.thread in
    let may : may_step k c t ≡ true =
    may_of (is_due k c) (able c.program c.state t) (is_parked c t) (is_asked c.phase && standing c.program c.state t) (undue k c (ap is_before a))
    (live_able c.program c.state t w.live s) w.free (last_false (is_asked c.phase) (standing c.program c.state t) s)
    in
    (e.Step t, refl, (_, next_is k c (e.Step t) o ∙ legal_true (may_step k c t) _ may))

gate_goes : (k : Settings) (c : Core) (b : Bool) → may_decide c ≡ b → over k c ≡ None → c.phase ≡ phase.Asked → is_some k.armed ≡ true → (x : EventKind) × (is_of_gate x ≡ true) × IsLegal k c x
gate_goes k c true m o a some = (e.Refuse why.Memory, refl, may_refuse_for k c why.Memory o m some (inl refl))
gate_goes k c false m o a some =
    let w = free_in c (threads c) (not_all (is_asked c.phase) (list_all (is_parked c) (live_threads c)) (ap is_asked a) m) in
    some_moves k c w (standing c.program c.state w.thread) refl o a

pub never_stuck : (k : Settings) (es : List Event) (c : Core) → run k es ≡ Some c → c.phase ≡ phase.Asked → over k c ≡ None → (x : EventKind) × (is_of_gate x ≡ true) × IsLegal k c x
never_stuck k es c h a o = gate_goes k c (may_decide c) refl o a (asked_armed k es c h (ap is_before a))

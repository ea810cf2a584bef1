-- Where a Request stands in a run that is over.
use Rattle.std.proofs.Common.{◌≡◌, ◌≢◌, ◌↔◌, ℕ, Bool, true, false, not, ◌&&◌, ◌||◌, ◌==◌, List, [], ◌∷◌, ◌++◌, length, Option, Some, None, refl, sym, ap, ◌∙◌, arith}
use Rattle.std.specs.Prelude.{is_some, fold}
use Rattle.std.specs.List.{list_any}
use Rattle.std.proofs.lemmas.Bool.Decides.{nat_tests}
use Rattle.std.proofs.lemmas.List.Folds.{list_any-append}
use Rattle.c_tree.specs.declared.event.Event.{Event}
use Rattle.c_tree.specs.declared.event.EventKind.{EventKind}
use Rattle.c_tree.specs.declared.event.EventKind.TheVariants as e
use Rattle.c_tree.specs.declared.run.Armed.{Armed}
use Rattle.c_tree.specs.declared.run.End.{End}
use Rattle.c_tree.specs.declared.run.End.TheVariants as end
use Rattle.c_tree.specs.declared.run.Settings.{Settings}
use Rattle.c_tree.specs.Able.{able}
use Rattle.c_tree.specs.Step.{step}
use Rattle.c_tree.specs.Run.{Core, first, next, after, over, run, run_from, threads, is_due, is_at, is_before, is_asked, or_else, where_true}
use Rattle.state_laws.specs.RunLaws.{is_request, has, ComesToRequest}
use Rattle.c_tree.proofs.BoolLemmas.{true_false, by_test, or_here, number_is}
use Rattle.state_laws.proofs.Legal.{run_cons, run_split, request_is, step_is, park_is, update_is, refused, resume_is}
use Rattle.state_laws.proofs.ParkedStand.{due_parts, step_parts, park_parts, decide_asked, resume_after, after_not_before}
use Rattle.state_laws.proofs.Counts.{phase_stepped}

request_kind : (x : EventKind) → is_request x ≡ true → x ≡ e.Request
request_kind e.Request h = refl
request_kind (e.Step t) h = cc
request_kind (e.Park t) h = cc
request_kind e.Update h = cc
request_kind (e.Refuse r) h = cc
request_kind (e.Resume t) h = cc

-- from a Request to the moment that it waited for
record IsSent (k : Settings) (c : Core) (es : List Event) : Type 0 where
  front : List Event
  rest : List Event
  core : Core
  parts : es ≡ front ++ rest
  comes : run_from k c front ≡ Some core
  due : is_due k core ≡ true

sent_of : (k : Settings) (c d b : Core) (x : Event) (es : List Event) (r : Bool) → is_request x.kind ≡ r → next k c x.kind ≡ Some b → (r || has is_request es) ≡ true
    → (has is_request es ≡ true → IsSent k b es) → IsSent k c (x ∷ es)
sent_of k c d b x es true r n h go =
    record { front = []; rest = x ∷ es; core = c; parts = refl; comes = refl; due = (request_is k c b (ap (next k c) (sym (request_kind x.kind r)) ∙ n)).0 }
sent_of k c d b x es false r n h go =
    let s = go h in
    record {
      front = x ∷ s.front;
      rest = s.rest;
      core = s.core;
      parts = ap (λ q. x ∷ q) s.parts;
      comes = ap (λ o. fold (after k) o s.front) n ∙ s.comes;
      due = s.due;
    }

sent : (k : Settings) (es : List Event) (c d : Core) → run_from k c es ≡ Some d → has is_request es ≡ true → IsSent k c es
sent k [] c d h r = cc
sent k (x ∷ es) c d h r =
    let on = run_cons k c d x es h in
    sent_of k c d on.between x es (is_request x.kind) refl on.first r (sent k es on.between d on.rest)

at_steps : (o : Option Armed) (n : ℕ) → is_at o n ≡ true → (a : Armed) × (o ≡ Some a) × (n ≡ a.at)
at_steps None n h = cc
at_steps (Some a) n h = (a, refl, number_is n a.at h)

none_some : (o : Option End) → is_some o ≡ false → o ≡ None
none_some None h = refl
none_some (Some x) h = cc

not_same : (n m : ℕ) → (n == m) ≡ false → n ≢ m
not_same n m h = λ e. true_false (sym (same n m e) ∙ h)
  where
    same : (n m : ℕ) → n ≡ m → (n == m) ≡ true
    same n m e = grind (arith, nat_tests)

pub comes_to : (k : Settings) (es : List Event) (c : Core) → run k es ≡ Some c → has is_request es ≡ true → ComesToRequest k es
comes_to k es c h r =
    let s = sent k es (first k) c h r in
    let due = due_parts k s.core s.due in
    let at = at_steps k.armed s.core.steps due.at in
    record {
      armed = at.0;
      arms = at.1;
      front = s.front;
      rest = s.rest;
      parts = s.parts;
      core = s.core;
      comes = s.comes;
      steps = at.2;
      going = none_some s.core.ended due.going;
      below = not_same s.core.steps k.limit due.below;
    }

-- a run that is past its Request has one
event_before : (k : Settings) (c d : Core) (x : EventKind) → is_request x ≡ false → is_before c.phase ≡ true → next k c x ≡ Some d → is_before d.phase ≡ true
event_before k c d e.Request r b h = cc
event_before k c d (e.Step t) r b h = ap is_before (ap (λ y. y.phase) (step_is k c d t h).1 ∙ phase_stepped c t (step c.program t c.state)) ∙ b
event_before k c d (e.Park t) r b h = ap (λ y. is_before y.phase) (park_is k c d t h).1 ∙ b
event_before k c d e.Update r b h = absurd (true_false (sym b ∙ ap is_before (decide_asked c (update_is k c d h).may)))
event_before k c d (e.Refuse x) r b h = absurd (true_false (sym b ∙ ap is_before (decide_asked c (refused k c d x h).may)))
event_before k c d (e.Resume t) r b h = ap (λ y. is_before y.phase) (resume_is k c d t h).1 ∙ b

before_cons : (a b : Bool) → (a || b) ≡ false → (a ≡ false) × (b ≡ false)
before_cons true b h = cc
before_cons false b h = (refl, h)

run_before : (k : Settings) (es : List Event) (c d : Core) → has is_request es ≡ false → is_before c.phase ≡ true → run_from k c es ≡ Some d → is_before d.phase ≡ true
run_before k [] c d r b h = let same : c ≡ d = cc in ap (λ y. is_before y.phase) (sym same) ∙ b
run_before k (x ∷ es) c d r b h =
    let on = run_cons k c d x es h in
    let none = before_cons (is_request x.kind) (has is_request es) r in
    run_before k es on.between d none.1 (event_before k c on.between x.kind none.0 b on.first) on.rest

-- where a Request is due, it comes next
due_next : (k : Settings) (c d : Core) (x : EventKind) → is_due k c ≡ true → next k c x ≡ Some d → is_request x ≡ true
due_next k c d e.Request u h = refl
due_next k c d (e.Step t) u h = absurd (true_false (sym u ∙ (step_parts k c t (step_is k c d t h).0).undue))
due_next k c d (e.Park t) u h = absurd (true_false (sym (ap is_before (due_parts k c u).before) ∙ ap is_before (park_parts c t (park_is k c d t h).0).asked))
due_next k c d e.Update u h = absurd (true_false (sym (ap is_before (due_parts k c u).before) ∙ ap is_before (decide_asked c (update_is k c d h).may)))
due_next k c d (e.Refuse r) u h = absurd (true_false (sym (ap is_before (due_parts k c u).before) ∙ ap is_before (decide_asked c (refused k c d r h).may)))
due_next k c d (e.Resume t) u h =
    absurd (true_false (sym (ap is_before (due_parts k c u).before) ∙ after_not_before c.phase (resume_after c t (resume_is k c d t h).0)))

-- and the run isn't over
not_over : (x : Option End) (l u a p f : Bool) → x ≡ None → l ≡ false → u ≡ true → or_else x (or_else (where_true l end.Limit) (where_true (not u && a && p && f) end.Deadlock)) ≡ None
not_over None false true a p f h i j = refl
not_over (Some y) l u a p f h i j = cc
not_over None true u a p f h i j = cc
not_over None false false a p f h i j = cc

due_goes : (k : Settings) (c : Core) → is_due k c ≡ true → over k c ≡ None
due_goes k c u =
    let due = due_parts k c u in
    not_over c.ended (c.steps == k.limit) (is_due k c) (not (is_asked c.phase)) (length c.parked == 0) (not (list_any (able c.program c.state) (threads c)))
    (none_some c.ended due.going) due.below u

due_rest : (k : Settings) (es : List Event) (c d : Core) (x : End) → is_due k c ≡ true → run_from k c es ≡ Some d → over k d ≡ Some x → has is_request es ≡ true
due_rest k [] c d x u h o = let same : c ≡ d = cc in let no : over k c ≡ Some x = ap (over k) same ∙ o in absurd (none_not x (sym (due_goes k c u) ∙ no))
  where
    none_not : (x : End) → (let o : Option End = None in o) ≡ Some x → ⊥
    none_not x h = cc
due_rest k (y ∷ es) c d x u h o =
    let on = run_cons k c d y es h in
    or_here (is_request y.kind) (has is_request es) (due_next k c on.between y.kind u on.first)

due_here : (k : Settings) (c : Core) (a : Armed) → k.armed ≡ Some a → c.steps ≡ a.at → c.ended ≡ None → c.steps ≢ k.limit → is_before c.phase ≡ true → is_due k c ≡ true
due_here k c a w s n l b =
    all_four (is_at k.armed c.steps) (is_before c.phase) (is_some c.ended) (c.steps == k.limit)
    (ap (λ o. is_at o c.steps) w ∙ same c.steps a.at s) b (ap is_some n) (by_test (c.steps == k.limit) (λ h. l (number_is c.steps k.limit h)))
  where
    all_four : (a b c d : Bool) → a ≡ true → b ≡ true → c ≡ false → d ≡ false → (a && b && not c && not d) ≡ true
    all_four true true false false h i j l = refl
    all_four false b c d h i j l = cc
    all_four true false c d h i j l = cc
    all_four true true true d h i j l = cc
    all_four true true false true h i j l = cc

    same : (n m : ℕ) → n ≡ m → (n == m) ≡ true
    same n m e = grind (arith, nat_tests)

in_front : (p : EventKind → Bool) (es front rest : List Event) (b : Bool) → es ≡ front ++ rest → has p front ≡ b → (b ≡ false → has p rest ≡ true) → has p es ≡ true
in_front p es front rest b parts h go = ap (has p) parts ∙ (list_any-append (λ event. p event.kind) front rest ∙ either (has p front) (has p rest) b h go)
  where
    either : (a c b : Bool) → a ≡ b → (b ≡ false → c ≡ true) → (a || c) ≡ true
    either true c b h go = refl
    either false c true h go = cc
    either false c false h go = go refl

pub has_request : (k : Settings) (es : List Event) (c : Core) (x : End) → run k es ≡ Some c → over k c ≡ Some x → ComesToRequest k es → has is_request es ≡ true
has_request k es c x h o w =
    let split = run_split k (first k) c w.front w.rest (ap (run k) (sym w.parts) ∙ h) in
    let core : split.between ≡ w.core = same_core split.between w.core (sym split.first ∙ w.comes) in
    in_front is_request es w.front w.rest (has is_request w.front) w.parts refl (λ none.
    let before : is_before w.core.phase ≡ true = run_before k w.front (first k) w.core none refl w.comes in
    due_rest k w.rest w.core c x (due_here k w.core w.armed w.arms w.steps w.going w.below before) (ap (λ y. run_from k y w.rest) (sym core) ∙ split.rest) o)
  where
    same_core : (a b : Core) → (let o : Option Core = Some a in o) ≡ Some b → a ≡ b
    same_core a b h = cc

pub requests_in_time : (k : Settings) (es : List Event) (c : Core) (x : End) → run k es ≡ Some c → over k c ≡ Some x → (has is_request es ≡ true) ↔ ComesToRequest k es
requests_in_time k es c x h o = (comes_to k es c h, has_request k es c x h o)

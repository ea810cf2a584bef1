-- The one update of a run.
use Rattle.std.proofs.Common.{◌≡◌, ℕ, ◌+◌, ◌≤◌, Bool, true, false, ◌||◌, List, [], ◌∷◌, ◌++◌, Option, Some, None, Result, Ok, Err, refl, sym, ap, ◌∙◌, arith}
use Rattle.std.specs.Prelude.{cond}
use Rattle.std.proofs.lemmas.List.Sums.{sum_by-append, fold-append}
use Rattle.std.proofs.lemmas.List.Folds.{list_any-append}
use Rattle.c_tree.specs.declared.event.Event.{Event}
use Rattle.c_tree.specs.declared.event.EventKind.{EventKind}
use Rattle.c_tree.specs.declared.event.EventKind.TheVariants as e
use Rattle.c_tree.specs.declared.event.Reason.{Reason}
use Rattle.c_tree.specs.declared.event.Reason.TheVariants as reason
use Rattle.c_tree.specs.declared.lifted.Lifted.{Lifted}
use Rattle.c_tree.specs.declared.run.Armed.{Armed}
use Rattle.c_tree.specs.declared.run.Settings.{Settings}
use Rattle.c_tree.specs.declared.state.State.{State}
use Rattle.c_tree.specs.Step.{Outcome, Done, Trapped, Finished, Blocked, step}
use Rattle.c_tree.specs.Update.{update}
use Rattle.c_tree.specs.Run.{Core, first, next, after, run, run_from, stepped, decided, new_program}
use Rattle.state_laws.specs.RunLaws.{is_outcome, is_update, has, count_of, IsUpdatedOnce}
use Rattle.c_tree.proofs.BoolLemmas.{or_first, or_second}
use Rattle.state_laws.proofs.Legal.{run_cons, run_split, request_is, step_is, park_is, update_is, resume_is}
use Rattle.state_laws.proofs.ParkedStand.{live_stand}
use Rattle.state_laws.proofs.Counts.{count-cons, has_few}
use Rattle.state_laws.proofs.NoPatch.{run_quiet}

-- the events on the two sides of an Update
record Sides (events : List Event) : Type 0 where
  earlier : List Event
  event : Event
  later : List Event
  parts : events ≡ earlier ++ event ∷ later
  updates : event.kind ≡ e.Update

update_kind : (x : EventKind) → is_update x ≡ true → x ≡ e.Update
update_kind e.Update h = refl
update_kind (e.Step t) h = cc
update_kind e.Request h = cc
update_kind (e.Park t) h = cc
update_kind (e.Refuse r) h = cc
update_kind (e.Resume t) h = cc

sides_of : (x : Event) (es : List Event) (b : Bool) → is_update x.kind ≡ b → (b || has is_update es) ≡ true → (has is_update es ≡ true → Sides es) → Sides (x ∷ es)
sides_of x es true i h go = record { earlier = []; event = x; later = es; parts = refl; updates = update_kind x.kind i }
sides_of x es false i h go =
    let s = go h in
    record { earlier = x ∷ s.earlier; event = s.event; later = s.later; parts = ap (λ r. x ∷ r) s.parts; updates = s.updates }

sides : (es : List Event) → has is_update es ≡ true → Sides es
sides [] h = cc
sides (x ∷ es) h = sides_of x es (is_update x.kind) refl h (sides es)

-- where none is counted, there is none
none_cons : (b : Bool) (n : ℕ) (r : Bool) → cond b 1 0 + n ≡ 0 → (n ≡ 0 → r ≡ false) → (b || r) ≡ false
none_cons true n r h go = absurd (omega arith)
none_cons false n r h go = go (omega arith)

none_of : (p : EventKind → Bool) (es : List Event) → count_of p es ≡ 0 → has p es ≡ false
none_of p [] h = refl
none_of p (x ∷ es) h = none_cons (p x.kind) (count_of p es) (has p es) (sym (count-cons p x es) ∙ h) (none_of p es)

both_none : (n m a : ℕ) → a ≡ n + (1 + m) → a ≤ 1 → (n ≡ 0) × (m ≡ 0)
both_none n m a e l = (omega arith, omega arith)

one_outcome : (es front back : List Event) (x : Event) → es ≡ front ++ x ∷ back → x.kind ≡ e.Update → count_of is_outcome es ≤ 1 → (has is_outcome front ≡ false) × (has is_outcome back ≡ false)
one_outcome es front back x parts u l =
    let here : count_of is_outcome (x ∷ back) ≡ 1 + count_of is_outcome back =
    count-cons is_outcome x back ∙ ap (λ b. cond {A = ℕ} b 1 0 + count_of is_outcome back) (ap is_outcome u)
    in
    let all : count_of is_outcome es ≡ count_of is_outcome front + (1 + count_of is_outcome back) =
    ap (count_of is_outcome) parts
    ∙ (sum_by-append (λ event. cond {A = ℕ} (is_outcome event.kind) 1 0) front (x ∷ back) ∙ ap (λ n. count_of is_outcome front + n) here)
    in
    let none = both_none (count_of is_outcome front) (count_of is_outcome back) (count_of is_outcome es) all l in
    (none_of is_outcome front none.0, none_of is_outcome back none.1)

-- without an Update the program stays
stepped_program : (c : Core) (t : ℕ) (o : Outcome) → (stepped c t o).program ≡ c.program
stepped_program c t (Done s) = refl
stepped_program c t (Trapped x) = refl
stepped_program c t (Finished n) = refl
stepped_program c t Blocked = refl

event_program : (k : Settings) (c d : Core) (x : EventKind) → is_outcome x ≡ false → next k c x ≡ Some d → d.program ≡ c.program
event_program k c d e.Request n h = ap (λ y. y.program) (request_is k c d h).1
event_program k c d (e.Step t) n h = ap (λ y. y.program) (step_is k c d t h).1 ∙ stepped_program c t (step c.program t c.state)
event_program k c d (e.Park t) n h = ap (λ y. y.program) (park_is k c d t h).1
event_program k c d e.Update n h = cc
event_program k c d (e.Refuse r) n h = cc
event_program k c d (e.Resume t) n h = ap (λ y. y.program) (resume_is k c d t h).1

run_program : (k : Settings) (es : List Event) (c d : Core) → has is_outcome es ≡ false → run_from k c es ≡ Some d → d.program ≡ c.program
run_program k [] c d n h = let same : c ≡ d = cc in ap (λ y. y.program) (sym same)
run_program k (x ∷ es) c d n h =
    let on = run_cons k c d x es h in
    run_program k es on.between d (or_second (is_outcome x.kind) (has is_outcome es) n) on.rest
    ∙ event_program k c on.between x.kind (or_first (is_outcome x.kind) (has is_outcome es) n) on.first

front_none : (p : EventKind → Bool) (es front rest : List Event) → es ≡ front ++ rest → has p es ≡ false → has p front ≡ false
front_none p es front rest parts n =
    or_first (has p front) (has p rest) (sym (list_any-append (λ event. p event.kind) front rest) ∙ (ap (has p) (sym parts) ∙ n))

-- an armed update
abbrev decided_by : Option Armed → State → Result State Reason
decided_by armed s = elim armed as (λ _. Result State Reason) [ None ↦ Err reason.Memory | Some a ↦ update a.patch s ]

record IsArmedTo (k : Settings) (c : Core) (s : State) : Type 0 where
  armed : Armed
  arms : k.armed ≡ Some armed
  gives : update armed.patch c.state ≡ Ok s
  new : new_program k c ≡ armed.patch.new

armed_to : (k : Settings) (c : Core) (s : State) (o : Option Armed) → k.armed ≡ o → decided k c ≡ Ok s → IsArmedTo k c s
armed_to k c s None a h = let no : decided k c ≡ Err reason.Memory = ap (λ o. decided_by o c.state) a in cc
armed_to k c s (Some x) a h =
    record {
      armed = x;
      arms = a;
      gives = sym (ap (λ o. decided_by o c.state) a) ∙ h;
      new = ap (λ o. elim o as (λ _. Lifted) [ None ↦ c.program | Some y ↦ y.patch.new ]) a;
    }

pub one_more : (k : Settings) (c d b : Core) (es : List Event) (x : Event) → run_from k c es ≡ Some b → next k b x.kind ≡ Some d → run_from k c (es ++ x ∷ []) ≡ Some d
one_more k c d b es x h i = fold-append (after k) (Some c) es (x ∷ []) ∙ (ap (λ o. after k o x) h ∙ i)

-- where there is no outcome, there is no Update
outcome_kind : (x : EventKind) → is_outcome x ≡ false → is_update x ≡ false
outcome_kind e.Update h = cc
outcome_kind (e.Step t) h = refl
outcome_kind e.Request h = refl
outcome_kind (e.Park t) h = refl
outcome_kind (e.Refuse r) h = refl
outcome_kind (e.Resume t) h = refl

no_update : (es : List Event) → has is_outcome es ≡ false → has is_update es ≡ false
no_update [] h = refl
no_update (x ∷ es) h =
    neither (is_update x.kind) (has is_update es) (outcome_kind x.kind (or_first (is_outcome x.kind) (has is_outcome es) h)) (no_update es (or_second (is_outcome x.kind) (has is_outcome es) h))
  where
    neither : (a b : Bool) → a ≡ false → b ≡ false → (a || b) ≡ false
    neither true b h i = h
    neither false b h i = i

updated_once : (k : Settings) (es : List Event) (c : Core) → run k es ≡ Some c → (s : Sides es) → IsUpdatedOnce k es c
updated_once k es c h s =
    let split = run_split k (first k) c s.earlier (s.event ∷ s.later) (ap (run k) (sym s.parts) ∙ h) in
    let on = run_cons k split.between c s.event s.later split.rest in
    let is = update_is k split.between on.between (ap (next k split.between) (sym s.updates) ∙ on.first) in
    let to = armed_to k split.between is.state k.armed refl is.decides in
    let none = one_outcome es s.earlier s.later s.event s.parts s.updates (has_few k es c h).outcomes in
    let program : on.between.program ≡ to.armed.patch.new = ap (λ y. y.program) is.is ∙ to.new in
    record {
      earlier = s.earlier;
      event = s.event;
      later = s.later;
      parts = s.parts;
      updates = s.updates;
      none_earlier = none.0;
      none_later = none.1;
      armed = to.armed;
      arms = to.arms;
      before = split.between;
      comes = split.first;
      after = on.between;
      goes = one_more k (first k) on.between split.between s.earlier s.event split.first on.first;
      stand = live_stand k s.earlier split.between split.first is.may;
      program = program;
      state = to.gives ∙ ap (λ y. let r : Result State Reason = Ok y.state in r) (sym is.is);
      old = λ front rest d p r. run_program k front (first k) d (front_none is_outcome s.earlier front rest p none.0) r;
      new = λ front rest d p r.
          let apart = run_split k (first k) d s.earlier (s.event ∷ front) r in
          let more = run_cons k apart.between d s.event front apart.rest in
          let before : apart.between ≡ split.between = same_core apart.between split.between (sym apart.first ∙ split.first) in
          let after : more.between ≡ on.between = same_core more.between on.between (sym more.first ∙ (ap (λ y. next k y s.event.kind) before ∙ on.first)) in
          run_program k front more.between d (front_none is_outcome s.later front rest p none.1) more.rest ∙ (ap (λ y. y.program) after ∙ program);
      first = run_quiet k s.earlier (first k) split.between (no_update s.earlier none.0) split.first;
      second = run_quiet k s.later on.between c (no_update s.later none.1) on.rest;
    }
  where
    same_core : (a b : Core) → (let o : Option Core = Some a in o) ≡ Some b → a ≡ b
    same_core a b h = cc

pub update_shape : (k : Settings) (es : List Event) (c : Core) → run k es ≡ Some c → has is_update es ≡ true → IsUpdatedOnce k es c
update_shape k es c h u = updated_once k es c h (sides es u)

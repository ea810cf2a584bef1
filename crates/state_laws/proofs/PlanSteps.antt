-- The next event of a plan: in a run that isn't over there is one, it is legal, and fewer may come after it.
use Rattle.std.proofs.Common.{◌≡◌, ◌⊎◌, inl, inr, ℕ, zero, suc, ◌+◌, ◌-◌, ◌/◌, ◌%◌, ◌^◌, ◌<◌, ◌≤◌, Bool, true, false, not, ◌&&◌, ◌||◌, ◌==◌, nat_le, List, [], ◌∷◌, length, Option, Some, None, Result, Ok, Err, refl, sym, ap, subst, ◌∙◌, arith}
use Rattle.std.specs.Prelude.{filter, find, cond, is_some, slice_get}
use Rattle.std.specs.List.{list_any, list_all, range_with_len}
use Rattle.std.specs.Option.{option_or}
use Rattle.std.proofs.lemmas.Bool.Decides.{nat_tests}
use Rattle.c_tree.specs.declared.event.EventKind.{EventKind}
use Rattle.c_tree.specs.declared.event.EventKind.TheVariants as e
use Rattle.c_tree.specs.declared.event.Reason.{Reason}
use Rattle.c_tree.specs.declared.event.Reason.TheVariants as why
use Rattle.c_tree.specs.declared.run.Armed.{Armed}
use Rattle.c_tree.specs.declared.run.End.{End}
use Rattle.c_tree.specs.declared.run.End.TheVariants as end
use Rattle.c_tree.specs.declared.run.Phase.{Phase}
use Rattle.c_tree.specs.declared.run.Phase.TheVariants as phase
use Rattle.c_tree.specs.declared.run.Picker.{Picker}
use Rattle.c_tree.specs.declared.run.Picker.TheVariants.{Round, Seed}
use Rattle.c_tree.specs.declared.run.Settings.{Settings}
use Rattle.c_tree.specs.declared.state.State.{State}
use Rattle.c_tree.specs.Able.{able, standing}
use Rattle.c_tree.specs.Step.{step}
use Rattle.c_tree.specs.Update.{update}
use Rattle.c_tree.specs.Run.{Core, first, next, over, threads, live_threads, stepped, decided, is_due, is_before, is_asked, is_after, is_parked, is_stuck, may_step, may_park, may_decide, may_resume, refuses, or_else, where_true, without}
use Rattle.c_tree.specs.Plan.{chosen, picked, lowest_from, above, eligible, drawn, outcome, outcome_of}
use Rattle.c_tree.proofs.StepLemmas.{stepped-steps}
use Rattle.state_laws.specs.RunLaws.{IsLegal}
use Rattle.c_tree.proofs.BoolLemmas.{true_false, and_last, and_both, first_false, last_false, same_number}
use Rattle.state_laws.proofs.Legal.{next_is, legal_true, update_is, refused}
use Rattle.state_laws.proofs.OtherThreads.{live_within}
use Rattle.state_laws.proofs.ParkedStand.{due_parts, step_parts, park_parts, decide_asked, resume_after, live_of_standing, Stand, event_stand, first_stand}
use Rattle.state_laws.proofs.Counts.{phase_stepped, parked_stepped, not_limit, some_without, step_falls}
use Rattle.state_laws.proofs.Gate.{IsAsked, event_asked, same_reason, may_update, may_refuse_for, live_able, may_of, free_in, not_all}
use Rattle.state_laws.proofs.NoPatch.{any_at}
use Rattle.c_tree.proofs.ChosenLemmas.{chosen-Request, chosen-Park, chosen-outcome, chosen-Resume, chosen-Step}
use Rattle.c_tree.proofs.SameThreads.{AsMany, update_many}

-- how far a run has come with its update
abbrev stage : Phase → ℕ
stage phase.Before = 2
stage phase.Asked = 1
stage phase.Updated = 0
stage (phase.Refused r) = 0

-- how many of the threads aren't parked
abbrev unparked : List ℕ → List ℕ → ℕ
unparked ts ps = length (filter (λ t. not (list_any (λ u. u == t) ps)) ts)

-- how many Parks or Resumes may still come at a stage
abbrev marks : Phase → ℕ → ℕ → ℕ
marks phase.Before free parked = 0
marks phase.Asked free parked = free
marks phase.Updated free parked = parked
marks (phase.Refused r) free parked = parked

abbrev pub steps_left : Settings → Core → ℕ
steps_left k c = k.limit - c.steps

abbrev pub stage_of : Core → ℕ
stage_of c = stage c.phase

abbrev pub marks_left : Core → ℕ
marks_left c = marks c.phase (unparked (threads c) c.parked) (length c.parked)

-- less may come: fewer Steps; or as many, and a later stage; or the same stage, and fewer marks
pub record IsStepFewer (k : Settings) (c d : Core) : Type 0 where
  pub steps : steps_left k d < steps_left k c

pub record IsLater (k : Settings) (c d : Core) : Type 0 where
  pub steps : steps_left k d ≡ steps_left k c
  pub stage : stage_of d < stage_of c

pub record IsMarkFewer (k : Settings) (c d : Core) : Type 0 where
  pub steps : steps_left k d ≡ steps_left k c
  pub stage : stage_of d ≡ stage_of c
  pub marks : marks_left d < marks_left c

abbrev pub IsLess : Settings → Core → Core → Type 0
IsLess k c d = IsStepFewer k c d ⊎ (IsLater k c d ⊎ IsMarkFewer k c d)

-- what a plan keeps
pub record IsKept (k : Settings) (c : Core) : Type 0 where
  pub stand : Stand c
  pub asked : IsAsked k c
  pub made : is_after c.phase ≡ true → (t : ℕ) → is_parked c t ≡ true → t < length c.state.threads
  pub within : c.steps ≤ k.limit

pub first_kept : (k : Settings) → IsKept k (first k)
first_kept k = record { stand = first_stand k; asked = record { armed = λ n. absurd (true_false n) }; made = λ a. absurd (true_false (sym a)); within = omega arith }

-- the next event of a plan
pub record GoesOn (k : Settings) (short : Bool) (c : Core) (g : Picker) : Type 0 where
  pub kind : EventKind
  pub core : Core
  pub chosen : chosen k short c g ≡ Some kind
  pub next : next k c kind ≡ Some core
  pub kept : IsKept k core
  pub less : IsLess k c core

keeps : (k : Settings) (c d : Core) (x : EventKind) → IsKept k c → next k c x ≡ Some d → (is_after d.phase ≡ true → (t : ℕ) → is_parked d t ≡ true → t < length d.state.threads) → IsKept k d
keeps k c d x w h m = record { stand = event_stand k c d x w.stand h; asked = event_asked k c d x w.asked h; made = m; within = (step_falls k c d x w.within h).0 }

-- a number that is found is one of those, and passes
record IsFound (p : ℕ → Bool) (t n : ℕ) : Type 0 where
  passes : p t ≡ true
  below : t < n

found_step : (p : ℕ → Bool) (x t n : ℕ) (b : Bool) (o : Option ℕ) → p x ≡ b → cond b (Some x) o ≡ Some t → x < n → (o ≡ Some t → IsFound p t n) → IsFound p t n
found_step p x t n true o e h l go =
    let z : x ≡ t = cc in
    record { passes = subst (λ y. p y ≡ true) z e; below = subst (λ y. y < n) z l }
found_step p x t n false o e h l go = go h

found_in : (p : ℕ → Bool) (a n m t : ℕ) → a + n ≤ m → find p (range_with_len a n) ≡ Some t → IsFound p t m
found_in p a zero m t l h = cc
found_in p a (suc n) m t l h =
    found_step p a t m (p a) (find p (range_with_len (a + 1) n)) refl h (omega (arith, l)) (found_in p (a + 1) n m t (omega (arith, l)))

found : (p : ℕ → Bool) (c : Core) (t : ℕ) → find p (threads c) ≡ Some t → IsFound p t (length c.state.threads)
found p c t h = found_in p 0 (length c.state.threads) (length c.state.threads) t (omega arith) h

-- where none is found, each fails
none_here : (b : Bool) (x : ℕ) (r : Option ℕ) → cond b (Some x) r ≡ None → (b ≡ false) × (r ≡ None)
none_here true x r h = cc
none_here false x r h = (refl, h)

none_at : (p : ℕ → Bool) (a n i : ℕ) → i < n → find p (range_with_len a n) ≡ None → p (a + i) ≡ false
none_at p a zero i l h = absurd (omega (arith, l))
none_at p a (suc n) zero l h =
    let z : a + 0 ≡ a = omega arith in
    ap p z ∙ (none_here (p a) a (find p (range_with_len (a + 1) n)) h).0
none_at p a (suc n) (suc i) l h =
    let z : a + suc i ≡ a + 1 + i = omega arith in
    ap p z ∙ none_at p (a + 1) n i (omega (arith, l)) (none_here (p a) a (find p (range_with_len (a + 1) n)) h).1

none_for : (p : ℕ → Bool) (c : Core) (t : ℕ) → t < length c.state.threads → find p (threads c) ≡ None → p t ≡ false
none_for p c t l h = let z : 0 + t ≡ t = omega arith in ap p (sym z) ∙ none_at p 0 (length c.state.threads) t l h

-- a due Request
goes_Request : (k : Settings) (short : Bool) (c : Core) (g : Picker) → IsKept k c → over k c ≡ None → is_due k c ≡ true → GoesOn k short c g
goes_Request k short c g w o d =
    let n : next k c e.Request ≡ Some (record c { phase = phase.Asked }) = next_is k c e.Request o ∙ legal_true (is_due k c) (record c { phase = phase.Asked }) d in
    record {
      kind = e.Request;
      core = record c { phase = phase.Asked };
      chosen = chosen-Request k short c g d;
      next = n;
      kept = keeps k c (record c { phase = phase.Asked }) e.Request w n (λ a. absurd (true_false (sym a)));
      less = inr (inl (record { steps = refl; stage = subst (λ p. 1 < stage p) (sym (due_parts k c d).before) (omega arith) }));
    }

-- a Park
fewer_cons : (b c : Bool) (x : ℕ) (f g : List ℕ) → (c ≡ true → b ≡ true) → length g ≤ length f → length (cond c (x ∷ g) g) ≤ length (cond b (x ∷ f) f)
fewer_cons true true x f g h l = omega (arith, l)
fewer_cons true false x f g h l = omega (arith, l)
fewer_cons false false x f g h l = l
fewer_cons false true x f g h l = let no : false ≡ true = h refl in cc

fewer : (p q : ℕ → Bool) (xs : List ℕ) → ((t : ℕ) → q t ≡ true → p t ≡ true) → length (filter q xs) ≤ length (filter p xs)
fewer p q [] h = omega arith
fewer p q (x ∷ xs) h = fewer_cons (p x) (q x) x (filter p xs) (filter q xs) (h x) (fewer p q xs h)

less_cons : (b c : Bool) (x : ℕ) (f g : List ℕ) → (c ≡ true → b ≡ true) → length g < length f → length (cond c (x ∷ g) g) < length (cond b (x ∷ f) f)
less_cons true true x f g h l = omega (arith, l)
less_cons true false x f g h l = omega (arith, l)
less_cons false false x f g h l = l
less_cons false true x f g h l = let no : false ≡ true = h refl in cc

less_here : (b c : Bool) (x : ℕ) (f g : List ℕ) → b ≡ true → c ≡ false → length g ≤ length f → length (cond c (x ∷ g) g) < length (cond b (x ∷ f) f)
less_here true false x f g h i l = omega (arith, l)
less_here true true x f g h i l = cc
less_here false c x f g h i l = cc

less : (p q : ℕ → Bool) (a n i : ℕ) → i < n → ((t : ℕ) → q t ≡ true → p t ≡ true) → p (a + i) ≡ true → q (a + i) ≡ false
    → length (filter q (range_with_len a n)) < length (filter p (range_with_len a n))
less p q a zero i l h y z = absurd (omega (arith, l))
less p q a (suc n) zero l h y z =
    let s : a + 0 ≡ a = omega arith in
    less_here (p a) (q a) a (filter p (range_with_len (a + 1) n)) (filter q (range_with_len (a + 1) n)) (ap p (sym s) ∙ y) (ap q (sym s) ∙ z) (fewer p q (range_with_len (a + 1) n) h)
less p q a (suc n) (suc i) l h y z =
    let s : a + suc i ≡ a + 1 + i = omega arith in
    less_cons (p a) (q a) a (filter p (range_with_len (a + 1) n)) (filter q (range_with_len (a + 1) n)) (h a)
    (less p q (a + 1) n i (omega (arith, l)) h (ap p (sym s) ∙ y) (ap q (sym s) ∙ z))

not_or : (a b : Bool) → not (a || b) ≡ true → not b ≡ true
not_or true b h = cc
not_or false b h = h

not_here : (a b : Bool) → a ≡ true → not (a || b) ≡ false
not_here true b h = refl
not_here false b h = cc

unparked-less : (n t : ℕ) (ps : List ℕ) → t < n → list_any (λ u. u == t) ps ≡ false → unparked (range_with_len 0 n) (t ∷ ps) < unparked (range_with_len 0 n) ps
unparked-less n t ps l h =
    let z : 0 + t ≡ t = omega arith in
    less (λ v. not (list_any (λ u. u == v) ps)) (λ v. not (list_any (λ u. u == v) (t ∷ ps))) 0 n t l
    (λ v. not_or (t == v) (list_any (λ u. u == v) ps))
    (ap (λ v. not (list_any (λ u. u == v) ps)) z ∙ ap not h)
    (not_here (t == (0 + t)) (list_any (λ u. u == (0 + t)) ps) (ap (λ v. t == v) z ∙ same_number t))

goes_Park : (k : Settings) (short : Bool) (c : Core) (g : Picker) (t : ℕ) → IsKept k c → over k c ≡ None → is_due k c ≡ false → find (may_park c) (threads c) ≡ Some t → GoesOn k short c g
goes_Park k short c g t w o d f =
    let f1 = found (may_park c) c t f in
    let parts = park_parts c t f1.passes in
    let more : Core = record c { parked = t ∷ c.parked } in
    let n : next k c (e.Park t) ≡ Some more = next_is k c (e.Park t) o ∙ legal_true (may_park c t) more f1.passes in
    let free = unparked-less (length c.state.threads) t c.parked f1.below parts.free in
    record {
      kind = e.Park t;
      core = more;
      chosen = chosen-Park k short c g t d f;
      next = n;
      kept = keeps k c more (e.Park t) w n (λ a. absurd (true_false (sym a ∙ ap is_after parts.asked)));
      less = inr (inr (record {
        steps = refl;
        stage = refl;
        marks = subst (λ p. marks p (unparked (threads c) (t ∷ c.parked)) (suc (length c.parked)) < marks p (unparked (threads c) c.parked) (length c.parked)) (sym parts.asked) free;
      }));
    }

-- the outcome
decided_many : (a : Option Armed) (s : State) → AsMany (length s.threads) (elim a as (λ _. Result State Reason) [ None ↦ Err why.Memory | Some x ↦ update x.patch s ])
decided_many None s = tt
decided_many (Some x) s = update_many x.patch s

as_many : (n : ℕ) (r : Result State Reason) (s : State) → r ≡ Ok s → AsMany n r → length s.threads ≡ n
as_many n (Ok x) s h m = let same : x ≡ s = cc in ap (λ y. length y.threads) (sym same) ∙ m
as_many n (Err x) s h m = cc

was_made : (c : Core) → Stand c → c.phase ≡ phase.Asked → (t : ℕ) → is_parked c t ≡ true → t < length c.state.threads
was_made c w a t p = live_within c.state t (live_of_standing c t (w.stand (ap is_asked a) t p))

goes_outcome : (k : Settings) (short : Bool) (c : Core) (g : Picker) → IsKept k c → is_due k c ≡ false → find (may_park c) (threads c) ≡ None → may_decide c ≡ true
    → (x : EventKind) → outcome k short c ≡ x → (d : Core) → next k c x ≡ Some d → d.steps ≡ c.steps → is_after d.phase ≡ true → stage_of d ≡ 0 → d.parked ≡ c.parked
    → length d.state.threads ≡ length c.state.threads → GoesOn k short c g
goes_outcome k short c g w u f m x out d n s late last ps many =
    let asked = decide_asked c m in
    record {
      kind = x;
      core = d;
      chosen = chosen-outcome k short c g u f m ∙ ap (λ y. let r : Option EventKind = Some y in r) out;
      next = n;
      kept = keeps k c d x w n (λ a t p. subst (λ y. t < y) (sym many) (was_made c w.stand asked t (ap (λ qs. list_any (λ v. v == t) qs) (sym ps) ∙ p)));
      less = inr (inl (record { steps = ap (λ y. k.limit - y) s; stage = below (stage_of d) (stage_of c) last (ap stage asked) }));
    }
  where
    below : (a b : ℕ) → a ≡ 0 → b ≡ 1 → a < b
    below a b h i = omega arith

goes_refused : (k : Settings) (short : Bool) (c : Core) (g : Picker) (r : Reason) → IsKept k c → is_due k c ≡ false → find (may_park c) (threads c) ≡ None → may_decide c ≡ true
    → outcome k short c ≡ e.Refuse r → IsLegal k c (e.Refuse r) → GoesOn k short c g
goes_refused k short c g r w u f m out n =
    let is = (refused k c n.0 r n.1).is in
    goes_outcome k short c g w u f m (e.Refuse r) out n.0 n.1 (ap (λ y. y.steps) is) (ap (λ y. is_after y.phase) is) (ap stage_of is) (ap (λ y. y.parked) is)
    (ap (λ y. length y.state.threads) is)

goes_updated : (k : Settings) (short : Bool) (c : Core) (g : Picker) → IsKept k c → is_due k c ≡ false → find (may_park c) (threads c) ≡ None → may_decide c ≡ true
    → outcome k short c ≡ e.Update → IsLegal k c e.Update → GoesOn k short c g
goes_updated k short c g w u f m out n =
    let up = update_is k c n.0 n.1 in
    goes_outcome k short c g w u f m e.Update out n.0 n.1 (ap (λ y. y.steps) up.is) (ap (λ y. is_after y.phase) up.is) (ap stage_of up.is) (ap (λ y. y.parked) up.is)
    (ap (λ y. length y.state.threads) up.is ∙ as_many (length c.state.threads) (decided k c) up.state up.decides (decided_many k.armed c.state))

goes_decided : (k : Settings) (short : Bool) (c : Core) (g : Picker) (r : Result State Reason) → decided k c ≡ r → short ≡ false → IsKept k c → over k c ≡ None → is_due k c ≡ false
    → find (may_park c) (threads c) ≡ None → may_decide c ≡ true → is_some k.armed ≡ true → GoesOn k short c g
goes_decided k short c g (Ok s) r h w o u f m a =
    goes_updated k short c g w u f m (ap (λ b. outcome k b c) h ∙ ap outcome_of r) (may_update k c s o m r)
goes_decided k short c g (Err x) r h w o u f m a =
    goes_refused k short c g x w u f m (ap (λ b. outcome k b c) h ∙ ap outcome_of r) (may_refuse_for k c x o m a (inr (ap (refuses x) r ∙ same_reason x)))

goes_Decide : (k : Settings) (short : Bool) (c : Core) (g : Picker) (b : Bool) → short ≡ b → IsKept k c → over k c ≡ None → is_due k c ≡ false
    → find (may_park c) (threads c) ≡ None → may_decide c ≡ true → GoesOn k short c g
goes_Decide k short c g true h w o u f m =
    goes_refused k short c g why.Memory w u f m (ap (λ b. outcome k b c) h) (may_refuse_for k c why.Memory o m (w.asked.armed (ap is_before (decide_asked c m))) (inl refl))
goes_Decide k short c g false h w o u f m = goes_decided k short c g (decided k c) refl h w o u f m (w.asked.armed (ap is_before (decide_asked c m)))

-- a Resume
at_most_one : (b : Bool) (x : ℕ) (f : List ℕ) (n : ℕ) → length f ≤ n → length (cond b (x ∷ f) f) ≤ suc n
at_most_one true x f n h = omega (arith, h)
at_most_one false x f n h = omega (arith, h)

without_most : (t : ℕ) (xs : List ℕ) → length (without t xs) ≤ length xs
without_most t [] = omega arith
without_most t (x ∷ xs) = at_most_one (not (x == t)) x (without t xs) (length xs) (without_most t xs)

without_cons : (b c : Bool) (x : ℕ) (f xs : List ℕ) → (b || c) ≡ true → (c ≡ true → length f < length xs) → length f ≤ length xs → length (cond (not b) (x ∷ f) f) < suc (length xs)
without_cons true c x f xs h l m = omega (arith, m)
without_cons false true x f xs h l m = let k : length f < length xs = l refl in omega (arith, k)
without_cons false false x f xs h l m = cc

without-less : (t : ℕ) (xs : List ℕ) → list_any (λ u. u == t) xs ≡ true → length (without t xs) < length xs
without-less t [] h = cc
without-less t (x ∷ xs) h = without_cons (x == t) (list_any (λ u. u == t) xs) x (without t xs) xs h (without-less t xs) (without_most t xs)

late_marks : (p : Phase) (u v n m : ℕ) → is_after p ≡ true → n < m → marks p u n < marks p v m
late_marks phase.Before u v n m h l = cc
late_marks phase.Asked u v n m h l = cc
late_marks phase.Updated u v n m h l = l
late_marks (phase.Refused r) u v n m h l = l

goes_Resume : (k : Settings) (short : Bool) (c : Core) (g : Picker) (t : ℕ) → IsKept k c → over k c ≡ None → is_due k c ≡ false → find (may_park c) (threads c) ≡ None
    → may_decide c ≡ false → find (may_resume c) (threads c) ≡ Some t → GoesOn k short c g
goes_Resume k short c g t w o u f m r =
    let f1 = found (may_resume c) c t r in
    let late = resume_after c t f1.passes in
    let parked = and_last (is_after c.phase) (is_parked c t) f1.passes in
    let on : Core = record c { parked = without t c.parked } in
    let n : next k c (e.Resume t) ≡ Some on = next_is k c (e.Resume t) o ∙ legal_true (may_resume c t) on f1.passes in
    record {
      kind = e.Resume t;
      core = on;
      chosen = chosen-Resume k short c g t u f m r;
      next = n;
      kept = keeps k c on (e.Resume t) w n (λ a v p. w.made late v (some_without v t c.parked p));
      less = inr (inr (record {
        steps = refl;
        stage = refl;
        marks = late_marks c.phase (unparked (threads c) (without t c.parked)) (unparked (threads c) c.parked) (length (without t c.parked)) (length c.parked) late (without-less t c.parked parked);
      }));
    }

-- a Step: some thread may make one
not_stuck : (a b c d : Bool) (x y : Option End) → or_else x (or_else y (where_true (a && b && c && not d) end.Deadlock)) ≡ None → a ≡ true → b ≡ true → c ≡ true → d ≡ true
not_stuck a b c true x y o h1 h2 h3 = refl
not_stuck true true true false None None o h1 h2 h3 = cc
not_stuck true true true false (Some z) y o h1 h2 h3 = cc
not_stuck true true true false None (Some z) o h1 h2 h3 = cc
not_stuck false b c false x y o h1 h2 h3 = cc
not_stuck true false c false x y o h1 h2 h3 = cc
not_stuck true true false false x y o h1 h2 h3 = cc

any_more_step : (p q : ℕ → Bool) (x : ℕ) (b c : Bool) (xs : List ℕ) → (c ≡ true → b ≡ true) → (c || list_any q xs) ≡ true → (list_any q xs ≡ true → list_any p xs ≡ true)
    → (b || list_any p xs) ≡ true
any_more_step p q x true c xs f h go = refl
any_more_step p q x false true xs f h go = let no : false ≡ true = f refl in cc
any_more_step p q x false false xs f h go = go h

any_more : (p q : ℕ → Bool) (xs : List ℕ) → ((t : ℕ) → q t ≡ true → p t ≡ true) → list_any q xs ≡ true → list_any p xs ≡ true
any_more p q [] f h = h
any_more p q (x ∷ xs) f h = any_more_step p q x (p x) (q x) xs (f x) h (any_more p q xs f)

some_able : (k : Settings) (c : Core) → over k c ≡ None → is_due k c ≡ false → is_asked c.phase ≡ false → c.parked ≡ [] → list_any (may_step k c) (threads c) ≡ true
some_able k c o d a n =
    any_more (may_step k c) (able c.program c.state) (threads c)
    (λ t i. may_of (is_due k c) (able c.program c.state t) (is_parked c t) (is_asked c.phase && standing c.program c.state t) d i
    (ap (λ ps. list_any (λ u. u == t) ps) n) (first_false (is_asked c.phase) (standing c.program c.state t) a))
    (not_stuck (not (is_due k c)) (not (is_asked c.phase)) (length c.parked == 0) (list_any (able c.program c.state) (threads c)) c.ended (where_true (c.steps == k.limit) end.Limit) o
    (ap not d) (ap not a) (ap (λ ps. length ps == 0) n))

not_parkable : (a s p : Bool) → a ≡ true → p ≡ false → (a && s && not p) ≡ false → s ≡ false
not_parkable true false false h i j = refl
not_parkable true true false h i j = cc
not_parkable true s true h i j = cc
not_parkable false s p h i j = cc

some_live : (k : Settings) (c : Core) → is_due k c ≡ false → is_asked c.phase ≡ true → find (may_park c) (threads c) ≡ None → may_decide c ≡ false → list_any (may_step k c) (threads c) ≡ true
some_live k c d a f m =
    let w = free_in c (threads c) (not_all (is_asked c.phase) (list_all (is_parked c) (live_threads c)) a m) in
    let t = w.thread in
    let within = live_within c.state t w.live in
    let z : 0 + t ≡ t = omega arith in
    let stays : standing c.program c.state t ≡ false =
    not_parkable (is_asked c.phase) (standing c.program c.state t) (is_parked c t) a w.free (none_for (may_park c) c t within f)
    in
    let may : may_step k c t ≡ true =
    may_of (is_due k c) (able c.program c.state t) (is_parked c t) (is_asked c.phase && standing c.program c.state t) d
    (live_able c.program c.state t w.live stays) w.free (last_false (is_asked c.phase) (standing c.program c.state t) stays)
    in
    any_at (may_step k c) 0 (length c.state.threads) t within (ap (may_step k c) z ∙ may)

-- after the outcome, where nobody may resume, nobody is parked
or_same : (x : ℕ) (b : Bool) → ((x == x) || b) ≡ true
or_same x b = grind (arith, nat_tests)

nobody : (k : Settings) (c : Core) (ps : List ℕ) → ps ≡ c.parked → IsKept k c → is_after c.phase ≡ true → find (may_resume c) (threads c) ≡ None → ps ≡ []
nobody k c [] p w a n = refl
nobody k c (x ∷ ps) p w a n =
    let parked : is_parked c x ≡ true = ap (λ qs. list_any (λ u. u == x) qs) (sym p) ∙ or_same x (list_any (λ u. u == x) ps) in
    let no = none_for (may_resume c) c x (w.made a x parked) n in
    absurd (true_false (sym (and_both (is_after c.phase) (is_parked c x) a parked) ∙ no))

some_at : (k : Settings) (c : Core) (p : Phase) → c.phase ≡ p → IsKept k c → over k c ≡ None → is_due k c ≡ false → find (may_park c) (threads c) ≡ None → may_decide c ≡ false
    → find (may_resume c) (threads c) ≡ None → list_any (may_step k c) (threads c) ≡ true
some_at k c phase.Before h w o d n m r = some_able k c o d (ap is_asked h) (w.stand.begins (ap is_before h))
some_at k c phase.Asked h w o d n m r = some_live k c d (ap is_asked h) n m
some_at k c phase.Updated h w o d n m r = some_able k c o d (ap is_asked h) (nobody k c c.parked refl w (ap is_after h) r)
some_at k c (phase.Refused x) h w o d n m r = some_able k c o d (ap is_asked h) (nobody k c c.parked refl w (ap is_after h) r)

-- each picker finds one, and what it finds may make a Step
any_step : (p q : ℕ → Bool) (x : ℕ) (xs : List ℕ) (b c : Bool) → (c ≡ true → b ≡ true) → (c || list_any q xs) ≡ true → cond b (Some x) (find p xs) ≡ None
    → (list_any q xs ≡ true → find p xs ≡ None → ⊥) → ⊥
any_step p q x xs true c h a n go = cc
any_step p q x xs false true h a n go = true_false (sym (h refl))
any_step p q x xs false false h a n go = go a n

any_find : (p q : ℕ → Bool) (xs : List ℕ) → ((t : ℕ) → q t ≡ true → p t ≡ true) → list_any q xs ≡ true → find p xs ≡ None → ⊥
any_find p q [] h a n = true_false (sym a)
any_find p q (x ∷ xs) h a n = any_step p q x xs (p x) (q x) (h x) a n (any_find p q xs h)

neither : (a b : Option ℕ) → option_or a b ≡ None → b ≡ None
neither None b h = h
neither (Some x) b h = cc

le_zero : (t : ℕ) (b : Bool) → b ≡ true → (nat_le 0 t && b) ≡ true
le_zero t b h = grind (arith, nat_tests)

within : (xs : List ℕ) (i : ℕ) → i < length xs → slice_get xs i ≡ None → ⊥
within [] i h n = absurd (omega arith)
within (x ∷ xs) zero h n = cc
within (x ∷ xs) (suc i) h n = within xs i (omega arith) n

none_past : (xs : List ℕ) (m : ℕ) → slice_get xs (m % length xs) ≡ None → length xs ≡ 0
none_past [] m h = refl
none_past (x ∷ xs) m h = absurd (within (x ∷ xs) (m % length (x ∷ xs)) (omega arith) h)

find_cons : (b : Bool) (x : ℕ) (f : List ℕ) (r : Option ℕ) → length (cond b (x ∷ f) f) ≡ 0 → (length f ≡ 0 → r ≡ None) → cond b (Some x) r ≡ None
find_cons true x f r h go = absurd (omega arith)
find_cons false x f r h go = go h

filter_find : (p : ℕ → Bool) (xs : List ℕ) → length (filter p xs) ≡ 0 → find p xs ≡ None
filter_find p [] h = refl
filter_find p (x ∷ xs) h = find_cons (p x) x (filter p xs) (find p xs) h (filter_find p xs)

finds : (k : Settings) (c : Core) (g : Picker) → list_any (may_step k c) (threads c) ≡ true → picked k c g ≡ None → ⊥
finds k c (Round last) a p =
    any_find (λ t. nat_le 0 t && may_step k c t) (may_step k c) (threads c) (λ t m. le_zero t (may_step k c t) m) a (neither (lowest_from k c (above last)) (lowest_from k c 0) p)
finds k c (Seed x) a p =
    any_find (may_step k c) (may_step k c) (threads c) (λ t m. m) a (filter_find (may_step k c) (threads c) (none_past (eligible k c) (drawn x / 2 ^ 33) p))

one_of : (a b : Option ℕ) (t : ℕ) → option_or a b ≡ Some t → (a ≡ Some t) ⊎ (b ≡ Some t)
one_of None b t h = inr h
one_of (Some x) b t h = inl h

lowest_may : (k : Settings) (c : Core) (n t : ℕ) → lowest_from k c n ≡ Some t → may_step k c t ≡ true
lowest_may k c n t h = and_last (nat_le n t) (may_step k c t) (found (λ u. nat_le n u && may_step k c u) c t h).passes

either_may : (k : Settings) (c : Core) (n t : ℕ) → (lowest_from k c n ≡ Some t) ⊎ (lowest_from k c 0 ≡ Some t) → may_step k c t ≡ true
either_may k c n t (inl h) = lowest_may k c n t h
either_may k c n t (inr h) = lowest_may k c 0 t h

got_cons : (p : ℕ → Bool) (b : Bool) (x t i : ℕ) (f : List ℕ) → p x ≡ b → slice_get (cond b (x ∷ f) f) i ≡ Some t → ((j : ℕ) → slice_get f j ≡ Some t → p t ≡ true) → p t ≡ true
got_cons p true x t zero f e h go = let same : x ≡ t = cc in subst (λ y. p y ≡ true) same e
got_cons p true x t (suc i) f e h go = go i h
got_cons p false x t i f e h go = go i h

got : (p : ℕ → Bool) (xs : List ℕ) (t i : ℕ) → slice_get (filter p xs) i ≡ Some t → p t ≡ true
got p [] t i h = cc
got p (x ∷ xs) t i h = got_cons p (p x) x t i (filter p xs) refl h (got p xs t)

picked_may : (k : Settings) (c : Core) (g : Picker) (t : ℕ) → picked k c g ≡ Some t → may_step k c t ≡ true
picked_may k c (Round last) t h = either_may k c (above last) t (one_of (lowest_from k c (above last)) (lowest_from k c 0) t h)
picked_may k c (Seed x) t h = got (may_step k c) (threads c) t ((drawn x / 2 ^ 33) % length (eligible k c)) h

goes_Step : (k : Settings) (short : Bool) (c : Core) (g : Picker) (t : ℕ) → IsKept k c → over k c ≡ None → is_due k c ≡ false → find (may_park c) (threads c) ≡ None
    → may_decide c ≡ false → find (may_resume c) (threads c) ≡ None → picked k c g ≡ Some t → GoesOn k short c g
goes_Step k short c g t w o u f m r p =
    let may = picked_may k c g t p in
    let parts = step_parts k c t may in
    let out = step c.program t c.state in
    let on : Core = stepped c t out in
    let n : next k c (e.Step t) ≡ Some on = next_is k c (e.Step t) o ∙ legal_true (may_step k c t) on may in
    let ph : on.phase ≡ c.phase = phase_stepped c t out in
    let ps : on.parked ≡ c.parked = parked_stepped c t out in
    let more : on.steps ≡ c.steps + 1 = stepped-steps c t parts.able in
    record {
      kind = e.Step t;
      core = on;
      chosen = chosen-Step k short c g t u f m r p;
      next = n;
      kept = keeps k c on (e.Step t) w n (λ a v q.
          let none : c.parked ≡ [] = nobody k c c.parked refl w (sym (ap is_after ph) ∙ a) r in
          absurd (unlisted v on.parked (ps ∙ none) q));
      less = inl (record { steps = fewer_steps c.steps k.limit on.steps (not_limit c.ended (where_true (is_stuck k c) end.Deadlock) (c.steps == k.limit) o) w.within more });
    }
  where
    unlisted : (v : ℕ) (qs : List ℕ) → qs ≡ [] → list_any (λ u. u == v) qs ≡ true → ⊥
    unlisted v [] h i = true_false (sym i)
    unlisted v (x ∷ qs) h i = cc

    fewer_steps : (n m a : ℕ) → (n == m) ≡ false → n ≤ m → a ≡ n + 1 → m - a < m - n
    fewer_steps n m a h l s = grind (arith, nat_tests)

-- the first of these that there is
by_picked : (k : Settings) (short : Bool) (c : Core) (g : Picker) (p : Option ℕ) → picked k c g ≡ p → IsKept k c → over k c ≡ None → is_due k c ≡ false → find (may_park c) (threads c) ≡ None
    → may_decide c ≡ false → find (may_resume c) (threads c) ≡ None → GoesOn k short c g
by_picked k short c g None p w o u f m r = absurd (finds k c g (some_at k c c.phase refl w o u f m r) p)
by_picked k short c g (Some t) p w o u f m r = goes_Step k short c g t w o u f m r p

by_resume : (k : Settings) (short : Bool) (c : Core) (g : Picker) (r : Option ℕ) → find (may_resume c) (threads c) ≡ r → IsKept k c → over k c ≡ None → is_due k c ≡ false
    → find (may_park c) (threads c) ≡ None → may_decide c ≡ false → GoesOn k short c g
by_resume k short c g None r w o u f m = by_picked k short c g (picked k c g) refl w o u f m r
by_resume k short c g (Some t) r w o u f m = goes_Resume k short c g t w o u f m r

by_outcome : (k : Settings) (short : Bool) (c : Core) (g : Picker) (m : Bool) → may_decide c ≡ m → IsKept k c → over k c ≡ None → is_due k c ≡ false → find (may_park c) (threads c) ≡ None
    → GoesOn k short c g
by_outcome k short c g true m w o u f = goes_Decide k short c g short refl w o u f m
by_outcome k short c g false m w o u f = by_resume k short c g (find (may_resume c) (threads c)) refl w o u f m

by_park : (k : Settings) (short : Bool) (c : Core) (g : Picker) (f : Option ℕ) → find (may_park c) (threads c) ≡ f → IsKept k c → over k c ≡ None → is_due k c ≡ false → GoesOn k short c g
by_park k short c g None f w o u = by_outcome k short c g (may_decide c) refl w o u f
by_park k short c g (Some t) f w o u = goes_Park k short c g t w o u f

by_due : (k : Settings) (short : Bool) (c : Core) (g : Picker) (u : Bool) → is_due k c ≡ u → IsKept k c → over k c ≡ None → GoesOn k short c g
by_due k short c g true u w o = goes_Request k short c g w o u
by_due k short c g false u w o = by_park k short c g (find (may_park c) (threads c)) refl w o u

pub goes_on : (k : Settings) (short : Bool) (c : Core) (g : Picker) → IsKept k c → over k c ≡ None → GoesOn k short c g
goes_on k short c g w o = by_due k short c g (is_due k c) refl w o

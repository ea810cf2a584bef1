-- How many events of a kind a run has.
use Rattle.std.proofs.Common.{◌≡◌, ℕ, ◌+◌, ◌-◌, ◌<◌, ◌≤◌, Bool, true, false, not, ◌||◌, ◌==◌, List, [], ◌∷◌, Option, Some, None, refl, sym, ap, subst, ◌∙◌, arith}
use Rattle.std.specs.Prelude.{cond}
use Rattle.std.specs.List.{list_any}
use Rattle.std.proofs.lemmas.Bool.Decides.{nat_tests}
use Rattle.std.proofs.lemmas.List.Sums.{sum_by-cons}
use Rattle.c_tree.specs.declared.event.Event.{Event}
use Rattle.c_tree.specs.declared.event.EventKind.{EventKind}
use Rattle.c_tree.specs.declared.event.EventKind.TheVariants as e
use Rattle.c_tree.specs.declared.event.Reason.{Reason}
use Rattle.c_tree.specs.declared.run.End.{End}
use Rattle.c_tree.specs.declared.run.End.TheVariants as end
use Rattle.c_tree.specs.declared.run.Phase.{Phase}
use Rattle.c_tree.specs.declared.run.Phase.TheVariants as phase
use Rattle.c_tree.specs.declared.run.Settings.{Settings}
use Rattle.c_tree.specs.Step.{Outcome, Done, Trapped, Finished, Blocked, step}
use Rattle.c_tree.specs.Run.{Core, first, next, run, run_from, stepped, is_before, is_after, is_stuck, or_else, where_true, without}
use Rattle.c_tree.proofs.StepLemmas.{stepped-steps}
use Rattle.state_laws.specs.RunLaws.{is_step, is_request, is_park, is_outcome, is_resume, count_of, HasFew}
use Rattle.c_tree.proofs.BoolLemmas.{and_last, or_there, number_is}
use Rattle.state_laws.proofs.Legal.{over_none, run_cons, request_is, step_is, park_is, update_is, refused, resume_is}
use Rattle.state_laws.proofs.ParkedStand.{due_parts, step_parts, park_parts, decide_asked, resume_after}

pub phase_stepped : (c : Core) (t : ℕ) (o : Outcome) → (stepped c t o).phase ≡ c.phase
phase_stepped c t (Done s) = refl
phase_stepped c t (Trapped x) = refl
phase_stepped c t (Finished n) = refl
phase_stepped c t Blocked = refl

pub parked_stepped : (c : Core) (t : ℕ) (o : Outcome) → (stepped c t o).parked ≡ c.parked
parked_stepped c t (Done s) = refl
parked_stepped c t (Trapped x) = refl
parked_stepped c t (Finished n) = refl
parked_stepped c t Blocked = refl

-- a count by its first event
pub count-cons : (p : EventKind → Bool) (x : Event) (es : List Event) → count_of p (x ∷ es) ≡ cond (p x.kind) 1 0 + count_of p es
count-cons p x es = sum_by-cons (λ event. cond (p event.kind) 1 0) x es

-- what each event that counts takes from a number
count_falls : (P : Core → Type 0) (p : EventKind → Bool) (left : Core → ℕ) (k : Settings)
    → ((c d : Core) (x : EventKind) → P c → next k c x ≡ Some d → P d × (cond (p x) 1 0 + left d ≤ left c))
    → (es : List Event) (c d : Core) → P c → run_from k c es ≡ Some d → count_of p es + left d ≤ left c
count_falls P p left k f [] c d i h =
    let same : c ≡ d = cc in
    let l : left d ≡ left c = ap left (sym same) in
    omega (arith, l)
count_falls P p left k f (x ∷ es) c d i h =
    let on = run_cons k c d x es h in
    let here = f c on.between x.kind i on.first in
    let a : cond (p x.kind) 1 0 + left on.between ≤ left c = here.1 in
    let b : count_of p es + left d ≤ left on.between = count_falls P p left k f es on.between d here.0 on.rest in
    sum_falls (count_of p (x ∷ es)) (cond (p x.kind) 1 0) (count_of p es) (left on.between) (left c) (left d) (count-cons p x es) a b
  where
    sum_falls : (s n m l a b : ℕ) → s ≡ n + m → n + l ≤ a → m + b ≤ l → s + b ≤ a
    sum_falls s n m l a b e h i = omega arith

-- a number made of the phase and of the parked threads, from which each event that counts takes one
record Falls (p : EventKind → Bool) (left : Phase → List ℕ → ℕ) : Type 0 where
  request : (ps : List ℕ) → cond (p e.Request) 1 0 + left phase.Asked ps ≤ left phase.Before ps
  step : (t : ℕ) → p (e.Step t) ≡ false
  park : (t : ℕ) (ps : List ℕ) → list_any (λ u. u == t) ps ≡ false → cond (p (e.Park t)) 1 0 + left phase.Asked (t ∷ ps) ≤ left phase.Asked ps
  update : (ps : List ℕ) → cond (p e.Update) 1 0 + left phase.Updated ps ≤ left phase.Asked ps
  refuse : (r : Reason) (ps : List ℕ) → cond (p (e.Refuse r)) 1 0 + left (phase.Refused r) ps ≤ left phase.Asked ps
  resume : (ph : Phase) (t : ℕ) (ps : List ℕ) → is_after ph ≡ true → list_any (λ u. u == t) ps ≡ true → cond (p (e.Resume t)) 1 0 + left ph (without t ps) ≤ left ph ps

none_falls : (b : Bool) (n m : ℕ) → b ≡ false → m ≡ n → cond b 1 0 + m ≤ n
none_falls true n m h i = cc
none_falls false n m h i = omega arith

event_falls : (p : EventKind → Bool) (left : Phase → List ℕ → ℕ) → Falls p left → (k : Settings) (c d : Core) (x : EventKind) → next k c x ≡ Some d
    → cond (p x) 1 0 + left d.phase d.parked ≤ left c.phase c.parked
event_falls p left f k c d e.Request h =
    let is = request_is k c d h in
    subst (λ y. cond (p e.Request) 1 0 + left y.phase y.parked ≤ left c.phase c.parked) (sym is.1)
    (subst (λ q. cond (p e.Request) 1 0 + left phase.Asked c.parked ≤ left q c.parked) (sym (due_parts k c is.0).before) (f.request c.parked))
event_falls p left f k c d (e.Step t) h =
    let is = step_is k c d t h in
    let o = step c.program t c.state in
    none_falls (p (e.Step t)) (left c.phase c.parked) (left d.phase d.parked) (f.step t)
    (ap (λ y. left y.phase y.parked) is.1
    ∙ (ap (λ q. left q (stepped c t o).parked) (phase_stepped c t o) ∙ ap (left c.phase) (parked_stepped c t o)))
event_falls p left f k c d (e.Park t) h =
    let is = park_is k c d t h in
    let parts = park_parts c t is.0 in
    subst (λ y. cond (p (e.Park t)) 1 0 + left y.phase y.parked ≤ left c.phase c.parked) (sym is.1)
    (subst (λ q. cond (p (e.Park t)) 1 0 + left q (t ∷ c.parked) ≤ left q c.parked) (sym parts.asked) (f.park t c.parked parts.free))
event_falls p left f k c d e.Update h =
    let is = update_is k c d h in
    subst (λ y. cond (p e.Update) 1 0 + left y.phase y.parked ≤ left c.phase c.parked) (sym is.is)
    (subst (λ q. cond (p e.Update) 1 0 + left phase.Updated c.parked ≤ left q c.parked) (sym (decide_asked c is.may)) (f.update c.parked))
event_falls p left f k c d (e.Refuse r) h =
    let is = refused k c d r h in
    subst (λ y. cond (p (e.Refuse r)) 1 0 + left y.phase y.parked ≤ left c.phase c.parked) (sym is.is)
    (subst (λ q. cond (p (e.Refuse r)) 1 0 + left (phase.Refused r) c.parked ≤ left q c.parked) (sym (decide_asked c is.may)) (f.refuse r c.parked))
event_falls p left f k c d (e.Resume t) h =
    let is = resume_is k c d t h in
    subst (λ y. cond (p (e.Resume t)) 1 0 + left y.phase y.parked ≤ left c.phase c.parked) (sym is.1)
    (f.resume c.phase t c.parked (resume_after c t is.0) (and_last (is_after c.phase) (list_any (λ u. u == t) c.parked) is.0))

few : (p : EventKind → Bool) (left : Phase → List ℕ → ℕ) → Falls p left → left phase.Before [] ≤ 1 → (k : Settings) (es : List Event) (c : Core) → run k es ≡ Some c → count_of p es ≤ 1
few p left f l k es c h =
    let all : count_of p es + left c.phase c.parked ≤ left phase.Before [] =
    count_falls (λ _. Unit {0}) p (λ y. left y.phase y.parked) k (λ y z x _ n. (tt, event_falls p left f k y z x n)) es (first k) c tt h
    in
    most (count_of p es) (left c.phase c.parked) (left phase.Before []) all l
  where
    most : (n m a : ℕ) → n + m ≤ a → a ≤ 1 → n ≤ 1
    most n m a h i = omega arith

-- Requests
abbrev requests_left : Phase → List ℕ → ℕ
requests_left p ps = cond (is_before p) 1 0

-- outcomes
abbrev outcomes_left : Phase → List ℕ → ℕ
outcomes_left p ps = cond (is_after p) 0 1

requests_fall : Falls is_request requests_left
requests_fall = record {
  request = λ ps. omega arith;
  step = λ t. refl;
  park = λ t ps h. omega arith;
  update = λ ps. omega arith;
  refuse = λ r ps. omega arith;
  resume = λ ph t ps h i. omega arith;
}

outcomes_fall : Falls is_outcome outcomes_left
outcomes_fall = record {
  request = λ ps. omega arith;
  step = λ t. refl;
  park = λ t ps h. omega arith;
  update = λ ps. omega arith;
  refuse = λ r ps. omega arith;
  resume = λ ph t ps h i. omega arith;
}

-- Parks of a thread
abbrev parks_left : ℕ → Phase → List ℕ → ℕ
parks_left t phase.Before ps = 1
parks_left t phase.Asked ps = cond (list_any (λ u. u == t) ps) 0 1
parks_left t phase.Updated ps = 0
parks_left t (phase.Refused r) ps = 0

at_most_one : (b : Bool) → 0 + cond b 0 1 ≤ 1
at_most_one true = omega arith
at_most_one false = omega arith

at_least_none : (b : Bool) → 0 + 0 ≤ cond b 0 1
at_least_none true = omega arith
at_least_none false = omega arith

park_one : (t u : ℕ) (b : Bool) (ps : List ℕ) → (u == t) ≡ b → list_any (λ v. v == u) ps ≡ false
    → cond b 1 0 + cond (b || list_any (λ v. v == t) ps) 0 1 ≤ cond (list_any (λ v. v == t) ps) 0 1
park_one t u true ps e h =
    let none : list_any (λ v. v == t) ps ≡ false = subst (λ w. list_any (λ v. v == w) ps ≡ false) (number_is u t e) h in
    subst (λ b. 1 + 0 ≤ cond b 0 1) (sym none) (omega arith)
park_one t u false ps e h = omega arith

after_parks : (t : ℕ) (ph : Phase) (xs ys : List ℕ) → is_after ph ≡ true → 0 + parks_left t ph xs ≤ parks_left t ph ys
after_parks t phase.Before xs ys h = cc
after_parks t phase.Asked xs ys h = cc
after_parks t phase.Updated xs ys h = omega arith
after_parks t (phase.Refused r) xs ys h = omega arith

parks_fall : (t : ℕ) → Falls (is_park t) (parks_left t)
parks_fall t = record {
  request = λ ps. at_most_one (list_any (λ u. u == t) ps);
  step = λ u. refl;
  park = λ u ps h. park_one t u (u == t) ps refl h;
  update = λ ps. at_least_none (list_any (λ u. u == t) ps);
  refuse = λ r ps. at_least_none (list_any (λ u. u == t) ps);
  resume = λ ph u ps h i. after_parks t ph (without u ps) ps h;
}

-- Resumes of a thread
abbrev resumes_left : ℕ → Phase → List ℕ → ℕ
resumes_left t p ps = cond (is_after p) (cond (list_any (λ u. u == t) ps) 1 0) 1

listed_at_most : (b : Bool) → 0 + cond b 1 0 ≤ 1
listed_at_most true = omega arith
listed_at_most false = omega arith

none_cons : (t x : ℕ) (b : Bool) (f : List ℕ) → (x == t) ≡ b → list_any (λ u. u == t) f ≡ false → list_any (λ u. u == t) (cond (not b) (x ∷ f) f) ≡ false
none_cons t x true f e h = h
none_cons t x false f e h = ap (λ b. b || list_any (λ u. u == t) f) e ∙ h

none_without : (t : ℕ) (ps : List ℕ) → list_any (λ u. u == t) (without t ps) ≡ false
none_without t [] = refl
none_without t (x ∷ ps) = none_cons t x (x == t) (without t ps) refl (none_without t ps)

or_mono : (a b c : Bool) → (b ≡ true → c ≡ true) → (a || b) ≡ true → (a || c) ≡ true
or_mono true b c f h = refl
or_mono false b c f h = f h

some_cons : (t x : ℕ) (b : Bool) (f ps : List ℕ) → (list_any (λ u. u == t) f ≡ true → list_any (λ u. u == t) ps ≡ true)
    → list_any (λ u. u == t) (cond (not b) (x ∷ f) f) ≡ true → list_any (λ u. u == t) (x ∷ ps) ≡ true
some_cons t x true f ps g h = or_there (x == t) (list_any (λ u. u == t) ps) (g h)
some_cons t x false f ps g h = or_mono (x == t) (list_any (λ u. u == t) f) (list_any (λ u. u == t) ps) g h

pub some_without : (t u : ℕ) (ps : List ℕ) → list_any (λ v. v == t) (without u ps) ≡ true → list_any (λ v. v == t) ps ≡ true
some_without t u [] h = h
some_without t u (x ∷ ps) h = some_cons t x (x == u) (without u ps) ps (some_without t u ps) h

less_listed : (a b : Bool) → (a ≡ true → b ≡ true) → 0 + cond a 1 0 ≤ cond b 1 0
less_listed true true f = omega arith
less_listed true false f = let no : false ≡ true = f refl in cc
less_listed false true f = omega arith
less_listed false false f = omega arith

resume_one : (t u : ℕ) (b : Bool) (ps : List ℕ) → (u == t) ≡ b → list_any (λ v. v == u) ps ≡ true
    → cond b 1 0 + cond (list_any (λ v. v == t) (without u ps)) 1 0 ≤ cond (list_any (λ v. v == t) ps) 1 0
resume_one t u true ps e h =
    let same : u ≡ t = number_is u t e in
    let listed : list_any (λ v. v == t) ps ≡ true = subst (λ w. list_any (λ v. v == w) ps ≡ true) same h in
    let gone : list_any (λ v. v == t) (without u ps) ≡ false = ap (λ w. list_any (λ v. v == t) (without w ps)) same ∙ none_without t ps in
    both (list_any (λ v. v == t) (without u ps)) (list_any (λ v. v == t) ps) gone listed
  where
    both : (a b : Bool) → a ≡ false → b ≡ true → 1 + cond a 1 0 ≤ cond b 1 0
    both false true h i = omega arith
    both true b h i = cc
    both false false h i = cc
resume_one t u false ps e h = less_listed (list_any (λ v. v == t) (without u ps)) (list_any (λ v. v == t) ps) (some_without t u ps)

resume_late : (t u : ℕ) (late : Bool) (ps : List ℕ) → late ≡ true → list_any (λ v. v == u) ps ≡ true
    → cond (u == t) 1 0 + cond late (cond (list_any (λ v. v == t) (without u ps)) 1 0) 1 ≤ cond late (cond (list_any (λ v. v == t) ps) 1 0) 1
resume_late t u true ps h i = resume_one t u (u == t) ps refl i
resume_late t u false ps h i = cc

resumes_fall : (t : ℕ) → Falls (is_resume t) (resumes_left t)
resumes_fall t = record {
  request = λ ps. omega arith;
  step = λ u. refl;
  park = λ u ps h. omega arith;
  update = λ ps. listed_at_most (list_any (λ u. u == t) ps);
  refuse = λ r ps. listed_at_most (list_any (λ u. u == t) ps);
  resume = λ ph u ps h i. resume_late t u (is_after ph) ps h i;
}

-- Steps
pub not_limit : (x y : Option End) (b : Bool) → or_else x (or_else (where_true b end.Limit) y) ≡ None → b ≡ false
not_limit x y false h = refl
not_limit None y true h = cc
not_limit (Some z) y true h = cc

below_limit : (n m : ℕ) → (n == m) ≡ false → n ≤ m → n < m
below_limit n m h l = grind (arith, nat_tests)

other_falls : (k : Settings) (c d : Core) (b : Bool) → b ≡ false → c.steps ≤ k.limit → d.steps ≡ c.steps → (d.steps ≤ k.limit) × (cond b 1 0 + (k.limit - d.steps) ≤ k.limit - c.steps)
other_falls k c d true h l s = cc
other_falls k c d false h l s = same k.limit c.steps d.steps l s
  where
    same : (m a b : ℕ) → a ≤ m → b ≡ a → (b ≤ m) × (0 + (m - b) ≤ m - a)
    same m a b l s = (omega arith, omega arith)

one_step : (m a b : ℕ) → a < m → b ≡ a + 1 → (b ≤ m) × (1 + (m - b) ≤ m - a)
one_step m a b l s = (omega arith, omega arith)

pub step_falls : (k : Settings) (c d : Core) (x : EventKind) → c.steps ≤ k.limit → next k c x ≡ Some d → (d.steps ≤ k.limit) × (cond (is_step x) 1 0 + (k.limit - d.steps) ≤ k.limit - c.steps)
step_falls k c d e.Request l h = other_falls k c d false refl l (ap (λ y. y.steps) (request_is k c d h).1)
step_falls k c d (e.Step t) l h =
    let is = step_is k c d t h in
    let less : c.steps < k.limit = below_limit c.steps k.limit (not_limit c.ended (where_true (is_stuck k c) end.Deadlock) (c.steps == k.limit) (over_none k c d (e.Step t) h)) l in
    one_step k.limit c.steps d.steps less (ap (λ y. y.steps) is.1 ∙ stepped-steps c t (step_parts k c t is.0).able)
step_falls k c d (e.Park t) l h = other_falls k c d false refl l (ap (λ y. y.steps) (park_is k c d t h).1)
step_falls k c d e.Update l h = other_falls k c d false refl l (ap (λ y. y.steps) (update_is k c d h).is)
step_falls k c d (e.Refuse r) l h = other_falls k c d false refl l (ap (λ y. y.steps) (refused k c d r h).is)
step_falls k c d (e.Resume t) l h = other_falls k c d false refl l (ap (λ y. y.steps) (resume_is k c d t h).1)

few_steps : (k : Settings) (es : List Event) (c : Core) → run k es ≡ Some c → count_of is_step es ≤ k.limit
few_steps k es c h =
    let all : count_of is_step es + (k.limit - c.steps) ≤ k.limit - 0 =
    count_falls (λ y. y.steps ≤ k.limit) is_step (λ y. k.limit - y.steps) k (step_falls k) es (first k) c (omega arith) h
    in
    most (count_of is_step es) (k.limit - c.steps) k.limit all
  where
    most : (n m a : ℕ) → n + m ≤ a - 0 → n ≤ a
    most n m a h = omega arith

pub has_few : (k : Settings) (es : List Event) (c : Core) → run k es ≡ Some c → HasFew k es
has_few k es c h = record {
  steps = few_steps k es c h;
  requests = few is_request requests_left requests_fall (omega arith) k es c h;
  outcomes = few is_outcome outcomes_left outcomes_fall (omega arith) k es c h;
  parks = λ t. few (is_park t) (parks_left t) (parks_fall t) (omega arith) k es c h;
  resumes = λ t. few (is_resume t) (resumes_left t) (resumes_fall t) (omega arith) k es c h;
}

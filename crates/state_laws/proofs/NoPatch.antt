-- A run in which no update is made is that of the program without a patch.
use Rattle.std.proofs.Common.{◌≡◌, ℕ, zero, suc, ◌+◌, ◌<◌, Bool, true, false, not, ◌&&◌, ◌==◌, List, [], ◌∷◌, length, Option, Some, None, refl, sym, ap, ◌∙◌, arith}
use Rattle.std.specs.Prelude.{fold, cond}
use Rattle.std.specs.List.{list_any, range_with_len}
use Rattle.c_tree.specs.declared.event.Event.{Event}
use Rattle.c_tree.specs.declared.event.EventKind.{EventKind}
use Rattle.c_tree.specs.declared.event.EventKind.TheVariants as e
use Rattle.c_tree.specs.declared.run.End.{End}
use Rattle.c_tree.specs.declared.run.End.TheVariants as end
use Rattle.c_tree.specs.declared.run.Settings.{Settings}
use Rattle.c_tree.specs.Able.{able}
use Rattle.c_tree.specs.Step.{Outcome, Done, Trapped, Finished, Blocked, is_live, step}
use Rattle.c_tree.specs.Run.{Core, first, next, after, over, run, run_from, stepped, threads, is_due, is_asked, is_stuck, may_step, or_else, where_true}
use Rattle.state_laws.specs.RunLaws.{is_step, is_update, has, unarmed, quiet, steps_of, RunsWithoutPatch}
use Rattle.c_tree.proofs.BoolLemmas.{and_first, and_last, or_first, or_second, or_here, or_there}
use Rattle.state_laws.proofs.Legal.{over_none, next_is, legal_true, run_cons, request_is, step_is, park_is, refused, resume_is}
use Rattle.state_laws.proofs.ParkedStand.{step_parts}
use Rattle.state_laws.proofs.OtherThreads.{live_within}

stepped_quiet : (c : Core) (t : ℕ) (o : Outcome) → quiet (stepped c t o) ≡ stepped (quiet c) t o
stepped_quiet c t (Done s) = refl
stepped_quiet c t (Trapped x) = refl
stepped_quiet c t (Finished n) = refl
stepped_quiet c t Blocked = refl

-- the parts of a run that isn't over, and of one that is
going : (x : Option End) (l : Bool) (y : Option End) → or_else x (or_else (where_true l end.Limit) y) ≡ None → (x ≡ None) × (l ≡ false)
going None false y h = (refl, refl)
going None true y h = cc
going (Some z) l y h = cc

goes_on : (x : Option End) (l s : Bool) → x ≡ None → l ≡ false → s ≡ false → or_else x (or_else (where_true l end.Limit) (where_true s end.Deadlock)) ≡ None
goes_on None false false h i j = refl
goes_on (Some y) l s h i j = cc
goes_on None true s h i j = cc
goes_on None false true h i j = cc

same_end : (x l : Option End) (s u : Bool) (z : End) → (s ≡ true → u ≡ true) → or_else x (or_else l (where_true s end.Deadlock)) ≡ Some z → or_else x (or_else l (where_true u end.Deadlock)) ≡ Some z
same_end (Some y) l s u z f h = h
same_end None (Some y) s u z f h = h
same_end None None true true z f h = h
same_end None None true false z f h = let no : false ≡ true = f refl in cc
same_end None None false u z f h = cc

-- one of the threads that can go on
pub any_at : (p : ℕ → Bool) (a n i : ℕ) → i < n → p (a + i) ≡ true → list_any p (range_with_len a n) ≡ true
any_at p a zero i l h = absurd (omega (arith, l))
any_at p a (suc n) zero l h =
    let z : a + 0 ≡ a = omega arith in
    or_here (p a) (list_any p (range_with_len (a + 1) n)) (ap p (sym z) ∙ h)
any_at p a (suc n) (suc i) l h =
    let z : a + suc i ≡ a + 1 + i = omega arith in
    or_there (p a) (list_any p (range_with_len (a + 1) n)) (any_at p (a + 1) n i (omega (arith, l)) (ap p (sym z) ∙ h))

able_listed : (c : Core) (t : ℕ) → able c.program c.state t ≡ true → list_any (able c.program c.state) (threads c) ≡ true
able_listed c t h =
    let z : 0 + t ≡ t = omega arith in
    any_at (able c.program c.state) 0 (length c.state.threads) t (live_within c.state t (and_first (is_live c.state t) _ h)) (ap (able c.program c.state) z ∙ h)

quiet_over : (k : Settings) (c : Core) (t : ℕ) → over k c ≡ None → able c.program c.state t ≡ true → over (unarmed k) (quiet c) ≡ None
quiet_over k c t o a =
    let parts = going c.ended (c.steps == k.limit) (where_true (is_stuck k c) end.Deadlock) o in
    goes_on c.ended (c.steps == k.limit) (is_stuck (unarmed k) (quiet c)) parts.0 parts.1 (ap not (able_listed c t a))

quiet_may : (k : Settings) (c : Core) (t : ℕ) → able c.program c.state t ≡ true → may_step (unarmed k) (quiet c) t ≡ true
quiet_may k c t a = four (able c.program c.state t) a
  where
    four : (a : Bool) → a ≡ true → (true && a && true && true) ≡ true
    four true h = refl
    four false h = cc

quiet_step : (k : Settings) (c d : Core) (t : ℕ) → next k c (e.Step t) ≡ Some d → next (unarmed k) (quiet c) (e.Step t) ≡ Some (quiet d)
quiet_step k c d t h =
    let is = step_is k c d t h in
    let able = (step_parts k c t is.0).able in
    let o = step c.program t c.state in
    let same : stepped (quiet c) t o ≡ quiet d = sym (stepped_quiet c t o) ∙ ap quiet (sym is.1) in
    next_is (unarmed k) (quiet c) (e.Step t) (quiet_over k c t (over_none k c d (e.Step t) h) able)
    ∙ (legal_true (may_step (unarmed k) (quiet c) t) (stepped (quiet c) t o) (quiet_may k c t able) ∙ ap (λ y. let r : Option Core = Some y in r) same)

quiet_other : (k : Settings) (c d : Core) (x : EventKind) → is_step x ≡ false → is_update x ≡ false → next k c x ≡ Some d → quiet c ≡ quiet d
quiet_other k c d e.Request s u h = ap quiet (sym (request_is k c d h).1)
quiet_other k c d (e.Step t) s u h = cc
quiet_other k c d (e.Park t) s u h = ap quiet (sym (park_is k c d t h).1)
quiet_other k c d e.Update s u h = cc
quiet_other k c d (e.Refuse r) s u h = ap quiet (sym (refused k c d r h).is)
quiet_other k c d (e.Resume t) s u h = ap quiet (sym (resume_is k c d t h).1)

step_quiet : (k : Settings) (c d : Core) (x : EventKind) → is_step x ≡ true → next k c x ≡ Some d → next (unarmed k) (quiet c) x ≡ Some (quiet d)
step_quiet k c d (e.Step t) s h = quiet_step k c d t h
step_quiet k c d e.Request s h = cc
step_quiet k c d (e.Park t) s h = cc
step_quiet k c d e.Update s h = cc
step_quiet k c d (e.Refuse r) s h = cc
step_quiet k c d (e.Resume t) s h = cc

cons_quiet : (k : Settings) (c b d : Core) (x : Event) (es : List Event) (s : Bool) → is_step x.kind ≡ s → is_update x.kind ≡ false → next k c x.kind ≡ Some b
    → run_from (unarmed k) (quiet b) (steps_of es) ≡ Some (quiet d) → run_from (unarmed k) (quiet c) (cond s (x ∷ steps_of es) (steps_of es)) ≡ Some (quiet d)
cons_quiet k c b d x es true s u n h = ap (λ o. fold (after (unarmed k)) o (steps_of es)) (step_quiet k c b x.kind s n) ∙ h
cons_quiet k c b d x es false s u n h = ap (λ y. run_from (unarmed k) y (steps_of es)) (quiet_other k c b x.kind s u n) ∙ h

pub run_quiet : (k : Settings) (es : List Event) (c d : Core) → has is_update es ≡ false → run_from k c es ≡ Some d → run_from (unarmed k) (quiet c) (steps_of es) ≡ Some (quiet d)
run_quiet k [] c d n h = let same : c ≡ d = cc in ap (λ y. let r : Option Core = Some (quiet y) in r) same
run_quiet k (x ∷ es) c d n h =
    let on = run_cons k c d x es h in
    cons_quiet k c on.between d x es (is_step x.kind) refl (or_first (is_update x.kind) (has is_update es) n) on.first
    (run_quiet k es on.between d (or_second (is_update x.kind) (has is_update es) n) on.rest)

pub without_patch : (k : Settings) (es : List Event) (c : Core) → run k es ≡ Some c → has is_update es ≡ false → RunsWithoutPatch k es c
without_patch k es c h n = record {
  comes = run_quiet k es (first k) c n h;
  ends = λ x o. same_end c.ended (where_true (c.steps == k.limit) end.Limit) (is_stuck k c) (is_stuck (unarmed k) (quiet c)) x
      (λ s. and_last (not (is_due k c) && not (is_asked c.phase) && length c.parked == 0) (not (list_any (able c.program c.state) (threads c))) s) o;
}

-- What the state of a World says of its history.
use Rattle.std.proofs.Common.{◌≡◌, ℕ, Bool, true, false, not, ◌&&◌, List, [], ◌∷◌, length, Option, Some, None, refl, ap, sym, subst, ◌∙◌}
use Rattle.std.specs.Prelude.{find, fold, is_some, unwrap_or, IfSome, IsTrue}
use Rattle.c_tree.specs.declared.lifted.Lifted.{Lifted}
use Rattle.c_tree.specs.declared.run.Armed.{Armed}
use Rattle.c_tree.specs.declared.run.End.{End}
use Rattle.c_tree.specs.declared.run.Phase.TheVariants as phase
use Rattle.c_tree.specs.declared.run.Settings.{Settings}
use Rattle.c_tree.specs.Able.{able, standing}
use Rattle.c_tree.specs.Run as r
use Rattle.plain_run.specs.CoreAt.{core_at, present}
use Rattle.plain_run.specs.Made as plain
use Rattle.plain_run.proofs.FindLemmas.{find-passes}
use Rattle.world_core.specs.History.{History, behind, core, first_from, first_of, on, over, may_turn, IsRun}
use Rattle.world_core.specs.Sound.{IsSound, history_of, now_of}
use Rattle.world_core.specs.Part.{Part}
use Rattle.world_core.specs.declared.world.World.TheInside.{Inside}

-- the program that runs now
abbrev pub program_of : Inside → Lifted
program_of w = present w.here.phase w.settings.armed w.settings.program

core_is : (h : History) (c : r.Core) → r.run_from h.settings (first_of h) h.events ≡ Some c → core h ≡ c
unfolding core
core_is h c e = ap (λ o. unwrap_or o (first_of h)) e

core_inside : (w : Inside) → IsSound w → core (history_of w) ≡ now_of w
core_inside w s = core_is (history_of w) (now_of w) s.leads

pub told : (w : Inside) (h : History) → history_of w ≡ h → IsSound w → core h ≡ now_of w
told w h v s = ap core (sym v) ∙ core_inside w s

pub run_told : (w : Inside) (h : History) → history_of w ≡ h → IsSound w → IsRun h
run_told w h v s = subst IsRun v (s.leads ∙ ap (λ c. let o : Option r.Core = Some c in o) (sym (core_inside w s)))

-- where a run begins
fold_before : (c : r.Core) (ps : List Part) → c.phase ≡ phase.Before → (fold behind c ps).phase ≡ phase.Before
fold_before c [] e = e
fold_before c (p ∷ ps) e = fold_before (behind c p) ps refl

pub first_before : (ps : List Part) (k : Settings) → (first_from ps k).phase ≡ phase.Before
first_before [] k = refl
first_before (p ∷ ps) k = fold_before (behind (r.first p.settings) p) ps refl

-- a patch plays no part in where a run begins
pub first_armed : (ps : List Part) (k : Settings) (o : Option Armed) → first_from ps (record k { armed = o }) ≡ first_from ps k
first_armed [] k o = refl
first_armed (p ∷ ps) k o = refl

begins : (h : History) → h.events ≡ [] → core h ≡ first_of h
unfolding core
begins h e = ap (λ es. unwrap_or (r.run_from h.settings (first_of h) es) (first_of h)) e

pub core_empty : (h : History) → h.earlier ≡ [] → h.events ≡ [] → core h ≡ r.first h.settings
core_empty h none e = begins h e ∙ ap (λ ps. first_from ps h.settings) none

-- what a test says of the state it says of the history
pub test_told : {A : Type 0} (f : Settings → r.Core → A) (w : Inside) (h : History) → history_of w ≡ h → IsSound w → f w.settings (now_of w) ≡ f h.settings (core h)
test_told f w h v s = ap (λ c. f w.settings c) (sym (core_inside w s)) ∙ ap (λ g. f g.settings (core g)) v

pub test_at : {A : Type 0} (f : Settings → r.Core → A) (w : Inside) (h : History) (p : Lifted) → history_of w ≡ h → IsSound w → p ≡ program_of w
    → f w.settings (core_at p w.here) ≡ f h.settings (core h)
test_at f w h p v s e = ap (λ q. f w.settings (core_at q w.here)) e ∙ test_told f w h v s

-- an event that may come by the history may come where the run stands
pub may_told : (f : Settings → r.Core → Bool) (w : Inside) (h : History) → history_of w ≡ h → IsSound w → on h (f h.settings (core h)) ≡ true
    → plain.on w.settings (now_of w) (f w.settings (now_of w)) ≡ true
may_told f w h v s m = test_told (λ k c. plain.on k c (f k c)) w h v s ∙ m

pub over_told : (w : Inside) (h : History) (p : Lifted) → history_of w ≡ h → IsSound w → p ≡ program_of w
    → r.over w.settings (core_at p w.here) ≡ over h
over_told w h p v s e = test_at r.over w h p v s e

pub step_told : (w : Inside) (h : History) (p : Lifted) (t : ℕ) → history_of w ≡ h → IsSound w → p ≡ program_of w
    → r.may_step w.settings (core_at p w.here) t ≡ r.may_step h.settings (core h) t
step_told w h p t v s e = test_at (λ k c. r.may_step k c t) w h p v s e

pub able_told : (w : Inside) (h : History) (p : Lifted) (t : ℕ) → history_of w ≡ h → IsSound w → p ≡ program_of w
    → able p w.here.state t ≡ able (core h).program (core h).state t
able_told w h p t v s e = test_at (λ k c. able c.program c.state t) w h p v s e

pub standing_told : (w : Inside) (h : History) (p : Lifted) (t : ℕ) → history_of w ≡ h → IsSound w → p ≡ program_of w
    → standing p w.here.state t ≡ standing (core h).program (core h).state t
standing_told w h p t v s e = test_at (λ k c. standing c.program c.state t) w h p v s e

pub find_at : (f : r.Core → ℕ → Bool) (w : Inside) (h : History) (p : Lifted) → history_of w ≡ h → IsSound w → p ≡ program_of w
    → find (f (core_at p w.here)) (r.threads (core_at p w.here)) ≡ find (f (core h)) (r.threads (core h))
find_at f w h p v s e = test_at (λ k c. find (f c) (r.threads c)) w h p v s e

pub threads_told : (w : Inside) (h : History) → history_of w ≡ h → IsSound w → length w.here.state.threads ≡ length (core h).state.threads
threads_told w h v s = ap (λ c. length c.state.threads) (sym (told w h v s))

-- while the run is on, a test is the answer
under : (o : Option End) (b c : Bool) → o ≡ None → b ≡ c → b ≡ (not (is_some o) && c)
under None b c e f = f
under (Some x) b c e f = cc

pub on_told : (h : History) (b c : Bool) → over h ≡ None → b ≡ c → b ≡ on h c
on_told h b c o e = under (over h) b c o e

pub may_turn_told : (w : Inside) (h : History) (p : Lifted) (t : ℕ) (b : Bool) → history_of w ≡ h → IsSound w → p ≡ program_of w
    → over h ≡ None → b ≡ r.may_step w.settings (core_at p w.here) t → b ≡ may_turn h t
may_turn_told w h p t b v s e o f = on_told h b (r.may_step h.settings (core h) t) o (f ∙ step_told w h p t v s e)

-- what is found may be done, while the run is on
pub found_may : (h : History) (f : r.Core → ℕ → Bool) (o : Option ℕ) → o ≡ find (f (core h)) (r.threads (core h)) → over h ≡ None → IfSome o (λ t. IsTrue (on h (f (core h) t)))
found_may h f None e n = tt
found_may h f (Some t) e n = sym (on_told h true (f (core h) t) n (sym (find-passes (f (core h)) (r.threads (core h)) t (sym e))))

pub none_if : (x : Option End) (h : History) → x ≡ over h → is_some x ≡ false → over h ≡ None
none_if None h e f = sym e
none_if (Some y) h e f = cc

parts : (o : Option End) (b : Bool) → (not (is_some o) && b) ≡ true → (o ≡ None) × (b ≡ true)
parts None b e = (refl, e)
parts (Some x) b e = cc

pub over_none : (h : History) (b : Bool) → on h b ≡ true → over h ≡ None
over_none h b m = (parts (over h) b m).0

pub may_of : (h : History) (b : Bool) → on h b ≡ true → b ≡ true
may_of h b m = (parts (over h) b m).1

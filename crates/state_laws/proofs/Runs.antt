-- Each state of a run before its update is valid.
use Rattle.std.proofs.Common.{◌≡◌, ◌≢◌, ℕ, Bool, true, false, ◌&&◌, List, [], ◌∷◌, Option, Some, None, IfSome, Result, Ok, Err, fold, refl, sym, ap, subst, ◌∙◌}
use Rattle.std.specs.Prelude.{if◌then◌else◌}
use Rattle.c_tree.specs.declared.event.Event.{Event}
use Rattle.c_tree.specs.declared.event.EventKind.{EventKind}
use Rattle.c_tree.specs.declared.event.EventKind.TheVariants as e
use Rattle.c_tree.specs.declared.event.Reason.{Reason}
use Rattle.c_tree.specs.declared.event.Reason.TheVariants as reason
use Rattle.c_tree.specs.declared.lifted.Lifted.{Lifted}
use Rattle.c_tree.specs.declared.run.End.{End}
use Rattle.c_tree.specs.declared.run.Phase.{Phase}
use Rattle.c_tree.specs.declared.run.Phase.TheVariants as phase
use Rattle.c_tree.specs.declared.run.Settings.{Settings}
use Rattle.c_tree.specs.declared.state.State.{State}
use Rattle.c_tree.specs.Update.{update}
use Rattle.c_tree.specs.Step.{Outcome, Done, Trapped, Finished, Blocked, step}
use Rattle.c_tree.specs.Run.{Core, first, next, after, run, over, table, while_on, legal, stepped, decided, updated, may_decide, may_step, may_park, may_resume, is_due, is_before, is_asked}
use Rattle.c_tree.specs.Formed.{IsFormed}
use Rattle.c_tree.specs.Valid.{Valid}
use Rattle.state_laws.proofs.First.{start_is_valid}
use Rattle.state_laws.proofs.Steps.{step_is_valid}

-- the program is the one that started, and the state is valid
abbrev pub Sound : Lifted → Core → Type 0
Sound p c = (c.program ≡ p) × Valid p c.state

abbrev pub SoundUntil : Lifted → Core → Type 0
SoundUntil p c = c.phase ≢ phase.Updated → Sound p c

pub legal_keeps : (P : Core → Type 0) (b : Bool) (c : Core) → (b ≡ true → P c) → IfSome (legal b c) P
legal_keeps P true c h = h refl
legal_keeps P false c h = tt

while_keeps : (P : Core → Type 0) (x : Option End) (c : Option Core) → IfSome c P → IfSome (while_on x c) P
while_keeps P None c h = h
while_keeps P (Some x) c h = tt

-- what each event keeps holds after a run
pub runs_keep : (P : Core → Type 0) (k : Settings) → ((c : Core) (x : EventKind) → P c → IfSome (table k c x) P) → (events : List Event) (c : Option Core) → IfSome c P → IfSome (fold (after k) c events) P
unfolding next
runs_keep P k keeps [] c h = h
runs_keep P k keeps (x ∷ events) None h = runs_keep P k keeps events None tt
runs_keep P k keeps (x ∷ events) (Some c) h = runs_keep P k keeps events (next k c x.kind) (while_keeps P (over k c) (table k c x.kind) (keeps c x.kind h))

-- a step leaves the phase
pub stepped_phase : (c : Core) (t : ℕ) (o : Outcome) → (stepped c t o).phase ≡ c.phase
stepped_phase c t (Done s) = refl
stepped_phase c t (Trapped cause) = refl
stepped_phase c t (Finished n) = refl
stepped_phase c t Blocked = refl

stepped_sound : (p : Lifted) (c : Core) (t : ℕ) (o : Outcome) → Sound p c → ((s : State) → o ≡ Done s → Valid p s) → Sound p (stepped c t o)
stepped_sound p c t (Done s) h f = (h.0, f s refl)
stepped_sound p c t (Trapped cause) h f = h
stepped_sound p c t (Finished n) h f = h
stepped_sound p c t Blocked h f = h

-- where an update may be asked or decided, none was made
pub first_true : (a b : Bool) → (a && b) ≡ true → a ≡ true
first_true true b e = refl
first_true false b e = e

second_true : (a b c d : Bool) → (a && b && c && d) ≡ true → b ≡ true
second_true a true c d e = refl
second_true true false c d e = e
second_true false false c d e = e

not_before : (x : Phase) → is_before x ≡ true → x ≢ phase.Updated
not_before x e = λ u. let no : false ≡ true = sym (ap is_before u) ∙ e in absurd (let k : ⊥ = cc in k)

pub not_asked : (x : Phase) → is_asked x ≡ true → x ≢ phase.Updated
not_asked x e = λ u. let no : false ≡ true = sym (ap is_asked u) ∙ e in absurd (let k : ⊥ = cc in k)

-- a Request comes before an update
pub is_before_due : (k : Settings) (c : Core) → is_due k c ≡ true → c.phase ≢ phase.Updated
is_before_due k c due = not_before c.phase (second_true _ (is_before c.phase) _ _ due)

updated_sound : (p : Lifted) (k : Settings) (c : Core) (r : Result State Reason) → IfSome (updated k c r) (SoundUntil p)
updated_sound p k c (Ok s) = λ some. absurd (some refl)
updated_sound p k c (Err x) = tt

table_sound : (k : Settings) → IsFormed k.program → (c : Core) (x : EventKind) → SoundUntil k.program c → IfSome (table k c x) (SoundUntil k.program)
table_sound k formed c e.Request h =
    legal_keeps (SoundUntil k.program) (is_due k c) (record c { phase = phase.Asked }) (λ due _. h (not_before c.phase (second_true _ (is_before c.phase) _ _ due)))
table_sound k formed c (e.Step t) h =
    let o = step c.program t c.state in
    legal_keeps (SoundUntil k.program) (may_step k c t) (stepped c t o)
    (λ _ some.
    let sound = h (λ u. some (stepped_phase c t o ∙ u)) in
    stepped_sound k.program c t o sound (λ s is. step_is_valid k.program t c.state s formed sound.1 (subst (λ p. step p t c.state ≡ Done s) sound.0 is)))
table_sound k formed c (e.Park t) h = legal_keeps (SoundUntil k.program) (may_park c t) (record c { parked = t ∷ c.parked }) (λ _. h)
table_sound k formed c e.Update h = pick (may_decide c) where
  pick : (b : Bool) → IfSome (if b then updated k c (decided k c) else None) (SoundUntil k.program)
  pick true = updated_sound k.program k c (decided k c)
  pick false = tt
table_sound k formed c (e.Refuse r) h =
    legal_keeps (SoundUntil k.program) _ (record c { phase = phase.Refused r }) (λ may _. h (not_asked c.phase (first_true (is_asked c.phase) _ (first_true (may_decide c) _ may))))
table_sound k formed c (e.Resume t) h = legal_keeps (SoundUntil k.program) (may_resume c t) _ (λ _. h)

pub run_is_valid_until : (k : Settings) (events : List Event) (c : Core) → IsFormed k.program → run k events ≡ Some c → c.phase ≢ phase.Updated → (c.program ≡ k.program) × Valid k.program c.state
run_is_valid_until k events c formed e =
    subst (λ o. IfSome o (SoundUntil k.program)) e
    (runs_keep (SoundUntil k.program) k (table_sound k formed) events (Some (first k)) (λ _. (refl, start_is_valid k.program k.input formed)))

-- with nothing armed no update is made
abbrev pub NotUpdated : Core → Type 0
NotUpdated c = c.phase ≢ phase.Updated

no_update : (k : Settings) (c : Core) → k.armed ≡ None → decided k c ≡ Err reason.Memory
no_update k c e = ap (λ a. elim a as (λ _. Result State Reason) [ None ↦ Err reason.Memory | Some a ↦ update a.patch c.state ]) e

table_never : (k : Settings) → k.armed ≡ None → (c : Core) (x : EventKind) → NotUpdated c → IfSome (table k c x) NotUpdated
table_never k none c e.Request h = legal_keeps NotUpdated (is_due k c) (record c { phase = phase.Asked }) (λ _ u. absurd (let k : ⊥ = cc in k))
table_never k none c (e.Step t) h = let o = step c.program t c.state in legal_keeps NotUpdated (may_step k c t) (stepped c t o) (λ _ u. h (sym (stepped_phase c t o) ∙ u))
table_never k none c (e.Park t) h = legal_keeps NotUpdated (may_park c t) (record c { parked = t ∷ c.parked }) (λ _. h)
table_never k none c e.Update h = pick (may_decide c) where
  pick : (b : Bool) → IfSome (if b then updated k c (decided k c) else None) NotUpdated
  pick true = subst (λ r. IfSome (updated k c r) NotUpdated) (sym (no_update k c none)) tt
  pick false = tt
table_never k none c (e.Refuse r) h = legal_keeps NotUpdated _ (record c { phase = phase.Refused r }) (λ _ u. absurd (let k : ⊥ = cc in k))
table_never k none c (e.Resume t) h = legal_keeps NotUpdated (may_resume c t) _ (λ _. h)

never_updated : (k : Settings) (events : List Event) (c : Core) → k.armed ≡ None → run k events ≡ Some c → c.phase ≢ phase.Updated
never_updated k events c none e = subst (λ o. IfSome o NotUpdated) e (runs_keep NotUpdated k (table_never k none) events (Some (first k)) (λ u. absurd (let k : ⊥ = cc in k)))

pub run_is_valid : (k : Settings) (events : List Event) (c : Core) → IsFormed k.program → k.armed ≡ None → run k events ≡ Some c → (c.program ≡ k.program) × Valid k.program c.state
run_is_valid k events c formed none e = run_is_valid_until k events c formed e (never_updated k events c none e)

-- Each state of a run is valid for the program that runs then.
use Rattle.std.proofs.Common.{◌≡◌, ◌≢◌, ℕ, Bool, true, false, List, ◌∷◌, Option, Some, None, IfSome, Result, Ok, Err, refl, sym, ap, subst, ◌∙◌}
use Rattle.std.specs.Prelude.{if◌then◌else◌}
use Rattle.c_tree.specs.declared.event.Event.{Event}
use Rattle.c_tree.specs.declared.event.EventKind.{EventKind}
use Rattle.c_tree.specs.declared.event.EventKind.TheVariants as e
use Rattle.c_tree.specs.declared.event.Reason.{Reason}
use Rattle.c_tree.specs.declared.event.Reason.TheVariants as reason
use Rattle.c_tree.specs.declared.lifted.Lifted.{Lifted}
use Rattle.c_tree.specs.declared.run.Armed.{Armed}
use Rattle.c_tree.specs.declared.run.Phase.TheVariants as phase
use Rattle.c_tree.specs.declared.run.Settings.{Settings}
use Rattle.c_tree.specs.declared.state.State.{State}
use Rattle.c_tree.specs.Step.{Outcome, Done, Trapped, Finished, Blocked, step}
use Rattle.c_tree.specs.Run.{Core, first, run, table, stepped, decided, updated, new_program, may_decide, may_step, may_park, may_resume, is_due, is_asked}
use Rattle.c_tree.specs.Update.{update}
use Rattle.c_tree.specs.Formed.{IsFormed}
use Rattle.c_tree.specs.Valid.{Valid}
use Rattle.state_laws.specs.Laws.{IsArmedBy, IsWellArmed}
use Rattle.state_laws.proofs.First.{start_is_valid}
use Rattle.state_laws.proofs.Runs.{legal_keeps, runs_keep, not_asked, first_true, is_before_due}
use Rattle.state_laws.proofs.Steps.{step_is_valid}
use Rattle.state_laws.proofs.UnchangedPlaces.{update_is_valid}

-- the program that runs is formed and the state valid for it; before an update it is the one that started
pub record IsSoundCore (p : Lifted) (c : Core) : Type 0 where
  pub formed : IsFormed c.program
  pub valid : Valid c.program c.state
  pub same : c.phase ≢ phase.Updated → c.program ≡ p

stepped_core : (p : Lifted) (c : Core) (t : ℕ) (o : Outcome) → IsSoundCore p c → ((s : State) → o ≡ Done s → Valid c.program s) → IsSoundCore p (stepped c t o)
stepped_core p c t (Done s) h f = record { formed = h.formed; valid = f s refl; same = h.same }
stepped_core p c t (Trapped cause) h f = record { formed = h.formed; valid = h.valid; same = h.same }
stepped_core p c t (Finished n) h f = record { formed = h.formed; valid = h.valid; same = h.same }
stepped_core p c t Blocked h f = h

-- what an update leads to
abbrev decided_by : Option Armed → Core → Result State Reason
decided_by armed c = elim armed as (λ _. Result State Reason) [ None ↦ Err reason.Memory | Some a ↦ update a.patch c.state ]

abbrev program_by : Option Armed → Core → Lifted
program_by armed c = elim armed as (λ _. Lifted) [ None ↦ c.program | Some a ↦ a.patch.new ]

updated_core : (p : Lifted) (armed : Option Armed) (c : Core) (r : Result State Reason) → IfSome armed (λ a. IsArmedBy p a.patch) → IsSoundCore p c → c.program ≡ p → decided_by armed c ≡ r
    → (k : Settings) → k.armed ≡ armed → IfSome (updated k c r) (IsSoundCore p)
updated_core p armed c (Err x) well h same is k e = tt
updated_core p None c (Ok s) well h same is k e = absurd (let no : ⊥ = cc in no)
updated_core p (Some a) c (Ok s) well h same is k e =
    let old : a.patch.old ≡ c.program = well.old ∙ sym same in
    let program : new_program k c ≡ a.patch.new = ap (λ x. program_by x c) e in
    let valid : Valid a.patch.old c.state = subst (λ q. Valid q c.state) (sym old) h.valid in
    let formed : IsFormed a.patch.old = subst IsFormed (sym old) h.formed in
    record {
      formed = subst IsFormed (sym program) well.new;
      valid = subst (λ q. Valid q s) (sym program) (update_is_valid a.patch c.state s formed well.new well.sound valid is);
      same = λ other. absurd (other refl);
    }

table_core : (k : Settings) → IsWellArmed k → (c : Core) (x : EventKind) → IsSoundCore k.program c → IfSome (table k c x) (IsSoundCore k.program)
table_core k well c e.Request h =
    legal_keeps (IsSoundCore k.program) (is_due k c) (record c { phase = phase.Asked })
    (λ due. record { formed = h.formed; valid = h.valid; same = λ _. h.same (is_before_due k c due) })
table_core k well c (e.Step t) h =
    let o = step c.program t c.state in
    legal_keeps (IsSoundCore k.program) (may_step k c t) (stepped c t o) (λ _. stepped_core k.program c t o h (λ s is. step_is_valid c.program t c.state s h.formed h.valid is))
table_core k well c (e.Park t) h =
    legal_keeps (IsSoundCore k.program) (may_park c t) (record c { parked = t ∷ c.parked }) (λ _. record { formed = h.formed; valid = h.valid; same = h.same })
table_core k well c e.Update h = pick (may_decide c) refl where
  pick : (b : Bool) → may_decide c ≡ b → IfSome (if b then updated k c (decided k c) else None) (IsSoundCore k.program)
  pick true may = updated_core k.program k.armed c (decided k c) well h (h.same (not_asked c.phase (first_true (is_asked c.phase) _ may))) refl k refl
  pick false may = tt
table_core k well c (e.Refuse r) h =
    legal_keeps (IsSoundCore k.program) _ (record c { phase = phase.Refused r })
    (λ may. record { formed = h.formed; valid = h.valid; same = λ _. h.same (not_asked c.phase (first_true (is_asked c.phase) _ (first_true (may_decide c) _ may))) })
table_core k well c (e.Resume t) h = legal_keeps (IsSoundCore k.program) (may_resume c t) _ (λ _. record { formed = h.formed; valid = h.valid; same = h.same })

pub whole_run_is_valid : (k : Settings) (events : List Event) (c : Core) → IsFormed k.program → IsWellArmed k → run k events ≡ Some c → IsFormed c.program × Valid c.program c.state
whole_run_is_valid k events c formed well e =
    let start : IsSoundCore k.program (first k) = record { formed = formed; valid = start_is_valid k.program k.input formed; same = λ _. refl } in
    let sound : IsSoundCore k.program c = subst (λ o. IfSome o (IsSoundCore k.program)) e (runs_keep (IsSoundCore k.program) k (table_core k well) events (Some (first k)) start) in
    (sound.formed, sound.valid)

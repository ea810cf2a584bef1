-- A return leads the caller on, and a call into the callee.
use Rattle.std.proofs.Common.{◌≡◌, ⊎_elim, inl, ℕ, zero, suc, ◌+◌, ◌-◌, ◌%◌, ◌<◌, ◌≤◌, ◌==◌, ℤ, pos, Bool, true, false, List, [], ◌∷◌, ◌++◌, length, reverse, take, drop, replicate, Option, Some, None, refl, sym, ap, ◌∙◌, subst, arith, le_of_eq, ne_eqb}
use Rattle.std.specs.Prelude.{slice_get, slice_set, if◌then◌else◌, nat_lt}
use Rattle.std.specs.Int.{w32, cast_unsigned}
use Rattle.std.proofs.lemmas.List.{take_all, length-reverse, reverse-reverse}
use Rattle.std.proofs.Math.ListN.{drop_of_length-le}
use mathlib.Core.List.{reverse_aux}
use Rattle.c_tree.specs.declared.lifted.LExpr.{LExpr}
use Rattle.c_tree.specs.declared.lifted.LStmt.TheVariants as s
use Rattle.c_tree.specs.declared.lifted.Lifted.{Lifted}
use Rattle.c_tree.specs.declared.place.Act.TheVariants.{Do}
use Rattle.c_tree.specs.declared.place.Follow.TheVariants.{One}
use Rattle.c_tree.specs.declared.place.Place.{Place}
use Rattle.c_tree.specs.declared.state.Frame.{Frame}
use Rattle.c_tree.specs.declared.state.Trap.TheVariants as trap
use Rattle.c_tree.specs.Layout.{place, place_at}
use Rattle.c_tree.specs.Limits.{max_frames}
use Rattle.c_tree.specs.Step.{Outcome, Acting, function_of, moved, set_slot, set_result, fresh, top_of, outer_of, with_top, at_frame, called, resumed, returned}
use Rattle.c_tree.specs.Step as step
use Rattle.state_laws.proofs.Places.{where_is}
use Rattle.store_mem.specs.Laws.{with_threads}
use Rattle.store_mem.specs.Memory.{Memory}
use Rattle.target_code.specs.declared.code.CodeFunction.{CodeFunction}
use Rattle.target_code.specs.declared.instr.Instr.{Instr}
use Rattle.target_code.specs.declared.instr.Instr.TheVariants as i
use Rattle.target_code.specs.Between.{body_at, FitsFunction, Wait, Waits, AllWait, acts, frames}
use Rattle.target_code.specs.Code.{code_of}
use Rattle.target_code.specs.Machine.{Setting, Machine, Ended, Finished, function_in, pushed, led, act, go}
use Rattle.target_laws.specs.Laws.{setting}
use Rattle.target_laws.proofs.Exprs.{put}
use Rattle.target_laws.proofs.Frames.{reverse_cons, top_reverse, outer_reverse, with_top_reverse}
use Rattle.target_laws.proofs.Halts.{run_of}
use Rattle.target_laws.proofs.Places.{code_at}
use Rattle.target_laws.proofs.Turned.{Threads, holds_first, fits_set, fits_fresh, Leading, state_with, Agrees, Ends, ends_step, arrives}

module _ (p : Lifted) (t : ℕ) (mem0 : Memory) (ts0 : Threads) where
  abbrev w : Setting
  w = setting p t false

  abbrev Ended_as : Machine → Outcome → Type 0
  Ended_as m o = Ends p t mem0 ts0 m o

  -- the thread of the step, with these frames
  abbrev pub thread : List Frame → Acting
  thread fs = record { program = p; thread = t; state = with_threads ts0 mem0.state; frames = fs }

  abbrev gone_on : List Wait → Frame → Outcome
  gone_on ws f = step.Done (state_with p t mem0 ts0 mem0 ts0 (reverse (f ∷ frames ws)))

  -- the caller takes the result at its `after`
  takes : (x : Wait) (ws : List Wait) (v : ℤ) (after next : ℕ) (to : Option ℕ) → FitsFunction p x.frame → slice_get (body_at p x.frame.function) after ≡ Some (i.After x.frame.place to) → Leading p x.frame.function (after + 1) next → AllWait p ws → (c : ℕ) → Ended_as (run_of x.frame after ws v mem0 c) (gone_on ws (moved next (set_result to v x.frame)))
  takes x ws v after next None fits has leads waits c =
      ends_step p t mem0 ts0 (run_of x.frame after ws v mem0 c) (run_of x.frame (after + 1) ws v mem0 (c + 1)) (i.After x.frame.place None) (gone_on ws (moved next x.frame)) has refl (arrives p t mem0 ts0 x.frame (after + 1) next ws v mem0 ts0 fits waits (holds_first p mem0 ts0) leads (c + 1))
  takes x ws v after next (Some k) fits has leads waits c =
      let f = set_slot k v x.frame in
      ends_step p t mem0 ts0 (run_of x.frame after ws v mem0 c) (run_of f (after + 1) ws v mem0 (c + 1)) (i.After x.frame.place (Some k)) (gone_on ws (moved next f)) has refl (arrives p t mem0 ts0 f (after + 1) next ws v mem0 ts0 (fits_set p x.frame k v fits) waits (holds_first p mem0 ts0) leads (c + 1))

  both_end : (b : Bool) (x c : ℕ) → Agrees p t mem0 ts0 (if b then Finished x c else Ended mem0 c) (if b then step.Finished x else step.Done (record mem0.state { threads = slice_set ts0 t None }))
  both_end true x c = refl
  both_end false x c = (refl, refl)

  -- the frame of a waiting caller goes on
  caller_goes : (f : Frame) (x : Wait) (ws : List Wait) (v : ℤ) (q : Waits p x) → returned (thread (reverse (f ∷ frames (x ∷ ws)))) v ≡ gone_on ws (moved q.next (set_result q.to v x.frame))
  caller_goes f x ws v q =
      let fs = reverse (f ∷ frames (x ∷ ws)) in
      let z = thread fs in
      let outer : outer_of fs ≡ reverse (x.frame ∷ frames ws) = outer_reverse f (frames (x ∷ ws)) in
      let caller : top_of (outer_of fs) ≡ x.frame = ap top_of outer ∙ top_reverse x.frame (frames ws) in
      let many : (length fs == 1) ≡ false = ne_eqb (length fs) 1 (λ e. absurd (omega (arith, e, length-reverse (f ∷ frames (x ∷ ws))))) in
      let at_is : at_frame p (top_of (outer_of fs)) ≡ place (Do (s.Call q.to q.callee q.args)) (One q.next) = ap (λ g. at_frame p g) caller ∙ (where_is p x.frame q.fits.within ∙ q.call) in
      let g = moved q.next (set_result q.to v x.frame) in
      let last : with_top (outer_of fs) g ≡ reverse (g ∷ frames ws) = ap (λ l. with_top l g) outer ∙ with_top_reverse x.frame g (frames ws) in
      ap (λ (b : Bool). if b then step.ended z v else resumed z (top_of (outer_of fs)) (at_frame p (top_of (outer_of fs))).act (at_frame p (top_of (outer_of fs))).follow v) many
      ∙ (ap (λ (a : Place). resumed z (top_of (outer_of fs)) a.act a.follow v) at_is
      ∙ (ap (λ k. resumed z k (Do (s.Call q.to q.callee q.args)) (One q.next) v) caller
      ∙ ap (λ l. step.Done (state_with p t mem0 ts0 mem0 ts0 l)) last))

  -- `ret` with its value
  pub leaves : (f : Frame) (at : ℕ) (ws : List Wait) (ret : ℤ) (v : ℤ) → slice_get (body_at p f.function) at ≡ Some i.Ret → AllWait p ws → (c : ℕ) → Ended_as (put (run_of f at ws ret mem0 c) at (v ∷ []) c) (returned (thread (reverse (f ∷ frames ws))) v)
  leaves f at [] ret v has waits c =
      let m = put (run_of f at [] ret mem0 c) at (v ∷ []) c in
      (suc zero, subst (λ r. Agrees p t mem0 ts0 r (returned (thread (f ∷ [])) v)) (sym (ap (λ (o : Option Instr). led (act w o m) (go w zero)) has)) (both_end (t == 0) (cast_unsigned w32 v % 256) (c + 1)))
  leaves f at (x ∷ ws) ret v has waits c =
      let q = waits.0 in
      let o : Outcome = gone_on ws (moved q.next (set_result q.to v x.frame)) in
      let after = takes x ws v q.after q.next q.to q.fits q.has q.leads waits.1 in
      let here : Ended_as (run_of x.frame x.pc ws v mem0 (c + 1)) o =
      ⊎_elim
      (λ e. subst (λ pc. Ended_as (run_of x.frame pc ws v mem0 (c + 1)) o) (sym e) (after (c + 1)))
      (λ e. ends_step p t mem0 ts0 (run_of x.frame x.pc ws v mem0 (c + 1)) (run_of x.frame q.after ws v mem0 (c + 1 + 1)) (i.Jump q.after) o e refl (after (c + 1 + 1)))
      q.at in
      let m = put (run_of f at (x ∷ ws) ret mem0 c) at (v ∷ []) c in
      let stepped : Ended_as m o = ends_step p t mem0 ts0 m (run_of x.frame x.pc ws v mem0 (c + 1)) i.Ret o has refl here in
      subst (λ k. Ended_as m k) (sym (caller_goes f x ws v q)) stepped

  pub acts_length : (ws : List Wait) → length (acts ws) ≡ length (frames ws)
  acts_length [] = refl
  acts_length (x ∷ ws) = ap suc (acts_length ws)

  abbrev at_call : Frame → ℕ → ℕ → List Wait → ℤ → List ℤ → ℕ → Machine
  at_call f at0 at ws ret vs c = put (run_of f at0 ws ret mem0 c) at (reverse_aux vs []) c

  abbrev has_called : List Wait → Frame → ℕ → List ℤ → Outcome
  has_called ws f g vs = step.Done (state_with p t mem0 ts0 mem0 ts0 (reverse (f ∷ frames ws) ++ fresh p g vs ∷ []))

  -- `call` with its arguments, where the limit of frames is kept or not
  pushes : (f : Frame) (at0 at : ℕ) (ws : List Wait) (ret : ℤ) (to : Option ℕ) (g : ℕ) (args : List LExpr) (next : ℕ) (vs : List ℤ) → FitsFunction p f → AllWait p ws → slice_get (body_at p f.function) (at + 1) ≡ Some (i.After f.place to) → Leading p f.function (at + 1 + 1) next → place_at (function_of p f.function) f.place ≡ place (Do (s.Call to g args)) (One next) → g < length p.functions → length vs ≡ (function_of p g).params → (function_of p g).params ≤ length (function_of p g).slots → (c : ℕ) → (b : Bool) → ((k : ℕ) → go w (suc k) (at_call f at0 at ws ret vs c) ≡ led (pushed b (function_in (code_of p) g) g (at_call f at0 at ws ret vs c)) (go w k)) → Ended_as (at_call f at0 at ws ret vs c) (if b then has_called ws f g vs else step.Trapped trap.Frames)
  pushes f at0 at ws ret to g args next vs fits waits hafter leads call within_g arity first_slots c false e = (suc zero, subst (λ r. Agrees p t mem0 ts0 r (step.Trapped trap.Frames)) (sym (e zero)) refl)
  pushes f at0 at ws ret to g args next vs fits waits hafter leads call within_g arity first_slots c true e =
      let code = code_at p g within_g in
      let cg = function_in (code_of p) g in
      let x : Wait = record { frame = f; pc = at + 1 } in
      let params : cg.params ≡ length vs = ap (λ (k : CodeFunction). k.params) code.is ∙ sym arity in
      let slots : cg.slots ≡ length (function_of p g).slots = ap (λ (k : CodeFunction). k.slots) code.is in
      let le = le_of_eq (length-reverse vs ∙ sym params) in
      let taken : reverse (take cg.params (reverse_aux vs [])) ≡ vs = ap (λ (l : List ℤ). reverse l) (take_all cg.params (reverse vs) le) ∙ reverse-reverse vs in
      let rest : drop cg.params (reverse_aux vs []) ≡ [] = drop_of_length-le (reverse vs) le in
      let begun : List ℤ → List ℤ → ℕ → Machine = λ a o n. record (run_of f 0 (x ∷ ws) ret mem0 (c + 1)) { function = g; slots = a ++ replicate (n - length a) (pos 0); operands = o } in
      let callee : Frame = fresh p g vs in
      let same : begun (reverse (take cg.params (reverse_aux vs []))) (drop cg.params (reverse_aux vs [])) cg.slots ≡ run_of callee 0 (x ∷ ws) ret mem0 (c + 1) =
      ap (λ a. begun a (drop cg.params (reverse_aux vs [])) cg.slots) taken
      ∙ (ap (λ o. begun vs o cg.slots) rest
      ∙ ap (λ n. begun vs [] n) slots) in
      let first : slice_get (body_at p g) 0 ≡ Some i.Restore = subst (λ (k : CodeFunction). slice_get k.body 0 ≡ Some i.Restore) (sym code.is) refl in
      let q : Waits p x = record { fits = fits; to = to; callee = g; args = args; next = next; call = call; after = at + 1; has = hafter; leads = leads; at = inl refl } in
      let fits_callee = fits_fresh p g vs within_g (omega (arith, arity, first_slots)) in
      let here = arrives p t mem0 ts0 callee 1 0 (x ∷ ws) ret mem0 ts0 fits_callee (q, waits) (holds_first p mem0 ts0) (0, refl) (c + 1 + 1) in
      let there : Ended_as (run_of callee 1 (x ∷ ws) ret mem0 (c + 1 + 1)) (has_called ws f g vs) = subst (λ l. Ended_as (run_of callee 1 (x ∷ ws) ret mem0 (c + 1 + 1)) (step.Done (state_with p t mem0 ts0 mem0 ts0 l))) (reverse_cons callee (f ∷ frames ws)) here in
      let entered : Ended_as (run_of callee 0 (x ∷ ws) ret mem0 (c + 1)) (has_called ws f g vs) = ends_step p t mem0 ts0 (run_of callee 0 (x ∷ ws) ret mem0 (c + 1)) (run_of callee 1 (x ∷ ws) ret mem0 (c + 1 + 1)) i.Restore (has_called ws f g vs) first refl there in
      (suc entered.0, subst (λ r. Agrees p t mem0 ts0 r (has_called ws f g vs)) (sym (e entered.0 ∙ ap (λ k. go w entered.0 k) same)) entered.1)

  -- `call` with its arguments
  pub calls : (f : Frame) (at0 at : ℕ) (ws : List Wait) (ret : ℤ) (to : Option ℕ) (g : ℕ) (args : List LExpr) (next : ℕ) (vs : List ℤ) → FitsFunction p f → AllWait p ws → slice_get (body_at p f.function) at ≡ Some (i.Call g) → slice_get (body_at p f.function) (at + 1) ≡ Some (i.After f.place to) → Leading p f.function (at + 1 + 1) next → place_at (function_of p f.function) f.place ≡ place (Do (s.Call to g args)) (One next) → g < length p.functions → length vs ≡ (function_of p g).params → (function_of p g).params ≤ length (function_of p g).slots → (c : ℕ) → Ended_as (put (run_of f at0 ws ret mem0 c) at (reverse_aux vs []) c) (called (thread (reverse (f ∷ frames ws))) g vs)
  calls f at0 at ws ret to g args next vs fits waits hcall hafter leads call within_g arity first_slots c =
      let m = at_call f at0 at ws ret vs c in
      let long : length (acts ws) + 1 ≡ length (reverse (f ∷ frames ws)) = omega (arith, acts_length ws, length-reverse (f ∷ frames ws)) in
      subst (λ n. Ended_as m (if nat_lt n max_frames then has_called ws f g vs else step.Trapped trap.Frames)) long (pushes f at0 at ws ret to g args next vs fits waits hafter leads call within_g arity first_slots c (nat_lt (length (acts ws) + 1) max_frames) (λ k. ap (λ (o : Option Instr). led (act w o m) (go w k)) hcall))

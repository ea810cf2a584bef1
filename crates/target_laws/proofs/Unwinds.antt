-- An unwinding saves the frames for which the thread stands.
use Rattle.std.proofs.Common.{◌≡◌, ⊎_elim, ℕ, ◌+◌, ℤ, true, false, List, [], ◌∷◌, reverse, Some, refl, sym, subst, ap, ◌∙◌}
use Rattle.std.specs.Prelude.{slice_get}
use mathlib.Core.List.{reverse_aux}
use Rattle.c_tree.specs.declared.lifted.LStmt.TheVariants as s
use Rattle.c_tree.specs.declared.lifted.Lifted.{Lifted}
use Rattle.c_tree.specs.declared.place.Act.{Act}
use Rattle.c_tree.specs.declared.place.Act.TheVariants.{Enter, Do, EndLoop}
use Rattle.c_tree.specs.declared.state.Frame.{Frame}
use Rattle.c_tree.specs.Able.{is_update_place}
use Rattle.c_tree.specs.Layout.{place_at}
use Rattle.c_tree.specs.declared.place.Place.{Place}
use Rattle.c_tree.specs.Step.{function_of, top_of, at_frame}
use Rattle.state_laws.proofs.Places.{where_is}
use Rattle.target_code.specs.Seen.{seen}
use Rattle.store_mem.specs.Memory.{Memory}
use Rattle.target_code.specs.declared.activation.Mode.TheVariants.{Unwinding}
use Rattle.target_code.specs.declared.code.CodeFunction.{CodeFunction}
use Rattle.target_code.specs.declared.instr.Instr.{Instr}
use Rattle.target_code.specs.declared.instr.Instr.TheVariants as i
use Rattle.target_code.specs.Between.{body_at, Stands, Wait, Waits, AllWait, frames}
use Rattle.target_code.specs.Code.{body_of, act_code, code_of}
use Rattle.target_code.specs.Machine.{Setting, Machine, Ran, Unwound, turn, machine_of}
use Rattle.target_laws.specs.Laws.{setting}
use Rattle.target_laws.specs.Laws as law
use Rattle.target_laws.proofs.Blocks.{HasAt}
use Rattle.target_laws.proofs.Frames.{top_reverse}
use Rattle.target_laws.proofs.Halts.{Halts, halts_step, halts_at, run_of}
use Rattle.target_laws.proofs.Places.{here, code_at}
use Rattle.target_laws.proofs.SeenFrames.{stands_seen}

-- the run ends with these frames saved and the memory as it was
abbrev pub HasSaved : List Frame → Memory → Ran → Type 0
HasSaved fs memory r = (count : ℕ) × (r ≡ Unwound fs memory count)

-- a thread that unwinds, at its innermost activation
abbrev unwinding : Wait → List Wait → List Frame → ℤ → Memory → ℕ → Machine
unwinding x ws saved ret memory c = record (run_of x.frame x.pc ws ret memory c) { mode = Unwinding; saved = saved }

abbrev moved_to : ℕ → Wait → Wait
moved_to pc x = record { frame = x.frame; pc = pc }

module _ (p : Lifted) (t : ℕ) (ret : ℤ) (memory : Memory) where
  abbrev w : Setting
  w = setting p t true

  -- an activation that waits goes to its `after`
  to_after : (x : Wait) (ws : List Wait) (saved : List Frame) (Q : Ran → Type 0) (q : Waits p x) → ((c : ℕ) → Halts w (unwinding (moved_to q.after x) ws saved ret memory c) Q) → (c : ℕ) → Halts w (unwinding x ws saved ret memory c) Q
  to_after x ws saved Q q h c =
      ⊎_elim
      (λ e. subst (λ pc. Halts w (unwinding (moved_to pc x) ws saved ret memory c) Q) (sym e) (h c))
      (λ e. halts_step w (unwinding x ws saved ret memory c) (unwinding (moved_to q.after x) ws saved ret memory (c + 1)) (i.Jump q.after) Q e refl (h (c + 1)))
      q.at

  unwinds : (x : Wait) (ws : List Wait) (saved : List Frame) → Waits p x → AllWait p ws → (c : ℕ) → Halts w (unwinding x ws saved ret memory c) (HasSaved (reverse_aux (frames (x ∷ ws)) saved) memory)
  unwinds x [] saved q all c =
      to_after x [] saved (HasSaved (x.frame ∷ saved) memory) q (λ c. halts_at w (unwinding (moved_to q.after x) [] saved ret memory c) (i.After x.frame.place q.to) (Unwound (x.frame ∷ saved) memory (c + 1)) (HasSaved (x.frame ∷ saved) memory) q.has refl (c + 1, refl)) c
  unwinds x (y ∷ ws) saved q all c =
      let Q = HasSaved (reverse_aux (frames (y ∷ ws)) (x.frame ∷ saved)) memory in
      to_after x (y ∷ ws) saved Q q (λ c. halts_step w (unwinding (moved_to q.after x) (y ∷ ws) saved ret memory c) (unwinding y ws (x.frame ∷ saved) ret memory (c + 1)) (i.After x.frame.place q.to) Q q.has refl (unwinds y ws (x.frame ∷ saved) all.0 all.1 (c + 1))) c

  -- `flag` at the update place
  flags : (f : Frame) (pc : ℕ) (ws : List Wait) → AllWait p ws → slice_get (body_at p f.function) pc ≡ Some (i.Flag f.place) → (c : ℕ) → Halts w (run_of f pc ws ret memory c) (HasSaved (reverse (f ∷ frames ws)) memory)
  flags f pc [] all h c =
      halts_at w (run_of f pc [] ret memory c) (i.Flag f.place) (Unwound (f ∷ []) memory (c + 1)) (HasSaved (f ∷ []) memory) h refl (c + 1, refl)
  flags f pc (x ∷ ws) all h c =
      halts_step w (run_of f pc (x ∷ ws) ret memory c) (unwinding x ws (f ∷ []) ret memory (c + 1)) (i.Flag f.place) (HasSaved (reverse (f ∷ frames (x ∷ ws))) memory) h refl (unwinds x ws (f ∷ []) all.0 all.1 (c + 1))

not_true : false ≡ true → ⊥
not_true e = cc

flag_second : (t : ℕ → ℕ) (code : List Instr) (at n : ℕ) (a : Act) → is_update_place a ≡ true → HasAt code at (act_code t at n a) → slice_get code (at + 1) ≡ Some (i.Flag n)
flag_second t code at n Enter u h = h.1.0
flag_second t code at n EndLoop u h = h.1.0
flag_second t code at n (Do (s.Lock m)) u h = h.1.0
flag_second t code at n (Do (s.Join e)) u h = h.1.0
flag_second t code at n _ u h = absurd (not_true u)

-- from the mark of an update place a thread unwinds to exactly the frames that it stands for
pub unwinds_from : (p : Lifted) (t : ℕ) (f : Frame) (pc : ℕ) (ws : List Wait) (ret : ℤ) (memory : Memory) (c : ℕ) → Stands p f pc → AllWait p ws → is_update_place (place_at (function_of p f.function) f.place).act ≡ true
    → (n : ℕ) × HasSaved (reverse (f ∷ frames ws)) memory (turn (setting p t true) n (run_of f pc ws ret memory c))
unwinds_from p t f pc ws ret memory c stands waits update =
    let code = code_at p f.function stands.fits.within in
    let fn = function_of p f.function in
    let b = here p code.t fn f.place pc stands.mark in
    let flag = flag_second code.t (body_of p code.t fn) pc f.place (place_at fn f.place).act update b.has in
    flags p t ret memory f (pc + 1) ws waits (subst (λ (k : CodeFunction). slice_get k.body (pc + 1) ≡ Some (i.Flag f.place)) (sym code.is) flag) (c + 1)

-- a thread that runs and stands at an update place saves the frames that it stands for
pub unwinding_saves : law.AnUnwindingSaves
unwinding_saves p t x memory runs update =
    let f = runs.frame in
    let fs = reverse (f ∷ frames runs.waits) in
    let w = setting p t true in
    let seen_is : seen (code_of p) x ≡ fs = ap (λ y. seen (code_of p) y) runs.is ∙ stands_seen p f runs.pc runs.waits x.returned x.count runs.stands runs.wait in
    let top_is : top_of (seen (code_of p) x) ≡ f = ap top_of seen_is ∙ top_reverse f (frames runs.waits) in
    let at_is : at_frame p (top_of (seen (code_of p) x)) ≡ place_at (function_of p f.function) f.place = ap (λ g. at_frame p g) top_is ∙ where_is p f runs.stands.fits.within in
    let here : is_update_place (place_at (function_of p f.function) f.place).act ≡ true = sym (ap (λ (a : Place). is_update_place a.act) at_is) ∙ update in
    let r = unwinds_from p t f runs.pc runs.waits x.returned memory x.count runs.stands runs.wait here in
    (r.0, r.1.0, ap (λ y. turn w r.0 (machine_of y memory)) runs.is ∙ (r.1.1 ∙ ap (λ l. Unwound l memory r.1.0) (sym seen_is)))

-- A thread that stands for frames is seen as these frames.
use Rattle.std.proofs.Common.{◌≡◌, ◌⊎◌, inl, inr, ℕ, ℤ, List, [], ◌∷◌, map, reverse, Option, Some, refl, sym, ap, ◌∙◌, subst}
use Rattle.std.specs.Prelude.{slice_get}
use Rattle.c_tree.specs.declared.lifted.Lifted.{Lifted}
use Rattle.c_tree.specs.declared.state.Frame.{Frame}
use Rattle.c_tree.specs.Step.{function_of}
use Rattle.target_code.specs.declared.code.CodeFunction.{CodeFunction}
use Rattle.target_code.specs.declared.instr.Instr.{Instr}
use Rattle.target_code.specs.declared.instr.Instr.TheVariants as i
use Rattle.target_code.specs.Between.{body_at, Wait, activation, acts, frames, Waits, AllWait, Stands, running}
use Rattle.target_code.specs.Code.{code_of}
use Rattle.target_code.specs.Machine.{function_in}
use Rattle.target_code.specs.Seen.{place_after, place_here, seen_frame, seen}
use Rattle.target_laws.proofs.Places.{mark_here, code_at}

module _ (p : Lifted) where
  abbrev at_place : Frame → ℕ → Frame
  at_place f n = record f { place = n }

  waits_at : (c : CodeFunction) (pc after n : ℕ) (to : Option ℕ) → slice_get c.body after ≡ Some (i.After n to) → (pc ≡ after) ⊎ (slice_get c.body pc ≡ Some (i.Jump after)) → place_here c pc (slice_get c.body pc) ≡ n
  waits_at c pc after n to h (inl e) = ap (λ (k : ℕ). place_here c k (slice_get c.body k)) e ∙ ap (λ (o : Option Instr). place_here c after o) h
  waits_at c pc after n to h (inr e) = ap (λ (o : Option Instr). place_here c pc o) e ∙ ap (λ (o : Option Instr). place_after o) h

  wait_seen : (x : Wait) → Waits p x → seen_frame (code_of p) (activation x) ≡ x.frame
  wait_seen x q =
      ap (λ (n : ℕ). at_place x.frame n) (waits_at (function_in (code_of p) x.frame.function) x.pc q.after x.frame.place q.to q.has q.at)

  waits_seen : (ws : List Wait) → AllWait p ws → map (λ a. seen_frame (code_of p) a) (acts ws) ≡ frames ws
  waits_seen [] all = refl
  waits_seen (x ∷ ws) all =
      ap (λ f. f ∷ map (λ a. seen_frame (code_of p) a) (acts ws)) (wait_seen x all.0) ∙ ap (λ fs. x.frame ∷ fs) (waits_seen ws all.1)

  -- the mark of a frame's place
  pub mark_in : (f : Frame) (pc : ℕ) → Stands p f pc → slice_get (body_at p f.function) pc ≡ Some (i.Mark f.place)
  mark_in f pc stands =
      let code = code_at p f.function stands.fits.within in
      subst (λ (k : CodeFunction). slice_get k.body pc ≡ Some (i.Mark f.place)) (sym code.is) (mark_here p code.t (function_of p f.function) f.place pc stands.mark)

  pub stands_seen : (f : Frame) (pc : ℕ) (ws : List Wait) (ret : ℤ) (c : ℕ) → Stands p f pc → AllWait p ws → seen (code_of p) (running f pc ws ret c) ≡ reverse (f ∷ frames ws)
  stands_seen f pc ws ret c stands all =
      let k = function_in (code_of p) f.function in
      let top : seen_frame (code_of p) (record { function = f.function; pc = pc; slots = f.slots }) ≡ f = ap (λ (o : Option Instr). at_place f (place_here k pc o)) (mark_in f pc stands) in
      ap (λ g. reverse (g ∷ map (λ a. seen_frame (code_of p) a) (acts ws))) top ∙ ap (λ fs. reverse (f ∷ fs)) (waits_seen ws all)

-- The stack of a valid state is sound to rebuild.
use Rattle.std.proofs.Common.{◌≡◌, ℕ, suc, ℤ, List, [], ◌∷◌, length, refl, All, Some, Option, ap, arith}
use Rattle.std.specs.Prelude.{slice_get}
use Rattle.c_tree.specs.declared.lifted.LExpr.{LExpr}
use Rattle.c_tree.specs.declared.lifted.LStmt.TheVariants as s
use Rattle.c_tree.specs.declared.lifted.Lifted.{Lifted}
use Rattle.c_tree.specs.declared.lifted.Slot.{Slot}
use Rattle.c_tree.specs.declared.place.Act.{Act}
use Rattle.c_tree.specs.declared.place.Act.TheVariants.{Do}
use Rattle.c_tree.specs.declared.place.Follow.{Follow}
use Rattle.c_tree.specs.declared.place.Follow.TheVariants.{One, Two, Leaves}
use Rattle.c_tree.specs.declared.state.Frame.{Frame}
use Rattle.c_tree.specs.Layout.{place, place_at}
use Rattle.c_tree.specs.Step.{function_of}
use Rattle.c_tree.specs.Valid.{Fits, ValidFrame, IsCallOf, Chained, ChainedFrames}
use Rattle.target_code.specs.Between.{FitsFunction}
use Rattle.target_code.specs.Code.{marks}
use Rattle.target_laws.specs.Laws as law
use Rattle.target_laws.specs.SavedFrames.{AreSoundFrom, AreSound}
use Rattle.target_laws.proofs.Places.{Shaped, here, get_within, same_length}

abbrev no_texts : ℕ → ℕ
no_texts n = n

record IsCall (callee : ℕ) (a : Act) (fo : Follow) : Type 0 where
  to : Option ℕ
  args : List LExpr
  next : ℕ
  is : place a fo ≡ place (Do (s.Call to callee args)) (One next)

call_is : (callee : ℕ) (a : Act) (fo : Follow) → IsCallOf callee a → Shaped a fo → IsCall callee a fo
call_is callee (Do (s.Call to g args)) (One next) c h = record { to = to; args = args; next = next; is = ap (λ k. place (Do (s.Call to k args)) (One next)) c }
call_is callee (Do (s.Call to g args)) (Two a b) c h = absurd h
call_is callee (Do (s.Call to g args)) Leaves c h = absurd h
call_is callee a fo c h = absurd c

mark_of : (p : Lifted) (n : ℕ) (f : Frame) → ValidFrame p n f → (at : ℕ) × (slice_get (marks (function_of p f.function)) f.place ≡ Some at)
mark_of p n f v =
    let long = same_length (function_of p f.function) in
    get_within (marks (function_of p f.function)) f.place (omega (arith, v.place, long))

fits_long : (n : ℕ) (slots : List Slot) (vs : List ℤ) → Fits n slots vs → length vs ≡ length slots
fits_long n [] [] h = refl
fits_long n (x ∷ slots) (v ∷ vs) h = ap suc (fits_long n slots vs h.1)
fits_long n [] (v ∷ vs) h = absurd h
fits_long n (x ∷ slots) [] h = absurd h

fits_of : (p : Lifted) (n : ℕ) (f : Frame) → ValidFrame p n f → FitsFunction p f
fits_of p n f v = record { within = v.function; slots = fits_long n (function_of p f.function).slots f.slots v.slots }

valid_sound : (p : Lifted) (n : ℕ) (rest : List Frame) (f : Frame) → ValidFrame p n f → All (λ g. ValidFrame p n g) rest → Chained p f rest → AreSoundFrom p f rest
valid_sound p n [] f v all c = let m = mark_of p n f v in (m.0, record { fits = fits_of p n f v; mark = m.1 })
valid_sound p n (g ∷ rest) f v all c =
    let m = mark_of p n f v in
    let fn = function_of p f.function in
    let at = place_at fn f.place in
    let h = here p no_texts fn f.place m.0 m.1 in
    let q = call_is g.function at.act at.follow c.0 h.shaped in
    (record { fits = fits_of p n f v; to = q.to; args = q.args; next = q.next; call = q.is; mark = m.0; mark_is = m.1 }, valid_sound p n rest g (all 0 g (omega arith)) (λ k d h. all (suc k) d (omega (arith, h))) c.1)

-- the stack of a live thread of a valid state can be rebuilt
pub valid_stacks_are_sound : law.ValidStacksAreSound
valid_stacks_are_sound p n frames v = from frames v.each v.chained where
  from : (fs : List Frame) → All (λ g. ValidFrame p n g) fs → ChainedFrames p fs → AreSound p fs
  from [] each h = absurd h
  from (f ∷ rest) each h = valid_sound p n rest f (each 0 f (omega arith)) (λ k d h. each (suc k) d (omega (arith, h))) h

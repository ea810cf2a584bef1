-- The marks of threads stay theirs where a thread has other frames, and where one begins.
use Rattle.std.proofs.Common.{◌≡◌, ℕ, zero, suc, ◌<◌, List, [], ◌∷◌, ◌++◌, length, Option, Some, None}
use Rattle.std.specs.Prelude.{slice_get, slice_set}
use Rattle.c_tree.specs.declared.event.ThreadMark.{ThreadMark}
use Rattle.c_tree.specs.declared.event.ThreadMark.TheVariants.{Live, Ended, Fresh}
use Rattle.c_tree.specs.declared.state.Frame.{Frame}
use Rattle.store_mem.specs.Memory.{IsMarkOf, Marked}
use Rattle.target_laws.proofs.Turned.{Threads}

other_frames : (m : ThreadMark) (fr fr' : List Frame) → IsMarkOf m (Some fr) → 0 < length fr' → IsMarkOf m (Some fr')
other_frames Live fr fr' h l = l
other_frames (Fresh f v) fr fr' h l = l
other_frames Ended fr fr' h l = absurd h

not_one : {A : Type 0} (x : A) → None ≡ Some x → ⊥
not_one x e = cc

same_mark : (m : ThreadMark) (o : Option (List Frame)) (fr fr' : List Frame) → o ≡ Some fr → IsMarkOf m o → 0 < length fr' → IsMarkOf m (Some fr')
same_mark m None fr fr' e h l = absurd (not_one fr e)
same_mark m (Some f0) fr fr' e h l = other_frames m f0 fr' h l

-- a live thread has other frames
pub marked_set : (ms : List ThreadMark) (ts : Threads) (t : ℕ) (fr fr' : List Frame) → Marked ms ts → slice_get ts t ≡ Some (Some fr) → 0 < length fr' → Marked ms (slice_set ts t (Some fr'))
marked_set [] [] t fr fr' h e l = tt
marked_set (m ∷ ms) (o ∷ ts) zero fr fr' h e l = let same : o ≡ Some fr = cc in (same_mark m o fr fr' same h.0 l, h.1)
marked_set (m ∷ ms) (o ∷ ts) (suc t) fr fr' h e l = (h.0, marked_set ms ts t fr fr' h.1 e l)
marked_set [] (o ∷ ts) t fr fr' h e l = absurd h
marked_set (m ∷ ms) [] t fr fr' h e l = absurd h

-- a thread has begun
pub marked_more : (ms : List ThreadMark) (ts : Threads) (fr : List Frame) → Marked ms ts → 0 < length fr → Marked (ms ++ Live ∷ []) (ts ++ Some fr ∷ [])
marked_more [] [] fr h l = (l, tt)
marked_more (m ∷ ms) (o ∷ ts) fr h l = (h.0, marked_more ms ts fr h.1 l)
marked_more [] (o ∷ ts) fr h l = absurd h
marked_more (m ∷ ms) [] fr h l = absurd h

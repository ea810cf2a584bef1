-- The state after an update: as many threads, those that have ended as before, and the same input and output.
use Rattle.std.proofs.Common.{◌≡◌, ℕ, ◌+◌, ◌<◌, List, [], ◌∷◌, length, Option, Some, None, Result, Ok, Err, refl, subst}
use Rattle.std.specs.Prelude.{⊤}
use Rattle.c_tree.specs.declared.event.Reason.{Reason}
use Rattle.c_tree.specs.declared.event.ThreadMark.{ThreadMark}
use Rattle.c_tree.specs.declared.event.ThreadMark.TheVariants.{Live, Ended, Fresh}
use Rattle.c_tree.specs.declared.mapping.LEntry.{LEntry}
use Rattle.c_tree.specs.declared.mapping.Patch.{Patch}
use Rattle.c_tree.specs.declared.state.Frame.{Frame}
use Rattle.c_tree.specs.declared.state.State.{State}
use Rattle.c_tree.specs.Link.{Link, link_of}
use Rattle.c_tree.specs.MapGlobals.{map_globals}
use Rattle.c_tree.specs.MapHeap.{map_objects}
use Rattle.c_tree.specs.MapMutexes.{new_owners}
use Rattle.c_tree.specs.MapStack.{map_frames}
use Rattle.c_tree.specs.Refusal.{onward, unless_refused}
use Rattle.c_tree.specs.Update.{map_threads, mapped_state, refusal, update}
use Rattle.store_mem.specs.Memory.{IsMarkOf, Marked}
use Rattle.target_laws.proofs.Turned.{Threads}

-- the same threads have ended
abbrev pub Alike : {A B : Type 0} → List (Option A) → List (Option B) → Type 0
Alike [] [] = ⊤
Alike (None ∷ xs) (None ∷ ys) = Alike xs ys
Alike (Some x ∷ xs) (Some y ∷ ys) = Alike xs ys
Alike _ _ = ⊥

-- the parts of the state after an update
pub record Parts (s next : State) : Type 0 where
  pub is : next ≡ record s { globals = next.globals; heap = next.heap; mutexes = next.mutexes; threads = next.threads }
  pub alike : Alike s.threads next.threads

abbrev PartsOf : State → Result State Reason → Type 0
PartsOf s (Ok next) = Parts s next
PartsOf s (Err r) = ⊤

abbrev AlikeIn : Threads → Result Threads Reason → Type 0
AlikeIn ts (Ok xs) = Alike ts xs
AlikeIn ts (Err r) = ⊤

onward_parts : {A : Type 0} (s : State) (r : Result A Reason) (go : A → Result State Reason) → ((x : A) → PartsOf s (go x)) → PartsOf s (onward r go)
onward_parts s (Ok x) go f = f x
onward_parts s (Err c) go f = tt

ended_alike : (ts : Threads) (r : Result Threads Reason) → AlikeIn ts r → AlikeIn (None ∷ ts) (onward r (λ bs. Ok (None ∷ bs)))
ended_alike ts (Ok bs) h = h
ended_alike ts (Err c) h = tt

live_alike : (fr : List Frame) (ts : Threads) (r : Result Threads Reason) (f : Result (List Frame) Reason) → AlikeIn ts r → AlikeIn (Some fr ∷ ts) (onward (onward f (λ fs. Ok (Some fs))) (λ a. onward r (λ bs. Ok (a ∷ bs))))
live_alike fr ts (Ok bs) (Ok f) h = h
live_alike fr ts (Err c) (Ok f) h = tt
live_alike fr ts r (Err c) h = tt

threads_alike : (k : Link) (entries : List LEntry) (s : State) (t : ℕ) (os : Threads) → AlikeIn os (map_threads k entries s t os)
threads_alike k entries s t [] = tt
threads_alike k entries s t (None ∷ rest) = ended_alike rest (map_threads k entries s (t + 1) rest) (threads_alike k entries s (t + 1) rest)
threads_alike k entries s t (Some fr ∷ rest) = live_alike fr rest (map_threads k entries s (t + 1) rest) (map_frames k entries s t 0 fr) (threads_alike k entries s (t + 1) rest)

with_threads_parts : (s : State) (r : Result Threads Reason) (go : Threads → State) → AlikeIn s.threads r → ((xs : Threads) → Alike s.threads xs → Parts s (go xs)) → PartsOf s (onward r (λ xs. Ok (go xs)))
with_threads_parts s (Ok xs) go h f = f xs h
with_threads_parts s (Err c) go h f = tt

unless_parts : (s : State) (o : Option Reason) (r : Result State Reason) → PartsOf s r → PartsOf s (unless_refused o r)
unless_parts s None r h = h
unless_parts s (Some x) r h = tt

update_parts : (p : Patch) (s : State) → PartsOf s (update p s)
unfolding update
update_parts p s =
    let k = link_of p.old p.new p.entries in
    unless_parts s (refusal k p.entries s) (mapped_state k p.entries s)
    (onward_parts s (map_globals k p.entries s) _ (λ globals.
    onward_parts s (map_objects k p.entries s 1 s.heap.objects) _ (λ objects.
    with_threads_parts s (map_threads k p.entries s 0 s.threads) (λ threads. record s { globals = globals; heap = record { objects = objects }; mutexes = new_owners k s; threads = threads })
    (threads_alike k p.entries s 0 s.threads) (λ xs h. record { is = refl; alike = h }))))

parts_told : (s next : State) (r : Result State Reason) → PartsOf s r → r ≡ Ok next → Parts s next
parts_told s next (Ok x) h e = let same : x ≡ next = cc in subst (λ k. Parts s k) same h
parts_told s next (Err c) h e = cc

-- the parts of the state that an update gives
pub parts_of_update : (p : Patch) (s next : State) → update p s ≡ Ok next → Parts s next
parts_of_update p s next e = parts_told s next (update p s) (update_parts p s) e

-- each thread that hasn't ended has a frame
abbrev pub HaveFrames : Threads → Type 0
HaveFrames [] = ⊤
HaveFrames (None ∷ ts) = HaveFrames ts
HaveFrames (Some fr ∷ ts) = (0 < length fr) × HaveFrames ts

other_mark : (m : ThreadMark) (fr fr' : List Frame) → IsMarkOf m (Some fr) → 0 < length fr' → IsMarkOf m (Some fr')
other_mark Live fr fr' h l = l
other_mark (Fresh f v) fr fr' h l = l
other_mark Ended fr fr' h l = absurd h

-- the marks are also those of threads of which the same have ended
pub marked_alike : (ms : List ThreadMark) (ts us : Threads) → Marked ms ts → Alike ts us → HaveFrames us → Marked ms us
marked_alike [] [] [] h a f = tt
marked_alike (m ∷ ms) (None ∷ ts) (None ∷ us) h a f = (h.0, marked_alike ms ts us h.1 a f)
marked_alike (m ∷ ms) (Some x ∷ ts) (Some y ∷ us) h a f = (other_mark m x y h.0 f.0, marked_alike ms ts us h.1 a f.1)
marked_alike [] [] (o ∷ us) h a f = absurd a
marked_alike (m ∷ ms) (None ∷ ts) (Some y ∷ us) h a f = absurd a
marked_alike (m ∷ ms) (Some x ∷ ts) (None ∷ us) h a f = absurd a
marked_alike (m ∷ ms) (None ∷ ts) [] h a f = absurd a
marked_alike (m ∷ ms) (Some x ∷ ts) [] h a f = absurd a
marked_alike [] (o ∷ ts) us h a f = absurd h
marked_alike (m ∷ ms) [] us h a f = absurd h

-- What the marks tell of the threads.
use Rattle.std.proofs.Common.{◌≡◌, ℕ, zero, suc, pos, ◌&&◌, cond, List, [], ◌∷◌, ◌++◌, length, Option, Some, None, refl, ap, sym, ◌∙◌, arith, count_by}
use Rattle.std.specs.Prelude.{nat_lt, if◌then◌else◌, is_some, slice_get}
use Rattle.std.proofs.lemmas.Bool.Decides.{nat_tests}
use Rattle.std.proofs.lemmas.List.Sums.{sum_by-cons}
use Rattle.c_tree.specs.declared.event.ThreadMark.{ThreadMark}
use Rattle.c_tree.specs.declared.event.ThreadMark.TheVariants.{Live, Ended, Fresh}
use Rattle.c_tree.specs.declared.state.Frame.{Frame}
use Rattle.c_tree.specs.declared.state.Trap.TheVariants as trap
use Rattle.c_tree.specs.Limits.{max_live, max_threads}
use Rattle.c_tree.specs.Step.{Outcome, Trapped, fresh, frames_in, store, with_thread}
use Rattle.store_mem.specs.Access.{is_live_mark, is_live_in, live_marks}
use Rattle.store_mem.specs.Memory.{IsMarkOf, Marked}
use Rattle.store_mem.specs.Laws as law
use Rattle.store_mem.proofs.AccessLemmas.{on_if}

-- as many marks as threads
marks-length : (marks : List ThreadMark) (threads : List (Option (List Frame))) → Marked marks threads → length marks ≡ length threads
marks-length [] [] h = refl
marks-length [] (o ∷ threads) h = absurd h
marks-length (m ∷ marks) [] h = absurd h
marks-length (m ∷ marks) (o ∷ threads) h = ap suc (marks-length marks threads h.1)

pub counts-threads : law.CountsThreads
counts-threads marks st h = marks-length marks st.threads h

-- a mark is live where its thread is there
mark-some : (m : ThreadMark) (o : Option (List Frame)) → IsMarkOf m o → is_live_mark m ≡ is_some o
mark-some Live (Some frames) h = refl
mark-some Live None h = absurd h
mark-some Ended (Some frames) h = absurd h
mark-some Ended None h = refl
mark-some (Fresh f v) (Some frames) h = refl
mark-some (Fresh f v) None h = absurd h

live-length : (marks : List ThreadMark) (threads : List (Option (List Frame))) → Marked marks threads → live_marks marks ≡ count_by (λ o. is_some o) threads
live-length [] [] h = refl
live-length [] (o ∷ threads) h = absurd h
live-length (m ∷ marks) [] h = absurd h
live-length (m ∷ marks) (o ∷ threads) h =
    let one = ap (λ b. let k : ℕ = cond b 1 0 in k) (mark-some m o h.0) in
    let rest = live-length marks threads h.1 in
    let left = sum_by-cons (λ x. cond (is_live_mark x) 1 0) m marks in
    let right = sum_by-cons (λ (x : Option (List Frame)). cond (is_some x) 1 0) o threads in
    omega (arith, one, rest, left, right)

pub counts-live : law.CountsLive
counts-live marks st h = live-length marks st.threads h

-- a mark is live where its thread has frames
mark-live : (m : ThreadMark) (o : Option (List Frame)) → IsMarkOf m o → is_live_mark m ≡ nat_lt 0 (length (frames_in (Some o)))
mark-live Live (Some frames) h = grind (arith, nat_tests)
mark-live Live None h = absurd h
mark-live Ended (Some frames) h = absurd h
mark-live Ended None h = refl
mark-live (Fresh f v) (Some frames) h = grind (arith, nat_tests)
mark-live (Fresh f v) None h = absurd h

live-at : (marks : List ThreadMark) (threads : List (Option (List Frame))) (t : ℕ) → Marked marks threads
    → is_live_in marks t ≡ nat_lt 0 (length (frames_in (slice_get threads t)))
live-at [] [] t h = refl
live-at [] (o ∷ threads) t h = absurd h
live-at (m ∷ marks) [] t h = absurd h
live-at (m ∷ marks) (o ∷ threads) zero h = mark-live m o h.0
live-at (m ∷ marks) (o ∷ threads) (suc t) h = live-at marks threads t h.1

pub tells-live : law.TellsLive
tells-live marks st t h = live-at marks st.threads t h

-- there is room for a thread by the marks where there is by the threads
pub spawns-thread : law.SpawnsThread
spawns-thread marks w n to f v h =
    let go : ℕ → Outcome = λ number. store w n (with_thread w.state (fresh w.program f (v ∷ []) ∷ [])) to (pos number) in
    let there : ℕ → ℕ → Outcome = λ live made. if nat_lt live max_live && nat_lt made max_threads then go made else Trapped trap.Threads in
    ap (λ live. there live (length w.state.threads)) (sym (live-length marks w.state.threads h))
    ∙ ap (λ made. there (live_marks marks) made) (sym (marks-length marks w.state.threads h))
    ∙ on_if (nat_lt (live_marks marks) max_live && nat_lt (length marks) max_threads) (length marks, marks ++ Fresh f v ∷ []) trap.Threads (λ r. go r.0)

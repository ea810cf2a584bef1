-- The marks stay those of the threads.
use Rattle.std.proofs.Common.{◌≡◌, ℕ, zero, suc, ◌-◌, ℤ, Bool, true, false, ◌&&◌, List, [], ◌∷◌, ◌++◌, length, take, Option, Some, None, Ok, Err, refl, ap, subst, ◌∙◌, arith, length-append}
use Rattle.std.specs.Prelude.{nat_lt, if◌then◌else◌, slice_get, slice_set}
use Rattle.std.proofs.Math.Seq.{take-append_seam}
use Rattle.c_tree.specs.declared.event.ThreadMark.{ThreadMark}
use Rattle.c_tree.specs.declared.event.ThreadMark.TheVariants.{Live, Ended, Fresh}
use Rattle.c_tree.specs.declared.state.Frame.{Frame}
use Rattle.c_tree.specs.declared.state.Trap.{Trap}
use Rattle.c_tree.specs.Limits.{max_live, max_threads}
use Rattle.store_mem.specs.Access.{is_live_mark, is_live_in, live_marks, spawned, begun, ended, forgotten, forgotten_from}
use Rattle.store_mem.specs.Memory.{IsMarkOf, Marked}
use Rattle.store_mem.specs.Laws as law

-- what a spawn leaves
if_gives : {A : Type 0} (b : Bool) (x : A) (c : Trap) (r : A) → (if b then Ok x else Err c) ≡ Ok r → x ≡ r
if_gives true x c r e = cc
if_gives false x c r e = cc

spawn-marks : (marks : List ThreadMark) (f : ℕ) (v : ℤ) (r : ℕ × List ThreadMark) → spawned marks f v ≡ Ok r → marks ++ Fresh f v ∷ [] ≡ r.1
spawn-marks marks f v r e = ap (λ x. x.1) (if_gives (nat_lt (live_marks marks) max_live && nat_lt (length marks) max_threads) (length marks, marks ++ Fresh f v ∷ []) _ r e)

push-marked : (marks : List ThreadMark) (threads : List (Option (List Frame))) (m : ThreadMark) (o : Option (List Frame))
    → Marked marks threads → IsMarkOf m o → Marked (marks ++ m ∷ []) (threads ++ o ∷ [])
push-marked [] [] m o h one = (one, tt)
push-marked [] (p ∷ threads) m o h one = absurd h
push-marked (k ∷ marks) [] m o h one = absurd h
push-marked (k ∷ marks) (p ∷ threads) m o h one = (h.0, push-marked marks threads m o h.1 one)

pub spawn-keeps : law.SpawnKeepsMarks
spawn-keeps marks st f v frames r h there e =
    subst (λ ms. Marked ms (st.threads ++ Some frames ∷ [])) (spawn-marks marks f v r e) (push-marked marks st.threads (Fresh f v) (Some frames) h there)

-- what a beginning leaves
live-marked : (m : ThreadMark) (o : Option (List Frame)) → IsMarkOf m o → is_live_mark m ≡ true → IsMarkOf Live o
live-marked Live o h e = h
live-marked Ended o h e = cc
live-marked (Fresh f v) (Some frames) h e = h
live-marked (Fresh f v) None h e = absurd h

begun-marked : (marks : List ThreadMark) (threads : List (Option (List Frame))) (t : ℕ) → Marked marks threads
    → is_live_in marks t ≡ true → Marked (begun marks t) threads
begun-marked [] [] t h e = tt
begun-marked [] (o ∷ threads) t h e = absurd h
begun-marked (m ∷ marks) [] t h e = absurd h
begun-marked (m ∷ marks) (o ∷ threads) zero h e = (live-marked m o h.0 e, h.1)
begun-marked (m ∷ marks) (o ∷ threads) (suc t) h e = (h.0, begun-marked marks threads t h.1 e)

pub begin-keeps : law.BeginKeepsMarks
begin-keeps marks st t h e = begun-marked marks st.threads t h e

-- what an end leaves
ended-marked : (marks : List ThreadMark) (threads : List (Option (List Frame))) (t : ℕ) → Marked marks threads → Marked (ended marks t) (slice_set threads t None)
ended-marked [] [] t h = tt
ended-marked [] (o ∷ threads) t h = absurd h
ended-marked (m ∷ marks) [] t h = absurd h
ended-marked (m ∷ marks) (o ∷ threads) zero h = (tt, h.1)
ended-marked (m ∷ marks) (o ∷ threads) (suc t) h = (h.0, ended-marked marks threads t h.1)

pub end-keeps : law.EndKeepsMarks
end-keeps marks st t h = ended-marked marks st.threads t h

-- what is left of a spawn that is forgotten
last_of : (marks : List ThreadMark) (m : ThreadMark) → slice_get (marks ++ m ∷ []) (length marks) ≡ Some m
last_of [] m = refl
last_of (k ∷ marks) m = last_of marks m

before_last : (marks : List ThreadMark) (m : ThreadMark) → length (marks ++ m ∷ []) - 1 ≡ length marks
before_last marks m = let e = length-append marks (m ∷ []) in omega (arith, e)

forget-spawned : (marks : List ThreadMark) (f : ℕ) (v : ℤ) → forgotten (marks ++ Fresh f v ∷ []) ≡ marks
forget-spawned marks f v =
    let all = marks ++ Fresh f v ∷ [] in
    let at = before_last marks (Fresh f v) in
    ap (λ n. forgotten_from (slice_get all n) all) at
    ∙ ap (λ m. forgotten_from m all) (last_of marks (Fresh f v))
    ∙ ap (λ n. take n all) at
    ∙ take-append_seam marks (Fresh f v ∷ [])

pub forget-undoes : law.ForgetUndoesSpawn
forget-undoes marks f v r e = subst (λ ms. forgotten ms ≡ marks) (spawn-marks marks f v r e) (forget-spawned marks f v)

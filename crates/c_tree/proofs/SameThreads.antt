-- An update leads to as many threads as there were.
use Rattle.std.proofs.Common.{◌≡◌, ℕ, suc, ◌+◌, List, [], ◌∷◌, length, Option, Some, None, Result, Ok, Err, refl, sym, subst, arith}
use Rattle.c_tree.specs.declared.event.Reason.{Reason}
use Rattle.c_tree.specs.declared.mapping.LEntry.{LEntry}
use Rattle.c_tree.specs.declared.mapping.Patch.{Patch}
use Rattle.c_tree.specs.declared.state.Frame.{Frame}
use Rattle.c_tree.specs.declared.state.State.{State}
use Rattle.c_tree.specs.Link.{Link, link_of}
use Rattle.c_tree.specs.MapGlobals.{map_globals}
use Rattle.c_tree.specs.MapHeap.{map_objects}
use Rattle.c_tree.specs.MapMutexes.{new_owners}
use Rattle.c_tree.specs.Refusal.{onward, unless_refused}
use Rattle.c_tree.specs.Update.{map_thread, map_threads, mapped_state, refusal, update}

-- an update that comes to a state comes to one with as many threads
abbrev pub AsMany : ℕ → Result State Reason → Type 0
AsMany n (Ok s) = length s.threads ≡ n
AsMany n (Err r) = Unit {0}

abbrev pub AsLong : ℕ → Result (List (Option (List Frame))) Reason → Type 0
AsLong n (Ok xs) = length xs ≡ n
AsLong n (Err r) = Unit {0}

onward_many : {A : Type 0} (n : ℕ) (r : Result A Reason) (go : A → Result State Reason) → ((x : A) → AsMany n (go x)) → AsMany n (onward r go)
onward_many n (Ok x) go f = f x
onward_many n (Err c) go f = tt

onward_long : {A : Type 0} (n : ℕ) (r : Result A Reason) (go : A → Result (List (Option (List Frame))) Reason) → ((x : A) → AsLong n (go x)) → AsLong n (onward r go)
onward_long n (Ok x) go f = f x
onward_long n (Err c) go f = tt

one_longer : (n : ℕ) (a : Option (List Frame)) (r : Result (List (Option (List Frame))) Reason) → AsLong n r → AsLong (suc n) (onward r (λ bs. Ok (a ∷ bs)))
one_longer n a (Ok bs) h = omega (arith, h)
one_longer n a (Err c) h = tt

threads_long : (k : Link) (entries : List LEntry) (s : State) (t : ℕ) (os : List (Option (List Frame))) → AsLong (length os) (map_threads k entries s t os)
threads_long k entries s t [] = refl
threads_long k entries s t (o ∷ rest) =
    onward_long (length (o ∷ rest)) (map_thread k entries s t o) _ (λ a. one_longer (length rest) a (map_threads k entries s (t + 1) rest) (threads_long k entries s (t + 1) rest))

with_long : (n : ℕ) (r : Result (List (Option (List Frame))) Reason) (go : List (Option (List Frame)) → State) → AsLong n r → ((xs : List (Option (List Frame))) → (go xs).threads ≡ xs)
    → AsMany n (onward r (λ xs. Ok (go xs)))
with_long n (Ok xs) go h f = subst (λ ys. length ys ≡ n) (sym (f xs)) h
with_long n (Err c) go h f = tt

unless_many : (n : ℕ) (o : Option Reason) (r : Result State Reason) → AsMany n r → AsMany n (unless_refused o r)
unless_many n None r h = h
unless_many n (Some x) r h = tt

pub update_many : (p : Patch) (s : State) → AsMany (length s.threads) (update p s)
unfolding update
update_many p s =
    let k = link_of p.old p.new p.entries in
    unless_many (length s.threads) (refusal k p.entries s) (mapped_state k p.entries s)
    (onward_many (length s.threads) (map_globals k p.entries s) _ (λ globals.
    onward_many (length s.threads) (map_objects k p.entries s 1 s.heap.objects) _ (λ objects.
    with_long (length s.threads) (map_threads k p.entries s 0 s.threads) (λ threads. record s { globals = globals; heap = record { objects = objects }; mutexes = new_owners k s; threads = threads })
    (threads_long k p.entries s 0 s.threads) (λ xs. refl))))

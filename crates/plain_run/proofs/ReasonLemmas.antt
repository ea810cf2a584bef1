-- An update names a reason against it that is never want of memory.
use Rattle.std.proofs.Common.{◌≡◌, ◌≢◌, ℕ, ◌+◌, nat_lt, ℤ, Bool, true, false, ◌&&◌, List, [], ◌∷◌, map, length, Option, Some, None, Result, Ok, Err, refl, ap, subst}
use Rattle.std.specs.Prelude.{is_none, is_some, if◌then◌else◌}
use Rattle.c_tree.specs.declared.event.EventKind.TheVariants as e
use Rattle.c_tree.specs.declared.event.Reason.{Reason}
use Rattle.c_tree.specs.declared.event.Reason.TheVariants as why
use Rattle.c_tree.specs.declared.lifted.LExpr.{LExpr}
use Rattle.c_tree.specs.declared.lifted.LGlobal.{LGlobal}
use Rattle.c_tree.specs.declared.mapping.LEntry.{LEntry}
use Rattle.c_tree.specs.declared.mapping.LEntry.TheVariants as n
use Rattle.c_tree.specs.declared.mapping.Patch.{Patch}
use Rattle.c_tree.specs.declared.state.Frame.{Frame}
use Rattle.c_tree.specs.declared.state.Object.{Object}
use Rattle.c_tree.specs.declared.state.State.{State}
use Rattle.c_tree.specs.declared.state.Trap.{Trap}
use Rattle.c_tree.specs.Fillings.{code, filled, with_reason}
use Rattle.c_tree.specs.Limits.{max_frames}
use Rattle.c_tree.specs.Link.{Link, link_of, match_at}
use Rattle.c_tree.specs.MapGlobals.{global_filling, global_view, init_of, map_global, map_global_by, map_globals_from}
use Rattle.c_tree.specs.MapHeap.{field_fillings, is_removed, map_object, map_object_to, map_objects, object_view, removed}
use Rattle.c_tree.specs.MapMutexes.{held}
use Rattle.c_tree.specs.Step.{view_of}
use Rattle.c_tree.specs.MapStack.{Part, frames_by, map_frame, map_frames, new_depth, part_frames, parts_at, unmapped}
use Rattle.c_tree.specs.Refusal.{first_some, onward, unless_refused}
use Rattle.c_tree.specs.Run.{is_memory}
use Rattle.c_tree.specs.Update.{all_deep, all_unmapped, failed_check, failed_checks, map_thread, map_threads, mapped_state, refusal, thread_deep, thread_unmapped, update}
use Rattle.c_tree.specs.Value.{View, is_true, value}

-- no answer is want of memory
abbrev Names : {A : Type 0} → Result A Reason → Type 0
Names (Ok a) = Unit {0}
Names (Err x) = is_memory x ≡ false

abbrev NamesIn : Option Reason → Type 0
NamesIn None = Unit {0}
NamesIn (Some x) = is_memory x ≡ false

abbrev AllIn : List (Option Reason) → Type 0
AllIn [] = Unit {0}
AllIn (o ∷ rest) = NamesIn o × AllIn rest

onward-names : {A B : Type 0} (x : Result A Reason) (go : A → Result B Reason) → Names x → ((a : A) → Names (go a)) → Names (onward x go)
onward-names (Ok a) go m h = h a
onward-names (Err y) go m h = m

unless-names : {A : Type 0} (o : Option Reason) (x : Result A Reason) → NamesIn o → Names x → Names (unless_refused o x)
unless-names None x m h = h
unless-names (Some y) x m h = m

if-names : (b : Bool) (o p : Option Reason) → NamesIn o → NamesIn p → NamesIn (if b then o else p)
if-names true o p m h = m
if-names false o p m h = h

first-names : (os : List (Option Reason)) → AllIn os → NamesIn (first_some os)
first-names [] h = tt
first-names (None ∷ rest) h = first-names rest h.1
first-names (Some x ∷ rest) h = h.0

reason-names : {A : Type 0} (because : ℕ → Reason) (x : Result A Trap) → ((c : ℕ) → is_memory (because c) ≡ false) → Names (with_reason because x)
reason-names because (Ok a) h = tt
reason-names because (Err t) h = h (code t)

filled-names : (x : View) (because : ℕ → ℕ → Reason) (i : ℕ) (es : List LExpr) → ((j c : ℕ) → is_memory (because j c) ≡ false) → Names (filled x because i es)
filled-names x because i [] h = tt
filled-names x because i (y ∷ rest) h =
    onward-names (with_reason (because i) (value x y)) _ (reason-names (because i) (value x y) (h i))
    (λ v. onward-names (filled x because (i + 1) rest) _ (filled-names x because (i + 1) rest h) (λ vs. tt))

-- what is refused before a value is computed
unmapped-names : (k : Link) (entries : List LEntry) (t i : ℕ) (frames : List Frame) → NamesIn (unmapped k entries t i frames)
unmapped-names k entries t i [] = tt
unmapped-names k entries t i (f ∷ rest) =
    if-names (is_none (parts_at k entries f.function f.place)) (Some (why.Unmapped t i)) (unmapped k entries t (i + 1) rest) refl (unmapped-names k entries t (i + 1) rest)

thread_unmapped-names : (k : Link) (entries : List LEntry) (t : ℕ) (o : Option (List Frame)) → NamesIn (thread_unmapped k entries t o)
thread_unmapped-names k entries t None = tt
thread_unmapped-names k entries t (Some frames) = unmapped-names k entries t 0 frames

all_unmapped-names : (k : Link) (entries : List LEntry) (t : ℕ) (os : List (Option (List Frame))) → AllIn (all_unmapped k entries t os)
all_unmapped-names k entries t [] = tt
all_unmapped-names k entries t (o ∷ rest) = (thread_unmapped-names k entries t o, all_unmapped-names k entries (t + 1) rest)

thread_deep-names : (k : Link) (entries : List LEntry) (t : ℕ) (o : Option (List Frame)) → NamesIn (thread_deep k entries t o)
thread_deep-names k entries t None = tt
thread_deep-names k entries t (Some frames) = if-names (nat_lt max_frames (new_depth k entries frames)) (Some (why.Depth t)) None refl tt

all_deep-names : (k : Link) (entries : List LEntry) (t : ℕ) (os : List (Option (List Frame))) → AllIn (all_deep k entries t os)
all_deep-names k entries t [] = tt
all_deep-names k entries t (o ∷ rest) = (thread_deep-names k entries t o, all_deep-names k entries (t + 1) rest)

held-names : (k : Link) (m : ℕ) (os : List (Option ℕ)) → NamesIn (held k m os)
held-names k m [] = tt
held-names k m (o ∷ rest) = if-names (is_some o && is_none (match_at k.mutexes m)) (Some (why.Held m)) (held k (m + 1) rest) refl (held-names k (m + 1) rest)

removed-names : (k : Link) (i : ℕ) (os : List (Option Object)) → NamesIn (removed k i os)
removed-names k i [] = tt
removed-names k i (o ∷ rest) = if-names (is_removed k o) (Some (why.Removed i)) (removed k (i + 1) rest) refl (removed-names k (i + 1) rest)

failed-names : (i : ℕ) (x : Result ℤ Trap) → NamesIn (failed_check i x)
failed-names i (Ok v) = if-names (is_true v) None (Some (why.Check i 0)) tt refl
failed-names i (Err t) = refl

checks-names : (s : State) (i : ℕ) (entries : List LEntry) → AllIn (failed_checks s i entries)
checks-names s i [] = tt
checks-names s i (n.Check x ∷ rest) = (failed-names i (value (global_view s) x), checks-names s (i + 1) rest)
checks-names s i (n.Match a b c ∷ rest) = checks-names s i rest
checks-names s i (n.Field a b c ∷ rest) = checks-names s i rest
checks-names s i (n.Init a b ∷ rest) = checks-names s i rest
checks-names s i (n.Point a b c ∷ rest) = checks-names s i rest

refusal-names : (k : Link) (entries : List LEntry) (s : State) → NamesIn (refusal k entries s)
refusal-names k entries s =
    first-names (
    first_some (all_unmapped k entries 0 s.threads)
    ∷ first_some (all_deep k entries 0 s.threads)
    ∷ held k 0 s.mutexes
    ∷ removed k 1 s.heap.objects
    ∷ first_some (failed_checks s 1 entries)
    ∷ []
    ) (
      first-names (all_unmapped k entries 0 s.threads) (all_unmapped-names k entries 0 s.threads),
      (
        first-names (all_deep k entries 0 s.threads) (all_deep-names k entries 0 s.threads),
        (held-names k 0 s.mutexes, (removed-names k 1 s.heap.objects, (first-names (failed_checks s 1 entries) (checks-names s 1 entries), tt))),
      ),
    )

-- what is computed
global-names : (entries : List LEntry) (s : State) (g : ℕ) (x : LGlobal) (o count : Option ℕ) → Names (map_global_by entries s g x o count)
global-names entries s g x o (Some c) = tt
global-names entries s g x o None =
    let y = value (global_view s) (global_filling (first_some (map (init_of g) entries)) o x.init) in
    onward-names {A = ℤ} {B = List ℤ} (with_reason (λ c. why.Global g c) y) (λ v. Ok (v ∷ [])) (reason-names (λ c. why.Global g c) y (λ c. refl)) (λ v. tt)

globals-names : (k : Link) (entries : List LEntry) (s : State) (g : ℕ) (xs : List LGlobal) → Names (map_globals_from k entries s g xs)
globals-names k entries s g [] = tt
globals-names k entries s g (x ∷ rest) =
    onward-names (map_global k entries s g x) _ (global-names entries s g x _ x.count)
    (λ v. onward-names (map_globals_from k entries s (g + 1) rest) _ (globals-names k entries s (g + 1) rest) (λ vs. tt))

object_to-names : (k : Link) (entries : List LEntry) (s : State) (i : ℕ) (x : Object) (o : Option ℕ) → Names (map_object_to k entries s i x o)
object_to-names k entries s i x None = refl
object_to-names k entries s i x (Some owner) =
    let es = field_fillings k entries x.owner owner in
    onward-names {A = List ℤ} {B = Option Object} (filled (object_view s x) (λ j c. why.Field i j c) 0 es) (λ vs. Ok (Some (record { owner = owner; fields = vs })))
    (filled-names (object_view s x) (λ j c. why.Field i j c) 0 es (λ j c. refl)) (λ vs. tt)

object-names : (k : Link) (entries : List LEntry) (s : State) (i : ℕ) (o : Option Object) → Names (map_object k entries s i o)
object-names k entries s i None = tt
object-names k entries s i (Some x) = object_to-names k entries s i x (match_at k.structs x.owner)

objects-names : (k : Link) (entries : List LEntry) (s : State) (i : ℕ) (os : List (Option Object)) → Names (map_objects k entries s i os)
objects-names k entries s i [] = tt
objects-names k entries s i (o ∷ rest) =
    onward-names (map_object k entries s i o) _ (object-names k entries s i o)
    (λ a. onward-names (map_objects k entries s (i + 1) rest) _ (objects-names k entries s (i + 1) rest) (λ bs. tt))

parts-names : (x : View) (because : ℕ → ℕ → Reason) (i : ℕ) (ps : List Part) → ((j c : ℕ) → is_memory (because j c) ≡ false) → Names (part_frames x because i ps)
parts-names x because i [] h = tt
parts-names x because i (p ∷ rest) h =
    onward-names (filled x because i p.fillings) _ (filled-names x because i p.fillings h)
    (λ vs. onward-names (part_frames x because (i + length p.fillings) rest) _ (parts-names x because (i + length p.fillings) rest h) (λ fs. tt))

frames_by-names : (o : Option (List Part)) (x : View) (t i : ℕ) → Names (frames_by o x t i)
frames_by-names None x t i = refl
frames_by-names (Some ps) x t i = parts-names x (λ j c. why.Slot t i j c) 0 ps (λ j c. refl)

frames-names : (k : Link) (entries : List LEntry) (s : State) (t i : ℕ) (fs : List Frame) → Names (map_frames k entries s t i fs)
frames-names k entries s t i [] = tt
frames-names k entries s t i (f ∷ rest) =
    onward-names (map_frame k entries s t i f) _ (frames_by-names (parts_at k entries f.function f.place) (view_of s f) t i)
    (λ gs. onward-names (map_frames k entries s t (i + 1) rest) _ (frames-names k entries s t (i + 1) rest) (λ hs. tt))

thread-names : (k : Link) (entries : List LEntry) (s : State) (t : ℕ) (o : Option (List Frame)) → Names (map_thread k entries s t o)
thread-names k entries s t None = tt
thread-names k entries s t (Some frames) = onward-names (map_frames k entries s t 0 frames) _ (frames-names k entries s t 0 frames) (λ fs. tt)

threads-names : (k : Link) (entries : List LEntry) (s : State) (t : ℕ) (os : List (Option (List Frame))) → Names (map_threads k entries s t os)
threads-names k entries s t [] = tt
threads-names k entries s t (o ∷ rest) =
    onward-names (map_thread k entries s t o) _ (thread-names k entries s t o)
    (λ a. onward-names (map_threads k entries s (t + 1) rest) _ (threads-names k entries s (t + 1) rest) (λ bs. tt))

mapped-names : (k : Link) (entries : List LEntry) (s : State) → Names (mapped_state k entries s)
mapped-names k entries s =
    onward-names (map_globals_from k entries s 0 k.new.globals) _ (globals-names k entries s 0 k.new.globals)
    (λ gs. onward-names (map_objects k entries s 1 s.heap.objects) _ (objects-names k entries s 1 s.heap.objects)
    (λ os. onward-names (map_threads k entries s 0 s.threads) _ (threads-names k entries s 0 s.threads) (λ ts. tt)))

update-names : (p : Patch) (s : State) → Names (update p s)
unfolding update
update-names p s =
    let k = link_of p.old p.new p.entries in
    unless-names (refusal k p.entries s) (mapped_state k p.entries s) (refusal-names k p.entries s) (mapped-names k p.entries s)

memory_not : (b : Bool) → b ≡ true → b ≡ false → ⊥
memory_not b e f = cc

other : (x : Reason) → is_memory x ≡ false → e.Refuse x ≢ e.Refuse why.Memory
other x h q = let m : x ≡ why.Memory = cc in memory_not (is_memory x) (ap is_memory m) h

-- the reason of an update is another
pub not_memory : (p : Patch) (s : State) (x : Reason) → update p s ≡ Err x → e.Refuse x ≢ e.Refuse why.Memory
not_memory p s x h = other x (subst (λ r. Names r) h (update-names p s))

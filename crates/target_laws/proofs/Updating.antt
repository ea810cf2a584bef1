-- An update of the core leads to the core of the updated state.
use Rattle.std.proofs.Common.{◌≡◌, inl, inr, ℕ, zero, suc, true, List, [], ◌∷◌, Option, Some, None, Ok, refl, sym, ap, ◌∙◌, subst, arith}
use Rattle.std.specs.Prelude.{All, ⊤, slice_get}
use Rattle.std.specs.Option.{option_and_then}
use Rattle.std.proofs.lemmas.List.Elements.{All-nil, All-cons, All-tail}
use Rattle.c_tree.specs.declared.event.EventKind.TheVariants as e
use Rattle.c_tree.specs.declared.lifted.Lifted.{Lifted}
use Rattle.c_tree.specs.declared.run.Armed.{Armed}
use Rattle.c_tree.specs.declared.run.Settings.{Settings}
use Rattle.c_tree.specs.declared.state.State.{State}
use Rattle.c_tree.specs.Formed.{IsFormed}
use Rattle.c_tree.specs.Update.{update}
use Rattle.store_mem.specs.Access.{put_in}
use Rattle.store_mem.specs.Memory.{Marked, field_counts}
use Rattle.target_code.specs.declared.activation.Mode.{Mode}
use Rattle.target_code.specs.declared.activation.Mode.TheVariants.{Running, Saved}
use Rattle.target_code.specs.Between.{IsSaved, IsAtRest, IsBetween}
use Rattle.target_code.specs.Code.{TargetCode, code_of}
use Rattle.target_code.specs.Seen.{seen_in}
use Rattle.target_code.specs.Target.{Target}
use Rattle.target_code.specs.TargetRun.{TargetCore, seen_threads, state_of, with_saved, after_update, updated_by, target_next}
use Rattle.target_laws.proofs.SavedThreads.{Rests, saved_at}
use Rattle.target_laws.proofs.Turned.{Threads}
use Rattle.target_laws.proofs.UpdateParts.{Alike, HaveFrames, marked_alike, parts_of_update}

-- each thread that hasn't ended is saved
abbrev pub EachSaved : List (Option Target) → Type 0
EachSaved [] = ⊤
EachSaved (None ∷ ts) = EachSaved ts
EachSaved (Some x ∷ ts) = IsSaved x × EachSaved ts

not_both : (m : Mode) → m ≡ Running → m ≡ Saved → ⊥
not_both m a b = let e : Running ≡ Saved = sym a ∙ b in cc

saved_one : (p : Lifted) (x : Target) → IsAtRest p x → x.mode ≡ Saved → IsSaved x
saved_one p x (inl r) m = absurd (not_both x.mode (ap (λ (k : Target). k.mode) r.is) m)
saved_one p x (inr q) m = q

pub each_saved : (p : Lifted) (ts : List (Option Target)) → All (λ o. Rests p o) ts → ((u : ℕ) (x : Target) → slice_get ts u ≡ Some (Some x) → x.mode ≡ Saved) → EachSaved ts
each_saved p [] all h = tt
each_saved p (None ∷ ts) all h = each_saved p ts (All-tail (λ o. Rests p o) None ts all) (λ u. h (suc u))
each_saved p (Some x ∷ ts) all h =
    (saved_one p x (all 0 None (omega arith)) (h 0 x refl), each_saved p ts (All-tail (λ o. Rests p o) (Some x) ts all) (λ u. h (suc u)))

-- saved threads with other frames stand for these
seen_saved : (old new : TargetCode) (ts : List (Option Target)) (fs : Threads) → EachSaved ts → Alike (seen_threads old ts) fs → seen_threads new (with_saved ts fs) ≡ fs
seen_saved old new [] [] h a = refl
seen_saved old new (None ∷ ts) (None ∷ fs) h a = ap (λ l. None ∷ l) (seen_saved old new ts fs h a)
seen_saved old new (Some x ∷ ts) (Some f ∷ fs) h a =
    ap (λ (m : Mode). Some (seen_in new m x.activations f) ∷ seen_threads new (with_saved ts fs)) h.0.mode ∙ ap (λ l. Some f ∷ l) (seen_saved old new ts fs h.1 a)
seen_saved old new [] (o ∷ fs) h a = absurd a
seen_saved old new (None ∷ ts) (Some f ∷ fs) h a = absurd a
seen_saved old new (Some x ∷ ts) (None ∷ fs) h a = absurd a
seen_saved old new (None ∷ ts) [] h a = absurd a
seen_saved old new (Some x ∷ ts) [] h a = absurd a

rest_saved : (p : Lifted) (old : TargetCode) (ts : List (Option Target)) (fs : Threads) → EachSaved ts → Alike (seen_threads old ts) fs → All (λ o. Rests p o) (with_saved ts fs)
rest_saved p old [] [] h a = All-nil (λ o. Rests p o)
rest_saved p old (None ∷ ts) (None ∷ fs) h a = All-cons (λ o. Rests p o) None (with_saved ts fs) tt (rest_saved p old ts fs h a)
rest_saved p old (Some x ∷ ts) (Some f ∷ fs) h a =
    All-cons (λ o. Rests p o) (Some (record x { saved = f })) (with_saved ts fs) (inr (record { mode = h.0.mode; activations = h.0.activations })) (rest_saved p old ts fs h.1 a)
rest_saved p old [] (o ∷ fs) h a = absurd a
rest_saved p old (None ∷ ts) (Some f ∷ fs) h a = absurd a
rest_saved p old (Some x ∷ ts) (None ∷ fs) h a = absurd a
rest_saved p old (None ∷ ts) [] h a = absurd a
rest_saved p old (Some x ∷ ts) [] h a = absurd a

same_saved : (old : TargetCode) (ts : List (Option Target)) (fs : Threads) (u : ℕ) → Alike (seen_threads old ts) fs → saved_at (with_saved ts fs) u ≡ saved_at ts u
same_saved old [] [] u a = refl
same_saved old (None ∷ ts) (None ∷ fs) zero a = refl
same_saved old (None ∷ ts) (None ∷ fs) (suc u) a = same_saved old ts fs u a
same_saved old (Some x ∷ ts) (Some f ∷ fs) zero a = refl
same_saved old (Some x ∷ ts) (Some f ∷ fs) (suc u) a = same_saved old ts fs u a
same_saved old [] (o ∷ fs) u a = absurd a
same_saved old (None ∷ ts) (Some f ∷ fs) u a = absurd a
same_saved old (Some x ∷ ts) (None ∷ fs) u a = absurd a
same_saved old (None ∷ ts) [] u a = absurd a
same_saved old (Some x ∷ ts) [] u a = absurd a

-- an update of a core whose threads are saved
pub updates_on : (p : Lifted) (k : Settings) (a : Armed) (d : TargetCore) (next : State) → IsBetween p d → k.armed ≡ Some a → update a.patch (state_of d) ≡ Ok next → IsFormed a.patch.new → HaveFrames next.threads → EachSaved d.threads
    → (n : ℕ) × (c : TargetCore) × (target_next n k d e.Update ≡ Some c) × (state_of c ≡ next) × IsBetween a.patch.new c × ((u : ℕ) → saved_at c.threads u ≡ saved_at d.threads u)
unfolding target_next
updates_on p k a d next b armed gives formed some saved =
    let new = a.patch.new in
    let parts = parts_of_update a.patch (state_of d) next gives in
    let memory = put_in d.memory (field_counts new) next.globals next.heap next.mutexes in
    let c : TargetCore = record d { code = code_of new; memory = memory; threads = with_saved d.threads next.threads; new = true } in
    let leads : target_next 0 k d e.Update ≡ Some c = ap (λ o. option_and_then (λ a. updated_by d a) o) armed ∙ ap (λ r. after_update d new r) gives in
    let seen_is : seen_threads (code_of new) (with_saved d.threads next.threads) ≡ next.threads = seen_saved d.code (code_of new) d.threads next.threads saved parts.alike in
    let state_is : state_of c ≡ next = ap (λ l. record (state_of d) { globals = next.globals; heap = next.heap; mutexes = next.mutexes; threads = l }) seen_is ∙ sym parts.is in
    let between : IsBetween new c = record {
      formed = formed;
      code = refl;
      fields = refl;
      shared = b.shared;
      marked = subst (λ l. Marked d.memory.marks l) (sym seen_is) (marked_alike d.memory.marks (seen_threads d.code d.threads) next.threads b.marked parts.alike some);
      threads = rest_saved new d.code d.threads next.threads saved parts.alike;
    } in
    (0, c, leads, state_is, between, λ u. same_saved d.code d.threads next.threads u parts.alike)

-- An update keeps the number of threads.
use Rattle.std.proofs.Common.{◌≡◌, ℕ, suc, ◌+◌, List, [], ◌∷◌, length, Option, Some, None, Result, Ok, Err, refl, ap, sym, ◌∙◌}
use Rattle.c_tree.specs.declared.event.Reason.{Reason}
use Rattle.c_tree.specs.declared.event.Reason.TheVariants as why
use Rattle.c_tree.specs.declared.mapping.LEntry.{LEntry}
use Rattle.c_tree.specs.declared.mapping.Patch.{Patch}
use Rattle.c_tree.specs.declared.run.Armed.{Armed}
use Rattle.c_tree.specs.declared.state.Frame.{Frame}
use Rattle.c_tree.specs.declared.state.State.{State}
use Rattle.c_tree.specs.Link.{Link, link_of}
use Rattle.c_tree.specs.MapGlobals.{map_globals}
use Rattle.c_tree.specs.MapHeap.{map_objects}
use Rattle.c_tree.specs.Refusal.{onward, unless_refused}
use Rattle.c_tree.specs.Update.{map_thread, map_threads, mapped_state, refusal, update}

onward_ok : {A B E : Type 0} (x : Result A E) (go : A → Result B E) (b : B) → onward x go ≡ Ok b → (a : A) × (x ≡ Ok a) × (go a ≡ Ok b)
onward_ok (Ok a) go b h = (a, refl, h)
onward_ok (Err e) go b h = cc

unrefused_ok : {A E : Type 0} (o : Option E) (x : Result A E) (a : A) → unless_refused o x ≡ Ok a → x ≡ Ok a
unrefused_ok None x a h = h
unrefused_ok (Some e) x a h = cc

inside_ok : {A E : Type 0} (a b : A) → ◌≡◌ {A = Result A E} (Ok a) (Ok b) → a ≡ b
inside_ok a b h = cc

threads_kept : (k : Link) (entries : List LEntry) (s : State) (t : ℕ) (xs ys : List (Option (List Frame))) → map_threads k entries s t xs ≡ Ok ys → length ys ≡ length xs
threads_kept k entries s t [] ys h = ap length (sym (inside_ok [] ys h))
threads_kept k entries s t (x ∷ xs) ys h =
    let a = onward_ok (map_thread k entries s t x) (λ a. onward (map_threads k entries s (t + 1) xs) (λ bs. Ok (a ∷ bs))) ys h in
    let b = onward_ok (map_threads k entries s (t + 1) xs) (λ bs. Ok (a.0 ∷ bs)) ys a.2 in
    ap length (sym (inside_ok (a.0 ∷ b.0) ys b.2)) ∙ ap (λ n. suc n) (threads_kept k entries s (t + 1) xs b.0 b.1)

mapped_threads : (k : Link) (entries : List LEntry) (s s2 : State) → mapped_state k entries s ≡ Ok s2 → length s2.threads ≡ length s.threads
mapped_threads k entries s s2 h =
    let a = onward_ok (map_globals k entries s) _ s2 h in
    let b = onward_ok (map_objects k entries s 1 s.heap.objects) _ s2 a.2 in
    let c = onward_ok (map_threads k entries s 0 s.threads) _ s2 b.2 in
    ap (λ z. length z.threads) (sym (inside_ok _ s2 c.2)) ∙ threads_kept k entries s 0 s.threads c.0 c.1

update_threads : (p : Patch) (s s2 : State) → update p s ≡ Ok s2 → length s2.threads ≡ length s.threads
unfolding update
update_threads p s s2 h =
    let k = link_of p.old p.new p.entries in
    mapped_threads k p.entries s s2 (unrefused_ok (refusal k p.entries s) (mapped_state k p.entries s) s2 h)

pub decided_threads : (o : Option Armed) (s s2 : State) → (elim o as (λ _. Result State Reason) [ None ↦ Err why.Memory | Some a ↦ update a.patch s ]) ≡ Ok s2
    → length s2.threads ≡ length s.threads
decided_threads None s s2 h = cc
decided_threads (Some a) s s2 h = update_threads a.patch s s2 h

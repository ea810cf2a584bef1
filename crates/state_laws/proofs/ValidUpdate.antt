-- The update of a valid state by a fitting link is a valid state of the new program.
use Rattle.std.proofs.Common.{◌≡◌, ℕ, ◌≤◌, List, [], ◌∷◌, Option, Some, None, refl, sym, subst, length, arith}
use Rattle.std.specs.Prelude.{map, slice_get, Result, Ok, All}
use Rattle.std.specs.List.{AllZip}
use Rattle.c_tree.specs.declared.lifted.LExpr.{LExpr}
use Rattle.c_tree.specs.declared.lifted.LGlobal.{LGlobal}
use Rattle.c_tree.specs.declared.mapping.LEntry.{LEntry}
use Rattle.c_tree.specs.declared.state.State.{State}
use Rattle.c_tree.specs.declared.event.Reason.{Reason}
use Rattle.c_tree.specs.Limits.{max_live, max_threads, max_objects}
use Rattle.c_tree.specs.Valid.{Refers, ValidGlobal, Valid}
use Rattle.c_tree.specs.Refusal.{onward, unless_refused, first_some}
use Rattle.c_tree.specs.Link.{Link}
use Rattle.c_tree.specs.MapExpr.{only_globals}
use Rattle.c_tree.specs.MapGlobals.{init_of, map_globals}
use Rattle.c_tree.specs.MapHeap.{removed, map_objects}
use Rattle.c_tree.specs.MapMutexes.{held, new_owners}
use Rattle.c_tree.specs.Update.{all_unmapped, all_deep, failed_checks, refusal, map_threads, mapped_state, update_by}
use Rattle.state_laws.proofs.TypedValues.{same_ok, not_ok}
use Rattle.state_laws.proofs.Filled.{Gives, onward_known}
use Rattle.state_laws.proofs.MappedParts.{Old, FieldsGive, IsObject, IsOwner, new_globals, new_objects, owners_kept, owners_length}
use Rattle.state_laws.proofs.MappedStacks.{MapsWell, StartsKept, IsStack, first_none, threads_mapped, moved_long, moved_live, starts_kept}

pub not_refused : {A E : Type 0} (r : Option E) (a : Result A E) (v : A) → unless_refused r a ≡ Ok v → a ≡ Ok v
not_refused None a v e = e
not_refused (Some t) a v e = absurd (not_ok v t e)

pub refused_not : {A E : Type 0} (r : Option E) (a : Result A E) (v : A) → unless_refused r a ≡ Ok v → r ≡ None
refused_not None a v e = refl
refused_not (Some t) a v e = absurd (not_ok v t e)

-- no new stack is too deep
pub not_too_deep : (k : Link) (entries : List LEntry) (s s' : State) → update_by k entries s ≡ Ok s' → first_some (all_deep k entries 0 s.threads) ≡ None
not_too_deep k entries s s' e =
    let later : List (Option Reason) = held k 0 s.mutexes ∷ removed k 1 s.heap.objects ∷ first_some (failed_checks s 1 entries) ∷ [] in
    let none = refused_not (refusal k entries s) (mapped_state k entries s) s' e in
    (first_none (first_some (all_deep k entries 0 s.threads)) later (first_none (first_some (all_unmapped k entries 0 s.threads)) (first_some (all_deep k entries 0 s.threads) ∷ later) none).1).0

-- what a sound patch makes sure of, where n objects were made
pub record LinkFits (k : Link) (entries : List LEntry) (n : ℕ) : Type 0 where
  pub starts : StartsKept k
  pub maps : MapsWell k entries n
  pub fields : FieldsGive k entries n
  pub inits : (i : ℕ) (g : LGlobal) → slice_get k.new.globals i ≡ Some g → g.count ≡ None → (e : LExpr) → first_some (map (init_of i) entries) ≡ Some e → Gives (only_globals k.old) n e g.ty
  pub initial : (i : ℕ) (g : LGlobal) → slice_get k.new.globals i ≡ Some g → Refers n g.ty g.init

pub valid_update : (k : Link) (entries : List LEntry) (s s' : State) → LinkFits k entries (length s.heap.objects) → Valid k.old s → update_by k entries s ≡ Ok s' → Valid k.new s'
valid_update k entries s s' f v e =
    let n : ℕ = length s.heap.objects in
    let old : Old k.old n s = record { globals = v.globals; objects = v.objects } in
    let made = not_refused (refusal k entries s) (mapped_state k entries s) s' e in
    let g = onward_known (map_globals k entries s) (λ globals. onward (map_objects k entries s 1 s.heap.objects) (λ objects. onward (map_threads k entries s 0 s.threads) (λ threads.
    Ok (record s { globals = globals; heap = record { objects = objects }; mutexes = new_owners k s; threads = threads })))) s' made in
    let o = onward_known (map_objects k entries s 1 s.heap.objects) (λ objects. onward (map_threads k entries s 0 s.threads) (λ threads.
    Ok (record s { globals = g.0; heap = record { objects = objects }; mutexes = new_owners k s; threads = threads }))) s' g.1.1 in
    let t = onward_known (map_threads k entries s 0 s.threads) (λ threads.
    Ok (record s { globals = g.0; heap = record { objects = o.0 }; mutexes = new_owners k s; threads = threads })) s' o.1.1 in
    let globals = new_globals k entries n s 0 k.new.globals g.0 old (λ i m x e y. subst (λ z. slice_get k.new.globals z ≡ Some x) (let z : i ≡ m = omega (arith, e) in z) y) f.inits f.initial g.1.0 in
    let objects = new_objects k entries n s 1 s.heap.objects o.0 old f.fields v.objects o.1.0 in
    let threads = threads_mapped k entries n s 0 s.threads t.0 old f.maps (not_too_deep k entries s s' e) v.stacks t.1.0 in
    let same : n ≡ length o.0 = sym objects.1 in
    let count : length t.0 ≡ length s.threads = moved_long k s.threads t.0 threads.moved in
    subst (λ z. Valid k.new z) (same_ok (record s { globals = g.0; heap = record { objects = o.0 }; mutexes = new_owners k s; threads = t.0 }) s' t.1.1) (record {
      starts = starts_kept k s.threads t.0 f.starts threads.moved v.starts;
      stacks = subst (λ m. All (λ b. IsStack k.new m b) t.0) same threads.valid;
      globals = subst (λ m. AllZip (λ g values. ValidGlobal m g values) k.new.globals g.0) same globals;
      objects = subst (λ m. All (IsObject k.new m) o.0) same objects.0;
      mutexes = owners_length k s 0 k.new.mutexes;
      owners = subst (λ m. All (IsOwner m) (new_owners k s)) (sym count) (owners_kept k s (length s.threads) 0 k.new.mutexes v.owners);
      live = subst (λ m. m ≤ max_live) (sym (moved_live k s.threads t.0 threads.moved)) v.live;
      threads = subst (λ m. m ≤ max_threads) (sym count) v.threads;
      made = subst (λ m. m ≤ max_objects) same v.made;
      printed = v.printed;
    })

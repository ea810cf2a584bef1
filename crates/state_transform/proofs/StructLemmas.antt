-- What the objects of old structs become, read from the list of the answers.
--
-- Past the list there is no match, so they become nothing.
use Rattle.std.proofs.Common.{◌≡◌, ℕ, ◌<◌, ◌≤◌, List, length, get_or, Option, Some, None, sym, ◌∙◌, ap, arith}
use Rattle.std.specs.Prelude.{slice_get}
use Rattle.std.specs.Option.{option_flatten, option_map}
use Rattle.std.proofs.lemmas.List.FromFn.{length-map-range_with_len, get_or-map-range_with_len}
use Rattle.std.proofs.lemmas.Option.{slice_get_past}
use Rattle.c_tree.specs.declared.mapping.LEntry.{LEntry}
use Rattle.c_tree.specs.declared.state.Object.{Object}
use Rattle.c_tree.specs.declared.state.State.{State}
use Rattle.c_tree.specs.Link.{Link, match_at}
use Rattle.c_tree.specs.MapHeap.{map_object, map_object_to}
use Rattle.state_transform.specs.Fields.{AreStructMaps, struct_map, going_to, object_to}
use Rattle.state_transform.specs.declared.fields.StructMap.{StructMap}

pub struct_within : (k : Link) (es : List LEntry) (made : List (Option StructMap)) (s : ℕ) (o : Option StructMap) → AreStructMaps k es made → s < length made → o ≡ get_or made s o → o ≡ struct_map k es s
struct_within k es made s o are lt read =
    let n = length k.old.structs in
    let many : length made ≡ n = ap (λ xs. length xs) are ∙ length-map-range_with_len (struct_map k es) 0 n in
    read ∙ (ap (λ xs. get_or xs s o) are ∙ get_or-map-range_with_len (struct_map k es) 0 n s s o (omega arith) (omega arith))

pub struct_past : (k : Link) (es : List LEntry) (made : List (Option StructMap)) (s : ℕ) → AreStructMaps k es made → length k.structs ≡ length k.old.structs → length made ≤ s → None ≡ struct_map k es s
struct_past k es made s are whole past =
    let n = length k.old.structs in
    let many : length made ≡ n = ap (λ xs. length xs) are ∙ length-map-range_with_len (struct_map k es) 0 n in
    let none : slice_get k.structs s ≡ None = slice_get_past k.structs s (omega arith) in
    sym (ap (λ o. option_map (going_to k es s) (option_flatten o)) none)

-- an object whose struct has a match
pub goes_to : (k : Link) (es : List LEntry) (s : State) (number n : ℕ) (o : Object) (m : StructMap) → Some m ≡ struct_map k es o.owner → n ≡ number →
    object_to m s n o ≡ map_object k es s number (Some o)
goes_to k es s number n o m is e = ap (λ i. object_to m s i o) e ∙ pick (match_at k.structs o.owner) is where
  pick : (to : Option ℕ) → Some m ≡ option_map (going_to k es o.owner) to → object_to m s number o ≡ map_object_to k es s number o to
  pick None h = absurd (let no : ⊥ = cc in no)
  pick (Some to) h = let same : m ≡ going_to k es o.owner to = cc in ap (λ x. object_to x s number o) same

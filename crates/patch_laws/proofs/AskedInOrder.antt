-- The chain gives what the definition says: the least cause that holds, or the entry by numbers.
use Rattle.std.proofs.Common.{◌≡◌, ℕ, Bool, false, List, [], ◌∷◌, Option, Some, None, Result, Ok, Err, refl, sym, ◌∙◌, ap}
use Rattle.std.specs.Prelude.{true, map, is_some, if◌then◌else◌}
use Rattle.std.specs.Option.{ok_or, option_map}
use Rattle.std.specs.List.{list_any}
use Rattle.std.proofs.lemmas.Option.{none-some}
use Rattle.c_tree.specs.declared.cause.EntryCause.{EntryCause}
use Rattle.c_tree.specs.declared.cause.EntryCause.TheVariants as c
use Rattle.c_tree.specs.declared.lifted.LExpr.{LExpr}
use Rattle.c_tree.specs.declared.lifted.Lifted.{Lifted}
use Rattle.c_tree.specs.declared.lifted.Slot.{Slot}
use Rattle.c_tree.specs.declared.mapping.Fill.{Fill}
use Rattle.c_tree.specs.declared.mapping.Part.{Part}
use Rattle.c_tree.specs.declared.mapping.LFill.{LFill}
use Rattle.c_tree.specs.declared.mapping.LPart.{LPart}
use Rattle.c_tree.specs.declared.mapping.Entry.{Entry}
use Rattle.c_tree.specs.declared.mapping.Entry.TheVariants as n
use Rattle.c_tree.specs.declared.mapping.LEntry.{LEntry}
use Rattle.c_tree.specs.Step.{function_of}
use Rattle.c_tree.specs.Refusal.{onward, refuse_if, unless_refused}
use Rattle.c_tree.specs.Names.{find_name, slot_names}
use Rattle.c_tree.specs.Link.{Link}
use Rattle.c_tree.specs.MapExpr.{Reads, only_globals, numbered}
use Rattle.c_tree.specs.Suits.{reads_slots, reads_fields, suits_slot}
use Rattle.c_tree.specs.Causes.{clash}
use Rattle.c_tree.specs.Entries.{if_there, both, all_there, side_by_number, fill_by_numbers, part_by_numbers, by_numbers, least_cause, sound_entry}
use Rattle.c_tree.specs.Chain.{new_number, suited, lifted_fill_at, lifted_fill, lifted_entry, chain}
use Rattle.patch_laws.proofs.Beside.{all_from, zip_weaker}
use Rattle.patch_laws.proofs.LiftedForms.{onward_known, there_known, refuse_known, same_ok, both_known, PartForm, entry_form}
use Rattle.patch_laws.proofs.LeastCause.{cause_of, chain_cause}

-- what suits is there
suited_there : (test : LExpr → Bool) (o : Option LExpr) (y : LExpr) → suited test o ≡ Some y → o ≡ Some y
suited_there test None y w = absurd (none-some y w)
suited_there test (Some x) y w = pick (test x) w where
  pick : (t : Bool) → (if t then Some x else None) ≡ Some y → Some x ≡ Some y
  pick false w = absurd (none-some y w)
  pick true w = w

side_there : (new : Lifted) (kind : ℕ) (b : Option (List ℕ)) (j : Option ℕ) → new_number kind new b ≡ Ok j → side_by_number kind new b ≡ Some j
side_there new kind None j w = ap (λ z. Some z) (same_ok None j w)
side_there new kind (Some name) j w = let q = there_known _ _ _ j w in ap (λ o. option_map (λ i. Some i) o) q.1 ∙ ap (λ z. Some z) (same_ok (Some q.0) j q.2)

fill_there : (k : Link) (r : Reads) (slots : List Slot) (x : Fill) (o : Option ℕ) (y : LFill) → lifted_fill_at k r slots x.expr o ≡ Some y →
    if_there o (λ i. if_there (numbered r x.expr.kind) (λ z. Some (record { slot = i; expr = z }))) ≡ Some y
fill_there k r slots x None y w = absurd (none-some y w)
fill_there k r slots x (Some i) y w = pick (suited (suits_slot k r slots i) (numbered r x.expr.kind)) refl w where
  pick : (o : Option LExpr) → suited (suits_slot k r slots i) (numbered r x.expr.kind) ≡ o → option_map (λ z. record { slot = i; expr = z }) o ≡ Some y →
      if_there (numbered r x.expr.kind) (λ z. Some (record { slot = i; expr = z })) ≡ Some y
  pick None e w = absurd (none-some y w)
  pick (Some z) e w = ap (λ o. if_there o (λ z. Some (record { slot = i; expr = z }))) (suited_there (suits_slot k r slots i) (numbered r x.expr.kind) z e) ∙ w

fills_there : (k : Link) (r : Reads) (slots : List Slot) (fills : List Fill) (xs : List LFill) → all_there (map (lifted_fill k r slots) fills) ≡ Some xs →
    all_there (map (fill_by_numbers r slots) fills) ≡ Some xs
fills_there k r slots [] xs w = w
fills_there k r slots (x ∷ rest) xs w =
    let q = both_known (lifted_fill k r slots x) (all_there (map (lifted_fill k r slots) rest)) xs w in
    ap (λ o. both o (all_there (map (fill_by_numbers r slots) rest))) (fill_there k r slots x (find_name x.slot (slot_names slots)) q.0 q.2)
    ∙ (ap (λ o. both (Some q.0) o) (fills_there k r slots rest q.1 q.3) ∙ ap (λ z. Some z) q.4)

part_there : (k : Link) (f g : ℕ) (p : Part) (x : LPart) → PartForm k f g p x → part_by_numbers k f g p ≡ Some x
part_there k f g p x e =
    let there = fills_there k (reads_slots k f) (function_of k.new x.function).slots p.fills x.fills e.1 in
    rw (e.0.0, e.0.1, there) refl

-- what passes the chain is the entry by numbers
pub passed_numbers : (k : Link) (x : Entry) (y : LEntry) → lifted_entry k x ≡ Ok y → by_numbers k x ≡ Some y
passed_numbers k (n.Match i a b) y w =
    let q = entry_form k (n.Match i a b) y w in
    rw (q.from_found, side_there k.new i b q.to q.to_found) (ap (λ z. Some z) q.is)
passed_numbers k (n.Field owner name x) y w =
    let q = entry_form k (n.Field owner name x) y w in
    let there : numbered (reads_fields k q.struct) x.kind ≡ Some q.value = suited_there _ _ q.value q.filled in
    rw (q.struct_found, q.field_found, there) (ap (λ z. Some z) q.is)
passed_numbers k (n.Init name x) y w =
    let q = entry_form k (n.Init name x) y w in
    let there : numbered (only_globals k.old) x.kind ≡ Some q.value = suited_there _ _ q.value q.filled in
    rw (q.global_found, there) (ap (λ z. Some z) q.is)
passed_numbers k (n.Point name from parts) y w =
    let q = entry_form k (n.Point name from parts) y w in
    let there = all_from (part_by_numbers k q.function q.match) parts q.values
    (zip_weaker (PartForm k q.function q.match) (λ p x. part_by_numbers k q.function q.match p ≡ Some x) (part_there k q.function q.match) parts q.values q.parts_found) in
    rw (q.function_found, q.matched, q.old_found, there) (ap (λ z. Some z) q.is)
passed_numbers k (n.Check x) y w =
    let q = entry_form k (n.Check x) y w in
    let there : numbered (only_globals k.old) x.kind ≡ Some q.value = suited_there _ _ q.value q.filled in
    rw there (ap (λ z. Some z) q.is)

-- the chain and the definition agree
pub asked_in_order : (k : Link) (earlier : List Entry) (x : Entry) → chain k earlier x ≡ sound_entry k earlier x
unfolding sound_entry
asked_in_order k earlier x = pick (chain k earlier x) refl where
  pick : (r : Result LEntry EntryCause) → chain k earlier x ≡ r → chain k earlier x ≡ sound_entry k earlier x
  pick (Ok y) e =
      let none : least_cause k earlier x ≡ None = sym (chain_cause k earlier x) ∙ ap cause_of e in
      let lifts = onward_known (lifted_entry k x) (λ y. refuse_if (list_any (clash x) earlier) c.Twice (Ok y)) y e in
      let same = refuse_known (list_any (clash x) earlier) c.Twice (Ok lifts.0) y lifts.2 in
      let numbers : by_numbers k x ≡ Some y = passed_numbers k x y (lifts.1 ∙ same.1) in
      e ∙ sym (ap (λ o. unless_refused o (ok_or (by_numbers k x) c.BadExpr)) none ∙ ap (λ o. ok_or o c.BadExpr) numbers)
  pick (Err cause) e =
      let some : least_cause k earlier x ≡ Some cause = sym (chain_cause k earlier x) ∙ ap cause_of e in
      e ∙ sym (ap (λ o. unless_refused o (ok_or (by_numbers k x) c.BadExpr)) some)

-- an entry has numbers where no cause holds of it
pub sound_numbers : (k : Link) (earlier : List Entry) (x : Entry) → least_cause k earlier x ≡ None → is_some (by_numbers k x) ≡ true
sound_numbers k earlier x none = pick (chain k earlier x) refl where
  pick : (r : Result LEntry EntryCause) → chain k earlier x ≡ r → is_some (by_numbers k x) ≡ true
  pick (Ok y) e =
      let lifts = onward_known (lifted_entry k x) (λ y. refuse_if (list_any (clash x) earlier) c.Twice (Ok y)) y e in
      ap (λ o. is_some o) (passed_numbers k x lifts.0 lifts.1)
  pick (Err cause) e = absurd (none-some cause (sym none ∙ (sym (chain_cause k earlier x) ∙ ap cause_of e)))

-- beside no other entries, an entry is what passes the chain up to its last test
pub asked_alone : (k : Link) (x : Entry) → lifted_entry k x ≡ sound_entry k [] x
asked_alone k x = alone (lifted_entry k x) ∙ asked_in_order k [] x where
  alone : (r : Result LEntry EntryCause) → r ≡ onward r (λ y. Ok y)
  alone (Ok y) = refl
  alone (Err cause) = refl

-- what earlier entries name is asked last
pub earlier_last : (k : Link) (earlier : List Entry) (x : Entry) →
    sound_entry k earlier x ≡ onward (sound_entry k [] x) (λ y. refuse_if (list_any (clash x) earlier) c.Twice (Ok y))
earlier_last k earlier x = sym (asked_in_order k earlier x) ∙ ap (λ r. onward r (λ y. refuse_if (list_any (clash x) earlier) c.Twice (Ok y))) (asked_alone k x)

-- The text of entries in their canonical order is read as a mapping whose canonical entries they are.
use Rattle.std.proofs.Common.{◌≡◌, ℕ, ◌+◌, List, [], ◌∷◌, ◌++◌, length, None, Ok, refl, sym, ◌∙◌, ap, subst, arith, append_assoc, append-nil}
use Rattle.std.specs.Prelude.{map}
use Rattle.std.specs.List.{flat_map, AllByRecursion}
use Rattle.std.proofs.lemmas.List.Elements.{recursion_from_All}
use Rattle.c_tree.specs.declared.lifted.Lifted.{Lifted}
use Rattle.c_tree.specs.declared.program.At.{At}
use Rattle.c_tree.specs.declared.mapping.Mapping.{Mapping}
use Rattle.c_tree.specs.declared.mapping.Entry.{Entry}
use Rattle.c_tree.specs.declared.mapping.LEntry.{LEntry}
use Rattle.c_tree.specs.Link.{Link, link_of}
use Rattle.c_tree.specs.Entries.{link_by_names, lifted_entries}
use Rattle.c_tree.specs.Canonical.{key_of, is_before, with_fills_in_order, canonical, entry_text, canonical_text, canonical_entries}
use Rattle.c_tokens.specs.Text.{scanned, text_from, text_of}
use Rattle.c_grammar.specs.declared.rule.Rule.TheVariants as rule
use Rattle.c_grammar.specs.declared.action.Action.TheVariants as action
use Rattle.c_grammar.specs.declared.symbol.Symbol.TheVariants.{Expand}
use Rattle.c_grammar.specs.declared.value.Value.{Value}
use Rattle.c_grammar.specs.declared.value.Value.TheVariants as value
use Rattle.c_grammar.specs.Pieces.{map_piece}
use Rattle.c_grammar.specs.Values.{no_mapping}
use Rattle.c_grammar.specs.Effects.{empty, with_entry, value_effect}
use Rattle.c_grammar.specs.Rules.{map_start}
use Rattle.c_grammar.specs.Reading.{first, later, IsReading}
use Rattle.c_grammar.specs.Mapping.{map_pieces, IsMappingOf}
use Rattle.c_reader.specs.Choices.{choices}
use Rattle.c_reader.specs.Spelling.{CanBeSpelt}
use Rattle.c_reader.proofs.Keeps.{Keeps, done}
use Rattle.c_reader.proofs.Limits.{is_reading}
use Rattle.read_back.specs.Kept.{IsKeptEntry, IsKept}
use Rattle.patch_laws.proofs.LiftedForms.{onward_known, same_ok}
use Rattle.patch_laws.proofs.LiftedLink.{link_lifted}
use Rattle.patch_laws.proofs.LiftedSound.{lifted_apart}
use Rattle.patch_laws.proofs.OrderedLink.{link_ordered}
use Rattle.patch_laws.proofs.Clash.{AllLift}
use Rattle.patch_laws.proofs.Known.{all_lift}
use Rattle.read_back.proofs.Again.{canonical_again}
use Rattle.read_back.proofs.Parts.{Part, Then, after_part, part_does, part_of, first_acted, nothing_taken, semicolon_line}
use Rattle.read_back.proofs.Entries.{ReadsEntry, entry_reads, all_sorted}

-- an entry and the end of its line
abbrev pub line_text : Link → LEntry → List ℕ
line_text k x = entry_text k x ++ 59 ∷ 10 ∷ []

-- More entries, which lift to these, stand behind those before them.
abbrev pub AddsAll : Link → List LEntry → List Value → List Value → Type 0
AddsAll k es vs ws =
    (m : Mapping) (others : List Value) → vs ≡ value.Mapping m ∷ others
    → (more : List (At Entry)) × AllLift k (map (λ x. x.it) more) es × (ws ≡ value.Mapping (record { entries = m.entries ++ more }) ∷ others)

entries_part : (k : Link) (es : List LEntry) (rest : List ℕ) (at : ℕ) → AllByRecursion (ReadsEntry k) es → Part (Expand rule.Entries ∷ []) (AddsAll k es) (flat_map (line_text k) es) rest at
entries_part k [] rest at all =
    part_of rule.Entries (part_does nothing_taken (λ vs ws h m others e. ([], tt, h ∙ (e ∙ ap (λ xs. value.Mapping (record { entries = xs }) ∷ others) (sym (append-nil m.entries)))))) (later first)
entries_part k (y ∷ es) rest at all =
    let more = flat_map (line_text k) es in
    let part =
    after_part (line_text k y) more rest at
    (after_part (entry_text k y) (59 ∷ 10 ∷ []) (more ++ rest) at (all.0 (59 ∷ 10 ∷ (more ++ rest)) at refl) (semicolon_line (more ++ rest) (at + length (entry_text k y))))
    (entries_part k es rest (at + length (line_text k y)) all.1) in
    part_of rule.Entries (part_does part (λ vs ws h m others e.
    let one = h.1.1 m others e in
    let more = h.2 (with_entry m one.0 one.1) others (h.1.2 ∙ one.3) in
    let entry : At Entry = record { at = one.0; it = one.1 } in
    (entry ∷ more.0, (one.2, more.1), more.2 ∙ ap (λ xs. value.Mapping (record { entries = xs }) ∷ others) (append_assoc m.entries (entry ∷ []) more.0)))) first

-- The mapping that the text of entries is.
record MappingFound (k : Link) (es : List LEntry) : Type 0 where
  mapping : Mapping
  is : IsMappingOf (flat_map (line_text k) es) mapping
  lift : AllLift k (map (λ x. x.it) mapping.entries) es

mapping_found : (k : Link) (es : List LEntry) → AllByRecursion (ReadsEntry k) es → MappingFound k es
unfolding text_from
mapping_found k es all =
    let text = flat_map (line_text k) es in
    let x : Part map_start (Then (λ vs ws. ws ≡ value_effect action.StartMapping vs) (AddsAll k es)) text [] 0 = first_acted action.StartMapping (entries_part k es [] 0 all) in
    let h = x.so [] in
    let y = h.2 no_mapping [] h.1 in
    let m : Mapping = record { entries = y.0 } in
    let whole : text_of text ≡ scanned x.tokens None = ap text_of (sym (append-nil text)) ∙ (x.found ∙ ap (λ ts. scanned ts None) (append-nil x.tokens)) in
    let keeps : Keeps choices (value.Mapping m ∷ []) map_start empty (map map_piece x.tokens) =
    subst (λ ps. Keeps choices (value.Mapping m ∷ []) map_start empty ps) (append-nil (map map_piece x.tokens))
    (x.moves (value.Mapping m ∷ []) [] empty [] (record { shallow = refl; few = omega arith }) (λ after calm e. done (sym (e ∙ y.2)))) in
    record {
      mapping = m;
      is = record {
        clean = ap (λ s. s.fault) whole;
        reading = subst (λ s. IsReading map_start (map_pieces s) (value.Mapping m ∷ [])) (sym whole) (is_reading map_start _ (map map_piece x.tokens) (refl, (λ k b m. m, tt)) keeps);
      };
      lift = y.1;
    }

-- Each entry that was lifted is read.
each_reads : (k : Link) → CanBeSpelt k.old → CanBeSpelt k.new → (xs : List Entry) (ds : List LEntry) → AllByRecursion IsKeptEntry xs → AllLift k xs ds → AllByRecursion (ReadsEntry k) (map with_fills_in_order ds)
each_reads k can_old can_new [] [] kept lift = tt
each_reads k can_old can_new [] (y ∷ ds) kept lift = absurd lift
each_reads k can_old can_new (x ∷ xs) [] kept lift = absurd lift
each_reads k can_old can_new (x ∷ xs) (y ∷ ds) kept lift = (entry_reads k can_old can_new x y kept.0 lift.0, each_reads k can_old can_new xs ds kept.1 lift.1)

entries_kept : (xs : List (At Entry)) → AllByRecursion (λ x. IsKeptEntry x.it) xs → AllByRecursion IsKeptEntry (map (λ x. x.it) xs)
entries_kept [] all = tt
entries_kept (x ∷ xs) all = (all.0, entries_kept xs all.1)

-- Where the names can be spelt and the mapping keeps the limits, the canonical text of its entries reads back.
pub reads_back : (p q : Lifted) (m : Mapping) (es : List LEntry) → CanBeSpelt p → CanBeSpelt q → IsKept m → canonical_entries p q (map (λ x. x.it) m.entries) ≡ Ok es
    → (n : Mapping) × IsMappingOf (canonical_text p q es) n × (canonical_entries p q (map (λ x. x.it) n.entries) ≡ Ok es)
reads_back p q m es can_p can_q kept w =
    let xs = map (λ x. x.it) m.entries in
    let known = onward_known (lifted_entries p q xs) (λ zs. Ok (canonical zs)) es w in
    let ds = known.0 in
    let k = link_of p q (canonical ds) in
    let links : link_by_names p q xs ≡ k = link_lifted p q xs ds known.1 ∙ sym (link_ordered p q ds (lifted_apart p q xs ds known.1)) in
    let lift : AllLift k xs ds = subst (λ z. AllLift z xs ds) links (all_lift (link_by_names p q xs) 1 [] xs ds known.1) in
    let each = all_sorted (ReadsEntry k) (λ a b. is_before (key_of a) (key_of b)) (map with_fills_in_order ds)
    (each_reads k can_p can_q xs ds (entries_kept m.entries (recursion_from_All (λ x. IsKeptEntry x.it) m.entries kept)) lift) in
    let found = mapping_found k (canonical ds) each in
    subst (λ zs. (n : Mapping) × IsMappingOf (canonical_text p q zs) n × (canonical_entries p q (map (λ x. x.it) n.entries) ≡ Ok zs)) (same_ok (canonical ds) es known.2)
    (found.mapping, found.is, canonical_again p q xs (map (λ x. x.it) found.mapping.entries) ds known.1 found.lift)

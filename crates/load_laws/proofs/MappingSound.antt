-- The mapping between the two programs is read, and its entries are sound.
use Rattle.std.proofs.Common.{◌≡◌, ℕ, ◌≤◌, false, List, [], ◌∷◌, Ok, refl, sym, ap, ◌∙◌, subst, map}
use Rattle.std.specs.List.{flat_map, list_any}
use Rattle.c_tree.specs.declared.mapping.Entry.{Entry}
use Rattle.c_tree.specs.declared.mapping.LEntry.{LEntry}
use Rattle.c_tree.specs.declared.mapping.Mapping.{Mapping}
use Rattle.c_tree.specs.Refusal.{onward}
use Rattle.c_tree.specs.Link.{link_of}
use Rattle.c_tree.specs.Sound.{numbers_clash}
use Rattle.c_tree.specs.Entries.{all_entries, lifted_entries}
use Rattle.c_tree.specs.Canonical.{canonical, canonical_entries, canonical_text}
use Rattle.c_grammar.specs.Mapping.{IsMappingOf}
use Rattle.c_reader.specs.Spelling.{CanBeSpelt}
use Rattle.patch_laws.proofs.Clash.{AllLift}
use Rattle.patch_laws.proofs.LiftedLink.{claims, built}
use Rattle.read_back.proofs.Again.{entries_again, link_again}
use Rattle.read_back.proofs.Whole.{reads_back}
use Rattle.load_texts.specs.Texts.{mapping}
use Rattle.load_laws.proofs.Programs.{old_program, new_program}
use Rattle.load_laws.proofs.MappingEntries.{named_entries, load_entries}
use Rattle.load_laws.proofs.MappingLifts.{load_link, all_lift}
use Rattle.load_laws.proofs.MappingOrder.{apart, nothing_claimed, canonical_is}
use Rattle.load_laws.proofs.MappingText.{line, text_is}
use Rattle.load_laws.proofs.MappingKept.{placed, named_mapping, mapping_kept}

-- the entries declare no match
link_is : (n : ℕ) → 1 ≤ n → link_of (old_program n) (new_program n) (load_entries n) ≡ load_link n
link_is n some =
    let p = old_program n in
    let q = new_program n in
    let es = load_entries n in
    ap (λ a. built p q a (claims 1 es) (claims 2 es) (claims 3 es)) (nothing_claimed 0 n some)
    ∙ (ap (λ b. built p q [] b (claims 2 es) (claims 3 es)) (nothing_claimed 1 n some)
    ∙ (ap (λ c. built p q [] [] c (claims 3 es)) (nothing_claimed 2 n some)
    ∙ ap (λ d. built p q [] [] [] d) (nothing_claimed 3 n some)))

none_before : (es : List LEntry) → list_any (λ z. list_any (numbers_clash z) []) es ≡ false
none_before [] = refl
none_before (y ∷ es) = none_before es

entries_are : (n : ℕ) → 1 ≤ n → n ≤ 1000 → canonical_entries (old_program n) (new_program n) (named_entries n) ≡ Ok (load_entries n)
entries_are n some small =
    let p = old_program n in
    let q = new_program n in
    let xs = named_entries n in
    let es = load_entries n in
    let link = link_of p q es in
    let lift : AllLift link xs es = subst (λ k. AllLift k xs es) (sym (link_is n some)) (all_lift n some small) in
    let whole : lifted_entries p q xs ≡ Ok es =
    ap (λ k. all_entries k 1 [] xs) (link_again p q xs es lift (apart n some)) ∙ entries_again link 1 [] xs [] es tt lift (none_before es) (apart n some) in
    ap (λ o. onward o (λ zs. Ok (canonical zs))) whole ∙ ap (λ zs. Ok zs) (canonical_is n some)

its : (xs : List Entry) → map (λ x. x.it) (placed xs) ≡ xs
its [] = refl
its (x ∷ xs) = ap (λ ys. x ∷ ys) (its xs)

-- The mapping that the text is, and what its entries come to.
pub mapping_accepted : (n : ℕ) → CanBeSpelt (old_program n) → CanBeSpelt (new_program n) → 1 ≤ n → n ≤ 1000
    → (m : Mapping) × IsMappingOf (mapping n) m × (canonical_entries (old_program n) (new_program n) (map (λ x. x.it) m.entries) ≡ Ok (load_entries n))
mapping_accepted n can_old can_new some small =
    let p = old_program n in
    let q = new_program n in
    let es = load_entries n in
    let known : canonical_entries p q (map (λ x. x.it) (named_mapping n).entries) ≡ Ok es = ap (canonical_entries p q) (its (named_entries n)) ∙ entries_are n some small in
    let text : canonical_text p q es ≡ mapping n = ap (λ k. flat_map (line k) es) (link_is n some) ∙ text_is n some small in
    let found = reads_back p q (named_mapping n) es can_old can_new (mapping_kept n some small) known in
    (found.0, subst (λ t. IsMappingOf t found.0) text found.1, found.2)

-- An entry has as many parts by numbers as by names.
use Rattle.std.proofs.Common.{◌≡◌, ◌∙◌, ℕ, suc, Bool, true, false, List, [], ◌∷◌, length, map, Ok, refl, sym, ap, subst}
use Rattle.std.specs.Prelude.{◌==◌, ◌&&◌, All, Result}
use Rattle.std.specs.List.{list_all, AllZip, AllByRecursion}
use Rattle.std.proofs.lemmas.Bool.{and_from, and_parts, eqb-true, eq-eqb}
use Rattle.std.proofs.lemmas.List.{length-map}
use Rattle.std.proofs.lemmas.List.Elements.{All-from_recursion, recursion_from_All}
use Rattle.c_tree.specs.declared.lifted.Lifted.{Lifted}
use Rattle.c_tree.specs.declared.mapping.Entry.{Entry}
use Rattle.c_tree.specs.declared.mapping.Entry.TheVariants as n
use Rattle.c_tree.specs.declared.mapping.LEntry.{LEntry}
use Rattle.c_tree.specs.declared.mapping.LEntry.TheVariants as l
use Rattle.c_tree.specs.declared.mapping.Mapping.{Mapping}
use Rattle.c_tree.specs.declared.program.At.{At}
use Rattle.c_tree.specs.Canonical.{canonical, canonical_entries, is_before, key_of, part_in_order, with_fills_in_order}
use Rattle.c_tree.specs.Chain.{lifted_entry}
use Rattle.c_tree.specs.Entries.{link_by_names, lifted_entries}
use Rattle.c_tree.specs.Link.{Link}
use Rattle.map_lang.specs.Formats as names
use Rattle.patch_laws.proofs.Clash.{AllLift}
use Rattle.patch_laws.proofs.Known.{all_lift}
use Rattle.patch_laws.proofs.LiftedForms.{entry_form, onward_known, same_ok}
use Rattle.patch_laws.proofs.Sorting.{sorted_all}
use Rattle.patch_file.specs.Formats.{HasOnePart}

-- how many parts an entry has, by names and by numbers; one that is no point has one
abbrev named_parts : Entry → ℕ
named_parts (n.Point f from parts) = length parts
named_parts (n.Match i a b) = 1
named_parts (n.Field s f x) = 1
named_parts (n.Init g x) = 1
named_parts (n.Check x) = 1

abbrev numbered_parts : LEntry → ℕ
numbered_parts (l.Point f p parts) = length parts
numbered_parts (l.Match i a b) = 1
numbered_parts (l.Field s i x) = 1
numbered_parts (l.Init g x) = 1
numbered_parts (l.Check x) = 1

abbrev named_is : At Entry → Bool
named_is x = named_parts x.it == 1

abbrev numbered_is : LEntry → Bool
numbered_is y = numbered_parts y == 1

-- lists that are beside each other are as long
as_long : {A B : Type 0} (R : A → B → Type 0) (xs : List A) (ys : List B) → AllZip R xs ys → length xs ≡ length ys
as_long R [] [] beside = refl
as_long R [] (y ∷ ys) beside = absurd beside
as_long R (x ∷ xs) [] beside = absurd beside
as_long R (x ∷ xs) (y ∷ ys) beside = ap suc (as_long R xs ys beside.1)

lifted_parts : (k : Link) (x : Entry) (y : LEntry) → lifted_entry k x ≡ Ok y → named_parts x ≡ numbered_parts y
lifted_parts k (n.Match i a b) y e = ap numbered_parts (entry_form k (n.Match i a b) y e).is
lifted_parts k (n.Field s f x) y e = ap numbered_parts (entry_form k (n.Field s f x) y e).is
lifted_parts k (n.Init g x) y e = ap numbered_parts (entry_form k (n.Init g x) y e).is
lifted_parts k (n.Check x) y e = ap numbered_parts (entry_form k (n.Check x) y e).is
lifted_parts k (n.Point f from parts) y e =
    let form = entry_form k (n.Point f from parts) y e in
    as_long _ parts form.values form.parts_found ∙ ap numbered_parts form.is

all_lifted : (k : Link) (xs : List (At Entry)) (ys : List LEntry) → AllLift k (map (λ x. x.it) xs) ys → list_all named_is xs ≡ list_all numbered_is ys
all_lifted k [] [] lift = refl
all_lifted k [] (y ∷ ys) lift = absurd lift
all_lifted k (x ∷ xs) [] lift = absurd lift
all_lifted k (x ∷ xs) (y ∷ ys) lift =
    ap (λ c. (c == 1) && list_all named_is xs) (lifted_parts k x.it y lift.0) ∙ ap (λ b. numbered_is y && b) (all_lifted k xs ys lift.1)

-- the canonical order keeps the parts
ordered_parts : (y : LEntry) → numbered_is (with_fills_in_order y) ≡ numbered_is y
ordered_parts (l.Match i a b) = refl
ordered_parts (l.Field s i x) = refl
ordered_parts (l.Init g x) = refl
ordered_parts (l.Point f p parts) = ap (λ c. c == 1) (length-map parts part_in_order)
ordered_parts (l.Check x) = refl

all_ordered : (ys : List LEntry) → list_all numbered_is (map with_fills_in_order ys) ≡ list_all numbered_is ys
all_ordered [] = refl
all_ordered (y ∷ ys) = ap (λ b. b && list_all numbered_is (map with_fills_in_order ys)) (ordered_parts y) ∙ ap (λ b. numbered_is y && b) (all_ordered ys)

canonical_parts : (ys : List LEntry) → list_all numbered_is (canonical ys) ≡ list_all numbered_is ys
canonical_parts ys = sorted_all (λ a b. is_before (key_of a) (key_of b)) numbered_is (map with_fills_in_order ys) ∙ all_ordered ys

parts_kept : (p q : Lifted) (m : Mapping) (es : List LEntry) → canonical_entries p q (map (λ x. x.it) m.entries) ≡ Ok es → list_all named_is m.entries ≡ list_all numbered_is es
parts_kept p q m es are =
    let known = onward_known (lifted_entries p q (map (λ x. x.it) m.entries)) (λ xs. Ok (canonical xs)) es are in
    let lift = all_lift (link_by_names p q (map (λ x. x.it) m.entries)) 1 [] (map (λ x. x.it) m.entries) known.0 known.1 in
    all_lifted (link_by_names p q (map (λ x. x.it) m.entries)) m.entries known.0 lift ∙ sym (canonical_parts known.0)
    ∙ ap (list_all numbered_is) (same_ok (canonical known.0) es known.2)

-- one part as a test

one_named : (x : Entry) → names.HasOnePart x → named_parts x ≡ 1
one_named (n.Match i a b) one = refl
one_named (n.Field s f x) one = refl
one_named (n.Init g x) one = refl
one_named (n.Point f from parts) one = one
one_named (n.Check x) one = refl

named_one : (x : Entry) → named_parts x ≡ 1 → names.HasOnePart x
named_one (n.Match i a b) e = tt
named_one (n.Field s f x) e = tt
named_one (n.Init g x) e = tt
named_one (n.Point f from parts) e = e
named_one (n.Check x) e = tt

one_numbered : (y : LEntry) → HasOnePart y → numbered_parts y ≡ 1
one_numbered (l.Match i a b) one = refl
one_numbered (l.Field s i x) one = refl
one_numbered (l.Init g x) one = refl
one_numbered (l.Point f p parts) one = one
one_numbered (l.Check x) one = refl

numbered_one : (y : LEntry) → numbered_parts y ≡ 1 → HasOnePart y
numbered_one (l.Match i a b) e = tt
numbered_one (l.Field s i x) e = tt
numbered_one (l.Init g x) e = tt
numbered_one (l.Point f p parts) e = e
numbered_one (l.Check x) e = tt

-- of all elements, where a fact and a test say the same of each
tests : {A : Type 0} (P : A → Type 0) (t : A → Bool) → ((x : A) → P x → t x ≡ true) → (xs : List A) → AllByRecursion P xs → list_all t xs ≡ true
tests P t say [] all = refl
tests P t say (x ∷ xs) all = and_from (t x) (list_all t xs) (say x all.0) (tests P t say xs all.1)

facts : {A : Type 0} (P : A → Type 0) (t : A → Bool) → ((x : A) → t x ≡ true → P x) → (xs : List A) → list_all t xs ≡ true → AllByRecursion P xs
facts P t say [] all = tt
facts P t say (x ∷ xs) all = let both = and_parts (t x) (list_all t xs) all in (say x both.0, facts P t say xs both.1)

-- the canonical entries of a mapping have one part each where its entries have, and only there

pub single_entries : (p q : Lifted) (m : Mapping) (es : List LEntry) → canonical_entries p q (map (λ x. x.it) m.entries) ≡ Ok es → names.HasSingleParts m → All HasOnePart es
single_entries p q m es are single =
    let named = tests (λ x. names.HasOnePart x.it) named_is (λ x one. eq-eqb (named_parts x.it) 1 (one_named x.it one)) m.entries
    (recursion_from_All (λ x. names.HasOnePart x.it) m.entries single) in
    All-from_recursion HasOnePart es
    (facts HasOnePart numbered_is (λ y e. numbered_one y (eqb-true (numbered_parts y) 1 e)) es (sym (parts_kept p q m es are) ∙ named))

pub single_mapping : (p q : Lifted) (m : Mapping) (es : List LEntry) → canonical_entries p q (map (λ x. x.it) m.entries) ≡ Ok es → All HasOnePart es → names.HasSingleParts m
single_mapping p q m es are single =
    let numbered = tests HasOnePart numbered_is (λ y one. eq-eqb (numbered_parts y) 1 (one_numbered y one)) es (recursion_from_All HasOnePart es single) in
    All-from_recursion (λ x. names.HasOnePart x.it) m.entries
    (facts (λ x. names.HasOnePart x.it) named_is (λ x e. named_one x.it (eqb-true (named_parts x.it) 1 e)) m.entries (parts_kept p q m es are ∙ numbered))

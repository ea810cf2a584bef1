-- An entry of a patch, from its text to an entry of a mapping that lifts to it again.
use Rattle.std.proofs.Common.{◌≡◌, ℕ, suc, zero, ◌+◌, ◌≤◌, inl, Bool, true, false, List, [], ◌∷◌, ◌++◌, length, Option, Some, None, Ok, refl, sym, ◌∙◌, ap, subst, arith, append_assoc}
use Rattle.std.specs.Prelude.{map, codes, is_some, if◌then◌else◌, nat_lt, slice_get}
use Rattle.std.specs.List.{list_any, AllZip, AllByRecursion}
use Rattle.std.specs.Option.{ok_or, option_map}
use Rattle.std.proofs.lemmas.Option.{none-some, same_Some}
use Rattle.std.proofs.lemmas.Bool.Decides.{nat_tests}
use Rattle.std.proofs.lemmas.List.{length-map}
use Rattle.std.proofs.lemmas.List.Elements.{recursion_from_All}
use Rattle.c_tree.specs.declared.cause.EntryCause.TheVariants as c
use Rattle.c_tree.specs.declared.lifted.LExpr.{LExpr}
use Rattle.c_tree.specs.declared.lifted.Lifted.{Lifted}
use Rattle.c_tree.specs.declared.lifted.Slot.{Slot}
use Rattle.c_tree.specs.declared.token.Token.{Token}
use Rattle.c_tree.specs.declared.token.TokenKind.TheVariants as token
use Rattle.c_tree.specs.declared.program.Expr.{Expr}
use Rattle.c_tree.specs.declared.mapping.Pt.{Pt}
use Rattle.c_tree.specs.declared.mapping.Fill.{Fill}
use Rattle.c_tree.specs.declared.mapping.LFill.{LFill}
use Rattle.c_tree.specs.declared.mapping.LPart.{LPart}
use Rattle.c_tree.specs.declared.mapping.Part.{Part as MapPart}
use Rattle.c_tree.specs.declared.mapping.Mapping.{Mapping}
use Rattle.c_tree.specs.declared.mapping.Entry.{Entry}
use Rattle.c_tree.specs.declared.mapping.Entry.TheVariants as n
use Rattle.c_tree.specs.declared.mapping.LEntry.{LEntry}
use Rattle.c_tree.specs.declared.mapping.LEntry.TheVariants as l
use Rattle.c_tree.specs.Step.{function_of}
use Rattle.c_tree.specs.MapForm.{IsAddedPart, AreReadParts}
use Rattle.c_tree.specs.Refusal.{onward}
use Rattle.c_tree.specs.Names.{find_name, names_in, name_at, slot_names, field_name, struct_of}
use Rattle.c_tree.specs.Points.{point_of}
use Rattle.c_tree.specs.Link.{Link, origin}
use Rattle.c_tree.specs.MapExpr.{Reads, only_globals, numbered}
use Rattle.c_tree.specs.Suits.{reads_slots, reads_fields, suits_slot, suits_global, suits_check}
use Rattle.c_tree.specs.Entries.{all_there, function_in}
use Rattle.c_tree.specs.Chain.{new_number, suited, lifted_fill_at, lifted_fill, is_twice_filled, lifted_entry}
use Rattle.c_tree.specs.Shown.{shown}
use Rattle.c_tree.specs.Canonical.{placed_by, sorted_by, part_in_order, with_fills_in_order, point_text, match_word, side_text, parts_text, entry_text}
use Rattle.c_tree.specs.Sound.{part_site}
use Rattle.c_grammar.specs.declared.kind.Kind.TheVariants as kind
use Rattle.c_grammar.specs.declared.rule.Rule.TheVariants as rule
use Rattle.c_grammar.specs.declared.action.Action.TheVariants as action
use Rattle.c_grammar.specs.declared.symbol.Symbol.{Symbol}
use Rattle.c_grammar.specs.declared.symbol.Symbol.TheVariants.{Act, Expand}
use Rattle.c_grammar.specs.declared.value.Value.{Value}
use Rattle.c_grammar.specs.declared.value.Value.TheVariants as value
use Rattle.c_grammar.specs.Tokens.{map_word_kind, word_kind, map_kind_of}
use Rattle.c_grammar.specs.Effects.{value_effect, with_entry, side_of}
use Rattle.c_grammar.specs.Words.{words, map_words}
use Rattle.c_grammar.specs.Reading.{Among, first, later}
use Rattle.c_reader.specs.Choices.{choices}
use Rattle.c_reader.specs.Spelling.{IsSpelt, IsSlotSpelt, CanBeSpelt}
use Rattle.read_back.specs.Kept.{IsKeptExpr, IsKeptPoint, IsKeptPart, IsKeptSide, IsKeptEntry}
use Rattle.patch_laws.proofs.Numbers.{number_at}
use Rattle.patch_laws.proofs.LiftedForms.{there_known, same_ok, both_known, MatchForm, FieldForm, InitForm, CheckForm, PartForm, PointForm, entry_form}
use Rattle.patch_laws.proofs.LiftedSound.{suited_known}
use Rattle.read_back.proofs.Printed.{token_at}
use Rattle.read_back.proofs.Scan.{Stops, IsWord}
use Rattle.read_back.proofs.Places.{point_found}
use Rattle.read_back.proofs.Spelt.{named_of, spelling_of, CanSpell, can_spell, function_slots, struct_fields_spelt, names_spelt, name_of_number, function_named, slot_of_number}
use Rattle.read_back.proofs.Fits.{fits}
use Rattle.read_back.proofs.Joined.{four, five}
use Rattle.read_back.proofs.Parts.{Part, after_part, part_as, part_does, part_of, acted, PushesWord, PushesExpr, spaced_arrow, spaced_equal, a_dot, a_blank, keyword, bare_word, a_new_name, an_expr}
use Rattle.read_back.proofs.Fills.{a_point, word_part, FillFits}
use Rattle.read_back.proofs.PartTexts.{PartFits, AddedFits, all_parts}
use Rattle.read_back.proofs.PointAgain.{sites_kept, filled_kept, point_again}

-- One more entry, which lifts to this one, stands behind those before it.
abbrev pub Adds : Link → LEntry → List Value → List Value → Type 0
Adds k y vs ws = (m : Mapping) (others : List Value) → vs ≡ value.Mapping m ∷ others → (at : ℕ) × (e : Entry) × (lifted_entry k e ≡ Ok y) × (ws ≡ value.Mapping (with_entry m at e) ∷ others)

-- The text of an entry is read as an entry that lifts to it.
abbrev pub ReadsEntry : Link → LEntry → Type 0
ReadsEntry k y = (rest : List ℕ) (at : ℕ) → Stops rest → Part (Expand rule.Entry ∷ []) (Adds k y) (entry_text k y) rest at

-- An entry that is no point.
other_entry : {f : List Symbol} {R : List Value → List Value → Type 0} {bytes rest : List ℕ} {at : ℕ} → Part f R bytes rest at → Among f (choices rule.OtherEntry)
    → Part (Expand rule.Entry ∷ []) R bytes rest at
other_entry x among = part_of rule.Entry (part_of rule.OtherEntry x among) first

-- A name that can be spelt, and isn't the word `none`.
new_part : (word rest : List ℕ) (at : ℕ) → IsSpelt word → (map_word_kind word ≡ kind.NoneWord → ⊥) → Stops rest → Part (Expand rule.NewName ∷ []) (PushesWord word) word rest at
new_part word rest at h named stops =
    let y = named_of word h in
    subst (λ w. Part (Expand rule.NewName ∷ []) (PushesWord w) w rest at) (sym y.is)
    (a_new_name y.head y.tail rest at y.name (λ e. named (ap map_word_kind y.is ∙ e)) stops)

-- Matches.
abbrev PushesSide : ℕ → List Value → List Value → Type 0
PushesSide i vs ws = (t : Token) × (side_of (map_kind_of t.kind) ≡ i) × (ws ≡ value.Word t ∷ vs)

function_word : IsWord 102 (codes "unction")
function_word = record { letter = refl; run = refl; short = refl }

struct_word : IsWord 115 (codes "truct")
struct_word = record { letter = refl; run = refl; short = refl }

global_word : IsWord 103 (codes "lobal")
global_word = record { letter = refl; run = refl; short = refl }

mutex_word : IsWord 109 (codes "utex")
mutex_word = record { letter = refl; run = refl; short = refl }

side_part : (i : ℕ) (rest : List ℕ) (at : ℕ) → nat_lt i 4 ≡ true → Part (Expand rule.Side ∷ []) (PushesSide i) (match_word i ++ 32 ∷ []) rest at
unfolding map_word_kind word_kind map_words words
side_part zero rest at h =
    part_of rule.Side (part_does (keyword kind.FunctionWord 102 (codes "unction") rest at function_word refl (λ f. cc) refl) (λ vs ws w. (token_at (token.Word (codes "function")) w.0 w.1, refl, w.2))) first
side_part (suc zero) rest at h =
    part_of rule.Side (part_does (keyword kind.Struct 115 (codes "truct") rest at struct_word refl (λ f. cc) refl) (λ vs ws w. (token_at (token.Word (codes "struct")) w.0 w.1, refl, w.2))) (later first)
side_part (suc (suc zero)) rest at h =
    part_of rule.Side (part_does (keyword kind.GlobalWord 103 (codes "lobal") rest at global_word refl (λ f. cc) refl) (λ vs ws w. (token_at (token.Word (codes "global")) w.0 w.1, refl, w.2))) (later (later first))
side_part (suc (suc (suc zero))) rest at h =
    part_of rule.Side (part_does (keyword kind.MutexWord 109 (codes "utex") rest at mutex_word refl (λ f. cc) refl) (λ vs ws w. (token_at (token.Word (codes "mutex")) w.0 w.1, refl, w.2))) (later (later (later first)))
side_part (suc (suc (suc (suc i)))) rest at h = absurd (grind (arith, nat_tests, h))

-- the new side, or `none`
abbrev new_text : Option (List ℕ) → List ℕ
new_text None = codes "none"
new_text (Some name) = name

abbrev EndsMatch : ℕ → List ℕ → Option (List ℕ) → List Value → List Value → Type 0
EndsMatch i a b vs ws = (m : Mapping) (others : List Value) (s : Token) (x y : ℕ) → side_of (map_kind_of s.kind) ≡ i
    → vs ≡ value.Word (token_at (token.Word a) x y) ∷ value.Word s ∷ value.Mapping m ∷ others → ws ≡ value.Mapping (with_entry m s.at (n.Match i a b)) ∷ others

none_word : IsWord 110 (codes "one")
none_word = record { letter = refl; run = refl; short = refl }

abbrev IsNewSide : Option (List ℕ) → Type 0
IsNewSide None = Unit {0}
IsNewSide (Some name) = IsSpelt name × (map_word_kind name ≡ kind.NoneWord → ⊥)

target_part : (i : ℕ) (a : List ℕ) (b : Option (List ℕ)) (rest : List ℕ) (at : ℕ) → IsNewSide b → Stops rest → Part (Expand rule.Target ∷ []) (EndsMatch i a b) (new_text b) rest at
unfolding map_word_kind word_kind map_words words
target_part i a None rest at h stops =
    part_of rule.Target (part_does (acted action.UnmatchedEntry (bare_word kind.NoneWord 110 (codes "one") rest at none_word refl (λ f. cc) refl stops))
    (λ vs ws w m others s x y side e.
    w.2 ∙ (ap (λ us. value_effect action.UnmatchedEntry us) (w.1 ∙ e) ∙ ap (λ j. value.Mapping (with_entry m s.at (n.Match j a None)) ∷ others) side))) (later first)
target_part i a (Some name) rest at h stops =
    part_of rule.Target (part_does (acted action.MatchEntry (new_part name rest at h.0 h.1 stops))
    (λ vs ws w m others s x y side e.
    w.2 ∙ (ap (λ us. value_effect action.MatchEntry us) (w.1.2 ∙ ap (λ us. value.Word (token_at (token.Word name) w.1.0 w.1.1) ∷ us) e)
    ∙ ap (λ j. value.Mapping (with_entry m s.at (n.Match j a (Some name))) ∷ others) side))) first

new_side_text : (kind : ℕ) (p : Lifted) (b : Option (List ℕ)) (o : Option ℕ) → new_number kind p b ≡ Ok o → side_text p kind o ≡ new_text b
new_side_text kind p None o e = ap (λ z. side_text p kind z) (sym (same_ok None o e))
new_side_text kind p (Some name) o e =
    let q = there_known _ _ _ o e in
    ap (λ z. side_text p kind z) (sym (same_ok (Some q.0) o q.2)) ∙ name_of_number (names_in p kind) name q.0 q.1

new_side_spelt : (kind : ℕ) (p : Lifted) → CanBeSpelt p → (b : Option (List ℕ)) (o : Option ℕ) → new_number kind p b ≡ Ok o → IsKeptSide b → IsNewSide b
new_side_spelt kind p can None o e h = tt
new_side_spelt kind p can (Some name) o e h = let q = there_known _ _ _ o e in (names_spelt p can kind q.0 name (number_at (names_in p kind) name q.0 q.1), h)

match_part : (k : Link) → CanBeSpelt k.old → CanBeSpelt k.new → (i : ℕ) (a : List ℕ) (b : Option (List ℕ)) (y : LEntry) → nat_lt i 4 ≡ true → IsKeptSide b
    → lifted_entry k (n.Match i a b) ≡ Ok y → MatchForm k.old k.new i a b y → ReadsEntry k y
match_part k can_old can_new i a b y small side lifts q =
    subst (λ z. ReadsEntry k z) q.is (λ rest at stops.
    let name : name_at k.old i q.from ≡ a = name_of_number (names_in k.old i) a q.from q.from_found in
    let target : side_text k.new i q.to ≡ new_text b = new_side_text i k.new b q.to q.to_found in
    let begin = match_word i ++ 32 ∷ [] in
    let text = begin ++ (a ++ (codes " -> " ++ new_text b)) in
    let same : entry_text k (l.Match i q.from q.to) ≡ text =
    ap (λ w. match_word i ++ 32 ∷ w ++ codes " -> " ++ side_text k.new i q.to) name
    ∙ (ap (λ w. match_word i ++ 32 ∷ a ++ codes " -> " ++ w) target
    ∙ (four (match_word i) (32 ∷ a) (codes " -> ") (new_text b) ∙ sym (append_assoc (match_word i) (32 ∷ []) (a ++ (codes " -> " ++ new_text b))))) in
    let x = at + length begin in
    let z = x + length a in
    let part =
    after_part begin (a ++ (codes " -> " ++ new_text b)) rest at (side_part i ((a ++ (codes " -> " ++ new_text b)) ++ rest) at small)
    (after_part a (codes " -> " ++ new_text b) rest x
    (word_part a ((codes " -> " ++ new_text b) ++ rest) x (names_spelt k.old can_old i q.from a (number_at (names_in k.old i) a q.from q.from_found)) refl)
    (after_part (codes " -> ") (new_text b) rest z (spaced_arrow (new_text b ++ rest) z)
    (target_part i a b rest (z + 4) (new_side_spelt i k.new can_new b q.to q.to_found side) stops))) in
    other_entry (part_as (entry_text k (l.Match i q.from q.to)) text rest at same
    (part_does part (λ vs ws h m others e.
    let s = h.1 in
    let word = h.2.1 in
    let before = h.2.2.1 ∙ (word.2 ∙ ap (λ us. value.Word (token_at (token.Word a) word.0 word.1) ∷ us) (s.2 ∙ ap (λ us. value.Word s.0 ∷ us) e)) in
    (s.0.at, n.Match i a b, lifts ∙ ap (λ w. Ok w) (sym q.is), h.2.2.2 m others s.0 word.0 word.1 s.1 before)))) first)

-- Expressions.
suited_is : (test : LExpr → Bool) (o : Option LExpr) (y : LExpr) → suited test o ≡ Some y → o ≡ Some y
suited_is test None y w = absurd (none-some y w)
suited_is test (Some x) y w = pick (test x) w
  where
    pick : (t : Bool) → (if t then Some x else None) ≡ Some y → Some x ≡ Some y
    pick false w = absurd (none-some y w)
    pick true w = w

-- an expression that suits, once more
suited_again : (test : LExpr → Bool) (o p : Option LExpr) (y : LExpr) → suited test o ≡ Some y → p ≡ Some y → suited test p ≡ Some y
suited_again test o p y w e = ap (λ z. suited test z) e ∙ ap (λ t. if t then Some y else None) (suited_known test o y w)

expr_part : (r : Reads) → CanSpell r → (x : Expr) (y : LExpr) (rest : List ℕ) (at : ℕ) → IsKeptExpr x → numbered r x.kind ≡ Some y → Stops rest
    → Part (Act action.Outer ∷ Expand rule.MapExpr ∷ []) (PushesExpr r y) (shown r y) rest at
expr_part r can x y rest at kept e stops = an_expr r y kept.operators rest at (fits r can kept.fits y e (inl (omega arith))) kept.few stops

-- What fills a field.
field_word : IsWord 102 (codes "ield")
field_word = record { letter = refl; run = refl; short = refl }

field_again : (k : Link) (owner name : List ℕ) (x : Expr) (y : LEntry) (q : FieldForm k owner name x y) (tree : Expr) → numbered (reads_fields k q.struct) tree.kind ≡ Some q.value
    → lifted_entry k (n.Field owner name tree) ≡ Ok (l.Field q.struct q.field q.value)
field_again k owner name x y q tree e =
    ap (λ o. onward (ok_or o c.UnknownStruct) (λ s.
    onward (ok_or (find_name name (slot_names (struct_of k.new s).fields)) c.BadExpr) (λ i.
    onward (ok_or (suited (suits_slot k (reads_fields k s) (struct_of k.new s).fields i) (numbered (reads_fields k s) tree.kind)) c.BadExpr) (λ z. Ok (l.Field s i z))))) q.struct_found
    ∙ (ap (λ o. onward (ok_or o c.BadExpr) (λ i.
    onward (ok_or (suited (suits_slot k (reads_fields k q.struct) (struct_of k.new q.struct).fields i) (numbered (reads_fields k q.struct) tree.kind)) c.BadExpr) (λ z. Ok (l.Field q.struct i z)))) q.field_found
    ∙ ap (λ o. onward (ok_or o c.BadExpr) (λ z. Ok (l.Field q.struct q.field z)))
    (suited_again (suits_slot k (reads_fields k q.struct) (struct_of k.new q.struct).fields q.field) (numbered (reads_fields k q.struct) x.kind) (numbered (reads_fields k q.struct) tree.kind) q.value q.filled e))

field_part : (k : Link) → CanBeSpelt k.old → CanBeSpelt k.new → (owner name : List ℕ) (x : Expr) (y : LEntry) → IsKeptExpr x → FieldForm k owner name x y → ReadsEntry k y
unfolding map_word_kind word_kind map_words words
field_part k can_old can_new owner name x y kept q =
    subst (λ z. ReadsEntry k z) q.is (λ rest at stops.
    let r = reads_fields k q.struct in
    let owners : name_at k.new 1 q.struct ≡ owner = name_of_number (names_in k.new 1) owner q.struct q.struct_found in
    let fields : field_name k.new q.struct q.field ≡ name = slot_of_number (struct_of k.new q.struct).fields name q.field q.field_found in
    let expr = shown r q.value in
    let d = codes " = " ++ expr in
    let b = name ++ d in
    let a = owner ++ ((46 ∷ []) ++ b) in
    let same : entry_text k (l.Field q.struct q.field q.value) ≡ codes "field " ++ a =
    ap (λ w. codes "field " ++ w ++ 46 ∷ field_name k.new q.struct q.field ++ codes " = " ++ expr) owners
    ∙ (ap (λ w. codes "field " ++ owner ++ 46 ∷ w ++ codes " = " ++ expr) fields ∙ five (codes "field ") owner (46 ∷ name) (codes " = ") expr) in
    let i = at + 6 in
    let j = i + length owner in
    let u = j + 1 + length name in
    let part =
    acted action.FieldEntry
    (after_part (codes "field ") a rest at (keyword kind.FieldWord 102 (codes "ield") (a ++ rest) at field_word refl (λ f. cc) refl)
    (after_part owner ((46 ∷ []) ++ b) rest i (word_part owner (((46 ∷ []) ++ b) ++ rest) i (names_spelt k.new can_new 1 q.struct owner (number_at (names_in k.new 1) owner q.struct q.struct_found)) refl)
    (after_part (46 ∷ []) b rest j (a_dot (b ++ rest) j)
    (after_part name d rest (j + 1)
    (word_part name (d ++ rest) (j + 1) (struct_fields_spelt k.new can_new q.struct q.field name (number_at (slot_names (struct_of k.new q.struct).fields) name q.field q.field_found)) refl)
    (after_part (codes " = ") expr rest u (spaced_equal (expr ++ rest) u)
    (expr_part r (can_spell k.old can_old None (origin k.structs q.struct)) x q.value rest (u + 3) kept (suited_is (suits_slot k r (struct_of k.new q.struct).fields q.field) (numbered r x.kind) q.value q.filled) stops)))))) in
    other_entry (part_as (entry_text k (l.Field q.struct q.field q.value)) (codes "field " ++ a) rest at same
    (part_does part (λ vs ws h m others e.
    let begin = h.1.1 in
    let first_word = h.1.2.1 in
    let second_word = h.1.2.2.2.1 in
    let tree = h.1.2.2.2.2.2 in (
      begin.0,
      n.Field owner name tree.0.expr,
      field_again k owner name x y q tree.0.expr tree.1,
      h.2 ∙ ap (λ us. value_effect action.FieldEntry us)
          (tree.2 ∙ ap (λ us. value.Operand tree.0 ∷ us) (h.1.2.2.2.2.1
          ∙ (second_word.2 ∙ ap (λ us. value.Word (token_at (token.Word name) second_word.0 second_word.1) ∷ us) (h.1.2.2.1
          ∙ (first_word.2 ∙ ap (λ us. value.Word (token_at (token.Word owner) first_word.0 first_word.1) ∷ us) (begin.2
          ∙ ap (λ us. value.Word (token_at (token.Word (codes "field")) begin.0 begin.1) ∷ us) e)))))),
    )))) (later first))

-- What fills a global.
init_word : IsWord 105 (codes "nit")
init_word = record { letter = refl; run = refl; short = refl }

init_again : (k : Link) (name : List ℕ) (x : Expr) (y : LEntry) (q : InitForm k name x y) (tree : Expr) → numbered (only_globals k.old) tree.kind ≡ Some q.value
    → lifted_entry k (n.Init name tree) ≡ Ok (l.Init q.global q.value)
init_again k name x y q tree e =
    ap (λ o. onward (ok_or o c.UnknownGlobal) (λ g. onward (ok_or (suited (suits_global k g) (numbered (only_globals k.old) tree.kind)) c.BadExpr) (λ z. Ok (l.Init g z)))) q.global_found
    ∙ ap (λ o. onward (ok_or o c.BadExpr) (λ z. Ok (l.Init q.global z))) (suited_again (suits_global k q.global) (numbered (only_globals k.old) x.kind) (numbered (only_globals k.old) tree.kind) q.value q.filled e)

init_part : (k : Link) → CanBeSpelt k.old → CanBeSpelt k.new → (name : List ℕ) (x : Expr) (y : LEntry) → IsKeptExpr x → InitForm k name x y → ReadsEntry k y
unfolding map_word_kind word_kind map_words words
init_part k can_old can_new name x y kept q =
    subst (λ z. ReadsEntry k z) q.is (λ rest at stops.
    let r = only_globals k.old in
    let named : name_at k.new 2 q.global ≡ name = name_of_number (names_in k.new 2) name q.global q.global_found in
    let expr = shown r q.value in
    let d = codes " = " ++ expr in
    let a = name ++ d in
    let same : entry_text k (l.Init q.global q.value) ≡ codes "init " ++ a = ap (λ w. codes "init " ++ w ++ codes " = " ++ expr) named ∙ four (codes "init ") name (codes " = ") expr in
    let i = at + 5 in
    let u = i + length name in
    let part =
    acted action.InitEntry
    (after_part (codes "init ") a rest at (keyword kind.InitWord 105 (codes "nit") (a ++ rest) at init_word refl (λ f. cc) refl)
    (after_part name d rest i (word_part name (d ++ rest) i (names_spelt k.new can_new 2 q.global name (number_at (names_in k.new 2) name q.global q.global_found)) refl)
    (after_part (codes " = ") expr rest u (spaced_equal (expr ++ rest) u)
    (expr_part r (can_spell k.old can_old None None) x q.value rest (u + 3) kept (suited_is (suits_global k q.global) (numbered r x.kind) q.value q.filled) stops)))) in
    other_entry (part_as (entry_text k (l.Init q.global q.value)) (codes "init " ++ a) rest at same
    (part_does part (λ vs ws h m others e.
    let begin = h.1.1 in
    let word = h.1.2.1 in
    let tree = h.1.2.2.2 in (
      begin.0,
      n.Init name tree.0.expr,
      init_again k name x y q tree.0.expr tree.1,
      h.2 ∙ ap (λ us. value_effect action.InitEntry us)
          (tree.2 ∙ ap (λ us. value.Operand tree.0 ∷ us) (h.1.2.2.1
          ∙ (word.2 ∙ ap (λ us. value.Word (token_at (token.Word name) word.0 word.1) ∷ us) (begin.2
          ∙ ap (λ us. value.Word (token_at (token.Word (codes "init")) begin.0 begin.1) ∷ us) e)))),
    )))) (later (later first)))

-- A check.
check_word : IsWord 99 (codes "heck")
check_word = record { letter = refl; run = refl; short = refl }

check_part : (k : Link) → CanBeSpelt k.old → (x : Expr) (y : LEntry) → IsKeptExpr x → CheckForm k x y → ReadsEntry k y
unfolding map_word_kind word_kind map_words words
check_part k can_old x y kept q =
    subst (λ z. ReadsEntry k z) q.is (λ rest at stops.
    let r = only_globals k.old in
    let expr = shown r q.value in
    let part =
    acted action.CheckEntry
    (after_part (codes "check ") expr rest at (keyword kind.CheckWord 99 (codes "heck") (expr ++ rest) at check_word refl (λ f. cc) refl)
    (expr_part r (can_spell k.old can_old None None) x q.value rest (at + 6) kept (suited_is (suits_check k) (numbered r x.kind) q.value q.filled) stops)) in
    other_entry (part_does part (λ vs ws h m others e.
    let begin = h.1.1 in
    let tree = h.1.2 in (
      begin.0,
      n.Check tree.0.expr,
      ap (λ o. onward (ok_or o c.BadExpr) (λ z. Ok (l.Check z))) (suited_again (suits_check k) (numbered r x.kind) (numbered r tree.0.expr.kind) q.value q.filled tree.1),
      h.2 ∙ ap (λ us. value_effect action.CheckEntry us)
          (tree.2 ∙ ap (λ us. value.Operand tree.0 ∷ us) (begin.2 ∙ ap (λ us. value.Word (token_at (token.Word (codes "check")) begin.0 begin.1) ∷ us) e)),
    ))) (later (later (later first))))

-- What fills the slots of a place.
fill_fits : (k : Link) (r : Reads) → CanSpell r → (slots : List Slot) → ((i : ℕ) (name : List ℕ) → slice_get (slot_names slots) i ≡ Some name → IsSlotSpelt name) → (f : Fill) (v : LFill)
    → IsKeptExpr f.expr → lifted_fill k r slots f ≡ Some v → FillFits k r slots v
fill_fits k r can slots spelt f v kept e = at_slot (find_name f.slot (slot_names slots)) refl e
  where
    at_expr : (i : ℕ) → find_name f.slot (slot_names slots) ≡ Some i → (o : Option LExpr) → suited (suits_slot k r slots i) (numbered r f.expr.kind) ≡ o
        → option_map (λ z. record { slot = i; expr = z }) o ≡ Some v → FillFits k r slots v
    at_expr i found None s e = absurd (none-some v e)
    at_expr i found (Some z) s e = subst (FillFits k r slots) (same_Some (record { slot = i; expr = z }) v e) (record {
      name = f.slot;
      spelt = spelling_of f.slot (spelt i f.slot (number_at (slot_names slots) f.slot i found));
      found = found;
      operators = kept.operators;
      fit = fits r can kept.fits z (suited_is (suits_slot k r slots i) (numbered r f.expr.kind) z s) (inl (omega arith));
      few = kept.few;
      suits = suited_known (suits_slot k r slots i) (numbered r f.expr.kind) z s;
    })

    at_slot : (o : Option ℕ) → find_name f.slot (slot_names slots) ≡ o → lifted_fill_at k r slots f.expr o ≡ Some v → FillFits k r slots v
    at_slot None found e = absurd (none-some v e)
    at_slot (Some i) found e = at_expr i found (suited (suits_slot k r slots i) (numbered r f.expr.kind)) refl e

fills_fit : (k : Link) (r : Reads) → CanSpell r → (slots : List Slot) → ((i : ℕ) (name : List ℕ) → slice_get (slot_names slots) i ≡ Some name → IsSlotSpelt name) → (fs : List Fill) (values : List LFill)
    → AllByRecursion (λ f. IsKeptExpr f.expr) fs → all_there (map (lifted_fill k r slots) fs) ≡ Some values → AllByRecursion (FillFits k r slots) values
fills_fit k r can slots spelt [] values kept e = subst (λ z. AllByRecursion (FillFits k r slots) z) (same_Some [] values e) tt
fills_fit k r can slots spelt (f ∷ fs) values kept e =
    let q = both_known (lifted_fill k r slots f) (all_there (map (lifted_fill k r slots) fs)) values e in
    subst (λ z. AllByRecursion (FillFits k r slots) z) q.4 (fill_fits k r can slots spelt f q.0 kept.0 q.2, fills_fit k r can slots spelt fs q.1 kept.1 q.3)

-- what holds of each holds of each in order
all_placed : {A : Type 0} (P : A → Type 0) (before : A → A → Bool) (x : A) (ys : List A) → P x → AllByRecursion P ys → AllByRecursion P (placed_by before x ys)
all_placed P before x [] p all = (p, tt)
all_placed P before x (y ∷ ys) p all = go (before y x) (all_placed P before x ys p all.1)
  where
    go : (t : Bool) → AllByRecursion P (placed_by before x ys) → AllByRecursion P (if t then y ∷ placed_by before x ys else x ∷ y ∷ ys)
    go true more = (all.0, more)
    go false more = (p, all)

pub all_sorted : {A : Type 0} (P : A → Type 0) (before : A → A → Bool) (xs : List A) → AllByRecursion P xs → AllByRecursion P (sorted_by before xs)
all_sorted P before [] all = tt
all_sorted P before (x ∷ xs) all = all_placed P before x (sorted_by before xs) all.0 (all_sorted P before xs all.1)

-- A place.
point_word : IsWord 112 (codes "oint")
point_word = record { letter = refl; run = refl; short = refl }

-- What a part lifts to fits, if its limits are kept.
part_fits : (k : Link) → CanBeSpelt k.old → CanBeSpelt k.new → (f g : ℕ) (p : MapPart) (x : LPart) → IsKeptPart p → PartForm k f g p x → PartFits k f (part_in_order x)
part_fits k can_old can_new f g p x kept form =
    let r = reads_slots k f in
    let slots = (function_of k.new x.function).slots in
    record {
      point = p.point;
      kept = kept.0;
      found = form.0.1;
      fills = all_sorted (FillFits k r slots) (λ a b. nat_lt a.slot b.slot) x.fills
          (fills_fit k r (can_spell k.old can_old (Some f) None) slots (function_slots k.new can_new x.function) p.fills x.fills (recursion_from_All (λ z. IsKeptExpr z.expr) p.fills kept.1) form.1);
    }

added_fits : (k : Link) → CanBeSpelt k.old → CanBeSpelt k.new → (f g : ℕ) (p : MapPart) (x : LPart) → IsAddedPart p → IsKeptPart p → PartForm k f g p x → AddedFits k f (part_in_order x)
added_fits k can_old can_new f g p x added kept form = go p.function refl
  where
    go : (o : Option (List ℕ)) → p.function ≡ o → AddedFits k f (part_in_order x)
    go None e = let no : false ≡ true = ap is_some (sym e) ∙ added.0 in cc
    go (Some name) e = record { name = name; named = ap (λ o. function_in k g o) (sym e) ∙ form.0.0; part = part_fits k can_old can_new f g p x kept form }

all_fit : (k : Link) → CanBeSpelt k.old → CanBeSpelt k.new → (f g : ℕ) (ps : List MapPart) (xs : List LPart) → AllByRecursion IsAddedPart ps → AllByRecursion IsKeptPart ps
    → AllZip (PartForm k f g) ps xs → AllByRecursion (AddedFits k f) (map part_in_order xs)
all_fit k can_old can_new f g [] [] added kept forms = tt
all_fit k can_old can_new f g [] (x ∷ xs) added kept forms = absurd forms
all_fit k can_old can_new f g (p ∷ ps) [] added kept forms = absurd forms
all_fit k can_old can_new f g (p ∷ ps) (x ∷ xs) added kept forms =
    (added_fits k can_old can_new f g p x added.0 kept.0 forms.0, all_fit k can_old can_new f g ps xs added.1 kept.1 forms.1)

-- as many parts by numbers as there are parts
as_many : {A B : Type 0} (P : A → B → Type 0) (xs : List A) (ys : List B) → AllZip P xs ys → length ys ≡ length xs
as_many P [] [] h = refl
as_many P [] (y ∷ ys) h = absurd h
as_many P (x ∷ xs) [] h = absurd h
as_many P (x ∷ xs) (y ∷ ys) h = ap (λ n. suc n) (as_many P xs ys h.1)

point_part : (k : Link) → CanBeSpelt k.old → CanBeSpelt k.new → (name : List ℕ) (from : Pt) (p : MapPart) (added : List MapPart) (y : LEntry) → IsKeptPoint from
    → AreReadParts (p ∷ added) → AllByRecursion IsKeptPart (p ∷ added) → (q : PointForm k name from (p ∷ added) y) → (x : LPart) (more : List LPart) → q.values ≡ x ∷ more
    → AllZip (PartForm k q.function q.match) (p ∷ added) (x ∷ more) → ReadsEntry k (with_fills_in_order y)
unfolding map_word_kind word_kind map_words words
point_part k can_old can_new name from p added y kept_from form kept q x more are forms =
    subst (λ z. ReadsEntry k (with_fills_in_order z)) (ap (λ zs. l.Point q.function q.old_place zs) (sym are) ∙ q.is) (λ rest at stops.
    let old = function_of k.old q.function in
    let x' = part_in_order x in
    let more' = map part_in_order more in
    let few : length more' ≤ 3 = let n : length more ≡ length added = as_many (PartForm k q.function q.match) added more forms.1 in rw length-map (omega (arith, n, form.2)) in
    let matched : ◌≡◌ {A = Option ℕ} (Some q.match) (Some x.function) = ap (λ o. function_in k q.match o) (sym form.0) ∙ forms.0.0.0 in
    let others = all_fit k can_old can_new q.function q.match added more (recursion_from_All IsAddedPart added form.3) kept.1 forms.1 in
    let d = parts_text k q.function (x' ∷ more') in
    let c' = codes " -> " ++ d in
    let b = point_text from ++ c' in
    let a = name ++ ((32 ∷ []) ++ b) in
    let entry = l.Point q.function q.old_place (x' ∷ more') in
    let same : entry_text k entry ≡ codes "point " ++ a =
    ap (λ w. codes "point " ++ w ++ 32 ∷ point_text (point_of old q.old_place) ++ codes " -> " ++ d) (function_named k.old name q.function q.function_found)
    ∙ (ap (λ z. codes "point " ++ name ++ 32 ∷ point_text z ++ codes " -> " ++ d) (point_found old from q.old_place q.old_found)
    ∙ five (codes "point ") name (32 ∷ point_text from) (codes " -> ") d) in
    let i = at + 6 in
    let j = i + length name in
    let u = j + 1 + length (point_text from) in
    let part =
    acted action.PointEntry
    (after_part (codes "point ") a rest at (keyword kind.PointWord 112 (codes "oint") (a ++ rest) at point_word refl (λ f. cc) refl)
    (after_part name ((32 ∷ []) ++ b) rest i (word_part name (((32 ∷ []) ++ b) ++ rest) i (names_spelt k.old can_old 0 q.function name (number_at (names_in k.old 0) name q.function q.function_found)) refl)
    (after_part (32 ∷ []) b rest j (a_blank (b ++ rest) j)
    (after_part (point_text from) c' rest (j + 1) (a_point from.kind from.number (c' ++ rest) (j + 1) kept_from refl)
    (after_part (codes " -> ") d rest u (spaced_arrow (d ++ rest) u)
    (all_parts k can_new q.function q.match x' more' rest (u + 4) stops few matched (part_fits k can_old can_new q.function q.match p x kept.0 forms.0) others)))))) in
    part_of rule.Entry (part_as (entry_text k entry) (codes "point " ++ a) rest at same
    (part_does part (λ vs ws h m others e.
    let begin = h.1.1 in
    let word = h.1.2.1 in
    let ps = h.1.2.2.2.2.2 in (
      begin.0,
      n.Point name from ps.0,
      point_again k name from (p ∷ added) y q ps.0 (x' ∷ more') ps.1
          (ap (map part_site) (sym (ap (map part_in_order) are)) ∙ sites_kept q.values) (ap (list_any is_twice_filled) (sym (ap (map part_in_order) are)) ∙ (filled_kept q.values ∙ q.once)),
      h.2 ∙ ap (λ us. value_effect action.PointEntry us)
          (ps.2 ∙ ap (λ us. value.Parts ps.0 ∷ us) (h.1.2.2.2.2.1 ∙ (h.1.2.2.2.1 ∙ ap (λ us. value.Pt from ∷ us) (h.1.2.2.1
          ∙ (word.2 ∙ ap (λ us. value.Word (token_at (token.Word name) word.0 word.1) ∷ us) (begin.2
          ∙ ap (λ us. value.Word (token_at (token.Word (codes "point")) begin.0 begin.1) ∷ us) e)))))),
    )))) (later first))

-- A point that was lifted has parts, and as many by numbers.
point_reads : (k : Link) → CanBeSpelt k.old → CanBeSpelt k.new → (name : List ℕ) (from : Pt) (parts : List MapPart) (y : LEntry) → IsKeptPoint from → AreReadParts parts
    → AllByRecursion IsKeptPart parts → PointForm k name from parts y → ReadsEntry k (with_fills_in_order y)
point_reads k can_old can_new name from [] y kept_from form kept q = absurd form
point_reads k can_old can_new name from (p ∷ added) y kept_from form kept q = go q.values refl q.parts_found
  where
    go : (xs : List LPart) → q.values ≡ xs → AllZip (PartForm k q.function q.match) (p ∷ added) xs → ReadsEntry k (with_fills_in_order y)
    go [] e forms = absurd forms
    go (x ∷ more) e forms = point_part k can_old can_new name from p added y kept_from form kept q x more e forms

no_fills : (y z : LEntry) → z ≡ y → with_fills_in_order z ≡ z → y ≡ with_fills_in_order y
no_fills y z e s = sym (ap with_fills_in_order (sym e) ∙ (s ∙ e))

-- The text of an entry that was lifted is read as an entry that lifts to the same.
pub entry_reads : (k : Link) → CanBeSpelt k.old → CanBeSpelt k.new → (x : Entry) (y : LEntry) → IsKeptEntry x → lifted_entry k x ≡ Ok y → ReadsEntry k (with_fills_in_order y)
entry_reads k can_old can_new (n.Match i a b) y kept lifts =
    let q = entry_form k (n.Match i a b) y lifts in
    subst (λ z. ReadsEntry k z) (no_fills y (l.Match i q.from q.to) q.is refl) (match_part k can_old can_new i a b y kept.0 kept.1 lifts q)
entry_reads k can_old can_new (n.Field owner name x) y kept lifts =
    let q = entry_form k (n.Field owner name x) y lifts in
    subst (λ z. ReadsEntry k z) (no_fills y (l.Field q.struct q.field q.value) q.is refl) (field_part k can_old can_new owner name x y kept q)
entry_reads k can_old can_new (n.Init name x) y kept lifts =
    let q = entry_form k (n.Init name x) y lifts in
    subst (λ z. ReadsEntry k z) (no_fills y (l.Init q.global q.value) q.is refl) (init_part k can_old can_new name x y kept q)
entry_reads k can_old can_new (n.Point f from parts) y kept lifts =
    point_reads k can_old can_new f from parts y kept.0 kept.1 (recursion_from_All IsKeptPart parts kept.2) (entry_form k (n.Point f from parts) y lifts)
entry_reads k can_old can_new (n.Check x) y kept lifts =
    let q = entry_form k (n.Check x) y lifts in
    subst (λ z. ReadsEntry k z) (no_fills y (l.Check q.value) q.is refl) (check_part k can_old x y kept q)

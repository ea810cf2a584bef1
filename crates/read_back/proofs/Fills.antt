-- The points of an entry, and what fills its slots, from their text.
use Rattle.std.proofs.Common.{◌≡◌, ℕ, suc, ◌+◌, ◌≤◌, pos, true, List, [], ◌∷◌, ◌++◌, length, Option, Some, None, refl, sym, ◌∙◌, ap, subst, append_assoc, append-nil}
use Rattle.std.specs.Prelude.{codes, map, if◌then◌else◌}
use Rattle.std.specs.Fmt.{decimal}
use Rattle.std.specs.List.{flat_map, AllZip, AllByRecursion}
use Rattle.std.specs.Option.{option_map}
use Rattle.c_tree.specs.declared.lifted.LExpr.{LExpr}
use Rattle.c_tree.specs.declared.lifted.Slot.{Slot}
use Rattle.c_tree.specs.declared.place.PlaceKind.{PlaceKind}
use Rattle.c_tree.specs.declared.place.PlaceKind.TheVariants as place
use Rattle.c_tree.specs.declared.token.TokenKind.TheVariants as token
use Rattle.c_tree.specs.declared.mapping.Pt.{Pt}
use Rattle.c_tree.specs.declared.mapping.Fill.{Fill}
use Rattle.c_tree.specs.declared.mapping.LFill.{LFill}
use Rattle.c_tree.specs.Names.{find_name, slot_names}
use Rattle.c_tree.specs.Link.{Link}
use Rattle.c_tree.specs.Entries.{both, all_there}
use Rattle.c_tree.specs.MapExpr.{Reads, numbered}
use Rattle.c_tree.specs.Suits.{suits_slot}
use Rattle.c_tree.specs.Chain.{suited, lifted_fill_at, lifted_fill}
use Rattle.c_tree.specs.Shown.{shown}
use Rattle.c_tree.specs.Canonical.{point_text, fill_text, fills_text}
use Rattle.c_grammar.specs.declared.kind.Kind.TheVariants as kind
use Rattle.c_grammar.specs.declared.rule.Rule.TheVariants as rule
use Rattle.c_grammar.specs.declared.action.Action.TheVariants as action
use Rattle.c_grammar.specs.declared.symbol.Mark.TheVariants.{Skip}
use Rattle.c_grammar.specs.declared.symbol.Symbol.{Symbol}
use Rattle.c_grammar.specs.declared.symbol.Symbol.TheVariants.{Take, Act, Expand}
use Rattle.c_grammar.specs.declared.value.Value.{Value}
use Rattle.c_grammar.specs.declared.value.Value.TheVariants as value
use Rattle.c_grammar.specs.declared.value.Operand.{Operand}
use Rattle.c_grammar.specs.Tokens.{map_word_kind, word_kind}
use Rattle.c_grammar.specs.Effects.{value_effect}
use Rattle.c_grammar.specs.Words.{words, map_words}
use Rattle.c_grammar.specs.Reading.{first, later}
use Rattle.c_reader.specs.Spelling.{IsSpelt}
use Rattle.c_reader.proofs.Keeps.{expands}
use Rattle.read_back.specs.Kept.{IsKeptNumber}
use Rattle.read_back.proofs.Printed.{token_at}
use Rattle.read_back.proofs.Scan.{Stops, IsWord}
use Rattle.read_back.proofs.Shown.{Spelling, plain_name, hidden_name, temporary_name, Fit}
use Rattle.read_back.proofs.Spelt.{named_of, slot_of_number}
use Rattle.read_back.proofs.Joined.{four}
use Rattle.read_back.proofs.Parts.{Part, after_part, part_as, part_does, part_of, acted, no_text, nothing_taken, PushesWord, spaced_equal, a_dot, spaced_semicolon, left_brace, right_brace, keyword, bare_word, a_name, a_number, an_expr}

-- A point.
abbrev pub PushesPt : Pt → List Value → List Value → Type 0
PushesPt pt vs ws = ws ≡ value.Pt pt ∷ vs

entry_word : IsWord 101 (codes "ntry")
entry_word = record { letter = refl; run = refl; short = refl }

loop_word : IsWord 108 (codes "oop")
loop_word = record { letter = refl; run = refl; short = refl }

call_word : IsWord 99 (codes "all")
call_word = record { letter = refl; run = refl; short = refl }

block_word : IsWord 98 (codes "lock")
block_word = record { letter = refl; run = refl; short = refl }

pub a_point : (k : PlaceKind) (n : ℕ) (rest : List ℕ) (at : ℕ) → IsKeptNumber k n → Stops rest
    → Part (Expand rule.Pt ∷ []) (PushesPt (record { kind = k; number = n })) (point_text (record { kind = k; number = n })) rest at
unfolding map_word_kind word_kind map_words words
a_point place.Entry n rest at one stops =
    part_of rule.Pt (part_does (acted action.EntryPt (bare_word kind.EntryWord 101 (codes "ntry") rest at entry_word refl (λ f. cc) refl stops))
    (λ vs ws h. h.2 ∙ (ap (λ us. value_effect action.EntryPt us) h.1 ∙ ap (λ i. value.Pt (record { kind = place.Entry; number = i }) ∷ vs) (sym one)))) first
a_point place.LoopEnd n rest at le stops =
    part_of rule.Pt (part_does (after_part (codes "loop ") (decimal n) rest at
    (part_of rule.PtWord (keyword kind.LoopWord 108 (codes "oop") (decimal n ++ rest) at loop_word refl (λ f. cc) refl) first)
    (acted action.NumberPt (a_number n rest (at + 5) le stops)))
    (λ vs ws h. h.2.2 ∙ ap (λ us. value_effect action.NumberPt us) (h.2.1.2 ∙ ap (λ us. value.Word (token_at (token.Number (pos n)) h.2.1.0 h.2.1.1) ∷ us) h.1.2))) (later first)
a_point place.Call n rest at le stops =
    part_of rule.Pt (part_does (after_part (codes "call ") (decimal n) rest at
    (part_of rule.PtWord (keyword kind.CallWord 99 (codes "all") (decimal n ++ rest) at call_word refl (λ f. cc) refl) (later first))
    (acted action.NumberPt (a_number n rest (at + 5) le stops)))
    (λ vs ws h. h.2.2 ∙ ap (λ us. value_effect action.NumberPt us) (h.2.1.2 ∙ ap (λ us. value.Word (token_at (token.Number (pos n)) h.2.1.0 h.2.1.1) ∷ us) h.1.2))) (later first)
a_point place.Block n rest at le stops =
    part_of rule.Pt (part_does (after_part (codes "block ") (decimal n) rest at
    (part_of rule.PtWord (keyword kind.BlockWord 98 (codes "lock") (decimal n ++ rest) at block_word refl (λ f. cc) refl) (later (later first)))
    (acted action.NumberPt (a_number n rest (at + 6) le stops)))
    (λ vs ws h. h.2.2 ∙ ap (λ us. value_effect action.NumberPt us) (h.2.1.2 ∙ ap (λ us. value.Word (token_at (token.Number (pos n)) h.2.1.0 h.2.1.1) ∷ us) h.1.2))) (later first)
a_point place.Plain n rest at none stops = absurd none

-- The name of a slot.
pub a_slot : {word : List ℕ} (rest : List ℕ) (at : ℕ) → Spelling word → Stops rest → Part (Expand rule.FillName ∷ []) (PushesWord word) word rest at
a_slot rest at (plain_name {b = b} {bytes = bytes} is) stops =
    let x = a_name b bytes rest at is stops in
    part_of rule.FillName (record {
      tokens = x.tokens;
      does = x.does;
      found = x.found;
      moves = λ values symbols state ps calm go. x.moves values (Expand rule.FillNumber ∷ symbols) state ps calm (λ after calm_after e. expands (later first) (go after calm_after e));
      so = x.so;
    }) first
a_slot rest at (hidden_name n {b = b} {bytes = bytes} is le) stops =
    let from = at + suc (length bytes) in
    part_of rule.FillName (part_does (after_part (b ∷ bytes) (46 ∷ decimal n) rest at (a_name b bytes (46 ∷ (decimal n ++ rest)) at is refl)
    (part_of rule.FillNumber (acted action.HiddenName (after_part (46 ∷ []) (decimal n) rest from (a_dot (decimal n ++ rest) from) (a_number n rest (from + 1) le stops))) first))
    (λ vs ws h.
    let word = h.1 in
    let number = h.2.1.2 in (
      word.0,
      word.1,
      h.2.2 ∙ ap (λ us. value_effect action.HiddenName us) (number.2 ∙ ap (λ us. value.Word (token_at (token.Number (pos n)) number.0 number.1) ∷ us) (h.2.1.1 ∙ word.2)),
    ))) first
a_slot rest at (temporary_name n le) stops =
    part_of rule.FillName (part_does (acted action.TempName (after_part (46 ∷ []) (decimal n) rest at (a_dot (decimal n ++ rest) at) (a_number n rest (at + 1) le stops)))
    (λ vs ws h.
    let number = h.1.2 in (
      number.0,
      number.1,
      h.2 ∙ ap (λ us. value_effect action.TempName us) (number.2 ∙ ap (λ us. value.Word (token_at (token.Number (pos n)) number.0 number.1) ∷ us) h.1.1),
    ))) (later first)

-- A name that can be spelt.
pub word_part : (word rest : List ℕ) (at : ℕ) → IsSpelt word → Stops rest → Part (Expand rule.AnyName ∷ []) (PushesWord word) word rest at
word_part word rest at h stops =
    let y = named_of word h in
    subst (λ w. Part (Expand rule.AnyName ∷ []) (PushesWord w) w rest at) (sym y.is) (a_name y.head y.tail rest at y.name stops)

-- What fills a slot: its slot has a name that can be spelt, and its expression keeps the limits and suits the slot.
pub record FillFits (k : Link) (r : Reads) (slots : List Slot) (v : LFill) : Type 0 where
  pub name : List ℕ
  pub spelt : Spelling name
  pub found : find_name name (slot_names slots) ≡ Some v.slot
  pub operators : ℕ
  pub fit : Fit r 0 100 v.expr operators
  pub few : operators ≤ 1000
  pub suits : suits_slot k r slots v.slot v.expr ≡ true

abbrev pub LiftsFill : Link → Reads → List Slot → Fill → LFill → Type 0
LiftsFill k r slots f v = lifted_fill k r slots f ≡ Some v

fill_again : (k : Link) (r : Reads) (slots : List Slot) (v : LFill) (y : FillFits k r slots v) (tree : Operand) → numbered r tree.expr.kind ≡ Some v.expr
    → LiftsFill k r slots (record { slot = y.name; expr = tree.expr }) v
fill_again k r slots v y tree numbers =
    ap (λ o. lifted_fill_at k r slots tree.expr o) y.found
    ∙ (ap (λ o. given (suited (suits_slot k r slots v.slot) o)) numbers ∙ ap (λ t. given (if t then Some v.expr else None)) y.suits)
  where
    given : Option LExpr → Option LFill
    given o = option_map (λ z. record { slot = v.slot; expr = z }) o

-- One more fill stands behind those before it.
abbrev pub AddsFill : Link → Reads → List Slot → LFill → List Value → List Value → Type 0
AddsFill k r slots v vs ws = (seen : List Fill) (others : List Value) → vs ≡ value.Fills seen ∷ others → (f : Fill) × LiftsFill k r slots f v × (ws ≡ value.Fills (seen ++ f ∷ []) ∷ others)

abbrev fill_symbols : List Symbol
fill_symbols = Expand rule.FillName ∷ Take kind.Equal Skip ∷ Act action.Outer ∷ Expand rule.MapExpr ∷ Take kind.Semicolon Skip ∷ Act action.MoreFill ∷ []

pub a_fill : (k : Link) (r : Reads) (slots : List Slot) (v : LFill) (rest : List ℕ) (at : ℕ) → FillFits k r slots v → Part fill_symbols (AddsFill k r slots v) (fill_text r slots v) rest at
a_fill k r slots v rest at y =
    let expr = shown r v.expr in
    let text = y.name ++ (codes " = " ++ (expr ++ codes "; ")) in
    let same : fill_text r slots v ≡ text = ap (λ w. w ++ codes " = " ++ expr ++ codes "; ") (slot_of_number slots y.name v.slot y.found) ∙ four y.name (codes " = ") expr (codes "; ") in
    let a = at + length y.name in
    let part =
    acted action.MoreFill
    (after_part y.name (codes " = " ++ (expr ++ codes "; ")) rest at (a_slot ((codes " = " ++ (expr ++ codes "; ")) ++ rest) at y.spelt refl)
    (after_part (codes " = ") (expr ++ codes "; ") rest a (spaced_equal ((expr ++ codes "; ") ++ rest) a)
    (after_part expr (codes "; ") rest (a + 3) (an_expr r v.expr y.operators (codes "; " ++ rest) (a + 3) y.fit y.few refl)
    (spaced_semicolon rest (a + 3 + length expr))))) in
    part_as (fill_text r slots v) text rest at same
    (part_does part (λ vs ws h seen others e.
    let word = h.1.1 in
    let expr = h.1.2.2.1 in (
      record { slot = y.name; expr = expr.0.expr },
      fill_again k r slots v y expr.0 expr.1,
      h.2 ∙ ap (λ us. value_effect action.MoreFill us)
          (h.1.2.2.2 ∙ (expr.2 ∙ ap (λ us. value.Operand expr.0 ∷ us) (h.1.2.1 ∙ (word.2 ∙ ap (λ us. value.Word (token_at (token.Word y.name) word.0 word.1) ∷ us) e)))),
    )))

-- All that fills slots, behind those before it.
abbrev pub LiftFills : Link → Reads → List Slot → List Fill → List LFill → Type 0
LiftFills k r slots fs vs = AllZip (LiftsFill k r slots) fs vs

pub fills_again : (k : Link) (r : Reads) (slots : List Slot) (fs : List Fill) (values : List LFill) → LiftFills k r slots fs values → all_there (map (lifted_fill k r slots) fs) ≡ Some values
fills_again k r slots [] [] w = refl
fills_again k r slots [] (v ∷ values) w = absurd w
fills_again k r slots (f ∷ fs) [] w = absurd w
fills_again k r slots (f ∷ fs) (v ∷ values) w =
    ap (λ o. both o (all_there (map (lifted_fill k r slots) fs))) w.0 ∙ ap (λ o. both (Some v) o) (fills_again k r slots fs values w.1)

abbrev pub AddsFills : Link → Reads → List Slot → List LFill → List Value → List Value → Type 0
AddsFills k r slots fills vs ws = (seen : List Fill) (others : List Value) → vs ≡ value.Fills seen ∷ others → (fs : List Fill) × LiftFills k r slots fs fills × (ws ≡ value.Fills (seen ++ fs) ∷ others)

pub all_fills : (k : Link) (r : Reads) (slots : List Slot) (fills : List LFill) (rest : List ℕ) (at : ℕ) → AllByRecursion (FillFits k r slots) fills
    → Part (Expand rule.FillList ∷ []) (AddsFills k r slots fills) (flat_map (fill_text r slots) fills) rest at
all_fills k r slots [] rest at all =
    part_of rule.FillList (part_does nothing_taken (λ vs ws h seen others e. ([], tt, h ∙ (e ∙ ap (λ fs. value.Fills fs ∷ others) (sym (append-nil seen)))))) (later first)
all_fills k r slots (v ∷ fills) rest at all =
    part_of rule.FillList (part_does
    (after_part (fill_text r slots v) (flat_map (fill_text r slots) fills) rest at
    (a_fill k r slots v (flat_map (fill_text r slots) fills ++ rest) at all.0)
    (all_fills k r slots fills rest (at + length (fill_text r slots v)) all.1))
    (λ vs ws h seen others e.
    let one = h.1 seen others e in
    let more = h.2 (seen ++ one.0 ∷ []) others one.2 in
    (one.0 ∷ more.0, (one.1, more.1), more.2 ∙ ap (λ fs. value.Fills fs ∷ others) (append_assoc seen (one.0 ∷ []) more.0)))) first

-- What fills the slots, in braces where something does.
abbrev pub PushesFills : Link → Reads → List Slot → List LFill → List Value → List Value → Type 0
PushesFills k r slots fills vs ws = (fs : List Fill) × LiftFills k r slots fs fills × (ws ≡ value.Fills fs ∷ vs)

pub braced_fills : (k : Link) (r : Reads) (slots : List Slot) (fills : List LFill) (rest : List ℕ) (at : ℕ) → AllByRecursion (FillFits k r slots) fills
    → Part (Expand rule.Fills ∷ []) (PushesFills k r slots fills) (fills_text r slots fills) rest at
braced_fills k r slots [] rest at all = part_of rule.Fills (part_does (no_text action.NoFills) (λ vs ws h. ([], tt, h))) (later first)
braced_fills k r slots (v ∷ fills) rest at all =
    let inner = flat_map (fill_text r slots) (v ∷ fills) in
    let part =
    after_part (codes " { ") (inner ++ codes "}") rest at (acted action.NoFills (left_brace ((inner ++ codes "}") ++ rest) at))
    (after_part inner (codes "}") rest (at + 3) (all_fills k r slots (v ∷ fills) (codes "}" ++ rest) (at + 3) all) (right_brace rest (at + 3 + length inner))) in
    part_of rule.Fills (part_as (fills_text r slots (v ∷ fills)) (codes " { " ++ (inner ++ codes "}")) rest at (append_assoc (codes " { ") inner (codes "}"))
    (part_does part (λ vs ws h.
    let begun = h.1.2 ∙ ap (λ us. value_effect action.NoFills us) h.1.1 in
    let more = h.2.1 [] vs begun in
    (more.0, more.1, h.2.2 ∙ more.2)))) first

-- No name goes on in what stands behind a point.
pub fills_stop : (r : Reads) (slots : List Slot) (fills : List LFill) (rest : List ℕ) → Stops rest → Stops (fills_text r slots fills ++ rest)
fills_stop r slots [] rest stops = stops
fills_stop r slots (v ∷ fills) rest stops = refl

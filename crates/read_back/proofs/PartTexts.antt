-- The parts of a point, from their text.
use Rattle.std.proofs.Common.{◌≡◌, ℕ, ◌+◌, ◌≤◌, List, [], ◌∷◌, ◌++◌, length, Option, Some, None, refl, ◌∙◌, ap, arith, append_assoc, append-nil}
use Rattle.std.specs.Prelude.{codes}
use Rattle.std.specs.List.{flat_map, AllZip, AllByRecursion}
use Rattle.c_tree.specs.declared.mapping.Fill.{Fill}
use Rattle.c_tree.specs.declared.mapping.LPart.{LPart}
use Rattle.c_tree.specs.declared.mapping.Part.{Part as MapPart}
use Rattle.c_tree.specs.declared.mapping.Pt.{Pt}
use Rattle.c_tree.specs.declared.token.TokenKind.TheVariants as token
use Rattle.c_tree.specs.Step.{function_of}
use Rattle.c_tree.specs.Names.{find_name, names_in}
use Rattle.c_tree.specs.Points.{place_of}
use Rattle.c_tree.specs.Link.{Link}
use Rattle.c_tree.specs.Suits.{reads_slots}
use Rattle.c_tree.specs.Canonical.{point_text, fills_text, part_text, added_text, parts_text}
use Rattle.c_grammar.specs.declared.kind.Kind.TheVariants as kind
use Rattle.c_grammar.specs.declared.rule.Rule.TheVariants as rule
use Rattle.c_grammar.specs.declared.action.Action.TheVariants as action
use Rattle.c_grammar.specs.declared.symbol.Mark.TheVariants.{Skip}
use Rattle.c_grammar.specs.declared.symbol.Symbol.TheVariants.{Take, Expand}
use Rattle.c_grammar.specs.declared.value.Value.{Value}
use Rattle.c_grammar.specs.declared.value.Value.TheVariants as value
use Rattle.c_grammar.specs.Effects.{value_effect}
use Rattle.c_grammar.specs.Reading.{first, later}
use Rattle.c_reader.specs.Spelling.{CanBeSpelt}
use Rattle.read_back.specs.Kept.{IsKeptPoint}
use Rattle.patch_laws.proofs.LiftedForms.{PartForm}
use Rattle.patch_laws.proofs.Numbers.{number_at}
use Rattle.read_back.proofs.Printed.{token_at}
use Rattle.read_back.proofs.Scan.{Stops}
use Rattle.read_back.proofs.Places.{point_found}
use Rattle.read_back.proofs.Spelt.{names_spelt, function_named}
use Rattle.read_back.proofs.Parts.{Part, after_part, part_as, part_does, part_of, acted, no_text, a_blank, spaced_plus}
use Rattle.read_back.proofs.Fills.{a_point, word_part, FillFits, LiftFills, fills_again, braced_fills, fills_stop}

-- A part whose place is a point that can be written, and so is what fills its slots.
pub record PartFits (k : Link) (f : ℕ) (x : LPart) : Type 0 where
  pub point : Pt
  pub kept : IsKeptPoint point
  pub found : place_of (function_of k.new x.function) point ≡ Some x.place
  pub fills : AllByRecursion (FillFits k (reads_slots k f) (function_of k.new x.function).slots) x.fills

-- An added one, whose function has a name.
pub record AddedFits (k : Link) (f : ℕ) (x : LPart) : Type 0 where
  pub name : List ℕ
  pub named : find_name name (names_in k.new 0) ≡ Some x.function
  pub part : PartFits k f x

-- Its place and its fills stand behind the values.
abbrev pub PushesPlaced : (k : Link) (f : ℕ) (x : LPart) → Pt → List Value → List Value → Type 0
PushesPlaced k f x pt vs ws =
    (fs : List Fill) × LiftFills k (reads_slots k f) (function_of k.new x.function).slots fs x.fills × (ws ≡ value.Fills fs ∷ value.Pt pt ∷ vs)

a_placed : (k : Link) (f : ℕ) (x : LPart) (y : PartFits k f x) (rest : List ℕ) (at : ℕ) → Stops rest
    → Part (Expand rule.Pt ∷ Expand rule.Fills ∷ []) (PushesPlaced k f x y.point) (part_text k f x) rest at
a_placed k f x y rest at stops =
    let new = function_of k.new x.function in
    let r = reads_slots k f in
    let g = fills_text r new.slots x.fills in
    part_as (part_text k f x) (point_text y.point ++ g) rest at (ap (λ p. point_text p ++ g) (point_found new y.point x.place y.found))
    (part_does
    (after_part (point_text y.point) g rest at (a_point y.point.kind y.point.number (g ++ rest) at y.kept (fills_stop r new.slots x.fills rest stops))
    (braced_fills k r new.slots x.fills rest (at + length (point_text y.point)) y.fills))
    (λ vs ws h. let fs = h.2 in (fs.0, fs.1, fs.2 ∙ ap (λ us. value.Fills fs.0 ∷ us) h.1)))

-- An added part stands in front of the values.
abbrev pub PushesAdded : Link → ℕ → ℕ → LPart → List Value → List Value → Type 0
PushesAdded k f g x vs ws = (p : MapPart) × PartForm k f g p x × (ws ≡ value.Part p ∷ vs)

an_added : (k : Link) → CanBeSpelt k.new → (f g : ℕ) (x : LPart) → AddedFits k f x → (rest : List ℕ) (at : ℕ) → Stops rest
    → Part (Take kind.Plus Skip ∷ Expand rule.AddedPart ∷ []) (PushesAdded k f g x) (added_text k f x) rest at
an_added k can f g x y rest at stops =
    let slots = (function_of k.new x.function).slots in
    let t = part_text k f x in
    let c = (32 ∷ []) ++ t in
    let b = y.name ++ c in
    let at_name = at + 3 in
    let at_blank = at_name + length y.name in
    let same : added_text k f x ≡ codes " + " ++ b =
    ap (λ w. codes " + " ++ w ++ 32 ∷ t) (function_named k.new y.name x.function y.named) ∙ append_assoc (codes " + ") y.name (32 ∷ t) in
    let inner =
    acted action.AddPart
    (after_part y.name c rest at_name (word_part y.name (c ++ rest) at_name (names_spelt k.new can 0 x.function y.name (number_at (names_in k.new 0) y.name x.function y.named)) refl)
    (after_part (32 ∷ []) t rest at_blank (a_blank (t ++ rest) at_blank) (a_placed k f x y.part rest (at_blank + 1) stops))) in
    part_as (added_text k f x) (codes " + " ++ b) rest at same
    (part_does (after_part (codes " + ") b rest at (spaced_plus (b ++ rest) at) (part_of rule.AddedPart inner first)) (λ vs ws h.
    let word = h.2.1.1 in
    let fs = h.2.1.2.2 in (
      record { function = Some y.name; point = y.part.point; fills = fs.0 },
      ((y.named, y.part.found), fills_again k (reads_slots k f) slots fs.0 x.fills fs.1),
      h.2.2 ∙ ap (λ us. value_effect action.AddPart us)
          (fs.2 ∙ ap (λ us. value.Fills fs.0 ∷ value.Pt y.part.point ∷ us) (h.2.1.2.1
          ∙ (word.2 ∙ ap (λ us. value.Word (token_at (token.Word y.name) word.0 word.1) ∷ us) h.1))),
    )))

-- the first part, as it is read
abbrev first_of : Pt → List Fill → MapPart
first_of pt fs = record { function = None; point = pt; fills = fs }

-- No name goes on in the text of added parts.
added_stop : (k : Link) (f : ℕ) (added : List LPart) (rest : List ℕ) → Stops rest → Stops (flat_map (added_text k f) added ++ rest)
added_stop k f [] rest stops = stops
added_stop k f (x ∷ added) rest stops = refl

module _ (k : Link) (can : CanBeSpelt k.new) (f g : ℕ) where
  abbrev Lift : List MapPart → List LPart → Type 0
  Lift ps xs = AllZip (PartForm k f g) ps xs

  -- Behind three parts, two or one stand these added ones, and all of them are the parts of the point.
  abbrev Fourth : List LPart → List Value → List Value → Type 0
  Fourth added vs ws =
      (q p : MapPart) (fs : List Fill) (pt : Pt) (others : List Value) → vs ≡ value.Part q ∷ value.Part p ∷ value.Fills fs ∷ value.Pt pt ∷ others
      → (ps : List MapPart) × Lift ps added × (ws ≡ value.Parts (first_of pt fs ∷ p ∷ q ∷ ps) ∷ others)

  abbrev Third : List LPart → List Value → List Value → Type 0
  Third added vs ws =
      (p : MapPart) (fs : List Fill) (pt : Pt) (others : List Value) → vs ≡ value.Part p ∷ value.Fills fs ∷ value.Pt pt ∷ others
      → (ps : List MapPart) × Lift ps added × (ws ≡ value.Parts (first_of pt fs ∷ p ∷ ps) ∷ others)

  abbrev Second : List LPart → List Value → List Value → Type 0
  Second added vs ws =
      (fs : List Fill) (pt : Pt) (others : List Value) → vs ≡ value.Fills fs ∷ value.Pt pt ∷ others
      → (ps : List MapPart) × Lift ps added × (ws ≡ value.Parts (first_of pt fs ∷ ps) ∷ others)

  fourth_part : (added : List LPart) (rest : List ℕ) (at : ℕ) → Stops rest → length added ≤ 1 → AllByRecursion (AddedFits k f) added
      → Part (Expand rule.FourthPart ∷ []) (Fourth added) (flat_map (added_text k f) added) rest at
  fourth_part [] rest at stops le all =
      part_of rule.FourthPart (part_does (no_text action.ThreeParts) (λ vs ws h q p fs pt others e. ([], tt, h ∙ ap (value_effect action.ThreeParts) e))) (later first)
  fourth_part (x ∷ []) rest at stops le all =
      part_of rule.FourthPart (part_as (added_text k f x ++ []) (added_text k f x) rest at (append-nil (added_text k f x))
      (part_does (acted action.FourParts (an_added k can f g x all.0 rest at stops)) (λ vs ws h q p fs pt others e.
      let one = h.1 in
      (one.0 ∷ [], (one.1, tt), h.2 ∙ ap (value_effect action.FourParts) (one.2 ∙ ap (λ us. value.Part one.0 ∷ us) e))))) first
  fourth_part (x ∷ z ∷ added) rest at stops le all = absurd (omega arith)

  third_part : (added : List LPart) (rest : List ℕ) (at : ℕ) → Stops rest → length added ≤ 2 → AllByRecursion (AddedFits k f) added
      → Part (Expand rule.ThirdPart ∷ []) (Third added) (flat_map (added_text k f) added) rest at
  third_part [] rest at stops le all =
      part_of rule.ThirdPart (part_does (no_text action.TwoParts) (λ vs ws h p fs pt others e. ([], tt, h ∙ ap (value_effect action.TwoParts) e))) (later first)
  third_part (x ∷ added) rest at stops le all =
      part_of rule.ThirdPart (part_does
      (after_part (added_text k f x) (flat_map (added_text k f) added) rest at
      (an_added k can f g x all.0 (flat_map (added_text k f) added ++ rest) at (added_stop k f added rest stops))
      (fourth_part added rest (at + length (added_text k f x)) stops (omega arith) all.1))
      (λ vs ws h p fs pt others e.
      let one = h.1 in
      let more = h.2 one.0 p fs pt others (one.2 ∙ ap (λ us. value.Part one.0 ∷ us) e) in
      (one.0 ∷ more.0, (one.1, more.1), more.2))) first

  second_part : (added : List LPart) (rest : List ℕ) (at : ℕ) → Stops rest → length added ≤ 3 → AllByRecursion (AddedFits k f) added
      → Part (Expand rule.SecondPart ∷ []) (Second added) (flat_map (added_text k f) added) rest at
  second_part [] rest at stops le all =
      part_of rule.SecondPart (part_does (no_text action.OnePart) (λ vs ws h fs pt others e. ([], tt, h ∙ ap (value_effect action.OnePart) e))) (later first)
  second_part (x ∷ added) rest at stops le all =
      part_of rule.SecondPart (part_does
      (after_part (added_text k f x) (flat_map (added_text k f) added) rest at
      (an_added k can f g x all.0 (flat_map (added_text k f) added ++ rest) at (added_stop k f added rest stops))
      (third_part added rest (at + length (added_text k f x)) stops (omega arith) all.1))
      (λ vs ws h fs pt others e.
      let one = h.1 in
      let more = h.2 one.0 fs pt others (one.2 ∙ ap (λ us. value.Part one.0 ∷ us) e) in
      (one.0 ∷ more.0, (one.1, more.1), more.2))) first

  -- All parts of a point: the first is of the match of the old function.
  abbrev pub PushesParts : List LPart → List Value → List Value → Type 0
  PushesParts xs vs ws = (ps : List MapPart) × Lift ps xs × (ws ≡ value.Parts ps ∷ vs)

  pub all_parts : (x : LPart) (added : List LPart) (rest : List ℕ) (at : ℕ) → Stops rest → length added ≤ 3 → ◌≡◌ {A = Option ℕ} (Some g) (Some x.function)
      → PartFits k f x → AllByRecursion (AddedFits k f) added → Part (Expand rule.Parts ∷ []) (PushesParts (x ∷ added)) (parts_text k f (x ∷ added)) rest at
  all_parts x added rest at stops le matched y all =
      let slots = (function_of k.new x.function).slots in
      let t = flat_map (added_text k f) added in
      part_of rule.Parts (part_does
      (after_part (part_text k f x) t rest at (a_placed k f x y (t ++ rest) at (added_stop k f added rest stops))
      (second_part added rest (at + length (part_text k f x)) stops le all))
      (λ vs ws h.
      let fs = h.1 in
      let more = h.2 fs.0 y.point vs fs.2 in
      (first_of y.point fs.0 ∷ more.0, (((matched, y.found), fills_again k (reads_slots k f) slots fs.0 x.fills fs.1), more.1), more.2))) first

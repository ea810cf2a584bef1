-- What the actions make of the parts of entries.
use Rattle.std.specs.Prelude.{◌≡◌, ◌≢◌, ◌&&◌, ℕ, ◌≤◌, nat_lt, not, length, Some, None, IsTrue, Bool, true, false, List, [], ◌∷◌, All}
use Rattle.std.specs.Str.{bytes_eq}
use Rattle.std.specs.List.{list_all}
use Rattle.std.proofs.Common.{refl, sym, ◌∙◌, ap, arith, cond}
use Rattle.std.proofs.lemmas.List.Elements.{All-nil, All-cons, All-head, All-tail, All-push}
use Rattle.c_tree.specs.declared.mapping.Entry.{Entry}
use Rattle.c_tree.specs.declared.mapping.Fill.{Fill}
use Rattle.c_tree.specs.declared.mapping.Mapping.{Mapping}
use Rattle.c_tree.specs.declared.mapping.Part.{Part}
use Rattle.c_tree.specs.declared.mapping.Pt.{Pt}
use Rattle.c_tree.specs.declared.place.PlaceKind.{PlaceKind}
use Rattle.c_tree.specs.declared.place.PlaceKind.TheVariants as place
use Rattle.c_tree.specs.MapForm.{IsReadPoint, IsAddedPart}
use Rattle.c_tree.specs.Points.{is_kind}
use Rattle.c_tree.specs.declared.token.Token.{Token}
use Rattle.c_tree.specs.declared.token.TokenKind.{TokenKind}
use Rattle.c_tree.specs.declared.token.TokenKind.TheVariants as token
use Rattle.c_grammar.specs.declared.action.Action.{Action}
use Rattle.c_grammar.specs.declared.action.Action.TheVariants as action
use Rattle.c_grammar.specs.declared.kind.Kind.{Kind}
use Rattle.c_grammar.specs.declared.kind.Kind.TheVariants as kind
use Rattle.c_grammar.specs.declared.symbol.Mark.TheVariants as mark
use Rattle.c_grammar.specs.declared.value.Value.{Value}
use Rattle.c_grammar.specs.declared.value.Value.TheVariants as value
use Rattle.c_grammar.specs.Effects.{State, effect, with_token, value_effect, with_entry, side_of, place_of}
use Rattle.c_grammar.specs.Tokens.{kind_in, kind_of, map_kind_of, word_kind, map_word_kind, meant_or, number_of, natural, text_of}
use Rattle.c_grammar.specs.Values.{mapping_in, fills_in}
use Rattle.c_grammar.specs.Words.{map_words, words}
use Rattle.c_grammar.specs.Words as of
use Rattle.read_back.specs.Kept.{IsKeptExpr, IsKeptNumber, IsKeptPoint, IsKeptPart, IsKeptEntry, IsKept}
use Rattle.read_back.proofs.Contracts.{Made, Doc, Filled, Begun, Parted, NewWord}
use Rattle.read_back.proofs.Literals.{HasLiteral}
use Rattle.read_back.proofs.Operands.{is_kept, natural_of}

more_entries : (m : Mapping) (at : ℕ) (x : Entry) → IsKept m → IsKeptEntry x → IsKept (with_entry m at x)
more_entries m at x h i = All-push (λ y. IsKeptEntry y.it) m.entries _ h i

pub no_entries : IsKept (record { entries = [] })
no_entries = All-nil (λ x. IsKeptEntry x.it)

-- A match has one of the four kinds, whatever its first word is.
side_is_read : (k : Kind) → IsTrue (nat_lt (side_of k) 4)
side_is_read kind.Struct = refl
side_is_read kind.GlobalWord = refl
side_is_read kind.MutexWord = refl
side_is_read k = refl

-- A point by its word and its number.
point_is : (k : Kind) (i : ℕ) → i ≤ 2147483647 → IsKeptNumber (place_of k) i
point_is kind.LoopWord i le = le
point_is kind.CallWord i le = le
point_is k i le = le

-- the mapping and its state, with one more token that is let go
pub doc_past : {behind : List Value} (t : Token) (state : State) → Doc behind state → Doc behind (with_token mark.Skip (value.Word t) state)
doc_past t state d = record { mapping = d.mapping; values = d.values; kept = d.kept; flat = omega (arith, d.flat) }

abbrev after_action : Action → List Value → Mapping
after_action a vs = mapping_in (value_effect a vs)

-- matches
pub match_done : (new old side : Token) (m : Mapping) (behind : List Value) (state : State) → state.values ≡ value.Word old ∷ value.Word side ∷ value.Mapping m ∷ behind → IsKept m → state.depth ≡ 0
    → NewWord new → Doc behind (effect action.MatchEntry (with_token mark.Keep (value.Word new) state))
match_done new old side m behind state is h flat w = record {
  mapping = after_action action.MatchEntry (value.Word new ∷ value.Word old ∷ value.Word side ∷ value.Mapping m ∷ behind);
  values = ap (λ vs. value_effect action.MatchEntry (value.Word new ∷ vs)) is;
  kept = more_entries m _ _ h (side_is_read (map_kind_of side.kind), w);
  flat = omega (arith, flat);
}

pub unmatched_done : (none old side : Token) (m : Mapping) (behind : List Value) (state : State) → state.values ≡ value.Word old ∷ value.Word side ∷ value.Mapping m ∷ behind → IsKept m → state.depth ≡ 0
    → Doc behind (effect action.UnmatchedEntry (with_token mark.Skip (value.Word none) state))
unmatched_done none old side m behind state is h flat = record {
  mapping = after_action action.UnmatchedEntry (value.Word old ∷ value.Word side ∷ value.Mapping m ∷ behind);
  values = ap (value_effect action.UnmatchedEntry) is;
  kept = more_entries m _ _ h (side_is_read (map_kind_of side.kind), tt);
  flat = omega (arith, flat);
}

-- fills of fields, first values and checks: behind their words an expression was read
pub field_done : (word a b : Token) {behind : List Value} {before : State} (depth : ℕ) (state : State) → Doc behind before
    → (x : Made 0 0 (value.Word b ∷ value.Word a ∷ value.Word word ∷ before.values) depth state) → depth ≡ 0 → Doc behind (effect action.FieldEntry state)
field_done word a b {behind = behind} depth state d x flat = record {
  mapping = after_action action.FieldEntry (value.Operand x.operand ∷ value.Word b ∷ value.Word a ∷ value.Word word ∷ value.Mapping d.mapping ∷ behind);
  values = ap (value_effect action.FieldEntry) (x.values ∙ ap (λ w. value.Operand x.operand ∷ value.Word b ∷ value.Word a ∷ value.Word word ∷ w) d.values);
  kept = more_entries d.mapping _ _ d.kept (is_kept _ depth state flat x);
  flat = omega (arith, x.level_depth, flat);
}

pub init_done : (word a : Token) {behind : List Value} {before : State} (depth : ℕ) (state : State) → Doc behind before
    → (x : Made 0 0 (value.Word a ∷ value.Word word ∷ before.values) depth state) → depth ≡ 0 → Doc behind (effect action.InitEntry state)
init_done word a {behind = behind} depth state d x flat = record {
  mapping = after_action action.InitEntry (value.Operand x.operand ∷ value.Word a ∷ value.Word word ∷ value.Mapping d.mapping ∷ behind);
  values = ap (value_effect action.InitEntry) (x.values ∙ ap (λ w. value.Operand x.operand ∷ value.Word a ∷ value.Word word ∷ w) d.values);
  kept = more_entries d.mapping _ _ d.kept (is_kept _ depth state flat x);
  flat = omega (arith, x.level_depth, flat);
}

pub check_done : (word : Token) {behind : List Value} {before : State} (depth : ℕ) (state : State) → Doc behind before
    → (x : Made 0 0 (value.Word word ∷ before.values) depth state) → depth ≡ 0 → Doc behind (effect action.CheckEntry state)
check_done word {behind = behind} depth state d x flat = record {
  mapping = after_action action.CheckEntry (value.Operand x.operand ∷ value.Word word ∷ value.Mapping d.mapping ∷ behind);
  values = ap (value_effect action.CheckEntry) (x.values ∙ ap (λ w. value.Operand x.operand ∷ value.Word word ∷ w) d.values);
  kept = more_entries d.mapping _ _ d.kept (is_kept _ depth state flat x);
  flat = omega (arith, x.level_depth, flat);
}

-- a mapped place
pub point_done : (word f : Token) (from : Pt) (m : Mapping) (behind : List Value) (state : State) → IsKept m → IsKeptPoint from
    → Parted (value.Pt from ∷ value.Word f ∷ value.Word word ∷ value.Mapping m ∷ behind) state → Doc behind (effect action.PointEntry state)
point_done word f from m behind state h i x = record {
  mapping = after_action action.PointEntry (value.Parts x.parts ∷ value.Pt from ∷ value.Word f ∷ value.Word word ∷ value.Mapping m ∷ behind);
  values = ap (value_effect action.PointEntry) x.values;
  kept = more_entries m _ _ h (i, x.form, x.kept);
  flat = omega (arith, x.flat);
}

-- the parts of a point
read_number : (k : PlaceKind) (i : ℕ) → IsKeptNumber k i → IsTrue (not (is_kind place.Plain k))
read_number place.Plain i h = absurd h
read_number k i h = refl

pub read_point : (pt : Pt) → IsKeptPoint pt → IsReadPoint pt
read_point pt h = read_number pt.kind pt.number h

pub first_begun : (pt : Pt) (behind : List Value) {before : List Value} (state : State) → IsKeptPoint pt → before ≡ value.Pt pt ∷ behind → Filled before state → Begun [] behind state
first_begun pt behind state kept at x = record {
  point = pt;
  fills = x.fills;
  values = x.values ∙ ap (λ w. value.Fills x.fills ∷ w) at;
  kept_point = kept;
  kept = x.kept;
  added_form = All-nil IsAddedPart;
  added_kept = All-nil IsKeptPart;
  flat = x.flat;
}

pub more_begun : (p : Part) (added : List Part) (behind : List Value) (before state : State) → Begun added behind before → state.values ≡ value.Part p ∷ before.values
    → IsAddedPart p → IsKeptPart p → state.depth ≡ 0 → Begun (p ∷ added) behind state
more_begun p added behind before state b at form kept flat = record {
  point = b.point;
  fills = b.fills;
  values = at ∙ ap (λ w. value.Part p ∷ w) b.values;
  kept_point = b.kept_point;
  kept = b.kept;
  added_form = All-cons IsAddedPart p added form b.added_form;
  added_kept = All-cons IsKeptPart p added kept b.added_kept;
  flat = flat;
}

-- the same with one more token that is let go
pub begun_past : {added : List Part} {behind : List Value} (t : Token) (state : State) → Begun added behind state → Begun added behind (with_token mark.Skip (value.Word t) state)
begun_past t state b = record {
  point = b.point;
  fills = b.fills;
  values = b.values;
  kept_point = b.kept_point;
  kept = b.kept;
  added_form = b.added_form;
  added_kept = b.added_kept;
  flat = omega (arith, b.flat);
}

-- a first part and those added behind it
abbrev part_of_first : {added : List Part} {behind : List Value} {state : State} → Begun added behind state → Part
part_of_first b = record { function = None; point = b.point; fills = b.fills }

parted : {added : List Part} {behind : List Value} {before : State} (b : Begun added behind before) (rest : List Part) (state : State)
    → state.values ≡ value.Parts (part_of_first b ∷ rest) ∷ behind → length rest ≤ 3 → All IsAddedPart rest → All IsKeptPart rest → state.depth ≡ 0 → Parted behind state
parted b rest state is le form kept flat = record {
  parts = part_of_first b ∷ rest;
  values = is;
  form = (refl, read_point b.point b.kept_point, le, form);
  kept = All-cons IsKeptPart (part_of_first b) rest (b.kept_point, b.kept) kept;
  flat = flat;
}

pub one_parted : (behind : List Value) (state : State) → Begun [] behind state → Parted behind (effect action.OnePart state)
one_parted behind state b = parted b [] (effect action.OnePart state) (ap (value_effect action.OnePart) b.values) (omega arith) b.added_form b.added_kept (omega (arith, b.flat))

turned : (P : Part → Type 0) (p q : Part) → All P (q ∷ p ∷ []) → All P (p ∷ q ∷ [])
turned P p q h = All-cons P p (q ∷ []) (All-head P p [] (All-tail P q (p ∷ []) h)) (All-cons P q [] (All-head P q (p ∷ []) h) (All-nil P))

turned_three : (P : Part → Type 0) (p q r : Part) → All P (r ∷ q ∷ p ∷ []) → All P (p ∷ q ∷ r ∷ [])
turned_three P p q r h =
    let two : All P (p ∷ q ∷ []) = turned P p q (All-tail P r (q ∷ p ∷ []) h) in
    All-cons P p (q ∷ r ∷ []) (All-head P p (q ∷ []) two)
    (All-cons P q (r ∷ []) (All-head P q [] (All-tail P p (q ∷ []) two)) (All-cons P r [] (All-head P r (q ∷ p ∷ []) h) (All-nil P)))

pub two_parted : (p : Part) (behind : List Value) (state : State) → Begun (p ∷ []) behind state → Parted behind (effect action.TwoParts state)
two_parted p behind state b =
    parted b (p ∷ []) (effect action.TwoParts state) (ap (value_effect action.TwoParts) b.values) (omega arith) b.added_form b.added_kept (omega (arith, b.flat))

pub three_parted : (p q : Part) (behind : List Value) (state : State) → Begun (q ∷ p ∷ []) behind state → Parted behind (effect action.ThreeParts state)
three_parted p q behind state b =
    parted b (p ∷ q ∷ []) (effect action.ThreeParts state) (ap (value_effect action.ThreeParts) b.values) (omega arith)
    (turned IsAddedPart p q b.added_form) (turned IsKeptPart p q b.added_kept) (omega (arith, b.flat))

pub four_parted : (p q r : Part) (behind : List Value) (state : State) → Begun (r ∷ q ∷ p ∷ []) behind state → Parted behind (effect action.FourParts state)
four_parted p q r behind state b =
    parted b (p ∷ q ∷ r ∷ []) (effect action.FourParts state) (ap (value_effect action.FourParts) b.values) (omega arith)
    (turned_three IsAddedPart p q r b.added_form) (turned_three IsKeptPart p q r b.added_kept) (omega (arith, b.flat))

-- an added part
abbrev pub part_added : Token → Pt → List Fill → Part
part_added name pt fills = record { function = Some (text_of name.kind); point = pt; fills = fills }

pub added_is : (name : Token) (pt : Pt) (behind : List Value) {before : List Value} (state : State) → before ≡ value.Pt pt ∷ value.Word name ∷ behind → (x : Filled before state)
    → (effect action.AddPart state).values ≡ value.Part (part_added name pt x.fills) ∷ behind
added_is name pt behind state at x = ap (value_effect action.AddPart) (x.values ∙ ap (λ w. value.Fills x.fills ∷ w) at)

pub number_point : (word n : Token) → HasLiteral n.kind → IsKeptPoint (record { kind = place_of (map_kind_of word.kind); number = natural (number_of n.kind) })
number_point word n h = point_is (map_kind_of word.kind) (natural (number_of n.kind)) (natural_of n.kind h)

-- fills
pub no_fills : (state : State) → state.depth ≡ 0 → Filled state.values (effect action.NoFills state)
no_fills state flat = record { fills = []; values = refl; kept = All-nil (λ x. IsKeptExpr x.expr); flat = omega (arith, flat) }

pub fills_past : {behind : List Value} (t : Token) (state : State) → Filled behind state → Filled behind (with_token mark.Skip (value.Word t) state)
fills_past t state d = record { fills = d.fills; values = d.values; kept = d.kept; flat = omega (arith, d.flat) }

pub fill_done : (name semi : Token) {behind : List Value} {before : State} (depth : ℕ) (last : State) → (y : Filled behind before) → (vs : List Value) → vs ≡ value.Word name ∷ before.values
    → (x : Made 0 0 vs depth last) → depth ≡ 0 → Filled behind (effect action.MoreFill (with_token mark.Skip (value.Word semi) last))
fill_done name semi {behind = behind} depth last y vs is x flat = record {
  fills = fills_in (value_effect action.MoreFill (value.Operand x.operand ∷ value.Word name ∷ value.Fills y.fills ∷ behind));
  values = ap (value_effect action.MoreFill) (x.values ∙ ap (λ w. value.Operand x.operand ∷ w) (is ∙ ap (λ w. value.Word name ∷ w) y.values));
  kept = All-push (λ z. IsKeptExpr z.expr) y.fills _ y.kept (is_kept _ depth last flat x);
  flat = omega (arith, x.level_depth, flat);
}

-- the words of a mapping
abbrev pub is_new : Kind → Bool
is_new kind.Name = true
is_new kind.FunctionWord = true
is_new kind.GlobalWord = true
is_new kind.MutexWord = true
is_new kind.FieldWord = true
is_new kind.InitWord = true
is_new kind.PointWord = true
is_new kind.CheckWord = true
is_new kind.EntryWord = true
is_new kind.LoopWord = true
is_new kind.CallWord = true
is_new kind.BlockWord = true
is_new k = false

not_none : (k : Kind) → is_new k ≡ true → k ≢ kind.NoneWord
not_none kind.NoneWord h e = cc
not_none k h e = cc

nothing_is_none : map_word_kind [] ≢ kind.NoneWord
unfolding map_word_kind map_words word_kind words
nothing_is_none e = cc

pub new_word : (q : Kind) (t : Token) → is_new q ≡ true → map_kind_of t.kind ≡ q → NewWord t
new_word q t new is = go t.kind is
  where
    go : (k : TokenKind) → map_kind_of k ≡ q → map_word_kind (text_of k) ≢ kind.NoneWord
    go (token.Word w) is e = not_none q new (sym is ∙ e)
    go (token.Str s) is e = let free : is_new kind.String ≡ true = ap is_new is ∙ new in cc
    go (token.Number z) is e = nothing_is_none e
    go (token.Char z) is e = nothing_is_none e
    go (token.Punct place) is e = nothing_is_none e

-- the kinds of operators, which are no words of mappings
abbrev pub is_meant : Kind → Bool
is_meant kind.FunctionWord = true
is_meant kind.GlobalWord = true
is_meant kind.MutexWord = true
is_meant kind.FieldWord = true
is_meant kind.InitWord = true
is_meant kind.PointWord = true
is_meant kind.CheckWord = true
is_meant kind.EntryWord = true
is_meant kind.LoopWord = true
is_meant kind.CallWord = true
is_meant kind.BlockWord = true
is_meant kind.NoneWord = true
is_meant k = false

either_meant : (entries : List of.Entry) (word : List ℕ) → list_all (λ entry. is_meant entry.kind) entries ≡ true → (kind_in entries word ≡ kind.Name → ⊥) → is_meant (kind_in entries word) ≡ true
either_meant [] word h free = absurd (free refl)
either_meant (entry ∷ entries) word h free = go (bytes_eq entry.text word) (is_meant entry.kind) refl h free (λ g. either_meant entries word g)
  where
    go : (b t : Bool) → is_meant entry.kind ≡ t → t && list_all (λ entry. is_meant entry.kind) entries ≡ true → (cond b entry.kind (kind_in entries word) ≡ kind.Name → ⊥)
        → (list_all (λ entry. is_meant entry.kind) entries ≡ true → (kind_in entries word ≡ kind.Name → ⊥) → is_meant (kind_in entries word) ≡ true)
        → is_meant (cond b entry.kind (kind_in entries word)) ≡ true
    go true true is h free more = is
    go false true is h free more = more h free
    go true false is h free more = cc
    go false false is h free more = cc

-- A token that is no word of a mapping is the same in a source.
pub same_kind : (q : Kind) (k : TokenKind) → is_meant q ≡ false → map_kind_of k ≡ q → kind_of k ≡ q
unfolding map_word_kind map_words
same_kind q (token.Word w) free is = go (kind_in map_words w) refl is
  where
    go : (k : Kind) → kind_in map_words w ≡ k → meant_or k w ≡ q → word_kind w ≡ q
    go kind.Name e is = is
    go k e is =
        let meant : is_meant k ≡ true = ap is_meant (sym e) ∙ either_meant map_words w refl (λ named. let free : k ≡ kind.Name = sym e ∙ named in cc) in
        let bad : true ≡ false = sym meant ∙ ap is_meant is ∙ free in
        cc
same_kind q (token.Number z) free is = is
same_kind q (token.Char z) free is = is
same_kind q (token.Str s) free is = is
same_kind q (token.Punct place) free is = is

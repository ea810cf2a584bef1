-- Each mapping that is read has the form that its entries ask for: no action makes a point that is a plain place or a match
-- of another kind, whatever it finds, and those that make the parts of a point make one to four.
use Rattle.std.specs.Prelude.{◌≡◌, map, nat_lt, not, IsTrue, ⊤, ℕ, List, [], ◌∷◌, ◌++◌, Bool, true, false, cond, All, Result, Ok, Err, IfOk, MatchResult}
use Rattle.std.proofs.Common.{refl, sym, ◌∙◌, ap, subst, arith}
use Rattle.std.proofs.lemmas.List.Elements.{All-nil, All-cons, All-push}
use Rattle.c_tree.specs.declared.mapping.Entry.{Entry}
use Rattle.c_tree.specs.declared.mapping.Mapping.{Mapping}
use Rattle.c_tree.specs.declared.mapping.Part.{Part}
use Rattle.c_tree.specs.declared.place.PlaceKind.TheVariants as place
use Rattle.c_tree.specs.declared.token.Token.{Token}
use Rattle.c_tree.specs.Points.{is_kind}
use Rattle.c_tree.specs.MapForm.{IsReadPoint, IsAddedPart, AreReadParts, IsReadEntry, HasMapForm}
use Rattle.c_tokens.specs.Text.{text_of}
use Rattle.c_grammar.specs.declared.action.Action.{Action}
use Rattle.c_grammar.specs.declared.action.Action.TheVariants as action
use Rattle.c_grammar.specs.declared.kind.Kind.{Kind}
use Rattle.c_grammar.specs.declared.kind.Kind.TheVariants as kind
use Rattle.c_grammar.specs.declared.symbol.Symbol.{Symbol}
use Rattle.c_grammar.specs.declared.value.Value.{Value}
use Rattle.c_grammar.specs.declared.value.Value.TheVariants as value
use Rattle.c_grammar.specs.Values.{older, second, third, fourth, fifth, sixth, pt_in, part_in, parts_in, mapping_in}
use Rattle.c_grammar.specs.Marks.{keeps}
use Rattle.c_grammar.specs.Effects.{State, value_effect, with_entry, meaning, side_of, place_of}
use Rattle.c_grammar.specs.Pieces.{Piece, map_piece}
use Rattle.c_grammar.specs.Rules.{map_start}
use Rattle.c_grammar.specs.Reading.{Whole, Goes, stop, end, take_token, pass, act, expand}
use Rattle.c_grammar.specs.Mapping.{map_pieces, IsMappingOf}
use Rattle.c_reader.specs.Choices.{choices}
use Rattle.c_reader.proofs.Bounded.{bounded, goes_so}
use Rattle.c_reader.proofs.Sorts as sort
use Rattle.c_reader.proofs.Sorts.{Sort, sort_of, kept_sort, wants}
use Rattle.c_reader.proofs.SortRuns.{sorts}
use Rattle.c_reader.proofs.Trees.{AllKept}
use Rattle.map_lang.specs.declared.refused.MapRefused.{MapRefused}
use Rattle.map_lang.specs.Refusal.{IsRefusal}
use Rattle.map_lang.specs.Formed.{EachMappingHasTheForm}
use Rattle.map_lang.proofs.Readings.{map_fits, all_kept}
use Rattle.map_lang.proofs.Typing.{past, AreTyped, typed_take, typed_act, typed_expand, typed_map}

-- a point, a part, the parts of a point or a mapping is of the form, and of all other values nothing is asked
abbrev pub Fits : Value → Type 0
Fits (value.Pt pt) = IsReadPoint pt
Fits (value.Part p) = IsAddedPart p
Fits (value.Parts parts) = AreReadParts parts
Fits (value.Mapping m) = HasMapForm m
Fits v = ⊤

abbrev pub AllFit : List Value → Type 0
AllFit [] = ⊤
AllFit (v ∷ vs) = Fits v × AllFit vs

older_fits : (vs : List Value) → AllFit vs → AllFit (older vs)
older_fits [] h = tt
older_fits (v ∷ vs) h = h.1

past_fits : (ss : List Sort) (vs : List Value) → AllFit vs → AllFit (past ss vs)
past_fits [] vs h = h
past_fits (s ∷ ss) vs h = past_fits ss (older vs) (older_fits vs h)

second_fits : (vs : List Value) → AllFit vs → AllFit (second vs)
second_fits vs h = older_fits vs h

third_fits : (vs : List Value) → AllFit vs → AllFit (third vs)
third_fits vs h = older_fits (second vs) (second_fits vs h)

fourth_fits : (vs : List Value) → AllFit vs → AllFit (fourth vs)
fourth_fits vs h = older_fits (third vs) (third_fits vs h)

fifth_fits : (vs : List Value) → AllFit vs → AllFit (fifth vs)
fifth_fits vs h = older_fits (fourth vs) (fourth_fits vs h)

sixth_fits : (vs : List Value) → AllFit vs → AllFit (sixth vs)
sixth_fits vs h = older_fits (fifth vs) (fifth_fits vs h)

-- The newest point, part and mapping are of the form, and so are those that stand for a value of another sort.
point_fits : (vs : List Value) → AllFit vs → IsReadPoint (pt_in vs)
point_fits [] h = refl
point_fits (value.Pt pt ∷ vs) h = h.0
point_fits (v ∷ vs) h = refl

part_fits : (vs : List Value) → AllFit vs → IsAddedPart (part_in vs)
part_fits [] h = (refl, refl)
part_fits (value.Part p ∷ vs) h = h.0
part_fits (v ∷ vs) h = (refl, refl)

mapping_fits : (vs : List Value) → AllFit vs → HasMapForm (mapping_in vs)
mapping_fits [] h = All-nil (λ x. IsReadEntry x.it)
mapping_fits (value.Mapping m ∷ vs) h = h.0
mapping_fits (v ∷ vs) h = All-nil (λ x. IsReadEntry x.it)

-- The newest parts are of the form where they are the newest value.
parts_fit : (vs : List Value) (rest : List Sort) → sorts vs ≡ sort.Parts ∷ rest → AllFit vs → AreReadParts (parts_in vs)
parts_fit [] rest e h = cc
parts_fit (value.Parts parts ∷ vs) rest e h = h.0
parts_fit (v ∷ vs) rest e h = cc

-- A word names one of the four kinds of matches, and no plain place.
side_is_read : (k : Kind) → IsTrue (nat_lt (side_of k) 4)
side_is_read kind.Struct = refl
side_is_read k = refl

place_is_read : (k : Kind) → IsTrue (not (is_kind place.Plain (place_of k)))
place_is_read kind.LoopWord = refl
place_is_read k = refl

more_entries : (vs : List Value) (at : ℕ) (x : Entry) → AllFit vs → IsReadEntry x → HasMapForm (with_entry (mapping_in vs) at x)
more_entries vs at x h i = All-push (λ y. IsReadEntry y.it) (mapping_in vs).entries (record { at = at; it = x }) (mapping_fits vs h) i

no_parts : All IsAddedPart []
no_parts = All-nil IsAddedPart

one_more : (p : Part) (parts : List Part) → IsAddedPart p → All IsAddedPart parts → All IsAddedPart (p ∷ parts)
one_more p parts h all = All-cons IsAddedPart p parts h all

-- Each action leaves values of the form.
fit_after : (a : Action) (vs : List Value) (rest : List Sort) → sorts vs ≡ wants a ++ rest → AllFit vs → AllFit (value_effect a vs)
fit_after action.DeclItem vs rest e h = (tt, (tt, fifth_fits vs h))
fit_after action.EndDecl vs rest e h = second_fits vs h
fit_after action.StartMapping vs rest e h = (All-nil (λ x. IsReadEntry x.it), h)
fit_after action.MatchEntry vs rest e h = (more_entries (fourth vs) _ _ (fourth_fits vs h) (side_is_read (meaning (third vs))), fifth_fits vs h)
fit_after action.UnmatchedEntry vs rest e h = (more_entries (third vs) _ _ (third_fits vs h) (side_is_read (meaning (second vs))), fourth_fits vs h)
fit_after action.FieldEntry vs rest e h = (more_entries (fifth vs) _ _ (fifth_fits vs h) tt, sixth_fits vs h)
fit_after action.InitEntry vs rest e h = (more_entries (fourth vs) _ _ (fourth_fits vs h) tt, fifth_fits vs h)
fit_after action.PointEntry vs rest e h =
    (more_entries (fifth vs) _ _ (fifth_fits vs h) (point_fits (second vs) (second_fits vs h), parts_fit vs _ e h), sixth_fits vs h)
fit_after action.CheckEntry vs rest e h = (more_entries (third vs) _ _ (third_fits vs h) tt, fourth_fits vs h)
fit_after action.EntryPt vs rest e h = (refl, h)
fit_after action.NumberPt vs rest e h = (place_is_read (meaning (second vs)), third_fits vs h)
fit_after action.OnePart vs rest e h = ((refl, point_fits (second vs) (second_fits vs h), omega arith, no_parts), third_fits vs h)
fit_after action.TwoParts vs rest e h =
    ((refl, point_fits (third vs) (third_fits vs h), omega arith, one_more (part_in vs) [] (part_fits vs h) no_parts), fourth_fits vs h)
fit_after action.ThreeParts vs rest e h =
    let last : All IsAddedPart (part_in vs ∷ []) = one_more (part_in vs) [] (part_fits vs h) no_parts in
    ((refl, point_fits (fourth vs) (fourth_fits vs h), omega arith, one_more (part_in (second vs)) (part_in vs ∷ []) (part_fits (second vs) (second_fits vs h)) last), fifth_fits vs h)
fit_after action.FourParts vs rest e h =
    let last : All IsAddedPart (part_in vs ∷ []) = one_more (part_in vs) [] (part_fits vs h) no_parts in
    let behind : All IsAddedPart (part_in (second vs) ∷ part_in vs ∷ []) = one_more (part_in (second vs)) (part_in vs ∷ []) (part_fits (second vs) (second_fits vs h)) last in
    ((refl, point_fits (fifth vs) (fifth_fits vs h), omega arith, one_more (part_in (third vs)) (part_in (second vs) ∷ part_in vs ∷ []) (part_fits (third vs) (third_fits vs h)) behind), sixth_fits vs h)
fit_after action.AddPart vs rest e h = ((refl, point_fits (second vs) (second_fits vs h)), fourth_fits vs h)
fit_after action.Leave vs rest e h = h
fit_after action.Outer vs rest e h = h
fit_after a vs rest e h = (tt, past_fits (wants a) vs h)

-- So does each token that is taken, and with them each reading.
abbrev pub AreWords : List Piece → Type 0
AreWords [] = ⊤
AreWords (p ∷ ps) = Fits p.value × AreWords ps

are_words : (ts : List Token) → AreWords (map map_piece ts)
are_words [] = tt
are_words (t ∷ ts) = (tt, are_words ts)

kept_fits : (b : Bool) (v : Value) (vs : List Value) → Fits v → AllFit vs → AllFit (cond b (v ∷ vs) vs)
kept_fits true v vs i h = (i, h)
kept_fits false v vs i h = h

goes_fit : {values : List Value} {symbols : List Symbol} {state : State} {ps : List Piece} → AreWords ps → AllKept ps → Goes choices (Whole values) symbols state ps
    → AreTyped symbols state.values → AllFit state.values → AllFit values
goes_fit w k (stop ok) t h = absurd ok
goes_fit w k (end e) t h = subst AllFit (sym e) h
goes_fit w k (take_token {kind = kind} {mark = mark} {symbols = symbols} {state = state} {p = p} e g) t h =
    goes_fit w.1 k.1 g (typed_take kind mark symbols p.value state.values (k.0 ∙ ap kept_sort e) t) (kept_fits (keeps mark) p.value state.values w.0 h)
goes_fit w k (pass n g) t h = goes_fit w k g t h
goes_fit w k (act {a = a} {symbols = symbols} {state = state} g) t h = goes_fit w k g (typed_act a symbols state.values t) (fit_after a state.values t.0 t.1 h)
goes_fit w k (expand {r = r} {alternative = front} {symbols = symbols} {state = state} m g) t h = goes_fit w k g (typed_expand r front symbols state.values m t) h

pub formed : EachMappingHasTheForm
formed text mapping is =
    let tokens = (text_of text).tokens in
    let g = bounded map_start (map_pieces (text_of text)) (value.Mapping mapping ∷ []) map_fits is.reading in
    (goes_fit (are_words tokens) (all_kept tokens) (goes_so g) typed_map tt).0

-- So does what the reader answers that gives this mapping.
pub answer_formed : (text : List ℕ) (r : Result Mapping MapRefused) → MatchResult r (IsMappingOf text) (IsRefusal text) → IfOk r HasMapForm
answer_formed text (Ok mapping) is = formed text mapping is
answer_formed text (Err why) is = tt

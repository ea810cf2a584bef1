-- The two grammars of mappings read the same where each point has one part.
use Rattle.std.specs.Prelude.{ℕ, List, [], ◌∷◌, ◌++◌, Bool, true, false, not, cond, Result, Ok, Err, IfOk, MatchResult}
use Rattle.std.specs.List.{list_all}
use Rattle.std.proofs.Common.{◌≡◌, ◌-◌, ◌⊎◌, inl, inr, refl, sym, ◌∙◌, ap, subst, arith}
use Rattle.std.proofs.lemmas.List.Folds.{list_all-append}
use Rattle.c_tree.specs.declared.mapping.Mapping.{Mapping}
use Rattle.c_tree.specs.MapForm.{HasMapForm}
use Rattle.c_tokens.specs.Text.{text_of}
use Rattle.c_grammar.specs.declared.action.Action.{Action}
use Rattle.c_grammar.specs.declared.action.Action.TheVariants as action
use Rattle.c_grammar.specs.declared.kind.Kind.{Kind}
use Rattle.c_grammar.specs.declared.kind.Kind.TheVariants as kind
use Rattle.c_grammar.specs.declared.rule.Rule.{Rule}
use Rattle.c_grammar.specs.declared.rule.Rule.TheVariants as rule
use Rattle.c_grammar.specs.declared.symbol.Mark.{Mark}
use Rattle.c_grammar.specs.declared.symbol.Mark.TheVariants.{Skip, Keep}
use Rattle.c_grammar.specs.declared.symbol.Symbol.{Symbol}
use Rattle.c_grammar.specs.declared.symbol.Symbol.TheVariants.{Take, Unless, Act, Expand}
use Rattle.c_grammar.specs.declared.value.Value.{Value}
use Rattle.c_grammar.specs.declared.value.Value.TheVariants as value
use Rattle.c_grammar.specs.Marks.{keeps}
use Rattle.c_grammar.specs.Effects.{State, with_token, empty, value_effect}
use Rattle.c_grammar.specs.Rules.{map_start, first_map_start}
use Rattle.c_grammar.specs.Pieces.{Piece}
use Rattle.c_grammar.specs.Reading.{Among, first, later, Whole, Goes, stop, end, take_token, pass, act, expand}
use Rattle.c_grammar.specs.Mapping.{map_pieces, IsFirstMappingOf}
use Rattle.c_reader.specs.Choices.{choices}
use Rattle.c_reader.specs.Depth.{least}
use Rattle.c_reader.specs.Follow.{vanishes_end}
use Rattle.c_reader.proofs.Bounded.{Bounded, bounded, takes_one, passes_on, acts, expands, goes_so}
use Rattle.c_reader.proofs.BoundedReads.{bounded_reads, none_left_out}
use Rattle.c_reader.proofs.Choice.{both_left, both_right, and_true, all_of}
use Rattle.c_reader.proofs.Sorts.{sort_of, kept_sort}
use Rattle.c_reader.proofs.Trees.{AllKept}
use Rattle.map_lang.specs.declared.refused.MapRefused.{MapRefused}
use Rattle.map_lang.specs.Formats.{HasSingleParts, FirstMappingsAreMappings, MappingsOfOnePartAreFirst}
use Rattle.map_lang.specs.Formed.{EachFirstMappingHasTheForm}
use Rattle.map_lang.specs.Refusal.{IsFirstRefusal}
use Rattle.map_lang.proofs.MapForms.{formed}
use Rattle.map_lang.proofs.Readings.{map_fits, first_fits, all_kept}
use Rattle.map_lang.proofs.Typing.{AreTyped, typed_take, typed_act, typed_expand, typed_map, typed_first}
use Rattle.map_lang.proofs.Singles.{all_single, kept_single, makes_more, single_after, more_after, more_stay, has_single, is_single}

-- Some symbol to come makes more than one part, whatever is read.
data MakesMore : List Symbol → Type 0 where
  two : {s : List Symbol} → MakesMore (Act action.TwoParts ∷ s)
  three : {s : List Symbol} → MakesMore (Act action.ThreeParts ∷ s)
  four : {s : List Symbol} → MakesMore (Act action.FourParts ∷ s)
  third : {s : List Symbol} → MakesMore (Expand rule.ThirdPart ∷ s)
  fourth : {s : List Symbol} → MakesMore (Expand rule.FourthPart ∷ s)
  behind : {x : Symbol} {s : List Symbol} → MakesMore s → MakesMore (x ∷ s)

more_in_front : (front : List Symbol) {s : List Symbol} → MakesMore s → MakesMore (front ++ s)
more_in_front [] m = m
more_in_front (x ∷ front) m = behind (more_in_front front m)

more_act : (a : Action) {s : List Symbol} → MakesMore (Act a ∷ s) → (makes_more a ≡ true) ⊎ MakesMore s
more_act action.TwoParts two = inl refl
more_act action.ThreeParts three = inl refl
more_act action.FourParts four = inl refl
more_act a (behind m) = inr m

more_third : (front s : List Symbol) → Among front (choices rule.ThirdPart) → MakesMore (front ++ s)
more_third front s first = behind (behind fourth)
more_third front s (later first) = two
more_third front s (later (later m)) = elim m [ ]

more_fourth : (front s : List Symbol) → Among front (choices rule.FourthPart) → MakesMore (front ++ s)
more_fourth front s first = behind (behind four)
more_fourth front s (later first) = three
more_fourth front s (later (later m)) = elim m [ ]

more_expand : (r : Rule) (front s : List Symbol) → Among front (choices r) → MakesMore (Expand r ∷ s) → MakesMore (front ++ s)
more_expand rule.ThirdPart front s m third = more_third front s m
more_expand rule.FourthPart front s m fourth = more_fourth front s m
more_expand r front s m (behind q) = more_in_front front q

more_take : (k : Kind) (mark : Mark) {s : List Symbol} → MakesMore (Take k mark ∷ s) → MakesMore s
more_take k mark (behind m) = m

more_unless : (k : Kind) {s : List Symbol} → MakesMore (Unless k ∷ s) → MakesMore s
more_unless k (behind m) = m

-- what was read has a point of more than one part, or what is to come makes one
abbrev Has : List Symbol → List Value → Type 0
Has symbols vs = (all_single vs ≡ false) ⊎ MakesMore symbols

has_take : (k : Kind) (mark : Mark) (symbols : List Symbol) (v : Value) (vs : List Value) → sort_of v ≡ kept_sort k → Has (Take k mark ∷ symbols) vs
    → Has symbols (cond (keeps mark) (v ∷ vs) vs)
has_take k mark symbols v vs e (inl h) = inl (kept_single (keeps mark) k v vs e ∙ h)
has_take k mark symbols v vs e (inr m) = inr (more_take k mark m)

has_act : (a : Action) (symbols : List Symbol) (vs : List Value) → AreTyped (Act a ∷ symbols) vs → Has (Act a ∷ symbols) vs → Has symbols (value_effect a vs)
has_act a symbols vs t (inl h) = inl (more_stay a vs t.0 t.1 h)
has_act a symbols vs t (inr m) = elim (more_act a m) [ inl more ↦ inl (more_after a vs more) | inr q ↦ inr q ]

has_expand : (r : Rule) (front symbols : List Symbol) (vs : List Value) → Among front (choices r) → Has (Expand r ∷ symbols) vs → Has (front ++ symbols) vs
has_expand r front symbols vs m (inl h) = inl h
has_expand r front symbols vs m (inr q) = inr (more_expand r front symbols m q)

has_unless : (k : Kind) (symbols : List Symbol) (vs : List Value) → Has (Unless k ∷ symbols) vs → Has symbols vs
has_unless k symbols vs (inl h) = inl h
has_unless k symbols vs (inr m) = inr (more_unless k m)

has_none : (values vs : List Value) → values ≡ vs → Has [] vs → all_single values ≡ false
has_none values vs e (inl h) = ap all_single e ∙ h
has_none values vs e (inr m) = elim m [ ]

-- Then what is left has one.
has_more : {values : List Value} {symbols : List Symbol} {state : State} {ps : List Piece} → AllKept ps → Goes choices (Whole values) symbols state ps → AreTyped symbols state.values
    → Has symbols state.values → all_single values ≡ false
has_more w (stop ok) t h = absurd ok
has_more w (end {values = values} {state = state} e) t h = has_none values state.values e h
has_more w (take_token {kind = k} {mark = mark} {symbols = symbols} {state = state} {p = p} e g) t h =
    let sort_is : sort_of p.value ≡ kept_sort k = w.0 ∙ ap kept_sort e in
    has_more w.1 g (typed_take k mark symbols p.value state.values sort_is t) (has_take k mark symbols p.value state.values sort_is h)
has_more w (pass {kind = k} {symbols = symbols} {state = state} n g) t h = has_more w g t (has_unless k symbols state.values h)
has_more w (act {a = a} {symbols = symbols} {state = state} g) t h = has_more w g (typed_act a symbols state.values t) (has_act a symbols state.values t h)
has_more w (expand {r = r} {alternative = front} {symbols = symbols} {state = state} m g) t h =
    has_more w g (typed_expand r front symbols state.values m t) (has_expand r front symbols state.values m h)

-- The symbols that the first format leads to make no further parts.
abbrev is_first : Rule → Bool
is_first rule.Entries = false
is_first rule.Entry = false
is_first rule.Parts = false
is_first rule.SecondPart = false
is_first rule.ThirdPart = false
is_first rule.FourthPart = false
is_first r = true

abbrev stays_first : Symbol → Bool
stays_first (Act a) = not (makes_more a)
stays_first (Expand r) = is_first r
stays_first x = true

closed : (r : Rule) → is_first r ≡ true → list_all (λ front. list_all stays_first front) (choices r) ≡ true
closed rule.Entries h = cc
closed rule.Entry h = cc
closed rule.Parts h = cc
closed rule.SecondPart h = cc
closed rule.ThirdPart h = cc
closed rule.FourthPart h = cc
closed r h = refl

first_expand : (r : Rule) (front symbols : List Symbol) → Among front (choices r) → list_all stays_first (Expand r ∷ symbols) ≡ true → list_all stays_first (front ++ symbols) ≡ true
first_expand r front symbols m h =
    list_all-append stays_first front symbols
    ∙ and_true (list_all stays_first front) _ (all_of (λ x. list_all stays_first x) m (closed r (both_left (is_first r) _ h))) (both_right (is_first r) _ h)

not_true : (b : Bool) → not b ≡ true → b ≡ false
not_true true h = cc
not_true false h = refl

stays_single : {values : List Value} {symbols : List Symbol} {state : State} {ps : List Piece} → AllKept ps → Goes choices (Whole values) symbols state ps → AreTyped symbols state.values
    → list_all stays_first symbols ≡ true → all_single values ≡ all_single state.values
stays_single w (stop ok) t h = absurd ok
stays_single w (end e) t h = ap all_single e
stays_single w (take_token {kind = k} {mark = mark} {symbols = symbols} {state = state} {p = p} e g) t h =
    let sort_is : sort_of p.value ≡ kept_sort k = w.0 ∙ ap kept_sort e in
    stays_single w.1 g (typed_take k mark symbols p.value state.values sort_is t) h ∙ kept_single (keeps mark) k p.value state.values sort_is
stays_single w (pass n g) t h = stays_single w g t h
stays_single w (act {a = a} {symbols = symbols} {state = state} g) t h =
    stays_single w g (typed_act a symbols state.values t) (both_right (not (makes_more a)) _ h)
    ∙ single_after a state.values t.0 (not_true (makes_more a) (both_left (not (makes_more a)) _ h)) t.1
stays_single w (expand {r = r} {alternative = front} {symbols = symbols} {state = state} m g) t h =
    stays_single w g (typed_expand r front symbols state.values m t) (first_expand r front symbols m h)

-- The symbols to come in the first format, and those in the second.
data Like : List Symbol → List Symbol → Type 0 where
  nothing : Like [] []
  same : {x : Symbol} {s t : List Symbol} → Like s t → Like (x ∷ s) (x ∷ t)
  entries : {s t : List Symbol} → Like s t → Like (Expand rule.FirstEntries ∷ s) (Expand rule.Entries ∷ t)
  entry : {s t : List Symbol} → Like s t → Like (Expand rule.FirstEntry ∷ s) (Expand rule.Entry ∷ t)
  parts : {s t : List Symbol} → Like s t → Like (Expand rule.OnlyPart ∷ s) (Expand rule.Parts ∷ t)
  one : {s t : List Symbol} → Like s t → Like (Act action.OnePart ∷ s) (Expand rule.SecondPart ∷ t)

like_front : (front : List Symbol) {s t : List Symbol} → Like s t → Like (front ++ s) (front ++ t)
like_front [] l = l
like_front (x ∷ front) l = same (like_front front l)

none_closed : (d : ℕ) → d - 0 ≡ d
none_closed d = omega arith

least_like : {s t : List Symbol} → Like s t → (d : ℕ) → least s d ≡ least t d
least_like nothing d = refl
least_like (same {x = Take k mark} l) d = refl
least_like (same {x = Unless k} l) d = least_like l d
least_like (same {x = Act a} l) d = least_like l _
least_like (same {x = Expand r} l) d = ap (λ n. cond (vanishes_end choices r) n d) (least_like l d)
least_like (entries l) d = least_like l d
least_like (entry l) d = refl
least_like (parts l) d = refl
least_like (one {s = s} l) d = ap (λ n. least s n) (none_closed d) ∙ least_like l d

lowered : {values : List Value} {s : List Symbol} {state : State} {ps : List Piece} (low low' : ℕ) → low ≡ low' → Bounded values s state low ps → Bounded values s state low' ps
lowered {values} {s} {state} {ps} low low' e g = subst (λ n. Bounded values s state n ps) e g

to_second : {values : List Value} {s t : List Symbol} {state : State} {low : ℕ} {ps : List Piece} → Like s t → Bounded values s state low ps → Bounded values t state low ps
to_second nothing g = g
to_second (same l) (takes_one {mark = mark} {state = state} {p = p} e le few g) =
    takes_one e le few (lowered _ _ (least_like l (with_token mark p.value state).depth) (to_second l g))
to_second (same l) (passes_on n g) = passes_on n (to_second l g)
to_second (same l) (acts g) = acts (to_second l g)
to_second (same l) (expands {front = front} m g) = expands m (to_second (like_front front l) g)
to_second (entries l) (expands first g) = expands first (to_second (entry (same (entries l))) g)
to_second (entries l) (expands (later first) g) = expands (later first) (to_second l g)
to_second (entries l) (expands (later (later m)) g) = elim m [ ]
to_second (entry l) (expands first g) = expands first (to_second (same l) g)
to_second (entry l) (expands (later first) g) = expands (later first) (to_second (same (same (same (same (parts (same l)))))) g)
to_second (entry l) (expands (later (later m)) g) = elim m [ ]
to_second (parts l) (expands first g) = expands first (to_second (same (same (one l))) g)
to_second (parts l) (expands (later m) g) = elim m [ ]
to_second (one l) (acts g) = expands (later first) (acts (to_second l g))

-- A text of the second format, where no point of what is left has more than one part.
not_more : {values : List Value} {s : List Symbol} {state : State} {low : ℕ} {ps : List Piece} → AllKept ps → all_single values ≡ true → AreTyped s state.values → MakesMore s
    → Bounded values s state low ps → ⊥
not_more {values} w is t m g = let no : all_single values ≡ false = has_more w (goes_so g) t (inr m) in let e : true ≡ false = sym is ∙ no in cc

-- a point of the first format
abbrev point_symbols : List Symbol
point_symbols = Take kind.PointWord Keep ∷ Expand rule.AnyName ∷ Expand rule.Pt ∷ Take kind.Arrow Skip ∷ Expand rule.OnlyPart ∷ Act action.PointEntry ∷ []

to_first : {values : List Value} {s t : List Symbol} {state : State} {low : ℕ} {ps : List Piece} → Like s t → Bounded values t state low ps → AllKept ps → all_single values ≡ true
    → AreTyped t state.values → Bounded values s state low ps
to_first nothing g w is h = g
to_first (same {s = s} l) (takes_one {k = k} {mark = mark} {symbols = symbols} {state = state} {p = p} e le few g) w is h =
    takes_one e le few (lowered _ _ (sym (least_like l (with_token mark p.value state).depth))
    (to_first {s = s} l g w.1 is (typed_take k mark symbols p.value state.values (w.0 ∙ ap kept_sort e) h)))
to_first (same {s = s} l) (passes_on n g) w is h = passes_on n (to_first {s = s} l g w is h)
to_first (same {s = s} l) (acts {a = a} {symbols = symbols} {state = state} g) w is h = acts (to_first {s = s} l g w is (typed_act a symbols state.values h))
to_first (same {s = s} l) (expands {r = r} {front = front} {symbols = symbols} {state = state} m g) w is h =
    expands m (to_first {s = front ++ s} (like_front front l) g w is (typed_expand r front symbols state.values m h))
to_first (entries {s = s} l) (expands {front = front} {symbols = symbols} {state = state} first g) w is h =
    expands first (to_first {s = Expand rule.FirstEntry ∷ Take kind.Semicolon Skip ∷ Expand rule.FirstEntries ∷ s} (entry (same (entries l))) g w is (typed_expand rule.Entries front symbols state.values first h))
to_first (entries {s = s} l) (expands {front = front} {symbols = symbols} {state = state} (later first) g) w is h =
    expands (later first) (to_first {s = s} l g w is (typed_expand rule.Entries front symbols state.values (later first) h))
to_first (entries l) (expands (later (later m)) g) w is h = elim m [ ]
to_first (entry {s = s} l) (expands {front = front} {symbols = symbols} {state = state} first g) w is h =
    expands first (to_first {s = Expand rule.OtherEntry ∷ s} (same l) g w is (typed_expand rule.Entry front symbols state.values first h))
to_first (entry {s = s} l) (expands {front = front} {symbols = symbols} {state = state} (later first) g) w is h =
    expands (later first) (to_first {s = point_symbols ++ s} (same (same (same (same (parts (same l)))))) g w is (typed_expand rule.Entry front symbols state.values (later first) h))
to_first (entry l) (expands (later (later m)) g) w is h = elim m [ ]
to_first (parts {s = s} l) (expands {front = front} {symbols = symbols} {state = state} first g) w is h =
    expands first (to_first {s = Expand rule.Pt ∷ Expand rule.Fills ∷ Act action.OnePart ∷ s} (same (same (one l))) g w is (typed_expand rule.Parts front symbols state.values first h))
to_first (parts l) (expands (later m) g) w is h = elim m [ ]
to_first (one l) (expands {front = front} {symbols = symbols} {state = state} first g) w is h =
    absurd (not_more w is (typed_expand rule.SecondPart front symbols state.values first h) (behind (behind third)) g)
to_first (one {s = s} l) (expands {front = front} {symbols = symbols} {state = state} (later first) (acts g)) w is h =
    acts (to_first {s = s} l g w is (typed_act action.OnePart symbols state.values (typed_expand rule.SecondPart front symbols state.values (later first) h)))
to_first (one l) (expands (later (later m)) g) w is h = elim m [ ]

starts_like : Like first_map_start map_start
starts_like = same (entries nothing)

pub first_are_mappings : FirstMappingsAreMappings
first_are_mappings text m is =
    let ps = map_pieces (text_of text) in
    let values = value.Mapping m ∷ [] in
    let g : Bounded values first_map_start empty (least first_map_start 0) ps = bounded first_map_start ps values first_fits is.reading in
    let there : Bounded values map_start empty (least map_start 0) ps = lowered _ _ (least_like starts_like 0) (to_second starts_like g) in (
      record { clean = is.clean; reading = bounded_reads map_start ps values map_fits (none_left_out first_map_start ps values is.reading) there },
      has_single m (stays_single (all_kept (text_of text).tokens) (goes_so g) typed_first refl),
    )

pub one_part_is_first : MappingsOfOnePartAreFirst
one_part_is_first text m is h =
    let ps = map_pieces (text_of text) in
    let values = value.Mapping m ∷ [] in
    let g : Bounded values map_start empty (least map_start 0) ps = bounded map_start ps values map_fits is.reading in
    let back : Bounded values first_map_start empty (least first_map_start 0) ps =
    lowered _ _ (sym (least_like starts_like 0)) (to_first starts_like g (all_kept (text_of text).tokens) (is_single m h) typed_map) in
    record { clean = is.clean; reading = bounded_reads first_map_start ps values first_fits (none_left_out map_start ps values is.reading) back }

pub first_formed : EachFirstMappingHasTheForm
first_formed text m is = formed text m (first_are_mappings text m is).0

-- So does what the reader answers that gives a mapping of the first format.
pub answer_formed : (text : List ℕ) (r : Result Mapping MapRefused) → MatchResult r (IsFirstMappingOf text) (IsFirstRefusal text) → IfOk r HasMapForm
answer_formed text (Ok m) is = first_formed text m is
answer_formed text (Err why) is = tt

pub answer_single : (text : List ℕ) (r : Result Mapping MapRefused) → MatchResult r (IsFirstMappingOf text) (IsFirstRefusal text) → IfOk r HasSingleParts
answer_single text (Ok m) is = (first_are_mappings text m is).1
answer_single text (Err why) is = tt

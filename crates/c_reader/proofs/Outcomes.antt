-- From what the machine did to what it answers.
use borrow.Author.Count.{below_more}
use Rattle.std.proofs.Common.{◌≤◌, ◌≢◌, Bool, true, false, get_or, reverse, ◌≡◌, ℕ, ◌+◌, ◌-◌, ◌<◌, ◌⊎◌, inl, inr, List, [], ◌∷◌, ◌++◌, length, take, refl, sym, ◌∙◌, ap, subst, Option, Some, None, append_assoc, append-nil, arith, zero, suc, length-take, cond, MatchOption, IsTrue, ◌↔◌}
use Rattle.std.proofs.lemmas.Bool.Decides.{when_true, when_false}
use Rattle.std.proofs.lemmas.List.{take_more, take_all, length-map}
use Rattle.std.proofs.lemmas.Option.{get_or_from_slice_get, slice_get-get_or, slice_get-map, slice_get_within}
use Rattle.std.proofs.lemmas.Bool.{leb-true, leb-false}
use Rattle.std.specs.Bool.{MatchBool}
use Rattle.std.specs.Prelude.{slice_get, map, nat_le}
use Rattle.std.specs.Option.{option_map}
use Rattle.c_tree.specs.declared.token.Token.{Token}
use Rattle.c_tree.specs.declared.program.Program.{Program}
use Rattle.c_tree.specs.declared.cause.ReadCause.{ReadCause}
use Rattle.c_tree.specs.declared.cause.ReadCause.TheVariants as cause
use Rattle.c_grammar.specs.declared.kind.Kind.{Kind}
use Rattle.c_grammar.specs.declared.kind.Kind.TheVariants as kind
use Rattle.c_grammar.specs.declared.action.Action.{Action}
use Rattle.c_grammar.specs.declared.symbol.Mark.{Mark}
use Rattle.c_grammar.specs.declared.symbol.Symbol.{Symbol}
use Rattle.c_grammar.specs.declared.symbol.Symbol.TheVariants.{Take}
use Rattle.c_grammar.specs.declared.value.Value.{Value}
use Rattle.c_grammar.specs.declared.value.Value.TheVariants as value
use Rattle.c_grammar.specs.Tokens.{text_of}
use Rattle.c_grammar.specs.Marks.{opens, counts}
use Rattle.c_grammar.specs.Rules.{alternatives, start}
use Rattle.c_grammar.specs.Values.{word_in, program_in}
use Rattle.c_grammar.specs.Effects.{State, with_token, effect, closes, is_outer, empty}
use Rattle.c_grammar.specs.Pieces.{Piece, token_piece, lexeme_piece}
use Rattle.c_grammar.specs.Reading.{Test, Any, Within, Over, Passes, Aim, Part, Whole, Accepts, Goes, stop, end, take_token, pass, act, expand, IsLive, Reads, IsDeep, IsOver, IsFault, rank, AreSound, IsFirst, IsCutShort, IsReading, depth_limit, operator_limit}
use Rattle.c_reader.specs.declared.found.Found.{Found}
use Rattle.c_reader.specs.Choices.{choices}
use Rattle.c_reader.specs.Follow.{FitsReader, Refuses, Reached}
use Rattle.c_reader.specs.Depth.{least}
use Rattle.c_reader.specs.Outcome.{Takes, NeverTakes, Meets, Misses, Finishes, NeverFinishes, Follows, FollowsAt, Parses}
use Rattle.c_reader.proofs.Factoring.{to_reader, from_reader}
use Rattle.c_reader.proofs.Depths.{not_within, reach}

-- A token that is taken.

taken : (k : Kind) (mark : Mark) (symbols : List Symbol) (state : State) (aim : Aim) (p : Piece) (ps : List Piece)
    → Goes choices aim (Take k mark ∷ symbols) state (p ∷ ps) → Goes choices aim symbols (with_token mark p.value state) ps
taken k mark symbols state aim p ps (take_token e g) = g

one_more : (b : Bool) (n m : ℕ) → n ≤ m → n + cond b 1 0 ≤ m + 1
one_more true n m h = omega arith
one_more false n m h = omega arith

pub takes : (mark : Mark) (p : Piece) (symbols : List Symbol) (state : State) (symbols' : List Symbol) (state' : State)
    → Reached mark (Some p.kind) symbols state symbols' state' → state'.depth ≤ state.depth → state'.operators ≤ state.operators
    → Takes p symbols state symbols' (with_token mark p.value state')
takes mark p symbols state symbols' state' r lower fewer = record {
  there = λ aim ps g. taken p.kind mark symbols' state' aim p ps (r.0.there aim (p ∷ ps) refl g);
  back = λ aim ps g. r.0.back aim (p ∷ ps) refl (take_token refl g);
  fits = r.1.0;
  deeper = one_more (opens mark) _ _ lower;
  more = one_more (counts mark) _ _ fewer;
}

some_is : {X : Type 0} {x y : X} → Some x ≡ Some y → x ≡ y
some_is e = cc

some_case : (P : Type 0) (Q : Mark → Type 0) (o : Option Mark) (m : Mark) → MatchOption o P Q → o ≡ Some m → Q m
some_case P Q None m h e = cc
some_case P Q (Some n) m h e = subst Q (some_is e) h

-- The machine has taken the token: as `keep` leaves it.
taken_token : (p : Piece) (k : Kind) (symbols : List Symbol) (state : State) (symbols' symbols'' : List Symbol) (state' state'' : State) (o : Option Mark) (m : Mark)
    → k ≡ p.kind
    → MatchOption o (Refuses (Some k) symbols state) (λ m. Reached m (Some k) symbols state symbols' state') → o ≡ Some m
    → state'.depth ≤ state.depth → state'.operators ≤ state.operators
    → symbols'' ≡ symbols' → state'' ≡ with_token m p.value state' → Takes p symbols state symbols'' state''
taken_token p k symbols state symbols' symbols'' state' state'' o m e r d lower fewer s v =
    let reached : Reached m (Some p.kind) symbols state symbols' state' =
    subst (λ x. Reached m (Some x) symbols state symbols' state') e (some_case _ (λ m. Reached m (Some k) symbols state symbols' state') o m r d) in
    let base = takes m p symbols state symbols' state' reached lower fewer in
    subst (λ x. Takes p symbols state x state'') (sym s) (subst (λ x. Takes p symbols state symbols' x) (sym v) base)

no_left_out : (left : Bool) (k k' : Kind) → (IsTrue left ↔ (k ≡ kind.LeftOut)) → left ≡ false → k ≡ k' → k' ≢ kind.LeftOut
no_left_out true k k' d e f g = cc
no_left_out false k k' d e f g = let h : false ≡ true = d.1 (f ∙ g) in cc

not_deeper : (b : Bool) (limit d : ℕ) → (IsTrue b ↔ (limit < d)) → b ≡ false → d ≤ limit
not_deeper true limit d e f = cc
not_deeper false limit d e f = go (nat_le d limit) refl
  where
    go : (c : Bool) → nat_le d limit ≡ c → d ≤ limit
    go true h = leb-true d limit h
    go false h = let lt : limit < d = leb-false d limit h in let no : false ≡ true = e.1 lt in cc

shallow_kind : (symbols : List Symbol) (depth limit : ℕ) (deeper : Bool) (k k' : Kind) → k ≡ k' → limit ≡ depth_limit k → (IsTrue deeper ↔ (limit < least symbols depth)) → deeper ≡ false → least symbols depth ≤ depth_limit k'
shallow_kind symbols depth limit deeper k k' e l d f = subst (λ x. least symbols depth ≤ depth_limit x) e (subst (λ x. least symbols depth ≤ x) l (not_deeper deeper limit (least symbols depth) d f))

pub meets : (p : Piece) (k : Kind) (symbols : List Symbol) (state : State) (symbols' symbols'' : List Symbol) (state' state'' : State) (o : Option Mark) (m : Mark) (left deeper : Bool) (limit : ℕ)
    → k ≡ p.kind → (IsTrue left ↔ (k ≡ kind.LeftOut)) → left ≡ false → limit ≡ depth_limit k → (IsTrue deeper ↔ (limit < least symbols state.depth)) → deeper ≡ false
    → MatchOption o (Refuses (Some k) symbols state) (λ m. Reached m (Some k) symbols state symbols' state') → o ≡ Some m
    → state'.depth ≤ state.depth → state'.operators ≤ state.operators
    → symbols'' ≡ symbols' → state'' ≡ with_token m p.value state' → state''.operators ≤ 1000 → Meets p symbols state symbols'' state''
meets p k symbols state symbols' symbols'' state' state'' o m left deeper limit e i f l u h r g lower fewer s v few = record {
  named = no_left_out left k _ i f e;
  shallow = shallow_kind symbols state.depth limit deeper k _ e l u h;
  takes = taken_token p k symbols state symbols' symbols'' state' state'' o m e r g lower fewer s v;
  few = few;
}

pub misses_over : (p : Piece) (k : Kind) (symbols : List Symbol) (state : State) (symbols' symbols'' : List Symbol) (state' state'' : State) (o : Option Mark) (m : Mark) (left : Bool)
    → k ≡ p.kind → (IsTrue left ↔ (k ≡ kind.LeftOut)) → left ≡ false
    → MatchOption o (Refuses (Some k) symbols state) (λ m. Reached m (Some k) symbols state symbols' state') → o ≡ Some m
    → state'.depth ≤ state.depth → state'.operators ≤ state.operators
    → symbols'' ≡ symbols' → state'' ≡ with_token m p.value state' → 1000 < state''.operators → Misses p symbols state cause.TooDeep
misses_over p k symbols state symbols' symbols'' state' state'' o m left e i f r g lower fewer s v over =
    (no_left_out left k _ i f e, inr (symbols'', (state'', (taken_token p k symbols state symbols' symbols'' state' state'' o m e r g lower fewer s v, over))))

pub never_takes : (p : Piece) (symbols : List Symbol) (state : State) → Refuses (Some p.kind) symbols state → NeverTakes p symbols state
never_takes p symbols state r aim ps g = r aim (p ∷ ps) refl g

-- The end of the text.

ended : (w : List Value) (state : State) → Goes choices (Whole w) [] state [] → w ≡ state.values
ended w state (end e) = e
ended w state (stop ok) = absurd ok

pub finishes : (mark : Mark) (symbols : List Symbol) (state : State) (symbols' : List Symbol) (state' : State) → Reached mark None symbols state symbols' state' → Finishes symbols state state'
finishes mark symbols state symbols' state' r =
    let none : symbols' ≡ [] = r.1.1 refl in
    record {
      done = r.0.back (Whole state'.values) [] refl (subst (λ s. Goes choices (Whole state'.values) s state' []) (sym none) (end refl));
      only = λ w g. ended w state' (subst (λ s. Goes choices (Whole w) s state' []) none (r.0.there (Whole w) [] refl g));
    }

pub finishes_some : (symbols : List Symbol) (state : State) (symbols' : List Symbol) (state' : State) (o : Option Mark) (m : Mark)
    → MatchOption o (Refuses None symbols state) (λ m. Reached m None symbols state symbols' state') → o ≡ Some m → Finishes symbols state state'
finishes_some symbols state symbols' state' o m h e = finishes m symbols state symbols' state' (some_case _ (λ m. Reached m None symbols state symbols' state') o m h e)

-- From the start to here.

follows_start : (begin : List Symbol) → FitsReader begin → Follows begin [] begin empty
follows_start begin fits = record { there = λ aim ps g. to_reader g; back = λ aim ps g. from_reader g; fits = fits }

follows_next : (begin : List Symbol) (front front' : List Piece) (p : Piece) (symbols : List Symbol) (state : State) (symbols' : List Symbol) (state' : State)
    → Follows begin front symbols state → Takes p symbols state symbols' state' → front' ≡ front ++ p ∷ [] → Follows begin front' symbols' state'
follows_next begin front front' p symbols state symbols' state' f k e =
    let join : (ps : List Piece) → front' ++ ps ≡ front ++ (p ∷ ps) = λ ps. ap (λ x. x ++ ps) e ∙ append_assoc front (p ∷ []) ps in
    record {
      there = λ aim ps g. k.there aim ps (f.there aim (p ∷ ps) (subst (λ x. Goes alternatives aim begin empty x) (join ps) g));
      back = λ aim ps g. subst (λ x. Goes alternatives aim begin empty x) (sym (join ps)) (f.back aim (p ∷ ps) (k.back aim ps g));
      fits = k.fits;
    }

live_so_far : (begin : List Symbol) (front : List Piece) (symbols : List Symbol) (state : State) → Follows begin front symbols state → IsLive begin front
live_so_far begin front symbols state f = subst (λ x. IsLive begin x) (append-nil front) (f.back (Part Any) [] (stop tt))

-- Without a token no operator is counted.
abbrev Bounded : Aim → State → List Piece → Type 0
Bounded (Part (Over limit)) state [] = limit < state.operators
Bounded (Part (Over limit)) state (p ∷ ps) = Unit {0}
Bounded (Part (Within limit)) state ps = Unit {0}
Bounded (Part Any) state ps = Unit {0}
Bounded (Whole values) state ps = Unit {0}

bounded_stop : (aim : Aim) (state : State) → Accepts aim state → Bounded aim state []
bounded_stop (Part Any) state ok = tt
bounded_stop (Part (Within limit)) state ok = tt
bounded_stop (Part (Over limit)) state ok = ok
bounded_stop (Whole values) state ok = tt

bounded_take : (aim : Aim) (state : State) (p : Piece) (ps : List Piece) → Bounded aim state (p ∷ ps)
bounded_take (Part Any) state p ps = tt
bounded_take (Part (Within limit)) state p ps = tt
bounded_take (Part (Over limit)) state p ps = tt
bounded_take (Whole values) state p ps = tt

fewer_outer : (b : Bool) (limit n : ℕ) → limit < cond b 0 n → limit < n
fewer_outer true limit n h = omega arith
fewer_outer false limit n h = h

bounded_act : (a : Action) (aim : Aim) (state : State) (ps : List Piece) → Bounded aim (effect a state) ps → Bounded aim state ps
bounded_act a (Part Any) state ps b = tt
bounded_act a (Part (Within limit)) state ps b = tt
bounded_act a (Part (Over limit)) state [] b = fewer_outer (is_outer a) limit state.operators b
bounded_act a (Part (Over limit)) state (p ∷ ps) b = tt
bounded_act a (Whole values) state ps b = tt

bounded : {aim : Aim} {symbols : List Symbol} {state : State} {ps : List Piece} → Goes choices aim symbols state ps → Bounded aim state ps
bounded (stop {aim = aim} {state = state} ok) = bounded_stop aim state ok
bounded (end e) = tt
bounded (take_token {aim = aim} {state = state} {p = p} {ps = ps} e g) = bounded_take aim state p ps
bounded (pass n g) = bounded g
bounded (act {aim = aim} {a = a} {state = state} {ps = ps} g) = bounded_act a aim state ps (bounded g)
bounded (expand m g) = bounded g

shallow_here : (begin : List Symbol) (k : Kind) (front : List Piece) (symbols : List Symbol) (state : State) → Follows begin front symbols state → least symbols state.depth ≤ depth_limit k → IsDeep begin k front → ⊥
shallow_here begin k front symbols state f le deep =
    deep (subst (λ x. Goes alternatives (Part (Within (depth_limit k))) begin empty x) (append-nil front) (f.back (Part (Within (depth_limit k))) [] (reach (depth_limit k) symbols state le)))

deep_here : (begin : List Symbol) (k : Kind) (front : List Piece) (symbols : List Symbol) (state : State) → Follows begin front symbols state → depth_limit k < least symbols state.depth → IsDeep begin k front
deep_here begin k front symbols state f lt g =
    not_within (depth_limit k) symbols state lt (f.there (Part (Within (depth_limit k))) [] (subst (λ x. Goes alternatives (Part (Within (depth_limit k))) begin empty x) (sym (append-nil front)) g))

few_here : (begin : List Symbol) (front : List Piece) (symbols : List Symbol) (state : State) → Follows begin front symbols state → state.operators ≤ operator_limit → IsOver begin front → ⊥
few_here begin front symbols state f le over =
    let b : 1000 < state.operators = bounded (f.there (Part (Over operator_limit)) [] (subst (λ x. IsOver begin x) (sym (append-nil front)) over)) in absurd (omega arith)

-- The tokens one by one.

front_more : (ps : List Piece) (i : ℕ) (p : Piece) → slice_get ps i ≡ Some p → take (i + 1) ps ≡ take i ps ++ p ∷ []
front_more ps i p e = take_more ps i p (slice_get_within ps i p e) ∙ ap (λ x. take i ps ++ x ∷ []) (get_or_from_slice_get ps i p p e)

sound_here : (begin : List Symbol) (ps : List Piece) (i : ℕ) (p : Piece) (symbols : List Symbol) (state : State) (symbols' : List Symbol) (state' : State)
    → slice_get ps i ≡ Some p → Follows begin (take i ps) symbols state → Meets p symbols state symbols' state' → Follows begin (take (i + 1) ps) symbols' state'
    → (c : ReadCause) → IsFault begin ps i c → ⊥
sound_here begin ps i p symbols state symbols' state' e f m f' (cause.LeftOut word) (q, d, k, w) =
    let same : p ≡ q = some_is (sym e ∙ d) in m.named (ap (λ x. x.kind) same ∙ k)
sound_here begin ps i p symbols state symbols' state' e f m f' cause.TooDeep (inl (q, d, deep)) =
    let same : p ≡ q = some_is (sym e ∙ d) in
    shallow_here begin p.kind (take i ps) symbols state f m.shallow (subst (λ x. IsDeep begin x.kind (take i ps)) (sym same) deep)
sound_here begin ps i p symbols state symbols' state' e f m f' cause.TooDeep (inr over) = few_here begin (take (i + 1) ps) symbols' state' f' m.few over
sound_here begin ps i p symbols state symbols' state' e f m f' cause.Unexpected h = h (live_so_far begin (take (i + 1) ps) symbols' state' f')
sound_here begin ps i p symbols state symbols' state' e f m f' cause.BadByte h = h
sound_here begin ps i p symbols state symbols' state' e f m f' cause.BadToken h = h
sound_here begin ps i p symbols state symbols' state' e f m f' cause.Unclosed h = h
sound_here begin ps i p symbols state symbols' state' e f m f' cause.Literal h = h
sound_here begin ps i p symbols state symbols' state' e f m f' cause.TooLong h = h

up_to : (begin : List Symbol) (ps : List Piece) (i : ℕ) → AreSound begin ps i → ((c : ReadCause) → IsFault begin ps i c → ⊥) → AreSound begin ps (i + 1)
up_to begin ps i below here j c lt h = below_more (λ j. (c : ReadCause) → IsFault begin ps j c → ⊥) i (λ j lt c h. below j c lt h) here j lt c h

pub steps_on : (begin : List Symbol) (ps : List Piece) (i : ℕ) (p : Piece) (symbols : List Symbol) (state : State) (symbols' : List Symbol) (state' : State)
    → FollowsAt begin ps i symbols state → slice_get ps i ≡ Some p → Meets p symbols state symbols' state' → FollowsAt begin ps (i + 1) symbols' state'
steps_on begin ps i p symbols state symbols' state' f e m =
    let f' : Follows begin (take (i + 1) ps) symbols' state' = follows_next begin _ _ p symbols state symbols' state' f.follows m.takes (front_more ps i p e) in
    record {
      follows = f';
      sound = up_to begin ps i f.sound (sound_here begin ps i p symbols state symbols' state' e f.follows m f');
      few = m.few;
      room = let deeper : state'.depth ≤ state.depth + 1 = m.takes.deeper in let room : state.depth ≤ i = f.room in omega arith;
    }

-- No fault of an earlier cause stands beside it.
least_left_out : (begin : List Symbol) (ps : List Piece) (i : ℕ) (d : ReadCause) → rank d < 4 → IsFault begin ps i d → ⊥
least_left_out begin ps i cause.BadByte l h = h
least_left_out begin ps i cause.Unclosed l h = h
least_left_out begin ps i cause.BadToken l h = h
least_left_out begin ps i cause.Literal l h = h
least_left_out begin ps i (cause.LeftOut word) l h = omega arith
least_left_out begin ps i cause.TooDeep l h = omega arith
least_left_out begin ps i cause.Unexpected l h = omega arith
least_left_out begin ps i cause.TooLong l h = omega arith

least_deep : (begin : List Symbol) (ps : List Piece) (i : ℕ) (p : Piece) → slice_get ps i ≡ Some p → p.kind ≢ kind.LeftOut → (d : ReadCause) → rank d < 5 → IsFault begin ps i d → ⊥
least_deep begin ps i p e n (cause.LeftOut word) l (q, d, k, w) = let same : p ≡ q = some_is (sym e ∙ d) in n (ap (λ x. x.kind) same ∙ k)
least_deep begin ps i p e n cause.BadByte l h = h
least_deep begin ps i p e n cause.Unclosed l h = h
least_deep begin ps i p e n cause.BadToken l h = h
least_deep begin ps i p e n cause.Literal l h = h
least_deep begin ps i p e n cause.TooDeep l h = omega arith
least_deep begin ps i p e n cause.Unexpected l h = omega arith
least_deep begin ps i p e n cause.TooLong l h = omega arith

-- More operators than there may be are not counted where the token can't be taken.
not_over : (begin : List Symbol) (ps : List Piece) (i : ℕ) (p : Piece) (symbols : List Symbol) (state : State)
    → Follows begin (take i ps) symbols state → slice_get ps i ≡ Some p → NeverTakes p symbols state → IsOver begin (take (i + 1) ps) → ⊥
not_over begin ps i p symbols state f e n over =
    n (Part (Over operator_limit)) [] (f.there (Part (Over operator_limit)) (p ∷ []) (subst (λ x. IsOver begin x) (front_more ps i p e) over))

least_unexpected : (begin : List Symbol) (ps : List Piece) (i : ℕ) (p : Piece) (symbols : List Symbol) (state : State)
    → Follows begin (take i ps) symbols state → slice_get ps i ≡ Some p → p.kind ≢ kind.LeftOut → least symbols state.depth ≤ depth_limit p.kind → NeverTakes p symbols state
    → (d : ReadCause) → rank d < 6 → IsFault begin ps i d → ⊥
least_unexpected begin ps i p symbols state f e n s t cause.TooDeep l (inl (q, d, deep)) =
    let same : p ≡ q = some_is (sym e ∙ d) in
    shallow_here begin p.kind (take i ps) symbols state f s (subst (λ x. IsDeep begin x.kind (take i ps)) (sym same) deep)
least_unexpected begin ps i p symbols state f e n s t cause.TooDeep l (inr over) = not_over begin ps i p symbols state f e t over
least_unexpected begin ps i p symbols state f e n s t cause.Unexpected l h = omega arith
least_unexpected begin ps i p symbols state f e n s t cause.TooLong l h = omega arith
least_unexpected begin ps i p symbols state f e n s t (cause.LeftOut word) l (q, d, k, w) = let same : p ≡ q = some_is (sym e ∙ d) in n (ap (λ x. x.kind) same ∙ k)
least_unexpected begin ps i p symbols state f e n s t cause.BadByte l h = h
least_unexpected begin ps i p symbols state f e n s t cause.Unclosed l h = h
least_unexpected begin ps i p symbols state f e n s t cause.BadToken l h = h
least_unexpected begin ps i p symbols state f e n s t cause.Literal l h = h

first_at : (begin : List Symbol) (ps : List Piece) (i : ℕ) (p : Piece) (symbols : List Symbol) (state : State) (c : ReadCause)
    → FollowsAt begin ps i symbols state → slice_get ps i ≡ Some p → IsFault begin ps i c → ((d : ReadCause) → rank d < rank c → IsFault begin ps i d → ⊥) → IsFirst begin ps i c
first_at begin ps i p symbols state c f e here least = record {
  live = live_so_far begin (take i ps) symbols state f.follows;
  sound = f.sound;
  within = slice_get_within ps i p e;
  here = here;
  least = least;
}

pub faults_on : (begin : List Symbol) (ps : List Piece) (i : ℕ) (p : Piece) (symbols : List Symbol) (state : State) (c : ReadCause)
    → FollowsAt begin ps i symbols state → slice_get ps i ≡ Some p → Misses p symbols state c → IsFirst begin ps i c
faults_on begin ps i p symbols state (cause.LeftOut word) f e m = first_at begin ps i p symbols state _ f e (p, e, m.0, m.1) (least_left_out begin ps i)
faults_on begin ps i p symbols state cause.TooDeep f e (n, inl deep) =
    first_at begin ps i p symbols state _ f e (inl (p, e, deep_here begin p.kind (take i ps) symbols state f.follows deep)) (least_deep begin ps i p e n)
faults_on begin ps i p symbols state cause.TooDeep f e (n, inr (symbols', (state', (t, over)))) =
    let f' : Follows begin (take (i + 1) ps) symbols' state' = follows_next begin _ _ p symbols state symbols' state' f.follows t (front_more ps i p e) in
    first_at begin ps i p symbols state _ f e
    (inr (subst (λ x. IsOver begin x) (append-nil (take (i + 1) ps)) (f'.back (Part (Over operator_limit)) [] (stop over))))
    (least_deep begin ps i p e n)
faults_on begin ps i p symbols state cause.Unexpected f e (n, (s, t)) =
    first_at begin ps i p symbols state _ f e
    (λ live. t (Part Any) [] (f.follows.there (Part Any) (p ∷ []) (subst (λ x. IsLive begin x) (front_more ps i p e) live)))
    (least_unexpected begin ps i p symbols state f.follows e n s t)
faults_on begin ps i p symbols state cause.BadByte f e m = absurd m
faults_on begin ps i p symbols state cause.BadToken f e m = absurd m
faults_on begin ps i p symbols state cause.Unclosed f e m = absurd m
faults_on begin ps i p symbols state cause.Literal f e m = absurd m
faults_on begin ps i p symbols state cause.TooLong f e m = absurd m

-- In the form in which the loop of `parse` has it: the pieces are what is seen of the items of a list.

pub starts_on : (begin : List Symbol) (ps : List Piece) (symbols : List Symbol) (state : State)
    → FitsReader begin → symbols ≡ begin → state ≡ empty → FollowsAt begin ps 0 symbols state
starts_on begin ps symbols state fits e d = record {
  follows = subst (λ x. Follows begin [] symbols x) (sym d) (subst (λ x. Follows begin [] x empty) (sym e) (follows_start begin fits));
  sound = λ j c lt h. absurd (omega arith);
  few = subst (λ x. x.operators ≤ operator_limit) (sym d) (omega arith);
  room = subst (λ x. x.depth ≤ 0) (sym d) (omega arith);
}

pub starts_at : (begin : List Symbol) (ps : List Piece) (old stack : List Symbol) (values : List Value)
    → FitsReader begin → reverse stack ≡ begin ++ reverse old → old ≡ [] → values ≡ []
    → FollowsAt begin ps 0 (reverse stack) (record { values = reverse values; depth = 0; operators = 0 })
starts_at begin ps old stack values fits e d v =
    starts_on begin ps _ _ fits (e ∙ ap (λ x. begin ++ reverse x) d ∙ append-nil begin) (ap (λ x. record { values = reverse x; depth = 0; operators = 0 }) v)

module _ {X : Type 0} (seen : X → Piece) where
  pub piece_at : (xs : List X) (i : ℕ) (x : X) → i < length xs → x ≡ get_or xs i x → slice_get (map seen xs) i ≡ Some (seen x)
  piece_at xs i x lt e = slice_get-map seen xs i ∙ ap (λ o. option_map seen o) (slice_get-get_or xs i x lt ∙ ap (λ x. Some x) (sym e))

  pub steps_at : (begin : List Symbol) (xs : List X) (i : ℕ) (x : X) (symbols : List Symbol) (state : State) (symbols' : List Symbol) (state' : State) (o : Option ReadCause)
      → FollowsAt begin (map seen xs) i symbols state → i < length xs → x ≡ get_or xs i x
      → MatchOption o (Meets (seen x) symbols state symbols' state') (Misses (seen x) symbols state) → o ≡ None
      → FollowsAt begin (map seen xs) (i + 1) symbols' state'
  steps_at begin xs i x symbols state symbols' state' o f lt d h e =
      steps_on begin (map seen xs) i (seen x) symbols state symbols' state' f (piece_at xs i x lt d)
      (subst (λ y. MatchOption y (Meets (seen x) symbols state symbols' state') (Misses (seen x) symbols state)) e h)

  pub faults_at : (begin : List Symbol) (xs : List X) (i : ℕ) (x : X) (symbols : List Symbol) (state : State) (symbols' : List Symbol) (state' : State) (o : Option ReadCause) (c : ReadCause)
      → FollowsAt begin (map seen xs) i symbols state → i < length xs → x ≡ get_or xs i x
      → MatchOption o (Meets (seen x) symbols state symbols' state') (Misses (seen x) symbols state) → o ≡ Some c
      → IsFirst begin (map seen xs) i c
  faults_at begin xs i x symbols state symbols' state' o c f lt d h e =
      faults_on begin (map seen xs) i (seen x) symbols state c f (piece_at xs i x lt d)
      (subst (λ y. MatchOption y (Meets (seen x) symbols state symbols' state') (Misses (seen x) symbols state)) e h)

at_the_end : (begin : List Symbol) (ps : List Piece) (i : ℕ) (symbols : List Symbol) (state : State) → length ps ≤ i → FollowsAt begin ps i symbols state → Follows begin ps symbols state × AreSound begin ps (length ps)
at_the_end begin ps i symbols state le f =
    (subst (λ x. Follows begin x symbols state) (take_all i ps le) f.follows, λ j c lt h. f.sound j c (omega arith) h)

pub reads_on : (begin : List Symbol) (ps : List Piece) (i : ℕ) (symbols : List Symbol) (state state' : State)
    → FollowsAt begin ps i symbols state → length ps ≤ i → Finishes symbols state state' → IsReading begin ps state'.values
reads_on begin ps i symbols state state' f le d =
    let (f', sound) : Follows begin ps symbols state × AreSound begin ps (length ps) = at_the_end begin ps i symbols state le f in
    record {
      reads = subst (λ x. Reads begin x state'.values) (append-nil ps) (f'.back (Whole state'.values) [] d.done);
      only = λ others r. d.only others (f'.there (Whole others) [] (subst (λ x. Reads begin x others) (sym (append-nil ps)) r));
      sound = sound;
    }

pub cut_on : (begin : List Symbol) (ps : List Piece) (i : ℕ) (symbols : List Symbol) (state : State)
    → FollowsAt begin ps i symbols state → length ps ≤ i → NeverFinishes symbols state → IsCutShort begin ps
cut_on begin ps i symbols state f le n =
    let (f', sound) : Follows begin ps symbols state × AreSound begin ps (length ps) = at_the_end begin ps i symbols state le f in
    record {
      live = live_so_far begin ps symbols state f';
      sound = sound;
      here = λ others r. n others (f'.there (Whole others) [] (subst (λ x. Goes alternatives (Whole others) begin empty x) (sym (append-nil ps)) r));
    }

module _ {X : Type 0} (seen : X → Piece) where
  pub reads_at : (begin : List Symbol) (xs : List X) (i : ℕ) (symbols : List Symbol) (state state' : State) (b : Bool) (vs : List Value)
      → FollowsAt begin (map seen xs) i symbols state → length xs ≤ i → MatchBool b (Finishes symbols state state') (NeverFinishes symbols state) → b ≡ true
      → vs ≡ state'.values → IsReading begin (map seen xs) vs
  reads_at begin xs i symbols state state' b vs f le h e d =
      subst (λ x. IsReading begin (map seen xs) x) (sym d)
      (reads_on begin (map seen xs) i symbols state state' f (rw (length-map xs seen) le) (when_true _ _ e h))

  pub cut_at : (begin : List Symbol) (xs : List X) (i : ℕ) (symbols : List Symbol) (state state' : State) (b : Bool)
      → FollowsAt begin (map seen xs) i symbols state → length xs ≤ i → MatchBool b (Finishes symbols state state') (NeverFinishes symbols state) → b ≡ false
      → IsCutShort begin (map seen xs)
  cut_at begin xs i symbols state state' b f le h e = cut_on begin (map seen xs) i symbols state f (rw (length-map xs seen) le) (when_false _ _ e h)

-- The machine's answer, at the case that the code is in.
pub at_case : (begin : List Symbol) (ps : List Piece) (p q : Found) → Parses begin ps p → p ≡ q → Parses begin ps q
at_case begin ps p q h e = subst (λ x. Parses begin ps x) e h

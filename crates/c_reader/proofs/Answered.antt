-- Each source is a program or has a first fault: what the machine comes to, step by step, without a machine.
use Rattle.std.proofs.Common.{◌≡◌, ◌≢◌, ℕ, zero, suc, ◌+◌, ◌<◌, ◌≤◌, ◌⊎◌, inl, inr, List, [], ◌∷◌, ◌++◌, length, Bool, true, false, refl, Option, Some, None, arith, cond, get_or}
use Rattle.std.proofs.lemmas.Bool.{leb-true, leb-false}
use Rattle.std.proofs.lemmas.Option.{slice_get-get_or}
use Rattle.std.specs.Prelude.{nat_le, slice_get}
use Rattle.c_tree.specs.declared.cause.ReadCause.{ReadCause}
use Rattle.c_tree.specs.declared.cause.ReadCause.TheVariants as cause
use Rattle.c_tree.specs.declared.program.At.{At}
use Rattle.c_tree.specs.declared.program.Program.{Program}
use Rattle.c_tokens.specs.declared.lexeme.LexemeKind.TheVariants as lexeme
use Rattle.c_tokens.specs.declared.lexeme.Scan.{Scan}
use Rattle.c_tokens.specs.Source.{scan_of}
use Rattle.c_grammar.specs.declared.kind.Kind.{Kind}
use Rattle.c_grammar.specs.declared.kind.Kind.TheVariants as kind
use Rattle.c_grammar.specs.declared.symbol.Mark.{Mark}
use Rattle.c_grammar.specs.declared.symbol.Mark.TheVariants as mark
use Rattle.c_grammar.specs.declared.symbol.Symbol.{Symbol}
use Rattle.c_grammar.specs.declared.symbol.Symbol.TheVariants.{Take, Unless, Act, Expand}
use Rattle.c_grammar.specs.declared.value.Value.{Value}
use Rattle.c_grammar.specs.Rules.{start}
use Rattle.c_grammar.specs.Values.{program_in}
use Rattle.c_grammar.specs.Effects.{State, with_token, effect, is_outer, empty}
use Rattle.c_grammar.specs.Pieces.{Piece, include}
use Rattle.c_grammar.specs.Reading.{Whole, depth_limit, operator_limit, IsFirst, IsCutShort, IsReading}
use Rattle.c_grammar.specs.Source.{pieces_of, IsProgramOf, IsFirstFault, too_long, within}
use Rattle.c_reader.specs.Answered.{IsAnswered}
use Rattle.c_reader.specs.Choices.{choices, first_kinds}
use Rattle.c_reader.specs.Depth.{least}
use Rattle.c_reader.specs.Follow.{FitsReader, Refuses, Reached, Changed, work}
use Rattle.c_reader.specs.Outcome.{Meets, Misses, FollowsAt}
use Rattle.c_reader.specs.Picks.{is_kind, predict}
use Rattle.c_reader.proofs.Choice.{kind_is}
use Rattle.c_reader.proofs.Turns.{differ, same_kind, leads_trans, refuses_before, take_reached, take_refused, unless_refused, unless_changed, act_changed, none_reached, none_refused, expand_refused, expand_changed}
use Rattle.c_reader.proofs.Outcomes.{takes, never_takes, finishes, starts_on, steps_on, faults_on, reads_on, cut_on}
use Rattle.c_reader.proofs.Sources.{program_here, fault_behind, fault_behind_cut, fault_at_end, fault_here, program_whole}

-- Before the next token, the symbols come to where it is taken, or refuse it.
abbrev Advanced : Option Kind → List Symbol → State → Type 0
Advanced ahead symbols state =
    ((m : Mark) × (symbols' : List Symbol) × (state' : State) × Reached m ahead symbols state symbols' state' × (state'.depth ≤ state.depth) × (state'.operators ≤ state.operators))
    ⊎ Refuses ahead symbols state

further : (ahead : Option Kind) (s : List Symbol) (v : State) (s' : List Symbol) (v' : State)
    → Changed ahead s v s' v' → v'.depth ≤ v.depth → v'.operators ≤ v.operators → Advanced ahead s' v' → Advanced ahead s v
further ahead s v s' v' c d o (inl (m, s'', v'', r, d', o')) = inl (m, s'', v'', (leads_trans ahead s v s' v' _ _ c.leads r.0, r.1), omega arith, omega arith)
further ahead s v s' v' c d o (inr r) = inr (refuses_before ahead s v s' v' c.leads r)

fewer : (b : Bool) (n : ℕ) → cond b 0 n ≤ n
fewer true n = omega arith
fewer false n = omega arith

advance : (n : ℕ) (ahead : Option Kind) (symbols : List Symbol) (state : State) → FitsReader symbols → work symbols < n → Advanced ahead symbols state
advance zero ahead symbols state fits lt = absurd (omega arith)
advance (suc n) None [] state fits lt = inl (mark.Skip, [], state, none_reached mark.Skip state, omega arith, omega arith)
advance (suc n) (Some k) [] state fits lt = inr (none_refused k state)
advance (suc n) ahead (Take k d ∷ symbols) state fits lt = go (is_kind k ahead) refl
  where
    go : (b : Bool) → is_kind k ahead ≡ b → Advanced ahead (Take k d ∷ symbols) state
    go true h = inl (d, symbols, state, take_reached ahead k d symbols state fits h, omega arith, omega arith)
    go false h = inr (take_refused ahead k d symbols state h)
advance (suc n) ahead (Unless k ∷ symbols) state fits lt = go (is_kind k ahead) refl (λ f l. advance n ahead symbols state f l)
  where
    go : (b : Bool) → is_kind k ahead ≡ b → (FitsReader symbols → work symbols < n → Advanced ahead symbols state) → Advanced ahead (Unless k ∷ symbols) state
    go true h ih = inr (unless_refused ahead k symbols state h)
    go false h ih =
        let c : Changed ahead (Unless k ∷ symbols) state symbols state = unless_changed ahead k symbols state fits h in
        let less : work symbols < work (Unless k ∷ symbols) = c.less in
        further ahead (Unless k ∷ symbols) state symbols state c (omega arith) (omega arith) (ih c.fits (omega arith))
advance (suc n) ahead (Act a ∷ symbols) state fits lt =
    let c : Changed ahead (Act a ∷ symbols) state symbols (effect a state) = act_changed ahead a symbols state fits in
    let less : work symbols < work (Act a ∷ symbols) = c.less in
    further ahead (Act a ∷ symbols) state symbols (effect a state) c (omega arith) (fewer (is_outer a) state.operators) (advance n ahead symbols (effect a state) c.fits (omega arith))
advance (suc n) ahead (Expand r ∷ symbols) state fits lt = go (predict choices first_kinds r ahead) refl (λ front f l. advance n ahead (front ++ symbols) state f l)
  where
    go : (o : Option (List Symbol)) → predict choices first_kinds r ahead ≡ o
        → ((front : List Symbol) → FitsReader (front ++ symbols) → work (front ++ symbols) < n → Advanced ahead (front ++ symbols) state) → Advanced ahead (Expand r ∷ symbols) state
    go None h ih = inr (expand_refused ahead r symbols state fits h)
    go (Some front) h ih =
        let c : Changed ahead (Expand r ∷ symbols) state (front ++ symbols) state = expand_changed ahead r symbols state front fits h in
        let less : work (front ++ symbols) < work (Expand r ∷ symbols) = c.less in
        further ahead (Expand r ∷ symbols) state (front ++ symbols) state c (omega arith) (omega arith) (ih front c.fits (omega arith))

advanced : (ahead : Option Kind) (symbols : List Symbol) (state : State) → FitsReader symbols → Advanced ahead symbols state
advanced ahead symbols state fits = advance (work symbols + 1) ahead symbols state fits (omega arith)

-- A token is met or is a fault.
abbrev Met : Piece → List Symbol → State → Type 0
Met p symbols state = ((symbols' : List Symbol) × (state' : State) × Meets p symbols state symbols' state') ⊎ ((c : ReadCause) × Misses p symbols state c)

met_reached : (p : Piece) (symbols : List Symbol) (state : State) → p.kind ≢ kind.LeftOut → least symbols state.depth ≤ depth_limit p.kind → Advanced (Some p.kind) symbols state → Met p symbols state
met_reached p symbols state named shallow (inr r) = inr (cause.Unexpected, (named, (shallow, never_takes p symbols state r)))
met_reached p symbols state named shallow (inl (m, s', v', r, d, o)) = go (nat_le (with_token m p.value v').operators operator_limit) refl
  where
    go : (b : Bool) → nat_le (with_token m p.value v').operators operator_limit ≡ b → Met p symbols state
    go true h = inl (s', with_token m p.value v', record { named = named; shallow = shallow; takes = takes m p symbols state s' v' r d o; few = leb-true _ _ h })
    go false h = inr (cause.TooDeep, (named, inr (s', (with_token m p.value v', (takes m p symbols state s' v' r d o, leb-false _ _ h)))))

met_named : (p : Piece) (symbols : List Symbol) (state : State) → FitsReader symbols → p.kind ≢ kind.LeftOut → Met p symbols state
met_named p symbols state fits named = go (nat_le (least symbols state.depth) (depth_limit p.kind)) refl
  where
    go : (b : Bool) → nat_le (least symbols state.depth) (depth_limit p.kind) ≡ b → Met p symbols state
    go true h = met_reached p symbols state named (leb-true _ _ h) (advanced (Some p.kind) symbols state fits)
    go false h = inr (cause.TooDeep, (named, inl (leb-false _ _ h)))

met : (p : Piece) (symbols : List Symbol) (state : State) → FitsReader symbols → Met p symbols state
met p symbols state fits = go (is_kind kind.LeftOut (Some p.kind)) refl
  where
    go : (b : Bool) → is_kind kind.LeftOut (Some p.kind) ≡ b → Met p symbols state
    go true h = inr (cause.LeftOut _, (same_kind p.kind kind.LeftOut h, refl))
    go false h = met_named p symbols state fits (λ e. differ (is_kind kind.LeftOut (Some p.kind)) (kind_is p.kind kind.LeftOut e) h)

-- The tokens are a text, have a first fault, or break off.
abbrev pub Parsed : List Symbol → List Piece → Type 0
Parsed begin ps = ((values : List Value) × IsReading begin ps values) ⊎ (((i : ℕ) × (c : ReadCause) × IsFirst begin ps i c) ⊎ IsCutShort begin ps)

parsed_all : (begin : List Symbol) (ps : List Piece) (i : ℕ) (symbols : List Symbol) (state : State) → length ps ≤ i → FollowsAt begin ps i symbols state → Advanced None symbols state → Parsed begin ps
parsed_all begin ps i symbols state le f (inl (m, s', v', r, d, o)) = inl (v'.values, reads_on begin ps i symbols state v' f le (finishes m symbols state s' v' r))
parsed_all begin ps i symbols state le f (inr r) = inr (inr (cut_on begin ps i symbols state f le (λ others g. r (Whole others) [] refl g)))

parsed_from : (begin : List Symbol) (ps : List Piece) (n i : ℕ) (symbols : List Symbol) (state : State) → length ps ≡ i + n → FollowsAt begin ps i symbols state → Parsed begin ps
parsed_from begin ps zero i symbols state e f = parsed_all begin ps i symbols state (omega arith) f (advanced None symbols state f.follows.fits)
parsed_from begin ps (suc n) i symbols state e f =
    let p : Piece = get_or ps i (include 0) in
    let here : slice_get ps i ≡ Some p = slice_get-get_or ps i (include 0) (omega arith) in
    go p here (met p symbols state f.follows.fits) (λ s v g. parsed_from begin ps n (i + 1) s v (omega arith) g)
  where
    go : (p : Piece) → slice_get ps i ≡ Some p → Met p symbols state
        → ((s : List Symbol) (v : State) → FollowsAt begin ps (i + 1) s v → Parsed begin ps) → Parsed begin ps
    go p here (inl (s', v', m)) more = more s' v' (steps_on begin ps i p symbols state s' v' f here m)
    go p here (inr (c, m)) more = inr (inl (i, c, faults_on begin ps i p symbols state c f here m))

pub parsed : (begin : List Symbol) (ps : List Piece) → FitsReader begin → Parsed begin ps
parsed begin ps fits = parsed_from begin ps (length ps) 0 begin empty (omega arith) (starts_on begin ps begin empty fits refl refl)

fits_start : FitsReader start
fits_start = (refl, (λ k b m. m, tt))

answered_within : (bytes : List ℕ) → length bytes ≤ 1048576 → Parsed start (pieces_of (scan_of bytes)) → IsAnswered bytes
answered_within bytes le (inl (values, r)) = go (scan_of bytes).fault refl
  where
    go : (o : Option (At ReadCause)) → (scan_of bytes).fault ≡ o → IsAnswered bytes
    go None e =
        let program : Program = record (program_in values) { len = length bytes } in
        inl (program, program_whole bytes (scan_of bytes) program le refl (program_here (scan_of bytes) (length bytes) values program r e refl))
    go (Some why) e = inr (why.at, why.it, within le (fault_behind (scan_of bytes) (length bytes) values why r e))
answered_within bytes le (inr (inl (i, c, f))) = inr (_, c, within le (fault_here (scan_of bytes) (length bytes) i (record { kind = lexeme.Include; at = 0; len = 0 }) c f))
answered_within bytes le (inr (inr cut)) = go (scan_of bytes).fault refl
  where
    go : (o : Option (At ReadCause)) → (scan_of bytes).fault ≡ o → IsAnswered bytes
    go None e = inr (length bytes, cause.Unexpected, within le (fault_at_end (scan_of bytes) (length bytes) cut e))
    go (Some why) e = inr (why.at, why.it, within le (fault_behind_cut (scan_of bytes) (length bytes) why cut e))

pub answered : (bytes : List ℕ) → IsAnswered bytes
answered bytes = go (nat_le (length bytes) 1048576) refl
  where
    go : (b : Bool) → nat_le (length bytes) 1048576 ≡ b → IsAnswered bytes
    go true h = answered_within bytes (leb-true _ _ h) (parsed start (pieces_of (scan_of bytes)) fits_start)
    go false h = inr (1048576, cause.TooLong, too_long (leb-false _ _ h) refl refl)

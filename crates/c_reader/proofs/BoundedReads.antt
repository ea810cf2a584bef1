-- What goes to the end of a text within the limits is its reading, where no token is a left-out word.
use Rattle.std.proofs.Common.{◌≡◌, ◌≢◌, ℕ, ◌≤◌, List, [], ◌∷◌, ◌++◌, length, refl, sym, ◌∙◌, ap, subst, Some, None, append_assoc, append-nil, arith}
use Rattle.std.proofs.lemmas.Option.{slice_get_within}
use Rattle.std.specs.Prelude.{slice_get}
use Rattle.c_tree.specs.declared.cause.ReadCause.TheVariants as cause
use Rattle.c_grammar.specs.declared.kind.Kind.TheVariants as kind
use Rattle.c_grammar.specs.declared.symbol.Mark.TheVariants as mark
use Rattle.c_grammar.specs.declared.symbol.Symbol.{Symbol}
use Rattle.c_grammar.specs.declared.symbol.Symbol.TheVariants.{Take, Unless, Act, Expand}
use Rattle.c_grammar.specs.declared.value.Value.{Value}
use Rattle.c_grammar.specs.Tokens.{text_of}
use Rattle.c_grammar.specs.Values.{word_in}
use Rattle.c_grammar.specs.Effects.{State, with_token, effect, is_outer, empty}
use Rattle.c_grammar.specs.Pieces.{Piece}
use Rattle.c_grammar.specs.Reading.{Whole, Goes, NextIsNot, depth_limit, IsReading}
use Rattle.c_reader.specs.Choices.{choices, first_kinds}
use Rattle.c_reader.specs.Depth.{least}
use Rattle.c_reader.specs.Follow.{FitsReader, Leads, Reached}
use Rattle.c_reader.specs.Outcome.{Meets, FollowsAt}
use Rattle.c_reader.specs.Ranks.{blocked_kinds, used_rules}
use Rattle.c_reader.proofs.Bounded.{Bounded, done, takes_one, passes_on, acts, expands, Came, onward, goes_so}
use Rattle.c_reader.proofs.Choice.{kind_is, chosen, chosen_end}
use Rattle.c_reader.proofs.Limits.{fewer_left, not_next, here, length_more}
use Rattle.c_reader.proofs.Outcomes.{takes, finishes, starts_on, steps_on, reads_on}
use Rattle.c_reader.proofs.Tables.{all_kinds, kind_place, tables_good, tables_good_end}
use Rattle.c_reader.proofs.Turns.{leads_refl, leads_trans, take_reached, unless_changed, act_changed, expand_changed}

-- no token is a left-out word
abbrev pub NoneLeftOut : List Piece → Type 0
NoneLeftOut ps = (i : ℕ) (p : Piece) → slice_get ps i ≡ Some p → p.kind ≢ kind.LeftOut

-- From behind the last token, the machine has come here before the next one, or before the end.
abbrev Toward : List Symbol → State → List Symbol → State → List Piece → Type 0
Toward old past symbols state [] = Leads None old past symbols state × FitsReader symbols
Toward old past symbols state (p ∷ ps) = Came old past symbols state p

toward_here : (symbols : List Symbol) (state : State) (ps : List Piece) → FitsReader symbols → Toward symbols state symbols state ps
toward_here symbols state [] fits = (leads_refl None symbols state, fits)
toward_here symbols state (p ∷ ps) fits = record { leads = leads_refl (Some p.kind) symbols state; fits = fits; lower = omega arith; fewer = omega arith }

past_unless : (old : List Symbol) (past : State) (k : _) (symbols : List Symbol) (state : State) (ps : List Piece) → NextIsNot k ps
    → Toward old past (Unless k ∷ symbols) state ps → Toward old past symbols state ps
past_unless old past k symbols state [] n t =
    let c = unless_changed None k symbols state t.1 refl in (leads_trans None old past (Unless k ∷ symbols) state symbols state t.0 c.leads, c.fits)
past_unless old past k symbols state (p ∷ ps) n t =
    onward old past (Unless k ∷ symbols) state symbols state p t (unless_changed (Some p.kind) k symbols state t.fits (not_next k p.kind n)) (omega arith) (omega arith)

past_act : (old : List Symbol) (past : State) (a : _) (symbols : List Symbol) (state : State) (ps : List Piece)
    → Toward old past (Act a ∷ symbols) state ps → Toward old past symbols (effect a state) ps
past_act old past a symbols state [] t =
    let c = act_changed None a symbols state t.1 in (leads_trans None old past (Act a ∷ symbols) state symbols (effect a state) t.0 c.leads, c.fits)
past_act old past a symbols state (p ∷ ps) t =
    onward old past (Act a ∷ symbols) state symbols (effect a state) p t (act_changed (Some p.kind) a symbols state t.fits) (omega arith) (fewer_left (is_outer a) state.operators)

module _ (begin : List Symbol) (all : List Piece) (values : List Value) (named : NoneLeftOut all) where
  reads : {symbols : List Symbol} {state : State} {low : ℕ} {ps : List Piece} (front : List Piece) (old : List Symbol) (past : State)
      → all ≡ front ++ ps → FollowsAt begin all (length front) old past → Toward old past symbols state ps → low ≡ least old past.depth
      → Bounded values symbols state low ps → IsReading begin all values
  reads front old past e f t l (done {state = state} is) =
      let whole : length all ≤ length front = rw (e, append-nil) (omega arith) in
      subst (λ v. IsReading begin all v) (sym is) (reads_on begin all (length front) old past state f whole (finishes mark.Skip old past [] state (t.0, (tt, λ e. refl))))
  reads front old past e f t l (takes_one {k = k} {mark = mark} {symbols = symbols} {state = state} {p = p} {ps = ps} same le few g) =
      let at : slice_get all (length front) ≡ Some p = ap (λ x. slice_get x (length front)) e ∙ here front p ps in
      let one = take_reached (Some p.kind) k mark symbols state t.fits (kind_is p.kind k same) in
      let reached : Reached mark (Some p.kind) old past symbols state = (leads_trans (Some p.kind) old past (Take k mark ∷ symbols) state _ _ t.leads one.0, one.1) in
      let taken = takes mark p old past symbols state reached t.lower t.fewer in
      let m : Meets p old past symbols (with_token mark p.value state) = record {
        named = named (length front) p at;
        shallow = subst (λ q. least old past.depth ≤ depth_limit q) (sym same) (subst (λ n. n ≤ depth_limit k) l le);
        takes = taken;
        few = few;
      } in
      let next = steps_on begin all (length front) p old past symbols (with_token mark p.value state) f at m in
      reads (front ++ p ∷ []) symbols (with_token mark p.value state) (e ∙ sym (append_assoc front (p ∷ []) ps))
      (subst (λ i. FollowsAt begin all i symbols (with_token mark p.value state)) (sym (length_more front p)) next)
      (toward_here symbols (with_token mark p.value state) ps taken.fits) refl g
  reads front old past e f t l (passes_on {k = k} {symbols = symbols} {state = state} {ps = ps} n g) = reads front old past e f (past_unless old past k symbols state ps n t) l g
  reads front old past e f t l (acts {a = a} {symbols = symbols} {state = state} {ps = ps} g) = reads front old past e f (past_act old past a symbols state ps t) l g
  reads front old past e f t l (expands {r = r} {front = body} {symbols = symbols} {state = state} {ps = ps} m g) =
      reads front old past e f (go ps t (goes_so g)) l g
    where
      go : (ps : List Piece) → Toward old past (Expand r ∷ symbols) state ps → Goes choices (Whole values) (body ++ symbols) state ps → Toward old past (body ++ symbols) state ps
      go [] t g =
          let found = chosen_end all_kinds kind_place choices first_kinds blocked_kinds used_rules tables_good tables_good_end {r = r} {front = body} symbols t.1 m g in
          let c = expand_changed None r symbols state body t.1 found in
          (leads_trans None old past (Expand r ∷ symbols) state (body ++ symbols) state t.0 c.leads, c.fits)
      go (p ∷ ps) t g =
          let found = chosen all_kinds kind_place choices first_kinds blocked_kinds used_rules tables_good tables_good_end {r = r} {front = body} symbols t.fits m g in
          onward old past (Expand r ∷ symbols) state (body ++ symbols) state p t (expand_changed (Some p.kind) r symbols state body t.fits found) (omega arith) (omega arith)

pub bounded_reads : (begin : List Symbol) (ps : List Piece) (values : List Value) → FitsReader begin → NoneLeftOut ps → Bounded values begin empty (least begin 0) ps → IsReading begin ps values
bounded_reads begin ps values fits named g =
    reads begin ps values named [] begin empty refl (starts_on begin ps begin empty fits refl refl) (toward_here begin empty ps fits) refl g

-- No token of a reading is a left-out word.
pub none_left_out : (begin : List Symbol) (ps : List Piece) (values : List Value) → IsReading begin ps values → NoneLeftOut ps
none_left_out begin ps values r i p at k = r.sound i (cause.LeftOut (text_of (word_in (p.value ∷ [])).kind)) (slice_get_within ps i p at) (p, at, k, refl)

-- Each token of a reading is taken within the limits.
use Rattle.std.proofs.Common.{◌≡◌, ◌≢◌, ℕ, ◌<◌, ◌≤◌, ◌⊎◌, inl, inr, List, [], ◌∷◌, ◌++◌, length, refl, sym, ◌∙◌, ap, subst, Some, append_assoc, arith}
use Rattle.std.proofs.lemmas.Bool.{cases_lt}
use Rattle.std.proofs.lemmas.Option.{slice_get_within}
use Rattle.std.specs.Prelude.{slice_get}
use Rattle.c_tree.specs.declared.cause.ReadCause.{ReadCause}
use Rattle.c_tree.specs.declared.cause.ReadCause.TheVariants as cause
use Rattle.c_grammar.specs.declared.kind.Kind.{Kind}
use Rattle.c_grammar.specs.declared.kind.Kind.TheVariants as kind
use Rattle.c_grammar.specs.declared.rule.Rule.{Rule}
use Rattle.c_grammar.specs.declared.action.Action.{Action}
use Rattle.c_grammar.specs.declared.symbol.Mark.{Mark}
use Rattle.c_grammar.specs.declared.symbol.Symbol.{Symbol}
use Rattle.c_grammar.specs.declared.symbol.Symbol.TheVariants.{Take, Unless, Act, Expand}
use Rattle.c_grammar.specs.declared.value.Value.{Value}
use Rattle.c_grammar.specs.Effects.{State, with_token, effect, is_outer, empty}
use Rattle.c_grammar.specs.Pieces.{Piece}
use Rattle.c_grammar.specs.Reading.{Among, Whole, Goes, stop, end, take_token, pass, act, expand, NextIsNot, depth_limit, operator_limit, AreSound, IsReading}
use Rattle.c_reader.specs.Choices.{choices, first_kinds}
use Rattle.c_reader.specs.Depth.{least}
use Rattle.c_reader.specs.Follow.{FitsReader, Leads, Reached, Changed}
use Rattle.c_reader.specs.Outcome.{Takes, Meets, Misses, FollowsAt}
use Rattle.c_reader.specs.Ranks.{blocked_kinds, used_rules}
use Rattle.c_reader.proofs.Choice.{kind_is, chosen}
use Rattle.c_reader.proofs.Factoring.{to_reader}
use Rattle.c_reader.proofs.Limits.{fewer_left, not_next, here, length_more}
use Rattle.c_reader.proofs.Outcomes.{takes, steps_on, faults_on, starts_on}
use Rattle.c_reader.proofs.Tables.{all_kinds, kind_place, tables_good, tables_good_end}
use Rattle.c_reader.proofs.Turns.{leads_refl, leads_trans, take_reached, unless_changed, act_changed, expand_changed}

-- As `Goes` of the reader's alternatives to the end of a text. So few constructs as `low` can be open before the next token,
-- and each token that is taken keeps the limits.
pub data Bounded (values : List Value) : List Symbol → State → ℕ → List Piece → Type 0 where
  done : {state : State} {low : ℕ} → values ≡ state.values → Bounded values [] state low []
  takes_one : {k : Kind} {mark : Mark} {symbols : List Symbol} {state : State} {low : ℕ} {p : Piece} {ps : List Piece}
      → p.kind ≡ k → low ≤ depth_limit k → (with_token mark p.value state).operators ≤ operator_limit
      → Bounded values symbols (with_token mark p.value state) (least symbols (with_token mark p.value state).depth) ps → Bounded values (Take k mark ∷ symbols) state low (p ∷ ps)
  passes_on : {k : Kind} {symbols : List Symbol} {state : State} {low : ℕ} {ps : List Piece}
      → NextIsNot k ps → Bounded values symbols state low ps → Bounded values (Unless k ∷ symbols) state low ps
  acts : {a : Action} {symbols : List Symbol} {state : State} {low : ℕ} {ps : List Piece} → Bounded values symbols (effect a state) low ps → Bounded values (Act a ∷ symbols) state low ps
  expands : {r : Rule} {front symbols : List Symbol} {state : State} {low : ℕ} {ps : List Piece}
      → Among front (choices r) → Bounded values (front ++ symbols) state low ps → Bounded values (Expand r ∷ symbols) state low ps

-- From behind the last token, the machine has come here.
pub record Came (old : List Symbol) (past : State) (symbols : List Symbol) (state : State) (p : Piece) : Type 0 where
  pub leads : Leads (Some p.kind) old past symbols state
  pub fits : FitsReader symbols
  pub lower : state.depth ≤ past.depth
  pub fewer : state.operators ≤ past.operators

abbrev Through : List Symbol → State → List Symbol → State → List Piece → Type 0
Through old past symbols state [] = Unit {0}
Through old past symbols state (p ∷ ps) = Came old past symbols state p

pub onward : (old : List Symbol) (past : State) (s : List Symbol) (v : State) (s' : List Symbol) (v' : State) (p : Piece)
    → Came old past s v p → Changed (Some p.kind) s v s' v' → v'.depth ≤ v.depth → v'.operators ≤ v.operators → Came old past s' v' p
onward old past s v s' v' p t c d o = record {
  leads = leads_trans (Some p.kind) old past s v s' v' t.leads c.leads;
  fits = c.fits;
  lower = omega (arith, d, t.lower);
  fewer = omega (arith, o, t.fewer);
}

begins_there : (symbols : List Symbol) (state : State) (ps : List Piece) → FitsReader symbols → Through symbols state symbols state ps
begins_there symbols state [] fits = tt
begins_there symbols state (p ∷ ps) fits = record { leads = leads_refl (Some p.kind) symbols state; fits = fits; lower = omega arith; fewer = omega arith }

-- Where no token is a fault, the next one keeps the limits.
module _ (begin : List Symbol) (all : List Piece) (sound : AreSound begin all (length all)) (i : ℕ) (p : Piece) (old : List Symbol) (past : State)
    (f : FollowsAt begin all i old past) (at : slice_get all i ≡ Some p) where
  no_fault : (c : ReadCause) → Misses p old past c → ⊥
  no_fault c m = let y = faults_on begin all i p old past c f at m in sound i c (slice_get_within all i p at) y.here

  is_named : p.kind ≢ kind.LeftOut
  is_named e = no_fault (cause.LeftOut _) (e, refl)

  is_shallow : least old past.depth ≤ depth_limit p.kind
  is_shallow = go (cases_lt (depth_limit p.kind) (least old past.depth))
    where
      go : (depth_limit p.kind < least old past.depth) ⊎ (least old past.depth ≤ depth_limit p.kind) → least old past.depth ≤ depth_limit p.kind
      go (inl lt) = absurd (no_fault cause.TooDeep (is_named, inl lt))
      go (inr le) = le

  is_few : (symbols : List Symbol) (state : State) → Takes p old past symbols state → state.operators ≤ operator_limit
  is_few symbols state t = go (cases_lt operator_limit state.operators)
    where
      go : (operator_limit < state.operators) ⊎ (state.operators ≤ operator_limit) → state.operators ≤ operator_limit
      go (inl lt) = absurd (no_fault cause.TooDeep (is_named, inr (symbols, (state, (t, lt)))))
      go (inr le) = le

  is_met : (symbols : List Symbol) (state : State) → Takes p old past symbols state → Meets p old past symbols state
  is_met symbols state t = record { named = is_named; shallow = is_shallow; takes = t; few = is_few symbols state t }

module _ (begin : List Symbol) (all : List Piece) (values : List Value) (sound : AreSound begin all (length all)) where
  walk : {symbols : List Symbol} {state : State} {ps : List Piece} (front : List Piece) (old : List Symbol) (past : State)
      → all ≡ front ++ ps → FollowsAt begin all (length front) old past → Through old past symbols state ps
      → Goes choices (Whole values) symbols state ps → Bounded values symbols state (least old past.depth) ps
  walk front old past e f t (stop ok) = absurd ok
  walk front old past e f t (end is) = done is
  walk front old past e f t (take_token {kind = k} {mark = mark} {symbols = symbols} {state = state} {p = p} {ps = ps} same g) =
      let at : slice_get all (length front) ≡ Some p = ap (λ x. slice_get x (length front)) e ∙ here front p ps in
      let one = take_reached (Some p.kind) k mark symbols state t.fits (kind_is p.kind k same) in
      let reached : Reached mark (Some p.kind) old past symbols state = (leads_trans (Some p.kind) old past (Take k mark ∷ symbols) state _ _ t.leads one.0, one.1) in
      let taken = takes mark p old past symbols state reached t.lower t.fewer in
      let m = is_met begin all sound (length front) p old past f at symbols (with_token mark p.value state) taken in
      let next = steps_on begin all (length front) p old past symbols (with_token mark p.value state) f at m in
      takes_one same (subst (λ q. least old past.depth ≤ depth_limit q) same m.shallow) m.few
      (walk (front ++ p ∷ []) symbols (with_token mark p.value state) (e ∙ sym (append_assoc front (p ∷ []) ps))
      (subst (λ i. FollowsAt begin all i symbols (with_token mark p.value state)) (sym (length_more front p)) next)
      (begins_there symbols (with_token mark p.value state) ps taken.fits) g)
  walk front old past e f t (pass {kind = k} {symbols = symbols} {state = state} {ps = ps} n g) =
      passes_on n (walk front old past e f (go ps n t) g)
    where
      go : (ps : List Piece) → NextIsNot k ps → Through old past (Unless k ∷ symbols) state ps → Through old past symbols state ps
      go [] n t = tt
      go (p ∷ ps) n t = onward old past (Unless k ∷ symbols) state symbols state p t (unless_changed (Some p.kind) k symbols state t.fits (not_next k p.kind n)) (omega arith) (omega arith)
  walk front old past e f t (act {a = a} {symbols = symbols} {state = state} {ps = ps} g) =
      acts (walk front old past e f (go ps t) g)
    where
      go : (ps : List Piece) → Through old past (Act a ∷ symbols) state ps → Through old past symbols (effect a state) ps
      go [] t = tt
      go (p ∷ ps) t = onward old past (Act a ∷ symbols) state symbols (effect a state) p t (act_changed (Some p.kind) a symbols state t.fits) (omega arith) (fewer_left (is_outer a) state.operators)
  walk front old past e f t (expand {r = r} {alternative = body} {symbols = symbols} {state = state} {ps = ps} m g) =
      expands m (walk front old past e f (go ps t g) g)
    where
      go : (ps : List Piece) → Through old past (Expand r ∷ symbols) state ps → Goes choices (Whole values) (body ++ symbols) state ps → Through old past (body ++ symbols) state ps
      go [] t g = tt
      go (p ∷ ps) t g =
          let found = chosen all_kinds kind_place choices first_kinds blocked_kinds used_rules tables_good tables_good_end {r = r} {front = body} symbols t.fits m g in
          onward old past (Expand r ∷ symbols) state (body ++ symbols) state p t (expand_changed (Some p.kind) r symbols state body t.fits found) (omega arith) (omega arith)

-- What goes so goes.
pub goes_so : {values : List Value} {symbols : List Symbol} {state : State} {low : ℕ} {ps : List Piece} → Bounded values symbols state low ps → Goes choices (Whole values) symbols state ps
goes_so (done e) = end e
goes_so (takes_one e le few g) = take_token e (goes_so g)
goes_so (passes_on n g) = pass n (goes_so g)
goes_so (acts g) = act (goes_so g)
goes_so (expands m g) = expand m (goes_so g)

-- A reading goes so.
pub bounded : (begin : List Symbol) (ps : List Piece) (values : List Value) → FitsReader begin → IsReading begin ps values → Bounded values begin empty (least begin 0) ps
bounded begin ps values fits r =
    walk begin ps values r.sound [] begin empty refl (starts_on begin ps begin empty fits refl refl) (begins_there begin empty ps fits) (to_reader r.reads)

-- What is derived within the limits is the one reading, and no token of it is a fault.
use Rattle.std.proofs.Common.{◌≡◌, ℕ, ◌+◌, ◌<◌, ◌≤◌, ◌⊎◌, inl, inr, List, [], ◌∷◌, ◌++◌, length, Bool, true, false, refl, sym, ◌∙◌, ap, subst, Some, None, append_assoc, append-nil, arith, cond}
use Rattle.std.proofs.lemmas.Bool.{cases_lt}
use Rattle.std.specs.Prelude.{slice_get}
use Rattle.c_grammar.specs.declared.kind.Kind.{Kind}
use Rattle.c_grammar.specs.declared.symbol.Mark.{Mark}
use Rattle.c_grammar.specs.declared.symbol.Mark.TheVariants as mark
use Rattle.c_grammar.specs.declared.symbol.Symbol.{Symbol}
use Rattle.c_grammar.specs.declared.symbol.Symbol.TheVariants.{Unless, Act, Expand}
use Rattle.c_grammar.specs.declared.value.Value.{Value}
use Rattle.c_grammar.specs.Effects.{State, with_token, effect, is_outer, empty}
use Rattle.c_grammar.specs.Pieces.{Piece}
use Rattle.c_grammar.specs.Reading.{Within, Part, Whole, Goes, stop, pass, act, expand, NextIsNot, depth_limit, IsReading}
use Rattle.c_reader.specs.Choices.{choices, first_kinds}
use Rattle.c_reader.specs.Depth.{least}
use Rattle.c_reader.specs.Follow.{FitsReader, Reached, Changed}
use Rattle.c_reader.specs.Outcome.{Meets, FollowsAt}
use Rattle.c_reader.specs.Picks.{is_kind}
use Rattle.c_reader.specs.Ranks.{blocked_kinds, used_rules}
use Rattle.c_reader.proofs.Outcomes.{takes, finishes, starts_on, steps_on, reads_on}
use Rattle.c_reader.proofs.Choice.{kind_is, chosen, chosen_end}
use Rattle.c_reader.proofs.Tables.{all_kinds, kind_place, tables_good, tables_good_end}
use Rattle.c_reader.proofs.Turns.{same_kind, leads_trans, take_reached, unless_changed, act_changed, none_reached, expand_changed}
use Rattle.c_reader.proofs.Depths.{not_within}
use Rattle.c_reader.proofs.Keeps as keeps
use Rattle.c_reader.proofs.Keeps.{IsKept, Keeps, goes}

-- From here the symbols come to where the next token is taken within the limits, and the rest goes on so.
pub record Ready (values : List Value) (symbols : List Symbol) (state : State) (p : Piece) (ps : List Piece) : Type 0 where
  pub how : Mark
  pub behind : List Symbol
  pub before : State
  pub reached : Reached how (Some p.kind) symbols state behind before
  pub lower : before.depth ≤ state.depth
  pub fewer : before.operators ≤ state.operators
  pub kept : IsKept how p before
  pub rest : Keeps choices values behind (with_token how p.value before) ps

abbrev ReadyFor : List Value → List Symbol → State → List Piece → Type 0
ReadyFor values symbols state [] = Unit {0}
ReadyFor values symbols state (p ∷ ps) = Ready values symbols state p ps

further : (values : List Value) (s : List Symbol) (v : State) (s' : List Symbol) (v' : State) (p : Piece) (ps : List Piece)
    → Changed (Some p.kind) s v s' v' → v'.depth ≤ v.depth → v'.operators ≤ v.operators → Ready values s' v' p ps → Ready values s v p ps
further values s v s' v' p ps c d o y = record {
  how = y.how;
  behind = y.behind;
  before = y.before;
  reached = (leads_trans (Some p.kind) s v s' v' _ _ c.leads y.reached.0, y.reached.1);
  lower = omega (arith, d, y.lower);
  fewer = omega (arith, o, y.fewer);
  kept = y.kept;
  rest = y.rest;
}

pub fewer_left : (b : Bool) (n : ℕ) → cond b 0 n ≤ n
fewer_left true n = omega arith
fewer_left false n = omega arith

pub not_next : (k q : Kind) → (q ≡ k → ⊥) → is_kind k (Some q) ≡ false
not_next k q n = go (is_kind k (Some q)) refl
  where
    go : (b : Bool) → is_kind k (Some q) ≡ b → b ≡ false
    go true h = absurd (n (same_kind q k h))
    go false h = refl

pub ready : {values : List Value} {symbols : List Symbol} {state : State} {ps : List Piece} → FitsReader symbols → Keeps choices values symbols state ps → ReadyFor values symbols state ps
ready fits (keeps.done e) = tt
ready fits (keeps.takes {k = k} {mark = mark} {symbols = symbols} {state = state} {p = p} e kept g) = record {
  how = mark;
  behind = symbols;
  before = state;
  reached = take_reached (Some p.kind) k mark symbols state fits (kind_is p.kind k e);
  lower = omega arith;
  fewer = omega arith;
  kept = kept;
  rest = g;
}
ready {values = values} fits (keeps.passes {k = k} {symbols = symbols} {state = state} {ps = ps} n g) = go ps n (λ f. ready f g)
  where
    go : (ps : List Piece) → NextIsNot k ps → (FitsReader symbols → ReadyFor values symbols state ps) → ReadyFor values (Unless k ∷ symbols) state ps
    go [] n ih = tt
    go (p ∷ ps) n ih =
        let c = unless_changed (Some p.kind) k symbols state fits (not_next k p.kind n) in
        further values (Unless k ∷ symbols) state symbols state p ps c (omega arith) (omega arith) (ih c.fits)
ready {values = values} fits (keeps.acts {a = a} {symbols = symbols} {state = state} {ps = ps} g) = go ps (λ f. ready f g)
  where
    go : (ps : List Piece) → (FitsReader symbols → ReadyFor values symbols (effect a state) ps) → ReadyFor values (Act a ∷ symbols) state ps
    go [] ih = tt
    go (p ∷ ps) ih =
        let c = act_changed (Some p.kind) a symbols state fits in
        further values (Act a ∷ symbols) state symbols (effect a state) p ps c (omega arith) (fewer_left (is_outer a) state.operators) (ih c.fits)
ready {values = values} fits (keeps.expands {r = r} {alternative = front} {symbols = symbols} {state = state} {ps = ps} m g) = go ps (goes g) (λ f. ready f g)
  where
    go : (ps : List Piece) → Goes choices (Whole values) (front ++ symbols) state ps → (FitsReader (front ++ symbols) → ReadyFor values (front ++ symbols) state ps) → ReadyFor values (Expand r ∷ symbols) state ps
    go [] d ih = tt
    go (p ∷ ps) d ih =
        let found = chosen all_kinds kind_place choices first_kinds blocked_kinds used_rules tables_good tables_good_end {r = r} {front = front} symbols fits m d in
        let c = expand_changed (Some p.kind) r symbols state front fits found in
        further values (Expand r ∷ symbols) state (front ++ symbols) state p ps c (omega arith) (omega arith) (ih c.fits)

-- No way back up is needed before a token that keeps the limit.
abbrev Reaches : List Symbol → State → List Piece → Type 0
Reaches symbols state [] = Unit {0}
Reaches symbols state (p ∷ ps) = Goes choices (Part (Within (depth_limit p.kind))) symbols state []

reaches : {values : List Value} {symbols : List Symbol} {state : State} {ps : List Piece} → Keeps choices values symbols state ps → Reaches symbols state ps
reaches (keeps.done e) = tt
reaches (keeps.takes e kept g) = stop kept.shallow
reaches (keeps.passes {k = k} {symbols = symbols} {state = state} {ps = ps} n g) = go ps (reaches g)
  where
    go : (ps : List Piece) → Reaches symbols state ps → Reaches (Unless k ∷ symbols) state ps
    go [] h = tt
    go (p ∷ ps) h = pass tt h
reaches (keeps.acts {a = a} {symbols = symbols} {state = state} {ps = ps} g) = go ps (reaches g)
  where
    go : (ps : List Piece) → Reaches symbols (effect a state) ps → Reaches (Act a ∷ symbols) state ps
    go [] h = tt
    go (p ∷ ps) h = act h
reaches (keeps.expands {r = r} {alternative = front} {symbols = symbols} {state = state} {ps = ps} m g) = go ps (reaches g)
  where
    go : (ps : List Piece) → Reaches (front ++ symbols) state ps → Reaches (Expand r ∷ symbols) state ps
    go [] h = tt
    go (p ∷ ps) h = expand m h

shallow : (n : ℕ) (symbols : List Symbol) (state : State) → Goes choices (Part (Within n)) symbols state [] → least symbols state.depth ≤ n
shallow n symbols state g = go (cases_lt n (least symbols state.depth))
  where
    go : (n < least symbols state.depth) ⊎ (least symbols state.depth ≤ n) → least symbols state.depth ≤ n
    go (inl lt) = absurd (not_within n symbols state lt g)
    go (inr le) = le

meets : (values : List Value) (symbols : List Symbol) (state : State) (p : Piece) (ps : List Piece) → Keeps choices values symbols state (p ∷ ps) → (y : Ready values symbols state p ps)
    → Meets p symbols state y.behind (with_token y.how p.value y.before)
meets values symbols state p ps g y = record {
  named = y.kept.named;
  shallow = shallow (depth_limit p.kind) symbols state (reaches g);
  takes = takes y.how p symbols state y.behind y.before y.reached y.lower y.fewer;
  few = y.kept.few;
}

-- At the end of the text.
pub record Ended (values : List Value) (symbols : List Symbol) (state : State) : Type 0 where
  pub last : State
  pub reached : Reached mark.Skip None symbols state [] last
  pub are : values ≡ last.values

abbrev EndedFor : List Value → List Symbol → State → List Piece → Type 0
EndedFor values symbols state [] = Ended values symbols state
EndedFor values symbols state (p ∷ ps) = Unit {0}

later_end : (values : List Value) (s : List Symbol) (v : State) (s' : List Symbol) (v' : State) → Changed None s v s' v' → Ended values s' v' → Ended values s v
later_end values s v s' v' c y = record { last = y.last; reached = (leads_trans None s v s' v' _ _ c.leads y.reached.0, y.reached.1); are = y.are }

ends : {values : List Value} {symbols : List Symbol} {state : State} {ps : List Piece} → FitsReader symbols → Keeps choices values symbols state ps → EndedFor values symbols state ps
ends fits (keeps.done {state = state} e) = record { last = state; reached = none_reached mark.Skip state; are = e }
ends fits (keeps.takes e kept g) = tt
ends {values = values} fits (keeps.passes {k = k} {symbols = symbols} {state = state} {ps = ps} n g) = go ps (λ f. ends f g)
  where
    go : (ps : List Piece) → (FitsReader symbols → EndedFor values symbols state ps) → EndedFor values (Unless k ∷ symbols) state ps
    go [] ih = let c = unless_changed None k symbols state fits refl in later_end values (Unless k ∷ symbols) state symbols state c (ih c.fits)
    go (p ∷ ps) ih = tt
ends {values = values} fits (keeps.acts {a = a} {symbols = symbols} {state = state} {ps = ps} g) = go ps (λ f. ends f g)
  where
    go : (ps : List Piece) → (FitsReader symbols → EndedFor values symbols (effect a state) ps) → EndedFor values (Act a ∷ symbols) state ps
    go [] ih = let c = act_changed None a symbols state fits in later_end values (Act a ∷ symbols) state symbols (effect a state) c (ih c.fits)
    go (p ∷ ps) ih = tt
ends {values = values} fits (keeps.expands {r = r} {alternative = front} {symbols = symbols} {state = state} {ps = ps} m g) = go ps (goes g) (λ f. ends f g)
  where
    go : (ps : List Piece) → Goes choices (Whole values) (front ++ symbols) state ps → (FitsReader (front ++ symbols) → EndedFor values (front ++ symbols) state ps) → EndedFor values (Expand r ∷ symbols) state ps
    go [] d ih =
        let found = chosen_end all_kinds kind_place choices first_kinds blocked_kinds used_rules tables_good tables_good_end {r = r} {front = front} symbols fits m d in
        let c = expand_changed None r symbols state front fits found in
        later_end values (Expand r ∷ symbols) state (front ++ symbols) state c (ih c.fits)
    go (p ∷ ps) d ih = tt

pub here : (front : List Piece) (p : Piece) (rest : List Piece) → slice_get (front ++ p ∷ rest) (length front) ≡ Some p
here [] p rest = refl
here (x ∷ front) p rest = here front p rest

pub length_more : (front : List Piece) (p : Piece) → length (front ++ p ∷ []) ≡ length front + 1
length_more [] p = refl
length_more (x ∷ front) p = let ih : length (front ++ p ∷ []) ≡ length front + 1 = length_more front p in omega (arith, ih)

from : (begin : List Symbol) (values : List Value) (ps front rest : List Piece) (symbols : List Symbol) (state : State) → ps ≡ front ++ rest → FollowsAt begin ps (length front) symbols state
    → Keeps choices values symbols state rest → IsReading begin ps values
from begin values ps front [] symbols state e f g =
    let y : Ended values symbols state = ends f.follows.fits g in
    let all : length ps ≤ length front = rw (e, append-nil) (omega arith) in
    subst (λ v. IsReading begin ps v) (sym y.are) (reads_on begin ps (length front) symbols state y.last f all (finishes mark.Skip symbols state [] y.last y.reached))
from begin values ps front (p ∷ rest) symbols state e f g =
    let y : Ready values symbols state p rest = ready f.follows.fits g in
    let at : slice_get ps (length front) ≡ Some p = ap (λ x. slice_get x (length front)) e ∙ here front p rest in
    let next = steps_on begin ps (length front) p symbols state y.behind (with_token y.how p.value y.before) f at (meets values symbols state p rest g y) in
    from begin values ps (front ++ p ∷ []) rest y.behind (with_token y.how p.value y.before) (e ∙ sym (append_assoc front (p ∷ []) rest))
    (subst (λ i. FollowsAt begin ps i y.behind (with_token y.how p.value y.before)) (sym (length_more front p)) next) y.rest

pub is_reading : (begin : List Symbol) (values : List Value) (ps : List Piece) → FitsReader begin → Keeps choices values begin empty ps → IsReading begin ps values
is_reading begin values ps fits g = from begin values ps [] ps begin empty refl (starts_on begin ps begin empty fits refl refl) g

-- What the machine's answer says of the tokens.
use Rattle.std.specs.Prelude.{reverse, ◌≡◌, ◌≢◌, ◌⊎◌, ℕ, List, [], ◌∷◌, ◌++◌, take, ◌<◌, ◌≤◌, ◌+◌, length}
use Rattle.c_tree.specs.declared.cause.ReadCause.{ReadCause}
use Rattle.c_tree.specs.declared.cause.ReadCause.TheVariants as cause
use Rattle.c_grammar.specs.declared.kind.Kind.TheVariants as kind
use Rattle.c_grammar.specs.declared.symbol.Symbol.{Symbol}
use Rattle.c_grammar.specs.declared.value.Value.{Value}
use Rattle.c_grammar.specs.Tokens.{text_of}
use Rattle.c_grammar.specs.Values.{word_in}
use Rattle.c_grammar.specs.Effects.{State, empty}
use Rattle.c_grammar.specs.Rules.{alternatives}
use Rattle.c_grammar.specs.Pieces.{Piece}
use Rattle.c_grammar.specs.Reading.{Aim, Whole, Goes, depth_limit, operator_limit, AreSound, IsFirst, IsCutShort, IsReading}
use Rattle.c_reader.specs.declared.found.Found.{Found}
use Rattle.c_reader.specs.declared.found.Found.TheVariants as found
use Rattle.c_reader.specs.Choices.{choices}
use Rattle.c_reader.specs.Follow.{FitsReader}
use Rattle.c_reader.specs.Depth.{least}

-- What the answer says.
abbrev pub Parses : List Symbol → List Piece → Found → Type 0
Parses begin ps (found.Done values) = IsReading begin ps (reverse values.items)
Parses begin ps (found.Fault i c) = IsFirst begin ps i c
Parses begin ps found.CutShort = IsCutShort begin ps

-- With the token taken, the same tokens go on as before with it in front.
pub record Takes (p : Piece) (symbols : List Symbol) (state : State) (symbols' : List Symbol) (state' : State) : Type 0 where
  pub there : (aim : Aim) (ps : List Piece) → Goes choices aim symbols state (p ∷ ps) → Goes choices aim symbols' state' ps
  pub back : (aim : Aim) (ps : List Piece) → Goes choices aim symbols' state' ps → Goes choices aim symbols state (p ∷ ps)
  pub fits : FitsReader symbols'
  pub deeper : state'.depth ≤ state.depth + 1
  pub more : state'.operators ≤ state.operators + 1

-- no tokens go on with this one in front
abbrev pub NeverTakes : Piece → List Symbol → State → Type 0
NeverTakes p symbols state = (aim : Aim) (ps : List Piece) → Goes choices aim symbols state (p ∷ ps) → ⊥

-- The token is no fault, and is taken.
pub record Meets (p : Piece) (symbols : List Symbol) (state : State) (symbols' : List Symbol) (state' : State) : Type 0 where
  pub named : p.kind ≢ kind.LeftOut
  pub shallow : least symbols state.depth ≤ depth_limit p.kind
  pub takes : Takes p symbols state symbols' state'
  pub few : state'.operators ≤ operator_limit

-- The token is a fault.
abbrev pub Misses : Piece → List Symbol → State → ReadCause → Type 0
Misses p symbols state (cause.LeftOut word) = (p.kind ≡ kind.LeftOut) × (word ≡ text_of (word_in (p.value ∷ [])).kind)
Misses p symbols state cause.TooDeep =
    (p.kind ≢ kind.LeftOut)
    × ((depth_limit p.kind < least symbols state.depth)
    ⊎ ((symbols' : List Symbol) × ((state' : State) × (Takes p symbols state symbols' state' × (operator_limit < state'.operators)))))
Misses p symbols state cause.Unexpected = (p.kind ≢ kind.LeftOut) × ((least symbols state.depth ≤ depth_limit p.kind) × NeverTakes p symbols state)
Misses p symbols state _ = ⊥

-- the tokens may end here, and the values of the new state are then the only reading
pub record Finishes (symbols : List Symbol) (state state' : State) : Type 0 where
  pub done : Goes choices (Whole state'.values) symbols state []
  pub only : (others : List Value) → Goes choices (Whole others) symbols state [] → others ≡ state'.values

-- the tokens can't end here
abbrev pub NeverFinishes : List Symbol → State → Type 0
NeverFinishes symbols state = (others : List Value) → Goes choices (Whole others) symbols state [] → ⊥

-- From here the same tokens go on as from the start with these in front.
pub record Follows (begin : List Symbol) (front : List Piece) (symbols : List Symbol) (state : State) : Type 0 where
  pub there : (aim : Aim) (ps : List Piece) → Goes alternatives aim begin empty (front ++ ps) → Goes choices aim symbols state ps
  pub back : (aim : Aim) (ps : List Piece) → Goes choices aim symbols state ps → Goes alternatives aim begin empty (front ++ ps)
  pub fits : FitsReader symbols

-- After i tokens, of which none is a fault.
pub record FollowsAt (begin : List Symbol) (ps : List Piece) (i : ℕ) (symbols : List Symbol) (state : State) : Type 0 where
  pub follows : Follows begin (take i ps) symbols state
  pub sound : AreSound begin ps i
  pub few : state.operators ≤ operator_limit
  pub room : state.depth ≤ i

-- Live lists of tokens, readings and faults.
use Rattle.std.specs.Prelude.{◌≡◌, ◌≢◌, ℕ, ◌+◌, ◌<◌, ◌≤◌, List, [], ◌∷◌, ◌++◌, length, take, Option, Some, slice_get, ◌⊎◌}
use Rattle.c_tree.specs.declared.cause.ReadCause.{ReadCause}
use Rattle.c_tree.specs.declared.cause.ReadCause.TheVariants as cause
use Rattle.c_grammar.specs.declared.kind.Kind.{Kind}
use Rattle.c_grammar.specs.declared.kind.Kind.TheVariants as kind
use Rattle.c_grammar.specs.declared.rule.Rule.{Rule}
use Rattle.c_grammar.specs.declared.action.Action.{Action}
use Rattle.c_grammar.specs.declared.symbol.Mark.{Mark}
use Rattle.c_grammar.specs.declared.symbol.Symbol.{Symbol}
use Rattle.c_grammar.specs.declared.symbol.Symbol.TheVariants.{Take, Unless, Act, Expand}
use Rattle.c_grammar.specs.declared.value.Value.{Value}
use Rattle.c_grammar.specs.Tokens.{text_of}
use Rattle.c_grammar.specs.Pieces.{Piece}
use Rattle.c_grammar.specs.Rules.{alternatives}
use Rattle.c_grammar.specs.Values.{word_in}
use Rattle.c_grammar.specs.Effects.{State, effect, with_token, empty}

-- x is in the list
pub data Among {X : Type 0} (x : X) : List X → Type 0 where
  first : {xs : List X} → Among x (x ∷ xs)
  later : {y : X} {xs : List X} → Among x xs → Among x (y ∷ xs)

-- What is asked of the state behind some tokens: nothing; that no more constructs are open than a limit; or that the
-- expression has more operators than a limit.
pub data Test : Type 0 where
  Any : Test
  Within : ℕ → Test
  Over : ℕ → Test

-- a state passes a test
abbrev pub Passes : Test → State → Type 0
Passes Any state = Unit {0}
Passes (Within limit) state = state.depth ≤ limit
Passes (Over limit) state = limit < state.operators

-- What is asked of a list of tokens: that all of them can be taken, to a state that passes a test; or that they use up
-- the symbols to come and leave these values.
pub data Aim : Type 0 where
  Part : Test → Aim
  Whole : List Value → Aim

-- where no token is left, whatever is to come
abbrev pub Accepts : Aim → State → Type 0
Accepts (Part test) state = Passes test state
Accepts (Whole values) state = ⊥

-- the next token isn't of this kind, or there is none
abbrev pub NextIsNot : Kind → List Piece → Type 0
NextIsNot kind [] = Unit {0}
NextIsNot kind (p ∷ ps) = p.kind ≡ kind → ⊥

-- From the symbols to come and the state, the tokens meet the aim: a token in front is taken, an action is done, and a
-- rule is replaced by one of its alternatives.
pub data Goes (rules : Rule → List (List Symbol)) : Aim → List Symbol → State → List Piece → Type 0 where
  stop : {aim : Aim} {symbols : List Symbol} {state : State} → Accepts aim state → Goes rules aim symbols state []
  end : {values : List Value} {state : State} → values ≡ state.values → Goes rules (Whole values) [] state []
  take_token : {aim : Aim} {kind : Kind} {mark : Mark} {symbols : List Symbol} {state : State} {p : Piece} {ps : List Piece}
      → p.kind ≡ kind → Goes rules aim symbols (with_token mark p.value state) ps → Goes rules aim (Take kind mark ∷ symbols) state (p ∷ ps)
  pass : {aim : Aim} {kind : Kind} {symbols : List Symbol} {state : State} {ps : List Piece}
      → NextIsNot kind ps → Goes rules aim symbols state ps → Goes rules aim (Unless kind ∷ symbols) state ps
  act : {aim : Aim} {a : Action} {symbols : List Symbol} {state : State} {ps : List Piece}
      → Goes rules aim symbols (effect a state) ps → Goes rules aim (Act a ∷ symbols) state ps
  expand : {aim : Aim} {r : Rule} {alternative symbols : List Symbol} {state : State} {ps : List Piece}
      → Among alternative (rules r) → Goes rules aim (alternative ++ symbols) state ps → Goes rules aim (Expand r ∷ symbols) state ps

-- What follows is said of any symbols that a text begins with: those of a whole file, or those of an expression.

-- All the tokens can be taken.
abbrev pub IsLive : List Symbol → List Piece → Type 0
IsLive begin ps = Goes alternatives (Part Any) begin empty ps

-- The tokens use up the symbols to come, and leave these values.
abbrev pub Reads : List Symbol → List Piece → List Value → Type 0
Reads begin ps values = Goes alternatives (Whole values) begin empty ps

-- How many constructs may be open before a token: one less before the word EOF, which stands for a minus and its operand.
abbrev pub depth_limit : Kind → ℕ
depth_limit kind.Eof = 99
depth_limit _ = 100

-- how many operators an expression may have
abbrev pub operator_limit : ℕ
operator_limit = 1000

-- Behind these tokens, one of this kind stands inside more constructs than it may: no way to take them and to go back up as
-- far as can be without another token leaves so few open.
abbrev pub IsDeep : List Symbol → Kind → List Piece → Type 0
IsDeep begin k ps = Goes alternatives (Part (Within (depth_limit k))) begin empty ps → ⊥

-- With these tokens, the expression has more operators than it may.
abbrev pub IsOver : List Symbol → List Piece → Type 0
IsOver begin ps = Goes alternatives (Part (Over operator_limit)) begin empty ps

-- At the token at i stands a fault of this cause, whatever stands before it.
abbrev pub IsFault : List Symbol → List Piece → ℕ → ReadCause → Type 0
IsFault begin ps i (cause.LeftOut word) =
    (p : Piece) × (slice_get ps i ≡ Some p) × (p.kind ≡ kind.LeftOut) × (word ≡ text_of (word_in (p.value ∷ [])).kind)
IsFault begin ps i cause.TooDeep = ((p : Piece) × (slice_get ps i ≡ Some p) × IsDeep begin p.kind (take i ps)) ⊎ IsOver begin (take (i + 1) ps)
IsFault begin ps i cause.Unexpected = IsLive begin (take (i + 1) ps) → ⊥
IsFault begin ps i _ = ⊥

-- the causes in the order in which one is answered before another at one offset
abbrev pub rank : ReadCause → ℕ
rank cause.BadByte = 0
rank cause.Unclosed = 1
rank cause.BadToken = 2
rank cause.Literal = 3
rank (cause.LeftOut word) = 4
rank cause.TooDeep = 5
rank cause.Unexpected = 6
rank cause.TooLong = 7

-- None of the first n tokens is a fault.
abbrev pub AreSound : List Symbol → List Piece → ℕ → Type 0
AreSound begin ps n = (j : ℕ) (c : ReadCause) → j < n → IsFault begin ps j c → ⊥

-- The first fault stands at the token at i, and has this cause.
pub record IsFirst (begin : List Symbol) (ps : List Piece) (i : ℕ) (c : ReadCause) : Type 0 where
  pub live : IsLive begin (take i ps)
  pub sound : AreSound begin ps i
  pub within : i < length ps
  pub here : IsFault begin ps i c
  pub least : (d : ReadCause) → rank d < rank c → IsFault begin ps i d → ⊥

-- The tokens break off: none is a fault, but they use up the symbols to come in no way.
pub record IsCutShort (begin : List Symbol) (ps : List Piece) : Type 0 where
  pub live : IsLive begin ps
  pub sound : AreSound begin ps (length ps)
  pub here : (values : List Value) → Reads begin ps values → ⊥

-- This is the reading, and the only one, and no token is a fault.
pub record IsReading (begin : List Symbol) (ps : List Piece) (values : List Value) : Type 0 where
  pub reads : Reads begin ps values
  pub only : (others : List Value) → Reads begin ps others → others ≡ values
  pub sound : AreSound begin ps (length ps)

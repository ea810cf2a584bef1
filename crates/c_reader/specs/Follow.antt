-- What can come behind a rule: the condition on the symbols to come under which the next token decides.
use Rattle.std.specs.Prelude.{◌≡◌, List, [], ◌∷◌, Bool, true, false, Option, Some, None, ◌&&◌, ◌⊎◌, not, ℕ, ◌+◌, ◌<◌, cond}
use Rattle.std.specs.List.{list_any}
use Rattle.c_grammar.specs.declared.kind.Kind.{Kind}
use Rattle.c_grammar.specs.declared.rule.Rule.{Rule}
use Rattle.c_grammar.specs.declared.symbol.Mark.{Mark}
use Rattle.c_grammar.specs.declared.symbol.Symbol.{Symbol}
use Rattle.c_grammar.specs.declared.symbol.Symbol.TheVariants.{Take, Unless, Act, Expand}
use Rattle.c_grammar.specs.Effects.{State}
use Rattle.c_grammar.specs.Pieces.{Piece}
use Rattle.c_grammar.specs.Reading.{Aim, Part, Whole, Goes}
use Rattle.c_reader.specs.declared.turn.Turn.{Turn}
use Rattle.c_reader.specs.declared.turn.Turn.TheVariants as turn
use Rattle.c_reader.specs.Choices.{choices, first_kinds}
use Rattle.c_reader.specs.Ranks.{blocked_kinds, used_rules, rank}
use Rattle.c_reader.specs.Picks.{is_kind, begins, is_empty}

-- the kinds that cannot follow the rule's texts
abbrev pub blocks : (Rule → List Kind) → Rule → Kind → Bool
blocks blocked r k = list_any (λ q. is_kind q (Some k)) (blocked r)

-- the symbols take nothing, before a token of this kind
abbrev pub passes : List Symbol → Kind → Bool
passes [] k = true
passes (Take q d ∷ symbols) k = false
passes (Unless q ∷ symbols) k = not (is_kind q (Some k)) && passes symbols k
passes (Act a ∷ symbols) k = passes symbols k
passes (Expand r ∷ symbols) k = false

-- the rule may take nothing before a token of this kind
abbrev pub vanishes : (Rule → List (List Symbol)) → Rule → Kind → Bool
vanishes rules r k = list_any (λ symbols. passes symbols k) (rules r)

-- the rule may take nothing before the end
abbrev pub vanishes_end : (Rule → List (List Symbol)) → Rule → Bool
vanishes_end rules r = list_any is_empty (rules r)

-- the symbols to come can take a token of this kind
abbrev pub MayTake : (Rule → List (List Symbol)) → (Rule → List Kind) → List Symbol → Kind → Type 0
MayTake rules firsts [] k = ⊥
MayTake rules firsts (Take q d ∷ symbols) k = k ≡ q
MayTake rules firsts (Unless q ∷ symbols) k = (k ≡ q → ⊥) × MayTake rules firsts symbols k
MayTake rules firsts (Act a ∷ symbols) k = MayTake rules firsts symbols k
MayTake rules firsts (Expand r ∷ symbols) k = (begins firsts r (Some k) ≡ true) ⊎ ((vanishes rules r k ≡ true) × MayTake rules firsts symbols k)

-- each rule to come is one that the reader expands, and nothing can come behind it that is blocked for it
abbrev pub Fits : (Rule → List (List Symbol)) → (Rule → List Kind) → (Rule → List Kind) → (Rule → Bool) → List Symbol → Type 0
Fits rules firsts blocked used [] = Unit {0}
Fits rules firsts blocked used (Take q d ∷ symbols) = Fits rules firsts blocked used symbols
Fits rules firsts blocked used (Unless q ∷ symbols) = Fits rules firsts blocked used symbols
Fits rules firsts blocked used (Act a ∷ symbols) = Fits rules firsts blocked used symbols
Fits rules firsts blocked used (Expand r ∷ symbols) =
    (used r ≡ true) × (((k : Kind) → blocks blocked r k ≡ true → MayTake rules firsts symbols k → ⊥) × Fits rules firsts blocked used symbols)

-- the symbols to come fit the reader's own tables
abbrev pub FitsReader : List Symbol → Type 0
FitsReader symbols = Fits choices first_kinds blocked_kinds used_rules symbols

-- the work before the symbols to come take a token; then follows the work of those behind them
abbrev pub work_then : (Rule → List (List Symbol)) → (Rule → ℕ) → List Symbol → ℕ → ℕ
work_then rules ranks [] n = n
work_then rules ranks (Take k d ∷ symbols) n = 0
work_then rules ranks (Unless k ∷ symbols) n = work_then rules ranks symbols n + 1
work_then rules ranks (Act a ∷ symbols) n = work_then rules ranks symbols n + 1
work_then rules ranks (Expand r ∷ symbols) n = ranks r + cond (vanishes_end rules r) (work_then rules ranks symbols n) 0

-- how much work is left before the symbols to come take a token
abbrev pub work : List Symbol → ℕ
work symbols = work_then choices rank symbols 0

-- The next token, where there is one or none is to come, is of this kind.
abbrev pub Ahead : Aim → List Piece → Option Kind → Type 0
Ahead aim (p ∷ ps) ahead = ahead ≡ Some p.kind
Ahead (Part test) [] ahead = ⊥
Ahead (Whole values) [] ahead = ahead ≡ None

-- Before the next token, both let the same tokens go on.
pub record Leads (ahead : Option Kind) (symbols : List Symbol) (state : State) (symbols' : List Symbol) (state' : State) : Type 0 where
  pub there : (aim : Aim) (ps : List Piece) → Ahead aim ps ahead → Goes choices aim symbols state ps → Goes choices aim symbols' state' ps
  pub back : (aim : Aim) (ps : List Piece) → Ahead aim ps ahead → Goes choices aim symbols' state' ps → Goes choices aim symbols state ps

-- No tokens go on with this next one.
abbrev pub Refuses : Option Kind → List Symbol → State → Type 0
Refuses ahead symbols state = (aim : Aim) (ps : List Piece) → Ahead aim ps ahead → Goes choices aim symbols state ps → ⊥

-- what is to come where the next token was about to be taken, or none
abbrev pub with_next : Option Kind → Mark → List Symbol → List Symbol
with_next None mark symbols = symbols
with_next (Some k) mark symbols = Take k mark ∷ symbols

-- the reader is where the next token is taken:
-- the symbols to come begin with it, or there is none and nothing is to come
abbrev pub Reached : Mark → Option Kind → List Symbol → State → List Symbol → State → Type 0
Reached mark ahead symbols state symbols' state' =
    Leads ahead symbols state (with_next ahead mark symbols') state' × (FitsReader symbols' × (ahead ≡ None → symbols' ≡ []))

-- a turn of the reader changed the symbols to come: the same tokens go on, and less work is left
pub record Changed (ahead : Option Kind) (symbols : List Symbol) (state : State) (symbols' : List Symbol) (state' : State) : Type 0 where
  pub leads : Leads ahead symbols state symbols' state'
  pub fits : FitsReader symbols'
  pub less : work symbols' < work symbols

-- What one turn of the reader did.
abbrev pub Turned : Turn → Option Kind → List Symbol → State → List Symbol → State → Type 0
Turned (turn.Reached mark) ahead symbols state symbols' state' = Reached mark ahead symbols state symbols' state'
Turned turn.Refused ahead symbols state symbols' state' = Refuses ahead symbols state
Turned turn.Changed ahead symbols state symbols' state' = Changed ahead symbols state symbols' state'

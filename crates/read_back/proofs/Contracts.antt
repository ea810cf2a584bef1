-- What each rule of mappings asks of the state before its text, and gives of the state behind it.
use Rattle.std.specs.Prelude.{◌≡◌, ◌≢◌, ℕ, ◌+◌, ◌-◌, ◌≤◌, ⊤, List, [], ◌∷◌, All}
use Rattle.c_tree.specs.declared.mapping.Fill.{Fill}
use Rattle.c_tree.specs.declared.mapping.Mapping.{Mapping}
use Rattle.c_tree.specs.declared.mapping.Part.{Part}
use Rattle.c_tree.specs.declared.mapping.Pt.{Pt}
use Rattle.c_tree.specs.MapForm.{IsAddedPart, AreReadParts}
use Rattle.c_tree.specs.declared.token.Token.{Token}
use Rattle.c_tree.specs.Operators.{binding}
use Rattle.c_grammar.specs.declared.kind.Kind.TheVariants as kind
use Rattle.c_grammar.specs.declared.rule.Rule.{Rule}
use Rattle.c_grammar.specs.declared.rule.Rule.TheVariants as rule
use Rattle.c_grammar.specs.declared.symbol.Mark.{Mark}
use Rattle.c_grammar.specs.declared.symbol.Mark.TheVariants as mark
use Rattle.c_grammar.specs.declared.symbol.Symbol.{Symbol}
use Rattle.c_grammar.specs.declared.symbol.Symbol.TheVariants.{Take, Unless, Act, Expand}
use Rattle.c_grammar.specs.declared.value.Operand.{Operand}
use Rattle.c_grammar.specs.declared.value.Value.{Value}
use Rattle.c_grammar.specs.declared.value.Value.TheVariants as value
use Rattle.c_grammar.specs.Effects.{State, binary_of, effect, with_token}
use Rattle.c_grammar.specs.Reading.{depth_limit}
use Rattle.c_grammar.specs.Tokens.{kind_of, map_kind_of, map_word_kind, text_of}
use Rattle.c_grammar.specs.Values.{mapping_in}
use Rattle.c_reader.specs.Depth.{least}
use Rattle.read_back.specs.Kept.{Fitting, IsKeptExpr, IsKeptPoint, IsKeptPart, IsKept}
use Rattle.read_back.proofs.Literals.{HasLiteral}

-- what is said of a state, and of how few constructs can be open before the next token
abbrev pub Claim : Type 1
Claim = State → ℕ → Type 0

-- One more operand was read at this depth, which binds so tightly; so many operators stand before it.
pub record Made (level base : ℕ) (behind : List Value) (depth : ℕ) (state : State) : Type 0 where
  pub operand : Operand
  pub count : ℕ
  pub values : state.values ≡ value.Operand operand ∷ behind
  pub level_depth : state.depth ≡ depth
  pub operators : state.operators ≡ base + count
  pub fits : Fitting level (100 - depth) operand.expr.kind count
  pub few : state.operators ≤ 1000
  pub shallow : depth ≤ 100

-- a rule that reads an operand
abbrev pub Level : ℕ → State → ℕ → Claim → Type 0
Level level state low next =
    (state.depth ≤ low) × (state.operators ≤ 1000) × ((after : State) (low' : ℕ) → Made level state.operators state.values state.depth after → next after low')

-- a rule that goes on with an operand
abbrev pub Tail : ℕ → State → Claim → Type 0
Tail level state next =
    (base : ℕ) × (behind : List Value) × (depth : ℕ) × Made level base behind depth state × ((after : State) (low' : ℕ) → Made level base behind depth after → next after low')

-- a rule that reads one token
abbrev pub Word : Mark → (Token → Type 0) → List Symbol → State → ℕ → Claim → Type 0
Word mark Is symbols state low next =
    (t : Token) → Is t → low ≤ 100 → (with_token mark (value.Word t) state).operators ≤ 1000
    → next (with_token mark (value.Word t) state) (least symbols (with_token mark (value.Word t) state).depth)

abbrev pub AnyWord : Token → Type 0
AnyWord t = ⊤

-- not the word `none`
abbrev pub NewWord : Token → Type 0
NewWord t = map_word_kind (text_of t.kind) ≢ kind.NoneWord

abbrev pub OperatorAt : ℕ → Token → Type 0
OperatorAt level t = binding (binary_of (kind_of t.kind)) ≡ level

-- a rule that makes an operand of a name
abbrev pub AfterName : State → Claim → Type 0
AfterName state next =
    (t : Token) × (behind : List Value) × (state.values ≡ value.Word t ∷ behind) × (state.depth ≤ 100) × (state.operators ≤ 1000)
    × ((after : State) (low' : ℕ) → Made 11 state.operators behind state.depth after → next after low')

-- A mapping was read so far.
pub record Doc (behind : List Value) (state : State) : Type 0 where
  pub mapping : Mapping
  pub values : state.values ≡ value.Mapping mapping ∷ behind
  pub kept : IsKept mapping
  pub flat : state.depth ≡ 0

abbrev pub Document : State → Claim → Type 0
Document state next = (behind : List Value) × Doc behind state × ((after : State) (low' : ℕ) → Doc behind after → next after low')

-- a match whose old side was read
abbrev pub Matched : State → Claim → Type 0
Matched state next =
    (old side : Token) × (m : Mapping) × (behind : List Value) × (state.values ≡ value.Word old ∷ value.Word side ∷ value.Mapping m ∷ behind) × IsKept m × (state.depth ≡ 0)
    × ((after : State) (low' : ℕ) → Doc behind after → next after low')

-- a point
abbrev pub Pointed : State → Claim → Type 0
Pointed state next = (after : State) (low' : ℕ) (pt : Pt) → after.values ≡ value.Pt pt ∷ state.values → IsKeptPoint pt → after.depth ≡ state.depth → next after low'

-- Some fills were read so far.
abbrev pub AreKeptFills : List Fill → Type 0
AreKeptFills xs = All (λ x. IsKeptExpr x.expr) xs

pub record Filled (behind : List Value) (state : State) : Type 0 where
  pub fills : List Fill
  pub values : state.values ≡ value.Fills fills ∷ behind
  pub kept : AreKeptFills fills
  pub flat : state.depth ≡ 0

abbrev pub Fills : State → Claim → Type 0
Fills state next = (state.depth ≡ 0) × ((after : State) (low' : ℕ) → Filled state.values after → next after low')

abbrev pub FillList : State → Claim → Type 0
FillList state next = (behind : List Value) × Filled behind state × ((after : State) (low' : ℕ) → Filled behind after → next after low')

-- the name of a slot
abbrev pub FillName : State → Claim → Type 0
FillName state next = (after : State) (low' : ℕ) (t : Token) → after.values ≡ value.Word t ∷ state.values → after.depth ≡ state.depth → next after low'

abbrev pub FillNumber : State → Claim → Type 0
FillNumber state next =
    (old : Token) × (behind : List Value) × (state.values ≡ value.Word old ∷ behind)
    × ((after : State) (low' : ℕ) (t : Token) → after.values ≡ value.Word t ∷ behind → after.depth ≡ state.depth → next after low')

-- added parts on the values, the newest in front
abbrev pub parts_on : List Part → List Value → List Value
parts_on [] vs = vs
parts_on (p ∷ parts) vs = value.Part p ∷ parts_on parts vs

-- The place and the fills of the first part were read, and these added parts behind them.
pub record Begun (added : List Part) (behind : List Value) (state : State) : Type 0 where
  pub point : Pt
  pub fills : List Fill
  pub values : state.values ≡ parts_on added (value.Fills fills ∷ value.Pt point ∷ behind)
  pub kept_point : IsKeptPoint point
  pub kept : AreKeptFills fills
  pub added_form : All IsAddedPart added
  pub added_kept : All IsKeptPart added
  pub flat : state.depth ≡ 0

-- All parts of a point were read.
pub record Parted (behind : List Value) (state : State) : Type 0 where
  pub parts : List Part
  pub values : state.values ≡ value.Parts parts ∷ behind
  pub form : AreReadParts parts
  pub kept : All IsKeptPart parts
  pub flat : state.depth ≡ 0

abbrev pub Parts : State → Claim → Type 0
Parts state next = (state.depth ≡ 0) × ((after : State) (low' : ℕ) → Parted state.values after → next after low')

-- one more part, or the end of them
abbrev pub MoreParts : List Part → State → Claim → Type 0
MoreParts added state next = (behind : List Value) × Begun added behind state × ((after : State) (low' : ℕ) → Parted behind after → next after low')

abbrev pub Added : State → Claim → Type 0
Added state next =
    (state.depth ≡ 0)
    × ((after : State) (low' : ℕ) (p : Part) → after.values ≡ value.Part p ∷ state.values → IsAddedPart p → IsKeptPart p → after.depth ≡ 0 → next after low')

-- what a rule asks of the state before it, and then of the claim behind it
abbrev pub Reads : Rule → List Symbol → State → ℕ → Claim → Type 0
Reads rule.MapExpr symbols state low next = Level 0 state low next
Reads rule.MapAndAnd symbols state low next = Level 1 state low next
Reads rule.MapBitOr symbols state low next = Level 2 state low next
Reads rule.MapBitXor symbols state low next = Level 3 state low next
Reads rule.MapBitAnd symbols state low next = Level 4 state low next
Reads rule.MapEqual symbols state low next = Level 5 state low next
Reads rule.MapOrder symbols state low next = Level 6 state low next
Reads rule.MapShift symbols state low next = Level 7 state low next
Reads rule.MapAdd symbols state low next = Level 8 state low next
Reads rule.MapMul symbols state low next = Level 9 state low next
Reads rule.MapUnary symbols state low next = Level 10 state low next
Reads rule.Constant symbols state low next = Level 11 state low next
Reads rule.MapExprTail symbols state low next = Tail 0 state next
Reads rule.MapAndAndTail symbols state low next = Tail 1 state next
Reads rule.MapBitOrTail symbols state low next = Tail 2 state next
Reads rule.MapBitXorTail symbols state low next = Tail 3 state next
Reads rule.MapBitAndTail symbols state low next = Tail 4 state next
Reads rule.MapEqualTail symbols state low next = Tail 5 state next
Reads rule.MapOrderTail symbols state low next = Tail 6 state next
Reads rule.MapShiftTail symbols state low next = Tail 7 state next
Reads rule.MapAddTail symbols state low next = Tail 8 state next
Reads rule.MapMulTail symbols state low next = Tail 9 state next
Reads rule.MapArrows symbols state low next = Tail 11 state next
Reads rule.MapName symbols state low next = AfterName state next
Reads rule.UnOp symbols state low next = Word mark.OpenKeep AnyWord symbols state low next
Reads rule.OrOrOp symbols state low next = Word mark.CountKeep (OperatorAt 0) symbols state low next
Reads rule.AndAndOp symbols state low next = Word mark.CountKeep (OperatorAt 1) symbols state low next
Reads rule.BitOrOp symbols state low next = Word mark.CountKeep (OperatorAt 2) symbols state low next
Reads rule.BitXorOp symbols state low next = Word mark.CountKeep (OperatorAt 3) symbols state low next
Reads rule.BitAndOp symbols state low next = Word mark.CountKeep (OperatorAt 4) symbols state low next
Reads rule.EqualOp symbols state low next = Word mark.CountKeep (OperatorAt 5) symbols state low next
Reads rule.OrderOp symbols state low next = Word mark.CountKeep (OperatorAt 6) symbols state low next
Reads rule.ShiftOp symbols state low next = Word mark.CountKeep (OperatorAt 7) symbols state low next
Reads rule.AddOp symbols state low next = Word mark.CountKeep (OperatorAt 8) symbols state low next
Reads rule.MulOp symbols state low next = Word mark.CountKeep (OperatorAt 9) symbols state low next
Reads rule.AnyName symbols state low next = Word mark.Keep AnyWord symbols state low next
Reads rule.NewName symbols state low next = Word mark.Keep NewWord symbols state low next
Reads rule.Side symbols state low next = Word mark.Keep AnyWord symbols state low next
Reads rule.PtWord symbols state low next = Word mark.Keep AnyWord symbols state low next
Reads rule.Entries symbols state low next = Document state next
Reads rule.Entry symbols state low next = Document state next
Reads rule.OtherEntry symbols state low next = Document state next
Reads rule.Parts symbols state low next = Parts state next
Reads rule.SecondPart symbols state low next = MoreParts [] state next
Reads rule.ThirdPart symbols state low next = (p : Part) × MoreParts (p ∷ []) state next
Reads rule.FourthPart symbols state low next = (p q : Part) × MoreParts (q ∷ p ∷ []) state next
Reads rule.AddedPart symbols state low next = Added state next
Reads rule.Target symbols state low next = Matched state next
Reads rule.Pt symbols state low next = Pointed state next
Reads rule.Fills symbols state low next = Fills state next
Reads rule.FillList symbols state low next = FillList state next
Reads rule.FillName symbols state low next = FillName state next
Reads rule.FillNumber symbols state low next = FillNumber state next
Reads r symbols state low next = ⊥

-- From this state, whatever tokens the symbols read within the limits, the mapping that is left keeps the limits.
abbrev pub LeadsOn : List Symbol → State → ℕ → Type 0
LeadsOn [] state low = IsKept (mapping_in state.values)
LeadsOn (Take k mark ∷ symbols) state low =
    (t : Token) → map_kind_of t.kind ≡ k → HasLiteral t.kind → low ≤ depth_limit k → (with_token mark (value.Word t) state).operators ≤ 1000
    → LeadsOn symbols (with_token mark (value.Word t) state) (least symbols (with_token mark (value.Word t) state).depth)
LeadsOn (Unless k ∷ symbols) state low = LeadsOn symbols state low
LeadsOn (Act a ∷ symbols) state low = LeadsOn symbols (effect a state) low
LeadsOn (Expand r ∷ symbols) state low = Reads r symbols state low (λ after low'. LeadsOn symbols after low')

-- From the tokens of a printed expression to a derivation.
use Rattle.std.proofs.Common.{◌≡◌, ℕ, suc, zero, ◌+◌, ◌-◌, ◌≤◌, List, [], ◌∷◌, ◌++◌, subst, arith}
use Rattle.std.specs.Prelude.{map}
use Rattle.c_tree.specs.declared.token.Token.{Token}
use Rattle.c_grammar.specs.declared.rule.Rule.{Rule}
use Rattle.c_grammar.specs.declared.rule.Rule.TheVariants as rule
use Rattle.c_grammar.specs.declared.symbol.Symbol.{Symbol}
use Rattle.c_grammar.specs.declared.symbol.Symbol.TheVariants.{Expand}
use Rattle.c_grammar.specs.declared.value.Value.{Value}
use Rattle.c_grammar.specs.declared.value.Value.TheVariants as value
use Rattle.c_grammar.specs.declared.value.Operand.{Operand}
use Rattle.c_grammar.specs.Pieces.{Piece, map_piece}
use Rattle.c_grammar.specs.Effects.{State}
use Rattle.c_reader.specs.Choices.{choices}
use Rattle.c_grammar.specs.Reading.{first, later}
use Rattle.c_reader.proofs.Keeps.{Keeps, expands}

-- the rule that reads what binds so tightly, and what may still follow it there
abbrev pub rule_at : ℕ → Rule
rule_at zero = rule.MapExpr
rule_at (suc zero) = rule.MapAndAnd
rule_at (suc (suc zero)) = rule.MapBitOr
rule_at (suc (suc (suc zero))) = rule.MapBitXor
rule_at (suc (suc (suc (suc zero)))) = rule.MapBitAnd
rule_at (suc (suc (suc (suc (suc zero))))) = rule.MapEqual
rule_at (suc (suc (suc (suc (suc (suc zero)))))) = rule.MapOrder
rule_at (suc (suc (suc (suc (suc (suc (suc zero))))))) = rule.MapShift
rule_at (suc (suc (suc (suc (suc (suc (suc (suc zero)))))))) = rule.MapAdd
rule_at (suc (suc (suc (suc (suc (suc (suc (suc (suc zero))))))))) = rule.MapMul
rule_at _ = rule.MapUnary

abbrev pub tail_at : ℕ → List Symbol
tail_at zero = Expand rule.MapExprTail ∷ []
tail_at (suc zero) = Expand rule.MapAndAndTail ∷ []
tail_at (suc (suc zero)) = Expand rule.MapBitOrTail ∷ []
tail_at (suc (suc (suc zero))) = Expand rule.MapBitXorTail ∷ []
tail_at (suc (suc (suc (suc zero)))) = Expand rule.MapBitAndTail ∷ []
tail_at (suc (suc (suc (suc (suc zero))))) = Expand rule.MapEqualTail ∷ []
tail_at (suc (suc (suc (suc (suc (suc zero)))))) = Expand rule.MapOrderTail ∷ []
tail_at (suc (suc (suc (suc (suc (suc (suc zero))))))) = Expand rule.MapShiftTail ∷ []
tail_at (suc (suc (suc (suc (suc (suc (suc (suc zero)))))))) = Expand rule.MapAddTail ∷ []
tail_at (suc (suc (suc (suc (suc (suc (suc (suc (suc zero))))))))) = Expand rule.MapMulTail ∷ []
tail_at (suc (suc (suc (suc (suc (suc (suc (suc (suc (suc zero)))))))))) = []
tail_at _ = Expand rule.MapArrows ∷ []

-- one more operand was read, with so many operators
pub record Like (v : Operand) (n : ℕ) (state after : State) : Type 0 where
  pub values : after.values ≡ value.Operand v ∷ state.values
  pub depth : after.depth ≡ state.depth
  pub operators : after.operators ≡ state.operators + n

abbrev pub Kept : List Value → List Symbol → State → List Piece → Type 0
Kept values symbols state ps = Keeps choices values symbols state ps

-- The tokens are read by the rule of a level, up to what may still follow there.
abbrev pub Builds : ℕ → ℕ → List Token → ℕ → Operand → Type 0
Builds level room ts n v =
    (values : List Value) (symbols : List Symbol) (state : State) (ps : List Piece) → state.depth + room ≤ 100 → state.operators + n ≤ 1000
    → ((after : State) → Like v n state after → Kept values (tail_at level ++ symbols) after ps)
    → Kept values (Expand (rule_at level) ∷ symbols) state (map map_piece ts ++ ps)

-- What may still follow may be nothing.
pub close : (level : ℕ) (values : List Value) (symbols : List Symbol) (state : State) (ps : List Piece) → level ≤ 11 → Kept values symbols state ps → Kept values (tail_at level ++ symbols) state ps
close zero values symbols state ps le g = expands (later first) g
close (suc zero) values symbols state ps le g = expands (later first) g
close (suc (suc zero)) values symbols state ps le g = expands (later first) g
close (suc (suc (suc zero))) values symbols state ps le g = expands (later first) g
close (suc (suc (suc (suc zero)))) values symbols state ps le g = expands (later first) g
close (suc (suc (suc (suc (suc zero))))) values symbols state ps le g = expands (later first) g
close (suc (suc (suc (suc (suc (suc zero)))))) values symbols state ps le g = expands (later first) g
close (suc (suc (suc (suc (suc (suc (suc zero))))))) values symbols state ps le g = expands (later first) g
close (suc (suc (suc (suc (suc (suc (suc (suc zero)))))))) values symbols state ps le g = expands (later first) g
close (suc (suc (suc (suc (suc (suc (suc (suc (suc zero))))))))) values symbols state ps le g = expands (later first) g
close (suc (suc (suc (suc (suc (suc (suc (suc (suc (suc zero)))))))))) values symbols state ps le g = g
close (suc (suc (suc (suc (suc (suc (suc (suc (suc (suc (suc n))))))))))) values symbols state ps le g = expands (later first) g

-- A rule begins with the one of the next level.
pub open_level : (level : ℕ) (values : List Value) (symbols : List Symbol) (state : State) (ps : List Piece) → level ≤ 9
    → Kept values (Expand (rule_at (suc level)) ∷ (tail_at level ++ symbols)) state ps → Kept values (Expand (rule_at level) ∷ symbols) state ps
open_level zero values symbols state ps le g = expands first g
open_level (suc zero) values symbols state ps le g = expands first g
open_level (suc (suc zero)) values symbols state ps le g = expands first g
open_level (suc (suc (suc zero))) values symbols state ps le g = expands first g
open_level (suc (suc (suc (suc zero)))) values symbols state ps le g = expands first g
open_level (suc (suc (suc (suc (suc zero))))) values symbols state ps le g = expands first g
open_level (suc (suc (suc (suc (suc (suc zero)))))) values symbols state ps le g = expands first g
open_level (suc (suc (suc (suc (suc (suc (suc zero))))))) values symbols state ps le g = expands first g
open_level (suc (suc (suc (suc (suc (suc (suc (suc zero)))))))) values symbols state ps le g = expands first g
open_level (suc (suc (suc (suc (suc (suc (suc (suc (suc zero))))))))) values symbols state ps le g = expands first g
open_level (suc (suc (suc (suc (suc (suc (suc (suc (suc (suc n)))))))))) values symbols state ps le g = absurd (omega arith)

-- From one level to the one that binds less.
pub down : (level room : ℕ) (ts : List Token) (n : ℕ) (v : Operand) → level ≤ 9 → Builds (suc level) room ts n v → Builds level room ts n v
down level room ts n v le b values symbols state ps deep many go =
    open_level level values symbols state (map map_piece ts ++ ps) le
    (b values (tail_at level ++ symbols) state ps deep many (λ after like. close (suc level) values (tail_at level ++ symbols) after ps (omega arith) (go after like)))

pub down_last : (room : ℕ) (ts : List Token) (n : ℕ) (v : Operand) → Builds 11 room ts n v → Builds 10 room ts n v
down_last room ts n v b values symbols state ps deep many go = b values symbols state ps deep many (λ after like. close 11 values symbols after ps (omega arith) (go after like))

pub descend : (k level room : ℕ) (ts : List Token) (n : ℕ) (v : Operand) → k + level ≤ 10 → Builds (k + level) room ts n v → Builds level room ts n v
descend zero level room ts n v le b = let e : zero + level ≡ level = omega arith in subst (λ i. Builds i room ts n v) e b
descend (suc k) level room ts n v le b =
    let e : suc k + level ≡ suc (k + level) = omega arith in
    descend k level room ts n v (omega arith) (down (k + level) room ts n v (omega arith) (subst (λ i. Builds i room ts n v) e b))

-- from the level of prefix operators, and from that of whole operands
pub from_prefix : (level room : ℕ) (ts : List Token) (n : ℕ) (v : Operand) → level ≤ 10 → Builds 10 room ts n v → Builds level room ts n v
from_prefix level room ts n v le b =
    let e : 10 ≡ 10 - level + level = omega arith in
    descend (10 - level) level room ts n v (omega arith) (subst (λ i. Builds i room ts n v) e b)

pub from_level : (top level room : ℕ) (ts : List Token) (n : ℕ) (v : Operand) → level ≤ top → top ≤ 10 → Builds top room ts n v → Builds level room ts n v
from_level top level room ts n v le most b =
    let e : top ≡ top - level + level = omega arith in
    descend (top - level) level room ts n v (omega arith) (subst (λ i. Builds i room ts n v) e b)

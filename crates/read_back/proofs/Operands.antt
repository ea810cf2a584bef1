-- What the actions make of operands.
use Rattle.std.specs.Prelude.{◌≡◌, ℕ, suc, ◌+◌, ◌-◌, ◌≤◌, ℤ, pos, negsuc, List, [], ◌∷◌}
use Rattle.std.proofs.Common.{refl, sym, ◌∙◌, ap, subst, arith}
use Rattle.c_tree.specs.declared.program.ExprKind.{ExprKind}
use Rattle.c_tree.specs.declared.program.ExprKind.TheVariants as e
use Rattle.c_tree.specs.declared.token.Token.{Token}
use Rattle.c_tree.specs.declared.token.TokenKind.{TokenKind}
use Rattle.c_tree.specs.declared.token.TokenKind.TheVariants as token
use Rattle.c_tree.specs.Operators.{binding}
use Rattle.c_grammar.specs.declared.action.Action.{Action}
use Rattle.c_grammar.specs.declared.action.Action.TheVariants as action
use Rattle.c_grammar.specs.declared.symbol.Mark.TheVariants as mark
use Rattle.c_grammar.specs.declared.value.Operand.{Operand}
use Rattle.c_grammar.specs.declared.value.Value.{Value}
use Rattle.c_grammar.specs.declared.value.Value.TheVariants as value
use Rattle.c_grammar.specs.Effects.{State, binary_of, unary_of, effect, with_token, value_effect}
use Rattle.c_grammar.specs.Tokens.{kind_of, number_of, natural, text_of}
use Rattle.c_grammar.specs.Values.{operand_in}
use Rattle.read_back.specs.Kept.{Fitting, number, null, eof, name, slot, element, field, prefixed, between, bracketed, IsKeptExpr}
use Rattle.read_back.proofs.Contracts.{Claim, Made, Level, Tail, OperatorAt}
use Rattle.read_back.proofs.Literals.{IsLiteral, HasLiteral}

pub same_le : (n : ℕ) → n ≤ n
same_le n = omega arith

-- What binds more tightly binds tightly enough.
pub loosen : (less : ℕ) {asked room n : ℕ} {x : ExprKind} → less ≤ asked → Fitting asked room x n → Fitting less room x n
loosen less le (number asked room n l s) = number less room n (omega (arith, le, l)) s
loosen less le (null asked room l) = null less room (omega (arith, le, l))
loosen less le (eof asked room l) = eof less room (omega (arith, le, l))
loosen less le (name asked room word l) = name less room word (omega (arith, le, l))
loosen less le (slot asked room word n l) = slot less room word n (omega (arith, le, l))
loosen less le (element asked word x l f) = element less word x (omega (arith, le, l)) f
loosen less le (field asked word x l f) = field less word x (omega (arith, le, l)) f
loosen less le (prefixed asked op x l f) = prefixed less op x (omega (arith, le, l)) f
loosen less le (between asked op x y l f g) = between less op x y (omega (arith, le, l)) f g
loosen less le (bracketed asked x l f) = bracketed less x (omega (arith, le, l)) f

-- The same operand where it may bind less tightly, from the same place.
pub rebase : {level base depth : ℕ} {behind : List Value} {state : State} (less base' depth' : ℕ) → less ≤ level → base ≡ base' → depth ≡ depth'
    → Made level base behind depth state → Made less base' behind depth' state
rebase {base = base} {depth = depth} {behind = behind} {state = state} less base' depth' le b d m =
    let loose : Made less base behind depth state = record {
      operand = m.operand;
      count = m.count;
      values = m.values;
      level_depth = m.level_depth;
      operators = m.operators;
      fits = loosen less le m.fits;
      few = m.few;
      shallow = m.shallow;
    } in
    subst (λ i. Made less i behind depth' state) b (subst (λ i. Made less base behind i state) d loose)

pub lower : {level base depth : ℕ} {behind : List Value} {state : State} (less : ℕ) → less ≤ level → Made level base behind depth state → Made less base behind depth state
lower {base = base} {depth = depth} less le m = rebase less base depth le refl refl m

-- A level begins with the next one, and goes on with its tail.
pub down : (level : ℕ) (state : State) (low : ℕ) (next : Claim) → Level level state low next → Level (suc level) state low (λ after low'. Tail level after next)
down level state low next h = (h.0, h.1, λ after low' m. (state.operators, state.values, state.depth, lower level (omega arith) m, h.2))

-- An operand that binds most tightly goes on with arrows.
pub whole : (state : State) (low : ℕ) (next : Claim) → Level 10 state low next → Level 11 state low (λ after low'. Tail 11 after next)
whole state low next h = (h.0, h.1, λ after low' m. (state.operators, state.values, state.depth, m, λ last low'' m'. h.2 last low'' (lower 10 (omega arith) m')))

room_is : (depth : ℕ) → depth + 1 ≤ 100 → suc (100 - (depth + 1)) ≡ 100 - depth
room_is depth le = omega (arith, le)

-- what an action makes of values
abbrev made_by : Action → List Value → Operand
made_by a vs = operand_in (value_effect a vs)

-- an operator between two operands
pub bin_made : (level : ℕ) (t : Token) {base depth : ℕ} {behind : List Value} (state after : State) → OperatorAt level t → Made level base behind depth state
    → Made (suc level) (with_token mark.CountKeep (value.Word t) state).operators (with_token mark.CountKeep (value.Word t) state).values (with_token mark.CountKeep (value.Word t) state).depth after
    → Made level base behind depth (effect action.Bin after)
bin_made level t {base = base} {depth = depth} {behind = behind} state after is left right =
    let found : List Value = value.Operand right.operand ∷ value.Word t ∷ value.Operand left.operand ∷ behind in
    let were : after.values ≡ found = right.values ∙ ap (λ w. value.Operand right.operand ∷ value.Word t ∷ w) left.values in
    let now : after.depth ≡ state.depth + 0 = right.level_depth in
    let counted : after.operators ≡ state.operators + 1 + right.count = right.operators in
    let same : state.depth + 0 ≡ depth = omega (arith, left.level_depth) in
    let next : suc level ≡ binding (binary_of (kind_of t.kind)) + 1 = omega (arith, is) in
    record {
      operand = made_by action.Bin found;
      count = left.count + 1 + right.count;
      values = ap (value_effect action.Bin) were;
      level_depth = omega (arith, now, same);
      operators = omega (arith, counted, left.operators);
      fits = between level (binary_of (kind_of t.kind)) left.operand.expr right.operand.expr (omega (arith, is))
          (subst (λ i. Fitting i (100 - depth) left.operand.expr.kind left.count) (sym is) left.fits)
          (subst (λ i. Fitting i (100 - depth) right.operand.expr.kind right.count) next (subst (λ i. Fitting (suc level) (100 - i) right.operand.expr.kind right.count) same right.fits));
      few = right.few;
      shallow = left.shallow;
    }

-- a prefix operator
pub un_made : (t : Token) (state after : State)
    → Made 10 (with_token mark.OpenKeep (value.Word t) state).operators (with_token mark.OpenKeep (value.Word t) state).values (with_token mark.OpenKeep (value.Word t) state).depth after
    → Made 10 state.operators state.values state.depth (effect action.Un (effect action.Leave after))
un_made t state after m =
    let found : List Value = value.Operand m.operand ∷ value.Word t ∷ state.values in
    let now : after.depth ≡ state.depth + 1 = m.level_depth in
    let counted : after.operators ≡ state.operators + 0 + m.count = m.operators in
    let deep : state.depth + 1 ≤ 100 = m.shallow in
    record {
      operand = made_by action.Un found;
      count = m.count;
      values = ap (value_effect action.Un) m.values;
      level_depth = omega (arith, now);
      operators = omega (arith, counted);
      fits = subst (λ i. Fitting 10 i (made_by action.Un found).expr.kind m.count) (room_is state.depth deep)
          (prefixed 10 (unary_of (kind_of t.kind)) m.operand.expr (omega arith) m.fits);
      few = m.few;
      shallow = omega (arith, deep);
    }

-- an expression in brackets
pub group_made : (left right : Token) (state after : State)
    → Made 0 (with_token mark.OpenKeep (value.Word left) state).operators (with_token mark.OpenKeep (value.Word left) state).values (with_token mark.OpenKeep (value.Word left) state).depth after
    → Made 11 state.operators state.values state.depth (effect action.Group (effect action.Leave (with_token mark.Skip (value.Word right) after)))
group_made left right state after m =
    let found : List Value = value.Operand m.operand ∷ value.Word left ∷ state.values in
    let now : after.depth ≡ state.depth + 1 = m.level_depth in
    let counted : after.operators ≡ state.operators + 0 + m.count = m.operators in
    let deep : state.depth + 1 ≤ 100 = m.shallow in
    record {
      operand = made_by action.Group found;
      count = m.count;
      values = ap (value_effect action.Group) m.values;
      level_depth = omega (arith, now);
      operators = omega (arith, counted);
      fits = subst (λ i. Fitting 11 i m.operand.expr.kind m.count) (room_is state.depth deep) (bracketed 11 m.operand.expr.kind (omega arith) m.fits);
      few = omega (arith, m.few);
      shallow = omega (arith, deep);
    }

-- an element of an array
pub index_made : (t left right : Token) (state after : State) (behind : List Value) → state.values ≡ value.Word t ∷ behind
    → Made 0 (with_token mark.Open (value.Word left) state).operators (with_token mark.Open (value.Word left) state).values (with_token mark.Open (value.Word left) state).depth after
    → Made 11 state.operators behind state.depth (effect action.Index (effect action.Leave (with_token mark.Skip (value.Word right) after)))
index_made t left right state after behind e m =
    let found : List Value = value.Operand m.operand ∷ value.Word t ∷ behind in
    let now : after.depth ≡ state.depth + 1 = m.level_depth in
    let counted : after.operators ≡ state.operators + 0 + m.count = m.operators in
    let deep : state.depth + 1 ≤ 100 = m.shallow in
    record {
      operand = made_by action.Index found;
      count = m.count;
      values = ap (value_effect action.Index) (m.values ∙ ap (λ w. value.Operand m.operand ∷ w) e);
      level_depth = omega (arith, now);
      operators = omega (arith, counted);
      fits = subst (λ i. Fitting 11 i (made_by action.Index found).expr.kind m.count) (room_is state.depth deep) (element 11 (text_of t.kind) m.operand.expr (omega arith) m.fits);
      few = omega (arith, m.few);
      shallow = omega (arith, deep);
    }

-- a field
pub field_made : (arrow t : Token) {base depth : ℕ} {behind : List Value} (state : State) → Made 11 base behind depth state
    → (with_token mark.Keep (value.Word t) (with_token mark.Count (value.Word arrow) state)).operators ≤ 1000
    → Made 11 base behind depth (effect action.Field (with_token mark.Keep (value.Word t) (with_token mark.Count (value.Word arrow) state)))
field_made arrow t {base = base} {depth = depth} {behind = behind} state m few =
    let found : List Value = value.Word t ∷ value.Operand m.operand ∷ behind in
    record {
      operand = made_by action.Field found;
      count = m.count + 1;
      values = ap (λ w. value_effect action.Field (value.Word t ∷ w)) m.values;
      level_depth = omega (arith, m.level_depth);
      operators = omega (arith, m.operators);
      fits = field 11 (text_of t.kind) m.operand.expr (omega arith) m.fits;
      few = few;
      shallow = m.shallow;
    }

-- names and slots
pub name_made : (t : Token) (state : State) (behind : List Value) → state.values ≡ value.Word t ∷ behind → state.depth ≤ 100 → state.operators ≤ 1000
    → Made 11 state.operators behind state.depth (effect action.NameExpr state)
name_made t state behind e deep few = record {
  operand = made_by action.NameExpr (value.Word t ∷ behind);
  count = 0;
  values = ap (value_effect action.NameExpr) e;
  level_depth = omega arith;
  operators = omega arith;
  fits = name 11 (100 - state.depth) (text_of t.kind) (omega arith);
  few = few;
  shallow = deep;
}

pub hidden_made : (t dot n : Token) (state : State) (behind : List Value) → state.values ≡ value.Word t ∷ behind → state.depth ≤ 100 → state.operators ≤ 1000
    → Made 11 state.operators behind state.depth (effect action.HiddenSlot (with_token mark.Keep (value.Word n) (with_token mark.Skip (value.Word dot) state)))
hidden_made t dot n state behind e deep few = record {
  operand = made_by action.HiddenSlot (value.Word n ∷ value.Word t ∷ behind);
  count = 0;
  values = ap (λ w. value_effect action.HiddenSlot (value.Word n ∷ w)) e;
  level_depth = omega arith;
  operators = omega arith;
  fits = slot 11 (100 - state.depth) (text_of t.kind) (natural (number_of n.kind)) (omega arith);
  few = omega (arith, few);
  shallow = deep;
}

pub temporary_made : (dot n : Token) (state : State) → state.depth ≤ 100 → state.operators ≤ 1000
    → Made 11 state.operators state.values state.depth (effect action.TempSlot (with_token mark.Keep (value.Word n) (with_token mark.Keep (value.Word dot) state)))
temporary_made dot n state deep few = record {
  operand = made_by action.TempSlot (value.Word n ∷ value.Word dot ∷ state.values);
  count = 0;
  values = refl;
  level_depth = omega arith;
  operators = omega arith;
  fits = slot 11 (100 - state.depth) [] (natural (number_of n.kind)) (omega arith);
  few = omega (arith, few);
  shallow = deep;
}

-- constants
literal_of : (k : TokenKind) → HasLiteral k → IsLiteral (number_of k)
literal_of (token.Number n) h = h
literal_of (token.Char n) h = h
literal_of (token.Word w) h = omega arith
literal_of (token.Str w) h = omega arith
literal_of (token.Punct place) h = omega arith

pub natural_of : (k : TokenKind) → HasLiteral k → natural (number_of k) ≤ 2147483647
natural_of k h = go (number_of k) (literal_of k h)
  where
    go : (z : ℤ) → IsLiteral z → natural z ≤ 2147483647
    go (pos n) h = h
    go (negsuc n) h = absurd h

number_fits : (room : ℕ) (z : ℤ) → IsLiteral z → Fitting 11 room (e.Num z) 0
number_fits room (pos n) h = number 11 room n (omega arith) h
number_fits room (negsuc n) h = absurd h

pub number_made : (t : Token) (state : State) → HasLiteral t.kind → state.depth ≤ 100 → state.operators ≤ 1000
    → Made 11 state.operators state.values state.depth (effect action.Num (with_token mark.Keep (value.Word t) state))
number_made t state h deep few = record {
  operand = made_by action.Num (value.Word t ∷ state.values);
  count = 0;
  values = refl;
  level_depth = omega arith;
  operators = omega arith;
  fits = number_fits (100 - state.depth) (number_of t.kind) (literal_of t.kind h);
  few = omega (arith, few);
  shallow = deep;
}

pub null_made : (t : Token) (state : State) → state.depth ≤ 100 → state.operators ≤ 1000
    → Made 11 state.operators state.values state.depth (effect action.NullExpr (with_token mark.Keep (value.Word t) state))
null_made t state deep few = record {
  operand = made_by action.NullExpr (value.Word t ∷ state.values);
  count = 0;
  values = refl;
  level_depth = omega arith;
  operators = omega arith;
  fits = null 11 (100 - state.depth) (omega arith);
  few = omega (arith, few);
  shallow = deep;
}

pub eof_made : (t : Token) (state : State) → state.depth ≤ 99 → state.operators ≤ 1000
    → Made 11 state.operators state.values state.depth (effect action.EofExpr (with_token mark.Keep (value.Word t) state))
eof_made t state deep few =
    let more : suc (99 - state.depth) ≡ 100 - state.depth = omega (arith, deep) in
    record {
      operand = made_by action.EofExpr (value.Word t ∷ state.values);
      count = 0;
      values = refl;
      level_depth = omega arith;
      operators = omega arith;
      fits = subst (λ i. Fitting 11 i e.Eof 0) more (eof 11 (99 - state.depth) (omega arith));
      few = omega (arith, few);
      shallow = omega (arith, deep);
    }

-- A whole expression keeps the limits.
pub is_kept : (behind : List Value) (depth : ℕ) (state : State) → depth ≡ 0 → (m : Made 0 0 behind depth state) → IsKeptExpr m.operand.expr
is_kept behind depth state flat m =
    let counted : state.operators ≡ 0 + m.count = m.operators in
    record {
      operators = m.count;
      fits = subst (λ i. Fitting 0 (100 - i) m.operand.expr.kind m.count) flat m.fits;
      few = omega (arith, counted, m.few);
    }

-- The forms of an expression, one by one.
use Rattle.std.proofs.Common.{◌≡◌, ℕ, suc, ◌+◌, ◌<◌, ◌≤◌, ◌⊎◌, inl, inr, pos, true, List, [], ◌∷◌, ◌++◌, refl, sym, ◌∙◌, ap, subst, arith, cond}
use Rattle.std.specs.Prelude.{map, codes}
use Rattle.std.proofs.lemmas.Bool.{cases_lt}
use Rattle.c_tree.specs.declared.op.UnOp.{UnOp}
use Rattle.c_tree.specs.declared.op.UnOp.TheVariants as un
use Rattle.c_tree.specs.declared.op.BinOp.{BinOp}
use Rattle.c_tree.specs.declared.op.BinOp.TheVariants as bin
use Rattle.c_tree.specs.declared.token.Token.{Token}
use Rattle.c_tree.specs.declared.token.TokenKind.TheVariants as token
use Rattle.c_tree.specs.declared.program.ExprKind.TheVariants as e
use Rattle.c_tree.specs.Operators.{binding}
use Rattle.c_grammar.specs.declared.kind.Kind.{Kind}
use Rattle.c_grammar.specs.declared.kind.Kind.TheVariants as kind
use Rattle.c_grammar.specs.declared.rule.Rule.TheVariants as rule
use Rattle.c_grammar.specs.declared.action.Action.TheVariants as action
use Rattle.c_grammar.specs.declared.symbol.Mark.{Mark}
use Rattle.c_grammar.specs.declared.symbol.Mark.TheVariants.{Skip, Keep, Open, OpenKeep, Count, CountKeep}
use Rattle.c_grammar.specs.declared.symbol.Symbol.{Symbol}
use Rattle.c_grammar.specs.declared.symbol.Symbol.TheVariants.{Act, Expand}
use Rattle.c_grammar.specs.declared.value.Value.{Value}
use Rattle.c_grammar.specs.declared.value.Value.TheVariants as value
use Rattle.c_grammar.specs.declared.value.Operand.{Operand}
use Rattle.c_grammar.specs.Marks.{counts}
use Rattle.c_grammar.specs.Pieces.{Piece, map_piece}
use Rattle.c_grammar.specs.Tokens.{map_word_kind, word_kind, sign_kind}
use Rattle.c_grammar.specs.Values.{operand, node}
use Rattle.c_grammar.specs.Effects.{State, with_token, value_effect, unary_of, binary_of}
use Rattle.c_grammar.specs.Words.{signs, words, map_words}
use Rattle.c_grammar.specs.Reading.{first, later, depth_limit}
use Rattle.c_reader.proofs.Keeps.{IsKept, takes, acts, expands}
use Rattle.read_back.proofs.Printed.{token_at, un_place, bin_place, is_any_name, IsAnyName}
use Rattle.read_back.proofs.Levels.{rule_at, tail_at, Kept, Builds, close, down_last, from_prefix}

pub pieces_append : (ts us : List Token) (ps : List Piece) → map map_piece (ts ++ us) ++ ps ≡ map map_piece ts ++ (map map_piece us ++ ps)
pieces_append [] us ps = refl
pieces_append (t ∷ ts) us ps = ap (λ x. map_piece t ∷ x) (pieces_append ts us ps)

pub joined : {values : List Value} {symbols : List Symbol} {state : State} (ts us : List Token) (ps : List Piece)
    → Kept values symbols state (map map_piece ts ++ (map map_piece us ++ ps)) → Kept values symbols state (map map_piece (ts ++ us) ++ ps)
joined {values} {symbols} {state} ts us ps g = subst (λ x. Kept values symbols state x) (sym (pieces_append ts us ps)) g

abbrev pub Stays : Mark → State → Type 0
Stays mark state = (state.depth ≤ 100) × (state.operators + cond (counts mark) 1 0 ≤ 1000)

kept : (k : Kind) (mark : Mark) (p : Piece) (state : State) → p.kind ≡ k → (k ≡ kind.LeftOut → ⊥) → depth_limit k ≡ 100 → Stays mark state → IsKept mark p state
kept k mark p state is named limit stays = record {
  named = λ f. named (sym is ∙ f);
  shallow = subst (λ x. state.depth ≤ depth_limit x) (sym is) (subst (λ x. state.depth ≤ x) (sym limit) stays.0);
  few = stays.1;
}

-- Names.

pub any_name : (k : Kind) (t : Token) (values : List Value) (symbols : List Symbol) (state : State) (ps : List Piece) → (map_piece t).kind ≡ k → is_any_name k ≡ true → Stays Keep state
    → Kept values symbols (with_token Keep (value.Word t) state) ps → Kept values (Expand rule.AnyName ∷ symbols) state (map_piece t ∷ ps)
any_name kind.Name t values symbols state ps is h s g = expands first (expands first (takes is (kept kind.Name Keep (map_piece t) state is (λ f. cc) refl s) g))
any_name kind.FunctionWord t values symbols state ps is h s g = expands first (expands (later first) (takes is (kept kind.FunctionWord Keep (map_piece t) state is (λ f. cc) refl s) g))
any_name kind.GlobalWord t values symbols state ps is h s g = expands first (expands (later (later first)) (takes is (kept kind.GlobalWord Keep (map_piece t) state is (λ f. cc) refl s) g))
any_name kind.MutexWord t values symbols state ps is h s g = expands first (expands (later (later (later first))) (takes is (kept kind.MutexWord Keep (map_piece t) state is (λ f. cc) refl s) g))
any_name kind.FieldWord t values symbols state ps is h s g = expands first (expands (later (later (later (later first)))) (takes is (kept kind.FieldWord Keep (map_piece t) state is (λ f. cc) refl s) g))
any_name kind.InitWord t values symbols state ps is h s g = expands first (expands (later (later (later (later (later first))))) (takes is (kept kind.InitWord Keep (map_piece t) state is (λ f. cc) refl s) g))
any_name kind.PointWord t values symbols state ps is h s g = expands first (expands (later (later (later (later (later (later first)))))) (takes is (kept kind.PointWord Keep (map_piece t) state is (λ f. cc) refl s) g))
any_name kind.CheckWord t values symbols state ps is h s g = expands first (expands (later (later (later (later (later (later (later first))))))) (takes is (kept kind.CheckWord Keep (map_piece t) state is (λ f. cc) refl s) g))
any_name kind.EntryWord t values symbols state ps is h s g = expands first (expands (later (later (later (later (later (later (later (later first)))))))) (takes is (kept kind.EntryWord Keep (map_piece t) state is (λ f. cc) refl s) g))
any_name kind.LoopWord t values symbols state ps is h s g = expands first (expands (later (later (later (later (later (later (later (later (later first))))))))) (takes is (kept kind.LoopWord Keep (map_piece t) state is (λ f. cc) refl s) g))
any_name kind.CallWord t values symbols state ps is h s g = expands first (expands (later (later (later (later (later (later (later (later (later (later first)))))))))) (takes is (kept kind.CallWord Keep (map_piece t) state is (λ f. cc) refl s) g))
any_name kind.BlockWord t values symbols state ps is h s g = expands first (expands (later (later (later (later (later (later (later (later (later (later (later first))))))))))) (takes is (kept kind.BlockWord Keep (map_piece t) state is (λ f. cc) refl s) g))
any_name kind.NoneWord t values symbols state ps is h s g = expands (later first) (takes is (kept kind.NoneWord Keep (map_piece t) state is (λ f. cc) refl s) g)
any_name k t values symbols state ps is h s g = cc

-- Operators.

pub unary_is : (op : UnOp) → unary_of (sign_kind (un_place op)) ≡ op
unfolding signs
unary_is un.Neg = refl
unary_is un.Not = refl
unary_is un.Flip = refl

pub binary_is : (op : BinOp) → binary_of (sign_kind (bin_place op)) ≡ op
unfolding signs
binary_is bin.Mul = refl
binary_is bin.Div = refl
binary_is bin.Rem = refl
binary_is bin.Add = refl
binary_is bin.Sub = refl
binary_is bin.Shl = refl
binary_is bin.Shr = refl
binary_is bin.Lt = refl
binary_is bin.Le = refl
binary_is bin.Gt = refl
binary_is bin.Ge = refl
binary_is bin.Eq = refl
binary_is bin.Ne = refl
binary_is bin.BitAnd = refl
binary_is bin.BitXor = refl
binary_is bin.BitOr = refl
binary_is bin.And = refl
binary_is bin.Or = refl

abbrev SignStep : Mark → ℕ → List Symbol → List Symbol → Type 0
SignStep mark place front back =
    (at len : ℕ) (values : List Value) (symbols : List Symbol) (state : State) (ps : List Piece) → Stays mark state
    → Kept values (back ++ symbols) (with_token mark (value.Word (token_at (token.Punct place) at len)) state) ps
    → Kept values (front ++ symbols) state (map_piece (token_at (token.Punct place) at len) ∷ ps)

pub prefix_step : (op : UnOp) → SignStep OpenKeep (un_place op) (Expand rule.UnOp ∷ []) []
unfolding signs
prefix_step un.Neg at len values symbols state ps s g = expands first (takes refl (kept kind.Minus OpenKeep _ state refl (λ f. cc) refl s) g)
prefix_step un.Not at len values symbols state ps s g = expands (later first) (takes refl (kept kind.Bang OpenKeep _ state refl (λ f. cc) refl s) g)
prefix_step un.Flip at len values symbols state ps s g = expands (later (later first)) (takes refl (kept kind.Tilde OpenKeep _ state refl (λ f. cc) refl s) g)

pub binary_step : (op : BinOp) → SignStep CountKeep (bin_place op) (tail_at (binding op)) (Expand (rule_at (binding op + 1)) ∷ Act action.Bin ∷ tail_at (binding op))
unfolding signs
binary_step bin.Mul at len values symbols state ps s g = expands first (expands first (takes refl (kept kind.Star CountKeep _ state refl (λ f. cc) refl s) g))
binary_step bin.Div at len values symbols state ps s g = expands first (expands (later first) (takes refl (kept kind.Slash CountKeep _ state refl (λ f. cc) refl s) g))
binary_step bin.Rem at len values symbols state ps s g = expands first (expands (later (later first)) (takes refl (kept kind.Percent CountKeep _ state refl (λ f. cc) refl s) g))
binary_step bin.Add at len values symbols state ps s g = expands first (expands first (takes refl (kept kind.Plus CountKeep _ state refl (λ f. cc) refl s) g))
binary_step bin.Sub at len values symbols state ps s g = expands first (expands (later first) (takes refl (kept kind.Minus CountKeep _ state refl (λ f. cc) refl s) g))
binary_step bin.Shl at len values symbols state ps s g = expands first (expands first (takes refl (kept kind.ShiftLeft CountKeep _ state refl (λ f. cc) refl s) g))
binary_step bin.Shr at len values symbols state ps s g = expands first (expands (later first) (takes refl (kept kind.ShiftRight CountKeep _ state refl (λ f. cc) refl s) g))
binary_step bin.Lt at len values symbols state ps s g = expands first (expands first (takes refl (kept kind.Less CountKeep _ state refl (λ f. cc) refl s) g))
binary_step bin.Le at len values symbols state ps s g = expands first (expands (later first) (takes refl (kept kind.LessEqual CountKeep _ state refl (λ f. cc) refl s) g))
binary_step bin.Gt at len values symbols state ps s g = expands first (expands (later (later first)) (takes refl (kept kind.Greater CountKeep _ state refl (λ f. cc) refl s) g))
binary_step bin.Ge at len values symbols state ps s g = expands first (expands (later (later (later first))) (takes refl (kept kind.GreaterEqual CountKeep _ state refl (λ f. cc) refl s) g))
binary_step bin.Eq at len values symbols state ps s g = expands first (expands first (takes refl (kept kind.EqualEqual CountKeep _ state refl (λ f. cc) refl s) g))
binary_step bin.Ne at len values symbols state ps s g = expands first (expands (later first) (takes refl (kept kind.NotEqual CountKeep _ state refl (λ f. cc) refl s) g))
binary_step bin.BitAnd at len values symbols state ps s g = expands first (expands first (takes refl (kept kind.And CountKeep _ state refl (λ f. cc) refl s) g))
binary_step bin.BitXor at len values symbols state ps s g = expands first (expands first (takes refl (kept kind.Xor CountKeep _ state refl (λ f. cc) refl s) g))
binary_step bin.BitOr at len values symbols state ps s g = expands first (expands first (takes refl (kept kind.Or CountKeep _ state refl (λ f. cc) refl s) g))
binary_step bin.And at len values symbols state ps s g = expands first (expands first (takes refl (kept kind.AndAnd CountKeep _ state refl (λ f. cc) refl s) g))
binary_step bin.Or at len values symbols state ps s g = expands first (expands first (takes refl (kept kind.OrOr CountKeep _ state refl (λ f. cc) refl s) g))

-- from the level of whole operands to any
pub from_whole : (level room : ℕ) (ts : List Token) (n : ℕ) (v : Operand) → level ≤ 11 → Builds 11 room ts n v → Builds level room ts n v
from_whole level room ts n v le b = go (cases_lt level 11)
  where
    go : (level < 11) ⊎ (11 ≤ level) → Builds level room ts n v
    go (inl lt) = from_prefix level room ts n v (omega arith) (down_last room ts n v b)
    go (inr ge) = let same : 11 ≡ level = omega arith in subst (λ i. Builds i room ts n v) same b

-- Leaves.

pub number_built : (room n at len : ℕ) → Builds 11 room (token_at (token.Number (pos n)) at len ∷ []) 0 (operand at (e.Num (pos n)))
number_built room n at len values symbols state ps deep many go =
    expands (later first) (expands first (takes refl (kept kind.Number Keep _ state refl (λ f. cc) refl (omega (arith, deep), omega (arith, many)))
    (acts (go _ (record { values = refl; depth = omega arith; operators = omega arith })))))

pub null_built : (room at len : ℕ) → Builds 11 room (token_at (token.Word (codes "NULL")) at len ∷ []) 0 (operand at e.Null)
unfolding map_word_kind word_kind map_words words
null_built room at len values symbols state ps deep many go =
    expands (later first) (expands (later (later first)) (takes refl (kept kind.Null Keep _ state refl (λ f. cc) refl (omega (arith, deep), omega (arith, many)))
    (acts (go _ (record { values = refl; depth = omega arith; operators = omega arith })))))

pub plain_built : (room at len : ℕ) (word : List ℕ) → IsAnyName word → Builds 11 room (token_at (token.Word word) at len ∷ []) 0 (operand at (e.Name word))
plain_built room at len word is values symbols state ps deep many go =
    expands (later (later (later first))) (any_name (map_word_kind word) (token_at (token.Word word) at len) values _ state ps refl is (omega (arith, deep), omega (arith, many))
    (expands (later (later first)) (acts (go _ (record { values = refl; depth = omega arith; operators = omega arith })))))

pub hidden_built : (room n a b c i j k : ℕ) (word : List ℕ) → IsAnyName word
    → Builds 11 room (token_at (token.Word word) a i ∷ token_at (token.Punct 42) b j ∷ token_at (token.Number (pos n)) c k ∷ []) 0 (operand a (e.Slot word n))
unfolding signs
hidden_built room n a b c i j k word is values symbols state ps deep many go =
    expands (later (later (later first))) (any_name (map_word_kind word) (token_at (token.Word word) a i) values _ state _ refl is (omega (arith, deep), omega (arith, many))
    (expands (later first) (takes refl (kept kind.Dot Skip _ _ refl (λ f. cc) refl (omega (arith, deep), omega (arith, many)))
    (takes refl (kept kind.Number Keep _ _ refl (λ f. cc) refl (omega (arith, deep), omega (arith, many)))
    (acts (go _ (record { values = refl; depth = omega arith; operators = omega arith })))))))

pub temporary_built : (room n b c j k : ℕ) → Builds 11 room (token_at (token.Punct 42) b j ∷ token_at (token.Number (pos n)) c k ∷ []) 0 (operand b (e.Slot [] n))
unfolding signs
temporary_built room n b c j k values symbols state ps deep many go =
    expands (later (later (later (later first)))) (takes refl (kept kind.Dot Keep _ _ refl (λ f. cc) refl (omega (arith, deep), omega (arith, many)))
    (takes refl (kept kind.Number Keep _ _ refl (λ f. cc) refl (omega (arith, deep), omega (arith, many)))
    (acts (go _ (record { values = refl; depth = omega arith; operators = omega arith })))))

-- Forms with parts.

pub element_built : (room n at len a b : ℕ) (word : List ℕ) (ts : List Token) (v : Operand) → IsAnyName word → Builds 0 room ts n v
    → Builds 11 (suc room) (token_at (token.Word word) at len ∷ token_at (token.Punct 36) a 1 ∷ (ts ++ token_at (token.Punct 37) b 1 ∷ [])) n (operand at (e.Index word v.expr))
unfolding signs
element_built room n at len a b word ts v is build values symbols state ps deep many go =
    expands (later (later (later first))) (any_name (map_word_kind word) (token_at (token.Word word) at len) values _ state _ refl is (omega (arith, deep), omega (arith, many))
    (expands first (takes refl (kept kind.LeftBracket Open _ _ refl (λ f. cc) refl (omega (arith, deep), omega (arith, many)))
    (joined ts (token_at (token.Punct 37) b 1 ∷ []) ps
    (build values _ _ _ (omega (arith, deep)) (omega (arith, many)) (λ after like.
    close 0 values _ after _ (omega arith)
    (takes refl (kept kind.RightBracket Skip _ _ refl (λ f. cc) refl (omega (arith, deep, like.depth), omega (arith, many, like.operators)))
    (acts (acts (go _ (record {
      values = ap (λ vs. value_effect action.Index (value_effect action.Leave vs)) like.values;
      depth = omega (arith, like.depth);
      operators = omega (arith, like.operators);
    })))))))))))

pub field_built : (room n at len a : ℕ) (word : List ℕ) (ts : List Token) (v : Operand) → IsAnyName word → Builds 11 room ts n v
    → Builds 11 room (ts ++ token_at (token.Punct 33) a 2 ∷ token_at (token.Word word) at len ∷ []) (n + 1) (operand v.first (e.Field v.expr word))
unfolding signs
field_built room n at len a word ts v is build values symbols state ps deep many go =
    joined ts (token_at (token.Punct 33) a 2 ∷ token_at (token.Word word) at len ∷ []) ps
    (build values symbols state _ deep (omega (arith, many)) (λ after like.
    expands first (takes refl (kept kind.Arrow Count _ _ refl (λ f. cc) refl (omega (arith, deep, like.depth), omega (arith, many, like.operators)))
    (any_name (map_word_kind word) (token_at (token.Word word) at len) values _ _ _ refl is (omega (arith, deep, like.depth), omega (arith, many, like.operators))
    (acts (go _ (record {
      values = ap (λ vs. value_effect action.Field (value.Word (token_at (token.Word word) at len) ∷ vs)) like.values;
      depth = omega (arith, like.depth);
      operators = omega (arith, like.operators);
    })))))))

pub prefixed_built : (room n at : ℕ) (op : UnOp) (ts : List Token) (v : Operand) → Builds 10 room ts n v
    → Builds 10 (suc room) (token_at (token.Punct (un_place op)) at 1 ∷ ts) n (operand at (e.Un op v.expr))
prefixed_built room n at op ts v build values symbols state ps deep many go =
    expands first (prefix_step op at 1 values _ state _ (omega (arith, deep), omega (arith, many))
    (build values _ _ _ (omega (arith, deep)) (omega (arith, many)) (λ after like.
    acts (acts (go _ (record {
      values = ap (λ vs. value_effect action.Un vs) like.values ∙ ap (λ o. value.Operand (operand at (e.Un o v.expr)) ∷ state.values) (unary_is op);
      depth = omega (arith, like.depth);
      operators = omega (arith, like.operators);
    }))))))

pub between_built : (room n m at len : ℕ) (op : BinOp) (ts us : List Token) (v w : Operand) → Builds (binding op) room ts n v → Builds (binding op + 1) room us m w
    → Builds (binding op) room (ts ++ token_at (token.Punct (bin_place op)) at len ∷ us) (n + 1 + m) (record { expr = node at (e.Bin op v.expr w.expr); first = v.first })
between_built room n m at len op ts us v w left right values symbols state ps deep many go =
    joined ts (token_at (token.Punct (bin_place op)) at len ∷ us) ps
    (left values symbols state _ deep (omega (arith, many)) (λ after like.
    binary_step op at len values symbols after _ (omega (arith, deep, like.depth), omega (arith, many, like.operators))
    (right values _ _ ps (omega (arith, deep, like.depth)) (omega (arith, many, like.operators)) (λ last more.
    close (binding op + 1) values _ last ps (small op)
    (acts (go _ (record {
      values = ap (λ vs. value_effect action.Bin vs) more.values
          ∙ ap (λ vs. value_effect action.Bin (value.Operand w ∷ value.Word (token_at (token.Punct (bin_place op)) at len) ∷ vs)) like.values
          ∙ ap (λ o. value.Operand (record { expr = node at (e.Bin o v.expr w.expr); first = v.first }) ∷ state.values) (binary_is op);
      depth = omega (arith, like.depth, more.depth);
      operators = omega (arith, like.operators, more.operators);
    })))))))
  where
    small : (op : BinOp) → binding op + 1 ≤ 11
    small bin.Mul = omega arith
    small bin.Div = omega arith
    small bin.Rem = omega arith
    small bin.Add = omega arith
    small bin.Sub = omega arith
    small bin.Shl = omega arith
    small bin.Shr = omega arith
    small bin.Lt = omega arith
    small bin.Le = omega arith
    small bin.Gt = omega arith
    small bin.Ge = omega arith
    small bin.Eq = omega arith
    small bin.Ne = omega arith
    small bin.BitAnd = omega arith
    small bin.BitXor = omega arith
    small bin.BitOr = omega arith
    small bin.And = omega arith
    small bin.Or = omega arith

pub bracketed_built : (room n a b : ℕ) (ts : List Token) (v : Operand) → Builds 0 room ts n v
    → Builds 11 (suc room) (token_at (token.Punct 34) a 1 ∷ (ts ++ token_at (token.Punct 35) b 1 ∷ [])) n (record { expr = v.expr; first = a })
unfolding signs
bracketed_built room n a b ts v build values symbols state ps deep many go =
    expands (later (later first)) (takes refl (kept kind.LeftParen OpenKeep _ _ refl (λ f. cc) refl (omega (arith, deep), omega (arith, many)))
    (joined ts (token_at (token.Punct 35) b 1 ∷ []) ps
    (build values _ _ _ (omega (arith, deep)) (omega (arith, many)) (λ after like.
    close 0 values _ after _ (omega arith)
    (takes refl (kept kind.RightParen Skip _ _ refl (λ f. cc) refl (omega (arith, deep, like.depth), omega (arith, many, like.operators)))
    (acts (acts (go _ (record {
      values = ap (λ vs. value_effect action.Group vs) like.values;
      depth = omega (arith, like.depth);
      operators = omega (arith, like.operators);
    })))))))))

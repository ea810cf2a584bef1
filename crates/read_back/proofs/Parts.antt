-- The parts of an entry's text: each gives tokens that take some symbols, and what they leave.
use Rattle.std.proofs.Common.{◌≡◌, ℕ, suc, ◌+◌, ◌-◌, ◌≤◌, pos, Bool, true, false, List, [], ◌∷◌, ◌++◌, length, Some, None, refl, sym, ◌∙◌, ap, subst, arith, append_assoc, cond}
use Rattle.std.specs.Prelude.{map, codes}
use Rattle.std.specs.Fmt.{decimal}
use Rattle.c_tree.specs.declared.lifted.LExpr.{LExpr}
use Rattle.c_tree.specs.declared.token.Token.{Token}
use Rattle.c_tree.specs.declared.token.TokenKind.TheVariants as token
use Rattle.c_tree.specs.MapExpr.{Reads, numbered}
use Rattle.c_tree.specs.Shown.{shown, strength}
use Rattle.c_grammar.specs.declared.kind.Kind.{Kind}
use Rattle.c_grammar.specs.declared.kind.Kind.TheVariants as kind
use Rattle.c_grammar.specs.declared.rule.Rule.{Rule}
use Rattle.c_grammar.specs.declared.rule.Rule.TheVariants as rule
use Rattle.c_grammar.specs.declared.action.Action.{Action}
use Rattle.c_grammar.specs.declared.action.Action.TheVariants as action
use Rattle.c_grammar.specs.declared.symbol.Mark.{Mark}
use Rattle.c_grammar.specs.declared.symbol.Mark.TheVariants.{Skip, Keep}
use Rattle.c_grammar.specs.declared.symbol.Symbol.{Symbol}
use Rattle.c_grammar.specs.declared.symbol.Symbol.TheVariants.{Take, Act, Expand}
use Rattle.c_grammar.specs.declared.value.Value.{Value}
use Rattle.c_grammar.specs.declared.value.Value.TheVariants as value
use Rattle.c_grammar.specs.declared.value.Operand.{Operand}
use Rattle.c_grammar.specs.Marks.{opens, counts}
use Rattle.c_grammar.specs.Pieces.{Piece, map_piece}
use Rattle.c_grammar.specs.Tokens.{map_word_kind}
use Rattle.c_grammar.specs.Effects.{State, effect, with_token, value_effect, closes, is_outer}
use Rattle.c_grammar.specs.Words.{signs}
use Rattle.c_grammar.specs.Reading.{Among, first, later, depth_limit}
use Rattle.c_reader.specs.Choices.{choices}
use Rattle.c_reader.proofs.Keeps.{IsKept, takes, acts, expands}
use Rattle.read_back.proofs.Printed.{token_at, is_any_name}
use Rattle.read_back.proofs.Levels.{Kept, close}
use Rattle.read_back.proofs.Forms.{joined, any_name}
use Rattle.read_back.proofs.ReadsBack.{read}
use Rattle.c_tokens.specs.declared.front.Front.TheVariants as front
use Rattle.c_tokens.specs.Text.{scanned, before, text_from}
use Rattle.read_back.proofs.Scan.{Gives, Stops, both_give, blank_gives, piece_gives, token_gives, arrow, dot, semicolon, IsWord, word_gives, number_gives}
use Rattle.read_back.proofs.Shown.{IsName, Fit, scans, operand_text, unbracketed}

-- No construct is open, and the expression before had no more operators than it may.
pub record Calm (state : State) : Type 0 where
  pub shallow : state.depth ≡ 0
  pub few : state.operators ≤ 1000

-- From a calm state the tokens take the symbols to another one, with this effect on the values.
abbrev pub Moves : List Symbol → (List Value → List Value) → List Token → Type 0
Moves front f ts =
    (values : List Value) (symbols : List Symbol) (state : State) (ps : List Piece) → Calm state
    → ((after : State) → Calm after → after.values ≡ f state.values → Kept values symbols after ps)
    → Kept values (front ++ symbols) state (map map_piece ts ++ ps)

-- Before other bytes, these give tokens that take these symbols, and what they do to the values is so.
pub record Part (front : List Symbol) (Does : List Value → List Value → Type 0) (bytes rest : List ℕ) (at : ℕ) : Type 0 where
  pub tokens : List Token
  pub does : List Value → List Value
  pub found : Gives bytes rest at tokens
  pub moves : Moves front does tokens
  pub so : (vs : List Value) → Does vs (does vs)

-- one and then the other
abbrev pub Then : (List Value → List Value → Type 0) → (List Value → List Value → Type 0) → List Value → List Value → Type 0
Then R S vs ws = (us : List Value) × R vs us × S us ws

pub after_part : {f g : List Symbol} {R S : List Value → List Value → Type 0} (a b rest : List ℕ) (at : ℕ) → Part f R a (b ++ rest) at → Part g S b rest (at + length a) → Part (f ++ g) (Then R S) (a ++ b) rest at
after_part {f} {g} {R} {S} a b rest at x y = record {
  tokens = x.tokens ++ y.tokens;
  does = λ vs. y.does (x.does vs);
  found = both_give a b rest at x.tokens y.tokens x.found y.found;
  moves = λ values symbols state ps calm go.
      subst (λ s. Kept values s state (map map_piece (x.tokens ++ y.tokens) ++ ps)) (sym (append_assoc f g symbols))
      (joined x.tokens y.tokens ps
      (x.moves values (g ++ symbols) state (map map_piece y.tokens ++ ps) calm (λ mid calm_mid e.
      y.moves values symbols mid ps calm_mid (λ after calm_after e_after. go after calm_after (e_after ∙ ap y.does e)))));
  so = λ vs. (x.does vs, x.so vs, y.so (x.does vs));
}

-- a text that is written otherwise
pub part_as : {f : List Symbol} {R : List Value → List Value → Type 0} (a b rest : List ℕ) (at : ℕ) → a ≡ b → Part f R b rest at → Part f R a rest at
part_as {f} {R} a b rest at e x = subst (λ t. Part f R t rest at) (sym e) x

pub part_does : {f : List Symbol} {R S : List Value → List Value → Type 0} {bytes rest : List ℕ} {at : ℕ} → Part f R bytes rest at → ((vs ws : List Value) → R vs ws → S vs ws) → Part f S bytes rest at
part_does x h = record { tokens = x.tokens; does = x.does; found = x.found; moves = x.moves; so = λ vs. h vs (x.does vs) (x.so vs) }

pub part_of : {f : List Symbol} {R : List Value → List Value → Type 0} {bytes rest : List ℕ} {at : ℕ} (r : Rule) → Part f R bytes rest at → Among f (choices r) → Part (Expand r ∷ []) R bytes rest at
part_of r x among = record {
  tokens = x.tokens;
  does = x.does;
  found = x.found;
  moves = λ values symbols state ps calm go. expands among (x.moves values symbols state ps calm go);
  so = x.so;
}

none_closed : (d n : ℕ) → d ≡ 0 → d - n ≡ 0
none_closed d n e = omega (arith, e)

fewer : (b : Bool) (n : ℕ) → n ≤ 1000 → cond b 0 n ≤ 1000
fewer true n h = omega arith
fewer false n h = h

after_action : (a : Action) (state : State) → Calm state → Calm (effect a state)
after_action a state calm = record { shallow = none_closed state.depth (closes a) calm.shallow; few = fewer (is_outer a) state.operators calm.few }

-- a part that an action follows
pub acted : {f : List Symbol} {R : List Value → List Value → Type 0} {bytes rest : List ℕ} {at : ℕ} (a : Action) → Part f R bytes rest at
    → Part (f ++ Act a ∷ []) (Then R (λ vs ws. ws ≡ value_effect a vs)) bytes rest at
acted {f} {R} {bytes} {rest} {at} a x = record {
  tokens = x.tokens;
  does = λ vs. value_effect a (x.does vs);
  found = x.found;
  moves = λ values symbols state ps calm go.
      subst (λ s. Kept values s state (map map_piece x.tokens ++ ps)) (sym (append_assoc f (Act a ∷ []) symbols))
      (x.moves values (Act a ∷ symbols) state ps calm (λ after calm_after e. acts (go _ (after_action a after calm_after) (ap (value_effect a) e))));
  so = λ vs. (x.does vs, x.so vs, refl);
}

-- an action before a part
pub first_acted : {f : List Symbol} {R : List Value → List Value → Type 0} {bytes rest : List ℕ} {at : ℕ} (a : Action) → Part f R bytes rest at
    → Part (Act a ∷ f) (Then (λ vs ws. ws ≡ value_effect a vs) R) bytes rest at
first_acted a x = record {
  tokens = x.tokens;
  does = λ vs. x.does (value_effect a vs);
  found = x.found;
  moves = λ values symbols state ps calm go. acts (x.moves values symbols _ ps (after_action a state calm) go);
  so = λ vs. (value_effect a vs, refl, x.so (value_effect a vs));
}

-- an action alone, and no text
nothing : (rest : List ℕ) (at : ℕ) → Gives [] rest at []
nothing rest at = ap (λ n. before (scanned [] None) (text_from n 0 rest)) (let e : at ≡ at + 0 = omega arith in e)

pub no_text : {rest : List ℕ} {at : ℕ} (a : Action) → Part (Act a ∷ []) (λ vs ws. ws ≡ value_effect a vs) [] rest at
no_text {rest} {at} a = record {
  tokens = [];
  does = value_effect a;
  found = nothing rest at;
  moves = λ values symbols state ps calm go. acts (go _ (after_action a state calm) refl);
  so = λ vs. refl;
}

-- no text at all
pub nothing_taken : {rest : List ℕ} {at : ℕ} → Part [] (λ vs ws. ws ≡ vs) [] rest at
nothing_taken {rest} {at} = record {
  tokens = [];
  does = λ vs. vs;
  found = nothing rest at;
  moves = λ values symbols state ps calm go. go state calm refl;
  so = λ vs. refl;
}

newline_gives : (rest : List ℕ) (at : ℕ) → Gives (10 ∷ []) rest at []
newline_gives rest at = piece_gives 10 [] rest at front.Blank [] refl refl refl

-- Tokens that are taken.

abbrev pub Stays : List Value → List Value → Type 0
Stays vs ws = ws ≡ vs

abbrev pub PushesWord : List ℕ → List Value → List Value → Type 0
PushesWord word vs ws = (at : ℕ) × (len : ℕ) × (ws ≡ value.Word (token_at (token.Word word) at len) ∷ vs)

abbrev pub PushesExpr : Reads → LExpr → List Value → List Value → Type 0
PushesExpr r x vs ws = (v : Operand) × (numbered r v.expr.kind ≡ Some x) × (ws ≡ value.Operand v ∷ vs)

-- how a token is taken in a calm state
calm_kept : (k : Kind) (p : Piece) (mark : Mark) (state : State) → p.kind ≡ k → (k ≡ kind.LeftOut → ⊥) → depth_limit k ≡ 100 → counts mark ≡ false → Calm state → IsKept mark p state
calm_kept k p mark state is named limit none calm = record {
  named = λ f. named (sym is ∙ f);
  shallow = subst (λ x. state.depth ≤ depth_limit x) (sym is) (subst (λ x. state.depth ≤ x) (sym limit) (omega (arith, calm.shallow)));
  few = subst (λ b. state.operators + cond b 1 0 ≤ 1000) (sym none) (omega (arith, calm.few));
}

calm_after : (p : Piece) (mark : Mark) (state : State) → opens mark ≡ false → counts mark ≡ false → Calm state → Calm (with_token mark p.value state)
calm_after p mark state shut none calm = record {
  shallow = subst (λ b. state.depth + cond b 1 0 ≡ 0) (sym shut) (omega (arith, calm.shallow));
  few = subst (λ b. state.operators + cond b 1 0 ≤ 1000) (sym none) (omega (arith, calm.few));
}

pub skipped_token : (k : Kind) (t : Token) → (map_piece t).kind ≡ k → (k ≡ kind.LeftOut → ⊥) → depth_limit k ≡ 100 → Moves (Take k Skip ∷ []) (λ vs. vs) (t ∷ [])
skipped_token k t is named limit values symbols state ps calm go =
    takes is (calm_kept k (map_piece t) Skip state is named limit refl calm) (go _ (calm_after (map_piece t) Skip state refl refl calm) refl)

pub kept_token : (k : Kind) (t : Token) → (map_piece t).kind ≡ k → (k ≡ kind.LeftOut → ⊥) → depth_limit k ≡ 100 → Moves (Take k Keep ∷ []) (λ vs. value.Word t ∷ vs) (t ∷ [])
kept_token k t is named limit values symbols state ps calm go =
    takes is (calm_kept k (map_piece t) Keep state is named limit refl calm) (go _ (calm_after (map_piece t) Keep state refl refl calm) refl)

-- A sign between two spaces.
pub spaced_arrow : (rest : List ℕ) (at : ℕ) → Part (Take kind.Arrow Skip ∷ []) Stays (codes " -> ") rest at
unfolding signs
spaced_arrow rest at = record {
  tokens = token_at (token.Punct 33) (at + 1) 2 ∷ [];
  does = λ vs. vs;
  found = both_give (32 ∷ []) (45 ∷ 62 ∷ 32 ∷ []) rest at [] (token_at (token.Punct 33) (at + 1) 2 ∷ []) (blank_gives (45 ∷ 62 ∷ 32 ∷ rest) at)
      (both_give (45 ∷ 62 ∷ []) (32 ∷ []) rest (at + 1) (token_at (token.Punct 33) (at + 1) 2 ∷ []) [] (arrow (32 ∷ rest) (at + 1)) (blank_gives rest (at + 1 + 2)));
  moves = skipped_token kind.Arrow (token_at (token.Punct 33) (at + 1) 2) refl (λ f. cc) refl;
  so = λ vs. refl;
}

pub spaced_equal : (rest : List ℕ) (at : ℕ) → Part (Take kind.Equal Skip ∷ []) Stays (codes " = ") rest at
unfolding signs
spaced_equal rest at = record {
  tokens = token_at (token.Punct 20) (at + 1) 1 ∷ [];
  does = λ vs. vs;
  found = both_give (32 ∷ []) (61 ∷ 32 ∷ []) rest at [] (token_at (token.Punct 20) (at + 1) 1 ∷ []) (blank_gives (61 ∷ 32 ∷ rest) at)
      (both_give (61 ∷ []) (32 ∷ []) rest (at + 1) (token_at (token.Punct 20) (at + 1) 1 ∷ []) [] (token_gives 61 [] (32 ∷ rest) (at + 1) (token.Punct 20) refl) (blank_gives rest (at + 1 + 1)));
  moves = skipped_token kind.Equal (token_at (token.Punct 20) (at + 1) 1) refl (λ f. cc) refl;
  so = λ vs. refl;
}

pub spaced_plus : (rest : List ℕ) (at : ℕ) → Part (Take kind.Plus Skip ∷ []) Stays (codes " + ") rest at
unfolding signs
spaced_plus rest at = record {
  tokens = token_at (token.Punct 0) (at + 1) 1 ∷ [];
  does = λ vs. vs;
  found = both_give (32 ∷ []) (43 ∷ 32 ∷ []) rest at [] (token_at (token.Punct 0) (at + 1) 1 ∷ []) (blank_gives (43 ∷ 32 ∷ rest) at)
      (both_give (43 ∷ []) (32 ∷ []) rest (at + 1) (token_at (token.Punct 0) (at + 1) 1 ∷ []) [] (token_gives 43 [] (32 ∷ rest) (at + 1) (token.Punct 0) refl) (blank_gives rest (at + 1 + 1)));
  moves = skipped_token kind.Plus (token_at (token.Punct 0) (at + 1) 1) refl (λ f. cc) refl;
  so = λ vs. refl;
}

pub a_blank : (rest : List ℕ) (at : ℕ) → Part [] Stays (32 ∷ []) rest at
a_blank rest at = record {
  tokens = [];
  does = λ vs. vs;
  found = blank_gives rest at;
  moves = λ values symbols state ps calm go. go state calm refl;
  so = λ vs. refl;
}

pub a_dot : (rest : List ℕ) (at : ℕ) → Part (Take kind.Dot Skip ∷ []) Stays (46 ∷ []) rest at
unfolding signs
a_dot rest at = record {
  tokens = token_at (token.Punct 42) at 1 ∷ [];
  does = λ vs. vs;
  found = dot rest at;
  moves = skipped_token kind.Dot (token_at (token.Punct 42) at 1) refl (λ f. cc) refl;
  so = λ vs. refl;
}

-- A semicolon and a blank behind it.
pub spaced_semicolon : (rest : List ℕ) (at : ℕ) → Part (Take kind.Semicolon Skip ∷ []) Stays (codes "; ") rest at
unfolding signs
spaced_semicolon rest at = record {
  tokens = token_at (token.Punct 41) at 1 ∷ [];
  does = λ vs. vs;
  found = both_give (59 ∷ []) (32 ∷ []) rest at (token_at (token.Punct 41) at 1 ∷ []) [] (semicolon (32 ∷ rest) at) (blank_gives rest (at + 1));
  moves = skipped_token kind.Semicolon (token_at (token.Punct 41) at 1) refl (λ f. cc) refl;
  so = λ vs. refl;
}

pub semicolon_line : (rest : List ℕ) (at : ℕ) → Part (Take kind.Semicolon Skip ∷ []) Stays (59 ∷ 10 ∷ []) rest at
unfolding signs
semicolon_line rest at = record {
  tokens = token_at (token.Punct 41) at 1 ∷ [];
  does = λ vs. vs;
  found = both_give (59 ∷ []) (10 ∷ []) rest at (token_at (token.Punct 41) at 1 ∷ []) [] (semicolon (10 ∷ rest) at) (newline_gives rest (at + 1));
  moves = skipped_token kind.Semicolon (token_at (token.Punct 41) at 1) refl (λ f. cc) refl;
  so = λ vs. refl;
}

-- Braces round what fills slots.
pub left_brace : (rest : List ℕ) (at : ℕ) → Part (Take kind.LeftBrace Skip ∷ []) Stays (codes " { ") rest at
unfolding signs
left_brace rest at = record {
  tokens = token_at (token.Punct 38) (at + 1) 1 ∷ [];
  does = λ vs. vs;
  found = both_give (32 ∷ []) (123 ∷ 32 ∷ []) rest at [] (token_at (token.Punct 38) (at + 1) 1 ∷ []) (blank_gives (123 ∷ 32 ∷ rest) at)
      (both_give (123 ∷ []) (32 ∷ []) rest (at + 1) (token_at (token.Punct 38) (at + 1) 1 ∷ []) [] (token_gives 123 [] (32 ∷ rest) (at + 1) (token.Punct 38) refl) (blank_gives rest (at + 1 + 1)));
  moves = skipped_token kind.LeftBrace (token_at (token.Punct 38) (at + 1) 1) refl (λ f. cc) refl;
  so = λ vs. refl;
}

pub right_brace : (rest : List ℕ) (at : ℕ) → Part (Take kind.RightBrace Skip ∷ []) Stays (codes "}") rest at
unfolding signs
right_brace rest at = record {
  tokens = token_at (token.Punct 39) at 1 ∷ [];
  does = λ vs. vs;
  found = token_gives 125 [] rest at (token.Punct 39) refl;
  moves = skipped_token kind.RightBrace (token_at (token.Punct 39) at 1) refl (λ f. cc) refl;
  so = λ vs. refl;
}

-- A word that the grammar asks for, and a space behind it.
pub keyword : (k : Kind) (b : ℕ) (bytes rest : List ℕ) (at : ℕ) → IsWord b bytes → map_word_kind (b ∷ bytes) ≡ k → (k ≡ kind.LeftOut → ⊥) → depth_limit k ≡ 100
    → Part (Take k Keep ∷ []) (PushesWord (b ∷ bytes)) ((b ∷ bytes) ++ 32 ∷ []) rest at
keyword k b bytes rest at is means named limit =
    let t = token_at (token.Word (b ∷ bytes)) at (suc (length bytes)) in
    record {
      tokens = t ∷ [];
      does = λ vs. value.Word t ∷ vs;
      found = both_give (b ∷ bytes) (32 ∷ []) rest at (t ∷ []) [] (word_gives b bytes (32 ∷ rest) at is refl) (blank_gives rest (at + suc (length bytes)));
      moves = kept_token k t means named limit;
      so = λ vs. (at, suc (length bytes), refl);
    }

pub bare_word : (k : Kind) (b : ℕ) (bytes rest : List ℕ) (at : ℕ) → IsWord b bytes → map_word_kind (b ∷ bytes) ≡ k → (k ≡ kind.LeftOut → ⊥) → depth_limit k ≡ 100 → Stops rest
    → Part (Take k Skip ∷ []) Stays (b ∷ bytes) rest at
bare_word k b bytes rest at is means named limit stops =
    let t = token_at (token.Word (b ∷ bytes)) at (suc (length bytes)) in
    record {
      tokens = t ∷ [];
      does = λ vs. vs;
      found = word_gives b bytes rest at is stops;
      moves = skipped_token k t means named limit;
      so = λ vs. refl;
    }

-- A name.
pub a_name : (b : ℕ) (bytes rest : List ℕ) (at : ℕ) → IsName b bytes → Stops rest → Part (Expand rule.AnyName ∷ []) (PushesWord (b ∷ bytes)) (b ∷ bytes) rest at
a_name b bytes rest at is stops =
    let t = token_at (token.Word (b ∷ bytes)) at (suc (length bytes)) in
    record {
      tokens = t ∷ [];
      does = λ vs. value.Word t ∷ vs;
      found = word_gives b bytes rest at is.word stops;
      moves = λ values symbols state ps calm go.
          any_name (map_word_kind (b ∷ bytes)) t values symbols state ps refl is.any (omega (arith, calm.shallow), omega (arith, calm.few))
          (go _ (calm_after (map_piece t) Keep state refl refl calm) refl);
      so = λ vs. (at, suc (length bytes), refl);
    }

-- A name that isn't the word `none`.
new_name : (k : Kind) (t : Token) → (map_piece t).kind ≡ k → is_any_name k ≡ true → (k ≡ kind.NoneWord → ⊥) → Moves (Expand rule.NewName ∷ []) (λ vs. value.Word t ∷ vs) (t ∷ [])
new_name kind.Name t is h n values symbols state ps calm go = expands first (kept_token kind.Name t is (λ f. cc) refl values symbols state ps calm go)
new_name kind.FunctionWord t is h n values symbols state ps calm go = expands (later first) (kept_token kind.FunctionWord t is (λ f. cc) refl values symbols state ps calm go)
new_name kind.GlobalWord t is h n values symbols state ps calm go = expands (later (later first)) (kept_token kind.GlobalWord t is (λ f. cc) refl values symbols state ps calm go)
new_name kind.MutexWord t is h n values symbols state ps calm go = expands (later (later (later first))) (kept_token kind.MutexWord t is (λ f. cc) refl values symbols state ps calm go)
new_name kind.FieldWord t is h n values symbols state ps calm go = expands (later (later (later (later first)))) (kept_token kind.FieldWord t is (λ f. cc) refl values symbols state ps calm go)
new_name kind.InitWord t is h n values symbols state ps calm go = expands (later (later (later (later (later first))))) (kept_token kind.InitWord t is (λ f. cc) refl values symbols state ps calm go)
new_name kind.PointWord t is h n values symbols state ps calm go = expands (later (later (later (later (later (later first)))))) (kept_token kind.PointWord t is (λ f. cc) refl values symbols state ps calm go)
new_name kind.CheckWord t is h n values symbols state ps calm go = expands (later (later (later (later (later (later (later first))))))) (kept_token kind.CheckWord t is (λ f. cc) refl values symbols state ps calm go)
new_name kind.EntryWord t is h n values symbols state ps calm go = expands (later (later (later (later (later (later (later (later first)))))))) (kept_token kind.EntryWord t is (λ f. cc) refl values symbols state ps calm go)
new_name kind.LoopWord t is h n values symbols state ps calm go = expands (later (later (later (later (later (later (later (later (later first))))))))) (kept_token kind.LoopWord t is (λ f. cc) refl values symbols state ps calm go)
new_name kind.CallWord t is h n values symbols state ps calm go = expands (later (later (later (later (later (later (later (later (later (later first)))))))))) (kept_token kind.CallWord t is (λ f. cc) refl values symbols state ps calm go)
new_name kind.BlockWord t is h n values symbols state ps calm go = expands (later (later (later (later (later (later (later (later (later (later (later first))))))))))) (kept_token kind.BlockWord t is (λ f. cc) refl values symbols state ps calm go)
new_name kind.NoneWord t is h n values symbols state ps calm go = absurd (n refl)
new_name k t is h n values symbols state ps calm go = cc

pub a_new_name : (b : ℕ) (bytes rest : List ℕ) (at : ℕ) → IsName b bytes → (map_word_kind (b ∷ bytes) ≡ kind.NoneWord → ⊥) → Stops rest
    → Part (Expand rule.NewName ∷ []) (PushesWord (b ∷ bytes)) (b ∷ bytes) rest at
a_new_name b bytes rest at is n stops =
    let t = token_at (token.Word (b ∷ bytes)) at (suc (length bytes)) in
    record {
      tokens = t ∷ [];
      does = λ vs. value.Word t ∷ vs;
      found = word_gives b bytes rest at is.word stops;
      moves = new_name (map_word_kind (b ∷ bytes)) t refl is.any n;
      so = λ vs. (at, suc (length bytes), refl);
    }

-- A number.
pub a_number : (n : ℕ) (rest : List ℕ) (at : ℕ) → n ≤ 2147483647 → Stops rest
    → Part (Take kind.Number Keep ∷ []) (λ vs ws. (a : ℕ) × (len : ℕ) × (ws ≡ value.Word (token_at (token.Number (pos n)) a len) ∷ vs)) (decimal n) rest at
a_number n rest at le stops =
    let t = token_at (token.Number (pos n)) at (length (decimal n)) in
    record {
      tokens = t ∷ [];
      does = λ vs. value.Word t ∷ vs;
      found = number_gives n rest at le stops;
      moves = kept_token kind.Number t refl (λ f. cc) refl;
      so = λ vs. (at, length (decimal n), refl);
    }

-- A whole expression.
pub an_expr : (r : Reads) (x : LExpr) (n : ℕ) (rest : List ℕ) (at : ℕ) → Fit r 0 100 x n → n ≤ 1000 → Stops rest
    → Part (Act action.Outer ∷ Expand rule.MapExpr ∷ []) (PushesExpr r x) (shown r x) rest at
an_expr r x n rest at fit few stops =
    let y = (scans fit).gives rest at stops in
    let z = read y.printed in
    let plain_text : operand_text r 0 x ≡ shown r x = unbracketed 0 (strength x) (shown r x) (omega arith) in
    record {
      tokens = y.tokens;
      does = λ vs. value.Operand z.tree ∷ vs;
      found = subst (λ t. Gives t rest at y.tokens) plain_text y.found;
      moves = λ values symbols state ps calm go.
          acts (z.builds values symbols _ ps (omega (arith, calm.shallow)) (omega (arith, few)) (λ after like.
          close 0 values symbols after ps (omega arith)
          (go after (record { shallow = omega (arith, like.depth, calm.shallow); few = omega (arith, like.operators, few) }) like.values)));
      so = λ vs. (z.tree, z.numbers, refl);
    }

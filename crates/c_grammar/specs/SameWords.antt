-- The words of the grammar are those of the tokens.
use Rattle.std.specs.Prelude.{◌≡◌, ℕ, List, true, ◌↔◌}
use Rattle.c_tokens.specs.Word.{is_name, is_left_out}
use Rattle.c_grammar.specs.declared.kind.Kind.TheVariants as kind
use Rattle.c_grammar.specs.Tokens.{word_kind}

-- A word may be a name exactly where it is one to the grammar, and it is left out exactly where it is to the grammar.
pub record SameWords : Type 0 where
  pub names : (word : List ℕ) → (is_name word ≡ true) ↔ (word_kind word ≡ kind.Name)
  pub left_out : (word : List ℕ) → (is_left_out word ≡ true) ↔ (word_kind word ≡ kind.LeftOut)

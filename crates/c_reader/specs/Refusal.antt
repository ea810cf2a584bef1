-- What a refusal says.
use Rattle.std.specs.Prelude.{ℕ, List}
use Rattle.c_tree.specs.declared.token.Token.{Token}
use Rattle.c_tokens.specs.declared.lexeme.Scan.{Scan}
use Rattle.c_tokens.specs.declared.refused.ReadRefused.{ReadRefused}
use Rattle.c_tokens.specs.declared.refused.ReadRefused.TheVariants as refused
use Rattle.c_grammar.specs.Source.{IsFaultIn, IsFirstFault}
use Rattle.c_grammar.specs.Front.{IsFaultAt}

-- It names the first fault; want of memory may come at any time.
abbrev pub IsRefusalIn : Scan → ℕ → ReadRefused → Type 0
IsRefusalIn scan len (refused.At at c) = IsFaultIn scan len at c
IsRefusalIn scan len (refused.Memory e) = Unit {0}

-- a refusal of a source names its first fault, or memory was wanted
abbrev pub IsRefusal : List ℕ → ReadRefused → Type 0
IsRefusal bytes (refused.At at c) = IsFirstFault bytes at c
IsRefusal bytes (refused.Memory e) = Unit {0}

-- a refusal of tokens from an offset on names their first fault, or memory was wanted
abbrev pub IsRefusalAt : List Token → ℕ → ReadRefused → Type 0
IsRefusalAt ts from (refused.At at c) = IsFaultAt ts from at c
IsRefusalAt ts from (refused.Memory e) = Unit {0}

-- The tokens of a text, or its first fault.
use Rattle.std.specs.Prelude.{◌≡◌, ℕ, zero, suc, ◌+◌, ◌-◌, List, [], ◌∷◌, ◌++◌, Result, Ok, Err}
use Rattle.c_tree.specs.declared.cause.ReadCause.{ReadCause}
use Rattle.c_tree.specs.declared.program.At.{At}
use Rattle.c_tree.specs.declared.token.Token.{Token}
use Rattle.c_tokens.specs.declared.front.Front.{Front}
use Rattle.c_tokens.specs.declared.front.Front.TheVariants as front
use Rattle.c_tokens.specs.declared.refused.ReadRefused.{ReadRefused}
use Rattle.c_tokens.specs.declared.refused.ReadRefused.TheVariants as refused
use Rattle.c_tokens.specs.Front.{size_of, front_of}

-- tokens, or a fault at its offset
abbrev pub Reading : Type 0
Reading = Result (List Token) (At ReadCause)

-- what stands at an offset adds a token, nothing or a fault
abbrev pub added : ℕ → Front → Reading
added at (front.Token kind n) = Ok (record { kind = kind; at = at; len = n } ∷ [])
added at (front.Fault why) = Err (record { at = at; it = why })
added at _ = Ok []

-- tokens before others, where the first fault comes first
abbrev pub before : Reading → Reading → Reading
before (Err fault) more = Err fault
before (Ok ts) (Err fault) = Err fault
before (Ok ts) (Ok more) = Ok (ts ++ more)

-- the tokens from an offset on, where the first `within` bytes belong to what began before
unfoldable pub tokens_from : ℕ → ℕ → List ℕ → Reading
tokens_from at within [] = Ok []
tokens_from at (suc within) (b ∷ rest) = tokens_from (at + 1) within rest
tokens_from at zero (b ∷ rest) = let f = front_of (b ∷ rest) in before (added at f) (tokens_from (at + 1) (size_of f - 1) rest)

-- the tokens of a text, or its first fault
abbrev pub tokens_of : List ℕ → Reading
tokens_of bytes = tokens_from 0 0 bytes

-- a refusal tells the first fault, unless memory ran out
abbrev pub Tells : ReadRefused → Reading → Type 0
Tells (refused.At at why) reading = reading ≡ Err (record { at = at; it = why })
Tells (refused.Memory e) reading = Unit {0}

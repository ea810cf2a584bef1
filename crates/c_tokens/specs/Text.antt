-- The tokens of a text before its first fault, and that fault.
use Rattle.std.specs.Prelude.{ℕ, zero, suc, ◌+◌, ◌-◌, List, [], ◌∷◌, ◌++◌, Option, Some, None}
use Rattle.c_tree.specs.declared.cause.ReadCause.{ReadCause}
use Rattle.c_tree.specs.declared.program.At.{At}
use Rattle.c_tree.specs.declared.token.Token.{Token}
use Rattle.c_tokens.specs.declared.front.Front.{Front}
use Rattle.c_tokens.specs.declared.front.Front.TheVariants as front
use Rattle.c_tokens.specs.declared.text_scan.TextScan.{TextScan}
use Rattle.c_tokens.specs.Front.{size_of, front_of}

-- tokens, and the fault behind them
abbrev pub scanned : List Token → Option (At ReadCause) → TextScan
scanned tokens fault = record { tokens = tokens; fault = fault }

-- what stands at an offset adds a token, nothing or a fault
abbrev pub added : ℕ → Front → TextScan
added at (front.Token kind n) = scanned (record { kind = kind; at = at; len = n } ∷ []) None
added at (front.Fault why) = scanned [] (Some (record { at = at; it = why }))
added at _ = scanned [] None

-- tokens before others; nothing follows a fault
abbrev pub followed : List Token → Option (At ReadCause) → TextScan → TextScan
followed tokens None more = scanned (tokens ++ more.tokens) more.fault
followed tokens (Some why) more = scanned tokens (Some why)

-- what comes first, and then the rest
abbrev pub before : TextScan → TextScan → TextScan
before a more = followed a.tokens a.fault more

-- the tokens from an offset on, where the first `within` bytes belong to what began before
unfoldable pub text_from : ℕ → ℕ → List ℕ → TextScan
text_from at within [] = scanned [] None
text_from at (suc within) (b ∷ rest) = text_from (at + 1) within rest
text_from at zero (b ∷ rest) = let f = front_of (b ∷ rest) in before (added at f) (text_from (at + 1) (size_of f - 1) rest)

-- the tokens of a text before its first fault, and that fault
abbrev pub text_of : List ℕ → TextScan
text_of bytes = text_from 0 0 bytes

-- What a text reads as, piece by piece: what stands at the front comes first, then what follows it, up to the first fault.
use Rattle.std.specs.Prelude.{◌≡◌, ℕ, ◌+◌, ◌<◌, List, [], length, drop, Ok, Err}
use Rattle.c_tree.specs.declared.cause.ReadCause.{ReadCause}
use Rattle.c_tree.specs.declared.program.At.{At}
use Rattle.c_tree.specs.declared.token.Token.{Token}
use Rattle.c_tokens.specs.Front.{size_of, front_of}
use Rattle.c_tokens.specs.Tokens.{Reading, added, before, tokens_of}

-- the bytes from an offset on read as these tokens or as this fault
pub data Reads : ℕ → List ℕ → Reading → Type 0 where
  end : (at : ℕ) (bytes : List ℕ) (r : Reading) → bytes ≡ [] → r ≡ Ok [] → Reads at bytes r
  goes_on : (at : ℕ) (bytes : List ℕ) (r more : Reading) (ts : List Token) → 0 < length bytes → added at (front_of bytes) ≡ Ok ts
      → Reads (at + size_of (front_of bytes)) (drop (size_of (front_of bytes)) bytes) more → r ≡ before (Ok ts) more → Reads at bytes r
  stops : (at : ℕ) (bytes : List ℕ) (r : Reading) (why : At ReadCause) → 0 < length bytes → added at (front_of bytes) ≡ Err why → r ≡ Err why → Reads at bytes r

-- each text reads as exactly one list of tokens or exactly one first fault
abbrev pub OneReading : Type 0
OneReading = (bytes : List ℕ) → Reads 0 bytes (tokens_of bytes) × ((r : Reading) → Reads 0 bytes r → r ≡ tokens_of bytes)

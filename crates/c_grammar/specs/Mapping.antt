-- What the text of a mapping is: a mapping, or its first fault.
use Rattle.std.specs.Prelude.{◌≡◌, ℕ, List, [], ◌∷◌, length, map, Some, None, slice_get}
use Rattle.c_tree.specs.declared.cause.ReadCause.{ReadCause}
use Rattle.c_tree.specs.declared.cause.ReadCause.TheVariants as cause
use Rattle.c_tree.specs.declared.mapping.Mapping.{Mapping}
use Rattle.c_tree.specs.declared.token.Token.{Token}
use Rattle.c_tokens.specs.declared.text_scan.TextScan.{TextScan}
use Rattle.c_tokens.specs.Text.{text_of}
use Rattle.c_grammar.specs.declared.symbol.Symbol.{Symbol}
use Rattle.c_grammar.specs.declared.value.Value.TheVariants as value
use Rattle.c_grammar.specs.Pieces.{Piece, map_piece}
use Rattle.c_grammar.specs.Rules.{map_start, first_map_start}
use Rattle.c_grammar.specs.Reading.{IsLive, AreSound, IsFirst, IsCutShort, IsReading}

-- what the grammar sees of a mapping
abbrev pub map_pieces : TextScan → List Piece
map_pieces scan = map map_piece scan.tokens

-- What follows is said of the symbols that a mapping begins with: those of the mappings, or those of the first format's.

-- What is scanned is the one text that is this mapping.
pub record IsMappingIn (begin : List Symbol) (scan : TextScan) (mapping : Mapping) : Type 0 where
  pub clean : scan.fault ≡ None
  pub reading : IsReading begin (map_pieces scan) (value.Mapping mapping ∷ [])

-- The first fault of what is scanned of so many bytes has this offset and this cause. It stands at a token; or it is the
-- scan's, and none of the tokens before it is a fault; or it stands at the end of the text.
pub data IsMapFaultIn (begin : List Symbol) (scan : TextScan) (len at : ℕ) (c : ReadCause) : Type 0 where
  at_token : (i : ℕ) (t : Token) → slice_get scan.tokens i ≡ Some t → at ≡ t.at → IsFirst begin (map_pieces scan) i c → IsMapFaultIn begin scan len at c
  at_scan : scan.fault ≡ Some (record { at = at; it = c }) → IsLive begin (map_pieces scan) → AreSound begin (map_pieces scan) (length (map_pieces scan)) → IsMapFaultIn begin scan len at c
  at_end : scan.fault ≡ None → at ≡ len → c ≡ cause.Unexpected → IsCutShort begin (map_pieces scan) → IsMapFaultIn begin scan len at c

-- The bytes are the one text that is this mapping. It has no directives.
abbrev pub IsMappingOf : List ℕ → Mapping → Type 0
IsMappingOf bytes mapping = IsMappingIn map_start (text_of bytes) mapping

-- The first fault of the text has this offset and this cause.
abbrev pub IsMapFault : List ℕ → ℕ → ReadCause → Type 0
IsMapFault bytes at c = IsMapFaultIn map_start (text_of bytes) (length bytes) at c

-- The same of the first format, where a point has one part.
abbrev pub IsFirstMappingOf : List ℕ → Mapping → Type 0
IsFirstMappingOf bytes mapping = IsMappingIn first_map_start (text_of bytes) mapping

abbrev pub IsFirstMapFault : List ℕ → ℕ → ReadCause → Type 0
IsFirstMapFault bytes at c = IsMapFaultIn first_map_start (text_of bytes) (length bytes) at c

-- The text has at most one answer: one mapping, or one first fault.
pub record OneMapAnswer (begin : List Symbol) : Type 0 where
  pub one_mapping : (bytes : List ℕ) (m n : Mapping) → IsMappingIn begin (text_of bytes) m → IsMappingIn begin (text_of bytes) n → m ≡ n
  pub one_fault : (bytes : List ℕ) (a b : ℕ) (c d : ReadCause)
      → IsMapFaultIn begin (text_of bytes) (length bytes) a c → IsMapFaultIn begin (text_of bytes) (length bytes) b d → (a ≡ b) × (c ≡ d)
  pub never_both : (bytes : List ℕ) (a : ℕ) (m : Mapping) (c : ReadCause)
      → IsMappingIn begin (text_of bytes) m → IsMapFaultIn begin (text_of bytes) (length bytes) a c → ⊥

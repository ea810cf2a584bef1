-- What the definitions say of every text of a mapping.
use Rattle.std.specs.Prelude.{ℕ, List, length, ◌⊎◌}
use Rattle.c_tree.specs.declared.cause.ReadCause.{ReadCause}
use Rattle.c_tree.specs.declared.mapping.Mapping.{Mapping}
use Rattle.c_tokens.specs.Text.{text_of}
use Rattle.c_grammar.specs.declared.symbol.Symbol.{Symbol}
use Rattle.c_grammar.specs.Mapping.{IsMappingIn, IsMapFaultIn}

-- It is a mapping that begins so or has a first fault.
abbrev pub IsAnswered : List Symbol → List ℕ → Type 0
IsAnswered begin bytes =
    ((mapping : Mapping) × IsMappingIn begin (text_of bytes) mapping) ⊎ ((at : ℕ) × (c : ReadCause) × IsMapFaultIn begin (text_of bytes) (length bytes) at c)

-- Each text is answered.
abbrev pub EachIsAnswered : List Symbol → Type 0
EachIsAnswered begin = (bytes : List ℕ) → IsAnswered begin bytes

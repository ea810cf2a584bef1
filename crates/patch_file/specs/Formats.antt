-- What the formats of a patch's file say of mappings and patches.
use Rattle.std.specs.Prelude.{◌≡◌, ℕ, ⊤, List, length, All}
use Rattle.c_tokens.specs.Text.{text_of}
use Rattle.c_grammar.specs.declared.symbol.Symbol.{Symbol}
use Rattle.c_grammar.specs.Mapping.{IsMappingIn, IsMapFaultIn}
use Rattle.c_grammar.specs.Rules.{first_map_start, map_start}
use Rattle.c_tree.specs.declared.cause.ReadCause.{ReadCause}
use Rattle.c_tree.specs.declared.mapping.LEntry.{LEntry}
use Rattle.c_tree.specs.declared.mapping.LEntry.TheVariants as n
use Rattle.c_tree.specs.declared.mapping.Mapping.{Mapping}
use Rattle.c_tree.specs.declared.mapping.Patch.{Patch}
use Rattle.patch_form.specs.declared.format.Format.{Format}
use Rattle.patch_form.specs.declared.format.Format.TheVariants.{One, Two}

-- what a mapping in a format begins with
abbrev pub start_of : Format → List Symbol
start_of One = first_map_start
start_of Two = map_start

-- The bytes are the one text in this format that is this mapping.
abbrev pub IsMappingAs : Format → List ℕ → Mapping → Type 0
IsMappingAs f text m = IsMappingIn (start_of f) (text_of text) m

-- The first fault of the text, read in this format, has this offset and this cause.
abbrev pub IsMapFaultAs : Format → List ℕ → ℕ → ReadCause → Type 0
IsMapFaultAs f text at c = IsMapFaultIn (start_of f) (text_of text) (length text) at c

-- an entry that is a point has one part
abbrev pub HasOnePart : LEntry → Type 0
HasOnePart (n.Point f p parts) = length parts ≡ 1
HasOnePart _ = ⊤

-- A patch can be written in a format: in format 1 each of its points has one part.
abbrev pub CanBeIn : Format → Patch → Type 0
CanBeIn One p = All HasOnePart p.entries
CanBeIn Two p = ⊤

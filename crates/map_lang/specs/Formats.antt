-- The two formats of mappings: the first one has points of one part alone.
use Rattle.std.specs.Prelude.{◌≡◌, ◌⊎◌, ⊤, ℕ, List, length, All}
use Rattle.c_tree.specs.declared.mapping.Entry.{Entry}
use Rattle.c_tree.specs.declared.mapping.Entry.TheVariants as n
use Rattle.c_tree.specs.declared.mapping.Mapping.{Mapping}
use Rattle.c_grammar.specs.declared.symbol.Symbol.{Symbol}
use Rattle.c_grammar.specs.Rules.{map_start, first_map_start}
use Rattle.c_grammar.specs.Mapping.{IsMappingOf, IsFirstMappingOf}

-- the symbols that a mapping of one of the formats begins with
abbrev pub IsMapStart : List Symbol → Type 0
IsMapStart begin = (begin ≡ map_start) ⊎ (begin ≡ first_map_start)

-- an entry that is a point has one part
abbrev pub HasOnePart : Entry → Type 0
HasOnePart (n.Point f from parts) = length parts ≡ 1
HasOnePart _ = ⊤

-- each point of the mapping has one part
abbrev pub HasSingleParts : Mapping → Type 0
HasSingleParts m = All (λ x. HasOnePart x.it) m.entries

-- What the first format reads, the second reads as the same, and each point of it has one part.
abbrev pub FirstMappingsAreMappings : Type 0
FirstMappingsAreMappings = (text : List ℕ) (m : Mapping) → IsFirstMappingOf text m → IsMappingOf text m × HasSingleParts m

-- What the second format reads with one part in each point, the first reads as the same.
abbrev pub MappingsOfOnePartAreFirst : Type 0
MappingsOfOnePartAreFirst = (text : List ℕ) (m : Mapping) → IsMappingOf text m → HasSingleParts m → IsFirstMappingOf text m

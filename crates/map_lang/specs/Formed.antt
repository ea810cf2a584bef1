-- Each mapping that is read has its form.
use Rattle.std.specs.Prelude.{ℕ, List}
use Rattle.c_tree.specs.declared.mapping.Mapping.{Mapping}
use Rattle.c_tree.specs.MapForm.{HasMapForm}
use Rattle.c_grammar.specs.Mapping.{IsMappingOf, IsFirstMappingOf}

-- In the mapping that a text is, matches are of the four kinds, and a point has one to four parts and is no plain place.
abbrev pub EachMappingHasTheForm : Type 0
EachMappingHasTheForm = (text : List ℕ) (mapping : Mapping) → IsMappingOf text mapping → HasMapForm mapping

-- So has each mapping of the first format.
abbrev pub EachFirstMappingHasTheForm : Type 0
EachFirstMappingHasTheForm = (text : List ℕ) (mapping : Mapping) → IsFirstMappingOf text mapping → HasMapForm mapping

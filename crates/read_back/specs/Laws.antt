-- What holds of the canonical text of a patch's entries.
use Rattle.std.specs.Prelude.{◌≡◌, ℕ, List, map, Ok}
use Rattle.c_tree.specs.declared.lifted.Lifted.{Lifted}
use Rattle.c_tree.specs.declared.mapping.LEntry.{LEntry}
use Rattle.c_tree.specs.declared.mapping.Mapping.{Mapping}
use Rattle.c_tree.specs.Canonical.{canonical_entries, canonical_text}
use Rattle.c_grammar.specs.Mapping.{IsMappingOf}
use Rattle.c_reader.specs.Spelling.{CanBeSpelt}

-- Of a text that is a mapping, each of whose entries is sound between two programs whose names can be spelt: the canonical text
-- of the entries is a mapping, and its canonical entries are the same.
abbrev pub CanonicalTextReadsBack : Type 0
CanonicalTextReadsBack =
    (text : List ℕ) (p q : Lifted) (m : Mapping) (es : List LEntry) → CanBeSpelt p → CanBeSpelt q → IsMappingOf text m
    → canonical_entries p q (map (λ x. x.it) m.entries) ≡ Ok es
    → (n : Mapping) × IsMappingOf (canonical_text p q es) n × (canonical_entries p q (map (λ x. x.it) n.entries) ≡ Ok es)

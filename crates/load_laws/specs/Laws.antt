-- What holds of the texts that are made from a number.
use Rattle.std.specs.Prelude.{◌≡◌, ℕ, ◌≤◌, List, map, Ok}
use Rattle.c_tree.specs.declared.lifted.Lifted.{Lifted}
use Rattle.c_tree.specs.declared.mapping.LEntry.{LEntry}
use Rattle.c_tree.specs.declared.mapping.Mapping.{Mapping}
use Rattle.c_tree.specs.Canonical.{canonical_entries}
use Rattle.c_grammar.specs.Mapping.{IsMappingOf}
use Rattle.c_source.specs.Source.{IsAccepted}
use Rattle.load_texts.specs.Texts.{old_source, new_source, mapping}

-- Both sources are accepted, the mapping is read, and its entries are sound between their programs.
pub record IsAcceptedLoad (n : ℕ) : Type 0 where
  pub old : Lifted
  pub new : Lifted
  pub entries : Mapping
  pub lifted : List LEntry
  pub old_accepted : IsAccepted (old_source n) old
  pub new_accepted : IsAccepted (new_source n) new
  pub read : IsMappingOf (mapping n) entries
  pub sound : canonical_entries old new (map (λ x. x.it) entries.entries) ≡ Ok lifted

-- The three texts of each number from 1 to 1000 are accepted.
abbrev pub LoadsAreAccepted : Type 0
LoadsAreAccepted = (n : ℕ) → 1 ≤ n → n ≤ 1000 → IsAcceptedLoad n

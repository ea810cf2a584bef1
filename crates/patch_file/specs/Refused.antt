-- Why bytes are no patch: the causes, in the order in which they are asked.
use Rattle.std.specs.Prelude.{◌≡◌, ◌≢◌, ◌≤◌, ◌<◌, ◌+◌, ℕ, List, length, map, take, Result, Ok, Err}
use Rattle.c_tree.specs.declared.cause.FileCause.{FileCause}
use Rattle.c_tree.specs.declared.cause.FileCause.TheVariants as cause
use Rattle.c_tree.specs.declared.cause.ReadCause.{ReadCause}
use Rattle.c_tree.specs.declared.cause.SourceCause.{SourceCause}
use Rattle.c_tree.specs.declared.lifted.Lifted.{Lifted}
use Rattle.c_tree.specs.declared.mapping.LEntry.{LEntry}
use Rattle.c_tree.specs.declared.mapping.Mapping.{Mapping}
use Rattle.c_tree.specs.Canonical.{canonical_entries, canonical_text}
use Rattle.c_tree.specs.Entries.{Unsound}
use Rattle.patch_form.specs.declared.format.Format.{Format}
use Rattle.patch_form.specs.Framing.{framed, before_old, before_new, before_map, IsCutShort, IsBadAt}
use Rattle.patch_file.specs.Formats.{IsMappingAs, IsMapFaultAs}
use Rattle.patch_file.specs.Whole.{max_file}
use Rattle.c_source.specs.Source.{IsAccepted, IsRefused}

-- an offset is the first at which two texts differ, or one has ended and the other has not
pub record IsFirstDifference (at : ℕ) (xs ys : List ℕ) : Type 0 where
  pub same : take at xs ≡ take at ys
  pub differ : take (at + 1) xs ≢ take (at + 1) ys

-- why three texts are no patch in a format, at an offset of the file that they stand in
pub data TextsRefused (f : Format) (old new mapping : List ℕ) (at : ℕ) (why : FileCause) : Type 0 where
  old_source : (i : ℕ) (c : SourceCause) → IsRefused old i c
      → at ≡ length (before_old f old) + i → why ≡ cause.OldSource c → TextsRefused f old new mapping at why
  new_source : (p : Lifted) (i : ℕ) (c : SourceCause) → IsAccepted old p → IsRefused new i c
      → at ≡ length (before_new f old new) + i → why ≡ cause.NewSource c → TextsRefused f old new mapping at why
  map_text : (p q : Lifted) (i : ℕ) (c : ReadCause) → IsAccepted old p → IsAccepted new q → IsMapFaultAs f mapping i c
      → at ≡ length (before_map f old new mapping) + i → why ≡ cause.Map c → TextsRefused f old new mapping at why
  entry : (p q : Lifted) (m : Mapping) (u : Unsound) → IsAccepted old p → IsAccepted new q → IsMappingAs f mapping m
      → canonical_entries p q (map (λ x. x.it) m.entries) ≡ Err u
      → at ≡ length (before_map f old new mapping) → why ≡ cause.Entry u.entry u.cause → TextsRefused f old new mapping at why
  not_canonical : (p q : Lifted) (m : Mapping) (es : List LEntry) (i : ℕ) → IsAccepted old p → IsAccepted new q → IsMappingAs f mapping m
      → canonical_entries p q (map (λ x. x.it) m.entries) ≡ Ok es → IsFirstDifference i mapping (canonical_text p q es)
      → at ≡ length (before_map f old new mapping) + i → why ≡ cause.NotCanonical → TextsRefused f old new mapping at why

-- why bytes are no patch, and at which offset
pub data IsFileRefused (bytes : List ℕ) (at : ℕ) (why : FileCause) : Type 0 where
  too_long : max_file < length bytes → at ≡ max_file → why ≡ cause.TooLong → IsFileRefused bytes at why
  short : length bytes ≤ max_file → IsCutShort bytes → at ≡ length bytes → why ≡ cause.Short → IsFileRefused bytes at why
  bad_head : length bytes ≤ max_file → IsBadAt at bytes → why ≡ cause.BadHead → IsFileRefused bytes at why
  texts : (f : Format) (old new mapping : List ℕ) → length bytes ≤ max_file → bytes ≡ framed f old new mapping → TextsRefused f old new mapping at why
      → IsFileRefused bytes at why

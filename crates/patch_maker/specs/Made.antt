-- What a patch of a mapping is, and why a mapping is none.
use Rattle.std.specs.Prelude.{◌≡◌, ℕ, List, map, Ok, Err}
use Rattle.c_tree.specs.declared.cause.EntryCause.{EntryCause}
use Rattle.c_tree.specs.declared.lifted.Lifted.{Lifted}
use Rattle.c_tree.specs.declared.mapping.Entry.{Entry}
use Rattle.c_tree.specs.declared.mapping.LEntry.{LEntry}
use Rattle.c_tree.specs.declared.mapping.Mapping.{Mapping}
use Rattle.c_tree.specs.declared.mapping.Patch.{Patch}
use Rattle.c_tree.specs.Canonical.{canonical_entries}
use Rattle.patch_maker.specs.declared.refused.PatchRefused.{PatchRefused}
use Rattle.patch_maker.specs.declared.refused.PatchRefused.TheVariants as refused

-- the canonical entries of a mapping's entries between two programs
pub record AreCanonical (p q : Lifted) (xs : List Entry) (es : List LEntry) : Type 0 where
  pub are : canonical_entries p q xs ≡ Ok es

-- the first unsound one among a mapping's entries, counted from 1, and the least of its causes
pub record IsUnsound (p q : Lifted) (xs : List Entry) (number : ℕ) (cause : EntryCause) : Type 0 where
  pub is : canonical_entries p q xs ≡ Err (record { entry = number; cause = cause })

-- The patch of two programs, with their texts, by a mapping: it has the mapping's canonical entries.
pub record IsPatch (a : List ℕ) (p : Lifted) (b : List ℕ) (q : Lifted) (m : Mapping) (x : Patch) : Type 0 where
  pub old_text : x.old_text ≡ a
  pub old : x.old ≡ p
  pub new_text : x.new_text ≡ b
  pub new : x.new ≡ q
  pub entries : AreCanonical p q (map (λ e. e.it) m.entries) x.entries

-- Entries are refused at the first unsound one; want of memory may come at any time.
abbrev pub AreRefused : Lifted → Lifted → List Entry → PatchRefused → Type 0
AreRefused p q xs (refused.Entry number cause) = IsUnsound p q xs number cause
AreRefused p q xs (refused.Memory e) = Unit {0}

-- So is a mapping.
abbrev pub IsRefusal : Lifted → Lifted → Mapping → PatchRefused → Type 0
IsRefusal p q m why = AreRefused p q (map (λ e. e.it) m.entries) why

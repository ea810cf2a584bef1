-- Entries that are judged one after the other.
use Rattle.std.specs.Prelude.{◌≡◌, ℕ, List, [], Ok, Err}
use Rattle.std.specs.List.{list_any}
use Rattle.c_tree.specs.declared.lifted.Lifted.{Lifted}
use Rattle.c_tree.specs.declared.mapping.Entry.{Entry}
use Rattle.c_tree.specs.declared.mapping.LEntry.{LEntry}
use Rattle.c_tree.specs.declared.cause.EntryCause.{EntryCause}
use Rattle.c_tree.specs.Causes.{clash}
use Rattle.c_tree.specs.Entries.{sound_entry, all_entries, lifted_entries}
use Rattle.patch_maker.specs.declared.refused.PatchRefused.{PatchRefused}
use Rattle.patch_maker.specs.declared.refused.PatchRefused.TheVariants as refused
use Rattle.c_tree.specs.Link.{Link}
use Rattle.c_tree.specs.Sound.{numbers_clash}

-- an entry that is sound beside no other clashes with earlier entries by name exactly where it does by numbers
abbrev pub Mirrors : Link → List Entry → List LEntry → Type 0
Mirrors k earlier done = (x : Entry) (y : LEntry) → sound_entry k [] x ≡ Ok y → list_any (clash x) earlier ≡ list_any (numbers_clash y) done

-- entries by numbers, in the order of a mapping
pub record AreJudged (k : Link) (xs : List Entry) (es : List LEntry) : Type 0 where
  pub are : all_entries k 1 [] xs ≡ Ok es

-- the first unsound entry under a link; want of memory may come at any time
pub record IsStop (k : Link) (xs : List Entry) (number : ℕ) (cause : EntryCause) : Type 0 where
  pub is : all_entries k 1 [] xs ≡ Err (record { entry = number; cause = cause })

-- a refusal names the first unsound entry under a link, or memory was wanted
abbrev pub Stops : Link → List Entry → PatchRefused → Type 0
Stops k xs (refused.Entry number cause) = IsStop k xs number cause
Stops k xs (refused.Memory e) = Unit {0}

-- entries by numbers, in the order of a mapping between two programs
pub record AreLifted (p q : Lifted) (xs : List Entry) (es : List LEntry) : Type 0 where
  pub are : lifted_entries p q xs ≡ Ok es

-- the first unsound entry of a mapping between two programs; want of memory may come at any time
pub record IsUnlifted (p q : Lifted) (xs : List Entry) (number : ℕ) (cause : EntryCause) : Type 0 where
  pub is : lifted_entries p q xs ≡ Err (record { entry = number; cause = cause })

-- a refusal names the first unsound entry of a mapping between two programs,
-- or memory was wanted
abbrev pub AreUnlifted : Lifted → Lifted → List Entry → PatchRefused → Type 0
AreUnlifted p q xs (refused.Entry number cause) = IsUnlifted p q xs number cause
AreUnlifted p q xs (refused.Memory e) = Unit {0}

-- What holds of all bytes.
use Rattle.std.specs.Prelude.{◌≡◌, ◌≤◌, ℕ, List, length}
use Rattle.c_grammar.specs.Mapping.{IsMappingOf}
use Rattle.c_tree.specs.declared.cause.FileCause.{FileCause}
use Rattle.c_tree.specs.declared.lifted.Lifted.{Lifted}
use Rattle.c_tree.specs.declared.mapping.Mapping.{Mapping}
use Rattle.c_tree.specs.declared.mapping.Patch.{Patch}
use Rattle.patch_maker.specs.Made.{IsPatch}
use Rattle.c_source.specs.Source.{IsAccepted}
use Rattle.patch_file.specs.Refused.{IsFileRefused}
use Rattle.patch_file.specs.Whole.{IsFileOf, file_of, max_file}

-- Bytes have at most one answer: they are the file of one whole patch, or are refused at one offset for one cause.
pub record OneAnswer : Type 0 where
  pub one_patch : (bytes : List ℕ) (p q : Patch) → IsFileOf bytes p → IsFileOf bytes q → p ≡ q
  pub one_refusal : (bytes : List ℕ) (a b : ℕ) (c d : FileCause) → IsFileRefused bytes a c → IsFileRefused bytes b d → (a ≡ b) × (c ≡ d)
  pub never_both : (bytes : List ℕ) (at : ℕ) (p : Patch) (c : FileCause) → IsFileOf bytes p → IsFileRefused bytes at c → ⊥

-- A patch that was made of two accepted sources by the mapping that a text is reads back, where its file has at most so many
-- bytes: the file is that of this patch, of no other, and nothing is found against it.
abbrev pub MadePatchesReadBack : Type 0
MadePatchesReadBack =
    (old new text : List ℕ) (p q : Lifted) (m : Mapping) (x : Patch) → IsAccepted old p → IsAccepted new q → IsMappingOf text m → IsPatch old p new q m x
    → length (file_of x) ≤ max_file
    → IsFileOf (file_of x) x × ((y : Patch) → IsFileOf (file_of x) y → y ≡ x) × ((at : ℕ) (why : FileCause) → IsFileRefused (file_of x) at why → ⊥)

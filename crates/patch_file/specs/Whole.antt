-- Which patches have a file, and the bytes of the file.
use Rattle.std.specs.Prelude.{◌≡◌, ◌≤◌, ℕ, List, length, map, Ok}
use Rattle.c_grammar.specs.Mapping.{IsMappingOf}
use Rattle.c_tree.specs.declared.mapping.Mapping.{Mapping}
use Rattle.c_tree.specs.declared.mapping.Patch.{Patch}
use Rattle.c_tree.specs.Canonical.{canonical_entries, canonical_text}
use Rattle.patch_form.specs.declared.format.Format.{Format}
use Rattle.patch_form.specs.declared.format.Format.TheVariants.{Two}
use Rattle.patch_form.specs.Framing.{framed}
use Rattle.c_source.specs.Source.{IsAccepted}
use Rattle.patch_file.specs.Formats.{CanBeIn}

-- the most bytes of a patch's file
abbrev pub max_file : ℕ
max_file = 4194304

-- the text of a patch's entries
abbrev pub map_of : Patch → List ℕ
map_of p = canonical_text p.old p.new p.entries

-- the bytes of a patch's file in a format: its two sources, and the text of its entries
abbrev pub file_in : Format → Patch → List ℕ
file_in f p = framed f p.old_text p.new_text (map_of p)

-- the bytes of a patch's file, which is in the newest format
abbrev pub file_of : Patch → List ℕ
file_of p = file_in Two p

-- A patch is whole: its programs are those of its sources, its entries are the canonical ones of a mapping that some text is,
-- and its file has at most so many bytes.
pub record IsWhole (p : Patch) : Type 0 where
  pub old : IsAccepted p.old_text p.old
  pub new : IsAccepted p.new_text p.new
  pub text : List ℕ
  pub mapping : Mapping
  pub read : IsMappingOf text mapping
  pub entries : canonical_entries p.old p.new (map (λ x. x.it) mapping.entries) ≡ Ok p.entries
  pub small : length (file_of p) ≤ max_file

-- The bytes are the file of a whole patch in a format that it can be written in.
abbrev pub IsFileOf : List ℕ → Patch → Type 0
IsFileOf bytes p = IsWhole p × ((f : Format) × CanBeIn f p × (bytes ≡ file_in f p))

-- What the parts of the reading promise each other.
use Rattle.std.specs.Prelude.{◌≡◌, ℕ, List, length, map, Ok}
use Rattle.c_tree.specs.declared.lifted.Lifted.{Lifted}
use Rattle.c_tree.specs.declared.mapping.Mapping.{Mapping}
use Rattle.c_tree.specs.declared.mapping.Patch.{Patch}
use Rattle.patch_form.specs.declared.frame.Frame.{Frame}
use Rattle.patch_form.specs.Framing.{before_old, before_new, before_map}
use Rattle.patch_maker.specs.Made.{IsPatch}
use Rattle.patch_file.specs.declared.refused.FileRefused.{FileRefused}
use Rattle.patch_file.specs.Formats.{IsMappingAs}
use Rattle.patch_file.specs.Refusal.{AreTextsRefused}
use Rattle.patch_file.specs.Whole.{map_of}
use Rattle.c_source.specs.Source.{IsAccepted}

-- the texts begin where a file's do
pub record IsPlaced (f : Frame) : Type 0 where
  pub old : f.old.at ≡ length (before_old f.format f.old.text.now)
  pub new : f.new.at ≡ length (before_new f.format f.old.text.now f.new.text.now)
  pub map : f.map.at ≡ length (before_map f.format f.old.text.now f.new.text.now f.map.text.now)

-- the refusal is that of the frame's texts
abbrev pub Refuses : Frame → FileRefused → Type 0
Refuses f r = AreTextsRefused f.format f.old.text.now f.new.text.now f.map.text.now r

-- both sources are accepted, and the third text is this mapping in the frame's format
pub record AreRead (f : Frame) (p q : Lifted) (m : Mapping) : Type 0 where
  pub old : IsAccepted f.old.text.now p
  pub new : IsAccepted f.new.text.now q
  pub mapping : IsMappingAs f.format f.map.text.now m

-- a patch of the frame's two sources and of a mapping
abbrev pub IsMadeOf : Frame → Lifted → Lifted → Mapping → Patch → Type 0
IsMadeOf f p q m x = IsPatch f.old.text.now p f.new.text.now q m x

-- a patch of the frame's texts: the third is the mapping in its canonical text
pub record IsPatchOf (f : Frame) (x : Patch) : Type 0 where
  pub mapping : Mapping
  pub read : AreRead f x.old x.new mapping
  pub made : IsMadeOf f x.old x.new mapping x
  pub canonical : f.map.text.now ≡ map_of x

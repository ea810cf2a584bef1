-- What the reader of patch files answers.
use Rattle.std.specs.Prelude.{◌≡◌, ℕ, List, length}
use Rattle.patch_form.specs.declared.fault.FrameFault.{FrameFault}
use Rattle.patch_form.specs.declared.fault.FrameFault.TheVariants.{Short, BadHead}
use Rattle.patch_form.specs.declared.frame.Frame.{Frame}
use Rattle.patch_form.specs.Framing.{framed, before_old, before_new, before_map, IsCutShort, IsBadAt}

-- the bytes are those of the frame's texts in its format, and each text begins behind what stands before it
pub record IsFrame (bytes : List ℕ) (frame : Frame) : Type 0 where
  pub whole : bytes ≡ framed frame.format frame.old.text.now frame.new.text.now frame.map.text.now
  pub old : frame.old.at ≡ length (before_old frame.format frame.old.text.now)
  pub new : frame.new.at ≡ length (before_new frame.format frame.old.text.now frame.new.text.now)
  pub map : frame.map.at ≡ length (before_map frame.format frame.old.text.now frame.new.text.now frame.map.text.now)

-- what a fault says of the bytes
abbrev pub IsFault : List ℕ → FrameFault → Type 0
IsFault bytes Short = IsCutShort bytes
IsFault bytes (BadHead at) = IsBadAt at bytes

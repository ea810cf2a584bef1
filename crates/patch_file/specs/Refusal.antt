-- What a refusal says.
use Rattle.std.specs.Prelude.{◌≡◌, ℕ, List, ◌+◌, length}
use Rattle.c_tree.specs.declared.cause.FileCause.{FileCause}
use Rattle.c_tree.specs.declared.cause.FileCause.TheVariants as cause
use Rattle.c_tokens.specs.Text.{text_of}
use Rattle.map_lang.specs.Refusal.{IsRefusalIn}
use Rattle.map_lang.specs.declared.refused.MapRefused.{MapRefused}
use Rattle.map_lang.specs.declared.refused.MapRefused.TheVariants as mapping
use Rattle.patch_form.specs.declared.format.Format.{Format}
use Rattle.patch_maker.specs.declared.refused.PatchRefused.{PatchRefused}
use Rattle.patch_maker.specs.declared.refused.PatchRefused.TheVariants as patch
use Rattle.c_source.specs.declared.refused.SourceRefused.{SourceRefused}
use Rattle.c_source.specs.declared.refused.SourceRefused.TheVariants as source
use Rattle.patch_file.specs.declared.refused.FileRefused.{FileRefused}
use Rattle.patch_file.specs.declared.refused.FileRefused.TheVariants.{At, Memory}
use Rattle.patch_file.specs.Formats.{start_of}
use Rattle.patch_file.specs.Refused.{IsFileRefused, TextsRefused}

-- a refusal of a mapping's text, read in a format, names its first fault, or memory was wanted
abbrev pub IsMapRefusal : Format → List ℕ → MapRefused → Type 0
IsMapRefusal f text r = IsRefusalIn (start_of f) (text_of text) (length text) r

-- It names the cause and its offset; want of memory may come at any time.
abbrev pub AreTextsRefused : Format → List ℕ → List ℕ → List ℕ → FileRefused → Type 0
AreTextsRefused f old new map (At at why) = TextsRefused f old new map at why
AreTextsRefused f old new map (Memory e) = Unit {0}

-- a refusal of a file's bytes names why they are no patch and where, or memory was wanted
abbrev pub IsRefusal : List ℕ → FileRefused → Type 0
IsRefusal bytes (At at why) = IsFileRefused bytes at why
IsRefusal bytes (Memory e) = Unit {0}

-- a refusal is this cause so many bytes behind the start of a text, or want of memory
abbrev pub IsAt : ℕ → ℕ → FileCause → FileRefused → Type 0
IsAt start i c (At at why) = (at ≡ start + i) × (why ≡ c)
IsAt start i c (Memory e) = Unit {0}

-- a refusal of an old source that begins at an offset, as a refusal of the file
abbrev pub IsOfOld : ℕ → SourceRefused → FileRefused → Type 0
IsOfOld start (source.At i c) r = IsAt start i (cause.OldSource c) r
IsOfOld start (source.Memory e) r = r ≡ Memory e

-- a refusal of a new source that begins at an offset, as a refusal of the file
abbrev pub IsOfNew : ℕ → SourceRefused → FileRefused → Type 0
IsOfNew start (source.At i c) r = IsAt start i (cause.NewSource c) r
IsOfNew start (source.Memory e) r = r ≡ Memory e

-- a refusal of a mapping's text that begins at an offset, as a refusal of the file
abbrev pub IsOfMap : ℕ → MapRefused → FileRefused → Type 0
IsOfMap start (mapping.At i c) r = IsAt start i (cause.Map c) r
IsOfMap start (mapping.Memory e) r = r ≡ Memory e

-- a refusal of an entry, as a refusal of the file at the start of the mapping's text
abbrev pub IsOfEntry : ℕ → PatchRefused → FileRefused → Type 0
IsOfEntry start (patch.Entry number c) r = IsAt start 0 (cause.Entry number c) r
IsOfEntry start (patch.Memory e) r = r ≡ Memory e

-- What stands at the front of bytes, of the words of a language, or why none does.
use Rattle.std.specs.Prelude.{◌≡◌, ◌≢◌, ℕ, ◌+◌, ⊤, List, [], ◌∷◌, ◌++◌, length, take}
use Rattle.std.specs.Int.{IsInRange}
use Rattle.patch_form.specs.declared.fault.FrameFault.{FrameFault}
use Rattle.patch_form.specs.declared.fault.FrameFault.TheVariants.{Short, BadHead}
use Rattle.patch_form.specs.declared.format.Format.{Format}
use Rattle.patch_form.specs.Framing.{digit, head, number_line}

-- the bytes are a prefix of a word
abbrev pub Begins : (List ℕ → Type 0) → List ℕ → Type 0
Begins W bytes = (more : List ℕ) × W (bytes ++ more)

-- no word, whatever follows it, has the bytes as a prefix
abbrev pub NoneGoesOn : (List ℕ → Type 0) → List ℕ → Type 0
NoneGoesOn W bytes = (word more rest : List ℕ) → W word → bytes ++ more ≡ word ++ rest → ⊥

-- the bytes are a proper prefix of a word
abbrev pub IsCut : (List ℕ → Type 0) → List ℕ → Type 0
IsCut W bytes = (more : List ℕ) × (more ≢ []) × W (bytes ++ more)

-- no word goes on with the byte at the offset, the first of the kind
abbrev pub IsBad : (List ℕ → Type 0) → ℕ → List ℕ → Type 0
IsBad W at bytes = Begins W (take at bytes) × NoneGoesOn W (take (at + 1) bytes)

-- why bytes that stand at an offset of a file begin with no word
abbrev pub IsFaultOf : (List ℕ → Type 0) → ℕ → List ℕ → FrameFault → Type 0
IsFaultOf W start bytes Short = IsCut W bytes
IsFaultOf W start bytes (BadHead at) = (i : ℕ) × (at ≡ start + i) × IsBad W i bytes

-- the bytes are these
abbrev pub Is : List ℕ → List ℕ → Type 0
Is word bytes = bytes ≡ word

-- the byte is the digit of a format
abbrev pub IsDigit : List ℕ → Type 0
IsDigit bytes = (f : Format) × (bytes ≡ digit f ∷ [])

-- the bytes are the first line of a file
abbrev pub IsHead : List ℕ → Type 0
IsHead bytes = (f : Format) × (bytes ≡ head f)

-- the bytes are the line of a number
abbrev pub IsNumberLine : List ℕ → Type 0
IsNumberLine bytes = (n : ℕ) × (bytes ≡ number_line n)

-- the bytes are a word, the line of a text's length, and the text
abbrev pub IsPart : List ℕ → List ℕ → Type 0
IsPart word bytes = (text : List ℕ) × (bytes ≡ word ++ number_line (length text) ++ text)

-- the bytes don't begin with a digit
abbrev pub NoDigit : List ℕ → Type 0
NoDigit [] = ⊤
NoDigit (c ∷ cs) = ¬ (IsInRange 48 57 c)

-- What holds of all bytes.
use Rattle.std.specs.Prelude.{◌≡◌, ℕ, ◌<◌, ◌^◌, ◌⊎◌, List}
use Rattle.std.specs.Fmt.{decimal}
use Rattle.patch_form.specs.declared.format.Format.{Format}
use Rattle.patch_form.specs.Framing.{number_text, framed, IsFraming, IsCutShort, IsBadAt}

-- bytes are a framing, or cut short, or bad at an offset
abbrev pub EachIsAnswered : Type 0
EachIsAnswered = (bytes : List ℕ) → IsFraming bytes ⊎ (IsCutShort bytes ⊎ ((at : ℕ) × IsBadAt at bytes))

-- a framing has one format, one old text, one new text and one map
abbrev pub OneFraming : Type 0
OneFraming =
    (f f' : Format) (old new map old' new' map' : List ℕ) → framed f old new map ≡ framed f' old' new' map'
    → (f ≡ f') × (old ≡ old') × (new ≡ new') × (map ≡ map')

-- no framing is cut short
abbrev pub NoneIsShort : Type 0
NoneIsShort = (bytes : List ℕ) → IsFraming bytes → ¬ (IsCutShort bytes)

-- no framing is bad
abbrev pub NoneIsBad : Type 0
NoneIsBad = (bytes : List ℕ) (at : ℕ) → IsFraming bytes → ¬ (IsBadAt at bytes)

-- what is cut short is not bad
abbrev pub NoShortIsBad : Type 0
NoShortIsBad = (bytes : List ℕ) (at : ℕ) → IsCutShort bytes → ¬ (IsBadAt at bytes)

-- bytes are bad at one offset
abbrev pub OneOffset : Type 0
OneOffset = (bytes : List ℕ) (at at' : ℕ) → IsBadAt at bytes → IsBadAt at' bytes → at ≡ at'

-- the length of a text that a machine holds is written as any number is
abbrev pub IsDecimal : Type 0
IsDecimal = (n : ℕ) → n < 2 ^ 64 → number_text n ≡ decimal n

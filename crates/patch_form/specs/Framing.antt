-- The bytes of a patch file: a line that names its format, and three texts, each behind a line with its length.
use Rattle.std.specs.Prelude.{◌≡◌, ℕ, zero, suc, ◌+◌, List, [], ◌∷◌, ◌++◌, length, map, take, codes}
use Rattle.std.specs.Int.Digits.{digits_of}
use Rattle.patch_form.specs.declared.format.Format.{Format}
use Rattle.patch_form.specs.declared.format.Format.TheVariants.{One, Two}

-- a number in decimal, of however many digits: 0 is `0`, and no other number begins with it
unfoldable pub number_text : ℕ → List ℕ
number_text zero = 48 ∷ []
number_text (suc n) = map (λ d. 48 + d) (digits_of 10 (suc n))

-- the line of a number
abbrev pub number_line : ℕ → List ℕ
number_line n = number_text n ++ 10 ∷ []

-- the digit of a format
abbrev pub digit : Format → ℕ
digit One = 49
digit Two = 50

-- the first line, which names the format
abbrev pub head : Format → List ℕ
head f = codes "upstare-patch " ++ (digit f ∷ codes "\n")

-- what stands before the old text: the first line, and the line with the old text's length
abbrev pub before_old : Format → List ℕ → List ℕ
before_old f old = head f ++ codes "old " ++ number_line (length old)

-- what stands before the new text
abbrev pub before_new : Format → List ℕ → List ℕ → List ℕ
before_new f old new = before_old f old ++ old ++ codes "new " ++ number_line (length new)

-- what stands before the map
abbrev pub before_map : Format → List ℕ → List ℕ → List ℕ → List ℕ
before_map f old new map = before_new f old new ++ new ++ codes "map " ++ number_line (length map)

-- the bytes of three texts in a format
abbrev pub framed : Format → List ℕ → List ℕ → List ℕ → List ℕ
framed f old new map = before_map f old new map ++ map ++ codes "end\n"

-- the bytes are those of three texts in one of the formats
abbrev pub IsFraming : List ℕ → Type 0
IsFraming bytes = (f : Format) × ((old : List ℕ) × ((new : List ℕ) × ((map : List ℕ) × (bytes ≡ framed f old new map))))

-- the bytes are a prefix of a framing
abbrev pub BeginsFraming : List ℕ → Type 0
BeginsFraming bytes = (more : List ℕ) × IsFraming (bytes ++ more)

-- the bytes are a prefix of a framing, and none themselves
abbrev pub IsCutShort : List ℕ → Type 0
IsCutShort bytes = BeginsFraming bytes × ¬ (IsFraming bytes)

-- the byte at the offset is the first with which no framing goes on
abbrev pub IsBadAt : ℕ → List ℕ → Type 0
IsBadAt at bytes = BeginsFraming (take at bytes) × ¬ (BeginsFraming (take (at + 1) bytes))

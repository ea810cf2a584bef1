-- How activations lie in segments: a head of four words, and then the slots. The head has the
-- function, the position, the number of slots, and where the activation outside it begins.
use Rattle.std.specs.Prelude.{ℕ, zero, suc, ◌+◌, ◌*◌, ◌<◌, ◌≤◌, ◌≡◌, ◌⊎◌, ℤ, pos, List, [], ◌∷◌, length, take, drop, reverse, slice_index_or, slice_set}
use Rattle.std.specs.Int.{cast_signed, cast_unsigned, w32}
use Rattle.target_code.specs.declared.activation.Activation.{Activation}
use Rattle.target_code.specs.Stack.{words_of, blank}
use Rattle.seg_stack.specs.declared.place.Place.{Place}

-- the word at a place, as a number without a sign
abbrev pub word_at : List ℤ → ℕ → ℕ
word_at words at = cast_unsigned w32 (slice_index_or words at (pos 0))

-- how many slots the activation at a place has
abbrev pub size_at : List ℤ → ℕ → ℕ
size_at words at = word_at words (at + 2)

-- where the activation outside the one at a place begins
abbrev pub below_at : List ℤ → ℕ → ℕ
below_at words at = word_at words (at + 3)

-- the activation at a place
abbrev pub act_at : List ℤ → ℕ → Activation
act_at words at = record {
  function = word_at words at;
  pc = word_at words (at + 1);
  slots = take (size_at words at) (drop (at + 4) words);
}

-- the words with a head at a place, at the start of its function
abbrev pub with_head : List ℤ → ℕ → ℕ → ℕ → ℕ → List ℤ
with_head words at function slots below =
    let words' = slice_set (slice_set words at (cast_signed w32 function)) (at + 1) (pos 0) in
    slice_set (slice_set words' (at + 2) (cast_signed w32 slots)) (at + 3) (cast_signed w32 below)

-- the segment of the activation outside the one at a place, up to where it can reach: the same one,
-- unless this one begins it
abbrev pub rest_words : List ℤ → List (List ℤ) → ℕ → List ℤ
rest_words words older (suc at) = take (suc at) words
rest_words words (o ∷ older) zero = o
rest_words words [] zero = []

-- the segments before that one, the newest first
abbrev pub rest_older : List (List ℤ) → ℕ → List (List ℤ)
rest_older older (suc at) = older
rest_older (o ∷ older) zero = older
rest_older [] zero = []

-- where the activation outside the one at a place ends
abbrev pub rest_end : List ℤ → List (List ℤ) → ℕ → ℕ
rest_end words older (suc at) = suc at
rest_end words (o ∷ older) zero = below_at words 0 + (size_at o (below_at words 0) + 4)
rest_end words [] zero = 0

-- so many activations, innermost first, of which the innermost lies at a place of a segment
unfoldable pub frames_at : ℕ → List ℤ → List (List ℤ) → ℕ → List Activation
frames_at zero words older at = []
frames_at (suc n) words older at =
    act_at words at
    ∷ frames_at n (rest_words words older at) (rest_older older at) (below_at words at)

-- how many words these activations take
unfoldable pub total : List Activation → ℕ
total [] = 0
total (a ∷ below) = words_of a + total below

-- the activation at a place ends at another, and lies within its segment
pub record Lies (words : List ℤ) (at end : ℕ) : Type 0 where
  pub size : size_at words at ≡ length (act_at words at).slots
  pub ends : at + (size_at words at + 4) ≡ end
  pub few : size_at words at ≤ 128
  pub within : end ≤ 4096

-- the activations follow one another, the outermost one begins the first segment, and each segment
-- before an activation's counts for its 3,964 words
unfoldable pub IsLaid : ℕ → List ℤ → List (List ℤ) → ℕ → ℕ → Type 0
IsLaid zero words older at end = (older ≡ []) × (end ≡ 0)
IsLaid (suc n) words older at end =
    Lies words at end
    × (3964 * length older + end ≤ total (frames_at (suc n) words older at))
    × IsLaid n (rest_words words older at) (rest_older older at) (below_at words at) (rest_end words older at)

-- a segment
abbrev pub nth : List (List ℤ) → ℕ → List ℤ
nth segments segment = slice_index_or segments segment []

-- the segments before one, the newest first
abbrev pub before : List (List ℤ) → ℕ → List (List ℤ)
before segments segment = reverse (take segment segments)

-- the activations of a stack whose innermost one lies at a place of a segment
abbrev pub frames_in : List (List ℤ) → ℕ → ℕ → ℕ → List Activation
frames_in segments segment base depth = frames_at depth (nth segments segment) (before segments segment) base

-- what is true of a stack: its activations follow one another, and what is to spare is the words
-- that the segments count for, less those of the activations
pub record IsStack (segments : List (List ℤ)) (segment base end depth spare : ℕ) : Type 0 where
  pub laid : IsLaid depth (nth segments segment) (before segments segment) base end
  pub here : segment ≤ length segments
  pub low : base ≤ 4092
  pub room : spare + total (frames_in segments segment base depth) ≡ 3964 * length segments
  pub few : length segments ≤ 4333973

-- where an activation of so many words lies: behind the one that ends at a place, or in the next
-- segment, where this one has no room for it
abbrev pub IsNext : Place → ℕ → Place → Type 0
IsNext old words new =
    ((old.end + words ≤ 4096) × (new ≡ record { segment = old.segment; base = old.end; end = old.end + words }))
    ⊎ ((4096 < old.end + words) × (new ≡ record { segment = old.segment + 1; base = 0; end = words }))

-- the segments, in one of which an activation begins at a place
pub record IsBegun (old new : List (List ℤ)) (segment base function slots below : ℕ) : Type 0 where
  pub others : new ≡ slice_set old segment (nth new segment)
  pub act : act_at (nth new segment) base ≡ blank function slots
  pub size : size_at (nth new segment) base ≡ slots
  pub outside : below_at (nth new segment) base ≡ below
  pub inner : take base (nth new segment) ≡ take base (nth old segment)

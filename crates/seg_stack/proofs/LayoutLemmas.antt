-- Activations in segments: what a written head says, and what stays where words behind it change.
use Rattle.std.proofs.Common.{◌≡◌, ℕ, zero, suc, ◌+◌, ◌^◌, ◌<◌, ◌≤◌, ℤ, pos, List, [], ◌∷◌, ◌++◌, length, take, drop, replicate, get_or, set, refl, ap, ◌∙◌, subst, arith, w32}
use Rattle.std.specs.Int.{cast_signed, cast_unsigned}
use Rattle.std.proofs.lemmas.Int.{of_z-to_z}
use Rattle.std.proofs.lemmas.List.{get_or-take, get_or_append_left, get_or-set_same, get_or-set_other, length-set, length-take-le, length-replicate, take-append-le, take-set-le}
use Rattle.std.proofs.Math.Seq.{drop-append_seam, take-append_seam}
use Rattle.target_code.specs.Stack.{blank}
use Rattle.seg_stack.specs.Layout.{word_at, size_at, below_at, act_at}

-- the first of the first words
pub take-take : {A : Type 0} (a b : ℕ) (l : List A) → a ≤ b → take a (take b l) ≡ take a l
take-take zero b l h = refl
take-take (suc a) zero l h = absurd (omega (arith, h))
take-take (suc a) (suc b) [] h = refl
take-take (suc a) (suc b) (x ∷ l) h = ap (λ t. x ∷ t) (take-take a b l (omega (arith, h)))

module _ (l : List ℤ) (at f n b : ℕ) (fits : at + 4 ≤ length l) where
  abbrev F : ℤ
  F = cast_signed w32 f

  abbrev N : ℤ
  N = cast_signed w32 n

  abbrev B : ℤ
  B = cast_signed w32 b

  abbrev l1 : List ℤ
  l1 = set l at F

  abbrev l2 : List ℤ
  l2 = set l1 (at + 1) (pos 0)

  abbrev l3 : List ℤ
  l3 = set l2 (at + 2) N

  abbrev h : List ℤ
  h = set l3 (at + 3) B

  other : (m : List ℤ) (i j : ℕ) (v : ℤ) → j < i → get_or (set m i v) j (pos 0) ≡ get_or m j (pos 0)
  other m i j v lt = get_or-set_other m i j v (pos 0) (λ e. absurd (omega (arith, e, lt)))

  long1 : length l1 ≡ length l
  long1 = length-set l at F

  long2 : length l2 ≡ length l
  long2 = length-set l1 (at + 1) (pos 0) ∙ long1

  long3 : length l3 ≡ length l
  long3 = length-set l2 (at + 2) N ∙ long2

  pub long : length h ≡ length l
  long = length-set l3 (at + 3) B ∙ long3

  function : get_or h at (pos 0) ≡ F
  function =
      other l3 (at + 3) at B (omega arith) ∙ other l2 (at + 2) at N (omega arith) ∙ other l1 (at + 1) at (pos 0) (omega arith)
      ∙ get_or-set_same l at F (pos 0) (omega (arith, fits))

  pc : get_or h (at + 1) (pos 0) ≡ pos 0
  pc =
      other l3 (at + 3) (at + 1) B (omega arith) ∙ other l2 (at + 2) (at + 1) N (omega arith)
      ∙ get_or-set_same l1 (at + 1) (pos 0) (pos 0) (omega (arith, fits, long1))

  size : get_or h (at + 2) (pos 0) ≡ N
  size = other l3 (at + 3) (at + 2) B (omega arith) ∙ get_or-set_same l2 (at + 2) N (pos 0) (omega (arith, fits, long2))

  below : get_or h (at + 3) (pos 0) ≡ B
  below = get_or-set_same l3 (at + 3) B (pos 0) (omega (arith, fits, long3))

  before : take at h ≡ take at l
  before =
      take-set-le at l3 (at + 3) B (omega arith) ∙ take-set-le at l2 (at + 2) N (omega arith)
      ∙ take-set-le at l1 (at + 1) (pos 0) (omega arith) ∙ take-set-le at l at F (omega arith)

  -- the words with the head and so many zeros behind it
  module _ (rest m : List ℤ) (is : m ≡ take (at + 4) h ++ (replicate n (pos 0) ++ rest)) where
    abbrev P : List ℤ
    P = take (at + 4) h

    tall : length P ≡ at + 4
    tall = length-take-le (at + 4) h (omega (arith, fits, long))

    read : (i : ℕ) → i < at + 4 → get_or m i (pos 0) ≡ get_or h i (pos 0)
    read i lt =
        ap (λ (k : List ℤ). get_or k i (pos 0)) is
        ∙ get_or_append_left P (replicate n (pos 0) ++ rest) (pos 0) i (omega (arith, lt, tall))
        ∙ get_or-take (at + 4) h i (pos 0) lt

    pub begun-size : n < 2 ^ 32 → size_at m at ≡ n
    begun-size lt = ap (λ z. cast_unsigned w32 z) (read (at + 2) (omega arith) ∙ size) ∙ of_z-to_z w32 n lt

    pub begun-below : b < 2 ^ 32 → below_at m at ≡ b
    begun-below lt = ap (λ z. cast_unsigned w32 z) (read (at + 3) (omega arith) ∙ below) ∙ of_z-to_z w32 b lt

    pub begun-before : take at m ≡ take at l
    begun-before =
        ap (λ (k : List ℤ). take at k) is
        ∙ take-append-le at P (replicate n (pos 0) ++ rest) (omega (arith, tall))
        ∙ take-take at (at + 4) h (omega arith) ∙ before

    zeros : take n (drop (at + 4) m) ≡ replicate n (pos 0)
    zeros =
        let R = replicate n (pos 0) ++ rest in
        let dropped : drop (at + 4) (P ++ R) ≡ R = subst (λ k. drop k (P ++ R) ≡ R) tall (drop-append_seam P R) in
        ap (λ (k : List ℤ). take n (drop (at + 4) k)) is
        ∙ ap (λ (k : List ℤ). take n k) dropped
        ∙ subst (λ k. take k R ≡ replicate n (pos 0)) (length-replicate n (pos 0)) (take-append_seam (replicate n (pos 0)) rest)

    pub begun-act : n < 2 ^ 32 → f < 2 ^ 32 → act_at m at ≡ blank f n
    begun-act lt ltf =
        let e1 : word_at m at ≡ f = ap (λ z. cast_unsigned w32 z) (read at (omega arith) ∙ function) ∙ of_z-to_z w32 f ltf in
        let e2 : word_at m (at + 1) ≡ 0 = ap (λ z. cast_unsigned w32 z) (read (at + 1) (omega arith) ∙ pc) in
        let e3 : take (size_at m at) (drop (at + 4) m) ≡ replicate n (pos 0) = ap (λ k. take k (drop (at + 4) m)) (begun-size lt) ∙ zeros in
        ap (λ k. record (act_at m at) { function = k }) e1
        ∙ ap (λ k. record (act_at m at) { function = f; pc = k }) e2
        ∙ ap (λ (k : List ℤ). record { function = f; pc = 0; slots = k }) e3

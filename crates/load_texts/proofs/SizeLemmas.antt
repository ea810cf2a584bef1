-- How long the text of a mapping is.
use Rattle.std.proofs.Common.{ℕ, zero, suc, ◌+◌, ◌*◌, ◌≤◌, Bool, true, false, List, [], ◌++◌, length, arith, codes}
use Rattle.std.specs.Prelude.{nat_le, if◌then◌else◌}
use Rattle.std.specs.Fmt.{decimal}
use Rattle.std.specs.List.{flat_map, range_with_len}
use Rattle.std.proofs.lemmas.Fmt.{length-decimal-le}
use Rattle.std.proofs.lemmas.List.{length-append}
use Rattle.load_texts.specs.Texts.{called, entry, fill, filled, frames, kept, main_frames, mapping}

-- two parts that are short, and a number of at most four digits
both : (a b : List ℕ) (m n k : ℕ) → length a ≤ m → length b ≤ n → m + n ≤ k → length (a ++ b) ≤ k
both a b m n k first second small = omega (arith, length-append a b, first, second, small)

four_digits : (k : ℕ) → k ≤ 1000 → length (decimal k) ≤ 4
four_digits k small = length-decimal-le 4 k (omega arith) (omega (arith, small)) (omega (arith, small))

short_entry : (k : ℕ) → k ≤ 1000 → length (entry k) ≤ 28
short_entry k small =
    both (codes "point f") (decimal k ++ codes " entry -> entry;\n") 7 21 28 (omega arith) (both (decimal k) (codes " entry -> entry;\n") 4 17 21 (four_digits k small) (omega arith) (omega arith)) (omega arith)

short_kept : (point : List ℕ) → length point ≤ 6 → length (kept point) ≤ 16
unfolding kept
short_kept point small = both point (codes " -> " ++ point) 6 10 16 small (both (codes " -> ") point 4 6 10 (omega arith) small (omega arith)) (omega arith)

short_fill : (k : ℕ) → k ≤ 1000 → length (fill k) ≤ 20
unfolding fill
short_fill k small =
    both (codes " { z = i * " ++ decimal k) (codes "; };\n") 15 5 20 (both (codes " { z = i * ") (decimal k) 11 4 15 (omega arith) (four_digits k small) (omega arith)) (omega arith) (omega arith)

short_filled : (k : ℕ) (point : List ℕ) → k ≤ 1000 → length point ≤ 6 → length (filled k point) ≤ 48
short_filled k point small short =
    both (codes "point f" ++ decimal k) (codes " " ++ (kept point ++ fill k)) 11 37 48 (both (codes "point f") (decimal k) 7 4 11 (omega arith) (four_digits k small) (omega arith))
    (both (codes " ") (kept point ++ fill k) 1 36 37 (omega arith) (both (kept point) (fill k) 16 20 36 (short_kept point short) (short_fill k small) (omega arith)) (omega arith)) (omega arith)

short_called : (k : ℕ) → k ≤ 1000 → length (called k) ≤ 48
short_called k small = go (nat_le k 1)
  where
    go : (b : Bool) → length (if b then [] else filled k (codes "call 1")) ≤ 48
    go true = omega arith
    go false = short_filled k (codes "call 1") small (omega arith)

short_frames : (k : ℕ) → k ≤ 1000 → length (frames k) ≤ 124
short_frames k small =
    both (entry k) (filled k (codes "loop 1") ++ called k) 28 96 124 (short_entry k small)
    (both (filled k (codes "loop 1")) (called k) 48 48 96 (short_filled k (codes "loop 1") small (omega arith)) (short_called k small) (omega arith)) (omega arith)

short_range : (a n : ℕ) → a + n ≤ 1001 → length (flat_map frames (range_with_len a n)) ≤ 124 * n
short_range a zero small = omega arith
short_range a (suc n) small =
    both (frames a) (flat_map frames (range_with_len (a + 1) n)) 124 (124 * n) (124 * suc n) (short_frames a (omega (arith, small))) (short_range (a + 1) n (omega (arith, small))) (omega arith)

pub short_mapping : (n : ℕ) → n ≤ 1000 → length (mapping n) ≤ 1048576
unfolding mapping
short_mapping n small =
    both (flat_map frames (range_with_len 1 n)) main_frames (124 * n) 200 1048576 (short_range 1 n (omega (arith, small))) (omega arith) (omega (arith, small))

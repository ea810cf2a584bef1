-- The points of places, one place further.
use Rattle.std.proofs.Common.{◌≡◌, ◌∙◌, ℕ, ◌+◌, ◌<◌, List, [], ◌∷◌, ◌++◌, length, get_or, map, sym, ap, arith}
use Rattle.std.specs.List.{range_with_len}
use Rattle.std.proofs.lemmas.List.FromFn.{map-range_with_len_more}
use Rattle.c_tree.specs.declared.mapping.Pt.{Pt}
use Rattle.c_tree.specs.declared.place.Place.{Place}
use Rattle.c_tree.specs.declared.place.PlaceKind.{PlaceKind}
use Rattle.c_tree.specs.Points.{kind_of, kind_at, before}
use Rattle.c_tree.proofs.PointLemmas.{place_of}
use Rattle.c_places.proofs.TallyLemmas.{seen-first}
use Rattle.c_places.specs.declared.tally.Tally.{Tally}
use Rattle.c_places.specs.Tally.{of_first, seen}
use Rattle.map_text.specs.Points.{point_at}

abbrev pt : PlaceKind → ℕ → Pt
pt k i = record { kind = k; number = i }

-- its point
point_number : (t : Tally) (ps : List Place) (n : ℕ) (p : Place) (k : PlaceKind) (i : ℕ) → n < length ps → p ≡ get_or ps n p → k ≡ kind_of (get_or ps n p).act → t ≡ of_first ps n → i ≡ seen t k + 1 → pt k i ≡ point_at ps n
point_number t ps n p k i l is same e number =
    let at : k ≡ kind_at ps n = same ∙ ap (λ q. kind_of q.act) (sym is ∙ sym (place_of ps n p l is)) in
    let count : i ≡ before k ps n + 1 = number ∙ (ap (λ u. seen u k + 1) e ∙ ap (λ x. x + 1) (seen-first ps n k)) in
    ap (λ x. pt k x) count ∙ ap (λ x. pt x (before x ps n + 1)) at

-- the points so far, with one more
pub points_more : (t : Tally) (ps : List Place) (n : ℕ) (p : Place) (k : PlaceKind) (i : ℕ) (points more : List Pt) → n < length ps → p ≡ get_or ps n p → k ≡ kind_of (get_or ps n p).act → t ≡ of_first ps n → i ≡ seen t k + 1 →
    points ≡ map (λ m. point_at ps m) (range_with_len 0 n) → more ≡ points ++ pt k i ∷ [] → more ≡ map (λ m. point_at ps m) (range_with_len 0 (n + 1))
points_more t ps n p k i points more l is same e number so_far pushed =
    pushed
    ∙ (ap (λ xs. xs ++ pt k i ∷ []) so_far
    ∙ (ap (λ x. map (λ m. point_at ps m) (range_with_len 0 n) ++ x ∷ []) (point_number t ps n p k i l is same e number)
    ∙ sym (map-range_with_len_more (λ m. point_at ps m) 0 n n (omega arith))))

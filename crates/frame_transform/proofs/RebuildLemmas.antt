-- The lines that rebuild, one place after another.
use Rattle.std.proofs.Common.{◌≡◌, ◌∙◌, ℕ, zero, suc, ◌+◌, ◌<◌, List, [], ◌∷◌, ◌++◌, length, get_or, sym, ap, arith, add-one}
use Rattle.std.specs.Prelude.{Option}
use Rattle.std.specs.List.{flat_map, range_with_len}
use Rattle.std.proofs.lemmas.List.{flat_map_more}
use Rattle.c_tree.specs.declared.lifted.Lifted.{Lifted}
use Rattle.c_tree.specs.declared.place.Place.{Place}
use Rattle.c_tree.specs.Points.{nth, callee_in}
use Rattle.c_tree.proofs.PointLemmas.{place_of}
use Rattle.frame_transform.specs.TargetText.{rebuild_line}

range_more : (a n : ℕ) → range_with_len a (n + 1) ≡ range_with_len a n ++ (a + n) ∷ []
range_more a zero = ap (λ k. k ∷ []) (omega arith)
range_more a (suc n) = rw add-one (ap (λ ks. a ∷ ks) (ap (λ m. range_with_len (a + 1) m) (sym (add-one n)) ∙ (range_more (a + 1) n ∙ ap (λ k. range_with_len (a + 1) n ++ k ∷ []) (omega arith))))

-- the line of a place of a row
abbrev line_at : Lifted → List Place → ℕ → List ℕ
line_at p row n = rebuild_line p n (callee_in (nth row n).act)

-- one place more
pub rebuild_more : (p : Lifted) (row : List Place) (n : ℕ) (x : Place) (f : Option ℕ) (o o1 o2 : List ℕ) → n < length row → x ≡ get_or row n x → f ≡ callee_in (get_or row n x).act
    → o1 ≡ o ++ flat_map (λ i. rebuild_line p i (callee_in (nth row i).act)) (range_with_len 0 n) → o2 ≡ o1 ++ rebuild_line p n f
    → o2 ≡ o ++ flat_map (λ i. rebuild_line p i (callee_in (nth row i).act)) (range_with_len 0 (n + 1))
rebuild_more p row n x f o o1 o2 l is same so_far more =
    let called : f ≡ callee_in (nth row n).act = same ∙ ap (λ q. callee_in q.act) (sym is ∙ sym (place_of row n x l is)) in
    more
    ∙ (ap (λ z. z ++ rebuild_line p n f) so_far
    ∙ (ap (λ g. (o ++ flat_map (line_at p row) (range_with_len 0 n)) ++ rebuild_line p n g) called
    ∙ (flat_map_more (line_at p row) o (range_with_len 0 n) n
    ∙ ap (λ ks. o ++ flat_map (line_at p row) ks) (ap (λ k. range_with_len 0 n ++ k ∷ []) (omega arith) ∙ sym (range_more 0 n)))))

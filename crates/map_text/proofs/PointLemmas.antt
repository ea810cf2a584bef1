-- The point of a place, read from a row.
use Rattle.std.proofs.Common.{◌≡◌, ◌∙◌, ◌⊎◌, ℕ, zero, suc, ◌<◌, ◌≤◌, List, [], ◌∷◌, ◌++◌, length, get_or, refl, sym, ap, inl, inr, arith}
use Rattle.std.specs.Prelude.{unwrap_or}
use Rattle.std.proofs.Math.ListN.{get_or-map}
use Rattle.std.proofs.lemmas.Bool.{cases_lt}
use Rattle.std.proofs.lemmas.List.{get_or_past, get_or_default, length-map}
use Rattle.std.proofs.lemmas.List.FromFn.{length-map-range_with_len, get_or-map-range_with_len}
use Rattle.std.proofs.lemmas.Option.{slice_get_past}
use Rattle.c_tree.specs.declared.lifted.Lifted.{Lifted}
use Rattle.c_tree.specs.declared.mapping.Pt.{Pt}
use Rattle.c_tree.specs.declared.place.Act.TheVariants.{Finish}
use Rattle.c_tree.specs.declared.place.Follow.TheVariants.{Leaves}
use Rattle.c_tree.specs.declared.place.Place.{Place}
use Rattle.c_tree.specs.declared.place.PlaceKind.TheVariants as kind
use Rattle.c_tree.specs.Layout.{nowhere, place, places}
use Rattle.c_tree.specs.Points.{kind_of, kind_at, number_of, point, point_of}
use Rattle.c_tree.specs.Step.{no_function, function_of}
use Rattle.c_tree.specs.Canonical.{point_text}
use Rattle.c_tree.proofs.LayoutLemmas.{layout_of-nil}
use Rattle.map_text.specs.Points.{point_at, points_of, point_in, rows_of, entry, no_point}

no_text : (ps : List Place) (n : ℕ) → kind_at ps n ≡ kind.Plain → point_text (point_at ps n) ≡ []
no_text ps n e = ap (λ k. unwrap_or (point k (number_of ps n)) []) e

-- a row tells the text of each place
pub row_text : (ps : List Place) (n : ℕ) → point_text (point_in (points_of ps) n) ≡ point_text (point_at ps n)
row_text ps n = pick (cases_lt n (length ps)) where
  pick : (n < length ps) ⊎ (length ps ≤ n) → point_text (point_in (points_of ps) n) ≡ point_text (point_at ps n)
  pick (inl h) = ap point_text (get_or-map-range_with_len (λ m. point_at ps m) 0 (length ps) n n no_point h (omega arith))
  pick (inr h) =
      ap point_text (get_or_past (points_of ps) n no_point (omega (arith, h, length-map-range_with_len (λ m. point_at ps m) 0 (length ps))))
      ∙ sym (no_text ps n (ap (λ o. kind_of (nowhere o).act) (slice_get_past ps n h)))

-- what follows an entry at once is the implied return
last : (front : List Place) (n : ℕ) → front ≡ [] → kind_at (front ++ place Finish Leaves ∷ []) n ≡ kind.Plain
last front n e = ap (λ xs. kind_at (xs ++ place Finish Leaves ∷ []) n) e ∙ one n where
  one : (n : ℕ) → kind_at (place Finish Leaves ∷ []) n ≡ kind.Plain
  one zero = refl
  one (suc n) = refl

-- a function that is not there has an entry alone
pub absent_text : (n : ℕ) → point_text (point_in (entry ∷ []) n) ≡ point_text (point_of no_function n)
absent_text zero = refl
absent_text (suc n) = sym (no_text (places no_function) (suc n) (last _ n (layout_of-nil _ _ _)))

length-rows : (p : Lifted) → length (rows_of p) ≡ length p.functions
length-rows p = length-map p.functions (λ x. points_of (places x))

-- a row of the program tells the text of each place of its function
pub row_of_text : (p q : Lifted) (rows : List (List Pt)) (row : List Pt) (f n : ℕ) → p ≡ q → rows ≡ rows_of p → f < length rows → row ≡ get_or rows f row →
    point_text (point_in row n) ≡ point_text (point_of (function_of q f) n)
row_of_text p q rows row f n same all lt is =
    let of_it : row ≡ points_of (places (function_of p f)) =
    is ∙ (get_or_default rows f row (points_of (places no_function)) lt
    ∙ (ap (λ xs. get_or xs f (points_of (places no_function))) all ∙ get_or-map (λ x. points_of (places x)) p.functions f no_function)) in
    ap (λ xs. point_text (point_in xs n)) of_it ∙ (row_text (places (function_of p f)) n ∙ ap (λ x. point_text (point_of (function_of x f) n)) same)

-- where there is no row there is no function
pub no_row_text : (p q : Lifted) (rows : List (List Pt)) (f n : ℕ) → p ≡ q → rows ≡ rows_of p → length rows ≤ f →
    point_text (point_in (entry ∷ []) n) ≡ point_text (point_of (function_of q f) n)
no_row_text p q rows f n same all le =
    let none : function_of p f ≡ no_function = get_or_past p.functions f no_function (omega (arith, le, ap length all, length-rows p)) in
    absent_text n ∙ (ap (λ x. point_text (point_of x n)) (sym none) ∙ ap (λ x. point_text (point_of (function_of x f) n)) same)

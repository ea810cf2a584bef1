-- Two blocks compared one statement after another.
use Rattle.std.proofs.Common.{◌≡◌, ◌≢◌, ◌∙◌, ℕ, suc, ◌+◌, ◌<◌, ◌≤◌, Bool, true, false, List, [], ◌∷◌, length, get_or, drop, refl, sym, ap, arith, add-one, drop-cons}
use Rattle.std.proofs.lemmas.List.{drop_all}
use Rattle.std.specs.Prelude.{◌&&◌}
use Rattle.c_tree.specs.declared.lifted.LStmt.{LStmt}
use Rattle.c_tree.specs.Compute.{literals}
use Rattle.c_tree.specs.Link.{Link}
use Rattle.c_tree.specs.Same.{same_stmt, same_body}

none-same : (k : Link) → same_body k [] [] ≡ true
unfolding literals
none-same k = refl

fewer-differ : (k : Link) (y : LStmt) (ys : List LStmt) → same_body k [] (y ∷ ys) ≡ false
unfolding literals
fewer-differ k y ys = refl

more-differ : (k : Link) (x : LStmt) (xs : List LStmt) → same_body k (x ∷ xs) [] ≡ false
unfolding literals
more-differ k x xs = refl

both-same : (k : Link) (x y : LStmt) (xs ys : List LStmt) → same_body k (x ∷ xs) (y ∷ ys) ≡ same_stmt k x y && same_body k xs ys
unfolding literals
both-same k x y xs ys = refl

and-false : (b : Bool) → b && false ≡ false
and-false true = refl
and-false false = refl

-- blocks of other lengths differ
pub other-lengths : (k : Link) (xs ys : List LStmt) → length xs ≢ length ys → same_body k xs ys ≡ false
other-lengths k [] [] n = absurd (n refl)
other-lengths k [] (y ∷ ys) n = fewer-differ k y ys
other-lengths k (x ∷ xs) [] n = more-differ k x xs
other-lengths k (x ∷ xs) (y ∷ ys) n =
    both-same k x y xs ys ∙ ap (λ b. same_stmt k x y && b) (other-lengths k xs ys (λ e. n (ap suc e))) ∙ and-false (same_stmt k x y)

-- from an index on: the two at the index, and those behind it
pub bodies-from : (k : Link) (xs ys : List LStmt) (i : ℕ) (d e : LStmt) → i < length xs → i < length ys
    → same_body k (drop i xs) (drop i ys) ≡ same_stmt k (get_or xs i d) (get_or ys i e) && same_body k (drop (i + 1) xs) (drop (i + 1) ys)
bodies-from k xs ys i d e lx ly =
    rw (add-one i) (ap (λ r. same_body k r (drop i ys)) (drop-cons xs i d lx) ∙ ap (λ r. same_body k (get_or xs i d ∷ drop (suc i) xs) r) (drop-cons ys i e ly)
    ∙ both-same k (get_or xs i d) (get_or ys i e) (drop (suc i) xs) (drop (suc i) ys))

-- nothing is left
pub none-left : (k : Link) (xs ys : List LStmt) (i : ℕ) → length xs ≤ i → length ys ≤ i → same_body k (drop i xs) (drop i ys) ≡ true
none-left k xs ys i lx ly = ap (λ r. same_body k r (drop i ys)) (drop_all i xs lx) ∙ ap (λ r. same_body k [] r) (drop_all i ys ly) ∙ none-same k

-- the statements at an index are the same, or not
at-index : (k : Link) (xs ys : List LStmt) (i : ℕ) (d e x y : LStmt) (b : Bool) → i < length xs → i < length ys → x ≡ get_or xs i d → y ≡ get_or ys i e
    → b ≡ same_stmt k x y → same_body k xs ys ≡ same_body k (drop i xs) (drop i ys) → same_body k xs ys ≡ b && same_body k (drop (i + 1) xs) (drop (i + 1) ys)
at-index k xs ys i d e x y b lx ly is_x is_y is so =
    so ∙ bodies-from k xs ys i d e lx ly
    ∙ ap (λ z. same_stmt k z (get_or ys i e) && same_body k (drop (i + 1) xs) (drop (i + 1) ys)) (sym is_x)
    ∙ ap (λ z. same_stmt k x z && same_body k (drop (i + 1) xs) (drop (i + 1) ys)) (sym is_y)
    ∙ ap (λ z. z && same_body k (drop (i + 1) xs) (drop (i + 1) ys)) (sym is)

false-and : (b : Bool) → false && b ≡ false
false-and b = refl

true-and : (b : Bool) → true && b ≡ b
true-and b = refl

pub stops-here : (k : Link) (xs ys : List LStmt) (i : ℕ) (d e x y : LStmt) (b : Bool) → i < length xs → i < length ys → x ≡ get_or xs i d → y ≡ get_or ys i e
    → b ≡ same_stmt k x y → same_body k xs ys ≡ same_body k (drop i xs) (drop i ys) → b ≡ false → false ≡ same_body k xs ys
stops-here k xs ys i d e x y b lx ly is_x is_y is so other =
    sym (at-index k xs ys i d e x y b lx ly is_x is_y is so ∙ ap (λ z. z && same_body k (drop (i + 1) xs) (drop (i + 1) ys)) other ∙ false-and (same_body k (drop (i + 1) xs) (drop (i + 1) ys)))

pub goes-on : (k : Link) (xs ys : List LStmt) (i : ℕ) (d e x y : LStmt) (b : Bool) → i < length xs → i < length ys → x ≡ get_or xs i d → y ≡ get_or ys i e
    → b ≡ same_stmt k x y → same_body k xs ys ≡ same_body k (drop i xs) (drop i ys) → b ≡ true → same_body k xs ys ≡ same_body k (drop (i + 1) xs) (drop (i + 1) ys)
goes-on k xs ys i d e x y b lx ly is_x is_y is so same =
    at-index k xs ys i d e x y b lx ly is_x is_y is so ∙ ap (λ z. z && same_body k (drop (i + 1) xs) (drop (i + 1) ys)) same ∙ true-and (same_body k (drop (i + 1) xs) (drop (i + 1) ys))

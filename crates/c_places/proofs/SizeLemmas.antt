-- The size of a block as it is walked through.
use Rattle.std.proofs.Common.{◌≡◌, ℕ, suc, ◌+◌, ◌<◌, ◌≤◌, List, ◌∷◌, length, get_or, drop, sym, ap, ◌∙◌, drop-cons, add-one}
use Rattle.std.proofs.lemmas.List.{drop_all}
use Rattle.c_tree.specs.declared.lifted.LStmt.{LStmt}
use Rattle.c_tree.specs.Layout.{count, size_of}
use Rattle.c_tree.proofs.LayoutLemmas.{size_of-nil, size_of-cons}

pub size_of-drop : (xs : List LStmt) (i : ℕ) (s : LStmt) → i < length xs → s ≡ get_or xs i s → size_of (drop i xs) ≡ count s + size_of (drop (i + 1) xs)
size_of-drop xs i s h is =
    rw (add-one i) (ap size_of (drop-cons xs i s h ∙ ap (λ x. x ∷ drop (suc i) xs) (sym is)) ∙ size_of-cons s (drop (suc i) xs))

pub size_of-end : (xs : List LStmt) (i : ℕ) → length xs ≤ i → size_of (drop i xs) ≡ 0
size_of-end xs i h = ap size_of (drop_all i xs h) ∙ size_of-nil

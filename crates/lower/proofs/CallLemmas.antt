-- The rebuilding parts of calls, one place after another.
use Rattle.std.proofs.Common.{◌≡◌, ℕ, zero, suc, ◌+◌, ◌<◌, ◌≤◌, List, [], ◌∷◌, ◌++◌, length, get_or, min, drop, refl, sym, ap, ◌∙◌, append_assoc, drop-cons, add-one, arith}
use Rattle.std.proofs.lemmas.List.{drop_all, append-nil}
use Rattle.c_tree.specs.declared.lifted.Lifted.{Lifted}
use Rattle.c_tree.specs.declared.place.Place.{Place}
use Rattle.target_code.specs.declared.code.CallSpot.{CallSpot}
use Rattle.target_code.specs.declared.instr.Instr.{Instr}
use Rattle.target_code.specs.Code.{Called, called_at, called_in, part, part_size, parts, spots}
use Rattle.lower.specs.Calls.{parts_size}

parts-append : (p : Lifted) (xs ys : List Called) → parts p (xs ++ ys) ≡ parts p xs ++ parts p ys
parts-append p [] ys = refl
parts-append p (c ∷ rest) ys = ap (λ z. part p c.callee c.after ++ z) (parts-append p rest ys) ∙ sym (append_assoc (part p c.callee c.after) (parts p rest) (parts p ys))

spots-append : (p : Lifted) (at : ℕ) (xs ys : List Called) → spots p at (xs ++ ys) ≡ spots p at xs ++ spots p (at + parts_size p xs) ys
spots-append p at [] ys = ap (λ k. spots p k ys) (omega arith)
spots-append p at (c ∷ rest) ys =
    ap (λ z. record { place = c.place; after = c.after; rebuild = at } ∷ z) (spots-append p (at + part_size p c.callee) rest ys
    ∙ ap (λ k. spots p (at + part_size p c.callee) rest ++ spots p k ys) (omega arith))

-- the calls from a place on
abbrev pub calls_from : ℕ → List Place → List ℕ → List Called
calls_from n row marks = called_in n (drop n row) (drop n marks)

calls-more : (row : List Place) (marks : List ℕ) (n : ℕ) (x : Place) (m : ℕ) → n < length row → n < length marks → x ≡ get_or row n x → m ≡ get_or marks n 0
    → calls_from n row marks ≡ called_at n m x.act ++ calls_from (n + 1) row marks
calls-more row marks n x m h1 h2 is1 is2 =
    let rows : drop n row ≡ x ∷ drop (n + 1) row = rw (add-one n) (drop-cons row n x h1 ∙ ap (λ z. z ∷ drop (suc n) row) (sym is1)) in
    let more : drop n marks ≡ m ∷ drop (n + 1) marks = rw (add-one n) (drop-cons marks n 0 h2 ∙ ap (λ z. z ∷ drop (suc n) marks) (sym is2)) in
    ap (λ z. called_in n z (drop n marks)) rows ∙ ap (called_in n (x ∷ drop (n + 1) row)) more

no-more : (n : ℕ) (row : List Place) → called_in n row [] ≡ []
no-more n [] = refl
no-more n (x ∷ rest) = refl

-- no call stands behind the last place or the last mark
ended : (row : List Place) (marks : List ℕ) (n k : ℕ) → min (length row) (length marks) ≤ n → called_in k (drop n row) (drop n marks) ≡ []
ended [] marks n k h = ap (λ z. called_in k z (drop n marks)) (drop_all n [] (omega arith))
ended (x ∷ rest) [] n k h = ap (called_in k (drop n (x ∷ rest))) (drop_all n [] (omega arith)) ∙ no-more k (drop n (x ∷ rest))
ended (x ∷ rest) (m ∷ more) zero k h = absurd (omega (arith, h))
ended (x ∷ rest) (m ∷ more) (suc n) k h = ended rest more n k (omega (arith, h))

-- the calls at one place, as it is read from the row
read : (row : List Place) (n k m : ℕ) (x : Place) → x ≡ get_or row n x → k ≡ n → called_at k m (get_or row n x).act ≡ called_at n m x.act
read row n k m x is same = ap (λ j. called_at j m (get_or row n x).act) same ∙ ap (λ y. called_at n m y.act) (sym is)

-- one place more
pub parts-more : (p : Lifted) (row : List Place) (marks : List ℕ) (n k m : ℕ) (x : Place) (o o1 o2 : List Instr)
    → n < length row → n < length marks → x ≡ get_or row n x → m ≡ get_or marks n 0 → k ≡ n
    → o1 ++ parts p (calls_from n row marks) ≡ o → o2 ≡ o1 ++ parts p (called_at k m (get_or row n x).act)
    → o2 ++ parts p (calls_from (n + 1) row marks) ≡ o
parts-more p row marks n k m x o o1 o2 h1 h2 is1 is2 same so_far more =
    let rest = calls_from (n + 1) row marks in
    ap (λ z. z ++ parts p rest) (more ∙ ap (λ z. o1 ++ parts p z) (read row n k m x is1 same))
    ∙ (append_assoc o1 (parts p (called_at n m x.act)) (parts p rest)
    ∙ (ap (λ z. o1 ++ z) (sym (parts-append p (called_at n m x.act) rest) ∙ ap (parts p) (sym (calls-more row marks n x m h1 h2 is1 is2)))
    ∙ so_far))

pub spots-more : (p : Lifted) (row : List Place) (marks : List ℕ) (n k m : ℕ) (x : Place) (from behind : ℕ) (o o1 o2 : List CallSpot)
    → n < length row → n < length marks → x ≡ get_or row n x → m ≡ get_or marks n 0 → k ≡ n → behind ≡ from + parts_size p (called_at k m (get_or row n x).act)
    → o1 ++ spots p from (calls_from n row marks) ≡ o → o2 ≡ o1 ++ spots p from (called_at k m (get_or row n x).act)
    → o2 ++ spots p behind (calls_from (n + 1) row marks) ≡ o
spots-more p row marks n k m x from behind o o1 o2 h1 h2 is1 is2 same moved so_far more =
    let rest = calls_from (n + 1) row marks in
    let here : called_at k m (get_or row n x).act ≡ called_at n m x.act = read row n k m x is1 same in
    ap (λ z. z ++ spots p behind rest) (more ∙ ap (λ z. o1 ++ spots p from z) here)
    ∙ (append_assoc o1 (spots p from (called_at n m x.act)) (spots p behind rest)
    ∙ (ap (λ j. o1 ++ (spots p from (called_at n m x.act) ++ spots p j rest)) (moved ∙ ap (λ z. from + parts_size p z) here)
    ∙ (ap (λ z. o1 ++ z) (sym (spots-append p from (called_at n m x.act) rest) ∙ ap (spots p from) (sym (calls-more row marks n x m h1 h2 is1 is2)))
    ∙ so_far)))

pub parts-all : (p : Lifted) (row : List Place) (marks : List ℕ) (n : ℕ) (o o1 : List Instr) → min (length row) (length marks) ≤ n
    → o1 ++ parts p (calls_from n row marks) ≡ o → o1 ≡ o
parts-all p row marks n o o1 h so_far =
    sym (append-nil o1) ∙ (ap (λ z. o1 ++ parts p z) (sym (ended row marks n n h)) ∙ so_far)

pub spots-all : (p : Lifted) (row : List Place) (marks : List ℕ) (n from : ℕ) (o o1 : List CallSpot) → min (length row) (length marks) ≤ n
    → o1 ++ spots p from (calls_from n row marks) ≡ o → o1 ≡ o
spots-all p row marks n from o o1 h so_far =
    sym (append-nil o1) ∙ (ap (λ z. o1 ++ spots p from z) (sym (ended row marks n n h)) ∙ so_far)

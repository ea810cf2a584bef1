-- The places of parts, put one after another.
use Rattle.std.proofs.Common.{◌≡◌, ℕ, suc, ◌+◌, ◌-◌, ◌<◌, ◌≤◌, List, [], ◌∷◌, ◌++◌, length, get_or, take, drop, refl, sym, ap, ◌∙◌, append_assoc, drop-cons, add-one}
use Rattle.std.proofs.Math.Seq.{take-length}
use Rattle.std.proofs.lemmas.List.{drop_all, append-nil, length-drop}
use Rattle.c_tree.specs.declared.lifted.LExpr.{LExpr}
use Rattle.c_tree.specs.declared.lifted.LStmt.{LStmt}
use Rattle.c_tree.specs.declared.lifted.LStmt.TheVariants as s
use Rattle.c_tree.specs.declared.place.Act.TheVariants.{Test, EndLoop}
use Rattle.c_tree.specs.declared.place.Follow.TheVariants.{One, Two}
use Rattle.c_tree.specs.declared.place.Exits.{Exits}
use Rattle.c_tree.specs.declared.place.Place.{Place}
use Rattle.c_tree.specs.Layout.{place, count, size_of, start_of, layout, layout_of}
use Rattle.c_tree.proofs.LayoutLemmas.{layout-If, layout-Loop, layout_of-nil, layout_of-cons, within}

-- two parts behind a first place
three : (out : List Place) (p : Place) (a b : List Place) → ((out ++ p ∷ []) ++ a) ++ b ≡ out ++ (p ∷ (a ++ b))
three out p a b = append_assoc (out ++ p ∷ []) a b ∙ append_assoc out (p ∷ []) (a ++ b)

pub laid-If : (x : Exits) (n next size first second : ℕ) (e : LExpr) (a b : List LStmt) (o o1 o2 o3 : List Place)
    → size ≡ n + 1 + size_of a → first ≡ start_of x (n + 1) next a → second ≡ start_of x size next b
    → o1 ≡ o ++ place (Test e) (Two first second) ∷ [] → o2 ≡ o1 ++ layout_of x (n + 1) next a → o3 ≡ o2 ++ layout_of x size next b
    → o3 ≡ o ++ layout x n next (s.If e a b)
laid-If x n next size first second e a b o o1 o2 o3 is f g e1 e2 e3 =
    e3 ∙ (ap (λ z. z ++ layout_of x size next b) (e2 ∙ ap (λ z. z ++ layout_of x (n + 1) next a) e1)
    ∙ (three o (place (Test e) (Two first second)) (layout_of x (n + 1) next a) (layout_of x size next b)
    ∙ ap (λ z. o ++ z) (ap (λ p. place (Test e) (Two p second) ∷ (layout_of x (n + 1) next a ++ layout_of x size next b)) f
    ∙ (ap (λ p. place (Test e) (Two (start_of x (n + 1) next a) p) ∷ (layout_of x (n + 1) next a ++ layout_of x size next b)) g
    ∙ (ap (λ k. place (Test e) (Two (start_of x (n + 1) next a) (start_of x k next b)) ∷ (layout_of x (n + 1) next a ++ layout_of x k next b)) is
    ∙ sym (layout-If x n next e a b))))))

five : (out c : List Place) (p : Place) (b t : List Place) (q : Place) → ((((out ++ c) ++ p ∷ []) ++ b) ++ t) ++ q ∷ [] ≡ out ++ (c ++ (p ∷ (b ++ (t ++ q ∷ []))))
five out c p b t q =
    append_assoc (((out ++ c) ++ p ∷ []) ++ b) t (q ∷ [])
    ∙ (append_assoc ((out ++ c) ++ p ∷ []) b (t ++ q ∷ [])
    ∙ (append_assoc (out ++ c) (p ∷ []) (b ++ (t ++ q ∷ []))
    ∙ append_assoc out c (p ∷ (b ++ (t ++ q ∷ [])))))

pub laid-Loop : (x : Exits) (n next : ℕ) (c : List LStmt) (e : LExpr) (b t : List LStmt) (test step end again back inside : ℕ) (o o1 o2 o3 o4 o5 : List Place)
    → test ≡ n + size_of c → step ≡ test + 1 + size_of b → end ≡ step + size_of t
    → again ≡ start_of x step end t → back ≡ start_of x n test c → inside ≡ start_of (within next again) (test + 1) again b
    → o1 ≡ o ++ layout_of x n test c → o2 ≡ o1 ++ place (Test e) (Two inside next) ∷ [] → o3 ≡ o2 ++ layout_of (within next again) (test + 1) again b
    → o4 ≡ o3 ++ layout_of x step end t → o5 ≡ o4 ++ place EndLoop (One back) ∷ []
    → o5 ≡ o ++ layout x n next (s.Loop c e b t)
laid-Loop x n next c e b t test step end again back inside o o1 o2 o3 o4 o5 i1 i2 i3 i4 i5 i6 e1 e2 e3 e4 e5 =
    rw (e5, e4, e3, e2, e1, i6, i5, i4, i3, i2, i1) (five o _ _ _ _ _ ∙ ap (λ z. o ++ z) (sym (layout-Loop x n next c e b t)))

-- one statement more of a block
pub laid-more : (x : Exits) (n next : ℕ) (block : List LStmt) (i : ℕ) (t : LStmt) (at after follow : ℕ) (o o1 o2 : List Place)
    → i < length block → t ≡ get_or block i t → after ≡ at + count t → follow ≡ start_of x after next (drop (i + 1) block)
    → o1 ++ layout_of x at next (drop i block) ≡ o ++ layout_of x n next block → o2 ≡ o1 ++ layout x at follow t
    → o2 ++ layout_of x after next (drop (i + 1) block) ≡ o ++ layout_of x n next block
laid-more x n next block i t at after follow o o1 o2 h is size f so_far more =
    let front : drop i block ≡ t ∷ drop (i + 1) block = rw (add-one i) (drop-cons block i t h ∙ ap (λ z. z ∷ drop (suc i) block) (sym is)) in
    let whole : layout_of x at next (drop i block) ≡ layout x at follow t ++ layout_of x after next (drop (i + 1) block) =
    ap (layout_of x at next) front ∙ (layout_of-cons x at next t (drop (i + 1) block) ∙ rw (sym size) (rw (sym f) refl)) in
    ap (λ z. z ++ layout_of x after next (drop (i + 1) block)) more ∙ (append_assoc o1 _ _ ∙ (ap (λ z. o1 ++ z) (sym whole) ∙ so_far))

pub laid-all : (x : Exits) (n next at : ℕ) (block : List LStmt) (i : ℕ) (o o1 : List Place) → length block ≤ i
    → o1 ++ layout_of x at next (drop i block) ≡ o ++ layout_of x n next block → o1 ≡ o ++ layout_of x n next block
laid-all x n next at block i o o1 h so_far =
    sym (append-nil o1) ∙ (ap (λ z. o1 ++ z) (sym (layout_of-nil x at next) ∙ ap (layout_of x at next) (sym (drop_all i block h))) ∙ so_far)

-- what stands behind one item
pub rest-of : {A : Type 0} (xs : List A) (i : ℕ) → take (length xs - (i + 1)) (drop (i + 1) xs) ≡ drop (i + 1) xs
rest-of xs i = ap (λ k. take k (drop (i + 1) xs)) (sym (length-drop (i + 1) xs)) ∙ take-length (drop (i + 1) xs)

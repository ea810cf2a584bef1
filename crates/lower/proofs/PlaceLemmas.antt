-- The marks of statements from those of their parts, put one after another.
use Rattle.std.proofs.Common.{◌≡◌, ℕ, suc, ◌+◌, ◌<◌, ◌≤◌, List, [], ◌∷◌, ◌++◌, length, get_or, drop, refl, sym, ap, ◌∙◌, append_assoc, drop-cons, add-one}
use Rattle.std.proofs.lemmas.List.{drop_all, append-nil}
use Rattle.c_tree.specs.declared.lifted.LExpr.{LExpr}
use Rattle.c_tree.specs.declared.lifted.LStmt.{LStmt}
use Rattle.c_tree.specs.declared.lifted.LStmt.TheVariants as s
use Rattle.c_tree.specs.declared.place.Act.TheVariants.{Test}
use Rattle.target_code.specs.Code.{act_size, stmt_size, stmt_marks, block_size, block_marks, over_block}
use Rattle.target_code.proofs.MarkLemmas.{stmt_marks-If, stmt_marks-Loop, stmt_marks-Break, stmt_marks-Continue, block_marks-nil, block_marks-cons}

three : (o : List ℕ) (m : ℕ) (a b : List ℕ) → ((o ++ m ∷ []) ++ a) ++ b ≡ o ++ (m ∷ (a ++ b))
three o m a b = append_assoc (o ++ m ∷ []) a b ∙ append_assoc o (m ∷ []) (a ++ b)

pub mark-If : (at : ℕ) (e : LExpr) (a b : List LStmt) (first second : ℕ) (o o1 o2 o3 : List ℕ)
    → first ≡ at + act_size (Test e) + 1 → second ≡ first + block_size a + over_block b
    → o1 ≡ o ++ at ∷ [] → o2 ≡ o1 ++ block_marks first a → o3 ≡ o2 ++ block_marks second b
    → o3 ≡ o ++ stmt_marks at (s.If e a b)
mark-If at e a b first second o o1 o2 o3 i1 i2 e1 e2 e3 =
    rw (e3, e2, e1, i2, i1) (three o _ _ _ ∙ ap (λ z. o ++ z) (sym (stmt_marks-If at e a b)))

five : (o c : List ℕ) (m : ℕ) (b d : List ℕ) (k : ℕ) → ((((o ++ c) ++ m ∷ []) ++ b) ++ d) ++ k ∷ [] ≡ o ++ (c ++ (m ∷ (b ++ (d ++ k ∷ []))))
five o c m b d k =
    append_assoc (((o ++ c) ++ m ∷ []) ++ b) d (k ∷ [])
    ∙ (append_assoc ((o ++ c) ++ m ∷ []) b (d ++ k ∷ [])
    ∙ (append_assoc (o ++ c) (m ∷ []) (b ++ (d ++ k ∷ []))
    ∙ append_assoc o c (m ∷ (b ++ (d ++ k ∷ [])))))

pub mark-Loop : (at : ℕ) (c : List LStmt) (e : LExpr) (b d : List LStmt) (test body step end : ℕ) (o o1 o2 o3 o4 o5 : List ℕ)
    → test ≡ at + block_size c → body ≡ test + act_size (Test e) + 1 → step ≡ body + block_size b → end ≡ step + block_size d
    → o1 ≡ o ++ block_marks at c → o2 ≡ o1 ++ test ∷ [] → o3 ≡ o2 ++ block_marks body b → o4 ≡ o3 ++ block_marks step d → o5 ≡ o4 ++ end ∷ []
    → o5 ≡ o ++ stmt_marks at (s.Loop c e b d)
mark-Loop at c e b d test body step end o o1 o2 o3 o4 o5 i1 i2 i3 i4 e1 e2 e3 e4 e5 =
    rw (e5, e4, e3, e2, e1, i4, i3, i2, i1) (five o _ _ _ _ _ ∙ ap (λ z. o ++ z) (sym (stmt_marks-Loop at c e b d)))

-- no place, no mark
pub mark-Break : (at : ℕ) (o : List ℕ) → o ≡ o ++ stmt_marks at s.Break
mark-Break at o = sym (append-nil o) ∙ ap (λ z. o ++ z) (sym (stmt_marks-Break at))

pub mark-Continue : (at : ℕ) (o : List ℕ) → o ≡ o ++ stmt_marks at s.Continue
mark-Continue at o = sym (append-nil o) ∙ ap (λ z. o ++ z) (sym (stmt_marks-Continue at))

-- one statement more of a block
pub mark-more : (at : ℕ) (block : List LStmt) (i : ℕ) (y : LStmt) (from from2 : ℕ) (o o1 o2 : List ℕ)
    → i < length block → y ≡ get_or block i y → from2 ≡ from + stmt_size y
    → o1 ++ block_marks from (drop i block) ≡ o ++ block_marks at block → o2 ≡ o1 ++ stmt_marks from y
    → o2 ++ block_marks from2 (drop (i + 1) block) ≡ o ++ block_marks at block
mark-more at block i y from from2 o o1 o2 h is moved so_far more =
    let front : drop i block ≡ y ∷ drop (i + 1) block = rw (add-one i) (drop-cons block i y h ∙ ap (λ z. z ∷ drop (suc i) block) (sym is)) in
    let whole : block_marks from (drop i block) ≡ stmt_marks from y ++ block_marks from2 (drop (i + 1) block) =
    ap (block_marks from) front ∙ (block_marks-cons from y (drop (i + 1) block) ∙ rw moved refl) in
    ap (λ z. z ++ block_marks from2 (drop (i + 1) block)) more ∙ (append_assoc o1 _ _ ∙ (ap (λ z. o1 ++ z) (sym whole) ∙ so_far))

pub mark-all : (at : ℕ) (block : List LStmt) (i from : ℕ) (o o1 : List ℕ) → length block ≤ i
    → o1 ++ block_marks from (drop i block) ≡ o ++ block_marks at block → o1 ≡ o ++ block_marks at block
mark-all at block i from o o1 h so_far =
    sym (append-nil o1) ∙ (ap (λ z. o1 ++ z) (sym (block_marks-nil from) ∙ ap (block_marks from) (sym (drop_all i block h))) ∙ so_far)

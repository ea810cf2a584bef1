-- The instructions of statements from those of their parts, put one after another.
use Rattle.std.proofs.Common.{◌≡◌, ℕ, suc, ◌+◌, ◌<◌, ◌≤◌, List, [], ◌∷◌, ◌++◌, length, get_or, drop, refl, sym, ap, ◌∙◌, append_assoc, drop-cons, add-one}
use Rattle.std.proofs.lemmas.List.{drop_all, append-nil}
use Rattle.c_tree.specs.declared.lifted.LExpr.{LExpr}
use Rattle.c_tree.specs.declared.lifted.LStmt.{LStmt}
use Rattle.c_tree.specs.declared.lifted.LStmt.TheVariants as s
use Rattle.c_tree.specs.declared.place.Act.TheVariants.{Test}
use Rattle.c_tree.specs.declared.place.Exits.{Exits}
use Rattle.c_tree.specs.Layout.{count, size_of}
use Rattle.target_code.specs.declared.instr.Instr.{Instr}
use Rattle.target_code.specs.declared.instr.Instr.TheVariants as i
use Rattle.target_code.specs.Code.{act_code, act_size, stmt_code, stmt_size, block_code, block_size, over_block, jump_over_block}
use Rattle.target_code.proofs.CodeLemmas.{stmt_code-If, stmt_code-Loop, block_code-nil, block_code-cons, within}

five : (o a : List Instr) (z : Instr) (b c d : List Instr) → ((((o ++ a) ++ z ∷ []) ++ b) ++ c) ++ d ≡ o ++ (a ++ (z ∷ (b ++ (c ++ d))))
five o a z b c d =
    append_assoc (((o ++ a) ++ z ∷ []) ++ b) c d
    ∙ (append_assoc ((o ++ a) ++ z ∷ []) b (c ++ d)
    ∙ (append_assoc (o ++ a) (z ∷ []) (b ++ (c ++ d))
    ∙ append_assoc o a (z ∷ (b ++ (c ++ d)))))

pub put-If : (t : ℕ → ℕ) (x : Exits) (at n : ℕ) (e : LExpr) (a b : List LStmt) (first second end other : ℕ) (o o1 o2 o3 o4 o5 : List Instr)
    → first ≡ at + act_size (Test e) + 1 → second ≡ first + block_size a + over_block b → end ≡ second + block_size b → other ≡ n + 1 + size_of a
    → o1 ≡ o ++ act_code t at n (Test e) → o2 ≡ o1 ++ i.Jz second ∷ [] → o3 ≡ o2 ++ block_code t x first (n + 1) a
    → o4 ≡ o3 ++ jump_over_block b end → o5 ≡ o4 ++ block_code t x second other b
    → o5 ≡ o ++ stmt_code t x at n (s.If e a b)
put-If t x at n e a b first second end other o o1 o2 o3 o4 o5 i1 i2 i3 i4 e1 e2 e3 e4 e5 =
    rw (e5, e4, e3, e2, e1, i4, i3, i2, i1) (five o _ _ _ _ _ ∙ ap (λ z. o ++ z) (sym (stmt_code-If t x at n e a b)))

six : (o c a : List Instr) (z : Instr) (b d k : List Instr) → (((((o ++ c) ++ a) ++ z ∷ []) ++ b) ++ d) ++ k ≡ o ++ (c ++ (a ++ (z ∷ (b ++ (d ++ k)))))
six o c a z b d k =
    append_assoc ((((o ++ c) ++ a) ++ z ∷ []) ++ b) d k
    ∙ (append_assoc (((o ++ c) ++ a) ++ z ∷ []) b (d ++ k)
    ∙ (append_assoc ((o ++ c) ++ a) (z ∷ []) (b ++ (d ++ k))
    ∙ (append_assoc (o ++ c) a (z ∷ (b ++ (d ++ k)))
    ∙ append_assoc o c (a ++ (z ∷ (b ++ (d ++ k)))))))

pub put-Loop : (t : ℕ → ℕ) (x : Exits) (at n : ℕ) (c : List LStmt) (e : LExpr) (b d : List LStmt) (test body step end leave test_n body_n step_n end_n : ℕ) (o o1 o2 o3 o4 o5 o6 : List Instr)
    → test ≡ at + block_size c → body ≡ test + act_size (Test e) + 1 → step ≡ body + block_size b → end ≡ step + block_size d → leave ≡ end + 3
    → test_n ≡ n + size_of c → body_n ≡ test_n + 1 → step_n ≡ body_n + size_of b → end_n ≡ step_n + size_of d
    → o1 ≡ o ++ block_code t x at n c → o2 ≡ o1 ++ act_code t test test_n (Test e) → o3 ≡ o2 ++ i.Jz leave ∷ []
    → o4 ≡ o3 ++ block_code t (within leave step) body body_n b → o5 ≡ o4 ++ block_code t x step step_n d
    → o6 ≡ o5 ++ (i.Mark end_n ∷ i.Flag end_n ∷ i.Jump at ∷ [])
    → o6 ≡ o ++ stmt_code t x at n (s.Loop c e b d)
put-Loop t x at n c e b d test body step end leave test_n body_n step_n end_n o o1 o2 o3 o4 o5 o6 i1 i2 i3 i4 i5 i6 i7 i8 i9 e1 e2 e3 e4 e5 e6 =
    rw (e6, e5, e4, e3, e2, e1, i9, i8, i7, i6, i5, i4, i3, i2, i1) (six o _ _ _ _ _ _ ∙ ap (λ z. o ++ z) (sym (stmt_code-Loop t x at n c e b d)))

-- one statement more of a block
pub put-more : (t : ℕ → ℕ) (x : Exits) (at n : ℕ) (block : List LStmt) (i : ℕ) (y : LStmt) (from place from2 place2 : ℕ) (o o1 o2 : List Instr)
    → i < length block → y ≡ get_or block i y → from2 ≡ from + stmt_size y → place2 ≡ place + count y
    → o1 ++ block_code t x from place (drop i block) ≡ o ++ block_code t x at n block → o2 ≡ o1 ++ stmt_code t x from place y
    → o2 ++ block_code t x from2 place2 (drop (i + 1) block) ≡ o ++ block_code t x at n block
put-more t x at n block i y from place from2 place2 o o1 o2 h is moved went so_far more =
    let front : drop i block ≡ y ∷ drop (i + 1) block = rw (add-one i) (drop-cons block i y h ∙ ap (λ z. z ∷ drop (suc i) block) (sym is)) in
    let whole : block_code t x from place (drop i block) ≡ stmt_code t x from place y ++ block_code t x from2 place2 (drop (i + 1) block) =
    ap (block_code t x from place) front ∙ (block_code-cons t x from place y (drop (i + 1) block) ∙ rw (moved, went) refl) in
    ap (λ z. z ++ block_code t x from2 place2 (drop (i + 1) block)) more ∙ (append_assoc o1 _ _ ∙ (ap (λ z. o1 ++ z) (sym whole) ∙ so_far))

pub put-all : (t : ℕ → ℕ) (x : Exits) (at n : ℕ) (block : List LStmt) (i from place : ℕ) (o o1 : List Instr) → length block ≤ i
    → o1 ++ block_code t x from place (drop i block) ≡ o ++ block_code t x at n block → o1 ≡ o ++ block_code t x at n block
put-all t x at n block i from place o o1 h so_far =
    sym (append-nil o1) ∙ (ap (λ z. o1 ++ z) (sym (block_code-nil t x from place) ∙ ap (block_code t x from place) (sym (drop_all i block h))) ∙ so_far)

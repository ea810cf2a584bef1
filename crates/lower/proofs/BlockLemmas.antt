-- The instructions of blocks as they are walked through.
use Rattle.std.proofs.Common.{◌≡◌, ℕ, zero, suc, ◌+◌, ◌<◌, ◌≤◌, List, [], ◌∷◌, ◌++◌, length, get_or, drop, sym, ap, ◌∙◌, drop-cons, add-one, arith}
use Rattle.std.proofs.lemmas.List.{drop_all, append-nil}
use Rattle.c_tree.specs.declared.lifted.LStmt.{LStmt}
use Rattle.c_tree.specs.Layout.{count, size_of}
use Rattle.c_tree.proofs.LayoutLemmas.{count_rules, size_of-nil, size_of-cons}
use Rattle.target_code.specs.Code.{stmt_size, block_size, over_block}
use Rattle.target_code.specs.Code.{jump_over_block}
use Rattle.target_code.specs.declared.instr.Instr.{Instr}
use Rattle.target_code.specs.declared.instr.Instr.TheVariants as i
use Rattle.target_code.proofs.CodeLemmas.{stmt_code_rules, jump_over_block-nil, jump_over_block-cons}
use Rattle.target_code.proofs.MarkLemmas.{mark_rules as marks_of_form}
use Rattle.target_code.proofs.SizeLemmas.{stmt_size_rules, block_size-nil, block_size-cons, over_block-nil, over_block-cons}

-- how many instructions and places each form of statement has
pub ruleset size_rules = (stmt_size_rules, count_rules)

-- and with them its code
pub ruleset code_rules = (stmt_code_rules, stmt_size_rules, count_rules)

-- and with them its marks
pub ruleset mark_rules = (marks_of_form, stmt_size_rules, count_rules)

pub no_over : (no : List LStmt) → length no ≡ 0 → over_block no ≡ 0
no_over [] h = over_block-nil
no_over (x ∷ rest) h = absurd (omega (arith, h))

pub some_over : (no : List LStmt) → 0 < length no → over_block no ≡ 1
some_over [] h = absurd (omega (arith, h))
some_over (x ∷ rest) h = over_block-cons x rest

pub ruleset over_rules = (no_over, some_over)

pub no_jump : (no : List LStmt) (to : ℕ) (o : List Instr) → length no ≡ 0 → o ≡ o ++ jump_over_block no to
no_jump [] to o h = sym (append-nil o) ∙ ap (λ z. o ++ z) (sym (jump_over_block-nil to))
no_jump (x ∷ rest) to o h = absurd (omega (arith, h))

pub some_jump : (no : List LStmt) (to : ℕ) → 0 < length no → jump_over_block no to ≡ i.Jump to ∷ []
some_jump [] to h = absurd (omega (arith, h))
some_jump (x ∷ rest) to h = jump_over_block-cons x rest to

pub ruleset jump_rules = (no_jump, some_jump)

pub block_size-drop : (xs : List LStmt) (i : ℕ) (x : LStmt) → i < length xs → x ≡ get_or xs i x → block_size (drop i xs) ≡ stmt_size x + block_size (drop (i + 1) xs)
block_size-drop xs i x h is =
    rw (add-one i) (ap block_size (drop-cons xs i x h ∙ ap (λ y. y ∷ drop (suc i) xs) (sym is)) ∙ block_size-cons x (drop (suc i) xs))

pub block_size-end : (xs : List LStmt) (i : ℕ) → length xs ≤ i → block_size (drop i xs) ≡ 0
block_size-end xs i h = ap block_size (drop_all i xs h) ∙ block_size-nil

pub size_of-drop : (xs : List LStmt) (i : ℕ) (x : LStmt) → i < length xs → x ≡ get_or xs i x → size_of (drop i xs) ≡ count x + size_of (drop (i + 1) xs)
size_of-drop xs i x h is =
    rw (add-one i) (ap size_of (drop-cons xs i x h ∙ ap (λ y. y ∷ drop (suc i) xs) (sym is)) ∙ size_of-cons x (drop (suc i) xs))

pub size_of-end : (xs : List LStmt) (i : ℕ) → length xs ≤ i → size_of (drop i xs) ≡ 0
size_of-end xs i h = ap size_of (drop_all i xs h) ∙ size_of-nil

-- a block has at least the places of each of its statements
pub size_of-item : (xs : List LStmt) (i : ℕ) (x : LStmt) → i < length xs → x ≡ get_or xs i x → count x ≤ size_of xs
size_of-item [] i x h is = absurd (omega (arith, h))
size_of-item (y ∷ ys) zero x h is = omega (arith, size_of-cons y ys, ap count is)
size_of-item (y ∷ ys) (suc i) x h is = omega (arith, size_of-cons y ys, size_of-item ys i x (omega (arith, h)) is)

-- The lines of statements from those of their parts, one equation for each form.
use Rattle.std.proofs.Common.{◌≡◌, ℕ, suc, ◌+◌, ◌<◌, ◌≤◌, List, [], ◌∷◌, ◌++◌, length, get_or, drop, refl, sym, ap, ◌∙◌, append_assoc, drop-cons, add-one, arith}
use Rattle.std.specs.Prelude.{Option, Result, Ok, Err, OnOk, codes}
use Rattle.std.proofs.lemmas.List.{drop_all, append-nil}
use Rattle.c_tree.specs.declared.lifted.Dest.{Dest}
use Rattle.c_tree.specs.declared.lifted.LExpr.{LExpr}
use Rattle.c_tree.specs.declared.lifted.LStmt.{LStmt}
use Rattle.c_tree.specs.declared.lifted.LStmt.TheVariants as s
use Rattle.c_tree.specs.Compute.{literals}
use Rattle.c_tree.specs.Layout.{count, size_of}
use Rattle.c_tree.specs.MapExpr.{Reads}
use Rattle.frame_transform.specs.Line.{line, mark}
use Rattle.frame_transform.proofs.LineLemmas.{three_appended}
use Rattle.frame_transform.specs.Loops.{loops, loops_of}
use Rattle.frame_transform.specs.Statements.{simple_text, mark_before, mark_behind, simple_lines}
use Rattle.frame_transform.specs.Blocks.{if_text, leave_text, label_text, else_line, text, texts, text_of, else_line_of}
use Rattle.frame_transform.proofs.LoopLemmas.{extent_rules}

pub simple_lines_are : (r : Reads) (depth label n : ℕ) (x : LStmt) → simple_lines r depth label n x ≡ mark_before depth n x ++ (line depth (simple_text r label x) ++ mark_behind depth n x)
unfolding simple_lines
simple_lines_are r depth label n x = refl

pub simple_appended : {T E : Type 0} (res : Result T E) (r : Reads) (depth label n : ℕ) (x : LStmt) (o o1 o2 o3 : List ℕ)
    → o1 ≡ o ++ mark_before depth n x → o2 ≡ o1 ++ line depth (simple_text r label x) → OnOk res (o3 ≡ o2 ++ mark_behind depth n x)
    → OnOk res (o3 ≡ o ++ simple_lines r depth label n x)
simple_appended res r depth label n x o o1 o2 o3 e1 e2 e3 =
    rw (simple_lines_are r depth label n x) (three_appended res (mark_before depth n x) (line depth (simple_text r label x)) (mark_behind depth n x) o o1 o2 o3 e1 e2 e3)

pub no_else : (depth : ℕ) (no : List LStmt) (out : List ℕ) → length no ≡ 0 → out ≡ out ++ else_line_of depth no
unfolding literals else_line
no_else depth [] out h = sym (append-nil out)
no_else depth (x ∷ rest) out h = absurd (omega (arith, h))

pub some_else : (depth : ℕ) (no : List LStmt) → 0 < length no → else_line_of depth no ≡ line depth (codes "} else {")
unfolding literals else_line
some_else depth [] h = absurd (omega (arith, h))
some_else depth (x ∷ rest) h = refl

pub ruleset else_rules = (no_else, some_else)

pub text_of-nil : (r : Reads) (depth label n k : ℕ) → text_of r depth label n k [] ≡ []
unfolding literals text texts
text_of-nil r depth label n k = refl

pub text_of-cons : (r : Reads) (depth label n k : ℕ) (x : LStmt) (rest : List LStmt) →
    text_of r depth label n k (x ∷ rest) ≡ text r depth label n k x ++ text_of r depth label (n + count x) (k + loops x) rest
unfolding literals text texts
text_of-cons r depth label n k x rest = refl

pub text-Assign : (r : Reads) (depth label n k : ℕ) (to : Dest) (e : LExpr) → text r depth label n k (s.Assign to e) ≡ simple_lines r depth label n (s.Assign to e)
unfolding literals text texts
text-Assign r depth label n k to e = refl

pub text-New : (r : Reads) (depth label n k : ℕ) (slot owner : ℕ) → text r depth label n k (s.New slot owner) ≡ simple_lines r depth label n (s.New slot owner)
unfolding literals text texts
text-New r depth label n k slot owner = refl

pub text-Getc : (r : Reads) (depth label n k : ℕ) (slot : ℕ) → text r depth label n k (s.Getc slot) ≡ simple_lines r depth label n (s.Getc slot)
unfolding literals text texts
text-Getc r depth label n k slot = refl

pub text-Print : (r : Reads) (depth label n k : ℕ) (bytes : List ℕ) (args : List LExpr) → text r depth label n k (s.Print bytes args) ≡ simple_lines r depth label n (s.Print bytes args)
unfolding literals text texts
text-Print r depth label n k bytes args = refl

pub text-Free : (r : Reads) (depth label n k : ℕ) (e : LExpr) → text r depth label n k (s.Free e) ≡ simple_lines r depth label n (s.Free e)
unfolding literals text texts
text-Free r depth label n k e = refl

pub text-Call : (r : Reads) (depth label n k : ℕ) (to : Option ℕ) (f : ℕ) (args : List LExpr) → text r depth label n k (s.Call to f args) ≡ simple_lines r depth label n (s.Call to f args)
unfolding literals text texts
text-Call r depth label n k to f args = refl

pub text-Spawn : (r : Reads) (depth label n k : ℕ) (to : Dest) (f : ℕ) (e : LExpr) → text r depth label n k (s.Spawn to f e) ≡ simple_lines r depth label n (s.Spawn to f e)
unfolding literals text texts
text-Spawn r depth label n k to f e = refl

pub text-Join : (r : Reads) (depth label n k : ℕ) (e : LExpr) → text r depth label n k (s.Join e) ≡ simple_lines r depth label n (s.Join e)
unfolding literals text texts
text-Join r depth label n k e = refl

pub text-Lock : (r : Reads) (depth label n k : ℕ) (m : ℕ) → text r depth label n k (s.Lock m) ≡ simple_lines r depth label n (s.Lock m)
unfolding literals text texts
text-Lock r depth label n k m = refl

pub text-Unlock : (r : Reads) (depth label n k : ℕ) (m : ℕ) → text r depth label n k (s.Unlock m) ≡ simple_lines r depth label n (s.Unlock m)
unfolding literals text texts
text-Unlock r depth label n k m = refl

pub text-Return : (r : Reads) (depth label n k : ℕ) (value : Option LExpr) → text r depth label n k (s.Return value) ≡ simple_lines r depth label n (s.Return value)
unfolding literals text texts
text-Return r depth label n k value = refl

pub text-Break : (r : Reads) (depth label n k : ℕ) → text r depth label n k s.Break ≡ simple_lines r depth label n s.Break
unfolding literals text texts
text-Break r depth label n k = refl

pub text-Continue : (r : Reads) (depth label n k : ℕ) → text r depth label n k s.Continue ≡ simple_lines r depth label n s.Continue
unfolding literals text texts
text-Continue r depth label n k = refl

pub text-If : (r : Reads) (depth label n k : ℕ) (e : LExpr) (a b : List LStmt) → text r depth label n k (s.If e a b)
    ≡ line depth (if_text r e)
    ++ (text_of r (depth + 1) label (n + 1) k a
    ++ (else_line_of depth b
    ++ (text_of r (depth + 1) label (n + 1 + size_of a) (k + loops_of a) b
    ++ line depth (codes "}"))))
unfolding literals text texts else_line
text-If r depth label n k e a b = refl

pub text-Loop : (r : Reads) (depth label n k : ℕ) (c : List LStmt) (e : LExpr) (b t : List LStmt) → text r depth label n k (s.Loop c e b t)
    ≡ (let body = n + size_of c + 1 in
    let step = body + size_of b in
    let number = k + loops_of c + loops_of b + loops_of t + 1 in
    line depth (codes "for (;;) {")
    ++ (text_of r (depth + 1) label n k c
    ++ (line (depth + 1) (leave_text r e)
    ++ (text_of r (depth + 1) number body (k + loops_of c) b
    ++ (line (depth + 1) (label_text number)
    ++ (text_of r (depth + 1) label step (k + loops_of c + loops_of b) t
    ++ (line (depth + 1) (mark (step + size_of t))
    ++ line depth (codes "}"))))))))
unfolding literals text texts
text-Loop r depth label n k c e b t = refl

pub ruleset text_rules = (text-Assign, text-New, text-Getc, text-Print, text-Free, text-Call, text-Spawn, text-Join, text-Lock, text-Unlock, text-Return, text-Break, text-Continue)

-- and with them how many places and loops it has
pub ruleset statement_rules = (text_rules, extent_rules)

-- five parts, put one after another
five : (o a b c d e : List ℕ) → ((((o ++ a) ++ b) ++ c) ++ d) ++ e ≡ o ++ (a ++ (b ++ (c ++ (d ++ e))))
five o a b c d e = simp append_assoc

-- eight parts, put one after another
eight : (o a b c d e f g h : List ℕ) → (((((((o ++ a) ++ b) ++ c) ++ d) ++ e) ++ f) ++ g) ++ h ≡ o ++ (a ++ (b ++ (c ++ (d ++ (e ++ (f ++ (g ++ h)))))))
eight o a b c d e f g h = simp append_assoc

pub if_appended : {T E : Type 0} (res : Result T E) (r : Reads) (depth label n k : ℕ) (e : LExpr) (a b : List LStmt) (other before : ℕ) (o o1 o2 o3 o4 o5 : List ℕ)
    → other ≡ n + 1 + size_of a → before ≡ k + loops_of a
    → o1 ≡ o ++ line depth (if_text r e) → o2 ≡ o1 ++ text_of r (depth + 1) label (n + 1) k a → o3 ≡ o2 ++ else_line_of depth b
    → o4 ≡ o3 ++ text_of r (depth + 1) label other before b → OnOk res (o5 ≡ o4 ++ line depth (codes "}"))
    → OnOk res (o5 ≡ o ++ text r depth label n k (s.If e a b))
if_appended (Ok x) r depth label n k e a b other before o o1 o2 o3 o4 o5 i1 i2 e1 e2 e3 e4 e5 =
    rw (e5, e4, e3, e2, e1, i1, i2) (five o _ _ _ _ _ ∙ ap (λ z. o ++ z) (sym (text-If r depth label n k e a b)))
if_appended (Err x) r depth label n k e a b other before o o1 o2 o3 o4 o5 i1 i2 e1 e2 e3 e4 e5 = tt

pub loop_appended : {T E : Type 0} (res : Result T E) (r : Reads) (depth label n k : ℕ) (c : List LStmt) (e : LExpr) (b t : List LStmt) (body step end number before later : ℕ) (o o1 o2 o3 o4 o5 o6 o7 o8 : List ℕ)
    → body ≡ n + size_of c + 1 → step ≡ body + size_of b → end ≡ step + size_of t
    → before ≡ k + loops_of c → later ≡ before + loops_of b → number ≡ later + loops_of t + 1
    → o1 ≡ o ++ line depth (codes "for (;;) {") → o2 ≡ o1 ++ text_of r (depth + 1) label n k c → o3 ≡ o2 ++ line (depth + 1) (leave_text r e)
    → o4 ≡ o3 ++ text_of r (depth + 1) number body before b → o5 ≡ o4 ++ line (depth + 1) (label_text number)
    → o6 ≡ o5 ++ text_of r (depth + 1) label step later t → o7 ≡ o6 ++ line (depth + 1) (mark end) → OnOk res (o8 ≡ o7 ++ line depth (codes "}"))
    → OnOk res (o8 ≡ o ++ text r depth label n k (s.Loop c e b t))
loop_appended (Ok x) r depth label n k c e b t body step end number before later o o1 o2 o3 o4 o5 o6 o7 o8 i1 i2 i3 i4 i5 i6 e1 e2 e3 e4 e5 e6 e7 e8 =
    rw (e8, e7, e6, e5, e4, e3, e2, e1, i6, i5, i4, i3, i2, i1) (eight o _ _ _ _ _ _ _ _ ∙ ap (λ z. o ++ z) (sym (text-Loop r depth label n k c e b t)))
loop_appended (Err x) r depth label n k c e b t body step end number before later o o1 o2 o3 o4 o5 o6 o7 o8 i1 i2 i3 i4 i5 i6 e1 e2 e3 e4 e5 e6 e7 e8 = tt

-- one statement more of a block
pub block_more : (r : Reads) (depth label n k : ℕ) (block : List LStmt) (i : ℕ) (x : LStmt) (at before places loops_more at2 before2 : ℕ) (o o1 o2 : List ℕ)
    → i < length block → x ≡ get_or block i x → places ≡ count x → loops_more ≡ loops x → at2 ≡ at + places → before2 ≡ before + loops_more
    → o1 ++ text_of r depth label at before (drop i block) ≡ o ++ text_of r depth label n k block → o2 ≡ o1 ++ text r depth label at before x
    → o2 ++ text_of r depth label at2 before2 (drop (i + 1) block) ≡ o ++ text_of r depth label n k block
block_more r depth label n k block i x at before places loops_more at2 before2 o o1 o2 h is counted looped moved went so_far more =
    let front : drop i block ≡ x ∷ drop (i + 1) block = rw (add-one i) (drop-cons block i x h ∙ ap (λ z. z ∷ drop (suc i) block) (sym is)) in
    let whole : text_of r depth label at before (drop i block) ≡ text r depth label at before x ++ text_of r depth label at2 before2 (drop (i + 1) block) =
    ap (text_of r depth label at before) front ∙ (text_of-cons r depth label at before x (drop (i + 1) block) ∙ rw (moved, went, counted, looped) refl) in
    ap (λ z. z ++ text_of r depth label at2 before2 (drop (i + 1) block)) more ∙ (append_assoc o1 _ _ ∙ (ap (λ z. o1 ++ z) (sym whole) ∙ so_far))

pub block_all : (r : Reads) (depth label n k at before : ℕ) (block : List LStmt) (i : ℕ) (o o1 : List ℕ) → length block ≤ i
    → o1 ++ text_of r depth label at before (drop i block) ≡ o ++ text_of r depth label n k block → o1 ≡ o ++ text_of r depth label n k block
block_all r depth label n k at before block i o o1 h so_far =
    sym (append-nil o1) ∙ (ap (λ z. o1 ++ z) (sym (text_of-nil r depth label at before) ∙ ap (text_of r depth label at before) (sym (drop_all i block h))) ∙ so_far)

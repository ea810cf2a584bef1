-- What stands at the mark of a place.
use Rattle.std.proofs.Common.{◌≡◌, ℕ, zero, suc, ◌+◌, ◌<◌, List, [], ◌∷◌, ◌++◌, length, Option, Some, None, refl, sym, ap, ◌∙◌, subst, arith, append_assoc, take, length-append}
use Rattle.std.specs.Prelude.{slice_get, unwrap_or, slice_index_or}
use Rattle.std.proofs.lemmas.Option.{slice_get_within}
use Rattle.std.proofs.Math.Seq.{get_or-append_seam}
use Rattle.c_tree.specs.declared.lifted.LExpr.{LExpr}
use Rattle.c_tree.specs.declared.lifted.LStmt.{LStmt, Row_of-LStmt, end_of-LStmt, more_of-LStmt}
use Rattle.c_tree.specs.declared.lifted.LStmt.TheVariants as s
use Rattle.c_tree.specs.declared.lifted.LStmt.TheBlock.{hidden-the_row-LStmt-0 as row_of}
use Rattle.c_tree.specs.declared.lifted.LFunction.{LFunction}
use Rattle.c_tree.specs.declared.lifted.Lifted.{Lifted}
use Rattle.c_tree.specs.declared.place.Follow.{Follow}
use Rattle.c_tree.specs.declared.place.Follow.TheVariants.{One, Two, Leaves}
use Rattle.c_tree.specs.declared.place.Act.{Act}
use Rattle.c_tree.specs.declared.place.Act.TheVariants.{Enter, Do, Test, EndLoop, Finish}
use Rattle.c_tree.specs.declared.place.Exits.{Exits}
use Rattle.c_tree.specs.declared.place.Place.{Place}
use Rattle.c_tree.specs.Layout.{count, counts, enter, enters, layout, layouts, place, places, place_at, nowhere}
use Rattle.c_tree.specs.Step.{function_of, no_function}
use Rattle.target_code.specs.declared.instr.Instr.{Instr}
use Rattle.target_code.specs.declared.instr.Instr.TheVariants as i
use Rattle.target_code.specs.declared.code.CodeFunction.{CodeFunction}
use Rattle.target_code.specs.Code.{marks, body_of, rows_size, rows_marks, act_code, act_size, function_code, functions_code, code_of, text_number, texts_at, texts_in, texts_of}
use Rattle.target_code.specs.Machine.{no_code, function_in}
use Rattle.c_places.proofs.FlowLemmas.{length-layouts}
use Rattle.target_laws.proofs.Lengths.{rows_marks_length}
use Rattle.target_laws.proofs.Blocks.{HasAt, Leads, Block, block_of, function_blocks}

pub some_same : {A : Type 0} (x y : A) → Some x ≡ Some y → x ≡ y
some_same x y e = ap (λ o. unwrap_or o x) e

pub get_within : {A : Type 0} (xs : List A) (n : ℕ) → n < length xs → (x : A) × (slice_get xs n ≡ Some x)
get_within [] n h = absurd (omega (arith, h))
get_within (x ∷ xs) zero h = (x, refl)
get_within (x ∷ xs) (suc n) h = get_within xs n (omega (arith, h))

-- what follows a place by what is done there
abbrev pub Shaped : Act → Follow → Type 0
Shaped (Test e) (Two a b) = Unit {0}
Shaped (Test e) _ = ⊥
Shaped Finish Leaves = Unit {0}
Shaped Finish _ = ⊥
Shaped (Do (s.Return v)) Leaves = Unit {0}
Shaped (Do (s.Return v)) _ = ⊥
Shaped (Do (s.If' e ka a kb b)) _ = ⊥
Shaped (Do (s.Loop' kc c e kb b kd d)) _ = ⊥
Shaped (Do s.Break) _ = ⊥
Shaped (Do s.Continue) _ = ⊥
Shaped _ (One n) = Unit {0}
Shaped _ _ = ⊥

abbrev pub AllShaped : List Place → Type 0
AllShaped [] = Unit {0}
AllShaped (p ∷ rest) = Shaped p.act p.follow × AllShaped rest

shaped_append : (ps qs : List Place) → AllShaped ps → AllShaped qs → AllShaped (ps ++ qs)
shaped_append [] qs a b = b
shaped_append (p ∷ ps) qs a b = (a.0, shaped_append ps qs a.1 b)

mutual
  unfolding count counts enter enters layout layouts

  stmt_shaped : (x : Exits) (n next : ℕ) (stmt : LStmt) → AllShaped (layout x n next stmt)
  stmt_shaped x n next (s.If' e ka a kb b) = (tt, shaped_append (layouts x _ _ a) _ (rows_shaped x _ _ a) (rows_shaped x _ _ b))
  stmt_shaped x n next (s.Loop' kc c e kb b kd d) =
      shaped_append (layouts x _ _ c) _ (rows_shaped x _ _ c) (tt, shaped_append (layouts _ _ _ b) _ (rows_shaped _ _ _ b) (shaped_append (layouts x _ _ d) _ (rows_shaped x _ _ d) (tt, tt)))
  stmt_shaped x n next s.Break = tt
  stmt_shaped x n next s.Continue = tt
  stmt_shaped x n next (s.Return v) = (tt, tt)
  stmt_shaped x n next simple = (tt, tt)

  rows_shaped : (x : Exits) (n next : ℕ) {m : _} (row : Row_of-LStmt m) → AllShaped (layouts x n next row)
  rows_shaped x n next end_of-LStmt = tt
  rows_shaped x n next (more_of-LStmt s rest) = shaped_append (layout x n _ s) _ (stmt_shaped x n _ s) (rows_shaped x (n + count s) next rest)

places_shaped : (f : LFunction) → AllShaped (places f)
places_shaped f = (tt, shaped_append (layouts _ 1 _ (row_of f.body)) _ (rows_shaped _ 1 _ (row_of f.body)) (tt, tt))

ShapedIn : Option Place → Type 0
ShapedIn None = Unit {0}
ShapedIn (Some p) = Shaped p.act p.follow

shaped_at : (ps : List Place) (n : ℕ) (p : Place) → AllShaped ps → slice_get ps n ≡ Some p → Shaped p.act p.follow
unfolding ShapedIn
shaped_at [] n p h e = absurd (let f = slice_get_within [] n p e in omega (arith, f))
shaped_at (q ∷ ps) zero p h e = subst (λ o. ShapedIn o) e h.0
shaped_at (q ∷ ps) (suc n) p h e = shaped_at ps n p h.1 e

one_more : (m n : ℕ) → m ≡ n → suc m ≡ suc n
one_more m n e = ap suc e

pub same_length : (f : LFunction) → length (marks f) ≡ length (places f)
same_length f =
    let row = row_of f.body in
    let x : Exits = record { leave = 1 + counts row; again = 1 + counts row } in
    let a = rows_marks_length 3 row in
    let b = length-layouts x 1 (1 + counts row) row in
    let c = length-append (rows_marks 3 row) ((3 + rows_size row) ∷ []) in
    let d = length-append (layouts x 1 (1 + counts row) row) (place Finish Leaves ∷ []) in
    one_more _ _ (omega (arith, a, b, c, d))

-- a place with its mark at a position
pub record Here (t : ℕ → ℕ) (code : List Instr) (ms : List ℕ) (n at : ℕ) (p : Place) : Type 0 where
  pub has : HasAt code at (act_code t at n p.act)
  pub leads : Leads t code ms p.follow (at + act_size p.act)
  pub shaped : Shaped p.act p.follow

pub here : (p : Lifted) (t : ℕ → ℕ) (f : LFunction) (n at : ℕ) → slice_get (marks f) n ≡ Some at → Here t (body_of p t f) (marks f) n at (place_at f n)
here p t f n at e =
    let code = body_of p t f in
    let ms = marks f in
    let within = slice_get_within ms n at e in
    let g = get_within (places f) n (let l = same_length f in omega (arith, within, l)) in
    let z : 0 + n ≡ n = omega arith in
    let b0 = block_of t code ms 0 n (places f) g.0 (function_blocks p t f) g.1 in
    let b = subst (λ k. Block t code ms k g.0) z b0 in
    let same : b.at ≡ at = some_same b.at at (sym b.mark ∙ e) in
    let is_here : Here t code ms n at g.0 = subst (λ k. Here t code ms n k g.0) same (record { has = b.has; leads = b.leads; shaped = shaped_at (places f) n g.0 (places_shaped f) g.1 }) in
    subst (λ o. Here t code ms n at (nowhere o)) (sym g.1) is_here

head_mark : (t : ℕ → ℕ) (code : List Instr) (at n : ℕ) (a : Act) → HasAt code at (act_code t at n a) → slice_get code at ≡ Some (i.Mark n)
head_mark t code at n Enter h = h.0
head_mark t code at n (Do stmt) h = h.0
head_mark t code at n (Test e) h = h.0
head_mark t code at n EndLoop h = h.0
head_mark t code at n Finish h = h.0

pub mark_here : (p : Lifted) (t : ℕ → ℕ) (f : LFunction) (n at : ℕ) → slice_get (marks f) n ≡ Some at → slice_get (body_of p t f) at ≡ Some (i.Mark n)
mark_here p t f n at e = head_mark t (body_of p t f) at n (place_at f n).act (here p t f n at e).has

-- the text of a place that prints stands at its number, behind the texts of what was before
text_at : (ps : List Place) (k : ℕ) (q : Place) (text : List ℕ) (args : List LExpr) (pre post : List (List ℕ)) → slice_get ps k ≡ Some q → q.act ≡ Do (s.Print text args) → slice_index_or (pre ++ (texts_in ps ++ post)) (length pre + length (texts_in (take k ps))) [] ≡ text
text_at [] k q text args pre post e h = absurd (let f = slice_get_within [] k q e in omega (arith, f))
text_at (x ∷ ps) zero q text args pre post e h =
    let act : x.act ≡ Do (s.Print text args) = ap (λ (y : Place). y.act) (some_same x q e) ∙ h in
    let z : length pre + 0 ≡ length pre = omega arith in
    let list = λ (a : Act). pre ++ ((texts_at a ++ texts_in ps) ++ post) in
    ap (λ a. slice_index_or (list a) (length pre + 0) []) act
    ∙ ap (λ n. slice_index_or (list (Do (s.Print text args))) n []) z
    ∙ get_or-append_seam pre text (texts_in ps ++ post) []
text_at (x ∷ ps) (suc k) q text args pre post e h =
    let here = texts_at x.act in
    let same : (pre ++ here) ++ (texts_in ps ++ post) ≡ pre ++ ((here ++ texts_in ps) ++ post) =
    append_assoc pre here (texts_in ps ++ post) ∙ ap (λ l. pre ++ l) (sym (append_assoc here (texts_in ps) post)) in
    let long : length pre + length (here ++ texts_in (take k ps)) ≡ length (pre ++ here) + length (texts_in (take k ps)) =
    omega (arith, length-append here (texts_in (take k ps)), length-append pre here) in
    ap (λ n. slice_index_or (pre ++ ((here ++ texts_in ps) ++ post)) n []) long
    ∙ ap (λ l. slice_index_or l (length (pre ++ here) + length (texts_in (take k ps))) []) (sym same)
    ∙ text_at ps k q text args (pre ++ here) post e h

-- the code of a function's number, and where its texts stand
pub record CodeOf (p : Lifted) (texts : List (List ℕ)) (f : LFunction) (c : CodeFunction) : Type 0 where
  pub t : ℕ → ℕ
  pub is : c ≡ function_code p t f
  pub text : (n : ℕ) (text : List ℕ) (args : List LExpr) → n < length (places f) → (place_at f n).act ≡ Do (s.Print text args) → slice_index_or texts (t n) [] ≡ text

code_in : (p : Lifted) (pre : List (List ℕ)) (fs : List LFunction) (k : ℕ) → k < length fs → CodeOf p (pre ++ texts_of fs) (slice_index_or fs k no_function) (slice_index_or (functions_code p (length pre) fs) k no_code)
code_in p pre [] k h = absurd (omega (arith, h))
code_in p pre (f ∷ rest) zero h = record {
  t = text_number f (length pre);
  is = refl;
  text = λ n text args within e.
      let x = get_within (places f) n within in
      let act : x.0.act ≡ Do (s.Print text args) = sym (ap (λ o. (nowhere o).act) x.1) ∙ e in
      text_at (places f) n x.0 text args pre (texts_of rest) x.1 act;
}
code_in p pre (f ∷ rest) (suc k) h =
    let here = texts_in (places f) in
    let r = code_in p (pre ++ here) rest k (omega (arith, h)) in
    let r1 = subst (λ l. CodeOf p l (slice_index_or rest k no_function) (slice_index_or (functions_code p (length (pre ++ here)) rest) k no_code)) (append_assoc pre here (texts_of rest)) r in
    subst (λ n. CodeOf p (pre ++ (here ++ texts_of rest)) (slice_index_or rest k no_function) (slice_index_or (functions_code p n rest) k no_code)) (length-append pre here) r1

-- the code of a function of the program
pub code_at : (p : Lifted) (f : ℕ) → f < length p.functions → CodeOf p (code_of p).texts (function_of p f) (function_in (code_of p) f)
code_at p f h = code_in p [] p.functions f h

-- a place with a mark is one of the places
pub place_within : (f : LFunction) (n at : ℕ) → slice_get (marks f) n ≡ Some at → n < length (places f)
place_within f n at e = let h = slice_get_within (marks f) n at e in let l = same_length f in omega (arith, h, l)

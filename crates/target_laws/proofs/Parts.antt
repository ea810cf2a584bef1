-- Where the rebuilding part of a call place stands.
use Rattle.std.proofs.Common.{◌≡◌, ℕ, zero, suc, ◌+◌, ◌<◌, ◌==◌, Bool, true, false, List, [], ◌∷◌, ◌++◌, length, replicate, Option, Some, pos, refl, sym, ap, ◌∙◌, subst, arith, length-append, eq-eqb, ne_eqb}
use Rattle.std.specs.Prelude.{slice_get, if◌then◌else◌}
use Rattle.std.proofs.lemmas.Option.{slice_get_within}
use Rattle.std.proofs.lemmas.List.{length-replicate}
use Rattle.c_tree.specs.declared.lifted.LExpr.{LExpr}
use Rattle.c_tree.specs.declared.lifted.LStmt.TheVariants as s
use Rattle.c_tree.specs.declared.lifted.LStmt.TheBlock.{hidden-the_row-LStmt-0 as row_of}
use Rattle.c_tree.specs.declared.lifted.LFunction.{LFunction}
use Rattle.c_tree.specs.declared.lifted.Lifted.{Lifted}
use Rattle.c_tree.specs.declared.place.Act.{Act}
use Rattle.c_tree.specs.declared.place.Act.TheVariants.{Do, Finish}
use Rattle.c_tree.specs.declared.place.Place.{Place}
use Rattle.c_tree.specs.Layout.{counts, places, place_at, nowhere}
use Rattle.c_tree.specs.Step.{function_of}
use Rattle.target_code.specs.declared.instr.Instr.{Instr}
use Rattle.target_code.specs.declared.instr.Instr.TheVariants as i
use Rattle.target_code.specs.Code.{act_code, rows_size, rows_code, marks, outside, Called, called_at, called_in, calls_of, part, parts, spots, body_of, function_code}
use Rattle.target_code.specs.Machine.{part_at}
use Rattle.target_code.specs.Operands.{sizes}
use Rattle.target_laws.proofs.Lengths.{rows_length}
use Rattle.target_laws.proofs.Blocks.{HasAt, has_front, has_back, has_all}
use Rattle.target_laws.proofs.Places.{get_within, some_same, same_length}

pub part_length : (p : Lifted) (g after : ℕ) → length (part p g after) ≡ (function_of p g).params + 2
part_length p g after =
    let n = (function_of p g).params in
    let a = length-append (replicate n (i.Const (pos 0))) (i.Call g ∷ i.Jump after ∷ []) in
    let b = length-replicate n (i.Const (pos 0)) in
    omega (arith, a, b)

same_place : (n : ℕ) → (n == n) ≡ true
same_place n = eq-eqb n n refl

other_place : (n k : ℕ) → n < k → (n == k) ≡ false
other_place n k h = ne_eqb n k (λ e. absurd (omega (arith, h, e)))

-- a place before j is passed over
passes : (p : Lifted) (code : List Instr) (from n m j : ℕ) (a : Act) (rest : List Called) (is : List Instr) → n < j → HasAt code from (parts p (called_at n m a ++ rest)) → ((at : ℕ) → HasAt code at (parts p rest) → HasAt code (part_at (spots p at rest) j) is) → HasAt code (part_at (spots p from (called_at n m a ++ rest)) j) is
passes p code from n m j (Do (s.Call to g args)) rest is less h k =
    let after = m + 1 + sizes args + 1 in
    let next = from + ((function_of p g).params + 2) in
    let h1 = has_back code from ((function_of p g).params + 2) (part p g after) _ (part_length p g after) h in
    subst (λ (b : Bool). HasAt code (if b then from else part_at (spots p next rest) j) is) (sym (other_place n j less)) (k next h1)
passes p code from n m j a rest is less h k = k from h

-- the part of the k-th place, which is a call
found : (p : Lifted) (code : List Instr) (from n k m : ℕ) (ps : List Place) (ms : List ℕ) (to : Option ℕ) (g : ℕ) (args : List LExpr) (at : Place) → slice_get ps k ≡ Some at → slice_get ms k ≡ Some m → at.act ≡ Do (s.Call to g args) → HasAt code from (parts p (called_in n ps ms)) → HasAt code (part_at (spots p from (called_in n ps ms)) (n + k)) (part p g (m + 1 + sizes args + 1))
found p code from n k m [] ms to g args at e f q h = absurd (let l = slice_get_within [] k at e in omega (arith, l))
found p code from n k m (x ∷ ps) [] to g args at e f q h = absurd (let l = slice_get_within [] k m f in omega (arith, l))
found p code from n zero m (x ∷ ps) (y ∷ ms) to g args at e f q h =
    let after = m + 1 + sizes args + 1 in
    let rest = called_in (n + 1) ps ms in
    let ey : y ≡ m = some_same y m f in
    let ex : x.act ≡ Do (s.Call to g args) = ap (λ (b : Place). b.act) (some_same x at e) ∙ q in
    let h1 = subst (λ a. HasAt code from (parts p (called_at n y a ++ rest))) ex h in
    let h2 = subst (λ b. HasAt code from (parts p (called_at n b (Do (s.Call to g args)) ++ rest))) ey h1 in
    let part_here : HasAt code from (part p g after) = has_front code from (part p g after) (parts p rest) h2 in
    let z : n ≡ n + 0 = omega arith in
    let same : (n == n + 0) ≡ true = eq-eqb n (n + 0) z in
    let next = from + ((function_of p g).params + 2) in
    let r1 : HasAt code (part_at (spots p from (called_at n m (Do (s.Call to g args)) ++ rest)) (n + 0)) (part p g after) =
    subst (λ (b : Bool). HasAt code (if b then from else part_at (spots p next rest) (n + 0)) (part p g after)) (sym same) part_here in
    let r2 = subst (λ b. HasAt code (part_at (spots p from (called_at n b (Do (s.Call to g args)) ++ rest)) (n + 0)) (part p g after)) (sym ey) r1 in
    subst (λ a. HasAt code (part_at (spots p from (called_at n y a ++ rest)) (n + 0)) (part p g after)) (sym ex) r2
found p code from n (suc k) m (x ∷ ps) (y ∷ ms) to g args at e f q h =
    let z : n + 1 + k ≡ n + suc k = omega arith in
    let is = part p g (m + 1 + sizes args + 1) in
    passes p code from n y (n + suc k) x.act (called_in (n + 1) ps ms) is (omega arith) h (λ from' h'. subst (λ j. HasAt code (part_at (spots p from' (called_in (n + 1) ps ms)) j) is) z (found p code from' (n + 1) k m ps ms to g args at e f q h'))

parts_stand : (p : Lifted) (t : ℕ → ℕ) (f : LFunction) → HasAt (body_of p t f) (3 + rows_size (row_of f.body) + 3) (parts p (calls_of f))
parts_stand p t f =
    let row = row_of f.body in
    let code = body_of p t f in
    let h = has_all code in
    let h1 = has_back code 3 (rows_size row) (rows_code t (outside f) 3 1 row) _ (rows_length t (outside f) 3 1 row) h.1.1.1 in
    has_back code (3 + rows_size row) 3 (act_code t (3 + rows_size row) (1 + counts row) Finish) (parts p (calls_of f)) refl h1

-- the rebuilding part of a call place
pub part_stands : (p : Lifted) (t : ℕ → ℕ) (f : LFunction) (n m : ℕ) (to : Option ℕ) (g : ℕ) (args : List LExpr) → slice_get (marks f) n ≡ Some m → (place_at f n).act ≡ Do (s.Call to g args) → HasAt (body_of p t f) (part_at (function_code p t f).calls n) (part p g (m + 1 + sizes args + 1))
part_stands p t f n m to g args e q =
    let within = slice_get_within (marks f) n m e in
    let x = get_within (places f) n (let l = same_length f in omega (arith, within, l)) in
    let act : x.0.act ≡ Do (s.Call to g args) = sym (ap (λ o. (nowhere o).act) x.1) ∙ q in
    let z : 0 + n ≡ n = omega arith in
    let h = found p (body_of p t f) (3 + rows_size (row_of f.body) + 3) 0 n m (places f) (marks f) to g args x.0 x.1 e act (parts_stand p t f) in
    subst (λ j. HasAt (body_of p t f) (part_at (function_code p t f).calls j) (part p g (m + 1 + sizes args + 1))) z h

-- The slots and functions that the code of a formed program names are there.
use Rattle.std.proofs.Common.{◌≡◌, ℕ, zero, suc, ◌+◌, ◌<◌, Bool, true, false, List, [], ◌∷◌, ◌++◌, length, replicate, Option, Some, None, pos, refl, ap, arith}
use Rattle.std.specs.Prelude.{◌&&◌, is_some, slice_get, slice_index_or, All}
use Rattle.std.proofs.lemmas.Option.{slice_get_within}
use Rattle.c_tree.specs.declared.lifted.Dest.{Dest}
use Rattle.c_tree.specs.declared.lifted.Dest.TheVariants as d
use Rattle.c_tree.specs.declared.lifted.LExpr.{LExpr, more_of-LExpr as only}
use Rattle.c_tree.specs.declared.lifted.LExpr.TheVariants as e
use Rattle.c_tree.specs.declared.lifted.LFunction.{LFunction}
use Rattle.c_tree.specs.declared.lifted.LStmt.{LStmt, Row_of-LStmt, end_of-LStmt, more_of-LStmt}
use Rattle.c_tree.specs.declared.lifted.LStmt.TheBlock.{hidden-the_row-LStmt-0 as row_of}
use Rattle.c_tree.specs.declared.lifted.LStmt.TheVariants as s
use Rattle.c_tree.specs.declared.lifted.Lifted.{Lifted}
use Rattle.c_tree.specs.declared.lifted.Slot.{Slot}
use Rattle.c_tree.specs.declared.op.BinOp.{BinOp}
use Rattle.c_tree.specs.declared.op.BinOp.TheVariants as bin
use Rattle.c_tree.specs.declared.op.UnOp.{UnOp}
use Rattle.c_tree.specs.declared.op.UnOp.TheVariants as un
use Rattle.c_tree.specs.declared.place.Act.{Act}
use Rattle.c_tree.specs.declared.place.Act.TheVariants.{Do, Test, Finish}
use Rattle.c_tree.specs.declared.place.Exits.{Exits}
use Rattle.c_tree.specs.declared.place.Place.{Place}
use Rattle.c_tree.specs.declared.ty.Ty.{Ty}
use Rattle.c_tree.specs.Formed.{Sort, int, pointer, sort_of_slot, is_int_sort, is_pointer_sort, is_testable_sort, are_alike_sorts, takes_one, takes_two, sort_if, sort_of, sort_at, HasSort, AreArguments, IsCall, HasStartForm, HasSortsIn, HaveSortsIn, IsFormed}
use Rattle.c_tree.specs.Layout.{count, counts, places, nowhere}
use Rattle.c_tree.specs.StartForm.{parameters_of}
use Rattle.c_tree.specs.Step.{function_of, no_function}
use Rattle.target_code.specs.declared.code.CodeFunction.{CodeFunction}
use Rattle.target_code.specs.declared.instr.Instr.{Instr}
use Rattle.target_code.specs.declared.instr.Instr.TheVariants as i
use Rattle.target_code.specs.Between.{body_at}
use Rattle.target_code.specs.Code.{do_code, act_code, act_size, over, jump_over, stmt_size, rows_size, stmt_code, rows_code, marks, outside, Called, called_at, called_in, calls_of, part, parts, body_of, functions_code, text_number, texts_in}
use Rattle.target_code.specs.Machine.{no_code}
use Rattle.target_code.specs.Operands.{size, bin_code, expr_code, args_code, dest_size, dest_code, store_instr}
use Rattle.target_laws.specs.Effects.{LiesInside}
use Rattle.target_laws.specs.Effects as law
use Rattle.target_laws.proofs.Covered.{Covered, covered_at}
use Rattle.target_laws.proofs.Places.{code_at}
use Rattle.target_laws.proofs.Everywhere.{AllAt, both, everywhere_at}

is_false : false ≡ true → ⊥
is_false e = cc

and_both : (a b : Bool) → (a && b) ≡ true → (a ≡ true) × (b ≡ true)
and_both true b h = (refl, h)
and_both false b h = absurd (is_false h)

-- there is a sort
abbrev IsThere : Option Sort → Type 0
IsThere o = is_some o ≡ true

if_true : (b : Bool) (o : Option Sort) → IsThere (sort_if b o) → (b ≡ true) × IsThere o
if_true true o h = (refl, h)
if_true false o h = absurd (is_false h)

int_there : (o : Option Sort) → is_int_sort o ≡ true → IsThere o
int_there None h = absurd (is_false h)
int_there (Some a) h = refl

pointer_there : (o : Option Sort) → is_pointer_sort o ≡ true → IsThere o
pointer_there None h = absurd (is_false h)
pointer_there (Some a) h = refl

testable_there : (o : Option Sort) → is_testable_sort o ≡ true → IsThere o
testable_there None h = absurd (is_false h)
testable_there (Some a) h = refl

one_there : (op : UnOp) (o : Option Sort) → takes_one op o ≡ true → IsThere o
one_there un.Not o h = testable_there o h
one_there op o h = int_there o h

alike_there : (a b : Option Sort) → are_alike_sorts a b ≡ true → IsThere a × IsThere b
alike_there (Some int) b h = (refl, int_there b h)
alike_there (Some pointer) b h = (refl, pointer_there b h)
alike_there a b h = absurd (is_false h)

two_there : (op : BinOp) (a b : Option Sort) → takes_two op a b ≡ true → IsThere a × IsThere b
two_there bin.Eq a b h = alike_there a b h
two_there bin.Ne a b h = alike_there a b h
two_there bin.And a b h = let q = and_both (is_testable_sort a) (is_testable_sort b) h in (testable_there a q.0, testable_there b q.1)
two_there bin.Or a b h = let q = and_both (is_testable_sort a) (is_testable_sort b) h in (testable_there a q.0, testable_there b q.1)
two_there op a b h = let q = and_both (is_int_sort a) (is_int_sort b) h in (int_there a q.0, int_there b q.1)

is_there : (o : Option Sort) (a : Sort) → o ≡ Some a → IsThere o
is_there o a h = ap is_some h

has_there : (a b : Option Sort) → HasSort a b → IsThere a × IsThere b
has_there None b h = absurd h
has_there (Some a) b h = (refl, ap is_some h)

slot_of : (slots : List Slot) (k : ℕ) (o : Option Slot) → slice_get slots k ≡ o → IsThere (sort_of_slot o) → k < length slots
slot_of slots k None e h = absurd (is_false h)
slot_of slots k (Some x) e h = slice_get_within slots k x e

slot_there : (slots : List Slot) (k : ℕ) → IsThere (sort_of_slot (slice_get slots k)) → k < length slots
slot_there slots k h = slot_of slots k (slice_get slots k) refl h

module _ (p : Lifted) (slots : List Slot) where
  -- what an instruction names lies inside
  abbrev Inside : ℕ → Instr → Type 0
  Inside at x = LiesInside p (length slots) x

  abbrev pub AllInside : ℕ → List Instr → Type 0
  AllInside at is = AllAt Inside at is

  append : (at : ℕ) (a b : List Instr) → AllInside at a → ((from : ℕ) → AllInside from b) → AllInside at (a ++ b)
  append at a b h k = both Inside at (length a) a b refl h (k (at + length a))

  bin_inside : (op : BinOp) (at from x y : ℕ) (a : List Instr) (b : ℕ → List Instr) → AllInside from a → ((n m : ℕ) → AllInside m (b n)) → AllInside from (bin_code op at x y a b)
  bin_inside bin.And at from x y a b ha hb =
      append from a _ ha (λ k. (tt, append (k + 1) (b (at + x + 1)) _ (hb (at + x + 1) (k + 1)) (λ j. (tt, (tt, (tt, (tt, tt)))))))
  bin_inside bin.Or at from x y a b ha hb =
      append from a _ ha (λ k. (tt, (tt, (tt, append (k + 1 + 1 + 1) (b (at + x + 3)) _ (hb (at + x + 3) (k + 1 + 1 + 1)) (λ j. (tt, (tt, tt)))))))
  bin_inside op at from x y a b ha hb = append from a _ ha (λ k. append k (b (at + x)) _ (hb (at + x) k) (λ j. (tt, tt)))

  expr_inside : (at from : ℕ) (e : LExpr) → IsThere (sort_of p slots e) → AllInside from (expr_code at e)
  unfolding size expr_code sort_of
  expr_inside at from (e.Num n) h = (tt, tt)
  expr_inside at from e.Null h = (tt, tt)
  expr_inside at from (e.Slot k) h = (slot_there slots k h, tt)
  expr_inside at from (e.Global g) h = (tt, tt)
  expr_inside at from (e.Own k) h = (tt, tt)
  expr_inside at from (e.Elem' g _ (only x _)) h =
      let q = if_true (is_int_sort (sort_of p slots x)) _ h in
      append from (expr_code at x) _ (expr_inside at from x (int_there (sort_of p slots x) q.0)) (λ k. (tt, tt))
  expr_inside at from (e.Field' _ (only o _) owner field) h =
      let q = if_true (is_pointer_sort (sort_of p slots o)) _ h in
      append from (expr_code at o) _ (expr_inside at from o (pointer_there (sort_of p slots o) q.0)) (λ k. (tt, tt))
  expr_inside at from (e.Un' op _ (only a _)) h =
      let q = if_true (takes_one op (sort_of p slots a)) _ h in
      append from (expr_code at a) _ (expr_inside at from a (one_there op (sort_of p slots a) q.0)) (λ k. (tt, tt))
  expr_inside at from (e.Bin' op _ (only a _) _ (only b _)) h =
      let q = if_true (takes_two op (sort_of p slots a) (sort_of p slots b)) _ h in
      let r = two_there op (sort_of p slots a) (sort_of p slots b) q.0 in
      bin_inside op at from (size a) (size b) (expr_code at a) (λ n. expr_code n b) (expr_inside at from a r.0) (λ n m. expr_inside n m b r.1)

  -- each of some expressions has a sort
  abbrev AllThere : List LExpr → Type 0
  AllThere [] = Unit {0}
  AllThere (x ∷ rest) = IsThere (sort_of p slots x) × AllThere rest

  args_inside : (at from : ℕ) (es : List LExpr) → AllThere es → AllInside from (args_code at es)
  args_inside at from [] h = tt
  args_inside at from (x ∷ rest) h = append from (expr_code at x) _ (expr_inside at from x h.0) (λ k. args_inside (at + size x) k rest h.1)

  ints_there : (es : List LExpr) → All (λ x. sort_of p slots x ≡ Some int) es → AllThere es
  ints_there [] h = tt
  ints_there (x ∷ rest) h = (is_there (sort_of p slots x) int (h 0 x (omega arith)), ints_there rest (λ j y l. h (suc j) y (omega (arith, l))))

  arguments_there : (qs : List Slot) (es : List LExpr) → AreArguments p slots qs es → AllThere es
  arguments_there [] [] h = tt
  arguments_there (q ∷ qs) (x ∷ rest) h = ((has_there _ (sort_of p slots x) h.0).1, arguments_there qs rest h.1)
  arguments_there qs es h = absurd h

  dest_inside : (at from : ℕ) (to : Dest) → IsThere (sort_at p slots to) → AllInside from (dest_code at to)
  dest_inside at from (d.Slot k) h = tt
  dest_inside at from (d.Global g) h = tt
  dest_inside at from (d.Elem g x) h =
      let q = if_true (is_int_sort (sort_of p slots x)) _ h in expr_inside at from x (int_there (sort_of p slots x) q.0)
  dest_inside at from (d.Field o owner field) h =
      let q = if_true (is_pointer_sort (sort_of p slots o)) _ h in expr_inside at from o (pointer_there (sort_of p slots o) q.0)

  store_inside : (to : Dest) → IsThere (sort_at p slots to) → LiesInside p (length slots) (store_instr to)
  store_inside (d.Slot k) h = slot_there slots k h
  store_inside (d.Global g) h = tt
  store_inside (d.Elem g x) h = tt
  store_inside (d.Field o owner field) h = tt

  call_there : (to : Option ℕ) (f : ℕ) (args : List LExpr) (o : Option LFunction) → slice_get p.functions f ≡ o → IsCall p slots to o args → (f < length p.functions) × AllThere args
  call_there to f args None e h = absurd h
  call_there to f args (Some g) e h = (slice_get_within p.functions f g e, arguments_there (parameters_of g) args h.0)

  after_inside : (to : Option ℕ) (n : ℕ) (args : List LExpr) (o : Option LFunction) → IsCall p slots to o args → LiesInside p (length slots) (i.After n to)
  after_inside None n args o h = tt
  after_inside (Some k) n args None h = absurd h
  after_inside (Some k) n args (Some g) h = slot_there slots k (has_there (sort_of_slot (slice_get slots k)) _ h.1).0

  start_there : (f : ℕ) (o : Option LFunction) → slice_get p.functions f ≡ o → HasStartForm o → f < length p.functions
  start_there f None e h = absurd h
  start_there f (Some g) e h = slice_get_within p.functions f g e

  do_inside : (t : ℕ → ℕ) (ret : Ty) (at from n : ℕ) (stmt : LStmt) → HasSortsIn p slots ret stmt → AllInside from (do_code t at n stmt)
  unfolding HasSortsIn
  do_inside t ret at from n (s.Assign to x) h =
      let q = has_there (sort_at p slots to) (sort_of p slots x) h in
      append from (dest_code at to) _ (dest_inside at from to q.0) (λ k. append k (expr_code (at + dest_size to) x) _ (expr_inside (at + dest_size to) k x q.1) (λ j. (store_inside to q.0, tt)))
  do_inside t ret at from n (s.New slot owner) h = (tt, (slot_there slots slot (ap is_some h.0), tt))
  do_inside t ret at from n (s.Getc slot) h = (tt, (slot_there slots slot (ap is_some h), tt))
  do_inside t ret at from n (s.Print text args) h = append from (args_code at args) _ (args_inside at from args (ints_there args h)) (λ k. (tt, tt))
  do_inside t ret at from n (s.Free x) h = append from (expr_code at x) _ (expr_inside at from x (ap is_some h)) (λ k. (tt, tt))
  do_inside t ret at from n (s.Call to f args) h =
      let q = call_there to f args (slice_get p.functions f) refl h in
      append from (args_code at args) _ (args_inside at from args q.1) (λ k. (q.0, (after_inside to n args (slice_get p.functions f) h, tt)))
  do_inside t ret at from n (s.Spawn to f x) h =
      let b = ap is_some h.0 in
      append from (dest_code at to) _ (dest_inside at from to b) (λ k. append k (expr_code (at + dest_size to) x) _ (expr_inside (at + dest_size to) k x (ap is_some h.2)) (λ j. (start_there f (slice_get p.functions f) refl h.1, (store_inside to b, tt))))
  do_inside t ret at from n (s.Join x) h = (tt, append (from + 1) (expr_code (at + 1) x) _ (expr_inside (at + 1) (from + 1) x (ap is_some h)) (λ k. (tt, tt)))
  do_inside t ret at from n (s.Lock m) h = (tt, (tt, tt))
  do_inside t ret at from n (s.Unlock m) h = (tt, tt)
  do_inside t ret at from n (s.Return None) h = (tt, (tt, tt))
  do_inside t ret at from n (s.Return (Some x)) h = append from (expr_code at x) _ (expr_inside at from x (has_there _ (sort_of p slots x) h).1) (λ k. (tt, tt))
  do_inside t ret at from n _ h = tt

  over_inside : {m : _} (b : Row_of-LStmt m) (at to : ℕ) → AllInside at (jump_over b to)
  over_inside end_of-LStmt at to = tt
  over_inside (more_of-LStmt s rest) at to = (tt, tt)

  mutual
    unfolding count counts stmt_size rows_size stmt_code rows_code HasSortsIn HaveSortsIn

    stmt_inside : (t : ℕ → ℕ) (ret : Ty) (x : Exits) (at from n : ℕ) (stmt : LStmt) → HasSortsIn p slots ret stmt → AllInside from (stmt_code t x at n stmt)
    stmt_inside t ret x at from n (s.If' e ka a kb b) h =
        let yes = at + act_size (Test e) + 1 in
        let no = yes + rows_size a + over b in
        let there = testable_there (sort_of p slots e) h.0 in
        append from (act_code t at n (Test e)) _ (tt, expr_inside (at + 1) (from + 1) e there) (λ k. (tt, append (k + 1) (rows_code t x yes (n + 1) a) _ (rows_inside t ret x yes (k + 1) (n + 1) a h.1) (λ j. append j (jump_over b (no + rows_size b)) _ (over_inside b j (no + rows_size b)) (λ l. rows_inside t ret x no l (n + 1 + counts a) b h.2))))
    stmt_inside t ret x at from n (s.Loop' kc c e kb b kd d) h =
        let test = at + rows_size c in
        let body = test + act_size (Test e) + 1 in
        let step = body + rows_size b in
        let end = step + rows_size d in
        let inner : Exits = record { leave = end + 3; again = step } in
        let there = testable_there (sort_of p slots e) h.1 in
        let nt = n + counts c in
        append from (rows_code t x at n c) _ (rows_inside t ret x at from n c h.0) (λ k. append k (act_code t test nt (Test e)) _ (tt, expr_inside (test + 1) (k + 1) e there) (λ j. (tt, append (j + 1) (rows_code t inner body (nt + 1) b) _ (rows_inside t ret inner body (j + 1) (nt + 1) b h.2) (λ l. append l (rows_code t x step (nt + 1 + counts b) d) _ (rows_inside t ret x step l (nt + 1 + counts b) d h.3) (λ o. (tt, (tt, (tt, tt))))))))
    stmt_inside t ret x at from n s.Break h = (tt, tt)
    stmt_inside t ret x at from n s.Continue h = (tt, tt)
    stmt_inside t ret x at from n simple h = (tt, do_inside t ret (at + 1) (from + 1) n simple h)

    rows_inside : (t : ℕ → ℕ) (ret : Ty) (x : Exits) (at from n : ℕ) {m : _} (row : Row_of-LStmt m) → HaveSortsIn p slots ret row → AllInside from (rows_code t x at n row)
    rows_inside t ret x at from n end_of-LStmt h = tt
    rows_inside t ret x at from n (more_of-LStmt s rest) h =
        append from (stmt_code t x at n s) _ (stmt_inside t ret x at from n s h.0) (λ k. rows_inside t ret x (at + stmt_size s) k (n + count s) rest h.1)

-- the calls of a function are of functions that are there
abbrev AllCallees : Lifted → List Called → Type 0
AllCallees p [] = Unit {0}
AllCallees p (c ∷ rest) = (c.callee < length p.functions) × AllCallees p rest

callee_at : (p : Lifted) (n m : ℕ) (a : Act) (rest : List Called) → Covered p a → AllCallees p rest → AllCallees p (called_at n m a ++ rest)
callee_at p n m (Do (s.Call to g args)) rest h r = (h.0, r)
callee_at p n m a rest h r = r

callees_in : (p : Lifted) (n : ℕ) (ps : List Place) (ms : List ℕ) → ((k : ℕ) → Covered p (nowhere (slice_get ps k)).act) → AllCallees p (called_in n ps ms)
callees_in p n [] ms h = tt
callees_in p n (x ∷ ps) [] h = tt
callees_in p n (x ∷ ps) (m ∷ ms) h = callee_at p n m x.act (called_in (n + 1) ps ms) (h 0) (callees_in p (n + 1) ps ms (λ k. h (suc k)))

zeros_inside : (p : Lifted) (slots : List Slot) (at n : ℕ) → AllInside p slots at (replicate n (i.Const (pos 0)))
zeros_inside p slots at zero = tt
zeros_inside p slots at (suc n) = (tt, zeros_inside p slots (at + 1) n)

parts_inside : (p : Lifted) (slots : List Slot) (at : ℕ) (cs : List Called) → AllCallees p cs → AllInside p slots at (parts p cs)
parts_inside p slots at [] h = tt
parts_inside p slots at (c ∷ rest) h =
    let zs = replicate (function_of p c.callee).params (i.Const (pos 0)) in
    append p slots at (part p c.callee c.after) (parts p rest) (append p slots at zs (i.Call c.callee ∷ i.Jump c.after ∷ []) (zeros_inside p slots at (function_of p c.callee).params) (λ k. (h.0, (tt, tt)))) (λ k. parts_inside p slots k rest h.1)

-- the expressions of a function have their sorts, and its callees are there
abbrev Fits : Lifted → LFunction → Type 0
Fits p f = HaveSortsIn p f.slots f.ret (row_of f.body) × AllCallees p (calls_of f)

-- the whole code of a function
body_inside : (p : Lifted) (t : ℕ → ℕ) (f : LFunction) → Fits p f → AllInside p f.slots 0 (body_of p t f)
body_inside p t f h =
    let row = row_of f.body in
    let rows = rows_inside p f.slots t f.ret (outside f) 3 3 1 row h.0 in
    let finish = λ (k : ℕ). append p f.slots k (act_code t (3 + rows_size row) (1 + counts row) Finish) (parts p (calls_of f)) (tt, (tt, (tt, tt))) (λ j. parts_inside p f.slots j (calls_of f) h.1) in
    (tt, (tt, (tt, append p f.slots 3 (rows_code t (outside f) 3 1 row) _ rows finish)))

bodies_inside : (p : Lifted) (from : ℕ) (fs : List LFunction) (k : ℕ) → ((j : ℕ) → j < length fs → Fits p (slice_index_or fs j no_function)) → AllInside p (slice_index_or fs k no_function).slots 0 (slice_index_or (functions_code p from fs) k no_code).body
bodies_inside p from [] k h = tt
bodies_inside p from (f ∷ rest) zero h = body_inside p (text_number f from) f (h 0 (omega arith))
bodies_inside p from (f ∷ rest) (suc k) h = bodies_inside p (from + length (texts_in (places f))) rest k (λ j l. h (suc j) (omega (arith, l)))

functions_fit : (p : Lifted) → IsFormed p → (j : ℕ) → j < length p.functions → Fits p (function_of p j)
functions_fit p formed j within =
    let f = function_of p j in
    (formed.sorts j no_function within, callees_in p 0 (places f) (marks f) (λ k. covered_at p j k formed within))

-- what the code of a formed program names is there
pub slots_inside : law.SlotsLieInside
slots_inside p f at x formed e = everywhere_at (Inside p (function_of p f).slots) at (body_at p f) x (bodies_inside p 0 p.functions f (functions_fit p formed)) e

-- a function's parameters are among its slots, which are few
pub parameters_fit : law.ParametersFit
parameters_fit p f formed within = (formed.parameters f no_function within, formed.limits.slots f no_function within)

functions_long : (p : Lifted) (from : ℕ) (fs : List LFunction) → length (functions_code p from fs) ≡ length fs
functions_long p from [] = refl
functions_long p from (f ∷ rest) = ap suc (functions_long p (from + length (texts_in (places f))) rest)

-- each function has its code
pub functions_coded : law.FunctionsAreCoded
functions_coded p = (
  functions_long p 0 p.functions,
  λ f within.
      let is = (code_at p f within).is in
      (ap (λ (c : CodeFunction). c.params) is, ap (λ (c : CodeFunction). c.slots) is),
)

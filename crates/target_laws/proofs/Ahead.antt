-- Each jump of the code goes forward, or to a mark or an `after`.
use Rattle.std.proofs.Common.{◌≡◌, ◌⊎◌, inl, inr, ℕ, zero, suc, ◌+◌, ◌<◌, ◌≤◌, List, [], ◌∷◌, ◌++◌, length, replicate, Some, None, pos, refl, sym, ◌∙◌, subst, arith}
use Rattle.std.specs.Prelude.{Bool, false, true, All, slice_get, slice_index_or}
use Rattle.c_tree.specs.declared.lifted.LExpr.{LExpr, more_of-LExpr as only}
use Rattle.c_tree.specs.declared.lifted.LExpr.TheVariants as e
use Rattle.c_tree.specs.declared.lifted.LStmt.{LStmt, Row_of-LStmt, end_of-LStmt, more_of-LStmt}
use Rattle.c_tree.specs.declared.lifted.LStmt.TheVariants as s
use Rattle.c_tree.specs.declared.lifted.Dest.{Dest}
use Rattle.c_tree.specs.declared.lifted.Dest.TheVariants as d
use Rattle.c_tree.specs.declared.op.BinOp.{BinOp}
use Rattle.c_tree.specs.declared.op.BinOp.TheVariants as bin
use Rattle.c_tree.specs.declared.op.UnOp.TheVariants as un
use Rattle.c_tree.specs.declared.place.Act.{Act}
use Rattle.c_tree.specs.declared.place.Act.TheVariants.{Enter, Do, Test, EndLoop, Finish}
use Rattle.c_tree.specs.declared.place.Exits.{Exits}
use Rattle.c_tree.specs.declared.place.Place.{Place}
use Rattle.c_tree.specs.Formed.{IsFormed, StaysInLoop, StayInLoop}
use Rattle.c_tree.specs.Layout.{count, counts, places}
use Rattle.target_code.specs.declared.instr.Instr.{Instr}
use Rattle.target_code.specs.declared.instr.Instr.TheVariants as i
use Rattle.target_code.specs.Between.{body_at}
use Rattle.target_code.specs.Code.{do_code, act_code, act_size, over, jump_over, stmt_size, rows_size, stmt_code, rows_code, marks, outside, Called, called_at, called_in, calls_of, part, parts, body_of, functions_code, text_number, texts_in}
use Rattle.target_code.specs.Machine.{no_code}
use Rattle.target_code.specs.Operands.{size, bin_code, expr_code, sizes, args_code, dest_size, dest_code, store_instr}
use Rattle.std.proofs.lemmas.List.{length-replicate}
use Rattle.target_laws.specs.Laws.{IsStop}
use Rattle.target_laws.specs.Laws as law
use Rattle.target_laws.proofs.Lengths.{expr_length, args_length, dest_length, act_length, over_length, stmt_length, rows_length}
use Rattle.target_laws.proofs.Everywhere.{AllAt, both, everywhere_at}
use Rattle.target_laws.proofs.Blocks.{HasAt, has_front, has_back, has_all, Blocks, function_blocks}
use Rattle.target_laws.proofs.Places.{some_same}
use Rattle.target_laws.proofs.Parts.{part_length}
use Rattle.c_tree.specs.Step.{function_of}
use Rattle.c_tree.specs.declared.lifted.LFunction.{LFunction}
use Rattle.c_tree.specs.declared.lifted.Lifted.{Lifted}
use Rattle.c_tree.specs.declared.lifted.LStmt.TheBlock.{hidden-the_row-LStmt-0 as row_of}

is_false : false ≡ true → ⊥
is_false e = cc

module _ (code : List Instr) where
  -- an instruction at a position goes forward, or jumps to a stop
  abbrev pub Ahead : ℕ → Instr → Type 0
  Ahead at (i.Jump l) = (at < l) ⊎ IsStop (slice_get code l)
  Ahead at (i.Jz l) = at < l
  Ahead at _ = Unit {0}

  abbrev pub AllAhead : ℕ → List Instr → Type 0
  AllAhead at is = AllAt Ahead at is

  bin_ahead : (op : BinOp) (at x y : ℕ) (a : List Instr) (b : ℕ → List Instr) → length a ≡ x → ((from : ℕ) → length (b from) ≡ y) → AllAhead at a → ((from : ℕ) → AllAhead from (b from)) → AllAhead at (bin_code op at x y a b)
  bin_ahead bin.And at x y a b la lb ha hb =
      both Ahead at x a _ la ha (omega arith, both Ahead (at + x + 1) y (b (at + x + 1)) _ (lb (at + x + 1)) (hb (at + x + 1)) (tt, (tt, (inl (omega arith), (tt, tt)))))
  bin_ahead bin.Or at x y a b la lb ha hb =
      let f : at + x + 3 ≡ at + x + 1 + 1 + 1 = omega arith in
      both Ahead at x a _ la ha (omega arith, (tt, (inl (omega arith), subst (λ k. AllAhead k (b (at + x + 3) ++ i.Un un.Not ∷ i.Un un.Not ∷ [])) f (both Ahead (at + x + 3) y (b (at + x + 3)) _ (lb (at + x + 3)) (hb (at + x + 3)) (tt, (tt, tt))))))
  bin_ahead op at x y a b la lb ha hb = both Ahead at x a _ la ha (both Ahead (at + x) y (b (at + x)) _ (lb (at + x)) (hb (at + x)) (tt, tt))

  pub expr_ahead : (at : ℕ) (e : LExpr) → AllAhead at (expr_code at e)
  unfolding size expr_code
  expr_ahead at (e.Elem' g _ (only x _)) = both Ahead at (size x) (expr_code at x) _ (expr_length at x) (expr_ahead at x) (tt, tt)
  expr_ahead at (e.Field' _ (only p _) owner field) = both Ahead at (size p) (expr_code at p) _ (expr_length at p) (expr_ahead at p) (tt, tt)
  expr_ahead at (e.Un' op _ (only a _)) = both Ahead at (size a) (expr_code at a) _ (expr_length at a) (expr_ahead at a) (tt, tt)
  expr_ahead at (e.Bin' op _ (only a _) _ (only b _)) =
      bin_ahead op at (size a) (size b) (expr_code at a) (λ from. expr_code from b) (expr_length at a) (λ from. expr_length from b) (expr_ahead at a) (λ from. expr_ahead from b)
  expr_ahead at _ = (tt, tt)

  args_ahead : (at : ℕ) (es : List LExpr) → AllAhead at (args_code at es)
  args_ahead at [] = tt
  args_ahead at (e ∷ rest) = both Ahead at (size e) (expr_code at e) _ (expr_length at e) (expr_ahead at e) (args_ahead (at + size e) rest)

  dest_ahead : (at : ℕ) (to : Dest) → AllAhead at (dest_code at to)
  dest_ahead at (d.Slot k) = tt
  dest_ahead at (d.Global k) = tt
  dest_ahead at (d.Elem k x) = expr_ahead at x
  dest_ahead at (d.Field x owner field) = expr_ahead at x

  store_ahead : (at : ℕ) (to : Dest) → Ahead at (store_instr to)
  store_ahead at (d.Slot k) = tt
  store_ahead at (d.Global k) = tt
  store_ahead at (d.Elem k x) = tt
  store_ahead at (d.Field x owner field) = tt

  do_ahead : (t : ℕ → ℕ) (at n : ℕ) (stmt : LStmt) → AllAhead at (do_code t at n stmt)
  do_ahead t at n (s.Assign to e) =
      let from = at + dest_size to in
      both Ahead at (dest_size to) (dest_code at to) _ (dest_length at to) (dest_ahead at to) (both Ahead from (size e) (expr_code from e) _ (expr_length from e) (expr_ahead from e) (store_ahead (from + size e) to, tt))
  do_ahead t at n (s.Print text args) = both Ahead at (sizes args) (args_code at args) _ (args_length at args) (args_ahead at args) (tt, tt)
  do_ahead t at n (s.Free e) = both Ahead at (size e) (expr_code at e) _ (expr_length at e) (expr_ahead at e) (tt, tt)
  do_ahead t at n (s.Call to f args) = both Ahead at (sizes args) (args_code at args) _ (args_length at args) (args_ahead at args) (tt, (tt, tt))
  do_ahead t at n (s.Spawn to f e) =
      let from = at + dest_size to in
      both Ahead at (dest_size to) (dest_code at to) _ (dest_length at to) (dest_ahead at to) (both Ahead from (size e) (expr_code from e) _ (expr_length from e) (expr_ahead from e) (tt, (store_ahead (from + size e + 1) to, tt)))
  do_ahead t at n (s.Join e) = (tt, both Ahead (at + 1) (size e) (expr_code (at + 1) e) _ (expr_length (at + 1) e) (expr_ahead (at + 1) e) (tt, tt))
  do_ahead t at n (s.Return (Some e)) = both Ahead at (size e) (expr_code at e) _ (expr_length at e) (expr_ahead at e) (tt, tt)
  do_ahead t at n (s.Return None) = (tt, (tt, tt))
  do_ahead t at n (s.New slot owner) = (tt, (tt, tt))
  do_ahead t at n (s.Getc slot) = (tt, (tt, tt))
  do_ahead t at n (s.Lock k) = (tt, (tt, tt))
  do_ahead t at n (s.Unlock k) = (tt, tt)
  do_ahead t at n _ = tt

  pub act_ahead : (t : ℕ → ℕ) (at n : ℕ) (a : Act) → AllAhead at (act_code t at n a)
  act_ahead t at n Enter = (tt, (tt, tt))
  act_ahead t at n (Do stmt) = (tt, do_ahead t (at + 1) n stmt)
  act_ahead t at n (Test e) = (tt, expr_ahead (at + 1) e)
  act_ahead t at n EndLoop = (tt, (tt, tt))
  act_ahead t at n Finish = (tt, (tt, (tt, tt)))

  is_stop : (at n : ℕ) → slice_get code at ≡ Some (i.Mark n) → IsStop (slice_get code at)
  is_stop at n h = subst IsStop (sym h) tt

  mutual
    unfolding count counts stmt_size rows_size stmt_code rows_code StaysInLoop StayInLoop

    stmt_first : (t : ℕ → ℕ) (x : Exits) (at n : ℕ) (stmt : LStmt) → StaysInLoop false stmt → HasAt code at (stmt_code t x at n stmt) → IsStop (slice_get code at)
    stmt_first t x at n (s.If' e ka a kb b) f h = is_stop at n h.0
    stmt_first t x at n (s.Loop' kc c e kb b kd d) f h =
        let h1 = has_back code at (rows_size c) (rows_code t x at n c) _ (rows_length t x at n c) h in
        rows_first t x at n c f.0 (has_front code at (rows_code t x at n c) _ h) (is_stop (at + rows_size c) (n + counts c) h1.0)
    stmt_first t x at n s.Break f h = absurd (is_false f)
    stmt_first t x at n s.Continue f h = absurd (is_false f)
    stmt_first t x at n simple f h = is_stop at n h.0

    rows_first : (t : ℕ → ℕ) (x : Exits) (at n : ℕ) {m : _} (row : Row_of-LStmt m) → StayInLoop false row → HasAt code at (rows_code t x at n row) → IsStop (slice_get code (at + rows_size row)) → IsStop (slice_get code at)
    rows_first t x at n end_of-LStmt f h k = let e : at + 0 ≡ at = omega arith in subst (λ b. IsStop (slice_get code b)) e k
    rows_first t x at n (more_of-LStmt s rest) f h k = stmt_first t x at n s f.0 (has_front code at (stmt_code t x at n s) _ h)

  over_ahead : {m : _} (b : Row_of-LStmt m) (at to : ℕ) → at + over b ≤ to → AllAhead at (jump_over b to)
  over_ahead end_of-LStmt at to h = tt
  over_ahead (more_of-LStmt s rest) at to h = (inl (omega (arith, h)), tt)

  mutual
    unfolding count counts stmt_size rows_size stmt_code rows_code StaysInLoop StayInLoop

    pub stmt_ahead : (t : ℕ → ℕ) (x : Exits) (b : Bool) (at n : ℕ) (stmt : LStmt) → at + stmt_size stmt ≤ x.leave → at + stmt_size stmt ≤ x.again → StaysInLoop b stmt → HasAt code at (stmt_code t x at n stmt) → AllAhead at (stmt_code t x at n stmt)
    stmt_ahead t x within at n (s.If' e ka a kb b) l g f h =
        let yes = at + act_size (Test e) + 1 in
        let mid = yes + rows_size a in
        let no = mid + over b in
        let h1 = has_back code at (act_size (Test e)) (act_code t at n (Test e)) _ (act_length t at n (Test e)) h in
        let h2 = has_back code yes (rows_size a) (rows_code t x yes (n + 1) a) _ (rows_length t x yes (n + 1) a) h1.1 in
        let hb = has_back code mid (over b) (jump_over b (no + rows_size b)) _ (over_length b (no + rows_size b)) h2 in
        let ra = rows_ahead t x within yes (n + 1) a (omega (arith, l)) (omega (arith, g)) f.0 (has_front code yes (rows_code t x yes (n + 1) a) _ h1.1) in
        let rb = rows_ahead t x within no (n + 1 + counts a) b (omega (arith, l)) (omega (arith, g)) f.1 hb in
        both Ahead at (act_size (Test e)) (act_code t at n (Test e)) _ (act_length t at n (Test e)) (act_ahead t at n (Test e)) (omega arith, both Ahead yes (rows_size a) (rows_code t x yes (n + 1) a) _ (rows_length t x yes (n + 1) a) ra (both Ahead mid (over b) (jump_over b (no + rows_size b)) _ (over_length b (no + rows_size b)) (over_ahead b mid (no + rows_size b) (omega arith)) rb))
    stmt_ahead t x within at n (s.Loop' kc c e kb b kd d) l g f h =
        let test = at + rows_size c in
        let body = test + act_size (Test e) + 1 in
        let step = body + rows_size b in
        let end = step + rows_size d in
        let nt = n + counts c in
        let ns = nt + 1 + counts b in
        let ne = ns + counts d in
        let inner : Exits = record { leave = end + 3; again = step } in
        let h1 = has_back code at (rows_size c) (rows_code t x at n c) _ (rows_length t x at n c) h in
        let h2 = has_back code test (act_size (Test e)) (act_code t test nt (Test e)) _ (act_length t test nt (Test e)) h1 in
        let h3 = has_back code body (rows_size b) (rows_code t inner body (nt + 1) b) _ (rows_length t inner body (nt + 1) b) h2.1 in
        let hc = has_front code at (rows_code t x at n c) _ h in
        let hd = has_front code step (rows_code t x step ns d) _ h3 in
        let stop = rows_first t x at n c f.0 hc (is_stop test nt h1.0) in
        let rc = rows_ahead t x false at n c (omega (arith, l)) (omega (arith, g)) f.0 hc in
        let rb = rows_ahead t inner true body (nt + 1) b (omega arith) (omega arith) f.1 (has_front code body (rows_code t inner body (nt + 1) b) _ h2.1) in
        let rd = rows_ahead t x false step ns d (omega (arith, l)) (omega (arith, g)) f.2 hd in
        both Ahead at (rows_size c) (rows_code t x at n c) _ (rows_length t x at n c) rc (both Ahead test (act_size (Test e)) (act_code t test nt (Test e)) _ (act_length t test nt (Test e)) (act_ahead t test nt (Test e)) (omega arith, both Ahead body (rows_size b) (rows_code t inner body (nt + 1) b) _ (rows_length t inner body (nt + 1) b) rb (both Ahead step (rows_size d) (rows_code t x step ns d) _ (rows_length t x step ns d) rd (tt, (tt, (inr stop, tt))))))
    stmt_ahead t x within at n s.Break l g f h = (inl (omega (arith, l)), tt)
    stmt_ahead t x within at n s.Continue l g f h = (inl (omega (arith, g)), tt)
    stmt_ahead t x within at n simple l g f h = act_ahead t at n (Do simple)

    pub rows_ahead : (t : ℕ → ℕ) (x : Exits) (b : Bool) (at n : ℕ) {m : _} (row : Row_of-LStmt m) → at + rows_size row ≤ x.leave → at + rows_size row ≤ x.again → StayInLoop b row → HasAt code at (rows_code t x at n row) → AllAhead at (rows_code t x at n row)
    rows_ahead t x within at n end_of-LStmt l g f h = tt
    rows_ahead t x within at n (more_of-LStmt s rest) l g f h =
        both Ahead at (stmt_size s) (stmt_code t x at n s) _ (stmt_length t x at n s) (stmt_ahead t x within at n s (omega (arith, l)) (omega (arith, g)) f.0 (has_front code at (stmt_code t x at n s) _ h)) (rows_ahead t x within (at + stmt_size s) (n + count s) rest (omega (arith, l)) (omega (arith, g)) f.1 (has_back code at (stmt_size s) (stmt_code t x at n s) _ (stmt_length t x at n s) h))

-- the `after` of each call stands where its rebuilding part jumps to
abbrev AllStop : List Instr → List Called → Type 0
AllStop code [] = Unit {0}
AllStop code (c ∷ rest) = IsStop (slice_get code c.after) × AllStop code rest

call_stops : (t : ℕ → ℕ) (code : List Instr) (n m : ℕ) (a : Act) (rest : List Called) → HasAt code m (act_code t m n a) → AllStop code rest → AllStop code (called_at n m a ++ rest)
call_stops t code n m (Do (s.Call to g args)) rest h r =
    let h1 = has_back code (m + 1) (sizes args) (args_code (m + 1) args) _ (args_length (m + 1) args) h.1 in
    (subst IsStop (sym h1.1.0) tt, r)
call_stops t code n m a rest h r = r

calls_stop : (t : ℕ → ℕ) (code : List Instr) (ms : List ℕ) (n : ℕ) (ps : List Place) (ms' : List ℕ) → Blocks t code ms n ps → HasAt ms n ms' → AllStop code (called_in n ps ms')
calls_stop t code ms n [] ms' b h = tt
calls_stop t code ms n (x ∷ ps) [] b h = tt
calls_stop t code ms n (x ∷ ps) (m ∷ ms') b h =
    let same : b.0.at ≡ m = some_same b.0.at m (sym b.0.mark ∙ h.0) in
    call_stops t code n m x.act (called_in (n + 1) ps ms') (subst (λ k. HasAt code k (act_code t k n x.act)) same b.0.has) (calls_stop t code ms (n + 1) ps ms' b.1 h.1)

zeros_ahead : (code : List Instr) (at n : ℕ) → AllAhead code at (replicate n (i.Const (pos 0)))
zeros_ahead code at zero = tt
zeros_ahead code at (suc n) = (tt, zeros_ahead code (at + 1) n)

parts_ahead : (p : Lifted) (code : List Instr) (at : ℕ) (cs : List Called) → AllStop code cs → AllAhead code at (parts p cs)
parts_ahead p code at [] h = tt
parts_ahead p code at (c ∷ rest) h =
    let n = (function_of p c.callee).params in
    let zs = replicate n (i.Const (pos 0)) in
    both (Ahead code) at (n + 2) (part p c.callee c.after) (parts p rest) (part_length p c.callee c.after) (both (Ahead code) at n zs _ (length-replicate n (i.Const (pos 0))) (zeros_ahead code at n) (tt, (inr h.0, tt))) (parts_ahead p code (at + (n + 2)) rest h.1)

-- the whole code of a function
pub body_ahead : (p : Lifted) (t : ℕ → ℕ) (f : LFunction) → StayInLoop false (row_of f.body) → AllAhead (body_of p t f) 0 (body_of p t f)
body_ahead p t f formed =
    let row = row_of f.body in
    let code = body_of p t f in
    let last = 3 + rows_size row in
    let h = has_all code in
    let hr = has_front code 3 (rows_code t (outside f) 3 1 row) _ h.1.1.1 in
    let rows = rows_ahead code t (outside f) false 3 1 row (omega arith) (omega arith) formed hr in
    let stops = calls_stop t code (marks f) 0 (places f) (marks f) (function_blocks p t f) (has_all (marks f)) in
    (tt, (tt, (tt, both (Ahead code) 3 (rows_size row) (rows_code t (outside f) 3 1 row) _ (rows_length t (outside f) 3 1 row) rows (both (Ahead code) last 3 (act_code t last (1 + counts row) Finish) (parts p (calls_of f)) refl (act_ahead code t last (1 + counts row) Finish) (parts_ahead p code (last + 3) (calls_of f) stops)))))

bodies_ahead : (p : Lifted) (from : ℕ) (fs : List LFunction) (k : ℕ) → All (λ f. StayInLoop false (row_of f.body)) fs
    → AllAhead (slice_index_or (functions_code p from fs) k no_code).body 0 (slice_index_or (functions_code p from fs) k no_code).body
bodies_ahead p from [] k h = tt
bodies_ahead p from (f ∷ rest) zero h = body_ahead p (text_number f from) f (h 0 f (omega arith))
bodies_ahead p from (f ∷ rest) (suc k) h = bodies_ahead p (from + length (texts_in (places f))) rest k (λ j d l. h (suc j) d (omega (arith, l)))

program_ahead : (p : Lifted) (f at : ℕ) (x : Instr) → IsFormed p → slice_get (body_at p f) at ≡ Some x → Ahead (body_at p f) at x
program_ahead p f at x formed e = everywhere_at (Ahead (body_at p f)) at (body_at p f) x (bodies_ahead p 0 p.functions f formed.loops) e

-- a jump of a formed program's code goes forward or to a stop
pub jumps_stop : law.JumpsStop
jumps_stop p f at to formed e = program_ahead p f at (i.Jump to) formed e

-- a test of a formed program's code goes forward
pub tests_go_forward : law.TestsGoForward
tests_go_forward p f at to formed e = program_ahead p f at (i.Jz to) formed e

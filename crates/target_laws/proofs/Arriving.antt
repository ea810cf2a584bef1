-- Behind each effect of the code nothing can fail up to the next mark.
use Rattle.std.proofs.Common.{◌≡◌, ◌⊎◌, inl, inr, ℕ, zero, suc, ◌+◌, ◌<◌, List, [], ◌∷◌, ◌++◌, length, replicate, Some, None, pos, refl, sym, ap, ◌∙◌, subst, arith}
use Rattle.std.specs.Prelude.{slice_get, slice_index_or}
use Rattle.std.proofs.lemmas.List.{length-replicate}
use Rattle.c_tree.specs.declared.lifted.Dest.{Dest}
use Rattle.c_tree.specs.declared.lifted.Dest.TheVariants as d
use Rattle.c_tree.specs.declared.lifted.LExpr.{LExpr, more_of-LExpr as only}
use Rattle.c_tree.specs.declared.lifted.LExpr.TheVariants as e
use Rattle.c_tree.specs.declared.lifted.LFunction.{LFunction}
use Rattle.c_tree.specs.declared.lifted.LStmt.{LStmt, Row_of-LStmt, end_of-LStmt, more_of-LStmt}
use Rattle.c_tree.specs.declared.lifted.LStmt.TheBlock.{hidden-the_row-LStmt-0 as row_of}
use Rattle.c_tree.specs.declared.lifted.LStmt.TheVariants as s
use Rattle.c_tree.specs.declared.lifted.Lifted.{Lifted}
use Rattle.c_tree.specs.declared.op.BinOp.{BinOp}
use Rattle.c_tree.specs.declared.op.BinOp.TheVariants as bin
use Rattle.c_tree.specs.declared.op.UnOp.TheVariants as un
use Rattle.c_tree.specs.declared.place.Act.{Act}
use Rattle.c_tree.specs.declared.place.Act.TheVariants.{Enter, Do, Test, EndLoop, Finish}
use Rattle.c_tree.specs.declared.place.Exits.{Exits}
use Rattle.c_tree.specs.Layout.{count, counts, places}
use Rattle.c_tree.specs.Step.{function_of}
use Rattle.target_code.specs.declared.activation.Activation.{Activation}
use Rattle.target_code.specs.declared.code.CodeFunction.{CodeFunction}
use Rattle.target_code.specs.declared.instr.Instr.{Instr}
use Rattle.target_code.specs.declared.instr.Instr.TheVariants as i
use Rattle.target_code.specs.Between.{Path, Wait, AllWait, activation, acts, body_at}
use Rattle.target_code.specs.Target.{Target, below_of}
use Rattle.target_code.specs.Code.{do_code, do_size, act_code, act_size, over, jump_over, stmt_size, rows_size, stmt_code, rows_code, marks, outside, Called, calls_of, part, parts, body_of, functions_code, text_number, texts_in}
use Rattle.target_code.specs.Machine.{no_code}
use Rattle.target_code.specs.Operands.{size, bin_code, expr_code, sizes, args_code, dest_size, dest_code, store_instr}
use Rattle.target_laws.specs.Effects.{IsCalm, IsMark, IsArriving, HasEffect, IsStore}
use Rattle.target_laws.specs.Effects as law
use Rattle.target_laws.proofs.Blocks.{HasAt, has_front, has_back, has_all}
use Rattle.target_laws.proofs.Everywhere.{AllAt, both, everywhere_at}
use Rattle.target_laws.proofs.Lengths.{expr_length, args_length, dest_length, act_length, over_length, stmt_length, rows_length}
use Rattle.target_laws.proofs.Parts.{part_length}
use Rattle.target_laws.proofs.Places.{some_same, code_at, mark_here}

module _ (code : List Instr) where
  -- behind the instruction at a position nothing can fail, where it has an effect
  abbrev pub Safe : ℕ → Instr → Type 0
  Safe at (i.Spawn g) = IsStore (slice_get code (at + 1)) × IsArriving code (at + 1 + 1)
  Safe at x = HasEffect x → IsArriving code (at + 1)

  abbrev pub AllSafe : ℕ → List Instr → Type 0
  AllSafe at is = AllAt Safe at is

  arrives_at : (at to : ℕ) → at ≡ to → IsArriving code at → IsArriving code to
  arrives_at at to e h = subst (λ k. IsArriving code k) e h

  at_mark : (at n : ℕ) → slice_get code at ≡ Some (i.Mark n) → IsArriving code at
  at_mark at n h = (zero, subst IsMark (sym h) tt)

  at_jump : (at to : ℕ) → slice_get code at ≡ Some (i.Jump to) → IsArriving code to → IsArriving code at
  at_jump at to h k = (suc k.0, inr (to, h, k.1))

  at_calm : (at : ℕ) (x : Instr) → slice_get code at ≡ Some x → IsCalm (Some x) → IsArriving code (at + 1) → IsArriving code at
  at_calm at x h c k = (suc k.0, inl (subst IsCalm (sym h) c, k.1))

  bin_safe : (op : BinOp) (at x y : ℕ) (a : List Instr) (b : ℕ → List Instr) → length a ≡ x → ((from : ℕ) → length (b from) ≡ y) → AllSafe at a → ((from : ℕ) → AllSafe from (b from)) → AllSafe at (bin_code op at x y a b)
  bin_safe bin.And at x y a b la lb ha hb =
      both Safe at x a _ la ha (λ h. absurd h, both Safe (at + x + 1) y (b (at + x + 1)) _ (lb (at + x + 1)) (hb (at + x + 1)) (λ h. absurd h, (λ h. absurd h, (λ h. absurd h, (λ h. absurd h, tt)))))
  bin_safe bin.Or at x y a b la lb ha hb =
      let f : at + x + 3 ≡ at + x + 1 + 1 + 1 = omega arith in
      both Safe at x a _ la ha (λ h. absurd h, (λ h. absurd h, (λ h. absurd h, subst (λ k. AllSafe k (b (at + x + 3) ++ i.Un un.Not ∷ i.Un un.Not ∷ [])) f (both Safe (at + x + 3) y (b (at + x + 3)) _ (lb (at + x + 3)) (hb (at + x + 3)) (λ h. absurd h, (λ h. absurd h, tt))))))
  bin_safe op at x y a b la lb ha hb = both Safe at x a _ la ha (both Safe (at + x) y (b (at + x)) _ (lb (at + x)) (hb (at + x)) (λ h. absurd h, tt))

  expr_safe : (at : ℕ) (e : LExpr) → AllSafe at (expr_code at e)
  unfolding size expr_code
  expr_safe at (e.Num n) = (λ h. absurd h, tt)
  expr_safe at e.Null = (λ h. absurd h, tt)
  expr_safe at (e.Slot k) = (λ h. absurd h, tt)
  expr_safe at (e.Global g) = (λ h. absurd h, tt)
  expr_safe at (e.Own k) = (λ h. absurd h, tt)
  expr_safe at (e.Elem' g _ (only x _)) = both Safe at (size x) (expr_code at x) _ (expr_length at x) (expr_safe at x) (λ h. absurd h, tt)
  expr_safe at (e.Field' _ (only p _) owner field) = both Safe at (size p) (expr_code at p) _ (expr_length at p) (expr_safe at p) (λ h. absurd h, tt)
  expr_safe at (e.Un' op _ (only a _)) = both Safe at (size a) (expr_code at a) _ (expr_length at a) (expr_safe at a) (λ h. absurd h, tt)
  expr_safe at (e.Bin' op _ (only a _) _ (only b _)) =
      bin_safe op at (size a) (size b) (expr_code at a) (λ from. expr_code from b) (expr_length at a) (λ from. expr_length from b) (expr_safe at a) (λ from. expr_safe from b)

  args_safe : (at : ℕ) (es : List LExpr) → AllSafe at (args_code at es)
  args_safe at [] = tt
  args_safe at (e ∷ rest) = both Safe at (size e) (expr_code at e) _ (expr_length at e) (expr_safe at e) (args_safe (at + size e) rest)

  dest_safe : (at : ℕ) (to : Dest) → AllSafe at (dest_code at to)
  dest_safe at (d.Slot k) = tt
  dest_safe at (d.Global k) = tt
  dest_safe at (d.Elem k x) = expr_safe at x
  dest_safe at (d.Field x owner field) = expr_safe at x

  store_safe : (at : ℕ) (to : Dest) → IsArriving code (at + 1) → Safe at (store_instr to)
  store_safe at (d.Slot k) h = λ _. h
  store_safe at (d.Global k) h = λ _. h
  store_safe at (d.Elem k x) h = λ _. h
  store_safe at (d.Field x owner field) h = λ _. h

  is_store : (at : ℕ) (to : Dest) → slice_get code at ≡ Some (store_instr to) → IsStore (slice_get code at)
  is_store at (d.Slot k) h = subst IsStore (sym h) tt
  is_store at (d.Global k) h = subst IsStore (sym h) tt
  is_store at (d.Elem k x) h = subst IsStore (sym h) tt
  is_store at (d.Field x owner field) h = subst IsStore (sym h) tt

  do_safe : (t : ℕ → ℕ) (at n : ℕ) (stmt : LStmt) → IsArriving code (at + do_size stmt) → HasAt code at (do_code t at n stmt) → AllSafe at (do_code t at n stmt)
  do_safe t at n (s.Assign to e) k h =
      let from = at + dest_size to in
      let last = from + size e in
      both Safe at (dest_size to) (dest_code at to) _ (dest_length at to) (dest_safe at to) (both Safe from (size e) (expr_code from e) _ (expr_length from e) (expr_safe from e) (store_safe last to (arrives_at _ (last + 1) (omega arith) k), tt))
  do_safe t at n (s.New slot owner) k h =
      let end = arrives_at _ (at + 1 + 1) (omega arith) k in
      (λ _. at_calm (at + 1) (i.Set slot) h.1.0 tt end, (λ _. end, tt))
  do_safe t at n (s.Getc slot) k h =
      let end = arrives_at _ (at + 1 + 1) (omega arith) k in
      (λ _. at_calm (at + 1) (i.Set slot) h.1.0 tt end, (λ _. end, tt))
  do_safe t at n (s.Print text args) k h =
      let last = at + sizes args in
      both Safe at (sizes args) (args_code at args) _ (args_length at args) (args_safe at args) (λ _. arrives_at _ (last + 1) (omega arith) k, tt)
  do_safe t at n (s.Free e) k h =
      let last = at + size e in
      both Safe at (size e) (expr_code at e) _ (expr_length at e) (expr_safe at e) (λ _. arrives_at _ (last + 1) (omega arith) k, tt)
  do_safe t at n (s.Call to f args) k h =
      let last = at + sizes args + 1 in
      both Safe at (sizes args) (args_code at args) _ (args_length at args) (args_safe at args) (λ g. absurd g, (λ _. arrives_at _ (last + 1) (omega arith) k, tt))
  do_safe t at n (s.Spawn to f e) k h =
      let from = at + dest_size to in
      let last = from + size e in
      let end = arrives_at _ (last + 1 + 1) (omega arith) k in
      let h1 = has_back code at (dest_size to) (dest_code at to) _ (dest_length at to) h in
      let h2 = has_back code from (size e) (expr_code from e) _ (expr_length from e) h1 in
      both Safe at (dest_size to) (dest_code at to) _ (dest_length at to) (dest_safe at to) (both Safe from (size e) (expr_code from e) _ (expr_length from e) (expr_safe from e) ((is_store (last + 1) to h2.1.0, end), (store_safe (last + 1) to end, tt)))
  do_safe t at n (s.Join e) k h =
      let last = at + 1 + size e in
      (λ g. absurd g, both Safe (at + 1) (size e) (expr_code (at + 1) e) _ (expr_length (at + 1) e) (expr_safe (at + 1) e) (λ _. arrives_at _ (last + 1) (omega arith) k, tt))
  do_safe t at n (s.Lock m) k h = (λ g. absurd g, (λ _. arrives_at _ (at + 1 + 1) (omega arith) k, tt))
  do_safe t at n (s.Unlock m) k h = (λ _. k, tt)
  do_safe t at n (s.Return None) k h = (λ g. absurd g, (λ g. absurd g, tt))
  do_safe t at n (s.Return (Some e)) k h = both Safe at (size e) (expr_code at e) _ (expr_length at e) (expr_safe at e) (λ g. absurd g, tt)
  do_safe t at n _ k h = tt

  act_safe : (t : ℕ → ℕ) (at n : ℕ) (a : Act) → IsArriving code (at + act_size a) → HasAt code at (act_code t at n a) → AllSafe at (act_code t at n a)
  act_safe t at n Enter k h = (λ g. absurd g, (λ g. absurd g, tt))
  act_safe t at n (Do stmt) k h = (λ g. absurd g, do_safe t (at + 1) n stmt (arrives_at _ _ (omega arith) k) h.1)
  act_safe t at n (Test e) k h = (λ g. absurd g, expr_safe (at + 1) e)
  act_safe t at n EndLoop k h = (λ g. absurd g, (λ g. absurd g, tt))
  act_safe t at n Finish k h = (λ g. absurd g, (λ g. absurd g, (λ g. absurd g, tt)))

  mutual
    unfolding count counts stmt_size rows_size stmt_code rows_code

    -- a statement begins at a mark, or at a jump to an exit
    stmt_arrives : (t : ℕ → ℕ) (x : Exits) (at n : ℕ) (stmt : LStmt) → IsArriving code x.leave → IsArriving code x.again → HasAt code at (stmt_code t x at n stmt) → IsArriving code at
    stmt_arrives t x at n (s.If' e ka a kb b) l g h = at_mark at n h.0
    stmt_arrives t x at n (s.Loop' kc c e kb b kd d) l g h =
        let h1 = has_back code at (rows_size c) (rows_code t x at n c) _ (rows_length t x at n c) h in
        rows_arrive t x at n c l g (has_front code at (rows_code t x at n c) _ h) (at_mark (at + rows_size c) (n + counts c) h1.0)
    stmt_arrives t x at n s.Break l g h = at_jump at x.leave h.0 l
    stmt_arrives t x at n s.Continue l g h = at_jump at x.again h.0 g
    stmt_arrives t x at n simple l g h = at_mark at n h.0

    -- so do statements, where what stands behind them does
    rows_arrive : (t : ℕ → ℕ) (x : Exits) (at n : ℕ) {m : _} (row : Row_of-LStmt m) → IsArriving code x.leave → IsArriving code x.again → HasAt code at (rows_code t x at n row) → IsArriving code (at + rows_size row) → IsArriving code at
    rows_arrive t x at n end_of-LStmt l g h k = arrives_at _ at (omega arith) k
    rows_arrive t x at n (more_of-LStmt s rest) l g h k = stmt_arrives t x at n s l g (has_front code at (stmt_code t x at n s) _ h)

  over_safe : {m : _} (b : Row_of-LStmt m) (at to : ℕ) → AllSafe at (jump_over b to)
  over_safe end_of-LStmt at to = tt
  over_safe (more_of-LStmt s rest) at to = (λ g. absurd g, tt)

  -- behind the first branch of an `if` stand the jump past the other one, or what stands behind both
  over_arrives : {m : _} (b : Row_of-LStmt m) (at : ℕ) → HasAt code at (jump_over b (at + over b + rows_size b)) → IsArriving code (at + over b + rows_size b) → IsArriving code at
  unfolding rows_size
  over_arrives end_of-LStmt at h k = arrives_at _ at (omega arith) k
  over_arrives (more_of-LStmt s rest) at h k = at_jump at _ h.0 k

  mutual
    unfolding count counts stmt_size rows_size stmt_code rows_code

    stmt_safe : (t : ℕ → ℕ) (x : Exits) (at n : ℕ) (stmt : LStmt) → IsArriving code (at + stmt_size stmt) → IsArriving code x.leave → IsArriving code x.again → HasAt code at (stmt_code t x at n stmt) → AllSafe at (stmt_code t x at n stmt)
    stmt_safe t x at n (s.If' e ka a kb b) k l g h =
        let yes = at + act_size (Test e) + 1 in
        let mid = yes + rows_size a in
        let no = mid + over b in
        let end = arrives_at _ (no + rows_size b) (omega arith) k in
        let h0 = has_front code at (act_code t at n (Test e)) _ h in
        let h1 = has_back code at (act_size (Test e)) (act_code t at n (Test e)) _ (act_length t at n (Test e)) h in
        let ha = has_front code yes (rows_code t x yes (n + 1) a) _ h1.1 in
        let h2 = has_back code yes (rows_size a) (rows_code t x yes (n + 1) a) _ (rows_length t x yes (n + 1) a) h1.1 in
        let hm = has_front code mid (jump_over b (no + rows_size b)) _ h2 in
        let hb = has_back code mid (over b) (jump_over b (no + rows_size b)) _ (over_length b (no + rows_size b)) h2 in
        let ra = rows_safe t x yes (n + 1) a (over_arrives b mid hm end) l g ha in
        let rb = rows_safe t x no (n + 1 + counts a) b end l g hb in
        both Safe at (act_size (Test e)) (act_code t at n (Test e)) _ (act_length t at n (Test e)) (λ q. absurd q, expr_safe (at + 1) e) (λ q. absurd q, both Safe yes (rows_size a) (rows_code t x yes (n + 1) a) _ (rows_length t x yes (n + 1) a) ra (both Safe mid (over b) (jump_over b (no + rows_size b)) _ (over_length b (no + rows_size b)) (over_safe b mid (no + rows_size b)) rb))
    stmt_safe t x at n (s.Loop' kc c e kb b kd d) k l g h =
        let test = at + rows_size c in
        let body = test + act_size (Test e) + 1 in
        let step = body + rows_size b in
        let end = step + rows_size d in
        let nt = n + counts c in
        let ns = nt + 1 + counts b in
        let ne = ns + counts d in
        let inner : Exits = record { leave = end + 3; again = step } in
        let behind = arrives_at _ (end + 3) (omega arith) k in
        let hc = has_front code at (rows_code t x at n c) _ h in
        let h1 = has_back code at (rows_size c) (rows_code t x at n c) _ (rows_length t x at n c) h in
        let h2 = has_back code test (act_size (Test e)) (act_code t test nt (Test e)) _ (act_length t test nt (Test e)) h1 in
        let hb = has_front code body (rows_code t inner body (nt + 1) b) _ h2.1 in
        let h3 = has_back code body (rows_size b) (rows_code t inner body (nt + 1) b) _ (rows_length t inner body (nt + 1) b) h2.1 in
        let hd = has_front code step (rows_code t x step ns d) _ h3 in
        let h4 = has_back code step (rows_size d) (rows_code t x step ns d) _ (rows_length t x step ns d) h3 in
        let at_end = at_mark end ne h4.0 in
        let at_step = rows_arrive t x step ns d l g hd at_end in
        let rc = rows_safe t x at n c (at_mark test nt h1.0) l g hc in
        let rb = rows_safe t inner body (nt + 1) b at_step behind at_step hb in
        let rd = rows_safe t x step ns d at_end l g hd in
        both Safe at (rows_size c) (rows_code t x at n c) _ (rows_length t x at n c) rc (both Safe test (act_size (Test e)) (act_code t test nt (Test e)) _ (act_length t test nt (Test e)) (λ q. absurd q, expr_safe (test + 1) e) (λ q. absurd q, both Safe body (rows_size b) (rows_code t inner body (nt + 1) b) _ (rows_length t inner body (nt + 1) b) rb (both Safe step (rows_size d) (rows_code t x step ns d) _ (rows_length t x step ns d) rd (λ q. absurd q, (λ q. absurd q, (λ q. absurd q, tt))))))
    stmt_safe t x at n s.Break k l g h = (λ q. absurd q, tt)
    stmt_safe t x at n s.Continue k l g h = (λ q. absurd q, tt)
    stmt_safe t x at n simple k l g h = act_safe t at n (Do simple) k h

    rows_safe : (t : ℕ → ℕ) (x : Exits) (at n : ℕ) {m : _} (row : Row_of-LStmt m) → IsArriving code (at + rows_size row) → IsArriving code x.leave → IsArriving code x.again → HasAt code at (rows_code t x at n row) → AllSafe at (rows_code t x at n row)
    rows_safe t x at n end_of-LStmt k l g h = tt
    rows_safe t x at n (more_of-LStmt s rest) k l g h =
        let next = at + stmt_size s in
        let hs = has_front code at (stmt_code t x at n s) _ h in
        let hr = has_back code at (stmt_size s) (stmt_code t x at n s) _ (stmt_length t x at n s) h in
        let end = arrives_at _ (next + rows_size rest) (omega arith) k in
        both Safe at (stmt_size s) (stmt_code t x at n s) _ (stmt_length t x at n s) (stmt_safe t x at n s (rows_arrive t x next (n + count s) rest l g hr end) l g hs) (rows_safe t x next (n + count s) rest end l g hr)

  zeros_safe : (at n : ℕ) → AllSafe at (replicate n (i.Const (pos 0)))
  zeros_safe at zero = tt
  zeros_safe at (suc n) = (λ q. absurd q, zeros_safe (at + 1) n)

  parts_safe : (p : Lifted) (at : ℕ) (cs : List Called) → AllSafe at (parts p cs)
  parts_safe p at [] = tt
  parts_safe p at (c ∷ rest) =
      let n = (function_of p c.callee).params in
      let zs = replicate n (i.Const (pos 0)) in
      both Safe at (n + 2) (part p c.callee c.after) (parts p rest) (part_length p c.callee c.after) (both Safe at n zs _ (length-replicate n (i.Const (pos 0))) (zeros_safe at n) (λ q. absurd q, (λ q. absurd q, tt))) (parts_safe p (at + (n + 2)) rest)

-- the whole code of a function
body_safe : (p : Lifted) (t : ℕ → ℕ) (f : LFunction) → AllSafe (body_of p t f) 0 (body_of p t f)
body_safe p t f =
    let row = row_of f.body in
    let code = body_of p t f in
    let last = 3 + rows_size row in
    let ne = 1 + counts row in
    let h = has_all code in
    let hr = has_front code 3 (rows_code t (outside f) 3 1 row) _ h.1.1.1 in
    let hl = has_back code 3 (rows_size row) (rows_code t (outside f) 3 1 row) _ (rows_length t (outside f) 3 1 row) h.1.1.1 in
    let at_last = at_mark code last ne hl.0 in
    let rows = rows_safe code t (outside f) 3 1 row at_last at_last at_last hr in
    (λ q. absurd q, (λ q. absurd q, (λ q. absurd q, both (Safe code) 3 (rows_size row) (rows_code t (outside f) 3 1 row) _ (rows_length t (outside f) 3 1 row) rows (both (Safe code) last 3 (act_code t last ne Finish) (parts p (calls_of f)) refl (λ q. absurd q, (λ q. absurd q, (λ q. absurd q, tt))) (parts_safe code p (last + 3) (calls_of f))))))

bodies_safe : (p : Lifted) (from : ℕ) (fs : List LFunction) (k : ℕ) → (let code = (slice_index_or (functions_code p from fs) k no_code).body in AllSafe code 0 code)
bodies_safe p from [] k = tt
bodies_safe p from (f ∷ rest) zero = body_safe p (text_number f from) f
bodies_safe p from (f ∷ rest) (suc k) = bodies_safe p (from + length (texts_in (places f))) rest k

program_safe : (p : Lifted) (f at : ℕ) (x : Instr) → slice_get (body_at p f) at ≡ Some x → Safe (body_at p f) at x
program_safe p f at x e = everywhere_at (Safe (body_at p f)) at (body_at p f) x (bodies_safe p 0 p.functions f) e

effect_safe : (code : List Instr) (at : ℕ) (x : Instr) → HasEffect x → Safe code at x → IsArriving code (at + 1)
effect_safe code at (i.Spawn g) h s = absurd h
effect_safe code at x h s = s h

-- behind an effect nothing can fail
pub effects_arrive : law.EffectsArrive
effects_arrive p f at x formed e h = effect_safe (body_at p f) at x h (program_safe p f at x e)

-- behind a `spawn` stands a store
pub spawns_store : law.SpawnsStore
spawns_store p f at g formed e = program_safe p f at (i.Spawn g) e

-- the code of a function that is there is that of its statements
body_is : (p : Lifted) (f : ℕ) (within : f < length p.functions) → body_at p f ≡ body_of p (code_at p f within).t (function_of p f)
body_is p f within = ap (λ (c : CodeFunction). c.body) (code_at p f within).is

-- a function begins with its `restore` and a mark
pub functions_begin : law.FunctionsBegin
functions_begin p f within =
    let is = body_is p f within in
    (ap (λ code. slice_get code 0) is, ap (λ code. slice_get code 1) is)

-- a function begins with what can't fail
pub functions_arrive : law.FunctionsArrive
functions_arrive p f within = subst (λ code. IsArriving code 0) (sym (body_is p f within)) (suc zero, inl (tt, tt))

path_arrives : (p : Lifted) (t : ℕ → ℕ) (f : LFunction) (k at n : ℕ) → Path (body_of p t f) (marks f) k at n → IsArriving (body_of p t f) at
path_arrives p t f zero at n h = at_mark (body_of p t f) at n (mark_here p t f n at h)
path_arrives p t f (suc k) at n h = at_jump (body_of p t f) at h.0 h.1 (path_arrives p t f k h.0 n h.2)

-- from where a caller goes on nothing can fail
pub callers_arrive : law.CallersArrive
callers_arrive p x w =
    let f = function_of p x.frame.function in
    let code = body_at p x.frame.function in
    let t = (code_at p x.frame.function w.fits.within).t in
    let is = body_is p x.frame.function w.fits.within in
    let path = subst (λ b. Path b (marks f) w.leads.0 (w.after + 1) w.next) is w.leads.1 in
    let behind = subst (λ b. IsArriving b (w.after + 1)) (sym is) (path_arrives p t f w.leads.0 (w.after + 1) w.next path) in
    let from = at_calm code w.after (i.After x.frame.place w.to) w.has tt behind in
    at w.at from where
      at : ((x.pc ≡ w.after) ⊎ (slice_get (body_at p x.frame.function) x.pc ≡ Some (i.Jump w.after))) → IsArriving (body_at p x.frame.function) w.after → IsArriving (body_at p x.frame.function) x.pc
      at (inl e) from = subst (λ k. IsArriving (body_at p x.frame.function) k) (sym e) from
      at (inr e) from = at_jump (body_at p x.frame.function) x.pc w.after e from

wait_arrives : (p : Lifted) (ws : List Wait) (n : ℕ) (a : Activation) → AllWait p ws → slice_get (acts ws) n ≡ Some a → IsArriving (body_at p a.function) a.pc
wait_arrives p [] n a h e = cc
wait_arrives p (w ∷ ws) zero a h e =
    subst (λ (b : Activation). IsArriving (body_at p b.function) b.pc) (some_same (activation w) a e) (callers_arrive p w h.0)
wait_arrives p (w ∷ ws) (suc n) a h e = wait_arrives p ws n a h.1 e

-- from where an activation that waits goes on nothing can fail
pub returns_arrive : law.ReturnsArrive
returns_arrive p x n a r e = wait_arrives p r.waits n a r.wait (sym (ap (λ (y : Target). slice_get (below_of y.activations) n) r.is) ∙ e)

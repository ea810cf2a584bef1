-- The instructions of an expression push its value, or end in its trap.
use Rattle.std.proofs.Common.{◌≡◌, ℕ, zero, suc, ◌+◌, ℤ, pos, negsuc, List, [], ◌∷◌, ◌++◌, length, Option, Some, Result, Ok, Err, refl, ap, ◌∙◌, subst, arith}
use Rattle.std.specs.Prelude.{slice_get, slice_index_or, if◌then◌else◌, not}
use Rattle.c_tree.specs.declared.lifted.LExpr.{LExpr, more_of-LExpr as only}
use Rattle.c_tree.specs.declared.lifted.LExpr.TheVariants as e
use Rattle.c_tree.specs.declared.op.BinOp.{BinOp}
use Rattle.c_tree.specs.declared.op.BinOp.TheVariants as bin
use Rattle.c_tree.specs.declared.op.UnOp.TheVariants as un
use Rattle.c_tree.specs.declared.state.Trap.{Trap}
use Rattle.c_tree.specs.Value.{View, is_true, number, and_then, unary, binary, combined, element, field_of, value}
use Rattle.target_code.specs.declared.instr.Instr.{Instr}
use Rattle.target_code.specs.declared.instr.Instr.TheVariants as i
use Rattle.target_code.specs.Operands.{bin_size, size, bin_code, expr_code}
use Rattle.target_code.specs.Machine.{Setting, Machine, Trapped, function_in, on_result, Did, Goes, led, act, go}
use Rattle.target_laws.proofs.Blocks.{HasAt, has_front, has_back}
use Rattle.target_laws.proofs.Lengths.{expr_length}

-- the machine at a position, with these operands and this count
abbrev pub put : Machine → ℕ → List ℤ → ℕ → Machine
put m pc ops c = record m { pc = pc; operands = ops; count = c }

-- what the expressions of the innermost activation read
abbrev pub view_in : Machine → View
view_in m = record { slots = m.slots; own = []; globals = m.memory.state.globals; objects = m.memory.state.heap.objects }

-- `!` twice
twice : (y : ℤ) → unary un.Not (unary un.Not y) ≡ number (is_true y)
twice (pos zero) = refl
twice (pos (suc n)) = refl
twice (negsuc n) = refl

module _ (w : Setting) (m : Machine) where
  abbrev code_in : List Instr
  code_in = (function_in w.code m.function).body

  -- the machine comes from a position and operands to others, in some number of instructions
  abbrev pub Comes : ℕ → List ℤ → ℕ → List ℤ → Type 0
  Comes pc ops pc' ops' = (c : ℕ) → (c' : ℕ) × ((k : ℕ) → (j : ℕ) × (go w j (put m pc ops c) ≡ go w k (put m pc' ops' c')))

  -- it ends in a trap
  abbrev pub Fails : ℕ → List ℤ → Trap → Type 0
  Fails pc ops cause = (c : ℕ) → (c' : ℕ) × (j : ℕ) × (go w j (put m pc ops c) ≡ Trapped cause c')

  -- it comes to a position with a value on these operands, or ends in the trap
  abbrev pub Gives : ℕ → List ℤ → ℕ → List ℤ → Result ℤ Trap → Type 0
  Gives pc from pc' ops (Ok v) = Comes pc from pc' (v ∷ ops)
  Gives pc from pc' ops (Err cause) = Fails pc from cause

  pub comes_on : (pc pc1 pc2 : ℕ) (o o1 o2 : List ℤ) → Comes pc o pc1 o1 → Comes pc1 o1 pc2 o2 → Comes pc o pc2 o2
  comes_on pc pc1 pc2 o o1 o2 f g = λ c. let a = f c in let b = g a.0 in (b.0, λ k. let d = b.1 k in let e = a.1 d.0 in (e.0, e.1 ∙ d.1))

  pub fails_on : (pc pc1 : ℕ) (o o1 : List ℤ) (cause : Trap) → Comes pc o pc1 o1 → Fails pc1 o1 cause → Fails pc o cause
  fails_on pc pc1 o o1 cause f g = λ c. let a = f c in let b = g a.0 in let e = a.1 b.1 in (b.0, e.0, e.1 ∙ b.2)

  pub gives_on : (pc pc1 pc2 : ℕ) (o o1 o2 : List ℤ) (r : Result ℤ Trap) → Comes pc o pc1 o1 → Gives pc1 o1 pc2 o2 r → Gives pc o pc2 o2 r
  gives_on pc pc1 pc2 o o1 o2 (Ok v) f g = comes_on pc pc1 pc2 o o1 (v ∷ o2) f g
  gives_on pc pc1 pc2 o o1 o2 (Err cause) f g = fails_on pc pc1 o o1 cause f g

  -- a value, and what is done with it
  pub gives_then : (pc pc1 pc2 : ℕ) (o o1 o2 : List ℤ) (r : Result ℤ Trap) (f : ℤ → Result ℤ Trap) → Gives pc o pc1 o1 r → ((v : ℤ) → Gives pc1 (v ∷ o1) pc2 o2 (f v)) → Gives pc o pc2 o2 (and_then r f)
  gives_then pc pc1 pc2 o o1 o2 (Ok v) f g h = gives_on pc pc1 pc2 o (v ∷ o1) o2 (f v) g (h v)
  gives_then pc pc1 pc2 o o1 o2 (Err cause) f g h = g

  pub gives_at : (pc pc1 pc2 : ℕ) (o o1 : List ℤ) (r : Result ℤ Trap) → pc1 ≡ pc2 → Gives pc o pc1 o1 r → Gives pc o pc2 o1 r
  gives_at pc pc1 pc2 o o1 r e g = subst (λ p. Gives pc o p o1 r) e g

  -- one instruction
  pub one : (pc : ℕ) (ops : List ℤ) (c : ℕ) (i : Instr) → slice_get code_in pc ≡ Some i → (k : ℕ) → go w (suc k) (put m pc ops c) ≡ led (act w (Some i) (put m pc ops c)) (go w k)
  one pc ops c i h k = ap (λ (o : Option Instr). led (act w o (put m pc ops c)) (go w k)) h

  -- an instruction that goes on
  pub goes : (pc pc' : ℕ) (ops ops' : List ℤ) (i : Instr) → slice_get code_in pc ≡ Some i → ((c : ℕ) → act w (Some i) (put m pc ops c) ≡ Goes (put m pc' ops' (c + 1))) → Comes pc ops pc' ops'
  goes pc pc' ops ops' i h f = λ c. (c + 1, λ k. (suc k, one pc ops c i h k ∙ ap (λ (a : Did). led a (go w k)) (f c)))

  -- an instruction that gives a result
  pub results : (pc : ℕ) (ops rest : List ℤ) (i : Instr) (r : Result ℤ Trap) → slice_get code_in pc ≡ Some i → ((c : ℕ) → act w (Some i) (put m pc ops c) ≡ on_result r (c + 1) (λ v. Goes (put m (pc + 1) (v ∷ rest) (c + 1)))) → Gives pc ops (pc + 1) rest r
  results pc ops rest i (Ok v) h f = goes pc (pc + 1) ops (v ∷ rest) i h f
  results pc ops rest i (Err cause) h f = λ c. (c + 1, suc zero, one pc ops c i h zero ∙ ap (λ (a : Did). led a (go w zero)) (f c))

  -- an operator that takes both sides
  plain : (op : BinOp) (pc : ℕ) (ops : List ℤ) (a : Result ℤ Trap) (x y : ℕ) (b : Result ℤ Trap) → slice_get code_in (pc + x + y) ≡ Some (i.Bin op) → Gives pc ops (pc + x) ops a → ((v : ℤ) → Gives (pc + x) (v ∷ ops) (pc + x + y) (v ∷ ops) b) → Gives pc ops (pc + (x + (y + 1))) ops (and_then a (λ v. and_then b (λ u. binary op v u)))
  plain op pc ops a x y b h ga gb =
      gives_then pc (pc + x) _ ops ops ops a _ ga (λ v. gives_at (pc + x) (pc + x + y + 1) _ _ _ (and_then b (λ u. binary op v u)) (omega arith) (gives_then (pc + x) (pc + x + y) _ (v ∷ ops) (v ∷ ops) ops b _ (gb v) (λ u. results (pc + x + y) (u ∷ v ∷ ops) ops (i.Bin op) (binary op v u) h (λ c. refl))))

  -- `!` twice, as instructions
  nots : (pc : ℕ) (v : ℤ) (ops : List ℤ) → slice_get code_in pc ≡ Some (i.Un un.Not) → slice_get code_in (pc + 1) ≡ Some (i.Un un.Not) → Comes pc (v ∷ ops) (pc + 1 + 1) (number (is_true v) ∷ ops)
  nots pc v ops h1 h2 =
      let f = goes pc (pc + 1) (v ∷ ops) (unary un.Not v ∷ ops) (i.Un un.Not) h1 (λ c. refl) in
      let g = goes (pc + 1) (pc + 1 + 1) (unary un.Not v ∷ ops) (unary un.Not (unary un.Not v) ∷ ops) (i.Un un.Not) h2 (λ c. refl) in
      subst (λ n. Comes pc (v ∷ ops) (pc + 1 + 1) (n ∷ ops)) (twice v) (comes_on pc (pc + 1) (pc + 1 + 1) _ _ _ f g)

  and_run : (at pc end : ℕ) (ops : List ℤ) (a b : Result ℤ Trap) → slice_get code_in at ≡ Some (i.Jz (pc + 3)) → slice_get code_in pc ≡ Some (i.Un un.Not) → slice_get code_in (pc + 1) ≡ Some (i.Un un.Not) → slice_get code_in (pc + 1 + 1) ≡ Some (i.Jump end) → slice_get code_in (pc + 3) ≡ Some (i.Const (pos 0)) → pc + 3 + 1 ≡ end → Gives (at + 1) ops pc ops b → (v : ℤ) → Gives at (v ∷ ops) end ops (if not (is_true v) then Ok (number (is_true v)) else and_then b (λ u. binary bin.And v u))
  and_run at pc end ops a b hz h1 h2 hj hc e gb = rest
    where
      yes : (u : ℤ) → Comes pc (u ∷ ops) end (number (is_true u) ∷ ops)
      yes u = comes_on pc (pc + 1 + 1) end _ _ _ (nots pc u ops h1 h2) (goes (pc + 1 + 1) end _ _ (i.Jump end) hj (λ c. refl))

      rest : (v : ℤ) → Gives at (v ∷ ops) end ops (if not (is_true v) then Ok (number (is_true v)) else and_then b (λ u. binary bin.And v u))
      rest (pos zero) =
          let zero_pushed = goes (pc + 3) (pc + 3 + 1) ops (pos 0 ∷ ops) (i.Const (pos 0)) hc (λ c. refl) in
          comes_on at (pc + 3) end _ _ _ (goes at (pc + 3) (pos 0 ∷ ops) ops (i.Jz (pc + 3)) hz (λ c. refl)) (subst (λ p. Comes (pc + 3) ops p (pos 0 ∷ ops)) e zero_pushed)
      rest (pos (suc n)) =
          gives_on at (at + 1) end _ ops ops (and_then b (λ u. binary bin.And (pos (suc n)) u)) (goes at (at + 1) (pos (suc n) ∷ ops) ops (i.Jz (pc + 3)) hz (λ c. refl)) (gives_then (at + 1) pc end ops ops ops b _ gb yes)
      rest (negsuc n) =
          gives_on at (at + 1) end _ ops ops (and_then b (λ u. binary bin.And (negsuc n) u)) (goes at (at + 1) (negsuc n ∷ ops) ops (i.Jz (pc + 3)) hz (λ c. refl)) (gives_then (at + 1) pc end ops ops ops b _ gb yes)

  or_run : (at mid pc end : ℕ) (ops : List ℤ) (b : Result ℤ Trap) → slice_get code_in at ≡ Some (i.Jz mid) → slice_get code_in (at + 1) ≡ Some (i.Const (pos 1)) → slice_get code_in (at + 1 + 1) ≡ Some (i.Jump end) → slice_get code_in pc ≡ Some (i.Un un.Not) → slice_get code_in (pc + 1) ≡ Some (i.Un un.Not) → pc + 1 + 1 ≡ end → Gives mid ops pc ops b → (v : ℤ) → Gives at (v ∷ ops) end ops (if is_true v then Ok (number (is_true v)) else and_then b (λ u. binary bin.Or v u))
  or_run at mid pc end ops b hz hc hj h1 h2 e gb = rest
    where
      no : (u : ℤ) → Comes pc (u ∷ ops) end (number (is_true u) ∷ ops)
      no u = subst (λ p. Comes pc (u ∷ ops) p (number (is_true u) ∷ ops)) e (nots pc u ops h1 h2)

      yes : Comes (at + 1) ops end (pos 1 ∷ ops)
      yes = comes_on (at + 1) (at + 1 + 1) end _ _ _ (goes (at + 1) (at + 1 + 1) ops (pos 1 ∷ ops) (i.Const (pos 1)) hc (λ c. refl)) (goes (at + 1 + 1) end _ _ (i.Jump end) hj (λ c. refl))

      rest : (v : ℤ) → Gives at (v ∷ ops) end ops (if is_true v then Ok (number (is_true v)) else and_then b (λ u. binary bin.Or v u))
      rest (pos zero) =
          gives_on at mid end _ ops ops (and_then b (λ u. binary bin.Or (pos 0) u)) (goes at mid (pos 0 ∷ ops) ops (i.Jz mid) hz (λ c. refl)) (gives_then mid pc end ops ops ops b _ gb no)
      rest (pos (suc n)) = comes_on at (at + 1) end _ _ _ (goes at (at + 1) (pos (suc n) ∷ ops) ops (i.Jz mid) hz (λ c. refl)) yes
      rest (negsuc n) = comes_on at (at + 1) end _ _ _ (goes at (at + 1) (negsuc n ∷ ops) ops (i.Jz mid) hz (λ c. refl)) yes

  bin_run : (op : BinOp) (pc x y : ℕ) (ops : List ℤ) (ca : List Instr) (cb : ℕ → List Instr) (a b : Result ℤ Trap) → length ca ≡ x → ((from : ℕ) → length (cb from) ≡ y) → HasAt code_in pc (bin_code op pc x y ca cb) → (HasAt code_in pc ca → Gives pc ops (pc + x) ops a) → ((from : ℕ) (o : List ℤ) → HasAt code_in from (cb from) → Gives from o (from + y) o b) → Gives pc ops (pc + bin_size op x y) ops (combined op a b)
  bin_run bin.And pc x y ops ca cb a b lx ly h ga gb =
      let at = pc + x in
      let mid = at + 1 + y in
      let h1 = has_back code_in pc x ca _ lx h in
      let hb = has_front code_in (at + 1) (cb (at + 1)) _ h1.1 in
      let h2 = has_back code_in (at + 1) y (cb (at + 1)) _ (ly (at + 1)) h1.1 in
      let e3 : mid + 1 + 1 + 1 ≡ mid + 3 = omega arith in
      let hc = subst (λ p. slice_get code_in p ≡ Some (i.Const (pos 0))) e3 h2.1.1.1.0 in
      gives_at pc (mid + 4) _ ops ops (combined bin.And a b) (omega arith) (gives_then pc at (mid + 4) ops ops ops a _ (ga (has_front code_in pc ca _ h)) (and_run at mid (mid + 4) ops a b h1.0 h2.0 h2.1.0 h2.1.1.0 hc (omega arith) (gb (at + 1) ops hb)))
  bin_run bin.Or pc x y ops ca cb a b lx ly h ga gb =
      let at = pc + x in
      let mid = at + 3 + y in
      let h1 = has_back code_in pc x ca _ lx h in
      let e3 : at + 1 + 1 + 1 ≡ at + 3 = omega arith in
      let h2 = subst (λ p. HasAt code_in p (cb (at + 3) ++ i.Un un.Not ∷ i.Un un.Not ∷ [])) e3 h1.1.1.1 in
      let hb = has_front code_in (at + 3) (cb (at + 3)) _ h2 in
      let h3 = has_back code_in (at + 3) y (cb (at + 3)) _ (ly (at + 3)) h2 in
      gives_at pc (mid + 2) _ ops ops (combined bin.Or a b) (omega arith) (gives_then pc at (mid + 2) ops ops ops a _ (ga (has_front code_in pc ca _ h)) (or_run at (at + 3) mid (mid + 2) ops b h1.0 h1.1.0 h1.1.1.0 h3.0 h3.1.0 (omega arith) (gb (at + 3) ops hb)))
  bin_run op pc x y ops ca cb a b lx ly h ga gb =
      let h1 = has_back code_in pc x ca _ lx h in
      let h2 = has_back code_in (pc + x) y (cb (pc + x)) _ (ly (pc + x)) h1 in
      plain op pc ops a x y b h2.0 (ga (has_front code_in pc ca _ h)) (λ v. gb (pc + x) (v ∷ ops) (has_front code_in (pc + x) (cb (pc + x)) _ h1))

  pub expr_runs : (e : LExpr) (pc : ℕ) (ops : List ℤ) → HasAt code_in pc (expr_code pc e) → Gives pc ops (pc + size e) ops (value (view_in m) e)
  unfolding value size expr_code
  expr_runs (e.Num n) pc ops h = goes pc (pc + 1) ops _ (i.Const n) h.0 (λ c. refl)
  expr_runs e.Null pc ops h = goes pc (pc + 1) ops _ (i.Const (pos 0)) h.0 (λ c. refl)
  expr_runs (e.Slot s) pc ops h = goes pc (pc + 1) ops _ (i.Get s) h.0 (λ c. refl)
  expr_runs (e.Global g) pc ops h = goes pc (pc + 1) ops _ (i.Gget g) h.0 (λ c. refl)
  expr_runs (e.Own s) pc ops h = goes pc (pc + 1) ops _ (i.Const (pos 0)) h.0 (λ c. refl)
  expr_runs (e.Elem' g _ (only x _)) pc ops h =
      let h1 = has_back code_in pc (size x) (expr_code pc x) _ (expr_length pc x) h in
      let xs = slice_index_or m.memory.state.globals g [] in
      gives_at pc (pc + size x + 1) _ ops ops (and_then (value (view_in m) x) (element xs)) (omega arith) (gives_then pc (pc + size x) _ ops ops ops (value (view_in m) x) (element xs) (expr_runs x pc ops (has_front code_in pc (expr_code pc x) _ h)) (λ v. results (pc + size x) (v ∷ ops) ops (i.Aget g) (element xs v) h1.0 (λ c. refl)))
  expr_runs (e.Field' _ (only p _) owner field) pc ops h =
      let h1 = has_back code_in pc (size p) (expr_code pc p) _ (expr_length pc p) h in
      let f = λ (o : ℤ). field_of m.memory.state.heap.objects o owner field in
      gives_at pc (pc + size p + 1) _ ops ops (and_then (value (view_in m) p) f) (omega arith) (gives_then pc (pc + size p) _ ops ops ops (value (view_in m) p) f (expr_runs p pc ops (has_front code_in pc (expr_code pc p) _ h)) (λ v. results (pc + size p) (v ∷ ops) ops (i.Fget owner field) (f v) h1.0 (λ c. refl)))
  expr_runs (e.Un' op _ (only a _)) pc ops h =
      let h1 = has_back code_in pc (size a) (expr_code pc a) _ (expr_length pc a) h in
      let f : ℤ → Result ℤ Trap = λ x. Ok (unary op x) in
      gives_at pc (pc + size a + 1) _ ops ops (and_then (value (view_in m) a) f) (omega arith) (gives_then pc (pc + size a) _ ops ops ops (value (view_in m) a) f (expr_runs a pc ops (has_front code_in pc (expr_code pc a) _ h)) (λ v. goes (pc + size a) (pc + size a + 1) (v ∷ ops) (unary op v ∷ ops) (i.Un op) h1.0 (λ c. refl)))
  expr_runs (e.Bin' op _ (only a _) _ (only b _)) pc ops h =
      bin_run op pc (size a) (size b) ops (expr_code pc a) (λ from. expr_code from b) (value (view_in m) a) (value (view_in m) b) (expr_length pc a) (λ from. expr_length from b) h (expr_runs a pc ops) (λ from o. expr_runs b from o)

-- The instructions of a place do what the step does there.
use Rattle.std.proofs.Common.{◌≡◌, ℕ, ◌+◌, ℤ, pos, Bool, false, List, [], ◌∷◌, ◌++◌, length, Option, Some, None, Result, Ok, refl, sym, ap, ◌∙◌, subst, arith}
use Rattle.std.specs.Prelude.{slice_get, slice_index_or, if◌then◌else◌, unwrap_or}
use mathlib.Core.List.{reverse_aux}
use Rattle.c_tree.specs.declared.lifted.Dest.{Dest}
use Rattle.c_tree.specs.declared.lifted.Dest.TheVariants as d
use Rattle.c_tree.specs.declared.lifted.LExpr.{LExpr}
use Rattle.c_tree.specs.declared.lifted.Lifted.{Lifted}
use Rattle.c_tree.specs.declared.lifted.LStmt.{LStmt}
use Rattle.c_tree.specs.declared.lifted.LStmt.TheVariants as s
use Rattle.c_tree.specs.declared.place.Act.{Act}
use Rattle.c_tree.specs.declared.place.Act.TheVariants.{Enter, Do, Test, EndLoop, Finish}
use Rattle.c_tree.specs.declared.place.Follow.{Follow}
use Rattle.c_tree.specs.declared.place.Follow.TheVariants.{One, Two, Leaves}
use Rattle.c_tree.specs.declared.place.Location.{Location}
use Rattle.c_tree.specs.declared.place.Location.TheVariants.{InSlot, InGlobal, InArray, InObject}
use Rattle.c_tree.specs.declared.place.Place.{Place}
use Rattle.c_tree.specs.declared.state.Frame.{Frame}
use Rattle.c_tree.specs.declared.state.State.{State}
use Rattle.c_tree.specs.declared.state.Trap.{Trap}
use Rattle.c_tree.specs.Layout.{place, place_at}
use Rattle.c_tree.specs.Step.{Outcome, Acting, on, function_of, set_slot, top_of, view_of, value_in, values_in, location_in, goes, store, printed, wrote, joined, spawned, called, returned, done, acted}
use Rattle.c_tree.specs.Step as step
use Rattle.c_tree.specs.Typing.{directives}
use Rattle.c_tree.specs.Value.{is_true, value}
use Rattle.store_mem.proofs.AccessLemmas.{makes-object, gets-byte, frees-object, locks-mutex, unlocks-mutex, made-threads, got-threads, freed-threads, locked-threads, unlocked-threads}
use Rattle.store_mem.specs.Access as access
use Rattle.store_mem.specs.Laws.{with_threads}
use Rattle.store_mem.specs.Memory.{Memory}
use Rattle.target_code.specs.declared.instr.Instr.{Instr}
use Rattle.target_code.specs.declared.instr.Instr.TheVariants as i
use Rattle.target_code.specs.Between.{body_at, Wait}
use Rattle.target_code.specs.Code.{do_code, act_code, act_size, marks}
use Rattle.target_code.specs.Machine.{Setting, Machine}
use Rattle.target_code.specs.Operands.{size, sizes, expr_code, args_code, dest_size, dest_code, store_instr}
use Rattle.target_laws.specs.Laws.{setting}
use Rattle.target_laws.proofs.Blocks.{HasAt, Leads, has_front, has_back}
use Rattle.target_laws.proofs.Calls.{thread, leaves, calls}
use Rattle.target_laws.proofs.Covered.{Covered}
use Rattle.target_laws.proofs.Exprs.{put, view_in, expr_runs}
use Rattle.target_laws.proofs.Halts.{run_of}
use Rattle.target_laws.proofs.Instructions.{on_and, gives_on, given_kept, location_of, held, Tells, Turning, branches, change_ends, dest_stores, pushed_ends, lock_ends, join_ends, spawn_ends, print_ends, flags}
use Rattle.target_laws.proofs.Lengths.{expr_length, args_length}
use Rattle.target_laws.proofs.Places.{Shaped}
use Rattle.target_laws.proofs.Turned.{Threads, holds_first, Leading, Ends, ends_step, ends_value, ends_values, args_run}

no_two : (stmt : LStmt) (a b : ℕ) → Shaped (Do stmt) (Two a b) → ⊥
no_two (s.Return v) a b h = h
no_two stmt a b h = h

module _ (p : Lifted) (t : ℕ) (mem0 : Memory) (ts0 : Threads) (fs : List Frame) (at0 : ℕ) (ws : List Wait) (ret : ℤ) (turning : Turning p fs ws) where
  abbrev w : Setting
  w = setting p t false

  abbrev f : Frame
  f = top_of fs

  abbrev z : Acting
  z = thread p t mem0 ts0 fs

  abbrev here_code : List Instr
  here_code = body_at p f.function

  abbrev EndsAs : Machine → Outcome → Type 0
  EndsAs m o = Ends p t mem0 ts0 m o

  abbrev at : ℕ → List ℤ → ℕ → Machine
  at pc ops c = put (run_of f at0 ws ret mem0 c) pc ops c

  -- an expression, and the instruction behind it
  values_then : (ops : List ℤ) (e : LExpr) (pc : ℕ) (rest : List Instr) (o : ℤ → Outcome) → HasAt here_code pc (expr_code pc e ++ rest) → (HasAt here_code (pc + size e) rest → (v : ℤ) (c : ℕ) → EndsAs (at (pc + size e) (v ∷ ops) c) (o v)) → (c : ℕ) → EndsAs (at pc ops c) (on (value_in z e) o)
  values_then ops e pc rest o h k c =
      let m = run_of f at0 ws ret mem0 c in
      let h1 = has_back here_code pc (size e) (expr_code pc e) rest (expr_length pc e) h in
      ends_value p t mem0 ts0 m pc (pc + size e) ops ops (value (view_in m) e) o (expr_runs w m e pc ops (has_front here_code pc (expr_code pc e) rest h)) (k h1) c

  -- the operand of a destination
  dest_then : (to : Dest) (pc : ℕ) (rest : List Instr) (o : Location → Outcome) → HasAt here_code pc (dest_code pc to ++ rest) → (HasAt here_code (pc + dest_size to) rest → (v : ℤ) (c : ℕ) → EndsAs (at (pc + dest_size to) (held to v) c) (o (location_of to v))) → (c : ℕ) → EndsAs (at pc [] c) (on (location_in z to) o)
  dest_then (d.Slot k) pc rest o h go c =
      let e : pc ≡ pc + 0 = omega arith in
      subst (λ b. EndsAs (at b [] c) (o (InSlot k))) (sym e) (go (subst (λ b. HasAt here_code b rest) e h) (pos 0) c)
  dest_then (d.Global k) pc rest o h go c =
      let e : pc ≡ pc + 0 = omega arith in
      subst (λ b. EndsAs (at b [] c) (o (InGlobal k))) (sym e) (go (subst (λ b. HasAt here_code b rest) e h) (pos 0) c)
  dest_then (d.Elem k x) pc rest o h go c =
      subst (λ y. EndsAs (at pc [] c) y) (on_and (value_in z x) (λ v. InArray k v) o) (values_then [] x pc rest (λ v. o (InArray k v)) h go c)
  dest_then (d.Field x owner field) pc rest o h go c =
      subst (λ y. EndsAs (at pc [] c) y) (on_and (value_in z x) (λ v. InObject v owner field) o) (values_then [] x pc rest (λ v. o (InObject v owner field)) h go c)

  at_position : (a b n : ℕ) → a ≡ b → Leading p f.function a n → Leading p f.function b n
  at_position a b n e g = subst (λ k. Leading p f.function k n) e g

  -- `ret` with its value
  returns : (pc : ℕ) → slice_get here_code pc ≡ Some i.Ret → (v : ℤ) (c : ℕ) → EndsAs (at pc (v ∷ []) c) (returned z v)
  returns pc h v c = subst (λ l. EndsAs (at pc (v ∷ []) c) (returned (thread p t mem0 ts0 l) v)) (sym turning.frames_are) (leaves p t mem0 ts0 f pc ws ret v h turning.waits c)

  ends_return : (texts : ℕ → ℕ) (stmt : LStmt) → Shaped (Do stmt) Leaves → HasAt here_code (at0 + 1) (do_code texts (at0 + 1) f.place stmt) → (c : ℕ) → EndsAs (run_of f (at0 + 1) ws ret mem0 c) (acted z (Do stmt) Leaves)
  ends_return texts (s.Return None) sh h c =
      ends_step p t mem0 ts0 (run_of f (at0 + 1) ws ret mem0 c) (at (at0 + 1 + 1) (pos 0 ∷ []) (c + 1)) (i.Const (pos 0)) (returned z (pos 0)) h.0 refl (returns (at0 + 1 + 1) h.1.0 (pos 0) (c + 1))
  ends_return texts (s.Return (Some e)) sh h c =
      values_then [] e (at0 + 1) (i.Ret ∷ []) (λ v. returned z v) h (λ hi v k. returns (at0 + 1 + size e) hi.0 v k) c
  ends_return texts stmt sh h c = absurd sh

  assigns : (to : Dest) (e : LExpr) (n : ℕ) (texts : ℕ → ℕ) → HasAt here_code (at0 + 1) (do_code texts (at0 + 1) f.place (s.Assign to e)) → Leading p f.function (at0 + act_size (Do (s.Assign to e))) n → (c : ℕ) → EndsAs (run_of f (at0 + 1) ws ret mem0 c) (done z n (s.Assign to e))
  assigns to e n texts h g c =
      let pc = at0 + 1 + dest_size to in
      let gr = at_position (at0 + act_size (Do (s.Assign to e))) (pc + size e + 1) n (omega arith) g in
      dest_then to (at0 + 1) (expr_code pc e ++ store_instr to ∷ []) (λ a. on (value_in z e) (λ v. store z n z.state a v)) h (λ h1 o. values_then (held to o) e pc (store_instr to ∷ []) (λ v. store z n z.state (location_of to o) v) h1 (λ h2. dest_stores p t mem0 ts0 fs at0 ws ret turning to o mem0 ts0 (pc + size e) n (holds_first p mem0 ts0) h2.0 gr)) c

  makes : Tells p mem0 ts0 → (slot owner n : ℕ) → slice_get here_code (at0 + 1) ≡ Some (i.New owner) → slice_get here_code (at0 + 1 + 1) ≡ Some (i.Set slot) → Leading p f.function (at0 + 3) n → (c : ℕ) → EndsAs (run_of f (at0 + 1) ws ret mem0 c) (done z n (s.New slot owner))
  makes tells slot owner n h h1 g c =
      let m = run_of f (at0 + 1) ws ret mem0 c in
      let go : ℤ × State → Outcome = λ r. goes z n r.1 (set_slot slot r.0 f) in
      let change : State → Result (ℤ × State) Trap = λ st. access.made mem0.fields st owner in
      let same : done z n (s.New slot owner) ≡ on (change mem0.state) (λ r. go (r.0, with_threads ts0 r.1)) =
      makes-object z n slot owner ∙ (ap (λ l. on (access.made l z.state owner) go) (sym tells.fields) ∙ gives_on change (made-threads mem0.fields owner) ts0 mem0.state go) in
      subst (λ o. EndsAs m o) (sym same) (pushed_ends p t mem0 ts0 fs at0 ws ret turning (change mem0.state) m (i.New owner) (at0 + 1) slot n c (given_kept change (made-threads mem0.fields owner) mem0.state) h refl h1 (at_position (at0 + 3) (at0 + 1 + 1 + 1) n (omega arith) g))

  getcs : (slot n : ℕ) → slice_get here_code (at0 + 1) ≡ Some i.Getc → slice_get here_code (at0 + 1 + 1) ≡ Some (i.Set slot) → Leading p f.function (at0 + 3) n → (c : ℕ) → EndsAs (run_of f (at0 + 1) ws ret mem0 c) (done z n (s.Getc slot))
  getcs slot n h h1 g c =
      let m = run_of f (at0 + 1) ws ret mem0 c in
      let go : ℤ × State → Outcome = λ r. goes z n r.1 (set_slot slot r.0 f) in
      let change : State → Result (ℤ × State) Trap = λ st. Ok (access.got st) in
      let same : done z n (s.Getc slot) ≡ on (change mem0.state) (λ r. go (r.0, with_threads ts0 r.1)) =
      gets-byte z n slot ∙ gives_on change got-threads ts0 mem0.state go in
      subst (λ o. EndsAs m o) (sym same) (pushed_ends p t mem0 ts0 fs at0 ws ret turning (change mem0.state) m i.Getc (at0 + 1) slot n c (given_kept change got-threads mem0.state) h refl h1 (at_position (at0 + 3) (at0 + 1 + 1 + 1) n (omega arith) g))

  frees : (e : LExpr) (n : ℕ) (texts : ℕ → ℕ) → HasAt here_code (at0 + 1) (do_code texts (at0 + 1) f.place (s.Free e)) → Leading p f.function (at0 + act_size (Do (s.Free e))) n → (c : ℕ) → EndsAs (run_of f (at0 + 1) ws ret mem0 c) (done z n (s.Free e))
  frees e n texts h g c =
      let pc = at0 + 1 + size e in
      let gr = at_position (at0 + act_size (Do (s.Free e))) (pc + 1) n (omega arith) g in
      subst (λ o. EndsAs (run_of f (at0 + 1) ws ret mem0 c) o) (sym (frees-object z n e)) (values_then [] e (at0 + 1) (i.Free ∷ []) (λ o. on (access.freed z.state o) (λ next. goes z n next f)) h (λ h1 v k. change_ends p t mem0 ts0 fs at0 ws ret turning (λ st. access.freed st v) (freed-threads v) (at pc (v ∷ []) k) mem0 ts0 i.Free pc n k (holds_first p mem0 ts0) h1.0 refl gr) c)

  locks : (k n : ℕ) → slice_get here_code (at0 + 1) ≡ Some (i.Flag f.place) → slice_get here_code (at0 + 1 + 1) ≡ Some (i.Lock k) → Leading p f.function (at0 + 3) n → (c : ℕ) → EndsAs (run_of f (at0 + 1) ws ret mem0 c) (done z n (s.Lock k))
  locks k n h h1 g c =
      let go : Bool × State → Outcome = λ r. (if r.0 then goes z n r.1 f else step.Blocked) in
      let change : State → Result (Bool × State) Trap = λ st. access.locked st k t in
      let same : done z n (s.Lock k) ≡ on (change mem0.state) (λ r. go (r.0, with_threads ts0 r.1)) = locks-mutex z n k ∙ gives_on change (locked-threads k t) ts0 mem0.state go in
      let there = lock_ends p t mem0 ts0 fs at0 ws ret turning (change mem0.state) (i.Lock k) (at0 + 1 + 1) n (c + 1) (given_kept change (locked-threads k t) mem0.state) h1 refl (at_position (at0 + 3) (at0 + 1 + 1 + 1) n (omega arith) g) in
      ends_step p t mem0 ts0 (run_of f (at0 + 1) ws ret mem0 c) (run_of f (at0 + 1 + 1) ws ret mem0 (c + 1)) (i.Flag f.place) (done z n (s.Lock k)) h refl (subst (λ o. EndsAs (run_of f (at0 + 1 + 1) ws ret mem0 (c + 1)) o) (sym same) there)

  unlocks : (k n : ℕ) → slice_get here_code (at0 + 1) ≡ Some (i.Unlock k) → Leading p f.function (at0 + 2) n → (c : ℕ) → EndsAs (run_of f (at0 + 1) ws ret mem0 c) (done z n (s.Unlock k))
  unlocks k n h g c =
      let m = run_of f (at0 + 1) ws ret mem0 c in
      subst (λ o. EndsAs m o) (sym (unlocks-mutex z n k)) (change_ends p t mem0 ts0 fs at0 ws ret turning (λ st. access.unlocked st k t) (unlocked-threads k t) m mem0 ts0 (i.Unlock k) (at0 + 1) n c (holds_first p mem0 ts0) h refl (at_position (at0 + 2) (at0 + 1 + 1) n (omega arith) g))

  joins : Tells p mem0 ts0 → (e : LExpr) (n : ℕ) (texts : ℕ → ℕ) → HasAt here_code (at0 + 1) (do_code texts (at0 + 1) f.place (s.Join e)) → Leading p f.function (at0 + act_size (Do (s.Join e))) n → (c : ℕ) → EndsAs (run_of f (at0 + 1) ws ret mem0 c) (done z n (s.Join e))
  joins tells e n texts h g c =
      let pc = at0 + 1 + 1 + size e in
      let gr = at_position (at0 + act_size (Do (s.Join e))) (pc + 1) n (omega arith) g in
      ends_step p t mem0 ts0 (run_of f (at0 + 1) ws ret mem0 c) (run_of f (at0 + 1 + 1) ws ret mem0 (c + 1)) (i.Flag f.place) (done z n (s.Join e)) h.0 refl (values_then [] e (at0 + 1 + 1) (i.Join ∷ []) (λ v. joined z n v) h.1 (λ h1. join_ends p t mem0 ts0 fs at0 ws ret turning tells pc n h1.0 gr) (c + 1))

  spawns : Tells p mem0 ts0 → (to : Dest) (k : ℕ) (e : LExpr) (n : ℕ) (texts : ℕ → ℕ) → Covered p (Do (s.Spawn to k e)) → HasAt here_code (at0 + 1) (do_code texts (at0 + 1) f.place (s.Spawn to k e)) → Leading p f.function (at0 + act_size (Do (s.Spawn to k e))) n → (c : ℕ) → EndsAs (run_of f (at0 + 1) ws ret mem0 c) (done z n (s.Spawn to k e))
  spawns tells to k e n texts cov h g c =
      let pc = at0 + 1 + dest_size to in
      let gr = at_position (at0 + act_size (Do (s.Spawn to k e))) (pc + size e + 1 + 1) n (omega arith) g in
      dest_then to (at0 + 1) (expr_code pc e ++ i.Spawn k ∷ store_instr to ∷ []) (λ a. on (value_in z e) (λ v. spawned z n a k v)) h (λ h1 o. values_then (held to o) e pc (i.Spawn k ∷ store_instr to ∷ []) (λ v. spawned z n (location_of to o) k v) h1 (λ h2. spawn_ends p t mem0 ts0 fs at0 ws ret turning tells to o (pc + size e) k n h2.0 h2.1.0 gr cov.0 cov.1 cov.2)) c

  calls_on : (to : Option ℕ) (g : ℕ) (args : List LExpr) (n : ℕ) (texts : ℕ → ℕ) → Covered p (Do (s.Call to g args)) → place_at (function_of p f.function) f.place ≡ place (Do (s.Call to g args)) (One n) → HasAt here_code (at0 + 1) (do_code texts (at0 + 1) f.place (s.Call to g args)) → Leading p f.function (at0 + act_size (Do (s.Call to g args))) n → (c : ℕ) → EndsAs (run_of f (at0 + 1) ws ret mem0 c) (done z n (s.Call to g args))
  calls_on to g args n texts cov call h gl c =
      let m = run_of f at0 ws ret mem0 c in
      let pc = at0 + 1 + sizes args in
      let h1 = has_back here_code (at0 + 1) (sizes args) (args_code (at0 + 1) args) (i.Call g ∷ i.After f.place to ∷ []) (args_length (at0 + 1) args) h in
      let gr = at_position (at0 + act_size (Do (s.Call to g args))) (pc + 1 + 1) n (omega arith) gl in
      ends_values p t mem0 ts0 m (at0 + 1) pc (length args) [] (values_in z args) (λ vs. called z g vs) (args_run w m args (at0 + 1) [] (has_front here_code (at0 + 1) (args_code (at0 + 1) args) (i.Call g ∷ i.After f.place to ∷ []) h)) (λ vs k long.
      subst (λ l. EndsAs (at pc (reverse_aux vs []) k) (called (thread p t mem0 ts0 l) g vs)) (sym turning.frames_are) (calls p t mem0 ts0 f at0 pc ws ret to g args n vs turning.fits turning.waits h1.0 h1.1.0 gr call cov.0 (long ∙ cov.1) cov.2 k)) c

  prints : (text : List ℕ) (args : List LExpr) (n : ℕ) (texts : ℕ → ℕ) → directives text ≡ Some (length args) → slice_index_or w.code.texts (texts f.place) [] ≡ text → HasAt here_code (at0 + 1) (do_code texts (at0 + 1) f.place (s.Print text args)) → Leading p f.function (at0 + act_size (Do (s.Print text args))) n → (c : ℕ) → EndsAs (run_of f (at0 + 1) ws ret mem0 c) (done z n (s.Print text args))
  prints text args n texts cov is h g c =
      let m = run_of f at0 ws ret mem0 c in
      let pc = at0 + 1 + sizes args in
      let h1 = has_back here_code (at0 + 1) (sizes args) (args_code (at0 + 1) args) (i.Print (texts f.place) ∷ []) (args_length (at0 + 1) args) h in
      let gr = at_position (at0 + act_size (Do (s.Print text args))) (pc + 1) n (omega arith) g in
      let asked : length args ≡ unwrap_or (directives text) 0 = sym (ap (λ o. unwrap_or o 0) cov) in
      ends_values p t mem0 ts0 m (at0 + 1) pc (length args) [] (values_in z args) (λ vs. wrote z n (printed text vs)) (args_run w m args (at0 + 1) [] (has_front here_code (at0 + 1) (args_code (at0 + 1) args) (i.Print (texts f.place) ∷ []) h)) (λ vs k long. print_ends p t mem0 ts0 fs at0 ws ret turning pc (texts f.place) n text h1.0 is gr vs k (long ∙ asked)) c

  -- the texts of the place stand at their number
  abbrev HasText : (ℕ → ℕ) → Type 0
  HasText texts = (text : List ℕ) (args : List LExpr) → (place_at (function_of p f.function) f.place).act ≡ Do (s.Print text args) → slice_index_or w.code.texts (texts f.place) [] ≡ text

  stmt_ends : (texts : ℕ → ℕ) (stmt : LStmt) (n : ℕ) → Tells p mem0 ts0 → HasText texts → place_at (function_of p f.function) f.place ≡ place (Do stmt) (One n) → Covered p (Do stmt) → Shaped (Do stmt) (One n) → HasAt here_code (at0 + 1) (do_code texts (at0 + 1) f.place stmt) → Leading p f.function (at0 + act_size (Do stmt)) n → (c : ℕ) → EndsAs (run_of f (at0 + 1) ws ret mem0 c) (done z n stmt)
  stmt_ends texts (s.Assign to e) n tells ht call cov sh h g c = assigns to e n texts h g c
  stmt_ends texts (s.New slot owner) n tells ht call cov sh h g c = makes tells slot owner n h.0 h.1.0 g c
  stmt_ends texts (s.Getc slot) n tells ht call cov sh h g c = getcs slot n h.0 h.1.0 g c
  stmt_ends texts (s.Free e) n tells ht call cov sh h g c = frees e n texts h g c
  stmt_ends texts (s.Lock k) n tells ht call cov sh h g c = locks k n h.0 h.1.0 g c
  stmt_ends texts (s.Unlock k) n tells ht call cov sh h g c = unlocks k n h.0 g c
  stmt_ends texts (s.Join e) n tells ht call cov sh h g c = joins tells e n texts h g c
  stmt_ends texts (s.Spawn to k e) n tells ht call cov sh h g c = spawns tells to k e n texts cov h g c
  stmt_ends texts (s.Call to g args) n tells ht call cov sh h gl c = calls_on to g args n texts cov call h gl c
  stmt_ends texts (s.Print text args) n tells ht call cov sh h g c = prints text args n texts cov (ht text args (ap (λ (b : Place). b.act) call)) h g c
  stmt_ends texts stmt n tells ht call cov sh h g c = absurd sh

  -- what the code of a place does behind its mark
  pub acted_ends : (texts : ℕ → ℕ) (a : Act) (fo : Follow) → Tells p mem0 ts0 → HasText texts → place_at (function_of p f.function) f.place ≡ place a fo → Covered p a → Shaped a fo → HasAt here_code at0 (act_code texts at0 f.place a) → Leads texts here_code (marks (function_of p f.function)) fo (at0 + act_size a) → (c : ℕ) → EndsAs (run_of f (at0 + 1) ws ret mem0 c) (acted z a fo)
  acted_ends texts Enter (One n) tells ht call cov sh h g c = flags p t mem0 ts0 fs at0 ws ret turning f.place n (at0 + 1) h.1.0 (at_position (at0 + 2) (at0 + 1 + 1) n (omega arith) g) c
  acted_ends texts EndLoop (One n) tells ht call cov sh h g c = flags p t mem0 ts0 fs at0 ws ret turning f.place n (at0 + 1) h.1.0 (at_position (at0 + 2) (at0 + 1 + 1) n (omega arith) g) c
  acted_ends texts (Test e) (Two a b) tells ht call cov sh h g c =
      let e1 : at0 + act_size (Test e) ≡ at0 + 1 + size e = omega arith in
      let g1 = subst (λ k. Leads texts here_code (marks (function_of p f.function)) (Two a b) k) e1 g in
      let m = run_of f at0 ws ret mem0 c in
      ends_value p t mem0 ts0 m (at0 + 1) (at0 + 1 + size e) [] [] (value (view_in m) e) (λ v. goes z (if is_true v then a else b) z.state f) (expr_runs w m e (at0 + 1) [] h.1) (branches p t mem0 ts0 fs at0 ws ret turning (at0 + 1 + size e) g1.0 a b g1.1 g1.2 g1.3) c
  acted_ends texts Finish Leaves tells ht call cov sh h g c =
      ends_step p t mem0 ts0 (run_of f (at0 + 1) ws ret mem0 c) (at (at0 + 1 + 1) (pos 0 ∷ []) (c + 1)) (i.Const (pos 0)) (returned z (pos 0)) h.1.0 refl (returns (at0 + 1 + 1) h.1.1.0 (pos 0) (c + 1))
  acted_ends texts (Do stmt) (One n) tells ht call cov sh h g c = stmt_ends texts stmt n tells ht call cov sh h.1 g c
  acted_ends texts (Do stmt) Leaves tells ht call cov sh h g c = ends_return texts stmt sh h.1 c
  acted_ends texts (Do stmt) (Two a b) tells ht call cov sh h g c = absurd (no_two stmt a b sh)
  acted_ends texts Enter fo tells ht call cov sh h g c = absurd sh
  acted_ends texts EndLoop fo tells ht call cov sh h g c = absurd sh
  acted_ends texts (Test e) fo tells ht call cov sh h g c = absurd sh
  acted_ends texts Finish fo tells ht call cov sh h g c = absurd sh

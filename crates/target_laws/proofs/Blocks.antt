-- Each place has its instructions at its mark, and behind them the code leads on to the marks of the places that follow.
use Rattle.std.proofs.Common.{◌≡◌, ℕ, zero, suc, ◌+◌, List, [], ◌∷◌, ◌++◌, length, Option, Some, None, refl, subst, arith}
use Rattle.std.specs.Prelude.{slice_get}
use Rattle.std.proofs.lemmas.Option.{slice_get_within}
use Rattle.c_tree.specs.declared.lifted.LStmt.{LStmt, Row_of-LStmt, end_of-LStmt, more_of-LStmt}
use Rattle.c_tree.specs.declared.lifted.LStmt.TheVariants as s
use Rattle.c_tree.specs.declared.place.Follow.{Follow}
use Rattle.c_tree.specs.declared.place.Follow.TheVariants.{One, Two, Leaves}
use Rattle.c_tree.specs.declared.place.Act.TheVariants.{Enter, Test, EndLoop, Finish}
use Rattle.c_tree.specs.declared.place.Exits.{Exits}
use Rattle.c_tree.specs.declared.place.Place.{Place}
use Rattle.c_tree.specs.Layout.{count, counts, enter, enters, layout, layouts, place, places}
use Rattle.target_code.specs.declared.instr.Instr.{Instr}
use Rattle.target_code.specs.declared.instr.Instr.TheVariants as i
use Rattle.c_tree.specs.declared.lifted.LStmt.TheBlock.{hidden-the_row-LStmt-0 as row_of}
use Rattle.c_tree.specs.declared.lifted.LFunction.{LFunction}
use Rattle.c_tree.specs.declared.lifted.Lifted.{Lifted}
use Rattle.target_code.specs.Code.{marks, body_of, outside, act_code, act_size, over, jump_over, stmt_size, rows_size, stmt_code, rows_code, stmt_marks, rows_marks}
use Rattle.target_code.specs.Between.{Reaches}
use Rattle.c_places.proofs.FlowLemmas.{length-layout, length-layouts}
use Rattle.target_laws.proofs.Lengths.{act_length, over_length, stmt_length, rows_length, marks_length, rows_marks_length}

-- these elements stand in the list from this index on
abbrev pub HasAt : {A : Type 0} → List A → ℕ → List A → Type 0
HasAt code at [] = Unit {0}
HasAt code at (x ∷ rest) = (slice_get code at ≡ Some x) × HasAt code (at + 1) rest

pub has_front : {A : Type 0} (code : List A) (at : ℕ) (a b : List A) → HasAt code at (a ++ b) → HasAt code at a
has_front code at [] b h = tt
has_front code at (x ∷ a) b h = (h.0, has_front code (at + 1) a b h.1)

pub has_back : {A : Type 0} (code : List A) (at n : ℕ) (a b : List A) → length a ≡ n → HasAt code at (a ++ b) → HasAt code (at + n) b
has_back code at n [] b e h = let f : at ≡ at + n = omega (arith, e) in subst (λ k. HasAt code k b) f h
has_back code at n (x ∷ a) b e h =
    let f : at + 1 + length a ≡ at + n = omega (arith, e) in
    subst (λ k. HasAt code k b) f (has_back code (at + 1) (length a) a b refl h.1)

has_later : {A : Type 0} (x : A) (code : List A) (at : ℕ) (a : List A) → HasAt code at a → HasAt (x ∷ code) (at + 1) a
has_later x code at [] h = tt
has_later x code at (y ∷ a) h =
    let f : suc at ≡ at + 1 = omega arith in
    (subst (λ k. slice_get (x ∷ code) k ≡ Some y) f h.0, has_later x code (at + 1) a h.1)

pub has_all : {A : Type 0} (code : List A) → HasAt code 0 code
has_all [] = tt
has_all (x ∷ code) = (refl, has_later x code 0 code (has_all code))

-- the code of a function, and the positions of its marks
module _ (t : ℕ → ℕ) (code : List Instr) (ms : List ℕ) where
  -- jumps alone lead from a position to the mark of a place
  abbrev Goes : ℕ → ℕ → Type 0
  Goes at n = Reaches code ms at n

  -- what stands behind a place leads to the places that follow
  abbrev pub Leads : Follow → ℕ → Type 0
  Leads (One n) at = Goes at n
  Leads (Two a b) at = (l : ℕ) × (slice_get code at ≡ Some (i.Jz l)) × Goes (at + 1) a × Goes l b
  Leads Leaves at = Unit {0}

  pub record Block (n : ℕ) (p : Place) : Type 0 where
    pub at : ℕ
    pub mark : slice_get ms n ≡ Some at
    pub has : HasAt code at (act_code t at n p.act)
    pub leads : Leads p.follow (at + act_size p.act)

  -- places from n on
  abbrev pub Blocks : ℕ → List Place → Type 0
  Blocks n [] = Unit {0}
  Blocks n (p ∷ rest) = Block n p × Blocks (n + 1) rest

  pub blocks_append : (n m : ℕ) (ps qs : List Place) → length ps ≡ m → Blocks n ps → Blocks (n + m) qs → Blocks n (ps ++ qs)
  blocks_append n m [] qs e h k = let f : n + m ≡ n = omega (arith, e) in subst (λ j. Blocks j qs) f k
  blocks_append n m (p ∷ ps) qs e h k =
      let f : n + m ≡ n + 1 + length ps = omega (arith, e) in
      (h.0, blocks_append (n + 1) (length ps) ps qs refl h.1 (subst (λ j. Blocks j qs) f k))

  abbrev BlockIn : ℕ → Option Place → Type 0
  BlockIn n None = Unit {0}
  BlockIn n (Some p) = Block n p

  -- the block of a number
  pub block_of : (n k : ℕ) (ps : List Place) (p : Place) → Blocks n ps → slice_get ps k ≡ Some p → Block (n + k) p
  block_of n k [] p h e = absurd (let f = slice_get_within [] k p e in omega (arith, f))
  block_of n zero (q ∷ ps) p h e =
      let f : n ≡ n + 0 = omega arith in subst (λ j. Block j p) f (subst (λ (o : Option Place). BlockIn n o) e h.0)
  block_of n (suc k) (q ∷ ps) p h e =
      let f : n + 1 + k ≡ n + suc k = omega arith in subst (λ j. Block j p) f (block_of (n + 1) k ps p h.1 e)

  jumps : (at l n : ℕ) → slice_get code at ≡ Some (i.Jump l) → Goes l n → Goes at n
  jumps at l n e g = (suc g.0, (l, e, g.1))

  moves : (from to n : ℕ) → from ≡ to → Goes from n → Goes to n
  moves from to n e g = subst (λ p. Goes p n) e g

  over_goes : {m : _} (b : Row_of-LStmt m) (at n : ℕ) → HasAt code at (jump_over b (at + over b + rows_size b)) → Goes (at + over b + rows_size b) n → Goes at n
  unfolding stmt_size rows_size
  over_goes end_of-LStmt at n h g = moves _ _ n (omega arith) g
  over_goes (more_of-LStmt s rest) at n h g = jumps at _ n h.0 g

  -- exits as positions, and as places
  pub record Exit (x y : Exits) : Type 0 where
    pub leave : Goes x.leave y.leave
    pub again : Goes x.again y.again

  mutual
    unfolding count counts enter enters stmt_size rows_size stmt_code rows_code stmt_marks rows_marks

    pub enter_goes : (x y : Exits) (at n : ℕ) (stmt : LStmt) → Exit x y → HasAt code at (stmt_code t x at n stmt) → HasAt ms n (stmt_marks at stmt) → Goes at (enter y n stmt)
    enter_goes x y at n s.Break ex h m = jumps at x.leave y.leave h.0 ex.leave
    enter_goes x y at n s.Continue ex h m = jumps at x.again y.again h.0 ex.again
    enter_goes x y at n (s.Loop' kc c e kb b kd d) ex h m =
        let test = (has_back ms n (counts c) (rows_marks at c) _ (rows_marks_length at c) m).0 in
        enters_goes x y at n (n + counts c) c ex (has_front code at (rows_code t x at n c) _ h) (has_front ms n (rows_marks at c) _ m) (0, test)
    enter_goes x y at n (s.If' e ka a kb b) ex h m = (0, m.0)
    enter_goes x y at n simple ex h m = (0, m.0)

    pub enters_goes : (x y : Exits) (at n next : ℕ) {m : _} (row : Row_of-LStmt m) → Exit x y → HasAt code at (rows_code t x at n row) → HasAt ms n (rows_marks at row) → Goes (at + rows_size row) next → Goes at (enters y n next row)
    enters_goes x y at n next end_of-LStmt ex h m g = moves (at + 0) at next (omega arith) g
    enters_goes x y at n next (more_of-LStmt s rest) ex h m g =
        enter_goes x y at n s ex (has_front code at (stmt_code t x at n s) _ h) (has_front ms n (stmt_marks at s) _ m)

  mutual
    unfolding count counts enter enters layout layouts stmt_size rows_size stmt_code rows_code stmt_marks rows_marks

    pub stmt_blocks : (x y : Exits) (at n next : ℕ) (stmt : LStmt) → Exit x y → HasAt code at (stmt_code t x at n stmt) → HasAt ms n (stmt_marks at stmt) → Goes (at + stmt_size stmt) next → Blocks n (layout y n next stmt)
    stmt_blocks x y at n next (s.If' e ka a kb b) ex h m g =
        let yes = at + act_size (Test e) + 1 in
        let no = yes + rows_size a + over b in
        let h1 = has_back code at (act_size (Test e)) (act_code t at n (Test e)) _ (act_length t at n (Test e)) h in
        let h2 = has_back code yes (rows_size a) (rows_code t x yes (n + 1) a) _ (rows_length t x yes (n + 1) a) h1.1 in
        let ha = has_front code yes (rows_code t x yes (n + 1) a) _ h1.1 in
        let hj = has_front code (yes + rows_size a) (jump_over b (no + rows_size b)) _ h2 in
        let hb = has_back code (yes + rows_size a) (over b) (jump_over b (no + rows_size b)) _ (over_length b (no + rows_size b)) h2 in
        let ma = has_front ms (n + 1) (rows_marks yes a) _ m.1 in
        let mb = has_back ms (n + 1) (counts a) (rows_marks yes a) _ (rows_marks_length yes a) m.1 in
        let end : at + stmt_size (s.If' e ka a kb b) ≡ no + rows_size b = omega arith in
        let gb : Goes (no + rows_size b) next = moves _ _ next end g in
        let ga : Goes (yes + rows_size a) next = over_goes b (yes + rows_size a) next hj gb in
        let first : Block n (place (Test e) (Two (enters y (n + 1) next a) (enters y (n + 1 + counts a) next b))) = record {
          at = at;
          mark = m.0;
          has = has_front code at (act_code t at n (Test e)) _ h;
          leads = (no, h1.0, enters_goes x y yes (n + 1) next a ex ha ma ga, enters_goes x y no (n + 1 + counts a) next b ex hb mb gb);
        } in
        (first, blocks_append (n + 1) (counts a) (layouts y (n + 1) next a) _ (length-layouts y (n + 1) next a) (rows_blocks x y yes (n + 1) next a ex ha ma ga) (rows_blocks x y no (n + 1 + counts a) next b ex hb mb gb))
    stmt_blocks x y at n next (s.Loop' kc c e kb b kd d) ex h m g =
        let test = at + rows_size c in
        let body = test + act_size (Test e) + 1 in
        let step = body + rows_size b in
        let end = step + rows_size d in
        let nt = n + counts c in
        let ns = nt + 1 + counts b in
        let ne = ns + counts d in
        let again = enters y ns ne d in
        let inner : Exits = record { leave = end + 3; again = step } in
        let inner_places : Exits = record { leave = next; again = again } in
        let hc = has_front code at (rows_code t x at n c) _ h in
        let h1 = has_back code at (rows_size c) (rows_code t x at n c) _ (rows_length t x at n c) h in
        let h2 = has_back code test (act_size (Test e)) (act_code t test nt (Test e)) _ (act_length t test nt (Test e)) h1 in
        let hb = has_front code body (rows_code t inner body (nt + 1) b) _ h2.1 in
        let h3 = has_back code body (rows_size b) (rows_code t inner body (nt + 1) b) _ (rows_length t inner body (nt + 1) b) h2.1 in
        let hd = has_front code step (rows_code t x step ns d) _ h3 in
        let h4 = has_back code step (rows_size d) (rows_code t x step ns d) _ (rows_length t x step ns d) h3 in
        let mc = has_front ms n (rows_marks at c) _ m in
        let m1 = has_back ms n (counts c) (rows_marks at c) _ (rows_marks_length at c) m in
        let mb = has_front ms (nt + 1) (rows_marks body b) _ m1.1 in
        let m2 = has_back ms (nt + 1) (counts b) (rows_marks body b) _ (rows_marks_length body b) m1.1 in
        let md = has_front ms ns (rows_marks step d) _ m2 in
        let m3 = has_back ms ns (counts d) (rows_marks step d) _ (rows_marks_length step d) m2 in
        let after : at + stmt_size (s.Loop' kc c e kb b kd d) ≡ end + 3 = omega arith in
        let gl : Goes (end + 3) next = moves _ _ next after g in
        let ge : Goes end ne = (0, m3.0) in
        let gs : Goes step again = enters_goes x y step ns ne d ex hd md ge in
        let gt : Goes test nt = (0, m1.0) in
        let gc : Goes at (enters y n nt c) = enters_goes x y at n nt c ex hc mc gt in
        let ei : Exit inner inner_places = record { leave = gl; again = gs } in
        let second : end + 1 + 1 ≡ end + 2 = omega arith in
        let back : slice_get code (end + 2) ≡ Some (i.Jump at) = subst (λ k. slice_get code k ≡ Some (i.Jump at)) second h4.1.1.0 in
        let test_block : Block nt (place (Test e) (Two (enters inner_places (nt + 1) again b) next)) = record {
          at = test;
          mark = m1.0;
          has = has_front code test (act_code t test nt (Test e)) _ h1;
          leads = (end + 3, h2.0, enters_goes inner inner_places body (nt + 1) again b ei hb mb gs, gl);
        } in
        let end_block : Block ne (place EndLoop (One (enters y n nt c))) = record {
          at = end;
          mark = m3.0;
          has = has_front code end (act_code t end ne EndLoop) (i.Jump at ∷ []) h4;
          leads = jumps (end + 2) at _ back gc;
        } in
        blocks_append n (counts c) (layouts y n nt c) _ (length-layouts y n nt c) (rows_blocks x y at n nt c ex hc mc gt) (test_block, blocks_append (nt + 1) (counts b) (layouts inner_places (nt + 1) again b) _ (length-layouts inner_places (nt + 1) again b) (rows_blocks inner inner_places body (nt + 1) again b ei hb mb gs) (blocks_append ns (counts d) (layouts y ns ne d) _ (length-layouts y ns ne d) (rows_blocks x y step ns ne d ex hd md ge) (end_block, tt)))
    stmt_blocks x y at n next s.Break ex h m g = tt
    stmt_blocks x y at n next s.Continue ex h m g = tt
    stmt_blocks x y at n next (s.Return v) ex h m g = (record { at = at; mark = m.0; has = h; leads = tt }, tt)
    stmt_blocks x y at n next simple ex h m g = (record { at = at; mark = m.0; has = h; leads = g }, tt)

    pub rows_blocks : (x y : Exits) (at n next : ℕ) {m : _} (row : Row_of-LStmt m) → Exit x y → HasAt code at (rows_code t x at n row) → HasAt ms n (rows_marks at row) → Goes (at + rows_size row) next → Blocks n (layouts y n next row)
    rows_blocks x y at n next end_of-LStmt ex h m g = tt
    rows_blocks x y at n next (more_of-LStmt s rest) ex h m g =
        let hs = has_front code at (stmt_code t x at n s) _ h in
        let hr = has_back code at (stmt_size s) (stmt_code t x at n s) _ (stmt_length t x at n s) h in
        let ms' = has_front ms n (stmt_marks at s) _ m in
        let mr = has_back ms n (count s) (stmt_marks at s) _ (marks_length at s) m in
        let end : at + rows_size (more_of-LStmt s rest) ≡ at + stmt_size s + rows_size rest = omega arith in
        let gr : Goes (at + stmt_size s + rows_size rest) next = moves _ _ next end g in
        let next' = enters y (n + count s) next rest in
        let gs : Goes (at + stmt_size s) next' = enters_goes x y (at + stmt_size s) (n + count s) next rest ex hr mr gr in
        blocks_append n (count s) (layout y n next' s) _ (length-layout y n next' s) (stmt_blocks x y at n next' s ex hs ms' gs) (rows_blocks x y (at + stmt_size s) (n + count s) next rest ex hr mr gr)

-- all places of a function
pub function_blocks : (p : Lifted) (t : ℕ → ℕ) (f : LFunction) → Blocks t (body_of p t f) (marks f) 0 (places f)
function_blocks p t f =
    let row = row_of f.body in
    let code = body_of p t f in
    let ms = marks f in
    let last = 1 + counts row in
    let x : Exits = record { leave = last; again = last } in
    let h = has_all code in
    let m = has_all ms in
    let hr = has_front code 3 (rows_code t (outside f) 3 1 row) _ h.1.1.1 in
    let hf = has_back code 3 (rows_size row) (rows_code t (outside f) 3 1 row) _ (rows_length t (outside f) 3 1 row) h.1.1.1 in
    let mr = has_front ms 1 (rows_marks 3 row) _ m.1 in
    let mf = has_back ms 1 (counts row) (rows_marks 3 row) _ (rows_marks_length 3 row) m.1 in
    let gl : Reaches code ms (3 + rows_size row) last = (0, mf.0) in
    let ex : Exit t code ms (outside f) x = record { leave = gl; again = gl } in
    let ge : Reaches code ms 3 (enters x 1 last row) = enters_goes t code ms (outside f) x 3 1 last row ex hr mr gl in
    let entry : Block t code ms 0 (place Enter (One (enters x 1 last row))) = record { at = 1; mark = m.0; has = (h.1.0, (h.1.1.0, tt)); leads = ge } in
    let finish : Block t code ms last (place Finish Leaves) = record { at = 3 + rows_size row; mark = mf.0; has = has_front code (3 + rows_size row) (act_code t (3 + rows_size row) last Finish) _ hf; leads = tt } in
    (entry, blocks_append t code ms 1 (counts row) (layouts x 1 last row) _ (length-layouts x 1 last row) (rows_blocks t code ms (outside f) x 3 1 last row ex hr mr gl) (finish, tt))

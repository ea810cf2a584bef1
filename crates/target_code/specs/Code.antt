-- The code of a program: of each function its instructions, the position of each place's mark, and
-- its calls.
use Rattle.std.specs.Prelude.{◌≡◌, ℕ, ◌+◌, pos, List, [], ◌∷◌, ◌++◌, length, take, replicate, Some, None}
use Rattle.c_tree.specs.declared.lifted.LFunction.{LFunction}
use Rattle.c_tree.specs.declared.lifted.LStmt.{LStmt, Row_of-LStmt, end_of-LStmt, more_of-LStmt}
use Rattle.c_tree.specs.declared.lifted.LStmt.TheBlock.{hidden-the_row-LStmt-0 as row_of}
use Rattle.c_tree.specs.declared.lifted.LStmt.TheVariants as s
use Rattle.c_tree.specs.declared.lifted.Lifted.{Lifted}
use Rattle.c_tree.specs.declared.place.Act.{Act}
use Rattle.c_tree.specs.declared.place.Act.TheVariants.{Enter, Do, Test, EndLoop, Finish}
use Rattle.c_tree.specs.declared.place.Exits.{Exits}
use Rattle.c_tree.specs.declared.place.Place.{Place}
use Rattle.c_tree.specs.Formed.{IsFormed}
use Rattle.c_tree.specs.Layout.{count, counts, places, size_of}
use Rattle.c_tree.specs.Step.{function_of}
use Rattle.target_code.specs.declared.code.CallSpot.{CallSpot}
use Rattle.target_code.specs.declared.code.CodeFunction.{CodeFunction}
use Rattle.target_code.specs.declared.instr.Instr.{Instr}
use Rattle.target_code.specs.declared.instr.Instr.TheVariants as i
use Rattle.target_code.specs.Operands.{size, sizes, expr_code, args_code, dest_size, dest_code, store_instr}

-- the instructions of a simple statement of place n, behind its mark;
-- the function t gives the number of the text that is printed at a place
abbrev pub do_code : (ℕ → ℕ) → ℕ → ℕ → LStmt → List Instr
do_code t at n (s.Assign to e) =
    dest_code at to ++ (expr_code (at + dest_size to) e ++ store_instr to ∷ [])
do_code t at n (s.New slot owner) = i.New owner ∷ i.Set slot ∷ []
do_code t at n (s.Getc slot) = i.Getc ∷ i.Set slot ∷ []
do_code t at n (s.Print text args) = args_code at args ++ i.Print (t n) ∷ []
do_code t at n (s.Free e) = expr_code at e ++ i.Free ∷ []
do_code t at n (s.Call to f args) = args_code at args ++ i.Call f ∷ i.After n to ∷ []
do_code t at n (s.Spawn to f e) =
    dest_code at to ++ (expr_code (at + dest_size to) e ++ i.Spawn f ∷ store_instr to ∷ [])
do_code t at n (s.Join e) = i.Flag n ∷ (expr_code (at + 1) e ++ i.Join ∷ [])
do_code t at n (s.Lock m) = i.Flag n ∷ i.Lock m ∷ []
do_code t at n (s.Unlock m) = i.Unlock m ∷ []
do_code t at n (s.Return None) = i.Const (pos 0) ∷ i.Ret ∷ []
do_code t at n (s.Return (Some e)) = expr_code at e ++ i.Ret ∷ []
do_code t at n _ = []

-- how many instructions a simple statement has, behind its mark
abbrev pub do_size : LStmt → ℕ
do_size (s.Assign to e) = dest_size to + (size e + 1)
do_size (s.New slot owner) = 2
do_size (s.Getc slot) = 2
do_size (s.Print text args) = sizes args + 1
do_size (s.Free e) = size e + 1
do_size (s.Call to f args) = sizes args + 2
do_size (s.Spawn to f e) = dest_size to + (size e + 2)
do_size (s.Join e) = 1 + (size e + 1)
do_size (s.Lock m) = 2
do_size (s.Unlock m) = 1
do_size (s.Return None) = 2
do_size (s.Return (Some e)) = size e + 1
do_size _ = 0

-- the instructions of place n at a position, without the jumps that follow
abbrev pub act_code : (ℕ → ℕ) → ℕ → ℕ → Act → List Instr
act_code t at n Enter = i.Mark n ∷ i.Flag n ∷ []
act_code t at n (Do stmt) = i.Mark n ∷ do_code t (at + 1) n stmt
act_code t at n (Test e) = i.Mark n ∷ expr_code (at + 1) e
act_code t at n EndLoop = i.Mark n ∷ i.Flag n ∷ []
act_code t at n Finish = i.Mark n ∷ i.Const (pos 0) ∷ i.Ret ∷ []

-- how many instructions a place has
abbrev pub act_size : Act → ℕ
act_size Enter = 2
act_size (Do stmt) = 1 + do_size stmt
act_size (Test e) = 1 + size e
act_size EndLoop = 2
act_size Finish = 3

-- how many instructions pass an else branch: none where there is none
abbrev pub over : {m : _} → Row_of-LStmt m → ℕ
over end_of-LStmt = 0
over (more_of-LStmt x rest) = 1

-- the jump past an else branch, where there is one
abbrev pub jump_over : {m : _} → Row_of-LStmt m → ℕ → List Instr
jump_over end_of-LStmt to = []
jump_over (more_of-LStmt x rest) to = i.Jump to ∷ []

-- how many instructions a statement has
unfoldable mutual
  pub stmt_size : LStmt → ℕ
  stmt_size (s.If' e ka a kb b) = act_size (Test e) + (1 + (rows_size a + (over b + rows_size b)))
  stmt_size (s.Loop' kc c e kb b kd d) =
      rows_size c + (act_size (Test e) + (1 + (rows_size b + (rows_size d + 3))))
  stmt_size s.Break = 1
  stmt_size s.Continue = 1
  stmt_size simple = act_size (Do simple)

  pub rows_size : {m : _} → Row_of-LStmt m → ℕ
  rows_size end_of-LStmt = 0
  rows_size (more_of-LStmt x rest) = stmt_size x + rows_size rest

-- the instructions of a statement at a position, whose first place is n; the exits are positions
-- here
unfoldable mutual
  pub stmt_code : (ℕ → ℕ) → Exits → ℕ → ℕ → LStmt → List Instr
  stmt_code t x at n (s.If' e ka a kb b) =
      let yes = at + act_size (Test e) + 1 in
      let no = yes + rows_size a + over b in
      act_code t at n (Test e)
      ++ (i.Jz no
      ∷ (rows_code t x yes (n + 1) a
      ++ (jump_over b (no + rows_size b) ++ rows_code t x no (n + 1 + counts a) b)))
  stmt_code t x at n (s.Loop' kc c e kb b kd d) =
      let test = at + rows_size c in
      let body = test + act_size (Test e) + 1 in
      let step = body + rows_size b in
      let end = step + rows_size d in
      let inner : Exits = record { leave = end + 3; again = step } in
      rows_code t x at n c
      ++ (act_code t test (n + counts c) (Test e)
      ++ (i.Jz (end + 3)
      ∷ (rows_code t inner body (n + counts c + 1) b
      ++ (rows_code t x step (n + counts c + 1 + counts b) d
      ++ (act_code t end (n + counts c + 1 + counts b + counts d) EndLoop ++ i.Jump at ∷ [])))))
  stmt_code t x at n s.Break = i.Jump x.leave ∷ []
  stmt_code t x at n s.Continue = i.Jump x.again ∷ []
  stmt_code t x at n simple = act_code t at n (Do simple)

  pub rows_code : (ℕ → ℕ) → Exits → ℕ → ℕ → {m : _} → Row_of-LStmt m → List Instr
  rows_code t x at n end_of-LStmt = []
  rows_code t x at n (more_of-LStmt y rest) =
      stmt_code t x at n y ++ rows_code t x (at + stmt_size y) (n + count y) rest

-- the position of the mark of each place of a statement at a position
unfoldable mutual
  pub stmt_marks : ℕ → LStmt → List ℕ
  stmt_marks at (s.If' e ka a kb b) =
      let yes = at + act_size (Test e) + 1 in
      at ∷ (rows_marks yes a ++ rows_marks (yes + rows_size a + over b) b)
  stmt_marks at (s.Loop' kc c e kb b kd d) =
      let test = at + rows_size c in
      let body = test + act_size (Test e) + 1 in
      let step = body + rows_size b in
      rows_marks at c
      ++ (test ∷ (rows_marks body b ++ (rows_marks step d ++ (step + rows_size d) ∷ [])))
  stmt_marks at s.Break = []
  stmt_marks at s.Continue = []
  stmt_marks at simple = at ∷ []

  pub rows_marks : ℕ → {m : _} → Row_of-LStmt m → List ℕ
  rows_marks at end_of-LStmt = []
  rows_marks at (more_of-LStmt x rest) = stmt_marks at x ++ rows_marks (at + stmt_size x) rest

-- how many instructions a block has
abbrev pub block_size : List LStmt → ℕ
block_size body = rows_size (row_of body)

-- how many instructions pass a block that is an else branch
abbrev pub over_block : List LStmt → ℕ
over_block body = over (row_of body)

-- the jump past a block that is an else branch
abbrev pub jump_over_block : List LStmt → ℕ → List Instr
jump_over_block body to = jump_over (row_of body) to

-- the instructions of a block at a position, whose first place is n
abbrev pub block_code : (ℕ → ℕ) → Exits → ℕ → ℕ → List LStmt → List Instr
block_code t x at n body = rows_code t x at n (row_of body)

-- the position of the mark of each place of a block at a position
abbrev pub block_marks : ℕ → List LStmt → List ℕ
block_marks at body = rows_marks at (row_of body)

-- the position of the implied return: the entry's place is at 1, the statements begin at 3
abbrev pub last_of : LFunction → ℕ
last_of f = 3 + block_size f.body

-- the position of the mark of each place of a function
abbrev pub marks : LFunction → List ℕ
marks f = 1 ∷ (block_marks 3 f.body ++ last_of f ∷ [])

-- the rebuilding part of a call: the callee's zeros, the call, the jump to the call's `after`
abbrev pub part : Lifted → ℕ → ℕ → List Instr
part p g after =
    replicate (function_of p g).params (i.Const (pos 0)) ++ i.Call g ∷ i.Jump after ∷ []

-- how many instructions a rebuilding part has
abbrev pub part_size : Lifted → ℕ → ℕ
part_size p g = (function_of p g).params + 2

-- a call: its place, its callee, and the position of its `after`
pub record Called : Type 0 where
  pub place : ℕ
  pub callee : ℕ
  pub after : ℕ

-- the call at place n, whose mark is at a position, where it is one
abbrev pub called_at : ℕ → ℕ → Act → List Called
called_at n mark (Do (s.Call to g args)) =
    record { place = n; callee = g; after = mark + 1 + sizes args + 1 } ∷ []
called_at n mark _ = []

-- the calls among places from n on with these marks
abbrev pub called_in : ℕ → List Place → List ℕ → List Called
called_in n [] ms = []
called_in n (at ∷ rest) [] = []
called_in n (at ∷ rest) (m ∷ ms) = called_at n m at.act ++ called_in (n + 1) rest ms

-- the calls of a function, by ascending place
abbrev pub calls_of : LFunction → List Called
calls_of f = called_in 0 (places f) (marks f)

-- the rebuilding parts of calls
abbrev pub parts : Lifted → List Called → List Instr
parts p [] = []
parts p (c ∷ rest) = part p c.callee c.after ++ parts p rest

-- where the calls' rebuilding parts stand, of which the first is at a position
abbrev pub spots : Lifted → ℕ → List Called → List CallSpot
spots p at [] = []
spots p at (c ∷ rest) =
    record { place = c.place; after = c.after; rebuild = at }
    ∷ spots p (at + part_size p c.callee) rest

-- where `break` and `continue` would go outside of loops; no formed program has one there
abbrev pub outside : LFunction → Exits
outside f = record { leave = last_of f; again = last_of f }

-- the text that is printed at a place, where one is
abbrev pub texts_at : Act → List (List ℕ)
texts_at (Do (s.Print text args)) = text ∷ []
texts_at _ = []

-- the texts that are printed at places
abbrev pub texts_in : List Place → List (List ℕ)
texts_in [] = []
texts_in (at ∷ rest) = texts_at at.act ++ texts_in rest

-- the texts that functions print, by function and place; equal ones count again
abbrev pub texts_of : List LFunction → List (List ℕ)
texts_of [] = []
texts_of (f ∷ rest) = texts_in (places f) ++ texts_of rest

-- the number of the text that is printed at place n, where `from` texts are those of earlier
-- functions
abbrev pub text_number : LFunction → ℕ → ℕ → ℕ
text_number f from n = from + length (texts_in (take n (places f)))

-- all instructions of a function: `restore`, the entry's place, the statements, the implied
-- return, the rebuilding parts
abbrev pub body_of : Lifted → (ℕ → ℕ) → LFunction → List Instr
body_of p t f =
    i.Restore
    ∷ (act_code t 1 0 Enter
    ++ (block_code t (outside f) 3 1 f.body
    ++ (act_code t (last_of f) (1 + size_of f.body) Finish ++ parts p (calls_of f))))

-- the code of a function, where t gives the numbers of its texts
abbrev pub function_code : Lifted → (ℕ → ℕ) → LFunction → CodeFunction
function_code p t f = record {
  params = f.params;
  slots = length f.slots;
  body = body_of p t f;
  marks = marks f;
  calls = spots p (last_of f + 3) (calls_of f);
}

-- the code of functions, where `from` texts are those of earlier ones
abbrev pub functions_code : Lifted → ℕ → List LFunction → List CodeFunction
functions_code p from [] = []
functions_code p from (f ∷ rest) =
    function_code p (text_number f from) f
    ∷ functions_code p (from + length (texts_in (places f))) rest

-- a code as contracts see it: the functions, and the texts that they print
pub record TargetCode : Type 0 where
  pub functions : List CodeFunction
  pub texts : List (List ℕ)

-- the code of a program
abbrev pub code_of : Lifted → TargetCode
code_of p = record { functions = functions_code p 0 p.functions; texts = texts_of p.functions }

-- a code is that of a formed program, so its jumps, slots, functions and texts lie inside it
pub record IsCode (code : TargetCode) : Type 0 where
  pub program : Lifted
  pub formed : IsFormed program
  pub is : code ≡ code_of program

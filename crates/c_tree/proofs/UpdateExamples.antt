-- Patches of small programs, and the updates that they make.
use Rattle.std.specs.Prelude.{◌≡◌, ℕ, pos, List, [], ◌∷◌, ◌++◌, map, refl, true, Option, Some, None, Ok, Err, codes}
use Rattle.c_tree.specs.declared.ty.Ty.{Ty}
use Rattle.c_tree.specs.declared.ty.Ty.TheVariants as ty
use Rattle.c_tree.specs.declared.op.UnOp.TheVariants as un
use Rattle.c_tree.specs.declared.op.BinOp.{BinOp}
use Rattle.c_tree.specs.declared.op.BinOp.TheVariants as bin
use Rattle.c_tree.specs.declared.cause.EntryCause.{EntryCause}
use Rattle.c_tree.specs.declared.cause.EntryCause.TheVariants as c
use Rattle.c_tree.specs.declared.program.Expr.{Expr}
use Rattle.c_tree.specs.declared.program.ExprKind.{ExprKind}
use Rattle.c_tree.specs.declared.program.ExprKind.TheVariants as e
use Rattle.c_tree.specs.declared.lifted.LExpr.{LExpr}
use Rattle.c_tree.specs.declared.lifted.LExpr.TheVariants as l
use Rattle.c_tree.specs.declared.lifted.LStmt.{LStmt}
use Rattle.c_tree.specs.declared.lifted.LStmt.TheVariants as t
use Rattle.c_tree.specs.declared.lifted.Dest.TheVariants as d
use Rattle.c_tree.specs.declared.lifted.Slot.{Slot}
use Rattle.c_tree.specs.declared.lifted.LGlobal.{LGlobal}
use Rattle.c_tree.specs.declared.lifted.LFunction.{LFunction}
use Rattle.c_tree.specs.declared.lifted.Lifted.{Lifted}
use Rattle.c_tree.specs.declared.place.PlaceKind.TheVariants as kind
use Rattle.c_tree.specs.declared.mapping.Pt.{Pt}
use Rattle.c_tree.specs.declared.mapping.Fill.{Fill}
use Rattle.c_tree.specs.declared.mapping.Part.{Part}
use Rattle.c_tree.specs.declared.mapping.LFill.{LFill}
use Rattle.c_tree.specs.declared.mapping.LPart.{LPart}
use Rattle.c_tree.specs.declared.mapping.Entry.{Entry}
use Rattle.c_tree.specs.declared.mapping.Entry.TheVariants as n
use Rattle.c_tree.specs.declared.mapping.LEntry.{LEntry}
use Rattle.c_tree.specs.declared.mapping.LEntry.TheVariants as m
use Rattle.c_tree.specs.declared.mapping.Patch.{Patch}
use Rattle.c_tree.specs.declared.event.Reason.TheVariants as why
use Rattle.c_tree.specs.declared.state.Frame.{Frame}
use Rattle.c_tree.specs.declared.state.Object.{Object}
use Rattle.c_tree.specs.declared.state.State.{State}
use Rattle.c_tree.specs.Entries.{lifted_entries}
use Rattle.c_tree.specs.Sound.{is_sound}
use Rattle.c_tree.specs.Canonical.{canonical_entries, canonical_text}
use Rattle.c_tree.specs.Update.{update}
use Rattle.c_tree.specs.Compute.{literals}

-- short words for parts of programs, mappings and states

abbrev pub slot : List ℕ → Ty → Slot
slot name t = record { name = name; ty = t }

abbrev pub scalar : List ℕ → Ty → LGlobal
scalar name t = record { name = name; ty = t; count = None; init = pos 0 }

abbrev pub counted : List LGlobal
counted = scalar (codes "n") ty.Int ∷ []

abbrev pub main_of : List Slot → List LStmt → LFunction
main_of slots body = record { name = codes "main"; ret = ty.Int; params = 0; slots = slots; body = body ++ t.Return (Some (l.Num (pos 0))) ∷ [] }

abbrev pub num : ℕ → LExpr
num n = l.Num (pos n)

abbrev pub up_by_one : ℕ → LStmt
up_by_one g = t.Assign (d.Global g) (l.Bin bin.Add (l.Global g) (num 1))

-- `while (n < limit) { n = n + 1; .. }`
abbrev pub count_to : ℕ → ℕ → List LStmt → LStmt
count_to g limit rest = t.Loop [] (l.Bin bin.Lt (l.Global g) (num limit)) (up_by_one g ∷ rest) []

abbrev pub print_of : List ℕ → LExpr → LStmt
print_of text x = t.Print text (x ∷ [])

abbrev pub entry : Pt
entry = record { kind = kind.Entry; number = 1 }

abbrev pub loop : ℕ → Pt
loop k = record { kind = kind.LoopEnd; number = k }

abbrev pub call : ℕ → Pt
call k = record { kind = kind.Call; number = k }

-- the one part of a frame that stays one
abbrev pub becomes : Pt → List Fill → List Part
becomes pt fills = record { function = None; point = pt; fills = fills } ∷ []

abbrev pub goes : ℕ → ℕ → List LFill → List LPart
goes f n fills = record { function = f; place = n; fills = fills } ∷ []

abbrev pub main_loop : Entry
main_loop = n.Point (codes "main") (loop 1) (becomes (loop 1) [])

abbrev pub tree : ExprKind → Expr
tree kind = record { at = 0; kind = kind }

abbrev pub two : BinOp → ExprKind → ExprKind → Expr
two op a b = tree (e.Bin op (tree a) (tree b))

abbrev pub named : List ℕ → ExprKind
named name = e.Name name

abbrev pub literal : ℕ → ExprKind
literal k = e.Num (pos k)

abbrev pub fill : List ℕ → Expr → List Fill
fill name x = record { slot = name; expr = x } ∷ []

abbrev pub filled_by : ℕ → LExpr → List LFill
filled_by i x = record { slot = i; expr = x } ∷ []

abbrev pub patch : Lifted → Lifted → List LEntry → Patch
patch old new entries = record { old_text = []; old = old; new_text = []; new = new; entries = entries }

abbrev pub frame : ℕ → ℕ → List ℕ → Frame
frame f n slots = record { function = f; place = n; slots = map pos slots }

abbrev pub object : List ℕ → Option Object
object fields = Some (record { owner = 0; fields = map pos fields })

abbrev pub state : List ℕ → List (Option ℕ) → List (List Frame) → List ℕ → State
state globals mutexes threads output = record {
  globals = map (λ v. pos v ∷ []) globals;
  heap = record { objects = [] };
  mutexes = mutexes;
  threads = map Some threads;
  input = [];
  output = output;
}

-- A loop that counts to 4 prints other words in its new version.

abbrev pub counts : List ℕ → List LGlobal → Lifted
counts text globals = record {
  structs = [];
  globals = globals;
  mutexes = [];
  functions = main_of [] (count_to 0 4 (print_of text (l.Global 0) ∷ []) ∷ []) ∷ [];
  main = 0;
}

abbrev pub counts_old : Lifted
counts_old = counts (codes "old %d\n") counted

abbrev pub counts_new : Lifted
counts_new = counts (codes "new %d\n") counted

abbrev pub loop_entries : List LEntry
loop_entries = m.Point 0 4 (goes 0 4 []) ∷ []

-- two rounds were made, and the thread stands at the loop's end
abbrev pub two_rounds : State
two_rounds = state (2 ∷ []) [] ((frame 0 4 [] ∷ []) ∷ []) (codes "old 1\nold 2\n")

pub loop_lifts : canonical_entries counts_old counts_new (main_loop ∷ []) ≡ Ok loop_entries
unfolding literals
loop_lifts = refl

pub loop_is_sound : is_sound counts_old counts_new loop_entries ≡ true
unfolding literals
loop_is_sound = refl

pub loop_text : canonical_text counts_old counts_new loop_entries ≡ codes "point main loop 1 -> loop 1;\n"
unfolding literals
loop_text = refl

pub loop_is_updated : update (patch counts_old counts_new loop_entries) two_rounds ≡ Ok two_rounds
unfolding literals
loop_is_updated = refl

-- the entry of a changed function has no map
pub entry_is_unmapped : update (patch counts_old counts_new loop_entries) (state (0 ∷ []) [] ((frame 0 0 [] ∷ []) ∷ []) []) ≡ Err (why.Unmapped 0 0)
unfolding literals
entry_is_unmapped = refl

-- there is no second loop
pub loop_is_missing : lifted_entries counts_old counts_new (n.Point (codes "main") (loop 2) (becomes (loop 1) []) ∷ []) ≡ Err (record { entry = 1; cause = c.UnknownPoint })
unfolding literals
loop_is_missing = refl

-- an unchanged program maps all its points to themselves
pub same_stays : update (patch counts_old counts_old []) (state (0 ∷ []) [] ((frame 0 0 [] ∷ []) ∷ []) []) ≡ Ok (state (0 ∷ []) [] ((frame 0 0 [] ∷ []) ∷ []) [])
unfolding literals
same_stays = refl

-- `check n >= 3`

abbrev pub check_entries : List LEntry
check_entries = m.Point 0 4 (goes 0 4 []) ∷ m.Check (l.Bin bin.Ge (l.Global 0) (num 3)) ∷ []

pub check_lifts : canonical_entries counts_old counts_new (main_loop ∷ n.Check (two bin.Ge (named (codes "n")) (literal 3)) ∷ []) ≡ Ok check_entries
unfolding literals
check_lifts = refl

pub check_is_sound : is_sound counts_old counts_new check_entries ≡ true
unfolding literals
check_is_sound = refl

pub check_text : canonical_text counts_old counts_new check_entries ≡ codes "point main loop 1 -> loop 1;\ncheck n >= 3;\n"
unfolding literals
check_text = refl

pub check_fails : update (patch counts_old counts_new check_entries) two_rounds ≡ Err (why.Check 1 0)
unfolding literals
check_fails = refl

-- `check -(-n) >= 0` keeps its minus signs apart

abbrev pub minus_entries : List LEntry
minus_entries = m.Check (l.Bin bin.Ge (l.Un un.Neg (l.Un un.Neg (l.Global 0))) (num 0)) ∷ []

pub minus_lifts : canonical_entries counts_old counts_new (n.Check (two bin.Ge (e.Un un.Neg (tree (e.Un un.Neg (tree (named (codes "n")))))) (literal 0)) ∷ []) ≡ Ok minus_entries
unfolding literals
minus_lifts = refl

pub minus_text : canonical_text counts_old counts_new minus_entries ≡ codes "check - -n >= 0;\n"
unfolding literals
minus_text = refl

-- `int k;` is new, and `init k = 100 / (n - 2)` traps

abbrev pub counts_with_k : Lifted
counts_with_k = counts (codes "new %d\n") (counted ++ scalar (codes "k") ty.Int ∷ [])

abbrev pub init_entries : List LEntry
init_entries = m.Init 1 (l.Bin bin.Div (num 100) (l.Bin bin.Sub (l.Global 0) (num 2))) ∷ m.Point 0 4 (goes 0 4 []) ∷ []

pub init_lifts : canonical_entries counts_old counts_with_k (main_loop ∷ n.Init (codes "k") (two bin.Div (literal 100) (e.Bin bin.Sub (tree (named (codes "n"))) (tree (literal 2)))) ∷ []) ≡ Ok init_entries
unfolding literals
init_lifts = refl

pub init_is_sound : is_sound counts_old counts_with_k init_entries ≡ true
unfolding literals
init_is_sound = refl

pub init_text : canonical_text counts_old counts_with_k init_entries ≡ codes "init k = 100 / (n - 2);\npoint main loop 1 -> loop 1;\n"
unfolding literals
init_text = refl

pub init_traps : update (patch counts_old counts_with_k init_entries) two_rounds ≡ Err (why.Global 1 1)
unfolding literals
init_traps = refl

-- Four frames: c loops inside b, a and main. The new versions have a slot w more, which the mapping fills.

abbrev pub int_function : List ℕ → List Slot → List LStmt → LFunction
int_function name slots body = record { name = name; ret = ty.Int; params = 1; slots = slots; body = body }

abbrev pub x_slot : Slot
x_slot = slot (codes "x") ty.Int

abbrev pub r_slot : Slot
r_slot = slot (codes "r") ty.Int

abbrev pub w_slot : Slot
w_slot = slot (codes "w") ty.Int

-- calls with x + 1 into slot r, and gives r and something more
abbrev pub caller : List ℕ → List Slot → ℕ → ℕ → LExpr → LFunction
caller name slots r callee more =
    int_function name slots (t.Call (Some r) callee (l.Bin bin.Add (l.Slot 0) (num 1) ∷ []) ∷ t.Return (Some (l.Bin bin.Add (l.Slot r) more)) ∷ [])

abbrev pub looping : LExpr → List ℕ → LExpr → List Slot → LFunction
looping test text value slots =
    int_function (codes "c") slots (t.Loop [] test (up_by_one 0 ∷ print_of text (l.Global 0) ∷ []) [] ∷ t.Return (Some value) ∷ [])

abbrev pub nested : LFunction → LFunction → LFunction → Lifted
nested c b a = record {
  structs = [];
  globals = counted;
  mutexes = [];
  functions = c ∷ b ∷ a ∷ main_of (slot (codes ".1") ty.Int ∷ []) (t.Call (Some 0) 2 (num 1 ∷ []) ∷ print_of (codes "%d\n") (l.Slot 0) ∷ []) ∷ [];
  main = 3;
}

abbrev pub nested_old : Lifted
nested_old = nested
    (looping (num 1) (codes "c %d\n") (l.Slot 0) (x_slot ∷ []))
    (caller (codes "b") (x_slot ∷ r_slot ∷ []) 1 0 (num 10))
    (caller (codes "a") (x_slot ∷ r_slot ∷ []) 1 1 (num 100))

abbrev pub nested_new : Lifted
nested_new = nested
    (looping (l.Bin bin.Lt (l.Global 0) (num 3)) (codes "C %d\n") (l.Bin bin.Add (l.Slot 0) (l.Slot 1)) (x_slot ∷ w_slot ∷ []))
    (caller (codes "b") (x_slot ∷ r_slot ∷ w_slot ∷ []) 1 0 (l.Slot 2))
    (caller (codes "a") (x_slot ∷ w_slot ∷ r_slot ∷ []) 2 1 (l.Slot 1))

abbrev pub nested_map : List Entry
nested_map =
    n.Point (codes "c") (loop 1) (becomes (loop 1) (fill (codes "w") (two bin.Mul (named (codes "n")) (literal 10))))
    ∷ n.Point (codes "b") (call 1) (becomes (call 1) (fill (codes "w") (two bin.Mul (named (codes "x")) (literal 1000))))
    ∷ n.Point (codes "a") (call 1) (becomes (call 1) (fill (codes "w") (two bin.Mul (named (codes "x")) (literal 100))))
    ∷ []

abbrev pub nested_entries : List LEntry
nested_entries =
    m.Point 0 4 (goes 0 4 (filled_by 1 (l.Bin bin.Mul (l.Global 0) (num 10))))
    ∷ m.Point 1 1 (goes 1 1 (filled_by 2 (l.Bin bin.Mul (l.Slot 0) (num 1000))))
    ∷ m.Point 2 1 (goes 2 1 (filled_by 1 (l.Bin bin.Mul (l.Slot 0) (num 100))))
    ∷ []

pub nested_lifts : canonical_entries nested_old nested_new nested_map ≡ Ok nested_entries
unfolding literals
nested_lifts = refl

pub nested_is_sound : is_sound nested_old nested_new nested_entries ≡ true
unfolding literals
nested_is_sound = refl

pub nested_text : canonical_text nested_old nested_new nested_entries ≡
    codes "point c loop 1 -> loop 1 { w = n * 10; };\n" ++ codes "point b call 1 -> call 1 { w = x * 1000; };\n" ++ codes "point a call 1 -> call 1 { w = x * 100; };\n"
unfolding literals
nested_text = refl

-- frames outermost first; each new one has its slots in the new order
abbrev pub nested_stack : Frame → Frame → Frame → State
nested_stack a b c = state (2 ∷ []) [] ((frame 3 1 (0 ∷ []) ∷ a ∷ b ∷ c ∷ []) ∷ []) (codes "c 1\nc 2\n")

pub nested_is_updated :
    update (patch nested_old nested_new nested_entries) (nested_stack (frame 2 1 (1 ∷ 0 ∷ [])) (frame 1 1 (2 ∷ 0 ∷ [])) (frame 0 4 (3 ∷ [])))
    ≡ Ok (nested_stack (frame 2 1 (1 ∷ 100 ∷ 0 ∷ [])) (frame 1 1 (2 ∷ 0 ∷ 2000 ∷ [])) (frame 0 4 (3 ∷ 20 ∷ [])))
unfolding literals
nested_is_updated = refl

-- The loop of `main` is a function of its own in the new version: one frame becomes two.

abbrev pub counts_apart : Lifted
counts_apart = record {
  structs = [];
  globals = counted;
  mutexes = [];
  functions =
      int_function (codes "go") (slot (codes "k") ty.Int ∷ [])
      (t.Loop [] (l.Bin bin.Lt (l.Global 0) (l.Slot 0)) (up_by_one 0 ∷ print_of (codes "new %d\n") (l.Global 0) ∷ []) [] ∷ t.Return (Some (l.Global 0)) ∷ [])
      ∷ record { name = codes "main"; ret = ty.Int; params = 0; slots = r_slot ∷ []; body = t.Call (Some 0) 0 (num 4 ∷ []) ∷ t.Return (Some (l.Slot 0)) ∷ [] }
      ∷ [];
  main = 1;
}

-- an added part of the function `go`
abbrev pub and_go : Pt → List Fill → Part
and_go pt fills = record { function = Some (codes "go"); point = pt; fills = fills }

abbrev pub k_is_four : List Fill
k_is_four = fill (codes "k") (tree (literal 4))

abbrev pub split : List Part → List Entry
split added = n.Point (codes "main") (loop 1) (record { function = None; point = call 1; fills = [] } ∷ added) ∷ []

abbrev pub split_entries : List LEntry
split_entries =
    m.Point 0 4 (record { function = 1; place = 1; fills = [] } ∷ record { function = 0; place = 4; fills = filled_by 0 (num 4) } ∷ []) ∷ []

pub split_lifts : canonical_entries counts_old counts_apart (split (and_go (loop 1) k_is_four ∷ [])) ≡ Ok split_entries
unfolding literals
split_lifts = refl

pub split_is_sound : is_sound counts_old counts_apart split_entries ≡ true
unfolding literals
split_is_sound = refl

pub split_text : canonical_text counts_old counts_apart split_entries ≡ codes "point main loop 1 -> call 1 + go loop 1 { k = 4; };\n"
unfolding literals
split_text = refl

-- the caller stands at its call with its new slot 0, and the loop goes on above it
pub split_is_updated :
    update (patch counts_old counts_apart split_entries) two_rounds
    ≡ Ok (state (2 ∷ []) [] ((frame 1 1 (0 ∷ []) ∷ frame 0 4 (4 ∷ []) ∷ []) ∷ []) (codes "old 1\nold 2\n"))
unfolding literals
split_is_updated = refl

-- a slot of an added frame is 0 where nothing is declared
pub added_slot_is_zero :
    update (patch counts_old counts_apart (m.Point 0 4 (goes 1 1 [] ++ goes 0 4 []) ∷ [])) two_rounds
    ≡ Ok (state (2 ∷ []) [] ((frame 1 1 (0 ∷ []) ∷ frame 0 4 (0 ∷ []) ∷ []) ∷ []) (codes "old 1\nold 2\n"))
unfolding literals
added_slot_is_zero = refl

-- why a split is unsound

abbrev pub refused_as : EntryCause → List Part → Type 0
refused_as cause added = lifted_entries counts_old counts_apart (split added) ≡ Err (record { entry = 1; cause = cause })

pub part_is_unknown : refused_as c.UnknownFunction (record { function = Some (codes "gone"); point = loop 1; fills = [] } ∷ [])
unfolding literals
part_is_unknown = refl

pub part_has_no_point : refused_as c.UnknownPoint (and_go (loop 2) [] ∷ [])
unfolding literals
part_has_no_point = refl

-- an update place stands before the last part
pub middle_is_no_call : refused_as c.KindDiffers (and_go (loop 1) k_is_four ∷ and_go entry [] ∷ [])
unfolding literals
middle_is_no_call = refl

-- the last part stands at a call, and the old frame at none
pub last_is_call : refused_as c.KindDiffers []
unfolding literals
last_is_call = refl

-- `main` calls `go` and not itself
pub part_is_not_called : refused_as c.CalleeDiffers (record { function = Some (codes "main"); point = entry; fills = [] } ∷ [])
unfolding literals
part_is_not_called = refl

pub part_has_no_slot : refused_as c.BadExpr (and_go (loop 1) (fill (codes "r") (tree (literal 4))) ∷ [])
unfolding literals
part_has_no_slot = refl

pub part_fills_twice : refused_as c.Twice (and_go (loop 1) (k_is_four ++ k_is_four) ∷ [])
unfolding literals
part_fills_twice = refl

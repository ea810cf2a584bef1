-- Small programs, old and new versions, and the entries of their mappings.
use Rattle.std.specs.Prelude.{ℕ, pos, List, [], ◌∷◌, ◌++◌, Some, codes}
use Rattle.c_tree.specs.declared.lifted.Dest.TheVariants as d
use Rattle.c_tree.specs.declared.lifted.LExpr.{LExpr}
use Rattle.c_tree.specs.declared.lifted.LExpr.TheVariants as e
use Rattle.c_tree.specs.declared.lifted.LFunction.{LFunction}
use Rattle.c_tree.specs.declared.lifted.LStmt.{LStmt}
use Rattle.c_tree.specs.declared.lifted.LStmt.TheVariants as s
use Rattle.c_tree.specs.declared.lifted.Lifted.{Lifted}
use Rattle.c_tree.specs.declared.lifted.Slot.{Slot}
use Rattle.c_tree.specs.declared.mapping.LEntry.{LEntry}
use Rattle.c_tree.specs.declared.mapping.LEntry.TheVariants as m
use Rattle.c_tree.specs.declared.op.BinOp.TheVariants as bin
use Rattle.c_tree.specs.declared.op.UnOp.TheVariants as un
use Rattle.c_tree.specs.declared.ty.Ty.{Ty}
use Rattle.c_tree.specs.declared.ty.Ty.TheVariants as ty
use Rattle.c_tree.proofs.UpdateExamples.{slot, scalar, counted, main_of, num, count_to, up_by_one, print_of, goes, int_function}

-- a program of `main` alone, without globals
abbrev pub only_main : List Slot → List LStmt → Lifted
only_main slots body = record {
  structs = [];
  globals = [];
  mutexes = [];
  functions = record (main_of slots []) { body = body } ∷ [];
  main = 0;
}

-- `printf("hi\n"); return 3;`
abbrev pub hello : Lifted
hello = only_main [] (s.Print (codes "hi\n") [] ∷ s.Return (Some (num 3)) ∷ [])

-- `printf("%d\n", getchar()); return 0;`
abbrev pub reads : Lifted
reads = only_main (slot (codes ".1") ty.Int ∷ []) (s.Getc 0 ∷ print_of (codes "%d\n") (e.Slot 0) ∷ s.Return (Some (num 0)) ∷ [])

-- `int a; a = 2147483647; a = a + 1; printf("%d\n", a); return a / -1;`
abbrev pub divides : Lifted
divides =
    only_main (slot (codes "a") ty.Int ∷ [])
    (s.Assign (d.Slot 0) (num 2147483647)
    ∷ s.Assign (d.Slot 0) (e.Bin bin.Add (e.Slot 0) (num 1))
    ∷ print_of (codes "%d\n") (e.Slot 0)
    ∷ s.Return (Some (e.Bin bin.Div (e.Slot 0) (e.Un un.Neg (num 1))))
    ∷ [])

-- `return 1 << 32;`
abbrev pub shifts : Lifted
shifts = only_main [] (s.Return (Some (e.Bin bin.Shl (num 1) (num 32))) ∷ [])

-- `while (1) { } return 0;`
abbrev pub forever : Lifted
forever = only_main [] (s.Loop [] (num 1) [] [] ∷ s.Return (Some (num 0)) ∷ [])

-- `int f(int q) { z = 0; while (n < 2) { n = n + 1; } return ..; } int main(void) { printf("%d\n", f(10 / z)); return 0; }`
abbrev pub asks : LExpr → Lifted
asks result = record {
  structs = [];
  globals = record (scalar (codes "z") ty.Int) { init = pos 1 } ∷ counted;
  mutexes = [];
  functions =
      int_function (codes "f") (slot (codes "q") ty.Int ∷ []) (s.Assign (d.Global 0) (num 0) ∷ count_to 1 2 [] ∷ s.Return (Some result) ∷ [])
      ∷ main_of (slot (codes ".1") ty.Int ∷ []) (s.Call (Some 0) 0 (e.Bin bin.Div (num 10) (e.Global 0) ∷ []) ∷ print_of (codes "%d\n") (e.Slot 0) ∷ [])
      ∷ [];
  main = 1;
}

abbrev pub asks_old : Lifted
asks_old = asks (e.Slot 0)

abbrev pub asks_new : Lifted
asks_new = asks (e.Bin bin.Add (e.Slot 0) (num 1))

abbrev pub asks_entries : List LEntry
asks_entries = m.Point 0 4 (goes 0 4 []) ∷ []

-- a function of the form that a thread can start
abbrev pub started : List ℕ → List LStmt → LFunction
started name body = record { name = name; ret = ty.AnyPtr; params = 1; slots = slot (codes "a") ty.AnyPtr ∷ []; body = body ++ s.Return (Some e.Null) ∷ [] }

-- a thread waits for a mutex that `main` holds while it loops; `main` joins it, and prints
abbrev pub waits : List ℕ → Lifted
waits text = record {
  structs = [];
  globals = counted;
  mutexes = codes "m" ∷ [];
  functions =
      started (codes "w") (s.Lock 0 ∷ s.Print (codes "w\n") [] ∷ s.Unlock 0 ∷ [])
      ∷ main_of (slot (codes "t") ty.Thread ∷ []) (s.Lock 0 ∷ s.Spawn (d.Slot 0) 0 e.Null ∷ count_to 0 3 [] ∷ s.Unlock 0 ∷ s.Join (e.Slot 0) ∷ print_of text (e.Global 0) ∷ [])
      ∷ [];
  main = 1;
}

abbrev pub waits_old : Lifted
waits_old = waits (codes "old %d\n")

abbrev pub waits_new : Lifted
waits_new = waits (codes "new %d\n")

abbrev pub waits_entries : List LEntry
waits_entries = m.Point 1 5 (goes 1 5 []) ∷ []

-- two threads count on while a test holds; `main` joins both, and prints
abbrev pub workers : LExpr → Lifted
workers test = record {
  structs = [];
  globals = counted;
  mutexes = [];
  functions =
      started (codes "w") (s.Loop [] test (up_by_one 0 ∷ []) [] ∷ [])
      ∷ main_of (slot (codes "t") ty.Thread ∷ slot (codes "u") ty.Thread ∷ []) (s.Spawn (d.Slot 0) 0 e.Null ∷ s.Spawn (d.Slot 1) 0 e.Null ∷ s.Join (e.Slot 0) ∷ s.Join (e.Slot 1) ∷ print_of (codes "%d\n") (e.Global 0) ∷ [])
      ∷ [];
  main = 1;
}

abbrev pub workers_old : Lifted
workers_old = workers (num 1)

abbrev pub workers_new : Lifted
workers_new = workers (e.Bin bin.Lt (e.Global 0) (num 6))

abbrev pub workers_entries : List LEntry
workers_entries = m.Point 0 3 (goes 0 3 []) ∷ []

-- objects of a struct that gets a field in the new version; one of them is freed
abbrev pub item : Ty
item = ty.Ptr (codes "item")

abbrev pub new_item : ℕ → List LStmt
new_item value = s.New 0 0 ∷ s.Assign (d.Field (e.Slot 0) 0 0) (num value) ∷ []

abbrev pub items : List Slot → ℕ → Lifted
items fields shown = record {
  structs = record { name = codes "item"; fields = fields } ∷ [];
  globals = scalar (codes "head") item ∷ counted;
  mutexes = [];
  functions =
      main_of (slot (codes "p") item ∷ [])
      (new_item 5
      ++ s.Assign (d.Global 0) (e.Slot 0)
      ∷ (new_item 7
      ++ (new_item 9
      ++ s.Free (e.Slot 0)
      ∷ s.Assign (d.Slot 0) e.Null
      ∷ count_to 1 1 []
      ∷ print_of (codes "%d\n") (e.Field (e.Global 0) 0 shown)
      ∷ [])))
      ∷ [];
  main = 0;
}

abbrev pub items_old : Lifted
items_old = items (slot (codes "value") ty.Int ∷ slot (codes "next") item ∷ []) 0

abbrev pub items_new : Lifted
items_new = items (slot (codes "value") ty.Int ∷ slot (codes "weight") ty.Int ∷ slot (codes "next") item ∷ []) 1

abbrev pub item_entries : List LEntry
item_entries = m.Field 0 1 (e.Bin bin.Mul (e.Own 0) (num 2)) ∷ m.Point 0 12 (goes 0 12 []) ∷ []

-- two mutexes that two threads lock in different orders
abbrev pub crossed : Lifted
crossed = record {
  structs = [];
  globals = [];
  mutexes = codes "a" ∷ codes "b" ∷ [];
  functions =
      started (codes "w") (s.Lock 1 ∷ s.Lock 0 ∷ s.Unlock 0 ∷ s.Unlock 1 ∷ [])
      ∷ main_of (slot (codes "t") ty.Thread ∷ []) (s.Spawn (d.Slot 0) 0 e.Null ∷ s.Lock 0 ∷ s.Lock 1 ∷ s.Unlock 1 ∷ s.Unlock 0 ∷ s.Join (e.Slot 0) ∷ [])
      ∷ [];
  main = 1;
}

-- `int a[3]; int i; for (i = 0; i < 3; i = i + 1) { if (i == 1) continue; a[i] = ~i; if (a[i] && !i) { } else { break; } }`
abbrev pub array : Lifted
array = record {
  structs = [];
  globals = record (scalar (codes "a") ty.Int) { count = Some 3 } ∷ [];
  mutexes = [];
  functions =
      main_of (slot (codes "i") ty.Int ∷ [])
      (s.Assign (d.Slot 0) (num 0)
      ∷ s.Loop [] (e.Bin bin.Lt (e.Slot 0) (num 3))
      (s.If (e.Bin bin.Eq (e.Slot 0) (num 1)) (s.Continue ∷ []) []
      ∷ s.Assign (d.Elem 0 (e.Slot 0)) (e.Un un.Flip (e.Slot 0))
      ∷ s.If (e.Bin bin.And (e.Elem 0 (e.Slot 0)) (e.Un un.Not (e.Slot 0))) [] (s.Break ∷ [])
      ∷ [])
      (s.Assign (d.Slot 0) (e.Bin bin.Add (e.Slot 0) (num 1)) ∷ [])
      ∷ print_of (codes "%d\n") (e.Elem 0 (e.Slot 0))
      ∷ [])
      ∷ [];
  main = 0;
}

-- a loop in which a mutex is held, and a new version without the mutex
abbrev pub locks_old : Lifted
locks_old = record {
  structs = [];
  globals = counted;
  mutexes = codes "m" ∷ [];
  functions = main_of [] (s.Lock 0 ∷ count_to 0 2 [] ∷ s.Unlock 0 ∷ print_of (codes "old %d\n") (e.Global 0) ∷ []) ∷ [];
  main = 0;
}

abbrev pub locks_new : Lifted
locks_new = record {
  structs = [];
  globals = counted;
  mutexes = [];
  functions = main_of [] (count_to 0 2 [] ∷ print_of (codes "new %d\n") (e.Global 0) ∷ []) ∷ [];
  main = 0;
}

abbrev pub locks_entries : List LEntry
locks_entries = m.Point 0 0 (goes 0 0 []) ∷ m.Point 0 4 (goes 0 3 []) ∷ []

-- `int down(int k) { int r; if (k == 0) { return 0; } r = down(k - 1); return r + ..; } int main(void) { printf("%d\n", down(2)); .. }`
abbrev pub deep : ℕ → Lifted
deep more = record {
  structs = [];
  globals = [];
  mutexes = [];
  functions =
      int_function (codes "down") (slot (codes "k") ty.Int ∷ slot (codes "r") ty.Int ∷ [])
      (s.If (e.Bin bin.Eq (e.Slot 0) (num 0)) (s.Return (Some (num 0)) ∷ []) []
      ∷ s.Call (Some 1) 0 (e.Bin bin.Sub (e.Slot 0) (num 1) ∷ [])
      ∷ s.Return (Some (e.Bin bin.Add (e.Slot 1) (num more)))
      ∷ [])
      ∷ main_of (slot (codes ".1") ty.Int ∷ []) (s.Call (Some 0) 0 (num 2 ∷ []) ∷ print_of (codes "%d\n") (e.Slot 0) ∷ [])
      ∷ [];
  main = 1;
}

abbrev pub deep_entries : List LEntry
deep_entries = m.Point 0 0 (goes 0 0 []) ∷ m.Point 0 3 (goes 0 3 []) ∷ []

-- `pthread_t a[1]; int main(void) { pthread_create(&a[1], NULL, w, NULL); return 0; }`: there is no place for the thread's number
abbrev pub no_place : Lifted
no_place = record {
  structs = [];
  globals = record (scalar (codes "a") ty.Thread) { count = Some 1 } ∷ [];
  mutexes = [];
  functions = started (codes "w") [] ∷ main_of [] (s.Spawn (d.Elem 0 (num 1)) 0 e.Null ∷ []) ∷ [];
  main = 1;
}

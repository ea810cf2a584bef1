-- The trees of the two sources, and their programs, by the number that they are made from.
use Rattle.std.proofs.Common.{ℕ, zero, suc, ◌+◌, ◌-◌, pos, Bool, true, false, List, [], ◌∷◌, ◌++◌, length, map, codes, Some, None}
use Rattle.std.specs.Fmt.{decimal}
use Rattle.std.specs.List.{range_with_len}
use Rattle.c_tree.specs.declared.ty.Ty.{Ty}
use Rattle.c_tree.specs.declared.ty.Ty.TheVariants as ty
use Rattle.c_tree.specs.declared.op.BinOp.TheVariants as bin
use Rattle.c_tree.specs.declared.program.At.{At}
use Rattle.c_tree.specs.declared.program.Expr.{Expr}
use Rattle.c_tree.specs.declared.program.ExprKind.{ExprKind}
use Rattle.c_tree.specs.declared.program.ExprKind.TheVariants as e
use Rattle.c_tree.specs.declared.program.Stmt.{Stmt}
use Rattle.c_tree.specs.declared.program.StmtKind.{StmtKind}
use Rattle.c_tree.specs.declared.program.StmtKind.TheVariants as s
use Rattle.c_tree.specs.declared.program.Function.{Function}
use Rattle.c_tree.specs.declared.program.GlobalDecl.{GlobalDecl}
use Rattle.c_tree.specs.declared.program.Program.{Program}
use Rattle.c_tree.specs.declared.lifted.LExpr.TheVariants as l
use Rattle.c_tree.specs.declared.lifted.LStmt.{LStmt}
use Rattle.c_tree.specs.declared.lifted.LStmt.TheVariants as t
use Rattle.c_tree.specs.declared.lifted.Dest.TheVariants as d
use Rattle.c_tree.specs.declared.lifted.Slot.{Slot}
use Rattle.c_tree.specs.declared.lifted.LGlobal.{LGlobal}
use Rattle.c_tree.specs.declared.lifted.LFunction.{LFunction}
use Rattle.c_tree.specs.declared.lifted.Lifted.{Lifted}
use Rattle.load_texts.specs.Texts.{first_function, next_function, work, old_source, new_source}

-- the name of the function k
abbrev pub function_name : ℕ → List ℕ
function_name k = codes "f" ++ decimal k

-- Programs.

-- a slot of an `int`
abbrev pub int_slot : List ℕ → Slot
int_slot name = record { name = name; ty = ty.Int }

-- a slot of a pointer or of a thread
abbrev pub slot_of : List ℕ → Ty → Slot
slot_of name t = record { name = name; ty = t }

-- the locals of a function of the old program, and of the new one
abbrev pub old_locals : List Slot
old_locals = int_slot (codes "i") ∷ []

abbrev pub new_locals : List Slot
new_locals = int_slot (codes "i") ∷ int_slot (codes "z") ∷ []

-- three times, a function adds its number
abbrev pub loop_of : ℕ → List LStmt
loop_of k =
    t.Assign (d.Slot 1) (l.Num (pos 0))
    ∷ t.Loop []
    (l.Bin bin.Lt (l.Slot 1) (l.Num (pos 3)))
    (t.Assign (d.Slot 1) (l.Bin bin.Add (l.Slot 1) (l.Num (pos 1))) ∷ t.Assign (d.Slot 0) (l.Bin bin.Add (l.Slot 0) (l.Num (pos k))) ∷ [])
    []
    ∷ []

-- the first function
abbrev pub first_lifted : List Slot → LFunction
first_lifted locals = record {
  name = function_name 1;
  ret = ty.Int;
  params = 1;
  slots = int_slot (codes "x") ∷ locals;
  body = loop_of 1 ++ t.Return (Some (l.Slot 0)) ∷ [];
}

-- the function k, which calls the one before it
abbrev pub next_lifted : List Slot → ℕ → LFunction
next_lifted locals k = record {
  name = function_name k;
  ret = ty.Int;
  params = 1;
  slots = int_slot (codes "x") ∷ (locals ++ int_slot (codes ".1") ∷ []);
  body = loop_of k ++ t.Call (Some (1 + length locals)) (k - 2) (l.Slot 0 ∷ []) ∷ t.Return (Some (l.Slot (1 + length locals))) ∷ [];
}

-- what each thread does: it calls the function n
abbrev pub work_lifted : ℕ → LFunction
work_lifted n = record {
  name = codes "work";
  ret = ty.AnyPtr;
  params = 1;
  slots = slot_of (codes "a") ty.AnyPtr ∷ int_slot (codes "r") ∷ [];
  body =
      t.Call (Some 1) (n - 1) (l.Num (pos 0) ∷ [])
      ∷ t.Lock 0
      ∷ t.Assign (d.Global 0) (l.Bin bin.Add (l.Global 0) (l.Slot 1))
      ∷ t.Unlock 0
      ∷ t.Return (Some l.Null)
      ∷ [];
}

-- the text that is printed
abbrev pub print_text : List ℕ → List ℕ
print_text word = word ++ codes " total %d\n"

-- the main function starts the function that stands behind the first n
abbrev pub main_lifted : List ℕ → ℕ → LFunction
main_lifted word n = record {
  name = codes "main";
  ret = ty.Int;
  params = 0;
  slots = slot_of (codes "a") ty.Thread ∷ slot_of (codes "b") ty.Thread ∷ slot_of (codes "c") ty.Thread ∷ slot_of (codes "d") ty.Thread ∷ [];
  body =
      t.Spawn (d.Slot 0) n l.Null
      ∷ t.Spawn (d.Slot 1) n l.Null
      ∷ t.Spawn (d.Slot 2) n l.Null
      ∷ t.Spawn (d.Slot 3) n l.Null
      ∷ t.Join (l.Slot 0)
      ∷ t.Join (l.Slot 1)
      ∷ t.Join (l.Slot 2)
      ∷ t.Join (l.Slot 3)
      ∷ t.Print (print_text word) (l.Global 0 ∷ [])
      ∷ t.Return (Some (l.Num (pos 0)))
      ∷ [];
}

-- the functions of a program
abbrev pub functions_lifted : List Slot → List ℕ → ℕ → List LFunction
functions_lifted locals word n = first_lifted locals ∷ (map (next_lifted locals) (range_with_len 2 (n - 1)) ++ work_lifted n ∷ main_lifted word n ∷ [])

-- the total
abbrev pub total_lifted : LGlobal
total_lifted = record { name = codes "total"; ty = ty.Int; count = None; init = pos 0 }

-- a program, by the locals of its functions and by the word that it prints
abbrev pub program : List Slot → List ℕ → ℕ → Lifted
program locals word n = record {
  structs = [];
  globals = total_lifted ∷ [];
  mutexes = codes "m" ∷ [];
  functions = functions_lifted locals word n;
  main = n + 1;
}

-- the old program
abbrev pub old_program : ℕ → Lifted
old_program n = program old_locals (codes "old") n

-- the new program
abbrev pub new_program : ℕ → Lifted
new_program n = program new_locals (codes "new") n

-- Trees.

-- The parts of the text of a program that stand between names and numbers: the type of a function, its parameter, its loop, what
-- stands before what it gives, the end of the first function and that of the others, what the threads begin with, and the globals.
abbrev pub type_text : List ℕ
type_text = codes "int "

abbrev pub open_text : List ℕ
open_text = codes "(int x) { "

abbrev pub loop_text : List ℕ
loop_text = codes " i = 0; while (i < 3) { i = i + 1; x = x + "

abbrev pub return_text : List ℕ
return_text = codes "; } return "

abbrev pub end_text : List ℕ
end_text = codes "; } return x; }\n"

abbrev pub called_text : List ℕ
called_text = codes "(x); }\n"

abbrev pub work_text : List ℕ
work_text = codes "void *work(void *a) { int r; r = "

abbrev pub total_text : List ℕ
total_text = codes "int total; pthread_mutex_t m;\n"

-- what a function declares: `i`, and in the new program `z` too
abbrev pub declared : Bool → List ℕ
declared false = codes "int i;"
declared true = codes "int i; int z;"

-- the locals that are declared so
abbrev pub locals : Bool → List Slot
locals false = old_locals
locals true = new_locals

-- the word that is printed
abbrev pub word : Bool → List ℕ
word false = codes "old"
word true = codes "new"

abbrev pub node : ℕ → ExprKind → Expr
node at kind = record { at = at; kind = kind }

abbrev pub statement : ℕ → StmtKind → Stmt
statement at kind = record { at = at; kind = kind }

abbrev pub named : ℕ → List ℕ → At (List ℕ)
named at name = record { at = at; it = name }

-- a name where it is used
abbrev pub use_of : ℕ → List ℕ → Expr
use_of at name = node at (e.Name name)

abbrev pub number_at : ℕ → ℕ → Expr
number_at at n = node at (e.Num (pos n))

-- a name gets a value
abbrev pub assigned : ℕ → List ℕ → Expr → Stmt
assigned at name x = statement at (s.Assign (use_of at name) None x)

-- the declarations, from where their text stands
abbrev pub declarations : Bool → ℕ → List Stmt
declarations false at = statement (at + 4) (s.Declare ty.Int (codes "i") None) ∷ []
declarations true at = statement (at + 4) (s.Declare ty.Int (codes "i") None) ∷ statement (at + 11) (s.Declare ty.Int (codes "z") None) ∷ []

-- the loop of the function k, from where its text stands behind the declarations
abbrev pub loop_tree : ℕ → ℕ → List Stmt
loop_tree k at =
    assigned (at + 1) (codes "i") (number_at (at + 5) 0)
    ∷ statement (at + 8) (s.While
    (node (at + 17) (e.Bin bin.Lt (use_of (at + 15) (codes "i")) (number_at (at + 19) 3)))
    (statement (at + 22) (s.Block
    (assigned (at + 24) (codes "i") (node (at + 30) (e.Bin bin.Add (use_of (at + 28) (codes "i")) (number_at (at + 32) 1)))
    ∷ assigned (at + 35) (codes "x") (node (at + 41) (e.Bin bin.Add (use_of (at + 39) (codes "x")) (number_at (at + 43) k)))
    ∷ []))))
    ∷ []

-- where the text behind the name of the function k stands, that behind its declarations, that behind its loop, and that behind
-- the name of the function that it calls
abbrev pub after_name : ℕ → ℕ → ℕ
after_name k at = at + 5 + length (decimal k)

abbrev pub after_declared : Bool → ℕ → ℕ → ℕ
after_declared wide k at = after_name k at + 10 + length (declared wide)

abbrev pub after_loop : Bool → ℕ → ℕ → ℕ
after_loop wide k at = after_declared wide k at + 43 + length (decimal k)

abbrev pub after_call : Bool → ℕ → ℕ → ℕ
after_call wide k at = after_loop wide k at + 12 + length (decimal (k - 1))

-- the function k, from where its text stands, by what it gives
abbrev pub function_tree : Bool → ℕ → ℕ → Expr → Function
function_tree wide k at x = record {
  name = named (at + 4) (function_name k);
  ret = ty.Int;
  params = record { name = named (after_name k at + 5) (codes "x"); ty = ty.Int } ∷ [];
  body =
      Some
      (declarations wide (after_name k at + 10)
      ++ (loop_tree k (after_declared wide k at) ++ statement (after_loop wide k at + 4) (s.Return (Some x)) ∷ []));
}

-- the first function
abbrev pub first_tree : Bool → ℕ → Function
first_tree wide at = function_tree wide 1 at (use_of (after_loop wide 1 at + 11) (codes "x"))

-- the function k, which calls the one before it
abbrev pub next_tree : Bool → ℕ → ℕ → Function
next_tree wide k at =
    function_tree wide k at
    (node (after_loop wide k at + 11)
    (e.Call (function_name (k - 1)) (use_of (after_call wide k at + 1) (codes "x") ∷ [])))

-- the functions from the one with the number k on, so many of them, from where their text stands
abbrev pub next_trees : Bool → ℕ → ℕ → ℕ → List Function
next_trees wide k at zero = []
next_trees wide k at (suc m) = next_tree wide k at ∷ next_trees wide (k + 1) (at + length (next_function (declared wide) k)) m

-- where the text behind them stands
abbrev pub after_functions : Bool → ℕ → ℕ → ℕ → ℕ
after_functions wide k at zero = at
after_functions wide k at (suc m) = after_functions wide (k + 1) (at + length (next_function (declared wide) k)) m

-- a lock or an unlock of the mutex
abbrev pub run_at : ℕ → ExprKind → Stmt
run_at at kind = statement at (s.Run (node at kind))

-- where the text behind the name of the function stands that a thread calls
abbrev pub after_called : ℕ → ℕ → ℕ
after_called n at = at + 34 + length (decimal n)

-- what each thread does, from where its text stands
abbrev pub work_tree : ℕ → ℕ → Function
work_tree n at =
    let after = after_called n at in
    record {
      name = named (at + 6) (codes "work");
      ret = ty.AnyPtr;
      params = record { name = named (at + 17) (codes "a"); ty = ty.AnyPtr } ∷ [];
      body =
          Some
          (statement (at + 26) (s.Declare ty.Int (codes "r") None)
          ∷ assigned (at + 29) (codes "r") (node (at + 33) (e.Call (function_name n) (number_at (after + 1) 0 ∷ [])))
          ∷ run_at (after + 5) (e.Lock (named (after + 25) (codes "m")))
          ∷ assigned (after + 29) (codes "total") (node (after + 43) (e.Bin bin.Add (use_of (after + 37) (codes "total")) (use_of (after + 45) (codes "r"))))
          ∷ run_at (after + 48) (e.Unlock (named (after + 70) (codes "m")))
          ∷ statement (after + 74) (s.Return (Some (node (after + 81) e.Null)))
          ∷ []);
    }

-- a thread is started, and joined, so far behind an offset
abbrev pub started : ℕ → ℕ → List ℕ → Stmt
started at i name = run_at (at + i) (e.Create (use_of (at + (i + 16)) name) (named (at + (i + 25)) (codes "work")) (node (at + (i + 31)) e.Null))

abbrev pub joined : ℕ → ℕ → List ℕ → Stmt
joined at i name = run_at (at + i) (e.Join (use_of (at + (i + 13)) name))

-- the main function, from where its text stands
abbrev pub main_tree : Bool → ℕ → Function
main_tree wide at = record {
  name = named (at + 4) (codes "main");
  ret = ty.Int;
  params = [];
  body =
      Some
      (statement (at + 27) (s.Declare ty.Thread (codes "a") None)
      ∷ statement (at + 40) (s.Declare ty.Thread (codes "b") None)
      ∷ statement (at + 53) (s.Declare ty.Thread (codes "c") None)
      ∷ statement (at + 66) (s.Declare ty.Thread (codes "d") None)
      ∷ started at 69 (codes "a")
      ∷ started at 107 (codes "b")
      ∷ started at 145 (codes "c")
      ∷ started at 183 (codes "d")
      ∷ joined at 221 (codes "a")
      ∷ joined at 244 (codes "b")
      ∷ joined at 267 (codes "c")
      ∷ joined at 290 (codes "d")
      ∷ statement (at + 313) (s.Print (print_text (word wide)) (use_of (at + 338) (codes "total") ∷ []))
      ∷ statement (at + 346) (s.Return (Some (number_at (at + 353) 0)))
      ∷ []);
}

-- where the text of the functions stands: that of the first, and that of the second
abbrev pub at_first : ℕ
at_first = 30

abbrev pub at_second : Bool → ℕ
at_second wide = at_first + length (first_function (declared wide))

-- where the text of the threads' function stands, and that of the main function
abbrev pub at_work : Bool → ℕ → ℕ
at_work wide n = after_functions wide 2 (at_second wide) (n - 1)

abbrev pub at_main : Bool → ℕ → ℕ
at_main wide n = at_work wide n + length (work n)

-- the text of a program, and its tree
abbrev pub text : Bool → ℕ → List ℕ
text false n = old_source n
text true n = new_source n

abbrev pub functions_tree : Bool → ℕ → List Function
functions_tree wide n = first_tree wide at_first ∷ (next_trees wide 2 (at_second wide) (n - 1) ++ work_tree n (at_work wide n) ∷ main_tree wide (at_main wide n) ∷ [])

abbrev pub total_tree : GlobalDecl
total_tree = record { name = named 4 (codes "total"); ty = ty.Int; count = None; init = None }

abbrev pub tree : Bool → ℕ → Program
tree wide n = record {
  structs = [];
  globals = total_tree ∷ [];
  mutexes = named 27 (codes "m") ∷ [];
  defines = [];
  functions = functions_tree wide n;
  len = length (text wide n);
}

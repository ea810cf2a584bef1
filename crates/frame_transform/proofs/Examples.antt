-- Small programs and the texts of their transformed programs.
use Rattle.std.specs.Prelude.{◌≡◌, pos, List, [], ◌∷◌, refl, Some, None, codes}
use Rattle.c_tree.specs.declared.lifted.LExpr.TheVariants as e
use Rattle.c_tree.specs.declared.lifted.LStmt.{LStmt}
use Rattle.c_tree.specs.declared.lifted.LStmt.TheVariants as s
use Rattle.c_tree.specs.declared.lifted.Dest.TheVariants as d
use Rattle.c_tree.specs.declared.lifted.LFunction.{LFunction}
use Rattle.c_tree.specs.declared.lifted.Lifted.{Lifted}
use Rattle.c_tree.specs.declared.ty.Ty.TheVariants as ty
use Rattle.c_tree.specs.Compute.{literals}
use Rattle.frame_transform.specs.Line.{times, line}
use Rattle.frame_transform.specs.Loops.{loops, loops_in}
use Rattle.frame_transform.specs.Statements.{simple_lines}
use Rattle.frame_transform.specs.Blocks.{else_line, text, texts, text_of}
use Rattle.frame_transform.specs.TargetText.{reads_in, target_text}

-- a function without slots
abbrev function : List LStmt → LFunction
function body = record { name = codes "main"; ret = ty.Int; params = 0; slots = []; body = body }

-- a program of one function, beside a global variable and a mutex
abbrev program : LFunction → Lifted
program f = record { structs = []; globals = record { name = codes "n"; ty = ty.Int; count = None; init = pos 2 } ∷ []; mutexes = codes "m" ∷ []; functions = f ∷ []; main = 0 }

-- `printf("hi\n"); return 3;`
abbrev hello : LFunction
hello = function (s.Print (codes "hi\n") [] ∷ s.Return (Some (e.Num (pos 3))) ∷ [])

-- `while (1) { n = 1; continue; }`
abbrev again : LStmt
again = s.Loop [] (e.Num (pos 1)) (s.Assign (d.Global 0) (e.Num (pos 1)) ∷ s.Continue ∷ []) []

pub hello_is_marked : target_text (program hello) ≡ codes "int n = 2;\npthread_mutex_t m;\nint main(void) {\n  UP_RESTORE(0);\n  UP_AT(0);\n  printf(\"hi\\n\");\n  return 3;\n  return 0;\n}\n"
unfolding literals times line loops loops_in simple_lines else_line text texts
hello_is_marked = refl

pub a_loop_has_its_label :
    text_of (reads_in (program hello) hello) 0 0 1 0 (again ∷ [])
    ≡ codes "for (;;) {\n  if (!(1)) break;\n  n = 1;\n  goto UP_CONT_1;\n  UP_CONT_1: ;\n  UP_AT(3);\n}\n"
unfolding literals times line loops loops_in simple_lines else_line text texts
a_loop_has_its_label = refl

-- an inner loop is numbered before the outer one, since its end stands before
pub inner_loops_come_first :
    text_of (reads_in (program hello) hello) 0 0 1 0 (s.Loop [] (e.Num (pos 1)) (again ∷ s.Continue ∷ []) [] ∷ s.Lock 0 ∷ [])
    ≡ codes "for (;;) {\n  if (!(1)) break;\n  for (;;) {\n    if (!(1)) break;\n    n = 1;\n    goto UP_CONT_1;\n    UP_CONT_1: ;\n    UP_AT(4);\n  }\n  goto UP_CONT_2;\n  UP_CONT_2: ;\n  UP_AT(5);\n}\nUP_AT(6);\npthread_mutex_lock(&m);\n"
unfolding literals times line loops loops_in simple_lines else_line text texts
inner_loops_come_first = refl

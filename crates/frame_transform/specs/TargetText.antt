-- The text of a transformed program: its functions with the marks at which frames are saved and rebuilt.
use Rattle.std.specs.Prelude.{ℕ, zero, suc, List, [], ◌++◌, length, codes, Option, Some, None}
use Rattle.std.specs.List.{flat_map, range_with_len}
use Rattle.c_tree.specs.declared.lifted.LFunction.{LFunction}
use Rattle.c_tree.specs.declared.lifted.Lifted.{Lifted}
use Rattle.c_tree.specs.declared.place.Place.{Place}
use Rattle.c_tree.specs.declared.ty.Ty.{Ty}
use Rattle.c_tree.specs.declared.ty.Ty.TheVariants as ty
use Rattle.c_tree.specs.Layout.{places}
use Rattle.c_tree.specs.MapExpr.{Reads}
use Rattle.c_tree.specs.Names.{name_at}
use Rattle.c_tree.specs.Points.{nth, callee_in}
use Rattle.c_tree.specs.Step.{function_of}
use Rattle.frame_transform.specs.Line.{times, line, numbered, mark}
use Rattle.frame_transform.specs.Declarations.{struct_text, global_text, mutex_text, head_text, locals_text}
use Rattle.frame_transform.specs.Blocks.{text_of}

-- the return at the end of a function with a result of a type
abbrev pub implied_return : Ty → List ℕ
implied_return ty.Void = codes "return;"
implied_return ty.AnyPtr = codes "return NULL;"
implied_return (ty.Ptr owner) = codes "return NULL;"
implied_return ty.Int = codes "return 0;"
implied_return ty.Thread = codes "return 0;"

-- as many zeros as a function has parameters
abbrev pub zeros : ℕ → List ℕ
zeros zero = []
zeros (suc n) = codes "0" ++ times n (codes ", 0")

-- a call whose arguments play no part
abbrev pub empty_call : Lifted → ℕ → List ℕ
empty_call p f = name_at p 0 f ++ (codes "(" ++ (zeros (function_of p f).params ++ codes ");"))

-- what rebuilds the frames inside the call of a function at place n
abbrev pub rebuild_text : Lifted → ℕ → ℕ → List ℕ
rebuild_text p n f = numbered (codes "UP_REBUILD(") n (codes "): ") ++ empty_call p f

-- the line that rebuilds the frames inside place n, where that is a call
abbrev pub rebuild_line : Lifted → ℕ → Option ℕ → List ℕ
rebuild_line p n None = []
rebuild_line p n (Some f) = line 1 (rebuild_text p n f)

-- the lines that rebuild, places ascending
abbrev pub rebuild_lines : Lifted → List Place → List ℕ
rebuild_lines p row = flat_map (λ n. rebuild_line p n (callee_in (nth row n).act)) (range_with_len 0 (length row))

-- a function before its statements
abbrev pub opening : LFunction → List ℕ
opening f = line 0 (head_text f) ++ (locals_text f ++ (line 1 (numbered (codes "UP_RESTORE(") (length f.slots) (codes ");")) ++ line 1 (mark 0)))

-- a function behind its statements
abbrev pub closing : Lifted → LFunction → List ℕ
closing p f = line 1 (implied_return f.ret) ++ (rebuild_lines p (places f) ++ line 0 (codes "}"))

-- what the expressions of a function read
abbrev pub reads_in : Lifted → LFunction → Reads
reads_in p f = record { program = p; slots = f.slots; own = [] }

-- a function
abbrev pub function_text : Lifted → LFunction → List ℕ
function_text p f = opening f ++ (text_of (reads_in p f) 1 0 1 0 f.body ++ closing p f)

-- what a program declares before its functions
abbrev pub declarations_text : Lifted → List ℕ
declarations_text p =
    flat_map (λ x. line 0 (struct_text x)) p.structs
    ++ (flat_map (λ x. line 0 (global_text x)) p.globals ++ flat_map (λ name. line 0 (mutex_text name)) p.mutexes)

-- the text of the transformed program
abbrev pub target_text : Lifted → List ℕ
target_text p = declarations_text p ++ flat_map (function_text p) p.functions

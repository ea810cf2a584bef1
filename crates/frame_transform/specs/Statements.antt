-- The lines of a statement that holds no other statement.
use Rattle.std.specs.Prelude.{ℕ, ◌==◌, if◌then◌else◌, List, [], ◌∷◌, ◌++◌, codes, Option, Some, None}
use Rattle.std.specs.List.{flat_map}
use Rattle.c_tree.specs.declared.lifted.Dest.{Dest}
use Rattle.c_tree.specs.declared.lifted.Dest.TheVariants as d
use Rattle.c_tree.specs.declared.lifted.LExpr.{LExpr}
use Rattle.c_tree.specs.declared.lifted.LExpr.TheVariants as l
use Rattle.c_tree.specs.declared.lifted.LStmt.{LStmt}
use Rattle.c_tree.specs.declared.lifted.LStmt.TheVariants as s
use Rattle.c_tree.specs.MapExpr.{Reads}
use Rattle.c_tree.specs.Names.{name_at}
use Rattle.c_tree.specs.Shown.{shown}
use Rattle.frame_transform.specs.Line.{line, numbered, mark, each, listed}

-- the expression that reads a destination
abbrev pub read_of : Dest → LExpr
read_of (d.Slot i) = l.Slot i
read_of (d.Global g) = l.Global g
read_of (d.Elem g at) = l.Elem g at
read_of (d.Field p owner field) = l.Field p owner field

-- a byte as it stands in the source of a string
abbrev pub escaped : ℕ → List ℕ
escaped c =
    if c == 10
    then codes "\\n"
    else (if c == 9 then codes "\\t" else (if c == 92 then codes "\\\\" else (if c == 34 then codes "\\\"" else c ∷ [])))

-- a call of the function of a number
abbrev pub call_text : Reads → ℕ → List LExpr → List ℕ
call_text r f args = name_at r.program 0 f ++ (codes "(" ++ (listed (shown r) args ++ codes ");"))

-- what stands before a call: where its result goes
abbrev pub result_text : Reads → Option ℕ → List ℕ
result_text r None = []
result_text r (Some slot) = shown r (l.Slot slot) ++ codes " = "

-- a statement that holds no other, without the indentation and the newline
abbrev pub simple_text : Reads → ℕ → LStmt → List ℕ
simple_text r label (s.Assign to e) = shown r (read_of to) ++ (codes " = " ++ (shown r e ++ codes ";"))
simple_text r label (s.New slot owner) = shown r (l.Slot slot) ++ (codes " = malloc(sizeof(struct " ++ (name_at r.program 1 owner ++ codes "));"))
simple_text r label (s.Getc slot) = shown r (l.Slot slot) ++ codes " = getchar();"
simple_text r label (s.Print text args) = codes "printf(\"" ++ (flat_map escaped text ++ (codes "\"" ++ (each (shown r) args ++ codes ");")))
simple_text r label (s.Free e) = codes "free(" ++ (shown r e ++ codes ");")
simple_text r label (s.Call to f args) = result_text r to ++ call_text r f args
simple_text r label (s.Spawn to f e) = codes "pthread_create(&" ++ (shown r (read_of to) ++ (codes ", NULL, " ++ (name_at r.program 0 f ++ (codes ", " ++ (shown r e ++ codes ");")))))
simple_text r label (s.Join e) = codes "pthread_join(" ++ (shown r e ++ codes ", NULL);")
simple_text r label (s.Lock m) = codes "pthread_mutex_lock(&" ++ (name_at r.program 3 m ++ codes ");")
simple_text r label (s.Unlock m) = codes "pthread_mutex_unlock(&" ++ (name_at r.program 3 m ++ codes ");")
simple_text r label (s.Return None) = codes "return;"
simple_text r label (s.Return (Some e)) = codes "return " ++ (shown r e ++ codes ";")
simple_text r label s.Break = codes "break;"
simple_text r label s.Continue = numbered (codes "goto UP_CONT_") label (codes ";")
simple_text r label _ = []

-- the mark before a statement at which a thread may wait
abbrev pub mark_before : ℕ → ℕ → LStmt → List ℕ
mark_before depth n (s.Join e) = line depth (mark n)
mark_before depth n (s.Lock m) = line depth (mark n)
mark_before depth n _ = []

-- the mark behind a call
abbrev pub mark_behind : ℕ → ℕ → LStmt → List ℕ
mark_behind depth n (s.Call to f args) = line depth (numbered (codes "UP_AFTER(") n (codes ");"))
mark_behind depth n _ = []

-- the lines of a statement that holds no other, at place n and inside the loop of a label
unfoldable pub simple_lines : Reads → ℕ → ℕ → ℕ → LStmt → List ℕ
simple_lines r depth label n stmt = mark_before depth n stmt ++ (line depth (simple_text r label stmt) ++ mark_behind depth n stmt)

-- Which functions are unchanged: the same tree by names, after the matches.
use Rattle.std.specs.Prelude.{ℕ, ℤ, Bool, true, false, ◌&&◌, ◌==◌, List, Option, Some, None}
use Rattle.std.specs.Cmp.Lexicographic.{pointwise}
use Rattle.c_tree.specs.declared.op.UnOp.{UnOp}
use Rattle.c_tree.specs.declared.op.BinOp.{BinOp}
use Rattle.c_tree.specs.declared.lifted.LExpr.{LExpr, more_of-LExpr as only}
use Rattle.c_tree.specs.declared.lifted.LExpr.TheVariants as e
use Rattle.c_tree.specs.declared.lifted.Dest.{Dest}
use Rattle.c_tree.specs.declared.lifted.Dest.TheVariants as d
use Rattle.c_tree.specs.declared.lifted.LStmt.{LStmt, Row_of-LStmt, end_of-LStmt, more_of-LStmt}
use Rattle.c_tree.specs.declared.lifted.LStmt.TheBlock.{hidden-the_row-LStmt-0 as row_of}
use Rattle.c_tree.specs.declared.lifted.LStmt.TheVariants as s
use Rattle.c_tree.specs.declared.lifted.Slot.{Slot}
use Rattle.c_tree.specs.Scope.{is_same_name}
use Rattle.c_tree.specs.Value.{is_same}
use Rattle.c_tree.specs.Step.{function_of}
use Rattle.c_tree.specs.Names.{is_number, field_name}
use Rattle.c_tree.specs.Operators.{un_text, bin_text}
use Rattle.c_tree.specs.Link.{Link, match_at, is_image}

-- what the new tree must be, where the parts of the old one are tests: the same number
abbrev pub is_num : ℤ → LExpr → Bool
is_num n (e.Num m) = is_same n m
is_num n _ = false

-- `NULL`
abbrev pub is_null : LExpr → Bool
is_null e.Null = true
is_null _ = false

-- the same slot
abbrev pub is_slot : ℕ → LExpr → Bool
is_slot i (e.Slot j) = i == j
is_slot i _ = false

-- the same field of the old object
abbrev pub is_own : ℕ → LExpr → Bool
is_own i (e.Own j) = i == j
is_own i _ = false

-- the matched global
abbrev pub is_global : Option ℕ → LExpr → Bool
is_global g (e.Global h) = is_number g h
is_global g _ = false

-- an element of the matched array
abbrev pub is_elem : Option ℕ → (LExpr → Bool) → LExpr → Bool
is_elem g index (e.Elem' h _ (only j _)) = is_number g h && index j
is_elem g index _ = false

-- a field by its struct's match and its name
abbrev pub is_member : Link → ℕ → ℕ → ℕ → ℕ → Bool
is_member k owner field new_owner new_field =
    is_number (match_at k.structs owner) new_owner && is_same_name (field_name k.old owner field) (field_name k.new new_owner new_field)

-- the matched field of the same object
abbrev pub is_field : (ℕ → ℕ → Bool) → (LExpr → Bool) → LExpr → Bool
is_field member pointer (e.Field' _ (only p _) owner field) = pointer p && member owner field
is_field member pointer _ = false

-- the same prefix operator
abbrev pub is_un : UnOp → (LExpr → Bool) → LExpr → Bool
is_un op operand (e.Un' o _ (only a _)) = is_same_name (un_text op) (un_text o) && operand a
is_un op operand _ = false

-- the same operator
abbrev pub is_bin : BinOp → (LExpr → Bool) → (LExpr → Bool) → LExpr → Bool
is_bin op left right (e.Bin' o _ (only a _) _ (only b _)) = is_same_name (bin_text op) (bin_text o) && left a && right b
is_bin op left right _ = false

-- an old and a new expression are the same
unfoldable pub same : Link → LExpr → LExpr → Bool
same k (e.Num n) y = is_num n y
same k e.Null y = is_null y
same k (e.Slot i) y = is_slot i y
same k (e.Global g) y = is_global (match_at k.globals g) y
same k (e.Elem' g _ (only i _)) y = is_elem (match_at k.globals g) (same k i) y
same k (e.Field' _ (only p _) owner field) y = is_field (is_member k owner field) (same k p) y
same k (e.Own i) y = is_own i y
same k (e.Un' op _ (only a _)) y = is_un op (same k a) y
same k (e.Bin' op _ (only a _) _ (only b _)) y = is_bin op (same k a) (same k b) y

-- so are two destinations
abbrev pub same_dest : Link → Dest → Dest → Bool
same_dest k (d.Slot i) (d.Slot j) = i == j
same_dest k (d.Global g) (d.Global h) = is_number (match_at k.globals g) h
same_dest k (d.Elem g i) (d.Elem h j) = is_number (match_at k.globals g) h && same k i j
same_dest k (d.Field p owner field) (d.Field q new_owner new_field) = same k p q && is_member k owner field new_owner new_field
same_dest k _ _ = false

-- expressions one by one
abbrev pub same_list : Link → List LExpr → List LExpr → Bool
same_list k xs ys = pointwise (same k) xs ys

-- both or neither, and then the same
abbrev pub same_option : Link → Option LExpr → Option LExpr → Bool
same_option k None None = true
same_option k (Some x) (Some y) = same k x y
same_option k _ _ = false

-- both or neither, and then the same slot
abbrev pub same_slot : Option ℕ → Option ℕ → Bool
same_slot None None = true
same_slot (Some i) (Some j) = i == j
same_slot _ _ = false

-- an assignment to the same destination
abbrev pub is_assign : (Dest → Bool) → (LExpr → Bool) → LStmt → Bool
is_assign to value (s.Assign t v) = to t && value v
is_assign to value _ = false

-- a new object of the matched struct
abbrev pub is_new : ℕ → Option ℕ → LStmt → Bool
is_new slot owner (s.New i o) = slot == i && is_number owner o
is_new slot owner _ = false

-- a read byte
abbrev pub is_getc : ℕ → LStmt → Bool
is_getc slot (s.Getc i) = slot == i
is_getc slot _ = false

-- the same text with the same arguments
abbrev pub is_print : List ℕ → (List LExpr → Bool) → LStmt → Bool
is_print text args (s.Print t xs) = is_same_name text t && args xs
is_print text args _ = false

-- a freed object
abbrev pub is_free : (LExpr → Bool) → LStmt → Bool
is_free value (s.Free v) = value v
is_free value _ = false

-- a call of the matched function
abbrev pub is_call : Option ℕ → Option ℕ → (List LExpr → Bool) → LStmt → Bool
is_call to f args (s.Call t g xs) = same_slot to t && is_number f g && args xs
is_call to f args _ = false

-- a start of the matched function
abbrev pub is_spawn : (Dest → Bool) → Option ℕ → (LExpr → Bool) → LStmt → Bool
is_spawn to f value (s.Spawn t g v) = to t && is_number f g && value v
is_spawn to f value _ = false

-- a join
abbrev pub is_join : (LExpr → Bool) → LStmt → Bool
is_join value (s.Join v) = value v
is_join value _ = false

-- a lock of the matched mutex
abbrev pub is_lock : Option ℕ → LStmt → Bool
is_lock m (s.Lock n) = is_number m n
is_lock m _ = false

-- an unlock of it
abbrev pub is_unlock : Option ℕ → LStmt → Bool
is_unlock m (s.Unlock n) = is_number m n
is_unlock m _ = false

-- a return
abbrev pub is_return : (Option LExpr → Bool) → LStmt → Bool
is_return value (s.Return v) = value v
is_return value _ = false

-- a test of the statements of a block
abbrev pub Rows : Type 0
Rows = (n : _) → Row_of-LStmt n → Bool

-- a choice with the same branches
abbrev pub is_if : (LExpr → Bool) → Rows → Rows → LStmt → Bool
is_if test then_part else_part (s.If' t _ a _ b) = test t && then_part _ a && else_part _ b
is_if test then_part else_part _ = false

-- a loop with the same parts
abbrev pub is_loop : Rows → (LExpr → Bool) → Rows → Rows → LStmt → Bool
is_loop calls test body step (s.Loop' _ c t _ b _ n) = calls _ c && test t && body _ b && step _ n
is_loop calls test body step _ = false

-- `break`
abbrev pub is_break : LStmt → Bool
is_break s.Break = true
is_break _ = false

-- `continue`
abbrev pub is_continue : LStmt → Bool
is_continue s.Continue = true
is_continue _ = false

-- no statement
abbrev pub is_end : Rows
is_end n end_of-LStmt = true
is_end n (more_of-LStmt s rest) = false

-- a statement, and the others
abbrev pub is_more : (LStmt → Bool) → Rows → Rows
is_more head tail n end_of-LStmt = false
is_more head tail n (more_of-LStmt s rest) = head s && tail _ rest

unfoldable mutual
  -- an old and a new statement are the same
  pub same_stmt : Link → LStmt → LStmt → Bool
  same_stmt k (s.Assign to v) y = is_assign (same_dest k to) (same k v) y
  same_stmt k (s.New slot owner) y = is_new slot (match_at k.structs owner) y
  same_stmt k (s.Getc slot) y = is_getc slot y
  same_stmt k (s.Print text args) y = is_print text (same_list k args) y
  same_stmt k (s.Free v) y = is_free (same k v) y
  same_stmt k (s.Call to f args) y = is_call to (match_at k.functions f) (same_list k args) y
  same_stmt k (s.Spawn to f v) y = is_spawn (same_dest k to) (match_at k.functions f) (same k v) y
  same_stmt k (s.Join v) y = is_join (same k v) y
  same_stmt k (s.Lock m) y = is_lock (match_at k.mutexes m) y
  same_stmt k (s.Unlock m) y = is_unlock (match_at k.mutexes m) y
  same_stmt k (s.Return v) y = is_return (same_option k v) y
  same_stmt k (s.If' t _ a _ b) y = is_if (same k t) (same_rows k a) (same_rows k b) y
  same_stmt k (s.Loop' _ c t _ b _ n) y = is_loop (same_rows k c) (same k t) (same_rows k b) (same_rows k n) y
  same_stmt k s.Break y = is_break y
  same_stmt k s.Continue y = is_continue y

  -- so are the statements of two blocks
  pub same_rows : Link → {m : _} → Row_of-LStmt m → (n : _) → Row_of-LStmt n → Bool
  same_rows k end_of-LStmt n y = is_end n y
  same_rows k (more_of-LStmt s rest) n y = is_more (same_stmt k s) (same_rows k rest) n y

-- two bodies are the same
abbrev pub same_body : Link → List LStmt → List LStmt → Bool
same_body k a b = same_rows k (row_of a) _ (row_of b)

-- the same names and image types in the same order
abbrev pub same_slots : Link → List Slot → List Slot → Bool
same_slots k xs ys = pointwise (λ x y. is_same_name x.name y.name && is_image k x.ty y.ty) xs ys

-- an old function and its match have the same result type, slots and body
abbrev pub is_unchanged : Link → ℕ → ℕ → Bool
is_unchanged k f g =
    let a = function_of k.old f in
    let b = function_of k.new g in
    is_image k a.ret b.ret && same_slots k a.slots b.slots && same_body k a.body b.body

-- What the actions make of the values that were read, and what is known beside the values.
use Rattle.std.specs.Prelude.{ℕ, ℤ, pos, ◌≡◌, ◌+◌, ◌-◌, List, [], ◌∷◌, ◌++◌, Bool, true, false, Option, Some, None, cond, codes, reverse}
use Rattle.std.specs.Fmt.{decimal}
use Rattle.c_tree.specs.declared.token.Token.{Token}
use Rattle.c_tree.specs.declared.ty.Ty.{Ty}
use Rattle.c_tree.specs.declared.ty.Ty.TheVariants as ty
use Rattle.c_tree.specs.declared.op.UnOp.{UnOp}
use Rattle.c_tree.specs.declared.op.UnOp.TheVariants as un
use Rattle.c_tree.specs.declared.op.BinOp.{BinOp}
use Rattle.c_tree.specs.declared.op.BinOp.TheVariants as bin
use Rattle.c_tree.specs.declared.program.Expr.{Expr}
use Rattle.c_tree.specs.declared.program.ExprKind.TheVariants as e
use Rattle.c_tree.specs.declared.program.Stmt.{Stmt}
use Rattle.c_tree.specs.declared.program.StmtKind.TheVariants as s
use Rattle.c_tree.specs.declared.program.At.{At}
use Rattle.c_tree.specs.declared.program.Field.{Field}
use Rattle.c_tree.specs.declared.program.Struct.{Struct}
use Rattle.c_tree.specs.declared.program.GlobalDecl.{GlobalDecl}
use Rattle.c_tree.specs.declared.program.Count.{Count}
use Rattle.c_tree.specs.declared.program.Count.TheVariants as count
use Rattle.c_tree.specs.declared.program.Const.{Const}
use Rattle.c_tree.specs.declared.program.Const.TheVariants as const
use Rattle.c_tree.specs.declared.program.Define.{Define}
use Rattle.c_tree.specs.declared.program.Function.{Function}
use Rattle.c_tree.specs.declared.program.Program.{Program}
use Rattle.c_tree.specs.declared.place.PlaceKind.{PlaceKind}
use Rattle.c_tree.specs.declared.place.PlaceKind.TheVariants as place
use Rattle.c_tree.specs.declared.token.TokenKind.TheVariants as token
use Rattle.c_tree.specs.declared.mapping.Entry.{Entry}
use Rattle.c_tree.specs.declared.mapping.Entry.TheVariants as entry
use Rattle.c_tree.specs.declared.mapping.Mapping.{Mapping}
use Rattle.c_tree.specs.declared.mapping.Part.{Part}
use Rattle.c_grammar.specs.declared.kind.Kind.{Kind}
use Rattle.c_grammar.specs.declared.kind.Kind.TheVariants as kind
use Rattle.c_grammar.specs.declared.action.Action.{Action}
use Rattle.c_grammar.specs.declared.action.Action.TheVariants as action
use Rattle.c_grammar.specs.declared.symbol.Mark.{Mark}
use Rattle.c_grammar.specs.declared.value.Operand.{Operand}
use Rattle.c_grammar.specs.declared.value.Value.{Value}
use Rattle.c_grammar.specs.declared.value.Value.TheVariants as value
use Rattle.c_grammar.specs.Marks.{keeps, opens, counts}
use Rattle.c_grammar.specs.Tokens.{kind_of, map_kind_of, text_of, number_of, natural}
use Rattle.c_grammar.specs.Values.{second, third, fourth, fifth, sixth, seventh, node, operand, statement, no_program, no_mapping, word_in, ty_in, operand_in, exprs_in, maybe_expr_in, stmt_in, stmts_in, maybe_stmt_in, fields_in, count_in, const_in, define_in, program_in, pt_in, fills_in, part_in, parts_in, mapping_in}

-- the word or text of the newest value, a token
abbrev pub text : List Value → List ℕ
text vs = text_of (word_in vs).kind

-- the offset in bytes of the newest value, a token
abbrev pub at : List Value → ℕ
at vs = (word_in vs).at

-- the prefix operator that a sign is
abbrev pub unary_of : Kind → UnOp
unary_of kind.Bang = un.Not
unary_of kind.Tilde = un.Flip
unary_of _ = un.Neg

-- the binary operator that a sign is
abbrev pub binary_of : Kind → BinOp
binary_of kind.Slash = bin.Div
binary_of kind.Percent = bin.Rem
binary_of kind.Plus = bin.Add
binary_of kind.Minus = bin.Sub
binary_of kind.ShiftLeft = bin.Shl
binary_of kind.ShiftRight = bin.Shr
binary_of kind.Less = bin.Lt
binary_of kind.LessEqual = bin.Le
binary_of kind.Greater = bin.Gt
binary_of kind.GreaterEqual = bin.Ge
binary_of kind.EqualEqual = bin.Eq
binary_of kind.NotEqual = bin.Ne
binary_of kind.And = bin.BitAnd
binary_of kind.Xor = bin.BitXor
binary_of kind.Or = bin.BitOr
binary_of kind.AndAnd = bin.And
binary_of kind.OrOr = bin.Or
binary_of _ = bin.Mul

-- the operator of an assignment
abbrev pub assigned_of : Kind → Option BinOp
assigned_of kind.PlusEqual = Some bin.Add
assigned_of kind.MinusEqual = Some bin.Sub
assigned_of kind.StarEqual = Some bin.Mul
assigned_of kind.SlashEqual = Some bin.Div
assigned_of kind.PercentEqual = Some bin.Rem
assigned_of kind.AndEqual = Some bin.BitAnd
assigned_of kind.XorEqual = Some bin.BitXor
assigned_of kind.OrEqual = Some bin.BitOr
assigned_of kind.ShiftLeftEqual = Some bin.Shl
assigned_of kind.ShiftRightEqual = Some bin.Shr
assigned_of _ = None

-- the operator by which `++` and `--` change an operand
abbrev pub stepped_of : Kind → BinOp
stepped_of kind.MinusMinus = bin.Sub
stepped_of _ = bin.Add

-- an assignment of an operand that is made one more or one less, by its sign
abbrev pub stepped : ℕ → Operand → Token → Stmt
stepped begin x sign = statement begin (s.Assign x.expr (Some (stepped_of (kind_of sign.kind))) (node sign.at (e.Num (pos 1))))

-- a name at its offset, as the newest value has it
abbrev pub named : List Value → At (List ℕ)
named vs = record { at = at vs; it = text vs }

-- a declared name with its type, as a field or a parameter
abbrev pub field : List Value → Field
field vs = record { name = named vs; ty = ty_in (second vs) }

-- the declaration of a local, which stands at its name
abbrev pub declared : Ty → Token → Option Expr → Stmt
declared ty name start = statement name.at (s.Declare ty (text_of name.kind) start)

-- a global of the type and the name that are newest
abbrev pub global : List Value → Option (At Count) → Option (At Const) → GlobalDecl
global vs count init = record { name = named vs; ty = ty_in (second vs); count = count; init = init }

-- a function of the type, the name and the parameters that are newest
abbrev pub function : List Value → Option (List Stmt) → Function
function vs body = record { name = named (second vs); ret = ty_in (third vs); params = fields_in vs; body = body }

-- the program with one more struct
abbrev pub with_struct : Program → Struct → Program
with_struct p x = record p { structs = p.structs ++ x ∷ [] }

-- the program with one more global
abbrev pub with_global : Program → GlobalDecl → Program
with_global p x = record p { globals = p.globals ++ x ∷ [] }

-- the program with one more mutex
abbrev pub with_mutex : Program → At (List ℕ) → Program
with_mutex p x = record p { mutexes = p.mutexes ++ x ∷ [] }

-- the program with one more define
abbrev pub with_define : Program → Define → Program
with_define p x = record p { defines = p.defines ++ x ∷ [] }

-- the program with one more function
abbrev pub with_function : Program → Function → Program
with_function p x = record p { functions = p.functions ++ x ∷ [] }

-- what a match is of: 0 functions, 1 structs, 2 globals, 3 mutexes
abbrev pub side_of : Kind → ℕ
side_of kind.Struct = 1
side_of kind.GlobalWord = 2
side_of kind.MutexWord = 3
side_of _ = 0

-- the kind of place that a point of this word is
abbrev pub place_of : Kind → PlaceKind
place_of kind.LoopWord = place.LoopEnd
place_of kind.CallWord = place.Call
place_of _ = place.Block

-- the kind of a word in a mapping
abbrev pub meaning : List Value → Kind
meaning vs = map_kind_of (word_in vs).kind

-- the number of the newest value, a token
abbrev pub number : List Value → ℕ
number vs = natural (number_of (word_in vs).kind)

-- a name that ends in a dot and this number
abbrev pub numbered : List ℕ → ℕ → List ℕ
numbered name n = name ++ (codes "." ++ decimal n)

-- a word with another text in its place
abbrev pub renamed : Token → List ℕ → Token
renamed t name = record { kind = token.Word name; at = t.at; len = t.len }

-- the first part of a point, whose place and fills are newest: its function is the match of the old one
abbrev pub first_part : List Value → Part
first_part vs = record { function = None; point = pt_in (second vs); fills = fills_in vs }

-- an added part, whose function, place and fills are newest
abbrev pub added_part : List Value → Part
added_part vs = record { function = Some (text (third vs)); point = pt_in (second vs); fills = fills_in vs }

-- The mapping with one more entry.
abbrev pub with_entry : Mapping → ℕ → Entry → Mapping
with_entry m at x = record { entries = m.entries ++ record { at = at; it = x } ∷ [] }

-- The values after an action, the newest in front. What an action finds is said by its sorts; `vs` is the newest of it, then
-- come `second`, `third`, ..
abbrev pub value_effect : Action → List Value → List Value
-- expressions: they stand at their first token, and an operator between two where it stands itself
value_effect action.Num vs = value.Operand (operand (at vs) (e.Num (number_of (word_in vs).kind))) ∷ second vs
value_effect action.NullExpr vs = value.Operand (operand (at vs) e.Null) ∷ second vs
value_effect action.EofExpr vs = value.Operand (operand (at vs) e.Eof) ∷ second vs
value_effect action.NameExpr vs = value.Operand (operand (at vs) (e.Name (text vs))) ∷ second vs
value_effect action.HiddenSlot vs = value.Operand (operand (at (second vs)) (e.Slot (text (second vs)) (natural (number_of (word_in vs).kind)))) ∷ third vs
value_effect action.TempSlot vs = value.Operand (operand (at (second vs)) (e.Slot [] (natural (number_of (word_in vs).kind)))) ∷ third vs
value_effect action.Index vs = value.Operand (operand (at (second vs)) (e.Index (text (second vs)) (operand_in vs).expr)) ∷ third vs
value_effect action.Field vs = value.Operand (operand (operand_in (second vs)).first (e.Field (operand_in (second vs)).expr (text vs))) ∷ third vs
value_effect action.Call vs = value.Operand (operand (at (second vs)) (e.Call (text (second vs)) (exprs_in vs))) ∷ third vs
value_effect action.Malloc vs = value.Operand (operand (at (second vs)) (e.Malloc (named vs))) ∷ third vs
value_effect action.Getchar vs = value.Operand (operand (at vs) e.Getchar) ∷ second vs
value_effect action.Create vs =
    value.Operand (operand (at (fourth vs)) (e.Create (operand_in (third vs)).expr (named (second vs)) (operand_in vs).expr)) ∷ fifth vs
value_effect action.Join vs = value.Operand (operand (at (second vs)) (e.Join (operand_in vs).expr)) ∷ third vs
value_effect action.Lock vs = value.Operand (operand (at (second vs)) (e.Lock (named vs))) ∷ third vs
value_effect action.Unlock vs = value.Operand (operand (at (second vs)) (e.Unlock (named vs))) ∷ third vs
value_effect action.Group vs = value.Operand (record { expr = (operand_in vs).expr; first = at (second vs) }) ∷ third vs
value_effect action.Un vs = value.Operand (operand (at (second vs)) (e.Un (unary_of (kind_of (word_in (second vs)).kind)) (operand_in vs).expr)) ∷ third vs
value_effect action.Cast vs = value.Operand (operand (at (third vs)) (e.Cast (ty_in (second vs)) (operand_in vs).expr)) ∷ fourth vs
value_effect action.Bin vs =
    value.Operand (record {
      expr = node (at (second vs)) (e.Bin (binary_of (kind_of (word_in (second vs)).kind)) (operand_in (third vs)).expr (operand_in vs).expr);
      first = (operand_in (third vs)).first;
    }) ∷ fourth vs
-- lists of expressions, and parts that may be left out
value_effect action.NoArgs vs = value.Exprs [] ∷ vs
value_effect action.OneArg vs = value.Exprs ((operand_in vs).expr ∷ []) ∷ second vs
value_effect action.MoreArg vs = value.Exprs (exprs_in (second vs) ++ (operand_in vs).expr ∷ []) ∷ third vs
value_effect action.NoExpr vs = value.MaybeExpr None ∷ vs
value_effect action.SomeExpr vs = value.MaybeExpr (Some (operand_in vs).expr) ∷ second vs
value_effect action.NoStmt vs = value.MaybeStmt None ∷ vs
value_effect action.SomeStmt vs = value.MaybeStmt (Some (stmt_in vs)) ∷ second vs
-- statements: they stand at their first token
value_effect action.EmptyStmt vs = value.Stmt (statement (at vs) s.Empty) ∷ second vs
value_effect action.BlockStmt vs = value.Stmt (statement (at (second vs)) (s.Block (stmts_in vs))) ∷ third vs
value_effect action.If vs = value.Stmt (statement (at (third vs)) (s.If (operand_in (second vs)).expr (stmt_in vs) None)) ∷ fourth vs
value_effect action.IfElse vs =
    value.Stmt (statement (at (fourth vs)) (s.If (operand_in (third vs)).expr (stmt_in (second vs)) (Some (stmt_in vs)))) ∷ fifth vs
value_effect action.While vs = value.Stmt (statement (at (third vs)) (s.While (operand_in (second vs)).expr (stmt_in vs))) ∷ fourth vs
value_effect action.For vs =
    value.Stmt (statement (at (fifth vs)) (s.For (stmts_in (fourth vs)) (maybe_expr_in (third vs)) (maybe_stmt_in (second vs)) (stmt_in vs))) ∷ sixth vs
value_effect action.Break vs = value.Stmt (statement (at vs) s.Break) ∷ second vs
value_effect action.Continue vs = value.Stmt (statement (at vs) s.Continue) ∷ second vs
value_effect action.Return vs = value.Stmt (statement (at (second vs)) (s.Return (maybe_expr_in vs))) ∷ third vs
value_effect action.Assign vs =
    value.Stmt (statement (operand_in (third vs)).first (s.Assign (operand_in (third vs)).expr (assigned_of (kind_of (word_in (second vs)).kind)) (operand_in vs).expr)) ∷ fourth vs
value_effect action.Post vs = value.Stmt (stepped (operand_in (second vs)).first (operand_in (second vs)) (word_in vs)) ∷ third vs
value_effect action.Pre vs = value.Stmt (stepped (at (second vs)) (operand_in vs) (word_in (second vs))) ∷ third vs
value_effect action.Run vs = value.Stmt (statement (operand_in vs).first (s.Run (operand_in vs).expr)) ∷ second vs
value_effect action.Free vs = value.Stmt (statement (at (second vs)) (s.Free (operand_in vs).expr)) ∷ third vs
value_effect action.Print vs = value.Stmt (statement (at (third vs)) (s.Print (text (second vs)) (exprs_in vs))) ∷ fourth vs
value_effect action.NoStmts vs = value.Stmts [] ∷ vs
value_effect action.MoreStmt vs = value.Stmts (stmts_in (second vs) ++ stmt_in vs ∷ []) ∷ third vs
-- types and declarations: a declaration stands at its name, and its type stays for the names that follow
value_effect action.IntType vs = value.Ty ty.Int ∷ vs
value_effect action.ThreadType vs = value.Ty ty.Thread ∷ vs
value_effect action.VoidType vs = value.Ty ty.Void ∷ vs
value_effect action.AnyType vs = value.Ty ty.AnyPtr ∷ vs
value_effect action.PtrType vs = value.Ty (ty.Ptr (text vs)) ∷ second vs
value_effect action.DeclItem vs =
    value.Ty (ty_in (third vs))
    ∷ value.Stmts (stmts_in (fourth vs) ++ declared (ty_in (third vs)) (word_in (second vs)) (maybe_expr_in vs) ∷ [])
    ∷ fifth vs
value_effect action.EndDecl vs = second vs
value_effect action.NoFields vs = value.Fields [] ∷ vs
value_effect action.OneField vs = value.Fields (field vs ∷ []) ∷ third vs
value_effect action.MoreField vs = value.Fields (fields_in (third vs) ++ field vs ∷ []) ∷ fourth vs
-- counts and constants of globals; EOF is the number -1
value_effect action.NumberCount vs = value.Count (record { at = at vs; it = count.Number (number_of (word_in vs).kind) }) ∷ second vs
value_effect action.NameCount vs = value.Count (record { at = at vs; it = count.Named (text vs) }) ∷ second vs
value_effect action.MinusConst vs = value.Const (record { at = at (second vs); it = const.Number true (number_of (word_in vs).kind) }) ∷ third vs
value_effect action.NumberConst vs = value.Const (record { at = at vs; it = const.Number false (number_of (word_in vs).kind) }) ∷ second vs
value_effect action.NameConst vs = value.Const (record { at = at vs; it = const.Named (text vs) }) ∷ second vs
value_effect action.NullConst vs = value.Const (record { at = at vs; it = const.Null }) ∷ second vs
value_effect action.EofConst vs = value.Const (record { at = at vs; it = const.Number true (pos 1) }) ∷ second vs
-- the parts of a file
value_effect action.StartProgram vs = value.Program no_program ∷ vs
value_effect action.DefineItem vs = value.Program (with_define (program_in (second vs)) (define_in vs)) ∷ third vs
value_effect action.StructItem vs =
    value.Program (with_struct (program_in (third vs)) (record { name = named (second vs); fields = fields_in vs })) ∷ fourth vs
value_effect action.ArrayItem vs = value.Program (with_global (program_in (fourth vs)) (global (second vs) (Some (count_in vs)) None)) ∷ fifth vs
value_effect action.InitItem vs = value.Program (with_global (program_in (fourth vs)) (global (second vs) None (Some (const_in vs)))) ∷ fifth vs
value_effect action.PlainItem vs = value.Program (with_global (program_in (third vs)) (global vs None None)) ∷ fourth vs
value_effect action.MutexItem vs = value.Program (with_mutex (program_in (second vs)) (named vs)) ∷ third vs
value_effect action.FunctionItem vs = value.Program (with_function (program_in (sixth vs)) (function (third vs) (Some (stmts_in vs)))) ∷ seventh vs
value_effect action.PrototypeItem vs = value.Program (with_function (program_in (fourth vs)) (function vs None)) ∷ fifth vs
-- mappings: an entry stands at its first token, and a slot is one word
value_effect action.StartMapping vs = value.Mapping no_mapping ∷ vs
value_effect action.MatchEntry vs =
    value.Mapping (with_entry (mapping_in (fourth vs)) (at (third vs)) (entry.Match (side_of (meaning (third vs))) (text (second vs)) (Some (text vs)))) ∷ fifth vs
value_effect action.UnmatchedEntry vs =
    value.Mapping (with_entry (mapping_in (third vs)) (at (second vs)) (entry.Match (side_of (meaning (second vs))) (text vs) None)) ∷ fourth vs
value_effect action.FieldEntry vs =
    value.Mapping (with_entry (mapping_in (fifth vs)) (at (fourth vs)) (entry.Field (text (third vs)) (text (second vs)) (operand_in vs).expr)) ∷ sixth vs
value_effect action.InitEntry vs =
    value.Mapping (with_entry (mapping_in (fourth vs)) (at (third vs)) (entry.Init (text (second vs)) (operand_in vs).expr)) ∷ fifth vs
value_effect action.PointEntry vs =
    value.Mapping (with_entry (mapping_in (fifth vs)) (at (fourth vs)) (entry.Point (text (third vs)) (pt_in (second vs)) (parts_in vs))) ∷ sixth vs
value_effect action.CheckEntry vs = value.Mapping (with_entry (mapping_in (third vs)) (at (second vs)) (entry.Check (operand_in vs).expr)) ∷ fourth vs
value_effect action.EntryPt vs = value.Pt (record { kind = place.Entry; number = 1 }) ∷ vs
value_effect action.NumberPt vs = value.Pt (record { kind = place_of (meaning (second vs)); number = number vs }) ∷ third vs
value_effect action.NoFills vs = value.Fills [] ∷ vs
value_effect action.MoreFill vs = value.Fills (fills_in (third vs) ++ record { slot = text (second vs); expr = (operand_in vs).expr } ∷ []) ∷ fourth vs
value_effect action.OnePart vs = value.Parts (first_part vs ∷ []) ∷ third vs
value_effect action.TwoParts vs = value.Parts (first_part (second vs) ∷ part_in vs ∷ []) ∷ fourth vs
value_effect action.ThreeParts vs = value.Parts (first_part (third vs) ∷ part_in (second vs) ∷ part_in vs ∷ []) ∷ fifth vs
value_effect action.FourParts vs = value.Parts (first_part (fourth vs) ∷ part_in (third vs) ∷ part_in (second vs) ∷ part_in vs ∷ []) ∷ sixth vs
value_effect action.AddPart vs = value.Part (added_part vs) ∷ fourth vs
value_effect action.HiddenName vs = value.Word (renamed (word_in (second vs)) (numbered (text (second vs)) (number vs))) ∷ third vs
value_effect action.TempName vs = value.Word (renamed (word_in vs) (numbered [] (number vs))) ∷ second vs
-- those that leave the values
value_effect action.Leave vs = vs
value_effect action.Outer vs = vs

-- an action turns values, the newest last, into what its definition makes of them
abbrev pub Does : Action → List Value → List Value → Type 0
Does a before after = reverse after ≡ value_effect a (reverse before)

-- What was read, the newest in front; how many constructs are open; and how many operators the expression has so far.
pub record State : Type 0 where
  pub values : List Value
  pub depth : ℕ
  pub operators : ℕ

-- how many constructs an action closes
abbrev pub closes : Action → ℕ
closes action.Leave = 1
closes _ = 0

-- whether the count of operators begins anew
abbrev pub is_outer : Action → Bool
is_outer action.Outer = true
is_outer _ = false

-- the state after an action: its values, how many constructs are open, and the operators counted
abbrev pub effect : Action → State → State
effect a state = record {
  values = value_effect a state.values;
  depth = state.depth - closes a;
  operators = cond (is_outer a) 0 state.operators;
}

-- The state with one more token, whose value this is.
abbrev pub with_token : Mark → Value → State → State
with_token mark v state = record {
  values = cond (keeps mark) (v ∷ state.values) state.values;
  depth = state.depth + cond (opens mark) 1 0;
  operators = state.operators + cond (counts mark) 1 0;
}

-- the state before the first token
abbrev pub empty : State
empty = record { values = []; depth = 0; operators = 0 }

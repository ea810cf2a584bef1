-- The form of each tree that was read from a source, but for its offsets.
use Rattle.std.specs.Prelude.{ℕ, Bool, false, ◌&&◌, ◌||◌, ◌==◌, nat_le, IsTrue, ⊤, List, [], ◌∷◌, All, Option, Some, None}
use Rattle.std.specs.List.{list_all}
use Rattle.c_tree.specs.declared.ty.Ty.{Ty}
use Rattle.c_tree.specs.declared.ty.Ty.TheVariants as ty
use Rattle.c_tree.specs.declared.program.Program.{Program}
use Rattle.c_tree.specs.declared.program.At.{At}
use Rattle.c_tree.specs.declared.program.Const.{Const}
use Rattle.c_tree.specs.declared.program.Count.{Count}
use Rattle.c_tree.specs.declared.program.Struct.{Struct}
use Rattle.c_tree.specs.declared.program.Field.{Field}
use Rattle.c_tree.specs.declared.program.GlobalDecl.{GlobalDecl}
use Rattle.c_tree.specs.declared.program.Function.{Function}
use Rattle.c_tree.specs.declared.program.Expr.{Expr}
use Rattle.c_tree.specs.declared.program.ExprKind.{ExprKind, Row_of-Expr, end_of-Expr, more_of-Expr, more_of-Expr as only}
use Rattle.c_tree.specs.declared.program.ExprKind.TheVariants as e
use Rattle.c_tree.specs.declared.program.StmtKind.{StmtKind, Row_of-Stmt, end_of-Stmt, more_of-Stmt, more_of-Stmt as one, Held-StmtKind-If-2, None', Some'}
use Rattle.c_tree.specs.declared.program.StmtKind.TheBlock.{hidden-the_row-Stmt-0 as row_of}
use Rattle.c_tree.specs.declared.program.StmtKind.TheVariants as s
use Rattle.c_tree.specs.Lifting.{body_of}

-- whether a byte is a letter, a digit or `_`
abbrev pub is_name_byte : ℕ → Bool
is_name_byte b = nat_le 65 b && nat_le b 90 || nat_le 97 b && nat_le b 122 || nat_le 48 b && nat_le b 57 || b == 95

-- whether a text has the bytes of a name: one at least, each a letter, a digit or `_`
abbrev pub is_name : List ℕ → Bool
is_name [] = false
is_name (b ∷ rest) = is_name_byte b && list_all is_name_byte rest

-- a text has the bytes of a name
abbrev pub IsName : List ℕ → Type 0
IsName name = IsTrue (is_name name)

-- a variable, a field or a parameter is an `int`, a `pthread_t` or a pointer
abbrev pub IsValueType : Ty → Type 0
IsValueType ty.Void = ⊥
IsValueType _ = ⊤

-- a cast is to a pointer
abbrev pub IsCastType : Ty → Type 0
IsCastType ty.AnyPtr = ⊤
IsCastType (ty.Ptr name) = ⊤
IsCastType _ = ⊥

-- an lvalue is a name, an element of an array or a field
abbrev pub IsPlace : ExprKind → Type 0
IsPlace (e.Name name) = ⊤
IsPlace (e.Index' name _ _) = ⊤
IsPlace (e.Field' _ _ name) = ⊤
IsPlace _ = ⊥

-- a call of a function, `malloc`, `getchar` or one of the four calls on threads and mutexes
abbrev pub IsCall : ExprKind → Type 0
IsCall (e.Call' name _ args) = ⊤
IsCall (e.Malloc name) = ⊤
IsCall e.Getchar = ⊤
IsCall (e.Create' _ dest name _ x) = ⊤
IsCall (e.Join' _ x) = ⊤
IsCall (e.Lock name) = ⊤
IsCall (e.Unlock name) = ⊤
IsCall _ = ⊥

-- no part of an expression is a numbered slot; its casts are to pointers, and `pthread_create` stores in an lvalue
unfoldable mutual
  pub IsReadExpr : ExprKind → Type 0
  IsReadExpr (e.Slot name k) = ⊥
  IsReadExpr (e.Index' name _ (only _ x _)) = IsReadExpr x
  IsReadExpr (e.Field' _ (only _ x _) name) = IsReadExpr x
  IsReadExpr (e.Un' op _ (only _ x _)) = IsReadExpr x
  IsReadExpr (e.Bin' op _ (only _ x _) _ (only _ y _)) = IsReadExpr x × IsReadExpr y
  IsReadExpr (e.Cast' t _ (only _ x _)) = IsCastType t × IsReadExpr x
  IsReadExpr (e.Call' name _ args) = AreReadExprs args
  IsReadExpr (e.Create' _ (only _ dest _) name _ (only _ x _)) = IsPlace dest × IsReadExpr dest × IsReadExpr x
  IsReadExpr (e.Join' _ (only _ x _)) = IsReadExpr x
  IsReadExpr _ = ⊤

  pub AreReadExprs : {m : _} → Row_of-Expr m → Type 0
  AreReadExprs end_of-Expr = ⊤
  AreReadExprs (more_of-Expr _ x rest) = IsReadExpr x × AreReadExprs rest

-- an expression that may be absent has the form that is read
abbrev pub IsReadValue : Option Expr → Type 0
IsReadValue None = ⊤
IsReadValue (Some x) = IsReadExpr x.kind

-- a statement is a declaration, which stands in a block or at the start of a `for`
abbrev pub IsDeclaration : StmtKind → Type 0
IsDeclaration (s.Declare t name value) = ⊤
IsDeclaration _ = ⊥

-- a statement is no declaration, as the body of an `if` or a loop is none
abbrev pub IsNoDeclaration : StmtKind → Type 0
IsNoDeclaration (s.Declare t name value) = ⊥
IsNoDeclaration _ = ⊤

-- an assignment, a call, `free` or `printf`
abbrev pub IsSimple : StmtKind → Type 0
IsSimple (s.Assign x op y) = ⊤
IsSimple (s.Run x) = ⊤
IsSimple (s.Free x) = ⊤
IsSimple (s.Print text args) = ⊤
IsSimple _ = ⊥

-- all statements of a list are declarations
abbrev pub AreDeclarations : {m : _} → Row_of-Stmt m → Type 0
AreDeclarations end_of-Stmt = ⊤
AreDeclarations (more_of-Stmt _ kind rest) = IsDeclaration kind × AreDeclarations rest

-- a `for` starts with declarations, with one simple statement or with nothing
abbrev pub IsStart : {m : _} → Row_of-Stmt m → Type 0
IsStart end_of-Stmt = ⊤
IsStart (more_of-Stmt _ (s.Declare t name value) rest) = AreDeclarations rest
IsStart (more_of-Stmt _ kind end_of-Stmt) = IsSimple kind
IsStart _ = ⊥

-- the statements and expressions inside a statement
unfoldable mutual
  pub IsReadStmt : StmtKind → Type 0
  IsReadStmt (s.Block' _ body) = AreReadStmts body
  IsReadStmt (s.Declare t name value) = IsName name × IsValueType t × IsReadValue value
  IsReadStmt (s.If' test _ (one _ body _) other) = IsReadExpr test.kind × IsNoDeclaration body × IsReadStmt body × IsReadElse other
  IsReadStmt (s.While' test _ (one _ body _)) = IsReadExpr test.kind × IsNoDeclaration body × IsReadStmt body
  IsReadStmt (s.For' _ starts test step _ (one _ body _)) =
      IsStart starts × AreReadStmts starts × IsReadValue test × IsReadStep step × IsNoDeclaration body × IsReadStmt body
  IsReadStmt (s.Return value) = IsReadValue value
  IsReadStmt (s.Assign x op y) = IsPlace x.kind × IsReadExpr x.kind × IsReadExpr y.kind
  IsReadStmt (s.Run x) = IsCall x.kind × IsReadExpr x.kind
  IsReadStmt (s.Free x) = IsReadExpr x.kind
  IsReadStmt (s.Print text args) = All (λ x. IsReadExpr x.kind) args
  IsReadStmt _ = ⊤

  pub AreReadStmts : {m : _} → Row_of-Stmt m → Type 0
  AreReadStmts end_of-Stmt = ⊤
  AreReadStmts (more_of-Stmt _ kind rest) = IsReadStmt kind × AreReadStmts rest

  pub IsReadElse : Held-StmtKind-If-2 → Type 0
  IsReadElse None' = ⊤
  IsReadElse (Some' _ (one _ kind _)) = IsNoDeclaration kind × IsReadStmt kind

  pub IsReadStep : Held-StmtKind-If-2 → Type 0
  IsReadStep None' = ⊤
  IsReadStep (Some' _ (one _ kind _)) = IsSimple kind × IsReadStmt kind

-- a field or a parameter has a name, and a type that values have
abbrev pub IsReadField : Field → Type 0
IsReadField q = IsName q.name.it × IsValueType q.ty

-- a struct has a name, and its fields have the form that is read
abbrev pub IsReadStruct : Struct → Type 0
IsReadStruct d = IsName d.name.it × All IsReadField d.fields

-- an array has no initialiser
abbrev pub HasNoStart : Option (At Count) → Option (At Const) → Type 0
HasNoStart (Some n) (Some x) = ⊥
HasNoStart _ _ = ⊤

-- a global has a name, and a type that values have
abbrev pub IsReadGlobal : GlobalDecl → Type 0
IsReadGlobal g = IsName g.name.it × IsValueType g.ty × HasNoStart g.count g.init

-- a function has a name, and its parameters and its body have the form that is read
abbrev pub IsReadFunction : Function → Type 0
IsReadFunction f = IsName f.name.it × All IsReadField f.params × AreReadStmts (row_of (body_of f.body))

-- all declarations of a program have the form that is read from a source
pub record HasReadForm (p : Program) : Type 0 where
  pub structs : All IsReadStruct p.structs
  pub globals : All IsReadGlobal p.globals
  pub mutexes : All (λ m. IsName m.it) p.mutexes
  pub defines : All (λ d. IsName d.name.it) p.defines
  pub functions : All IsReadFunction p.functions

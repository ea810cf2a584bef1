-- The forms of the values that were read, which form is below which, and what actions and rules make of which.
use Rattle.std.specs.Prelude.{◌≡◌, List, [], ◌∷◌, Bool, true, false, ⊤, Option, Some, None, All}
use Rattle.c_tree.specs.declared.program.ExprKind.{ExprKind}
use Rattle.c_tree.specs.declared.program.Stmt.{Stmt}
use Rattle.c_tree.specs.declared.program.StmtKind.TheBlock.{hidden-the_row-Stmt-0 as row_of}
use Rattle.c_tree.specs.ReadForm.{IsName, IsValueType, IsCastType, IsPlace, IsCall, IsReadExpr, IsReadValue, IsNoDeclaration, IsSimple, AreDeclarations, IsStart, IsReadStmt, AreReadStmts, IsReadField, HasReadForm}
use Rattle.c_grammar.specs.declared.kind.Kind.{Kind}
use Rattle.c_grammar.specs.declared.kind.Kind.TheVariants as kind
use Rattle.c_grammar.specs.declared.rule.Rule.{Rule}
use Rattle.c_grammar.specs.declared.rule.Rule.TheVariants as rule
use Rattle.c_grammar.specs.declared.action.Action.{Action}
use Rattle.c_grammar.specs.declared.action.Action.TheVariants as action
use Rattle.c_grammar.specs.declared.value.Value.{Value}
use Rattle.c_grammar.specs.Values.{older, ty_in, operand_in, exprs_in, maybe_expr_in, stmt_in, stmts_in, maybe_stmt_in, fields_in, define_in, program_in}
use Rattle.c_grammar.specs.Effects.{text}
use Rattle.c_tree.specs.Scope.{locals, locals_of}
use Rattle.c_reader.specs.Spelling.{IsSpelt, AreLocalsSpelt, AreFieldsSpelt, IsTreeSpelt}

pub data Form : Type 0 where
  Any : Form
  Name : Form
  Define : Form
  ValueTy : Form
  Pointer : Form
  Operand : Form
  Place : Form
  Call : Form
  Exprs : Form
  MaybeExpr : Form
  Statement : Form
  Simple : Form
  Step : Form
  NoStmts : Form
  Declarations : Form
  Starts : Form
  Stmts : Form
  Fields : Form
  Program : Form

abbrev pub kind_in : List Value → ExprKind
kind_in vs = (operand_in vs).expr.kind

-- the step of a `for`
abbrev pub IsStep : Option Stmt → Type 0
IsStep None = ⊤
IsStep (Some x) = IsSimple x.kind × IsReadStmt x.kind

-- The newest value has this form. Of most words, counts and constants nothing is asked.
abbrev pub Has : Form → List Value → Type 0
Has Any vs = ⊤
Has Name vs = IsSpelt (text vs)
Has Define vs = IsName (define_in vs).name.it
Has ValueTy vs = IsValueType (ty_in vs)
Has Pointer vs = IsCastType (ty_in vs)
Has Operand vs = IsReadExpr (kind_in vs)
Has Place vs = IsPlace (kind_in vs) × IsReadExpr (kind_in vs)
Has Call vs = IsCall (kind_in vs) × IsReadExpr (kind_in vs)
Has Exprs vs = All (λ x. IsReadExpr x.kind) (exprs_in vs)
Has MaybeExpr vs = IsReadValue (maybe_expr_in vs)
Has Statement vs = IsNoDeclaration (stmt_in vs).kind × IsReadStmt (stmt_in vs).kind × AreLocalsSpelt (locals (stmt_in vs).kind)
Has Simple vs = IsSimple (stmt_in vs).kind × IsReadStmt (stmt_in vs).kind
Has Step vs = IsStep (maybe_stmt_in vs)
Has NoStmts vs = stmts_in vs ≡ []
Has Declarations vs = AreDeclarations (row_of (stmts_in vs)) × AreReadStmts (row_of (stmts_in vs)) × AreLocalsSpelt (locals_of (row_of (stmts_in vs)))
Has Starts vs = IsStart (row_of (stmts_in vs)) × AreReadStmts (row_of (stmts_in vs)) × AreLocalsSpelt (locals_of (row_of (stmts_in vs)))
Has Stmts vs = AreReadStmts (row_of (stmts_in vs)) × AreLocalsSpelt (locals_of (row_of (stmts_in vs)))
Has Fields vs = All IsReadField (fields_in vs) × AreFieldsSpelt (fields_in vs)
Has Program vs = HasReadForm (program_in vs) × IsTreeSpelt (program_in vs)

-- the values in front have these forms, newest first
abbrev pub Fits : List Form → List Value → Type 0
Fits [] vs = ⊤
Fits (f ∷ fs) vs = Has f vs × Fits fs (older vs)

-- the values behind as many as there are forms
abbrev pub past : List Form → List Value → List Value
past [] vs = vs
past (f ∷ fs) vs = past fs (older vs)

-- whether each value of the first form has the second
abbrev pub below : Form → Form → Bool
below f Any = true
below Pointer ValueTy = true
below Place Operand = true
below Call Operand = true
below Simple Statement = true
below NoStmts Declarations = true
below NoStmts Starts = true
below NoStmts Stmts = true
below Declarations Starts = true
below Declarations Stmts = true
below Name Name = true
below Define Define = true
below ValueTy ValueTy = true
below Pointer Pointer = true
below Operand Operand = true
below Place Place = true
below Call Call = true
below Exprs Exprs = true
below MaybeExpr MaybeExpr = true
below Statement Statement = true
below Simple Simple = true
below Step Step = true
below NoStmts NoStmts = true
below Declarations Declarations = true
below Starts Starts = true
below Stmts Stmts = true
below Fields Fields = true
below Program Program = true
below f g = false

-- the form of a token that is kept
abbrev pub kept_form : Kind → Form
kept_form kind.Name = Name
kept_form kind.Define = Define
kept_form k = Any

-- What an action or a rule finds, newest first, and what it leaves in its place.
pub record Deal : Type 0 where
  pub finds : List Form
  pub leaves : List Form

abbrev turns : List Form → List Form → Deal
turns finds leaves = record { finds = finds; leaves = leaves }

-- one deal
abbrev one : List Form → List Form → List Deal
one finds leaves = turns finds leaves ∷ []

-- the same for declarations at the start of a `for` and for those of a block
abbrev both : (Form → List Form) → (Form → List Form) → List Deal
both finds leaves = turns (finds Declarations) (leaves Declarations) ∷ turns (finds Stmts) (leaves Stmts) ∷ []

-- An action or a rule that reads no part of a file has no deal.
abbrev pub done_by : Action → List Deal
done_by action.Leave = one [] []
done_by action.Outer = one [] []
done_by action.StartProgram = one [] (Program ∷ [])
done_by action.DefineItem = one (Define ∷ Program ∷ []) (Program ∷ [])
done_by action.StructItem = one (Fields ∷ Name ∷ Program ∷ []) (Program ∷ [])
done_by action.ArrayItem = one (Any ∷ Name ∷ ValueTy ∷ Program ∷ []) (Program ∷ [])
done_by action.InitItem = one (Any ∷ Name ∷ ValueTy ∷ Program ∷ []) (Program ∷ [])
done_by action.PlainItem = one (Name ∷ ValueTy ∷ Program ∷ []) (Program ∷ [])
done_by action.MutexItem = one (Name ∷ Program ∷ []) (Program ∷ [])
done_by action.FunctionItem = one (Stmts ∷ Any ∷ Fields ∷ Name ∷ Any ∷ Program ∷ []) (Program ∷ [])
done_by action.PrototypeItem = one (Fields ∷ Name ∷ Any ∷ Program ∷ []) (Program ∷ [])
done_by action.IntType = one [] (ValueTy ∷ [])
done_by action.ThreadType = one [] (ValueTy ∷ [])
done_by action.VoidType = one [] (Any ∷ [])
done_by action.AnyType = one [] (Pointer ∷ [])
done_by action.PtrType = one (Any ∷ []) (Pointer ∷ [])
done_by action.NoFields = one [] (Fields ∷ [])
done_by action.OneField = one (Name ∷ ValueTy ∷ []) (Fields ∷ [])
done_by action.MoreField = one (Name ∷ ValueTy ∷ Fields ∷ []) (Fields ∷ [])
done_by action.NumberCount = one (Any ∷ []) (Any ∷ [])
done_by action.NameCount = one (Any ∷ []) (Any ∷ [])
done_by action.MinusConst = one (Any ∷ Any ∷ []) (Any ∷ [])
done_by action.NumberConst = one (Any ∷ []) (Any ∷ [])
done_by action.NameConst = one (Any ∷ []) (Any ∷ [])
done_by action.NullConst = one (Any ∷ []) (Any ∷ [])
done_by action.EofConst = one (Any ∷ []) (Any ∷ [])
done_by action.NoStmts = one [] (NoStmts ∷ [])
done_by action.MoreStmt = turns (Simple ∷ NoStmts ∷ []) (Starts ∷ []) ∷ turns (Statement ∷ Stmts ∷ []) (Stmts ∷ []) ∷ []
done_by action.DeclItem = both (λ f. MaybeExpr ∷ Name ∷ ValueTy ∷ f ∷ []) (λ f. ValueTy ∷ f ∷ [])
done_by action.EndDecl = one (Any ∷ []) []
done_by action.BlockStmt = one (Stmts ∷ Any ∷ []) (Statement ∷ [])
done_by action.EmptyStmt = one (Any ∷ []) (Statement ∷ [])
done_by action.If = one (Statement ∷ Operand ∷ Any ∷ []) (Statement ∷ [])
done_by action.IfElse = one (Statement ∷ Statement ∷ Operand ∷ Any ∷ []) (Statement ∷ [])
done_by action.While = one (Statement ∷ Operand ∷ Any ∷ []) (Statement ∷ [])
done_by action.For = one (Statement ∷ Step ∷ MaybeExpr ∷ Starts ∷ Any ∷ []) (Statement ∷ [])
done_by action.Break = one (Any ∷ []) (Statement ∷ [])
done_by action.Continue = one (Any ∷ []) (Statement ∷ [])
done_by action.Return = one (MaybeExpr ∷ Any ∷ []) (Statement ∷ [])
done_by action.NoStmt = one [] (Step ∷ [])
done_by action.SomeStmt = one (Simple ∷ []) (Step ∷ [])
done_by action.Assign = one (Operand ∷ Any ∷ Place ∷ []) (Simple ∷ [])
done_by action.Post = one (Any ∷ Place ∷ []) (Simple ∷ [])
done_by action.Pre = one (Place ∷ Any ∷ []) (Simple ∷ [])
done_by action.Run = one (Call ∷ []) (Simple ∷ [])
done_by action.Free = one (Operand ∷ Any ∷ []) (Simple ∷ [])
done_by action.Print = one (Exprs ∷ Any ∷ Any ∷ []) (Simple ∷ [])
done_by action.NoExpr = one [] (MaybeExpr ∷ [])
done_by action.SomeExpr = one (Operand ∷ []) (MaybeExpr ∷ [])
done_by action.NoArgs = one [] (Exprs ∷ [])
done_by action.OneArg = one (Operand ∷ []) (Exprs ∷ [])
done_by action.MoreArg = one (Operand ∷ Exprs ∷ []) (Exprs ∷ [])
done_by action.Num = one (Any ∷ []) (Operand ∷ [])
done_by action.NullExpr = one (Any ∷ []) (Operand ∷ [])
done_by action.EofExpr = one (Any ∷ []) (Operand ∷ [])
done_by action.NameExpr = one (Any ∷ []) (Place ∷ [])
done_by action.HiddenSlot = []
done_by action.TempSlot = []
done_by action.Index = one (Operand ∷ Any ∷ []) (Place ∷ [])
done_by action.Field = one (Any ∷ Operand ∷ []) (Place ∷ [])
done_by action.Call = one (Exprs ∷ Any ∷ []) (Call ∷ [])
done_by action.Malloc = one (Any ∷ Any ∷ []) (Call ∷ [])
done_by action.Getchar = one (Any ∷ []) (Call ∷ [])
done_by action.Create = one (Operand ∷ Any ∷ Place ∷ Any ∷ []) (Call ∷ [])
done_by action.Join = one (Operand ∷ Any ∷ []) (Call ∷ [])
done_by action.Lock = one (Any ∷ Any ∷ []) (Call ∷ [])
done_by action.Unlock = one (Any ∷ Any ∷ []) (Call ∷ [])
done_by action.Group = one (Operand ∷ Any ∷ []) (Operand ∷ [])
done_by action.Un = one (Operand ∷ Any ∷ []) (Operand ∷ [])
done_by action.Cast = one (Operand ∷ Pointer ∷ Any ∷ []) (Operand ∷ [])
done_by action.Bin = one (Operand ∷ Any ∷ Operand ∷ []) (Operand ∷ [])
done_by action.StartMapping = []
done_by action.MatchEntry = []
done_by action.UnmatchedEntry = []
done_by action.FieldEntry = []
done_by action.InitEntry = []
done_by action.PointEntry = []
done_by action.CheckEntry = []
done_by action.EntryPt = []
done_by action.NumberPt = []
done_by action.NoFills = []
done_by action.MoreFill = []
done_by action.OnePart = []
done_by action.TwoParts = []
done_by action.ThreeParts = []
done_by action.FourParts = []
done_by action.AddPart = []
done_by action.HiddenName = []
done_by action.TempName = []

-- a part of a file, and a level of operators with its tail
abbrev item : List Deal
item = one (Program ∷ []) (Program ∷ [])

abbrev level : List Deal
level = one [] (Operand ∷ [])

abbrev tail : List Deal
tail = one (Operand ∷ []) (Operand ∷ [])

abbrev word : List Deal
word = one [] (Any ∷ [])

abbrev pub read_by : Rule → List Deal
read_by rule.Items = item
read_by rule.Item = item
read_by rule.Directive = item
read_by rule.StructDef = item
read_by rule.Fields = one (Fields ∷ []) (Fields ∷ [])
read_by rule.Type = one [] (ValueTy ∷ [])
read_by rule.GlobalDef = item
read_by rule.GlobalRest = one (Name ∷ ValueTy ∷ Program ∷ []) (Program ∷ [])
read_by rule.Count = word
read_by rule.Const = word
read_by rule.MutexDef = item
read_by rule.Mutex = item
read_by rule.MutexInit = one [] []
read_by rule.FunctionDef = item
read_by rule.Params = one [] (Fields ∷ [])
read_by rule.MoreParams = one (Fields ∷ []) (Fields ∷ [])
read_by rule.Body = one (Fields ∷ Name ∷ Any ∷ Program ∷ []) (Program ∷ [])
read_by rule.Block = one [] (Stmts ∷ Any ∷ [])
read_by rule.BlockItems = one (Stmts ∷ []) (Stmts ∷ [])
read_by rule.Decl = both (λ f. f ∷ []) (λ f. f ∷ [])
read_by rule.IntItem = both (λ f. ValueTy ∷ f ∷ []) (λ f. ValueTy ∷ f ∷ [])
read_by rule.IntItems = both (λ f. ValueTy ∷ f ∷ []) (λ f. ValueTy ∷ f ∷ [])
read_by rule.PtrItem = both (λ f. ValueTy ∷ f ∷ []) (λ f. ValueTy ∷ f ∷ [])
read_by rule.PtrItems = both (λ f. ValueTy ∷ f ∷ []) (λ f. ValueTy ∷ f ∷ [])
read_by rule.Init = one [] (MaybeExpr ∷ [])
read_by rule.Stmt = one [] (Statement ∷ [])
read_by rule.ElsePart = one (Statement ∷ Operand ∷ Any ∷ []) (Statement ∷ [])
read_by rule.ForInit = one (NoStmts ∷ []) (Starts ∷ [])
read_by rule.OptExpr = one [] (MaybeExpr ∷ [])
read_by rule.OptSimple = one [] (Step ∷ [])
read_by rule.Simple = one [] (Simple ∷ [])
read_by rule.PrintArgs = one (Exprs ∷ []) (Exprs ∷ [])
read_by rule.Asgop = word
read_by rule.Incdec = word
read_by rule.PreOp = word
read_by rule.Lvalue = one [] (Place ∷ [])
read_by rule.Call = one [] (Call ∷ [])
read_by rule.WordCall = one [] (Call ∷ [])
read_by rule.MallocRest = one (Any ∷ []) (Call ∷ [])
read_by rule.CreateRest = one (Any ∷ []) (Call ∷ [])
read_by rule.JoinRest = one (Any ∷ []) (Call ∷ [])
read_by rule.LockRest = word
read_by rule.Args = one [] (Exprs ∷ [])
read_by rule.MoreArgs = one (Exprs ∷ []) (Exprs ∷ [])
read_by rule.Postfix = level
read_by rule.Arrows = tail
read_by rule.Primary = level
read_by rule.Constant = level
read_by rule.Unary = level
read_by rule.UnOp = word
read_by rule.CastType = one [] (Pointer ∷ [])
read_by rule.Mul = level
read_by rule.MulTail = tail
read_by rule.Add = level
read_by rule.AddTail = tail
read_by rule.Shift = level
read_by rule.ShiftTail = tail
read_by rule.Order = level
read_by rule.OrderTail = tail
read_by rule.Equal = level
read_by rule.EqualTail = tail
read_by rule.BitAnd = level
read_by rule.BitAndTail = tail
read_by rule.BitXor = level
read_by rule.BitXorTail = tail
read_by rule.BitOr = level
read_by rule.BitOrTail = tail
read_by rule.AndAnd = level
read_by rule.AndAndTail = tail
read_by rule.Expr = level
read_by rule.ExprTail = tail
read_by rule.MulOp = word
read_by rule.AddOp = word
read_by rule.ShiftOp = word
read_by rule.OrderOp = word
read_by rule.EqualOp = word
read_by rule.BitAndOp = word
read_by rule.BitXorOp = word
read_by rule.BitOrOp = word
read_by rule.AndAndOp = word
read_by rule.OrOrOp = word
read_by r = []

-- Each action makes of what it finds what it leaves.
use Rattle.std.specs.Prelude.{ℕ, List, [], ◌∷◌, ◌++◌, All}
use Rattle.std.specs.List.{AllByRecursion}
use Rattle.std.proofs.Common.{◌≡◌, Option, Some, None, refl}
use Rattle.std.proofs.lemmas.List.Elements.{All-nil, All-push, All-append, recursion_from_All, All-from_recursion}
use Rattle.c_tree.specs.Compute.{literals}
use Rattle.c_tree.specs.declared.program.At.{At}
use Rattle.c_tree.specs.declared.program.Expr.{Expr}
use Rattle.c_tree.specs.declared.program.ExprKind.TheBlock.{hidden-the_row-Expr-1 as args_of}
use Rattle.c_tree.specs.declared.program.Stmt.{Stmt}
use Rattle.c_tree.specs.declared.program.StmtKind.{StmtKind, end_of-Stmt, more_of-Stmt}
use Rattle.c_tree.specs.declared.program.StmtKind.TheBlock.{hidden-the_row-Stmt-0 as row_of}
use Rattle.c_tree.specs.declared.program.StmtKind.TheVariants as s
use Rattle.c_tree.specs.declared.program.Struct.{Struct}
use Rattle.c_tree.specs.declared.program.GlobalDecl.{GlobalDecl}
use Rattle.c_tree.specs.declared.program.Define.{Define}
use Rattle.c_tree.specs.declared.program.Function.{Function}
use Rattle.c_tree.specs.declared.program.Program.{Program}
use Rattle.c_tree.specs.ReadForm.{IsName, IsValueType, HasNoStart, IsDeclaration, IsNoDeclaration, IsSimple, IsStart, AreDeclarations, IsReadExpr, AreReadExprs, IsReadValue, IsReadStmt, AreReadStmts, IsReadElse, IsReadStep, IsReadField, IsReadStruct, IsReadGlobal, IsReadFunction, HasReadForm}
use Rattle.c_grammar.specs.declared.action.Action.{Action}
use Rattle.c_grammar.specs.declared.action.Action.TheVariants as action
use Rattle.c_grammar.specs.declared.value.Value.{Value}
use Rattle.c_grammar.specs.Values.{second, third, fourth, stmt_in, stmts_in, exprs_in, fields_in, maybe_expr_in, maybe_stmt_in, program_in, no_program}
use Rattle.c_grammar.specs.Effects.{value_effect, with_struct, with_global, with_mutex, with_define, with_function}
use Rattle.c_tree.specs.declared.program.Field.{Field}
use Rattle.c_tree.specs.declared.ty.Ty.{Ty}
use Rattle.c_tree.specs.Lifting.{body_of}
use Rattle.c_tree.specs.Scope.{Variable, locals, locals_of}
use Rattle.c_reader.specs.Spelling.{IsSpelt, AreLocalsSpelt, AreFieldsSpelt, IsTreeSpelt}
use Rattle.c_reader.proofs.FormOrder.{simple_has_none}
use Rattle.c_reader.proofs.Forms.{Deal, IsStep, Fits, past, done_by}
use Rattle.c_reader.proofs.Names.{spelt_is_name}

read_args : (xs : List Expr) → AllByRecursion (λ x. IsReadExpr x.kind) xs → AreReadExprs (args_of xs)
unfolding literals AreReadExprs
read_args [] h = tt
read_args (x ∷ xs) h = (h.0, read_args xs h.1)

more_stmts : (xs : List Stmt) (x : Stmt) → AreReadStmts (row_of xs) → IsReadStmt x.kind → AreReadStmts (row_of (xs ++ x ∷ []))
unfolding literals AreReadStmts
more_stmts [] x h i = (i, tt)
more_stmts (y ∷ xs) x h i = (h.0, more_stmts xs x h.1 i)

more_declarations : (xs : List Stmt) (x : Stmt) → AreDeclarations (row_of xs) → IsDeclaration x.kind → AreDeclarations (row_of (xs ++ x ∷ []))
unfolding literals
more_declarations [] x h i = (i, tt)
more_declarations (y ∷ xs) x h i = (h.0, more_declarations xs x h.1 i)

simple_starts : (at : ℕ) (x : StmtKind) → IsSimple x → IsStart (more_of-Stmt at x end_of-Stmt)
simple_starts at (s.Declare t name value) h = absurd h
simple_starts at x h = h

recursion_apart : (us vs : List Variable) → AllByRecursion (λ x. IsSpelt x.name) (us ++ vs) → AllByRecursion (λ x. IsSpelt x.name) us × AllByRecursion (λ x. IsSpelt x.name) vs
recursion_apart [] vs h = (tt, h)
recursion_apart (u ∷ us) vs h = let more = recursion_apart us vs h.1 in ((h.0, more.0), more.1)

locals_apart : (us vs : List Variable) → AreLocalsSpelt (us ++ vs) → AreLocalsSpelt us × AreLocalsSpelt vs
locals_apart us vs h =
    let parts = recursion_apart us vs (recursion_from_All (λ x. IsSpelt x.name) (us ++ vs) h) in
    (All-from_recursion (λ x. IsSpelt x.name) us parts.0, All-from_recursion (λ x. IsSpelt x.name) vs parts.1)

-- the locals of one more statement
more_locals : (xs : List Stmt) (x : Stmt) → AreLocalsSpelt (locals_of (row_of xs)) → AreLocalsSpelt (locals x.kind) → AreLocalsSpelt (locals_of (row_of (xs ++ x ∷ [])))
unfolding literals
more_locals [] x h i = All-append (λ x. IsSpelt x.name) (locals x.kind) [] i (All-nil (λ x. IsSpelt x.name))
more_locals (y ∷ xs) x h i =
    let split = locals_apart (locals y.kind) (locals_of (row_of xs)) h in
    All-append (λ x. IsSpelt x.name) (locals y.kind) (locals_of (row_of (xs ++ x ∷ []))) split.0 (more_locals xs x split.1 i)

one_starts : (xs : List Stmt) (x : Stmt) → xs ≡ [] → IsSimple x.kind → IsReadStmt x.kind
    → IsStart (row_of (xs ++ x ∷ [])) × AreReadStmts (row_of (xs ++ x ∷ [])) × AreLocalsSpelt (locals_of (row_of (xs ++ x ∷ [])))
unfolding literals AreReadStmts
one_starts [] x e h i = (simple_starts x.at x.kind h, (i, tt), All-append (λ x. IsSpelt x.name) (locals x.kind) [] (simple_has_none x.kind h) (All-nil (λ x. IsSpelt x.name)))
one_starts (y ∷ xs) x e h i = cc

read_for : (starts : List Stmt) (test : Option Expr) (step : Option Stmt) (body : Stmt) → IsStart (row_of starts) → AreReadStmts (row_of starts) → IsReadValue test → IsStep step
    → IsNoDeclaration body.kind → IsReadStmt body.kind → IsReadStmt (s.For starts test step body)
unfolding literals IsReadStmt IsReadStep
read_for starts test None body g h i j k l = (g, h, i, tt, k, l)
read_for starts test (Some x) body g h i j k l = (g, h, i, j, k, l)

-- A program of the form with one more of its parts is of the form.
abbrev pub Good : Program → Type 0
Good p = HasReadForm p × IsTreeSpelt p

pub no_parts : Good no_program
no_parts = (
  record {
    structs = All-nil IsReadStruct;
    globals = All-nil IsReadGlobal;
    mutexes = All-nil (λ m. IsName m.it);
    defines = All-nil (λ d. IsName d.name.it);
    functions = All-nil IsReadFunction;
  },
  record {
    structs = All-nil (λ d. IsSpelt d.name.it × AreFieldsSpelt d.fields);
    globals = All-nil (λ g. IsSpelt g.name.it);
    mutexes = All-nil (λ m. IsSpelt m.it);
    functions = All-nil (λ f. IsSpelt f.name.it × AreFieldsSpelt f.params × AreLocalsSpelt (locals_of (row_of (body_of f.body))));
  },
)

more_struct : (p : Program) (x : Struct) → Good p → IsSpelt x.name.it → All IsReadField x.fields × AreFieldsSpelt x.fields → Good (with_struct p x)
more_struct p x (h, g) i j = (
  record { structs = All-push IsReadStruct p.structs x h.structs (spelt_is_name x.name.it i, j.0); globals = h.globals; mutexes = h.mutexes; defines = h.defines; functions = h.functions },
  record { structs = All-push (λ d. IsSpelt d.name.it × AreFieldsSpelt d.fields) p.structs x g.structs (i, j.1); globals = g.globals; mutexes = g.mutexes; functions = g.functions },
)

more_global : (p : Program) (x : GlobalDecl) → Good p → IsSpelt x.name.it → IsValueType x.ty × HasNoStart x.count x.init → Good (with_global p x)
more_global p x (h, g) i j = (
  record { structs = h.structs; globals = All-push IsReadGlobal p.globals x h.globals (spelt_is_name x.name.it i, j.0, j.1); mutexes = h.mutexes; defines = h.defines; functions = h.functions },
  record { structs = g.structs; globals = All-push (λ g. IsSpelt g.name.it) p.globals x g.globals i; mutexes = g.mutexes; functions = g.functions },
)

more_mutex : (p : Program) (x : At (List ℕ)) → Good p → IsSpelt x.it → Good (with_mutex p x)
more_mutex p x (h, g) i = (
  record { structs = h.structs; globals = h.globals; mutexes = All-push (λ m. IsName m.it) p.mutexes x h.mutexes (spelt_is_name x.it i); defines = h.defines; functions = h.functions },
  record { structs = g.structs; globals = g.globals; mutexes = All-push (λ m. IsSpelt m.it) p.mutexes x g.mutexes i; functions = g.functions },
)

more_define : (p : Program) (x : Define) → Good p → IsName x.name.it → Good (with_define p x)
more_define p x (h, g) i = (
  record { structs = h.structs; globals = h.globals; mutexes = h.mutexes; defines = All-push (λ d. IsName d.name.it) p.defines x h.defines i; functions = h.functions },
  record { structs = g.structs; globals = g.globals; mutexes = g.mutexes; functions = g.functions },
)

more_function : (p : Program) (x : Function) → Good p → IsSpelt x.name.it → All IsReadField x.params × AreFieldsSpelt x.params
    → AreReadStmts (row_of (body_of x.body)) × AreLocalsSpelt (locals_of (row_of (body_of x.body))) → Good (with_function p x)
more_function p x (h, g) i j k = (
  record { structs = h.structs; globals = h.globals; mutexes = h.mutexes; defines = h.defines; functions = All-push IsReadFunction p.functions x h.functions (spelt_is_name x.name.it i, j.0, k.0) },
  record {
    structs = g.structs;
    globals = g.globals;
    mutexes = g.mutexes;
    functions = All-push (λ f. IsSpelt f.name.it × AreFieldsSpelt f.params × AreLocalsSpelt (locals_of (row_of (body_of f.body)))) p.functions x g.functions (i, j.1, k.1);
  },
)

-- one more field or parameter
more_field : (xs : List Field) (x : Field) → All IsReadField xs × AreFieldsSpelt xs → IsSpelt x.name.it → IsValueType x.ty → All IsReadField (xs ++ x ∷ []) × AreFieldsSpelt (xs ++ x ∷ [])
more_field xs x h i j = (All-push IsReadField xs x h.0 (spelt_is_name x.name.it i, j), All-push (λ q. IsSpelt q.name.it) xs x h.1 i)

no_fields : All IsReadField [] × AreFieldsSpelt []
no_fields = (All-nil IsReadField, All-nil (λ q. IsSpelt q.name.it))

-- one local, and none
one_local : (t : Ty) (name : List ℕ) (value : Option Expr) → IsSpelt name → AreLocalsSpelt (locals (s.Declare t name value))
one_local t name value h = All-push (λ x. IsSpelt x.name) [] _ (All-nil (λ x. IsSpelt x.name)) h

no_locals : AreLocalsSpelt []
no_locals = All-nil (λ x. IsSpelt x.name)

both_locals : (us vs : List Variable) → AreLocalsSpelt us → AreLocalsSpelt vs → AreLocalsSpelt (us ++ vs)
both_locals us vs h i = All-append (λ x. IsSpelt x.name) us vs h i

-- The action makes of values of the forms that the deal finds values of those that it leaves, and nothing of those behind.
abbrev pub Does : Action → Deal → Type 0
Does a d = (vs : List Value) → Fits d.finds vs → Fits d.leaves (value_effect a vs) × (past d.leaves (value_effect a vs) ≡ past d.finds vs)

pub done : (a : Action) → AllByRecursion (λ d. Does a d) (done_by a)
unfolding literals IsReadExpr AreReadExprs IsReadStmt AreReadStmts IsReadElse IsReadStep
done action.Leave = ((λ vs h. (tt, refl)), tt)
done action.Outer = ((λ vs h. (tt, refl)), tt)
done action.StartProgram = ((λ vs h. ((no_parts, tt), refl)), tt)
done action.DefineItem = ((λ vs h. ((more_define (program_in (second vs)) _ h.1.0 h.0, tt), refl)), tt)
done action.StructItem = ((λ vs h. ((more_struct (program_in (third vs)) _ h.1.1.0 h.1.0 h.0, tt), refl)), tt)
done action.ArrayItem = ((λ vs h. ((more_global (program_in (fourth vs)) _ h.1.1.1.0 h.1.0 (h.1.1.0, tt), tt), refl)), tt)
done action.InitItem = ((λ vs h. ((more_global (program_in (fourth vs)) _ h.1.1.1.0 h.1.0 (h.1.1.0, tt), tt), refl)), tt)
done action.PlainItem = ((λ vs h. ((more_global (program_in (third vs)) _ h.1.1.0 h.0 (h.1.0, tt), tt), refl)), tt)
done action.MutexItem = ((λ vs h. ((more_mutex (program_in (second vs)) _ h.1.0 h.0, tt), refl)), tt)
done action.FunctionItem = ((λ vs h. ((more_function _ _ h.1.1.1.1.1.0 h.1.1.1.0 h.1.1.0 h.0, tt), refl)), tt)
done action.PrototypeItem = ((λ vs h. ((more_function _ _ h.1.1.1.0 h.1.0 h.0 (tt, no_locals), tt), refl)), tt)
done action.IntType = ((λ vs h. ((tt, tt), refl)), tt)
done action.ThreadType = ((λ vs h. ((tt, tt), refl)), tt)
done action.VoidType = ((λ vs h. ((tt, tt), refl)), tt)
done action.AnyType = ((λ vs h. ((tt, tt), refl)), tt)
done action.PtrType = ((λ vs h. ((tt, tt), refl)), tt)
done action.NoFields = ((λ vs h. ((no_fields, tt), refl)), tt)
done action.OneField = ((λ vs h. ((more_field [] _ no_fields h.0 h.1.0, tt), refl)), tt)
done action.MoreField = ((λ vs h. ((more_field (fields_in (third vs)) _ h.1.1.0 h.0 h.1.0, tt), refl)), tt)
done action.NumberCount = ((λ vs h. ((tt, tt), refl)), tt)
done action.NameCount = ((λ vs h. ((tt, tt), refl)), tt)
done action.MinusConst = ((λ vs h. ((tt, tt), refl)), tt)
done action.NumberConst = ((λ vs h. ((tt, tt), refl)), tt)
done action.NameConst = ((λ vs h. ((tt, tt), refl)), tt)
done action.NullConst = ((λ vs h. ((tt, tt), refl)), tt)
done action.EofConst = ((λ vs h. ((tt, tt), refl)), tt)
done action.NoStmts = ((λ vs h. ((refl, tt), refl)), tt)
done action.MoreStmt = (
  (λ vs h. ((one_starts (stmts_in (second vs)) (stmt_in vs) h.1.0 h.0.0 h.0.1, tt), refl)),
  ((λ vs h. (((more_stmts (stmts_in (second vs)) (stmt_in vs) h.1.0.0 h.0.1, more_locals (stmts_in (second vs)) (stmt_in vs) h.1.0.1 h.0.2), tt), refl)), tt),
)
done action.DeclItem = (
  (λ vs h. (
    (
      h.1.1.0,
      (
        (
          more_declarations (stmts_in (fourth vs)) _ h.1.1.1.0.0 tt,
          more_stmts (stmts_in (fourth vs)) _ h.1.1.1.0.1 (spelt_is_name _ h.1.0, h.1.1.0, h.0),
          more_locals (stmts_in (fourth vs)) _ h.1.1.1.0.2 (one_local _ _ (maybe_expr_in vs) h.1.0),
        ),
        tt,
      ),
    ),
    refl,
  )),
  ((λ vs h. ((h.1.1.0, ((more_stmts (stmts_in (fourth vs)) _ h.1.1.1.0.0 (spelt_is_name _ h.1.0, h.1.1.0, h.0), more_locals (stmts_in (fourth vs)) _ h.1.1.1.0.1 (one_local _ _ (maybe_expr_in vs) h.1.0)), tt)), refl)), tt),
)
done action.EndDecl = ((λ vs h. (tt, refl)), tt)
done action.BlockStmt = ((λ vs h. (((tt, h.0.0, h.0.1), tt), refl)), tt)
done action.EmptyStmt = ((λ vs h. (((tt, tt, no_locals), tt), refl)), tt)
done action.If = ((λ vs h. (((tt, (h.1.0, h.0.0, h.0.1, tt), both_locals _ [] h.0.2 no_locals), tt), refl)), tt)
done action.IfElse = ((λ vs h. (((tt, (h.1.1.0, h.1.0.0, h.1.0.1, (h.0.0, h.0.1)), both_locals _ _ h.1.0.2 h.0.2), tt), refl)), tt)
done action.While = ((λ vs h. (((tt, (h.1.0, h.0.0, h.0.1), h.0.2), tt), refl)), tt)
done action.For = ((λ vs h. (((tt, read_for (stmts_in (fourth vs)) (maybe_expr_in (third vs)) (maybe_stmt_in (second vs)) (stmt_in vs) h.1.1.1.0.0 h.1.1.1.0.1 h.1.1.0 h.1.0 h.0.0 h.0.1, both_locals _ _ h.1.1.1.0.2 h.0.2), tt), refl)), tt)
done action.Break = ((λ vs h. (((tt, tt, no_locals), tt), refl)), tt)
done action.Continue = ((λ vs h. (((tt, tt, no_locals), tt), refl)), tt)
done action.Return = ((λ vs h. (((tt, h.0, no_locals), tt), refl)), tt)
done action.NoStmt = ((λ vs h. ((tt, tt), refl)), tt)
done action.SomeStmt = ((λ vs h. ((h.0, tt), refl)), tt)
done action.Assign = ((λ vs h. (((tt, (h.1.1.0.0, h.1.1.0.1, h.0)), tt), refl)), tt)
done action.Post = ((λ vs h. (((tt, (h.1.0.0, h.1.0.1, tt)), tt), refl)), tt)
done action.Pre = ((λ vs h. (((tt, (h.0.0, h.0.1, tt)), tt), refl)), tt)
done action.Run = ((λ vs h. (((tt, h.0), tt), refl)), tt)
done action.Free = ((λ vs h. (((tt, h.0), tt), refl)), tt)
done action.Print = ((λ vs h. (((tt, h.0), tt), refl)), tt)
done action.NoExpr = ((λ vs h. ((tt, tt), refl)), tt)
done action.SomeExpr = ((λ vs h. ((h.0, tt), refl)), tt)
done action.NoArgs = ((λ vs h. ((All-nil (λ x. IsReadExpr x.kind), tt), refl)), tt)
done action.OneArg = ((λ vs h. ((All-push (λ x. IsReadExpr x.kind) [] _ (All-nil (λ x. IsReadExpr x.kind)) h.0, tt), refl)), tt)
done action.MoreArg = ((λ vs h. ((All-push (λ x. IsReadExpr x.kind) (exprs_in (second vs)) _ h.1.0 h.0, tt), refl)), tt)
done action.Num = ((λ vs h. ((tt, tt), refl)), tt)
done action.NullExpr = ((λ vs h. ((tt, tt), refl)), tt)
done action.EofExpr = ((λ vs h. ((tt, tt), refl)), tt)
done action.NameExpr = ((λ vs h. (((tt, tt), tt), refl)), tt)
done action.HiddenSlot = tt
done action.TempSlot = tt
done action.Index = ((λ vs h. (((tt, h.0), tt), refl)), tt)
done action.Field = ((λ vs h. (((tt, h.1.0), tt), refl)), tt)
done action.Call = ((λ vs h. (((tt, read_args (exprs_in vs) (recursion_from_All (λ x. IsReadExpr x.kind) (exprs_in vs) h.0)), tt), refl)), tt)
done action.Malloc = ((λ vs h. (((tt, tt), tt), refl)), tt)
done action.Getchar = ((λ vs h. (((tt, tt), tt), refl)), tt)
done action.Create = ((λ vs h. (((tt, (h.1.1.0.0, h.1.1.0.1, h.0)), tt), refl)), tt)
done action.Join = ((λ vs h. (((tt, h.0), tt), refl)), tt)
done action.Lock = ((λ vs h. (((tt, tt), tt), refl)), tt)
done action.Unlock = ((λ vs h. (((tt, tt), tt), refl)), tt)
done action.Group = ((λ vs h. ((h.0, tt), refl)), tt)
done action.Un = ((λ vs h. ((h.0, tt), refl)), tt)
done action.Cast = ((λ vs h. (((h.1.0, h.0), tt), refl)), tt)
done action.Bin = ((λ vs h. (((h.1.1.0, h.0), tt), refl)), tt)
done action.StartMapping = tt
done action.MatchEntry = tt
done action.UnmatchedEntry = tt
done action.FieldEntry = tt
done action.InitEntry = tt
done action.PointEntry = tt
done action.CheckEntry = tt
done action.EntryPt = tt
done action.NumberPt = tt
done action.NoFills = tt
done action.MoreFill = tt
done action.OnePart = tt
done action.TwoParts = tt
done action.ThreeParts = tt
done action.FourParts = tt
done action.AddPart = tt
done action.HiddenName = tt
done action.TempName = tt

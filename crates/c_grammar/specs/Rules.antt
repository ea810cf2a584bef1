-- The rules of the grammar, each with its alternatives. Written by tools/reader_tables.py.
-- A part that stands or doesn't, or that stands any number of times, is a rule of its own.
use Rattle.std.specs.Prelude.{List, [], ◌∷◌}
use Rattle.c_grammar.specs.declared.kind.Kind.TheVariants as kind
use Rattle.c_grammar.specs.declared.rule.Rule.{Rule}
use Rattle.c_grammar.specs.declared.rule.Rule.TheVariants as rule
use Rattle.c_grammar.specs.declared.action.Action.TheVariants as action
use Rattle.c_grammar.specs.declared.symbol.Symbol.{Symbol}
use Rattle.c_grammar.specs.declared.symbol.Symbol.TheVariants.{Take, Unless, Act, Expand}
use Rattle.c_grammar.specs.declared.symbol.Mark.TheVariants.{Skip, Keep, Open, OpenKeep, Count, CountKeep}

-- the alternatives of each rule, of which a text of the rule follows one
abbrev pub alternatives : Rule → List (List Symbol)
-- Items [Program -> Program] = Item Items |
alternatives rule.Items =
    (Expand rule.Item ∷ Expand rule.Items ∷ [])
    ∷ []
    ∷ []
-- Item [Program -> Program] = Directive | StructDef | GlobalDef | "static" GlobalDef | MutexDef | "static" MutexDef | FunctionDef | "static" FunctionDef
alternatives rule.Item =
    (Expand rule.Directive ∷ [])
    ∷ (Expand rule.StructDef ∷ [])
    ∷ (Expand rule.GlobalDef ∷ [])
    ∷ (Take kind.Static Skip ∷ Expand rule.GlobalDef ∷ [])
    ∷ (Expand rule.MutexDef ∷ [])
    ∷ (Take kind.Static Skip ∷ Expand rule.MutexDef ∷ [])
    ∷ (Expand rule.FunctionDef ∷ [])
    ∷ (Take kind.Static Skip ∷ Expand rule.FunctionDef ∷ [])
    ∷ []
-- Directive [Program -> Program] = INCLUDE | DEFINE$ @DefineItem
alternatives rule.Directive =
    (Take kind.Include Skip ∷ [])
    ∷ (Take kind.Define Keep ∷ Act action.DefineItem ∷ [])
    ∷ []
-- StructDef [Program -> Program] = "struct" NAME$ "{"+ @NoFields Fields "}" @Leave ";" @StructItem
alternatives rule.StructDef =
    (Take kind.Struct Skip ∷ Take kind.Name Keep ∷ Take kind.LeftBrace Open ∷ Act action.NoFields ∷ Expand rule.Fields ∷ Take kind.RightBrace Skip ∷ Act action.Leave ∷ Take kind.Semicolon Skip ∷ Act action.StructItem ∷ [])
    ∷ []
-- Fields [Fields -> Fields] = Type NAME$ ";" @MoreField Fields |
alternatives rule.Fields =
    (Expand rule.Type ∷ Take kind.Name Keep ∷ Take kind.Semicolon Skip ∷ Act action.MoreField ∷ Expand rule.Fields ∷ [])
    ∷ []
    ∷ []
-- Type [-> Ty] = "int" @IntType | "pthread_t" @ThreadType | "void" "*" @AnyType | "struct" NAME$ "*" @PtrType
alternatives rule.Type =
    (Take kind.Int Skip ∷ Act action.IntType ∷ [])
    ∷ (Take kind.Thread Skip ∷ Act action.ThreadType ∷ [])
    ∷ (Take kind.Void Skip ∷ Take kind.Star Skip ∷ Act action.AnyType ∷ [])
    ∷ (Take kind.Struct Skip ∷ Take kind.Name Keep ∷ Take kind.Star Skip ∷ Act action.PtrType ∷ [])
    ∷ []
-- GlobalDef [Program -> Program] = Type NAME$ GlobalRest
alternatives rule.GlobalDef =
    (Expand rule.Type ∷ Take kind.Name Keep ∷ Expand rule.GlobalRest ∷ [])
    ∷ []
-- GlobalRest [Program Ty Word -> Program] = "["+ Count "]" @Leave ";" @ArrayItem | "=" Const ";" @InitItem | ";" @PlainItem
alternatives rule.GlobalRest =
    (Take kind.LeftBracket Open ∷ Expand rule.Count ∷ Take kind.RightBracket Skip ∷ Act action.Leave ∷ Take kind.Semicolon Skip ∷ Act action.ArrayItem ∷ [])
    ∷ (Take kind.Equal Skip ∷ Expand rule.Const ∷ Take kind.Semicolon Skip ∷ Act action.InitItem ∷ [])
    ∷ (Take kind.Semicolon Skip ∷ Act action.PlainItem ∷ [])
    ∷ []
-- Count [-> Count] = NUMBER$ @NumberCount | NAME$ @NameCount
alternatives rule.Count =
    (Take kind.Number Keep ∷ Act action.NumberCount ∷ [])
    ∷ (Take kind.Name Keep ∷ Act action.NameCount ∷ [])
    ∷ []
-- Const [-> Const] = "-"$ NUMBER$ @MinusConst | NUMBER$ @NumberConst | CHAR$ @NumberConst | NAME$ @NameConst | "NULL"$ @NullConst | "EOF"$ @EofConst
alternatives rule.Const =
    (Take kind.Minus Keep ∷ Take kind.Number Keep ∷ Act action.MinusConst ∷ [])
    ∷ (Take kind.Number Keep ∷ Act action.NumberConst ∷ [])
    ∷ (Take kind.Char Keep ∷ Act action.NumberConst ∷ [])
    ∷ (Take kind.Name Keep ∷ Act action.NameConst ∷ [])
    ∷ (Take kind.Null Keep ∷ Act action.NullConst ∷ [])
    ∷ (Take kind.Eof Keep ∷ Act action.EofConst ∷ [])
    ∷ []
-- MutexDef [Program -> Program] = "pthread_mutex_t" Mutex
alternatives rule.MutexDef =
    (Take kind.Mutex Skip ∷ Expand rule.Mutex ∷ [])
    ∷ []
-- Mutex [Program -> Program] = NAME$ MutexInit ";" @MutexItem
alternatives rule.Mutex =
    (Take kind.Name Keep ∷ Expand rule.MutexInit ∷ Take kind.Semicolon Skip ∷ Act action.MutexItem ∷ [])
    ∷ []
-- MutexInit [->] = "=" "PTHREAD_MUTEX_INITIALIZER" |
alternatives rule.MutexInit =
    (Take kind.Equal Skip ∷ Take kind.Initializer Skip ∷ [])
    ∷ []
    ∷ []
-- FunctionDef [Program -> Program] = Type NAME$ "("+ Params ")" @Leave Body | "void" @VoidType NAME$ "("+ Params ")" @Leave Body
alternatives rule.FunctionDef =
    (Expand rule.Type ∷ Take kind.Name Keep ∷ Take kind.LeftParen Open ∷ Expand rule.Params ∷ Take kind.RightParen Skip ∷ Act action.Leave ∷ Expand rule.Body ∷ [])
    ∷ (Take kind.Void Skip ∷ Act action.VoidType ∷ Take kind.Name Keep ∷ Take kind.LeftParen Open ∷ Expand rule.Params ∷ Take kind.RightParen Skip ∷ Act action.Leave ∷ Expand rule.Body ∷ [])
    ∷ []
-- Params [-> Fields] = "void" @NoFields | Type NAME$ @OneField MoreParams | @NoFields
alternatives rule.Params =
    (Take kind.Void Skip ∷ Act action.NoFields ∷ [])
    ∷ (Expand rule.Type ∷ Take kind.Name Keep ∷ Act action.OneField ∷ Expand rule.MoreParams ∷ [])
    ∷ (Act action.NoFields ∷ [])
    ∷ []
-- MoreParams [Fields -> Fields] = "," Type NAME$ @MoreField MoreParams |
alternatives rule.MoreParams =
    (Take kind.Comma Skip ∷ Expand rule.Type ∷ Take kind.Name Keep ∷ Act action.MoreField ∷ Expand rule.MoreParams ∷ [])
    ∷ []
    ∷ []
-- Body [Program Ty Word Fields -> Program] = Block @FunctionItem | ";" @PrototypeItem
alternatives rule.Body =
    (Expand rule.Block ∷ Act action.FunctionItem ∷ [])
    ∷ (Take kind.Semicolon Skip ∷ Act action.PrototypeItem ∷ [])
    ∷ []
-- Block [-> Word Stmts] = "{"$+ @NoStmts BlockItems "}" @Leave
alternatives rule.Block =
    (Take kind.LeftBrace OpenKeep ∷ Act action.NoStmts ∷ Expand rule.BlockItems ∷ Take kind.RightBrace Skip ∷ Act action.Leave ∷ [])
    ∷ []
-- BlockItems [Stmts -> Stmts] = Decl ";" BlockItems | Stmt @MoreStmt BlockItems |
alternatives rule.BlockItems =
    (Expand rule.Decl ∷ Take kind.Semicolon Skip ∷ Expand rule.BlockItems ∷ [])
    ∷ (Expand rule.Stmt ∷ Act action.MoreStmt ∷ Expand rule.BlockItems ∷ [])
    ∷ []
    ∷ []
-- Decl [Stmts -> Stmts] = "int" @IntType IntItem IntItems @EndDecl | "pthread_t" @ThreadType IntItem IntItems @EndDecl | "void" @AnyType PtrItem PtrItems @EndDecl | "struct" NAME$ @PtrType PtrItem PtrItems @EndDecl
alternatives rule.Decl =
    (Take kind.Int Skip ∷ Act action.IntType ∷ Expand rule.IntItem ∷ Expand rule.IntItems ∷ Act action.EndDecl ∷ [])
    ∷ (Take kind.Thread Skip ∷ Act action.ThreadType ∷ Expand rule.IntItem ∷ Expand rule.IntItems ∷ Act action.EndDecl ∷ [])
    ∷ (Take kind.Void Skip ∷ Act action.AnyType ∷ Expand rule.PtrItem ∷ Expand rule.PtrItems ∷ Act action.EndDecl ∷ [])
    ∷ (Take kind.Struct Skip ∷ Take kind.Name Keep ∷ Act action.PtrType ∷ Expand rule.PtrItem ∷ Expand rule.PtrItems ∷ Act action.EndDecl ∷ [])
    ∷ []
-- IntItem [Stmts Ty -> Stmts Ty] = NAME$ Init @DeclItem
alternatives rule.IntItem =
    (Take kind.Name Keep ∷ Expand rule.Init ∷ Act action.DeclItem ∷ [])
    ∷ []
-- IntItems [Stmts Ty -> Stmts Ty] = "," IntItem IntItems |
alternatives rule.IntItems =
    (Take kind.Comma Skip ∷ Expand rule.IntItem ∷ Expand rule.IntItems ∷ [])
    ∷ []
    ∷ []
-- PtrItem [Stmts Ty -> Stmts Ty] = "*" NAME$ Init @DeclItem
alternatives rule.PtrItem =
    (Take kind.Star Skip ∷ Take kind.Name Keep ∷ Expand rule.Init ∷ Act action.DeclItem ∷ [])
    ∷ []
-- PtrItems [Stmts Ty -> Stmts Ty] = "," PtrItem PtrItems |
alternatives rule.PtrItems =
    (Take kind.Comma Skip ∷ Expand rule.PtrItem ∷ Expand rule.PtrItems ∷ [])
    ∷ []
    ∷ []
-- Init [-> MaybeExpr] = "=" @Outer Expr @SomeExpr | @NoExpr
alternatives rule.Init =
    (Take kind.Equal Skip ∷ Act action.Outer ∷ Expand rule.Expr ∷ Act action.SomeExpr ∷ [])
    ∷ (Act action.NoExpr ∷ [])
    ∷ []
-- Stmt [-> Stmt] = Block @BlockStmt | ";"$ @EmptyStmt | "if"$ "("+ @Outer Expr ")" Stmt @Leave ElsePart | "while"$ "("+ @Outer Expr ")" Stmt @Leave @While | "for"$ "("+ @NoStmts ForInit ";" OptExpr ";" OptSimple ")" Stmt @Leave @For | "break"$ ";" @Break | "continue"$ ";" @Continue | "return"$ OptExpr ";" @Return | @Outer Simple ";"
alternatives rule.Stmt =
    (Expand rule.Block ∷ Act action.BlockStmt ∷ [])
    ∷ (Take kind.Semicolon Keep ∷ Act action.EmptyStmt ∷ [])
    ∷ (Take kind.If Keep ∷ Take kind.LeftParen Open ∷ Act action.Outer ∷ Expand rule.Expr ∷ Take kind.RightParen Skip ∷ Expand rule.Stmt ∷ Act action.Leave ∷ Expand rule.ElsePart ∷ [])
    ∷ (Take kind.While Keep ∷ Take kind.LeftParen Open ∷ Act action.Outer ∷ Expand rule.Expr ∷ Take kind.RightParen Skip ∷ Expand rule.Stmt ∷ Act action.Leave ∷ Act action.While ∷ [])
    ∷ (Take kind.For Keep ∷ Take kind.LeftParen Open ∷ Act action.NoStmts ∷ Expand rule.ForInit ∷ Take kind.Semicolon Skip ∷ Expand rule.OptExpr ∷ Take kind.Semicolon Skip ∷ Expand rule.OptSimple ∷ Take kind.RightParen Skip ∷ Expand rule.Stmt ∷ Act action.Leave ∷ Act action.For ∷ [])
    ∷ (Take kind.Break Keep ∷ Take kind.Semicolon Skip ∷ Act action.Break ∷ [])
    ∷ (Take kind.Continue Keep ∷ Take kind.Semicolon Skip ∷ Act action.Continue ∷ [])
    ∷ (Take kind.Return Keep ∷ Expand rule.OptExpr ∷ Take kind.Semicolon Skip ∷ Act action.Return ∷ [])
    ∷ (Act action.Outer ∷ Expand rule.Simple ∷ Take kind.Semicolon Skip ∷ [])
    ∷ []
-- ElsePart [Word Operand Stmt -> Stmt] = "else"+ Stmt @Leave @IfElse | !"else" @If
alternatives rule.ElsePart =
    (Take kind.Else Open ∷ Expand rule.Stmt ∷ Act action.Leave ∷ Act action.IfElse ∷ [])
    ∷ (Unless kind.Else ∷ Act action.If ∷ [])
    ∷ []
-- ForInit [Stmts -> Stmts] = Decl | @Outer Simple @MoreStmt |
alternatives rule.ForInit =
    (Expand rule.Decl ∷ [])
    ∷ (Act action.Outer ∷ Expand rule.Simple ∷ Act action.MoreStmt ∷ [])
    ∷ []
    ∷ []
-- OptExpr [-> MaybeExpr] = @Outer Expr @SomeExpr | @NoExpr
alternatives rule.OptExpr =
    (Act action.Outer ∷ Expand rule.Expr ∷ Act action.SomeExpr ∷ [])
    ∷ (Act action.NoExpr ∷ [])
    ∷ []
-- OptSimple [-> MaybeStmt] = @Outer Simple @SomeStmt | @NoStmt
alternatives rule.OptSimple =
    (Act action.Outer ∷ Expand rule.Simple ∷ Act action.SomeStmt ∷ [])
    ∷ (Act action.NoStmt ∷ [])
    ∷ []
-- Simple [-> Stmt] = Lvalue Asgop @Outer Expr @Assign | Lvalue Incdec @Post | Call @Run | PreOp Lvalue @Leave @Pre | "free"$ "("+ Expr ")" @Leave @Free | "printf"$ "("+ STRING$ @NoArgs PrintArgs ")" @Leave @Print
alternatives rule.Simple =
    (Expand rule.Lvalue ∷ Expand rule.Asgop ∷ Act action.Outer ∷ Expand rule.Expr ∷ Act action.Assign ∷ [])
    ∷ (Expand rule.Lvalue ∷ Expand rule.Incdec ∷ Act action.Post ∷ [])
    ∷ (Expand rule.Call ∷ Act action.Run ∷ [])
    ∷ (Expand rule.PreOp ∷ Expand rule.Lvalue ∷ Act action.Leave ∷ Act action.Pre ∷ [])
    ∷ (Take kind.Free Keep ∷ Take kind.LeftParen Open ∷ Expand rule.Expr ∷ Take kind.RightParen Skip ∷ Act action.Leave ∷ Act action.Free ∷ [])
    ∷ (Take kind.Printf Keep ∷ Take kind.LeftParen Open ∷ Take kind.String Keep ∷ Act action.NoArgs ∷ Expand rule.PrintArgs ∷ Take kind.RightParen Skip ∷ Act action.Leave ∷ Act action.Print ∷ [])
    ∷ []
-- PrintArgs [Exprs -> Exprs] = "," @Outer Expr @MoreArg PrintArgs |
alternatives rule.PrintArgs =
    (Take kind.Comma Skip ∷ Act action.Outer ∷ Expand rule.Expr ∷ Act action.MoreArg ∷ Expand rule.PrintArgs ∷ [])
    ∷ []
    ∷ []
-- Asgop [-> Word] = "="$ | "+="$ | "-="$ | "*="$ | "/="$ | "%="$ | "&="$ | "^="$ | "|="$ | "<<="$ | ">>="$
alternatives rule.Asgop =
    (Take kind.Equal Keep ∷ [])
    ∷ (Take kind.PlusEqual Keep ∷ [])
    ∷ (Take kind.MinusEqual Keep ∷ [])
    ∷ (Take kind.StarEqual Keep ∷ [])
    ∷ (Take kind.SlashEqual Keep ∷ [])
    ∷ (Take kind.PercentEqual Keep ∷ [])
    ∷ (Take kind.AndEqual Keep ∷ [])
    ∷ (Take kind.XorEqual Keep ∷ [])
    ∷ (Take kind.OrEqual Keep ∷ [])
    ∷ (Take kind.ShiftLeftEqual Keep ∷ [])
    ∷ (Take kind.ShiftRightEqual Keep ∷ [])
    ∷ []
-- Incdec [-> Word] = "++"$ | "--"$
alternatives rule.Incdec =
    (Take kind.PlusPlus Keep ∷ [])
    ∷ (Take kind.MinusMinus Keep ∷ [])
    ∷ []
-- PreOp [-> Word] = "++"$+ | "--"$+
alternatives rule.PreOp =
    (Take kind.PlusPlus OpenKeep ∷ [])
    ∷ (Take kind.MinusMinus OpenKeep ∷ [])
    ∷ []
-- Lvalue [-> Operand] = NAME$ @NameExpr | NAME$ "["+ Expr "]" @Leave @Index | Postfix "->"# NAME$ @Field
alternatives rule.Lvalue =
    (Take kind.Name Keep ∷ Act action.NameExpr ∷ [])
    ∷ (Take kind.Name Keep ∷ Take kind.LeftBracket Open ∷ Expand rule.Expr ∷ Take kind.RightBracket Skip ∷ Act action.Leave ∷ Act action.Index ∷ [])
    ∷ (Expand rule.Postfix ∷ Take kind.Arrow Count ∷ Take kind.Name Keep ∷ Act action.Field ∷ [])
    ∷ []
-- Call [-> Operand] = NAME$ "("+ Args ")" @Leave @Call | WordCall
alternatives rule.Call =
    (Take kind.Name Keep ∷ Take kind.LeftParen Open ∷ Expand rule.Args ∷ Take kind.RightParen Skip ∷ Act action.Leave ∷ Act action.Call ∷ [])
    ∷ (Expand rule.WordCall ∷ [])
    ∷ []
-- WordCall [-> Operand] = "malloc"$ MallocRest | "getchar"$ "("+ ")" @Leave @Getchar | "pthread_create"$ CreateRest | "pthread_join"$ JoinRest | "pthread_mutex_lock"$ LockRest @Lock | "pthread_mutex_unlock"$ LockRest @Unlock
alternatives rule.WordCall =
    (Take kind.Malloc Keep ∷ Expand rule.MallocRest ∷ [])
    ∷ (Take kind.Getchar Keep ∷ Take kind.LeftParen Open ∷ Take kind.RightParen Skip ∷ Act action.Leave ∷ Act action.Getchar ∷ [])
    ∷ (Take kind.Create Keep ∷ Expand rule.CreateRest ∷ [])
    ∷ (Take kind.Join Keep ∷ Expand rule.JoinRest ∷ [])
    ∷ (Take kind.Lock Keep ∷ Expand rule.LockRest ∷ Act action.Lock ∷ [])
    ∷ (Take kind.Unlock Keep ∷ Expand rule.LockRest ∷ Act action.Unlock ∷ [])
    ∷ []
-- MallocRest [Word -> Operand] = "("+ "sizeof" "("+ "struct" NAME$ ")" @Leave ")" @Leave @Malloc
alternatives rule.MallocRest =
    (Take kind.LeftParen Open ∷ Take kind.Sizeof Skip ∷ Take kind.LeftParen Open ∷ Take kind.Struct Skip ∷ Take kind.Name Keep ∷ Take kind.RightParen Skip ∷ Act action.Leave ∷ Take kind.RightParen Skip ∷ Act action.Leave ∷ Act action.Malloc ∷ [])
    ∷ []
-- CreateRest [Word -> Operand] = "("+ "&" Lvalue "," "NULL" "," NAME$ "," Expr ")" @Leave @Create
alternatives rule.CreateRest =
    (Take kind.LeftParen Open ∷ Take kind.And Skip ∷ Expand rule.Lvalue ∷ Take kind.Comma Skip ∷ Take kind.Null Skip ∷ Take kind.Comma Skip ∷ Take kind.Name Keep ∷ Take kind.Comma Skip ∷ Expand rule.Expr ∷ Take kind.RightParen Skip ∷ Act action.Leave ∷ Act action.Create ∷ [])
    ∷ []
-- JoinRest [Word -> Operand] = "("+ Expr "," "NULL" ")" @Leave @Join
alternatives rule.JoinRest =
    (Take kind.LeftParen Open ∷ Expand rule.Expr ∷ Take kind.Comma Skip ∷ Take kind.Null Skip ∷ Take kind.RightParen Skip ∷ Act action.Leave ∷ Act action.Join ∷ [])
    ∷ []
-- LockRest [-> Word] = "("+ "&" NAME$ ")" @Leave
alternatives rule.LockRest =
    (Take kind.LeftParen Open ∷ Take kind.And Skip ∷ Take kind.Name Keep ∷ Take kind.RightParen Skip ∷ Act action.Leave ∷ [])
    ∷ []
-- Args [-> Exprs] = Expr @OneArg MoreArgs | @NoArgs
alternatives rule.Args =
    (Expand rule.Expr ∷ Act action.OneArg ∷ Expand rule.MoreArgs ∷ [])
    ∷ (Act action.NoArgs ∷ [])
    ∷ []
-- MoreArgs [Exprs -> Exprs] = "," Expr @MoreArg MoreArgs |
alternatives rule.MoreArgs =
    (Take kind.Comma Skip ∷ Expand rule.Expr ∷ Act action.MoreArg ∷ Expand rule.MoreArgs ∷ [])
    ∷ []
    ∷ []
-- Postfix [-> Operand] = Primary Arrows
alternatives rule.Postfix =
    (Expand rule.Primary ∷ Expand rule.Arrows ∷ [])
    ∷ []
-- Arrows [Operand -> Operand] = "->"# NAME$ @Field Arrows |
alternatives rule.Arrows =
    (Take kind.Arrow Count ∷ Take kind.Name Keep ∷ Act action.Field ∷ Expand rule.Arrows ∷ [])
    ∷ []
    ∷ []
-- Primary [-> Operand] = Constant | NAME$ @NameExpr | NAME$ "["+ Expr "]" @Leave @Index | Call | "("$+ Expr ")" @Leave @Group
alternatives rule.Primary =
    (Expand rule.Constant ∷ [])
    ∷ (Take kind.Name Keep ∷ Act action.NameExpr ∷ [])
    ∷ (Take kind.Name Keep ∷ Take kind.LeftBracket Open ∷ Expand rule.Expr ∷ Take kind.RightBracket Skip ∷ Act action.Leave ∷ Act action.Index ∷ [])
    ∷ (Expand rule.Call ∷ [])
    ∷ (Take kind.LeftParen OpenKeep ∷ Expand rule.Expr ∷ Take kind.RightParen Skip ∷ Act action.Leave ∷ Act action.Group ∷ [])
    ∷ []
-- Constant [-> Operand] = NUMBER$ @Num | CHAR$ @Num | "NULL"$ @NullExpr | "EOF"$ @EofExpr
alternatives rule.Constant =
    (Take kind.Number Keep ∷ Act action.Num ∷ [])
    ∷ (Take kind.Char Keep ∷ Act action.Num ∷ [])
    ∷ (Take kind.Null Keep ∷ Act action.NullExpr ∷ [])
    ∷ (Take kind.Eof Keep ∷ Act action.EofExpr ∷ [])
    ∷ []
-- Unary [-> Operand] = UnOp Unary @Leave @Un | "("$+ CastType ")" Unary @Leave @Cast | Postfix
alternatives rule.Unary =
    (Expand rule.UnOp ∷ Expand rule.Unary ∷ Act action.Leave ∷ Act action.Un ∷ [])
    ∷ (Take kind.LeftParen OpenKeep ∷ Expand rule.CastType ∷ Take kind.RightParen Skip ∷ Expand rule.Unary ∷ Act action.Leave ∷ Act action.Cast ∷ [])
    ∷ (Expand rule.Postfix ∷ [])
    ∷ []
-- UnOp [-> Word] = "-"$+ | "!"$+ | "~"$+
alternatives rule.UnOp =
    (Take kind.Minus OpenKeep ∷ [])
    ∷ (Take kind.Bang OpenKeep ∷ [])
    ∷ (Take kind.Tilde OpenKeep ∷ [])
    ∷ []
-- CastType [-> Ty] = "struct" NAME$ "*" @PtrType | "void" "*" @AnyType
alternatives rule.CastType =
    (Take kind.Struct Skip ∷ Take kind.Name Keep ∷ Take kind.Star Skip ∷ Act action.PtrType ∷ [])
    ∷ (Take kind.Void Skip ∷ Take kind.Star Skip ∷ Act action.AnyType ∷ [])
    ∷ []
-- MapUnary [-> Operand] = UnOp MapUnary @Leave @Un | Constant MapArrows | "("$+ MapExpr ")" @Leave @Group MapArrows | AnyName MapName MapArrows | "."$ NUMBER$ @TempSlot MapArrows
alternatives rule.MapUnary =
    (Expand rule.UnOp ∷ Expand rule.MapUnary ∷ Act action.Leave ∷ Act action.Un ∷ [])
    ∷ (Expand rule.Constant ∷ Expand rule.MapArrows ∷ [])
    ∷ (Take kind.LeftParen OpenKeep ∷ Expand rule.MapExpr ∷ Take kind.RightParen Skip ∷ Act action.Leave ∷ Act action.Group ∷ Expand rule.MapArrows ∷ [])
    ∷ (Expand rule.AnyName ∷ Expand rule.MapName ∷ Expand rule.MapArrows ∷ [])
    ∷ (Take kind.Dot Keep ∷ Take kind.Number Keep ∷ Act action.TempSlot ∷ Expand rule.MapArrows ∷ [])
    ∷ []
-- MapName [Word -> Operand] = "["+ MapExpr "]" @Leave @Index | "." NUMBER$ @HiddenSlot | @NameExpr
alternatives rule.MapName =
    (Take kind.LeftBracket Open ∷ Expand rule.MapExpr ∷ Take kind.RightBracket Skip ∷ Act action.Leave ∷ Act action.Index ∷ [])
    ∷ (Take kind.Dot Skip ∷ Take kind.Number Keep ∷ Act action.HiddenSlot ∷ [])
    ∷ (Act action.NameExpr ∷ [])
    ∷ []
-- MapArrows [Operand -> Operand] = "->"# AnyName @Field MapArrows |
alternatives rule.MapArrows =
    (Take kind.Arrow Count ∷ Expand rule.AnyName ∷ Act action.Field ∷ Expand rule.MapArrows ∷ [])
    ∷ []
    ∷ []
-- AnyName [-> Word] = NewName | "none"$
alternatives rule.AnyName =
    (Expand rule.NewName ∷ [])
    ∷ (Take kind.NoneWord Keep ∷ [])
    ∷ []
-- NewName [-> Word] = NAME$ | "function"$ | "global"$ | "mutex"$ | "field"$ | "init"$ | "point"$ | "check"$ | "entry"$ | "loop"$ | "call"$ | "block"$
alternatives rule.NewName =
    (Take kind.Name Keep ∷ [])
    ∷ (Take kind.FunctionWord Keep ∷ [])
    ∷ (Take kind.GlobalWord Keep ∷ [])
    ∷ (Take kind.MutexWord Keep ∷ [])
    ∷ (Take kind.FieldWord Keep ∷ [])
    ∷ (Take kind.InitWord Keep ∷ [])
    ∷ (Take kind.PointWord Keep ∷ [])
    ∷ (Take kind.CheckWord Keep ∷ [])
    ∷ (Take kind.EntryWord Keep ∷ [])
    ∷ (Take kind.LoopWord Keep ∷ [])
    ∷ (Take kind.CallWord Keep ∷ [])
    ∷ (Take kind.BlockWord Keep ∷ [])
    ∷ []
-- Entries [Mapping -> Mapping] = Entry ";" Entries |
alternatives rule.Entries =
    (Expand rule.Entry ∷ Take kind.Semicolon Skip ∷ Expand rule.Entries ∷ [])
    ∷ []
    ∷ []
-- Entry [Mapping -> Mapping] = OtherEntry | "point"$ AnyName Pt "->" Parts @PointEntry
alternatives rule.Entry =
    (Expand rule.OtherEntry ∷ [])
    ∷ (Take kind.PointWord Keep ∷ Expand rule.AnyName ∷ Expand rule.Pt ∷ Take kind.Arrow Skip ∷ Expand rule.Parts ∷ Act action.PointEntry ∷ [])
    ∷ []
-- OtherEntry [Mapping -> Mapping] = Side AnyName "->" Target | "field"$ AnyName "." AnyName "=" @Outer MapExpr @FieldEntry | "init"$ AnyName "=" @Outer MapExpr @InitEntry | "check"$ @Outer MapExpr @CheckEntry
alternatives rule.OtherEntry =
    (Expand rule.Side ∷ Expand rule.AnyName ∷ Take kind.Arrow Skip ∷ Expand rule.Target ∷ [])
    ∷ (Take kind.FieldWord Keep ∷ Expand rule.AnyName ∷ Take kind.Dot Skip ∷ Expand rule.AnyName ∷ Take kind.Equal Skip ∷ Act action.Outer ∷ Expand rule.MapExpr ∷ Act action.FieldEntry ∷ [])
    ∷ (Take kind.InitWord Keep ∷ Expand rule.AnyName ∷ Take kind.Equal Skip ∷ Act action.Outer ∷ Expand rule.MapExpr ∷ Act action.InitEntry ∷ [])
    ∷ (Take kind.CheckWord Keep ∷ Act action.Outer ∷ Expand rule.MapExpr ∷ Act action.CheckEntry ∷ [])
    ∷ []
-- Side [-> Word] = "function"$ | "struct"$ | "global"$ | "mutex"$
alternatives rule.Side =
    (Take kind.FunctionWord Keep ∷ [])
    ∷ (Take kind.Struct Keep ∷ [])
    ∷ (Take kind.GlobalWord Keep ∷ [])
    ∷ (Take kind.MutexWord Keep ∷ [])
    ∷ []
-- Target [Mapping Word Word -> Mapping] = NewName @MatchEntry | "none" @UnmatchedEntry
alternatives rule.Target =
    (Expand rule.NewName ∷ Act action.MatchEntry ∷ [])
    ∷ (Take kind.NoneWord Skip ∷ Act action.UnmatchedEntry ∷ [])
    ∷ []
-- Pt [-> Pt] = "entry" @EntryPt | PtWord NUMBER$ @NumberPt
alternatives rule.Pt =
    (Take kind.EntryWord Skip ∷ Act action.EntryPt ∷ [])
    ∷ (Expand rule.PtWord ∷ Take kind.Number Keep ∷ Act action.NumberPt ∷ [])
    ∷ []
-- PtWord [-> Word] = "loop"$ | "call"$ | "block"$
alternatives rule.PtWord =
    (Take kind.LoopWord Keep ∷ [])
    ∷ (Take kind.CallWord Keep ∷ [])
    ∷ (Take kind.BlockWord Keep ∷ [])
    ∷ []
-- Fills [-> Fills] = "{" @NoFills FillList "}" | @NoFills
alternatives rule.Fills =
    (Take kind.LeftBrace Skip ∷ Act action.NoFills ∷ Expand rule.FillList ∷ Take kind.RightBrace Skip ∷ [])
    ∷ (Act action.NoFills ∷ [])
    ∷ []
-- FillList [Fills -> Fills] = FillName "=" @Outer MapExpr ";" @MoreFill FillList |
alternatives rule.FillList =
    (Expand rule.FillName ∷ Take kind.Equal Skip ∷ Act action.Outer ∷ Expand rule.MapExpr ∷ Take kind.Semicolon Skip ∷ Act action.MoreFill ∷ Expand rule.FillList ∷ [])
    ∷ []
    ∷ []
-- FillName [-> Word] = AnyName FillNumber | "." NUMBER$ @TempName
alternatives rule.FillName =
    (Expand rule.AnyName ∷ Expand rule.FillNumber ∷ [])
    ∷ (Take kind.Dot Skip ∷ Take kind.Number Keep ∷ Act action.TempName ∷ [])
    ∷ []
-- FillNumber [Word -> Word] = "." NUMBER$ @HiddenName |
alternatives rule.FillNumber =
    (Take kind.Dot Skip ∷ Take kind.Number Keep ∷ Act action.HiddenName ∷ [])
    ∷ []
    ∷ []
-- Parts [-> Parts] = Pt Fills SecondPart
alternatives rule.Parts =
    (Expand rule.Pt ∷ Expand rule.Fills ∷ Expand rule.SecondPart ∷ [])
    ∷ []
-- SecondPart [Pt Fills -> Parts] = "+" AddedPart ThirdPart | @OnePart
alternatives rule.SecondPart =
    (Take kind.Plus Skip ∷ Expand rule.AddedPart ∷ Expand rule.ThirdPart ∷ [])
    ∷ (Act action.OnePart ∷ [])
    ∷ []
-- ThirdPart [Pt Fills Part -> Parts] = "+" AddedPart FourthPart | @TwoParts
alternatives rule.ThirdPart =
    (Take kind.Plus Skip ∷ Expand rule.AddedPart ∷ Expand rule.FourthPart ∷ [])
    ∷ (Act action.TwoParts ∷ [])
    ∷ []
-- FourthPart [Pt Fills Part Part -> Parts] = "+" AddedPart @FourParts | @ThreeParts
alternatives rule.FourthPart =
    (Take kind.Plus Skip ∷ Expand rule.AddedPart ∷ Act action.FourParts ∷ [])
    ∷ (Act action.ThreeParts ∷ [])
    ∷ []
-- AddedPart [-> Part] = AnyName Pt Fills @AddPart
alternatives rule.AddedPart =
    (Expand rule.AnyName ∷ Expand rule.Pt ∷ Expand rule.Fills ∷ Act action.AddPart ∷ [])
    ∷ []
-- FirstEntries [Mapping -> Mapping] = FirstEntry ";" FirstEntries |
alternatives rule.FirstEntries =
    (Expand rule.FirstEntry ∷ Take kind.Semicolon Skip ∷ Expand rule.FirstEntries ∷ [])
    ∷ []
    ∷ []
-- FirstEntry [Mapping -> Mapping] = OtherEntry | "point"$ AnyName Pt "->" OnlyPart @PointEntry
alternatives rule.FirstEntry =
    (Expand rule.OtherEntry ∷ [])
    ∷ (Take kind.PointWord Keep ∷ Expand rule.AnyName ∷ Expand rule.Pt ∷ Take kind.Arrow Skip ∷ Expand rule.OnlyPart ∷ Act action.PointEntry ∷ [])
    ∷ []
-- OnlyPart [-> Parts] = Pt Fills @OnePart
alternatives rule.OnlyPart =
    (Expand rule.Pt ∷ Expand rule.Fills ∷ Act action.OnePart ∷ [])
    ∷ []
-- Mul [-> Operand] = Unary MulTail
alternatives rule.Mul =
    (Expand rule.Unary ∷ Expand rule.MulTail ∷ [])
    ∷ []
-- MulTail [Operand -> Operand] = MulOp Unary @Bin MulTail |
alternatives rule.MulTail =
    (Expand rule.MulOp ∷ Expand rule.Unary ∷ Act action.Bin ∷ Expand rule.MulTail ∷ [])
    ∷ []
    ∷ []
-- Add [-> Operand] = Mul AddTail
alternatives rule.Add =
    (Expand rule.Mul ∷ Expand rule.AddTail ∷ [])
    ∷ []
-- AddTail [Operand -> Operand] = AddOp Mul @Bin AddTail |
alternatives rule.AddTail =
    (Expand rule.AddOp ∷ Expand rule.Mul ∷ Act action.Bin ∷ Expand rule.AddTail ∷ [])
    ∷ []
    ∷ []
-- Shift [-> Operand] = Add ShiftTail
alternatives rule.Shift =
    (Expand rule.Add ∷ Expand rule.ShiftTail ∷ [])
    ∷ []
-- ShiftTail [Operand -> Operand] = ShiftOp Add @Bin ShiftTail |
alternatives rule.ShiftTail =
    (Expand rule.ShiftOp ∷ Expand rule.Add ∷ Act action.Bin ∷ Expand rule.ShiftTail ∷ [])
    ∷ []
    ∷ []
-- Order [-> Operand] = Shift OrderTail
alternatives rule.Order =
    (Expand rule.Shift ∷ Expand rule.OrderTail ∷ [])
    ∷ []
-- OrderTail [Operand -> Operand] = OrderOp Shift @Bin OrderTail |
alternatives rule.OrderTail =
    (Expand rule.OrderOp ∷ Expand rule.Shift ∷ Act action.Bin ∷ Expand rule.OrderTail ∷ [])
    ∷ []
    ∷ []
-- Equal [-> Operand] = Order EqualTail
alternatives rule.Equal =
    (Expand rule.Order ∷ Expand rule.EqualTail ∷ [])
    ∷ []
-- EqualTail [Operand -> Operand] = EqualOp Order @Bin EqualTail |
alternatives rule.EqualTail =
    (Expand rule.EqualOp ∷ Expand rule.Order ∷ Act action.Bin ∷ Expand rule.EqualTail ∷ [])
    ∷ []
    ∷ []
-- BitAnd [-> Operand] = Equal BitAndTail
alternatives rule.BitAnd =
    (Expand rule.Equal ∷ Expand rule.BitAndTail ∷ [])
    ∷ []
-- BitAndTail [Operand -> Operand] = BitAndOp Equal @Bin BitAndTail |
alternatives rule.BitAndTail =
    (Expand rule.BitAndOp ∷ Expand rule.Equal ∷ Act action.Bin ∷ Expand rule.BitAndTail ∷ [])
    ∷ []
    ∷ []
-- BitXor [-> Operand] = BitAnd BitXorTail
alternatives rule.BitXor =
    (Expand rule.BitAnd ∷ Expand rule.BitXorTail ∷ [])
    ∷ []
-- BitXorTail [Operand -> Operand] = BitXorOp BitAnd @Bin BitXorTail |
alternatives rule.BitXorTail =
    (Expand rule.BitXorOp ∷ Expand rule.BitAnd ∷ Act action.Bin ∷ Expand rule.BitXorTail ∷ [])
    ∷ []
    ∷ []
-- BitOr [-> Operand] = BitXor BitOrTail
alternatives rule.BitOr =
    (Expand rule.BitXor ∷ Expand rule.BitOrTail ∷ [])
    ∷ []
-- BitOrTail [Operand -> Operand] = BitOrOp BitXor @Bin BitOrTail |
alternatives rule.BitOrTail =
    (Expand rule.BitOrOp ∷ Expand rule.BitXor ∷ Act action.Bin ∷ Expand rule.BitOrTail ∷ [])
    ∷ []
    ∷ []
-- AndAnd [-> Operand] = BitOr AndAndTail
alternatives rule.AndAnd =
    (Expand rule.BitOr ∷ Expand rule.AndAndTail ∷ [])
    ∷ []
-- AndAndTail [Operand -> Operand] = AndAndOp BitOr @Bin AndAndTail |
alternatives rule.AndAndTail =
    (Expand rule.AndAndOp ∷ Expand rule.BitOr ∷ Act action.Bin ∷ Expand rule.AndAndTail ∷ [])
    ∷ []
    ∷ []
-- Expr [-> Operand] = AndAnd ExprTail
alternatives rule.Expr =
    (Expand rule.AndAnd ∷ Expand rule.ExprTail ∷ [])
    ∷ []
-- ExprTail [Operand -> Operand] = OrOrOp AndAnd @Bin ExprTail |
alternatives rule.ExprTail =
    (Expand rule.OrOrOp ∷ Expand rule.AndAnd ∷ Act action.Bin ∷ Expand rule.ExprTail ∷ [])
    ∷ []
    ∷ []
-- MapMul [-> Operand] = MapUnary MapMulTail
alternatives rule.MapMul =
    (Expand rule.MapUnary ∷ Expand rule.MapMulTail ∷ [])
    ∷ []
-- MapMulTail [Operand -> Operand] = MulOp MapUnary @Bin MapMulTail |
alternatives rule.MapMulTail =
    (Expand rule.MulOp ∷ Expand rule.MapUnary ∷ Act action.Bin ∷ Expand rule.MapMulTail ∷ [])
    ∷ []
    ∷ []
-- MapAdd [-> Operand] = MapMul MapAddTail
alternatives rule.MapAdd =
    (Expand rule.MapMul ∷ Expand rule.MapAddTail ∷ [])
    ∷ []
-- MapAddTail [Operand -> Operand] = AddOp MapMul @Bin MapAddTail |
alternatives rule.MapAddTail =
    (Expand rule.AddOp ∷ Expand rule.MapMul ∷ Act action.Bin ∷ Expand rule.MapAddTail ∷ [])
    ∷ []
    ∷ []
-- MapShift [-> Operand] = MapAdd MapShiftTail
alternatives rule.MapShift =
    (Expand rule.MapAdd ∷ Expand rule.MapShiftTail ∷ [])
    ∷ []
-- MapShiftTail [Operand -> Operand] = ShiftOp MapAdd @Bin MapShiftTail |
alternatives rule.MapShiftTail =
    (Expand rule.ShiftOp ∷ Expand rule.MapAdd ∷ Act action.Bin ∷ Expand rule.MapShiftTail ∷ [])
    ∷ []
    ∷ []
-- MapOrder [-> Operand] = MapShift MapOrderTail
alternatives rule.MapOrder =
    (Expand rule.MapShift ∷ Expand rule.MapOrderTail ∷ [])
    ∷ []
-- MapOrderTail [Operand -> Operand] = OrderOp MapShift @Bin MapOrderTail |
alternatives rule.MapOrderTail =
    (Expand rule.OrderOp ∷ Expand rule.MapShift ∷ Act action.Bin ∷ Expand rule.MapOrderTail ∷ [])
    ∷ []
    ∷ []
-- MapEqual [-> Operand] = MapOrder MapEqualTail
alternatives rule.MapEqual =
    (Expand rule.MapOrder ∷ Expand rule.MapEqualTail ∷ [])
    ∷ []
-- MapEqualTail [Operand -> Operand] = EqualOp MapOrder @Bin MapEqualTail |
alternatives rule.MapEqualTail =
    (Expand rule.EqualOp ∷ Expand rule.MapOrder ∷ Act action.Bin ∷ Expand rule.MapEqualTail ∷ [])
    ∷ []
    ∷ []
-- MapBitAnd [-> Operand] = MapEqual MapBitAndTail
alternatives rule.MapBitAnd =
    (Expand rule.MapEqual ∷ Expand rule.MapBitAndTail ∷ [])
    ∷ []
-- MapBitAndTail [Operand -> Operand] = BitAndOp MapEqual @Bin MapBitAndTail |
alternatives rule.MapBitAndTail =
    (Expand rule.BitAndOp ∷ Expand rule.MapEqual ∷ Act action.Bin ∷ Expand rule.MapBitAndTail ∷ [])
    ∷ []
    ∷ []
-- MapBitXor [-> Operand] = MapBitAnd MapBitXorTail
alternatives rule.MapBitXor =
    (Expand rule.MapBitAnd ∷ Expand rule.MapBitXorTail ∷ [])
    ∷ []
-- MapBitXorTail [Operand -> Operand] = BitXorOp MapBitAnd @Bin MapBitXorTail |
alternatives rule.MapBitXorTail =
    (Expand rule.BitXorOp ∷ Expand rule.MapBitAnd ∷ Act action.Bin ∷ Expand rule.MapBitXorTail ∷ [])
    ∷ []
    ∷ []
-- MapBitOr [-> Operand] = MapBitXor MapBitOrTail
alternatives rule.MapBitOr =
    (Expand rule.MapBitXor ∷ Expand rule.MapBitOrTail ∷ [])
    ∷ []
-- MapBitOrTail [Operand -> Operand] = BitOrOp MapBitXor @Bin MapBitOrTail |
alternatives rule.MapBitOrTail =
    (Expand rule.BitOrOp ∷ Expand rule.MapBitXor ∷ Act action.Bin ∷ Expand rule.MapBitOrTail ∷ [])
    ∷ []
    ∷ []
-- MapAndAnd [-> Operand] = MapBitOr MapAndAndTail
alternatives rule.MapAndAnd =
    (Expand rule.MapBitOr ∷ Expand rule.MapAndAndTail ∷ [])
    ∷ []
-- MapAndAndTail [Operand -> Operand] = AndAndOp MapBitOr @Bin MapAndAndTail |
alternatives rule.MapAndAndTail =
    (Expand rule.AndAndOp ∷ Expand rule.MapBitOr ∷ Act action.Bin ∷ Expand rule.MapAndAndTail ∷ [])
    ∷ []
    ∷ []
-- MapExpr [-> Operand] = MapAndAnd MapExprTail
alternatives rule.MapExpr =
    (Expand rule.MapAndAnd ∷ Expand rule.MapExprTail ∷ [])
    ∷ []
-- MapExprTail [Operand -> Operand] = OrOrOp MapAndAnd @Bin MapExprTail |
alternatives rule.MapExprTail =
    (Expand rule.OrOrOp ∷ Expand rule.MapAndAnd ∷ Act action.Bin ∷ Expand rule.MapExprTail ∷ [])
    ∷ []
    ∷ []
-- MulOp [-> Word] = "*"$# | "/"$# | "%"$#
alternatives rule.MulOp =
    (Take kind.Star CountKeep ∷ [])
    ∷ (Take kind.Slash CountKeep ∷ [])
    ∷ (Take kind.Percent CountKeep ∷ [])
    ∷ []
-- AddOp [-> Word] = "+"$# | "-"$#
alternatives rule.AddOp =
    (Take kind.Plus CountKeep ∷ [])
    ∷ (Take kind.Minus CountKeep ∷ [])
    ∷ []
-- ShiftOp [-> Word] = "<<"$# | ">>"$#
alternatives rule.ShiftOp =
    (Take kind.ShiftLeft CountKeep ∷ [])
    ∷ (Take kind.ShiftRight CountKeep ∷ [])
    ∷ []
-- OrderOp [-> Word] = "<"$# | "<="$# | ">"$# | ">="$#
alternatives rule.OrderOp =
    (Take kind.Less CountKeep ∷ [])
    ∷ (Take kind.LessEqual CountKeep ∷ [])
    ∷ (Take kind.Greater CountKeep ∷ [])
    ∷ (Take kind.GreaterEqual CountKeep ∷ [])
    ∷ []
-- EqualOp [-> Word] = "=="$# | "!="$#
alternatives rule.EqualOp =
    (Take kind.EqualEqual CountKeep ∷ [])
    ∷ (Take kind.NotEqual CountKeep ∷ [])
    ∷ []
-- BitAndOp [-> Word] = "&"$#
alternatives rule.BitAndOp =
    (Take kind.And CountKeep ∷ [])
    ∷ []
-- BitXorOp [-> Word] = "^"$#
alternatives rule.BitXorOp =
    (Take kind.Xor CountKeep ∷ [])
    ∷ []
-- BitOrOp [-> Word] = "|"$#
alternatives rule.BitOrOp =
    (Take kind.Or CountKeep ∷ [])
    ∷ []
-- AndAndOp [-> Word] = "&&"$#
alternatives rule.AndAndOp =
    (Take kind.AndAnd CountKeep ∷ [])
    ∷ []
-- OrOrOp [-> Word] = "||"$#
alternatives rule.OrOrOp =
    (Take kind.OrOr CountKeep ∷ [])
    ∷ []
-- StaticItem [Program -> Program] = "struct" NAME$ "*" @PtrType NAME$ Declared | "int" @IntType NAME$ Declared | "pthread_t" @ThreadType NAME$ Declared | "void" AfterVoid | "pthread_mutex_t" Mutex
alternatives rule.StaticItem =
    (Take kind.Struct Skip ∷ Take kind.Name Keep ∷ Take kind.Star Skip ∷ Act action.PtrType ∷ Take kind.Name Keep ∷ Expand rule.Declared ∷ [])
    ∷ (Take kind.Int Skip ∷ Act action.IntType ∷ Take kind.Name Keep ∷ Expand rule.Declared ∷ [])
    ∷ (Take kind.Thread Skip ∷ Act action.ThreadType ∷ Take kind.Name Keep ∷ Expand rule.Declared ∷ [])
    ∷ (Take kind.Void Skip ∷ Expand rule.AfterVoid ∷ [])
    ∷ (Take kind.Mutex Skip ∷ Expand rule.Mutex ∷ [])
    ∷ []
-- AfterStruct [Program Word -> Program] = "{"+ @NoFields Fields "}" @Leave ";" @StructItem | "*" @PtrType NAME$ Declared
alternatives rule.AfterStruct =
    (Take kind.LeftBrace Open ∷ Act action.NoFields ∷ Expand rule.Fields ∷ Take kind.RightBrace Skip ∷ Act action.Leave ∷ Take kind.Semicolon Skip ∷ Act action.StructItem ∷ [])
    ∷ (Take kind.Star Skip ∷ Act action.PtrType ∷ Take kind.Name Keep ∷ Expand rule.Declared ∷ [])
    ∷ []
-- AfterVoid [Program -> Program] = "*" @AnyType NAME$ Declared | @VoidType NAME$ "("+ Params ")" @Leave Body
alternatives rule.AfterVoid =
    (Take kind.Star Skip ∷ Act action.AnyType ∷ Take kind.Name Keep ∷ Expand rule.Declared ∷ [])
    ∷ (Act action.VoidType ∷ Take kind.Name Keep ∷ Take kind.LeftParen Open ∷ Expand rule.Params ∷ Take kind.RightParen Skip ∷ Act action.Leave ∷ Expand rule.Body ∷ [])
    ∷ []
-- Declared [Program Ty Word -> Program] = "("+ Params ")" @Leave Body | GlobalRest
alternatives rule.Declared =
    (Take kind.LeftParen Open ∷ Expand rule.Params ∷ Take kind.RightParen Skip ∷ Act action.Leave ∷ Expand rule.Body ∷ [])
    ∷ (Expand rule.GlobalRest ∷ [])
    ∷ []
-- AfterVoidParam [-> Fields] = "*" @AnyType NAME$ @OneField MoreParams | @NoFields
alternatives rule.AfterVoidParam =
    (Take kind.Star Skip ∷ Act action.AnyType ∷ Take kind.Name Keep ∷ Act action.OneField ∷ Expand rule.MoreParams ∷ [])
    ∷ (Act action.NoFields ∷ [])
    ∷ []
-- AfterName [Word -> Stmt] = @NameExpr AssignTail | @NameExpr FieldTail | "["+ Expr "]" @Leave @Index AfterPlace | "("+ Args ")" @Leave @Call AfterCall
alternatives rule.AfterName =
    (Act action.NameExpr ∷ Expand rule.AssignTail ∷ [])
    ∷ (Act action.NameExpr ∷ Expand rule.FieldTail ∷ [])
    ∷ (Take kind.LeftBracket Open ∷ Expand rule.Expr ∷ Take kind.RightBracket Skip ∷ Act action.Leave ∷ Act action.Index ∷ Expand rule.AfterPlace ∷ [])
    ∷ (Take kind.LeftParen Open ∷ Expand rule.Args ∷ Take kind.RightParen Skip ∷ Act action.Leave ∷ Act action.Call ∷ Expand rule.AfterCall ∷ [])
    ∷ []
-- AssignTail [Operand -> Stmt] = Asgop @Outer Expr @Assign | Incdec @Post
alternatives rule.AssignTail =
    (Expand rule.Asgop ∷ Act action.Outer ∷ Expand rule.Expr ∷ Act action.Assign ∷ [])
    ∷ (Expand rule.Incdec ∷ Act action.Post ∷ [])
    ∷ []
-- AfterPlace [Operand -> Stmt] = AssignTail | FieldTail
alternatives rule.AfterPlace =
    (Expand rule.AssignTail ∷ [])
    ∷ (Expand rule.FieldTail ∷ [])
    ∷ []
-- FieldTail [Operand -> Stmt] = "->"# NAME$ @Field AfterPlace
alternatives rule.FieldTail =
    (Take kind.Arrow Count ∷ Take kind.Name Keep ∷ Act action.Field ∷ Expand rule.AfterPlace ∷ [])
    ∷ []
-- AfterCall [Operand -> Stmt] = FieldTail | @Run
alternatives rule.AfterCall =
    (Expand rule.FieldTail ∷ [])
    ∷ (Act action.Run ∷ [])
    ∷ []
-- LvName [Word -> Operand] = "["+ Expr "]" @Leave @Index Arrows | "("+ Args ")" @Leave @Call LvTail | @NameExpr LvTail | @NameExpr
alternatives rule.LvName =
    (Take kind.LeftBracket Open ∷ Expand rule.Expr ∷ Take kind.RightBracket Skip ∷ Act action.Leave ∷ Act action.Index ∷ Expand rule.Arrows ∷ [])
    ∷ (Take kind.LeftParen Open ∷ Expand rule.Args ∷ Take kind.RightParen Skip ∷ Act action.Leave ∷ Act action.Call ∷ Expand rule.LvTail ∷ [])
    ∷ (Act action.NameExpr ∷ Expand rule.LvTail ∷ [])
    ∷ (Act action.NameExpr ∷ [])
    ∷ []
-- LvTail [Operand -> Operand] = "->"# NAME$ @Field Arrows
alternatives rule.LvTail =
    (Take kind.Arrow Count ∷ Take kind.Name Keep ∷ Act action.Field ∷ Expand rule.Arrows ∷ [])
    ∷ []
-- AfterParen [Word -> Operand] = CastType ")" Unary @Leave @Cast | Expr ")" @Leave @Group Arrows
alternatives rule.AfterParen =
    (Expand rule.CastType ∷ Take kind.RightParen Skip ∷ Expand rule.Unary ∷ Act action.Leave ∷ Act action.Cast ∷ [])
    ∷ (Expand rule.Expr ∷ Take kind.RightParen Skip ∷ Act action.Leave ∷ Act action.Group ∷ Expand rule.Arrows ∷ [])
    ∷ []
-- NameTail [Word -> Operand] = "["+ Expr "]" @Leave @Index | "("+ Args ")" @Leave @Call | @NameExpr
alternatives rule.NameTail =
    (Take kind.LeftBracket Open ∷ Expand rule.Expr ∷ Take kind.RightBracket Skip ∷ Act action.Leave ∷ Act action.Index ∷ [])
    ∷ (Take kind.LeftParen Open ∷ Expand rule.Args ∷ Take kind.RightParen Skip ∷ Act action.Leave ∷ Act action.Call ∷ [])
    ∷ (Act action.NameExpr ∷ [])
    ∷ []

-- what a whole source is
abbrev pub start : List Symbol
start = Act action.StartProgram ∷ Expand rule.Items ∷ []

-- what a whole expression of a mapping is
abbrev pub expr_start : List Symbol
expr_start = Expand rule.MapExpr ∷ []

-- what a whole mapping is
abbrev pub map_start : List Symbol
map_start = Act action.StartMapping ∷ Expand rule.Entries ∷ []

-- what a whole mapping of the first format is, where a point has one part
abbrev pub first_map_start : List Symbol
first_map_start = Act action.StartMapping ∷ Expand rule.FirstEntries ∷ []

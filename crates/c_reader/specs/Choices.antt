-- The reader's alternatives, of which the next token chooses one. Written by tools/reader_tables.py.
use Rattle.std.specs.Prelude.{ℕ, List, [], ◌∷◌}
use Rattle.c_grammar.specs.declared.kind.Kind.{Kind}
use Rattle.c_grammar.specs.declared.kind.Kind.TheVariants as kind
use Rattle.c_grammar.specs.declared.rule.Rule.{Rule}
use Rattle.c_grammar.specs.declared.rule.Rule.TheVariants as rule
use Rattle.c_grammar.specs.declared.action.Action.TheVariants as action
use Rattle.c_grammar.specs.declared.symbol.Symbol.{Symbol}
use Rattle.c_grammar.specs.declared.symbol.Symbol.TheVariants.{Take, Act, Expand}
use Rattle.c_grammar.specs.declared.symbol.Mark.TheVariants.{Skip, Keep, Open, OpenKeep}
use Rattle.c_grammar.specs.Rules.{alternatives}

-- the reader's alternatives: the grammar's, but where several begin alike
abbrev pub choices : Rule → List (List Symbol)
choices rule.Item =
    (Expand rule.Directive ∷ [])
    ∷ (Take kind.Struct Skip ∷ Take kind.Name Keep ∷ Expand rule.AfterStruct ∷ [])
    ∷ (Take kind.Static Skip ∷ Expand rule.StaticItem ∷ [])
    ∷ (Take kind.Int Skip ∷ Act action.IntType ∷ Take kind.Name Keep ∷ Expand rule.Declared ∷ [])
    ∷ (Take kind.Thread Skip ∷ Act action.ThreadType ∷ Take kind.Name Keep ∷ Expand rule.Declared ∷ [])
    ∷ (Take kind.Void Skip ∷ Expand rule.AfterVoid ∷ [])
    ∷ (Take kind.Mutex Skip ∷ Expand rule.Mutex ∷ [])
    ∷ []
choices rule.Params =
    (Take kind.Void Skip ∷ Expand rule.AfterVoidParam ∷ [])
    ∷ (Take kind.Int Skip ∷ Act action.IntType ∷ Take kind.Name Keep ∷ Act action.OneField ∷ Expand rule.MoreParams ∷ [])
    ∷ (Take kind.Thread Skip ∷ Act action.ThreadType ∷ Take kind.Name Keep ∷ Act action.OneField ∷ Expand rule.MoreParams ∷ [])
    ∷ (Take kind.Struct Skip ∷ Take kind.Name Keep ∷ Take kind.Star Skip ∷ Act action.PtrType ∷ Take kind.Name Keep ∷ Act action.OneField ∷ Expand rule.MoreParams ∷ [])
    ∷ (Act action.NoFields ∷ [])
    ∷ []
choices rule.Simple =
    (Take kind.Name Keep ∷ Expand rule.AfterName ∷ [])
    ∷ (Expand rule.Constant ∷ Expand rule.FieldTail ∷ [])
    ∷ (Expand rule.WordCall ∷ Expand rule.AfterCall ∷ [])
    ∷ (Take kind.LeftParen OpenKeep ∷ Expand rule.Expr ∷ Take kind.RightParen Skip ∷ Act action.Leave ∷ Act action.Group ∷ Expand rule.FieldTail ∷ [])
    ∷ (Expand rule.PreOp ∷ Expand rule.Lvalue ∷ Act action.Leave ∷ Act action.Pre ∷ [])
    ∷ (Take kind.Free Keep ∷ Take kind.LeftParen Open ∷ Expand rule.Expr ∷ Take kind.RightParen Skip ∷ Act action.Leave ∷ Act action.Free ∷ [])
    ∷ (Take kind.Printf Keep ∷ Take kind.LeftParen Open ∷ Take kind.String Keep ∷ Act action.NoArgs ∷ Expand rule.PrintArgs ∷ Take kind.RightParen Skip ∷ Act action.Leave ∷ Act action.Print ∷ [])
    ∷ []
choices rule.Lvalue =
    (Take kind.Name Keep ∷ Expand rule.LvName ∷ [])
    ∷ (Expand rule.Constant ∷ Expand rule.LvTail ∷ [])
    ∷ (Expand rule.WordCall ∷ Expand rule.LvTail ∷ [])
    ∷ (Take kind.LeftParen OpenKeep ∷ Expand rule.Expr ∷ Take kind.RightParen Skip ∷ Act action.Leave ∷ Act action.Group ∷ Expand rule.LvTail ∷ [])
    ∷ []
choices rule.Unary =
    (Expand rule.UnOp ∷ Expand rule.Unary ∷ Act action.Leave ∷ Act action.Un ∷ [])
    ∷ (Take kind.LeftParen OpenKeep ∷ Expand rule.AfterParen ∷ [])
    ∷ (Expand rule.Constant ∷ Expand rule.Arrows ∷ [])
    ∷ (Expand rule.WordCall ∷ Expand rule.Arrows ∷ [])
    ∷ (Take kind.Name Keep ∷ Expand rule.NameTail ∷ Expand rule.Arrows ∷ [])
    ∷ []
choices r = alternatives r

-- a number for each kind
abbrev pub code : Kind → ℕ
code kind.Name = 0
code kind.Number = 1
code kind.Char = 2
code kind.String = 3
code kind.Include = 4
code kind.Define = 5
code kind.LeftOut = 6
code kind.Other = 7
code kind.Int = 8
code kind.Void = 9
code kind.Struct = 10
code kind.If = 11
code kind.Else = 12
code kind.While = 13
code kind.For = 14
code kind.Break = 15
code kind.Continue = 16
code kind.Return = 17
code kind.Static = 18
code kind.Sizeof = 19
code kind.Null = 20
code kind.Eof = 21
code kind.Printf = 22
code kind.Malloc = 23
code kind.Free = 24
code kind.Getchar = 25
code kind.Thread = 26
code kind.Mutex = 27
code kind.Create = 28
code kind.Join = 29
code kind.Lock = 30
code kind.Unlock = 31
code kind.Initializer = 32
code kind.Plus = 33
code kind.Minus = 34
code kind.Star = 35
code kind.Slash = 36
code kind.Percent = 37
code kind.ShiftLeft = 38
code kind.ShiftRight = 39
code kind.Less = 40
code kind.LessEqual = 41
code kind.Greater = 42
code kind.GreaterEqual = 43
code kind.EqualEqual = 44
code kind.NotEqual = 45
code kind.And = 46
code kind.Xor = 47
code kind.Or = 48
code kind.AndAnd = 49
code kind.OrOr = 50
code kind.Bang = 51
code kind.Tilde = 52
code kind.Equal = 53
code kind.PlusEqual = 54
code kind.MinusEqual = 55
code kind.StarEqual = 56
code kind.SlashEqual = 57
code kind.PercentEqual = 58
code kind.AndEqual = 59
code kind.XorEqual = 60
code kind.OrEqual = 61
code kind.ShiftLeftEqual = 62
code kind.ShiftRightEqual = 63
code kind.PlusPlus = 64
code kind.MinusMinus = 65
code kind.Arrow = 66
code kind.LeftParen = 67
code kind.RightParen = 68
code kind.LeftBracket = 69
code kind.RightBracket = 70
code kind.LeftBrace = 71
code kind.RightBrace = 72
code kind.Comma = 73
code kind.Semicolon = 74
code kind.Dot = 75
code kind.Question = 76
code kind.Colon = 77
code kind.FunctionWord = 78
code kind.GlobalWord = 79
code kind.MutexWord = 80
code kind.FieldWord = 81
code kind.InitWord = 82
code kind.PointWord = 83
code kind.CheckWord = 84
code kind.EntryWord = 85
code kind.LoopWord = 86
code kind.CallWord = 87
code kind.BlockWord = 88
code kind.NoneWord = 89

-- the kinds that a rule's texts begin with
abbrev pub first_kinds : Rule → List Kind
first_kinds rule.Items = kind.Struct ∷ kind.Static ∷ kind.Int ∷ kind.Thread ∷ kind.Void ∷ kind.Mutex ∷
    kind.Include ∷ kind.Define ∷ []
first_kinds rule.Item = kind.Struct ∷ kind.Static ∷ kind.Int ∷ kind.Thread ∷ kind.Void ∷ kind.Mutex ∷
    kind.Include ∷ kind.Define ∷ []
first_kinds rule.Directive = kind.Include ∷ kind.Define ∷ []
first_kinds rule.StructDef = kind.Struct ∷ []
first_kinds rule.Fields = kind.Int ∷ kind.Thread ∷ kind.Void ∷ kind.Struct ∷ []
first_kinds rule.Type = kind.Int ∷ kind.Thread ∷ kind.Void ∷ kind.Struct ∷ []
first_kinds rule.GlobalDef = kind.Int ∷ kind.Thread ∷ kind.Void ∷ kind.Struct ∷ []
first_kinds rule.GlobalRest = kind.LeftBracket ∷ kind.Equal ∷ kind.Semicolon ∷ []
first_kinds rule.Count = kind.Number ∷ kind.Name ∷ []
first_kinds rule.Const = kind.Minus ∷ kind.Number ∷ kind.Char ∷ kind.Name ∷ kind.Null ∷ kind.Eof ∷ []
first_kinds rule.MutexDef = kind.Mutex ∷ []
first_kinds rule.Mutex = kind.Name ∷ []
first_kinds rule.MutexInit = kind.Equal ∷ []
first_kinds rule.FunctionDef = kind.Int ∷ kind.Thread ∷ kind.Void ∷ kind.Struct ∷ []
first_kinds rule.Params = kind.Void ∷ kind.Int ∷ kind.Thread ∷ kind.Struct ∷ []
first_kinds rule.MoreParams = kind.Comma ∷ []
first_kinds rule.Body = kind.Semicolon ∷ kind.LeftBrace ∷ []
first_kinds rule.Block = kind.LeftBrace ∷ []
first_kinds rule.BlockItems = kind.Int ∷ kind.Thread ∷ kind.Void ∷ kind.Struct ∷ kind.LeftBrace ∷
    kind.Semicolon ∷ kind.If ∷ kind.While ∷ kind.For ∷ kind.Break ∷ kind.Continue ∷ kind.Return ∷ kind.Name ∷
    kind.LeftParen ∷ kind.Free ∷ kind.Printf ∷ kind.Number ∷ kind.Char ∷ kind.Null ∷ kind.Eof ∷ kind.Malloc ∷
    kind.Getchar ∷ kind.Create ∷ kind.Join ∷ kind.Lock ∷ kind.Unlock ∷ kind.PlusPlus ∷ kind.MinusMinus ∷ []
first_kinds rule.Decl = kind.Int ∷ kind.Thread ∷ kind.Void ∷ kind.Struct ∷ []
first_kinds rule.IntItem = kind.Name ∷ []
first_kinds rule.IntItems = kind.Comma ∷ []
first_kinds rule.PtrItem = kind.Star ∷ []
first_kinds rule.PtrItems = kind.Comma ∷ []
first_kinds rule.Init = kind.Equal ∷ []
first_kinds rule.Stmt = kind.LeftBrace ∷ kind.Semicolon ∷ kind.If ∷ kind.While ∷ kind.For ∷ kind.Break ∷
    kind.Continue ∷ kind.Return ∷ kind.Name ∷ kind.LeftParen ∷ kind.Free ∷ kind.Printf ∷ kind.Number ∷
    kind.Char ∷ kind.Null ∷ kind.Eof ∷ kind.Malloc ∷ kind.Getchar ∷ kind.Create ∷ kind.Join ∷ kind.Lock ∷
    kind.Unlock ∷ kind.PlusPlus ∷ kind.MinusMinus ∷ []
first_kinds rule.ElsePart = kind.Else ∷ []
first_kinds rule.ForInit = kind.Int ∷ kind.Thread ∷ kind.Void ∷ kind.Struct ∷ kind.Name ∷ kind.LeftParen ∷
    kind.Free ∷ kind.Printf ∷ kind.Number ∷ kind.Char ∷ kind.Null ∷ kind.Eof ∷ kind.Malloc ∷ kind.Getchar ∷
    kind.Create ∷ kind.Join ∷ kind.Lock ∷ kind.Unlock ∷ kind.PlusPlus ∷ kind.MinusMinus ∷ []
first_kinds rule.OptExpr = kind.LeftParen ∷ kind.Number ∷ kind.Char ∷ kind.Null ∷ kind.Eof ∷ kind.Malloc ∷
    kind.Getchar ∷ kind.Create ∷ kind.Join ∷ kind.Lock ∷ kind.Unlock ∷ kind.Name ∷ kind.Minus ∷ kind.Bang ∷
    kind.Tilde ∷ []
first_kinds rule.OptSimple = kind.Name ∷ kind.LeftParen ∷ kind.Free ∷ kind.Printf ∷ kind.Number ∷ kind.Char ∷
    kind.Null ∷ kind.Eof ∷ kind.Malloc ∷ kind.Getchar ∷ kind.Create ∷ kind.Join ∷ kind.Lock ∷ kind.Unlock ∷
    kind.PlusPlus ∷ kind.MinusMinus ∷ []
first_kinds rule.Simple = kind.Name ∷ kind.LeftParen ∷ kind.Free ∷ kind.Printf ∷ kind.Number ∷ kind.Char ∷
    kind.Null ∷ kind.Eof ∷ kind.Malloc ∷ kind.Getchar ∷ kind.Create ∷ kind.Join ∷ kind.Lock ∷ kind.Unlock ∷
    kind.PlusPlus ∷ kind.MinusMinus ∷ []
first_kinds rule.PrintArgs = kind.Comma ∷ []
first_kinds rule.Asgop = kind.Equal ∷ kind.PlusEqual ∷ kind.MinusEqual ∷ kind.StarEqual ∷ kind.SlashEqual ∷
    kind.PercentEqual ∷ kind.AndEqual ∷ kind.XorEqual ∷ kind.OrEqual ∷ kind.ShiftLeftEqual ∷
    kind.ShiftRightEqual ∷ []
first_kinds rule.Incdec = kind.PlusPlus ∷ kind.MinusMinus ∷ []
first_kinds rule.PreOp = kind.PlusPlus ∷ kind.MinusMinus ∷ []
first_kinds rule.Lvalue = kind.Name ∷ kind.LeftParen ∷ kind.Number ∷ kind.Char ∷ kind.Null ∷ kind.Eof ∷
    kind.Malloc ∷ kind.Getchar ∷ kind.Create ∷ kind.Join ∷ kind.Lock ∷ kind.Unlock ∷ []
first_kinds rule.Call = kind.Name ∷ kind.Malloc ∷ kind.Getchar ∷ kind.Create ∷ kind.Join ∷ kind.Lock ∷
    kind.Unlock ∷ []
first_kinds rule.WordCall = kind.Malloc ∷ kind.Getchar ∷ kind.Create ∷ kind.Join ∷ kind.Lock ∷ kind.Unlock ∷ []
first_kinds rule.MallocRest = kind.LeftParen ∷ []
first_kinds rule.CreateRest = kind.LeftParen ∷ []
first_kinds rule.JoinRest = kind.LeftParen ∷ []
first_kinds rule.LockRest = kind.LeftParen ∷ []
first_kinds rule.Args = kind.LeftParen ∷ kind.Number ∷ kind.Char ∷ kind.Null ∷ kind.Eof ∷ kind.Malloc ∷
    kind.Getchar ∷ kind.Create ∷ kind.Join ∷ kind.Lock ∷ kind.Unlock ∷ kind.Name ∷ kind.Minus ∷ kind.Bang ∷
    kind.Tilde ∷ []
first_kinds rule.MoreArgs = kind.Comma ∷ []
first_kinds rule.Postfix = kind.Name ∷ kind.LeftParen ∷ kind.Number ∷ kind.Char ∷ kind.Null ∷ kind.Eof ∷
    kind.Malloc ∷ kind.Getchar ∷ kind.Create ∷ kind.Join ∷ kind.Lock ∷ kind.Unlock ∷ []
first_kinds rule.Arrows = kind.Arrow ∷ []
first_kinds rule.Primary = kind.Name ∷ kind.LeftParen ∷ kind.Number ∷ kind.Char ∷ kind.Null ∷ kind.Eof ∷
    kind.Malloc ∷ kind.Getchar ∷ kind.Create ∷ kind.Join ∷ kind.Lock ∷ kind.Unlock ∷ []
first_kinds rule.Constant = kind.Number ∷ kind.Char ∷ kind.Null ∷ kind.Eof ∷ []
first_kinds rule.Unary = kind.LeftParen ∷ kind.Number ∷ kind.Char ∷ kind.Null ∷ kind.Eof ∷ kind.Malloc ∷
    kind.Getchar ∷ kind.Create ∷ kind.Join ∷ kind.Lock ∷ kind.Unlock ∷ kind.Name ∷ kind.Minus ∷ kind.Bang ∷
    kind.Tilde ∷ []
first_kinds rule.UnOp = kind.Minus ∷ kind.Bang ∷ kind.Tilde ∷ []
first_kinds rule.CastType = kind.Struct ∷ kind.Void ∷ []
first_kinds rule.MapUnary = kind.Minus ∷ kind.Bang ∷ kind.Tilde ∷ kind.Number ∷ kind.Char ∷ kind.Null ∷
    kind.Eof ∷ kind.LeftParen ∷ kind.Dot ∷ kind.NoneWord ∷ kind.Name ∷ kind.FunctionWord ∷ kind.GlobalWord ∷
    kind.MutexWord ∷ kind.FieldWord ∷ kind.InitWord ∷ kind.PointWord ∷ kind.CheckWord ∷ kind.EntryWord ∷
    kind.LoopWord ∷ kind.CallWord ∷ kind.BlockWord ∷ []
first_kinds rule.MapName = kind.LeftBracket ∷ kind.Dot ∷ []
first_kinds rule.MapArrows = kind.Arrow ∷ []
first_kinds rule.AnyName = kind.NoneWord ∷ kind.Name ∷ kind.FunctionWord ∷ kind.GlobalWord ∷ kind.MutexWord ∷
    kind.FieldWord ∷ kind.InitWord ∷ kind.PointWord ∷ kind.CheckWord ∷ kind.EntryWord ∷ kind.LoopWord ∷
    kind.CallWord ∷ kind.BlockWord ∷ []
first_kinds rule.NewName = kind.Name ∷ kind.FunctionWord ∷ kind.GlobalWord ∷ kind.MutexWord ∷
    kind.FieldWord ∷ kind.InitWord ∷ kind.PointWord ∷ kind.CheckWord ∷ kind.EntryWord ∷ kind.LoopWord ∷
    kind.CallWord ∷ kind.BlockWord ∷ []
first_kinds rule.Entries = kind.PointWord ∷ kind.FieldWord ∷ kind.InitWord ∷ kind.CheckWord ∷
    kind.FunctionWord ∷ kind.Struct ∷ kind.GlobalWord ∷ kind.MutexWord ∷ []
first_kinds rule.Entry = kind.PointWord ∷ kind.FieldWord ∷ kind.InitWord ∷ kind.CheckWord ∷
    kind.FunctionWord ∷ kind.Struct ∷ kind.GlobalWord ∷ kind.MutexWord ∷ []
first_kinds rule.OtherEntry = kind.FieldWord ∷ kind.InitWord ∷ kind.CheckWord ∷ kind.FunctionWord ∷
    kind.Struct ∷ kind.GlobalWord ∷ kind.MutexWord ∷ []
first_kinds rule.Side = kind.FunctionWord ∷ kind.Struct ∷ kind.GlobalWord ∷ kind.MutexWord ∷ []
first_kinds rule.Target = kind.Name ∷ kind.FunctionWord ∷ kind.GlobalWord ∷ kind.MutexWord ∷ kind.FieldWord ∷
    kind.InitWord ∷ kind.PointWord ∷ kind.CheckWord ∷ kind.EntryWord ∷ kind.LoopWord ∷ kind.CallWord ∷
    kind.BlockWord ∷ kind.NoneWord ∷ []
first_kinds rule.Pt = kind.EntryWord ∷ kind.LoopWord ∷ kind.CallWord ∷ kind.BlockWord ∷ []
first_kinds rule.PtWord = kind.LoopWord ∷ kind.CallWord ∷ kind.BlockWord ∷ []
first_kinds rule.Fills = kind.LeftBrace ∷ []
first_kinds rule.FillList = kind.NoneWord ∷ kind.Dot ∷ kind.Name ∷ kind.FunctionWord ∷ kind.GlobalWord ∷
    kind.MutexWord ∷ kind.FieldWord ∷ kind.InitWord ∷ kind.PointWord ∷ kind.CheckWord ∷ kind.EntryWord ∷
    kind.LoopWord ∷ kind.CallWord ∷ kind.BlockWord ∷ []
first_kinds rule.FillName = kind.NoneWord ∷ kind.Dot ∷ kind.Name ∷ kind.FunctionWord ∷ kind.GlobalWord ∷
    kind.MutexWord ∷ kind.FieldWord ∷ kind.InitWord ∷ kind.PointWord ∷ kind.CheckWord ∷ kind.EntryWord ∷
    kind.LoopWord ∷ kind.CallWord ∷ kind.BlockWord ∷ []
first_kinds rule.FillNumber = kind.Dot ∷ []
first_kinds rule.Parts = kind.EntryWord ∷ kind.LoopWord ∷ kind.CallWord ∷ kind.BlockWord ∷ []
first_kinds rule.SecondPart = kind.Plus ∷ []
first_kinds rule.ThirdPart = kind.Plus ∷ []
first_kinds rule.FourthPart = kind.Plus ∷ []
first_kinds rule.AddedPart = kind.NoneWord ∷ kind.Name ∷ kind.FunctionWord ∷ kind.GlobalWord ∷
    kind.MutexWord ∷ kind.FieldWord ∷ kind.InitWord ∷ kind.PointWord ∷ kind.CheckWord ∷ kind.EntryWord ∷
    kind.LoopWord ∷ kind.CallWord ∷ kind.BlockWord ∷ []
first_kinds rule.FirstEntries = kind.FieldWord ∷ kind.InitWord ∷ kind.CheckWord ∷ kind.PointWord ∷
    kind.FunctionWord ∷ kind.Struct ∷ kind.GlobalWord ∷ kind.MutexWord ∷ []
first_kinds rule.FirstEntry = kind.FieldWord ∷ kind.InitWord ∷ kind.CheckWord ∷ kind.PointWord ∷
    kind.FunctionWord ∷ kind.Struct ∷ kind.GlobalWord ∷ kind.MutexWord ∷ []
first_kinds rule.OnlyPart = kind.EntryWord ∷ kind.LoopWord ∷ kind.CallWord ∷ kind.BlockWord ∷ []
first_kinds rule.Mul = kind.LeftParen ∷ kind.Number ∷ kind.Char ∷ kind.Null ∷ kind.Eof ∷ kind.Malloc ∷
    kind.Getchar ∷ kind.Create ∷ kind.Join ∷ kind.Lock ∷ kind.Unlock ∷ kind.Name ∷ kind.Minus ∷ kind.Bang ∷
    kind.Tilde ∷ []
first_kinds rule.MulTail = kind.Star ∷ kind.Slash ∷ kind.Percent ∷ []
first_kinds rule.Add = kind.LeftParen ∷ kind.Number ∷ kind.Char ∷ kind.Null ∷ kind.Eof ∷ kind.Malloc ∷
    kind.Getchar ∷ kind.Create ∷ kind.Join ∷ kind.Lock ∷ kind.Unlock ∷ kind.Name ∷ kind.Minus ∷ kind.Bang ∷
    kind.Tilde ∷ []
first_kinds rule.AddTail = kind.Plus ∷ kind.Minus ∷ []
first_kinds rule.Shift = kind.LeftParen ∷ kind.Number ∷ kind.Char ∷ kind.Null ∷ kind.Eof ∷ kind.Malloc ∷
    kind.Getchar ∷ kind.Create ∷ kind.Join ∷ kind.Lock ∷ kind.Unlock ∷ kind.Name ∷ kind.Minus ∷ kind.Bang ∷
    kind.Tilde ∷ []
first_kinds rule.ShiftTail = kind.ShiftLeft ∷ kind.ShiftRight ∷ []
first_kinds rule.Order = kind.LeftParen ∷ kind.Number ∷ kind.Char ∷ kind.Null ∷ kind.Eof ∷ kind.Malloc ∷
    kind.Getchar ∷ kind.Create ∷ kind.Join ∷ kind.Lock ∷ kind.Unlock ∷ kind.Name ∷ kind.Minus ∷ kind.Bang ∷
    kind.Tilde ∷ []
first_kinds rule.OrderTail = kind.Less ∷ kind.LessEqual ∷ kind.Greater ∷ kind.GreaterEqual ∷ []
first_kinds rule.Equal = kind.LeftParen ∷ kind.Number ∷ kind.Char ∷ kind.Null ∷ kind.Eof ∷ kind.Malloc ∷
    kind.Getchar ∷ kind.Create ∷ kind.Join ∷ kind.Lock ∷ kind.Unlock ∷ kind.Name ∷ kind.Minus ∷ kind.Bang ∷
    kind.Tilde ∷ []
first_kinds rule.EqualTail = kind.EqualEqual ∷ kind.NotEqual ∷ []
first_kinds rule.BitAnd = kind.LeftParen ∷ kind.Number ∷ kind.Char ∷ kind.Null ∷ kind.Eof ∷ kind.Malloc ∷
    kind.Getchar ∷ kind.Create ∷ kind.Join ∷ kind.Lock ∷ kind.Unlock ∷ kind.Name ∷ kind.Minus ∷ kind.Bang ∷
    kind.Tilde ∷ []
first_kinds rule.BitAndTail = kind.And ∷ []
first_kinds rule.BitXor = kind.LeftParen ∷ kind.Number ∷ kind.Char ∷ kind.Null ∷ kind.Eof ∷ kind.Malloc ∷
    kind.Getchar ∷ kind.Create ∷ kind.Join ∷ kind.Lock ∷ kind.Unlock ∷ kind.Name ∷ kind.Minus ∷ kind.Bang ∷
    kind.Tilde ∷ []
first_kinds rule.BitXorTail = kind.Xor ∷ []
first_kinds rule.BitOr = kind.LeftParen ∷ kind.Number ∷ kind.Char ∷ kind.Null ∷ kind.Eof ∷ kind.Malloc ∷
    kind.Getchar ∷ kind.Create ∷ kind.Join ∷ kind.Lock ∷ kind.Unlock ∷ kind.Name ∷ kind.Minus ∷ kind.Bang ∷
    kind.Tilde ∷ []
first_kinds rule.BitOrTail = kind.Or ∷ []
first_kinds rule.AndAnd = kind.LeftParen ∷ kind.Number ∷ kind.Char ∷ kind.Null ∷ kind.Eof ∷ kind.Malloc ∷
    kind.Getchar ∷ kind.Create ∷ kind.Join ∷ kind.Lock ∷ kind.Unlock ∷ kind.Name ∷ kind.Minus ∷ kind.Bang ∷
    kind.Tilde ∷ []
first_kinds rule.AndAndTail = kind.AndAnd ∷ []
first_kinds rule.Expr = kind.LeftParen ∷ kind.Number ∷ kind.Char ∷ kind.Null ∷ kind.Eof ∷ kind.Malloc ∷
    kind.Getchar ∷ kind.Create ∷ kind.Join ∷ kind.Lock ∷ kind.Unlock ∷ kind.Name ∷ kind.Minus ∷ kind.Bang ∷
    kind.Tilde ∷ []
first_kinds rule.ExprTail = kind.OrOr ∷ []
first_kinds rule.MapMul = kind.Minus ∷ kind.Bang ∷ kind.Tilde ∷ kind.Number ∷ kind.Char ∷ kind.Null ∷
    kind.Eof ∷ kind.LeftParen ∷ kind.Dot ∷ kind.NoneWord ∷ kind.Name ∷ kind.FunctionWord ∷ kind.GlobalWord ∷
    kind.MutexWord ∷ kind.FieldWord ∷ kind.InitWord ∷ kind.PointWord ∷ kind.CheckWord ∷ kind.EntryWord ∷
    kind.LoopWord ∷ kind.CallWord ∷ kind.BlockWord ∷ []
first_kinds rule.MapMulTail = kind.Star ∷ kind.Slash ∷ kind.Percent ∷ []
first_kinds rule.MapAdd = kind.Minus ∷ kind.Bang ∷ kind.Tilde ∷ kind.Number ∷ kind.Char ∷ kind.Null ∷
    kind.Eof ∷ kind.LeftParen ∷ kind.Dot ∷ kind.NoneWord ∷ kind.Name ∷ kind.FunctionWord ∷ kind.GlobalWord ∷
    kind.MutexWord ∷ kind.FieldWord ∷ kind.InitWord ∷ kind.PointWord ∷ kind.CheckWord ∷ kind.EntryWord ∷
    kind.LoopWord ∷ kind.CallWord ∷ kind.BlockWord ∷ []
first_kinds rule.MapAddTail = kind.Plus ∷ kind.Minus ∷ []
first_kinds rule.MapShift = kind.Minus ∷ kind.Bang ∷ kind.Tilde ∷ kind.Number ∷ kind.Char ∷ kind.Null ∷
    kind.Eof ∷ kind.LeftParen ∷ kind.Dot ∷ kind.NoneWord ∷ kind.Name ∷ kind.FunctionWord ∷ kind.GlobalWord ∷
    kind.MutexWord ∷ kind.FieldWord ∷ kind.InitWord ∷ kind.PointWord ∷ kind.CheckWord ∷ kind.EntryWord ∷
    kind.LoopWord ∷ kind.CallWord ∷ kind.BlockWord ∷ []
first_kinds rule.MapShiftTail = kind.ShiftLeft ∷ kind.ShiftRight ∷ []
first_kinds rule.MapOrder = kind.Minus ∷ kind.Bang ∷ kind.Tilde ∷ kind.Number ∷ kind.Char ∷ kind.Null ∷
    kind.Eof ∷ kind.LeftParen ∷ kind.Dot ∷ kind.NoneWord ∷ kind.Name ∷ kind.FunctionWord ∷ kind.GlobalWord ∷
    kind.MutexWord ∷ kind.FieldWord ∷ kind.InitWord ∷ kind.PointWord ∷ kind.CheckWord ∷ kind.EntryWord ∷
    kind.LoopWord ∷ kind.CallWord ∷ kind.BlockWord ∷ []
first_kinds rule.MapOrderTail = kind.Less ∷ kind.LessEqual ∷ kind.Greater ∷ kind.GreaterEqual ∷ []
first_kinds rule.MapEqual = kind.Minus ∷ kind.Bang ∷ kind.Tilde ∷ kind.Number ∷ kind.Char ∷ kind.Null ∷
    kind.Eof ∷ kind.LeftParen ∷ kind.Dot ∷ kind.NoneWord ∷ kind.Name ∷ kind.FunctionWord ∷ kind.GlobalWord ∷
    kind.MutexWord ∷ kind.FieldWord ∷ kind.InitWord ∷ kind.PointWord ∷ kind.CheckWord ∷ kind.EntryWord ∷
    kind.LoopWord ∷ kind.CallWord ∷ kind.BlockWord ∷ []
first_kinds rule.MapEqualTail = kind.EqualEqual ∷ kind.NotEqual ∷ []
first_kinds rule.MapBitAnd = kind.Minus ∷ kind.Bang ∷ kind.Tilde ∷ kind.Number ∷ kind.Char ∷ kind.Null ∷
    kind.Eof ∷ kind.LeftParen ∷ kind.Dot ∷ kind.NoneWord ∷ kind.Name ∷ kind.FunctionWord ∷ kind.GlobalWord ∷
    kind.MutexWord ∷ kind.FieldWord ∷ kind.InitWord ∷ kind.PointWord ∷ kind.CheckWord ∷ kind.EntryWord ∷
    kind.LoopWord ∷ kind.CallWord ∷ kind.BlockWord ∷ []
first_kinds rule.MapBitAndTail = kind.And ∷ []
first_kinds rule.MapBitXor = kind.Minus ∷ kind.Bang ∷ kind.Tilde ∷ kind.Number ∷ kind.Char ∷ kind.Null ∷
    kind.Eof ∷ kind.LeftParen ∷ kind.Dot ∷ kind.NoneWord ∷ kind.Name ∷ kind.FunctionWord ∷ kind.GlobalWord ∷
    kind.MutexWord ∷ kind.FieldWord ∷ kind.InitWord ∷ kind.PointWord ∷ kind.CheckWord ∷ kind.EntryWord ∷
    kind.LoopWord ∷ kind.CallWord ∷ kind.BlockWord ∷ []
first_kinds rule.MapBitXorTail = kind.Xor ∷ []
first_kinds rule.MapBitOr = kind.Minus ∷ kind.Bang ∷ kind.Tilde ∷ kind.Number ∷ kind.Char ∷ kind.Null ∷
    kind.Eof ∷ kind.LeftParen ∷ kind.Dot ∷ kind.NoneWord ∷ kind.Name ∷ kind.FunctionWord ∷ kind.GlobalWord ∷
    kind.MutexWord ∷ kind.FieldWord ∷ kind.InitWord ∷ kind.PointWord ∷ kind.CheckWord ∷ kind.EntryWord ∷
    kind.LoopWord ∷ kind.CallWord ∷ kind.BlockWord ∷ []
first_kinds rule.MapBitOrTail = kind.Or ∷ []
first_kinds rule.MapAndAnd = kind.Minus ∷ kind.Bang ∷ kind.Tilde ∷ kind.Number ∷ kind.Char ∷ kind.Null ∷
    kind.Eof ∷ kind.LeftParen ∷ kind.Dot ∷ kind.NoneWord ∷ kind.Name ∷ kind.FunctionWord ∷ kind.GlobalWord ∷
    kind.MutexWord ∷ kind.FieldWord ∷ kind.InitWord ∷ kind.PointWord ∷ kind.CheckWord ∷ kind.EntryWord ∷
    kind.LoopWord ∷ kind.CallWord ∷ kind.BlockWord ∷ []
first_kinds rule.MapAndAndTail = kind.AndAnd ∷ []
first_kinds rule.MapExpr = kind.Minus ∷ kind.Bang ∷ kind.Tilde ∷ kind.Number ∷ kind.Char ∷ kind.Null ∷
    kind.Eof ∷ kind.LeftParen ∷ kind.Dot ∷ kind.NoneWord ∷ kind.Name ∷ kind.FunctionWord ∷ kind.GlobalWord ∷
    kind.MutexWord ∷ kind.FieldWord ∷ kind.InitWord ∷ kind.PointWord ∷ kind.CheckWord ∷ kind.EntryWord ∷
    kind.LoopWord ∷ kind.CallWord ∷ kind.BlockWord ∷ []
first_kinds rule.MapExprTail = kind.OrOr ∷ []
first_kinds rule.MulOp = kind.Star ∷ kind.Slash ∷ kind.Percent ∷ []
first_kinds rule.AddOp = kind.Plus ∷ kind.Minus ∷ []
first_kinds rule.ShiftOp = kind.ShiftLeft ∷ kind.ShiftRight ∷ []
first_kinds rule.OrderOp = kind.Less ∷ kind.LessEqual ∷ kind.Greater ∷ kind.GreaterEqual ∷ []
first_kinds rule.EqualOp = kind.EqualEqual ∷ kind.NotEqual ∷ []
first_kinds rule.BitAndOp = kind.And ∷ []
first_kinds rule.BitXorOp = kind.Xor ∷ []
first_kinds rule.BitOrOp = kind.Or ∷ []
first_kinds rule.AndAndOp = kind.AndAnd ∷ []
first_kinds rule.OrOrOp = kind.OrOr ∷ []
first_kinds rule.StaticItem = kind.Struct ∷ kind.Int ∷ kind.Thread ∷ kind.Void ∷ kind.Mutex ∷ []
first_kinds rule.AfterStruct = kind.LeftBrace ∷ kind.Star ∷ []
first_kinds rule.AfterVoid = kind.Star ∷ kind.Name ∷ []
first_kinds rule.Declared = kind.LeftParen ∷ kind.LeftBracket ∷ kind.Equal ∷ kind.Semicolon ∷ []
first_kinds rule.AfterVoidParam = kind.Star ∷ []
first_kinds rule.AfterName = kind.LeftBracket ∷ kind.LeftParen ∷ kind.Equal ∷ kind.PlusEqual ∷
    kind.MinusEqual ∷ kind.StarEqual ∷ kind.SlashEqual ∷ kind.PercentEqual ∷ kind.AndEqual ∷ kind.XorEqual ∷
    kind.OrEqual ∷ kind.ShiftLeftEqual ∷ kind.ShiftRightEqual ∷ kind.PlusPlus ∷ kind.MinusMinus ∷
    kind.Arrow ∷ []
first_kinds rule.AssignTail = kind.Equal ∷ kind.PlusEqual ∷ kind.MinusEqual ∷ kind.StarEqual ∷
    kind.SlashEqual ∷ kind.PercentEqual ∷ kind.AndEqual ∷ kind.XorEqual ∷ kind.OrEqual ∷
    kind.ShiftLeftEqual ∷ kind.ShiftRightEqual ∷ kind.PlusPlus ∷ kind.MinusMinus ∷ []
first_kinds rule.AfterPlace = kind.Equal ∷ kind.PlusEqual ∷ kind.MinusEqual ∷ kind.StarEqual ∷
    kind.SlashEqual ∷ kind.PercentEqual ∷ kind.AndEqual ∷ kind.XorEqual ∷ kind.OrEqual ∷
    kind.ShiftLeftEqual ∷ kind.ShiftRightEqual ∷ kind.PlusPlus ∷ kind.MinusMinus ∷ kind.Arrow ∷ []
first_kinds rule.FieldTail = kind.Arrow ∷ []
first_kinds rule.AfterCall = kind.Arrow ∷ []
first_kinds rule.LvName = kind.LeftBracket ∷ kind.LeftParen ∷ kind.Arrow ∷ []
first_kinds rule.LvTail = kind.Arrow ∷ []
first_kinds rule.AfterParen = kind.Struct ∷ kind.Void ∷ kind.LeftParen ∷ kind.Number ∷ kind.Char ∷
    kind.Null ∷ kind.Eof ∷ kind.Malloc ∷ kind.Getchar ∷ kind.Create ∷ kind.Join ∷ kind.Lock ∷ kind.Unlock ∷
    kind.Name ∷ kind.Minus ∷ kind.Bang ∷ kind.Tilde ∷ []
first_kinds rule.NameTail = kind.LeftBracket ∷ kind.LeftParen ∷ []

-- What cannot follow a rule, which rules the reader expands, and a number for each. Written by tools/reader_tables.py.
use Rattle.std.specs.Prelude.{ℕ, List, [], ◌∷◌, Bool, true, false}
use Rattle.c_grammar.specs.declared.kind.Kind.{Kind}
use Rattle.c_grammar.specs.declared.kind.Kind.TheVariants as kind
use Rattle.c_grammar.specs.declared.rule.Rule.{Rule}
use Rattle.c_grammar.specs.declared.rule.Rule.TheVariants as rule

-- the kinds that cannot follow a rule's texts
abbrev pub blocked_kinds : Rule → List Kind
blocked_kinds rule.Items = kind.Struct ∷ kind.Static ∷ kind.Int ∷ kind.Thread ∷ kind.Void ∷ kind.Mutex ∷
    kind.Include ∷ kind.Define ∷ []
blocked_kinds rule.Item = []
blocked_kinds rule.Directive = []
blocked_kinds rule.StructDef = []
blocked_kinds rule.Fields = kind.Int ∷ kind.Thread ∷ kind.Void ∷ kind.Struct ∷ []
blocked_kinds rule.Type = []
blocked_kinds rule.GlobalDef = []
blocked_kinds rule.GlobalRest = []
blocked_kinds rule.Count = []
blocked_kinds rule.Const = []
blocked_kinds rule.MutexDef = []
blocked_kinds rule.Mutex = []
blocked_kinds rule.MutexInit = kind.Equal ∷ []
blocked_kinds rule.FunctionDef = []
blocked_kinds rule.Params = kind.Void ∷ kind.Int ∷ kind.Thread ∷ kind.Struct ∷ kind.Star ∷ kind.Comma ∷ []
blocked_kinds rule.MoreParams = kind.Comma ∷ []
blocked_kinds rule.Body = []
blocked_kinds rule.Block = []
blocked_kinds rule.BlockItems = kind.Int ∷ kind.Thread ∷ kind.Void ∷ kind.Struct ∷ kind.LeftBrace ∷
    kind.Semicolon ∷ kind.If ∷ kind.While ∷ kind.For ∷ kind.Break ∷ kind.Continue ∷ kind.Return ∷ kind.Name ∷
    kind.LeftParen ∷ kind.Free ∷ kind.Printf ∷ kind.Number ∷ kind.Char ∷ kind.Null ∷ kind.Eof ∷ kind.Malloc ∷
    kind.Getchar ∷ kind.Create ∷ kind.Join ∷ kind.Lock ∷ kind.Unlock ∷ kind.PlusPlus ∷ kind.MinusMinus ∷ []
blocked_kinds rule.Decl = kind.Comma ∷ kind.Equal ∷ kind.Arrow ∷ kind.LeftBracket ∷ kind.LeftParen ∷
    kind.Star ∷ kind.Slash ∷ kind.Percent ∷ kind.Plus ∷ kind.Minus ∷ kind.ShiftLeft ∷ kind.ShiftRight ∷
    kind.Less ∷ kind.LessEqual ∷ kind.Greater ∷ kind.GreaterEqual ∷ kind.EqualEqual ∷ kind.NotEqual ∷
    kind.And ∷ kind.Xor ∷ kind.Or ∷ kind.AndAnd ∷ kind.OrOr ∷ []
blocked_kinds rule.IntItem = kind.Equal ∷ kind.Arrow ∷ kind.LeftBracket ∷ kind.LeftParen ∷ kind.Star ∷
    kind.Slash ∷ kind.Percent ∷ kind.Plus ∷ kind.Minus ∷ kind.ShiftLeft ∷ kind.ShiftRight ∷ kind.Less ∷
    kind.LessEqual ∷ kind.Greater ∷ kind.GreaterEqual ∷ kind.EqualEqual ∷ kind.NotEqual ∷ kind.And ∷
    kind.Xor ∷ kind.Or ∷ kind.AndAnd ∷ kind.OrOr ∷ []
blocked_kinds rule.IntItems = kind.Comma ∷ kind.Equal ∷ kind.Arrow ∷ kind.LeftBracket ∷ kind.LeftParen ∷
    kind.Star ∷ kind.Slash ∷ kind.Percent ∷ kind.Plus ∷ kind.Minus ∷ kind.ShiftLeft ∷ kind.ShiftRight ∷
    kind.Less ∷ kind.LessEqual ∷ kind.Greater ∷ kind.GreaterEqual ∷ kind.EqualEqual ∷ kind.NotEqual ∷
    kind.And ∷ kind.Xor ∷ kind.Or ∷ kind.AndAnd ∷ kind.OrOr ∷ []
blocked_kinds rule.PtrItem = kind.Equal ∷ kind.Arrow ∷ kind.LeftBracket ∷ kind.LeftParen ∷ kind.Star ∷
    kind.Slash ∷ kind.Percent ∷ kind.Plus ∷ kind.Minus ∷ kind.ShiftLeft ∷ kind.ShiftRight ∷ kind.Less ∷
    kind.LessEqual ∷ kind.Greater ∷ kind.GreaterEqual ∷ kind.EqualEqual ∷ kind.NotEqual ∷ kind.And ∷
    kind.Xor ∷ kind.Or ∷ kind.AndAnd ∷ kind.OrOr ∷ []
blocked_kinds rule.PtrItems = kind.Comma ∷ kind.Equal ∷ kind.Arrow ∷ kind.LeftBracket ∷ kind.LeftParen ∷
    kind.Star ∷ kind.Slash ∷ kind.Percent ∷ kind.Plus ∷ kind.Minus ∷ kind.ShiftLeft ∷ kind.ShiftRight ∷
    kind.Less ∷ kind.LessEqual ∷ kind.Greater ∷ kind.GreaterEqual ∷ kind.EqualEqual ∷ kind.NotEqual ∷
    kind.And ∷ kind.Xor ∷ kind.Or ∷ kind.AndAnd ∷ kind.OrOr ∷ []
blocked_kinds rule.Init = kind.Equal ∷ kind.Arrow ∷ kind.LeftBracket ∷ kind.LeftParen ∷ kind.Star ∷
    kind.Slash ∷ kind.Percent ∷ kind.Plus ∷ kind.Minus ∷ kind.ShiftLeft ∷ kind.ShiftRight ∷ kind.Less ∷
    kind.LessEqual ∷ kind.Greater ∷ kind.GreaterEqual ∷ kind.EqualEqual ∷ kind.NotEqual ∷ kind.And ∷
    kind.Xor ∷ kind.Or ∷ kind.AndAnd ∷ kind.OrOr ∷ []
blocked_kinds rule.Stmt = []
blocked_kinds rule.ElsePart = []
blocked_kinds rule.ForInit = kind.Int ∷ kind.Thread ∷ kind.Void ∷ kind.Struct ∷ kind.Name ∷ kind.LeftParen ∷
    kind.Free ∷ kind.Printf ∷ kind.Number ∷ kind.Char ∷ kind.Null ∷ kind.Eof ∷ kind.Malloc ∷ kind.Getchar ∷
    kind.Create ∷ kind.Join ∷ kind.Lock ∷ kind.Unlock ∷ kind.PlusPlus ∷ kind.MinusMinus ∷ kind.Comma ∷
    kind.Equal ∷ kind.Arrow ∷ kind.LeftBracket ∷ kind.Star ∷ kind.Slash ∷ kind.Percent ∷ kind.Plus ∷
    kind.Minus ∷ kind.ShiftLeft ∷ kind.ShiftRight ∷ kind.Less ∷ kind.LessEqual ∷ kind.Greater ∷
    kind.GreaterEqual ∷ kind.EqualEqual ∷ kind.NotEqual ∷ kind.And ∷ kind.Xor ∷ kind.Or ∷ kind.AndAnd ∷
    kind.OrOr ∷ []
blocked_kinds rule.OptExpr = kind.LeftParen ∷ kind.Number ∷ kind.Char ∷ kind.Null ∷ kind.Eof ∷ kind.Malloc ∷
    kind.Getchar ∷ kind.Create ∷ kind.Join ∷ kind.Lock ∷ kind.Unlock ∷ kind.Name ∷ kind.Minus ∷ kind.Bang ∷
    kind.Tilde ∷ kind.Arrow ∷ kind.LeftBracket ∷ kind.Star ∷ kind.Slash ∷ kind.Percent ∷ kind.Plus ∷
    kind.ShiftLeft ∷ kind.ShiftRight ∷ kind.Less ∷ kind.LessEqual ∷ kind.Greater ∷ kind.GreaterEqual ∷
    kind.EqualEqual ∷ kind.NotEqual ∷ kind.And ∷ kind.Xor ∷ kind.Or ∷ kind.AndAnd ∷ kind.OrOr ∷ []
blocked_kinds rule.OptSimple = kind.Name ∷ kind.LeftParen ∷ kind.Free ∷ kind.Printf ∷ kind.Number ∷
    kind.Char ∷ kind.Null ∷ kind.Eof ∷ kind.Malloc ∷ kind.Getchar ∷ kind.Create ∷ kind.Join ∷ kind.Lock ∷
    kind.Unlock ∷ kind.PlusPlus ∷ kind.MinusMinus ∷ kind.Arrow ∷ kind.LeftBracket ∷ kind.Star ∷ kind.Slash ∷
    kind.Percent ∷ kind.Plus ∷ kind.Minus ∷ kind.ShiftLeft ∷ kind.ShiftRight ∷ kind.Less ∷ kind.LessEqual ∷
    kind.Greater ∷ kind.GreaterEqual ∷ kind.EqualEqual ∷ kind.NotEqual ∷ kind.And ∷ kind.Xor ∷ kind.Or ∷
    kind.AndAnd ∷ kind.OrOr ∷ []
blocked_kinds rule.Simple = kind.Arrow ∷ kind.LeftBracket ∷ kind.LeftParen ∷ kind.Star ∷ kind.Slash ∷
    kind.Percent ∷ kind.Plus ∷ kind.Minus ∷ kind.ShiftLeft ∷ kind.ShiftRight ∷ kind.Less ∷ kind.LessEqual ∷
    kind.Greater ∷ kind.GreaterEqual ∷ kind.EqualEqual ∷ kind.NotEqual ∷ kind.And ∷ kind.Xor ∷ kind.Or ∷
    kind.AndAnd ∷ kind.OrOr ∷ []
blocked_kinds rule.PrintArgs = kind.Comma ∷ kind.Arrow ∷ kind.LeftBracket ∷ kind.LeftParen ∷ kind.Star ∷
    kind.Slash ∷ kind.Percent ∷ kind.Plus ∷ kind.Minus ∷ kind.ShiftLeft ∷ kind.ShiftRight ∷ kind.Less ∷
    kind.LessEqual ∷ kind.Greater ∷ kind.GreaterEqual ∷ kind.EqualEqual ∷ kind.NotEqual ∷ kind.And ∷
    kind.Xor ∷ kind.Or ∷ kind.AndAnd ∷ kind.OrOr ∷ []
blocked_kinds rule.Asgop = []
blocked_kinds rule.Incdec = []
blocked_kinds rule.PreOp = []
blocked_kinds rule.Lvalue = kind.LeftBracket ∷ kind.LeftParen ∷ kind.Arrow ∷ []
blocked_kinds rule.Call = []
blocked_kinds rule.WordCall = []
blocked_kinds rule.MallocRest = []
blocked_kinds rule.CreateRest = []
blocked_kinds rule.JoinRest = []
blocked_kinds rule.LockRest = []
blocked_kinds rule.Args = kind.LeftParen ∷ kind.Number ∷ kind.Char ∷ kind.Null ∷ kind.Eof ∷ kind.Malloc ∷
    kind.Getchar ∷ kind.Create ∷ kind.Join ∷ kind.Lock ∷ kind.Unlock ∷ kind.Name ∷ kind.Minus ∷ kind.Bang ∷
    kind.Tilde ∷ kind.Comma ∷ kind.Arrow ∷ kind.LeftBracket ∷ kind.Star ∷ kind.Slash ∷ kind.Percent ∷
    kind.Plus ∷ kind.ShiftLeft ∷ kind.ShiftRight ∷ kind.Less ∷ kind.LessEqual ∷ kind.Greater ∷
    kind.GreaterEqual ∷ kind.EqualEqual ∷ kind.NotEqual ∷ kind.And ∷ kind.Xor ∷ kind.Or ∷ kind.AndAnd ∷
    kind.OrOr ∷ []
blocked_kinds rule.MoreArgs = kind.Comma ∷ kind.Arrow ∷ kind.LeftBracket ∷ kind.LeftParen ∷ kind.Star ∷
    kind.Slash ∷ kind.Percent ∷ kind.Plus ∷ kind.Minus ∷ kind.ShiftLeft ∷ kind.ShiftRight ∷ kind.Less ∷
    kind.LessEqual ∷ kind.Greater ∷ kind.GreaterEqual ∷ kind.EqualEqual ∷ kind.NotEqual ∷ kind.And ∷
    kind.Xor ∷ kind.Or ∷ kind.AndAnd ∷ kind.OrOr ∷ []
blocked_kinds rule.Postfix = kind.Arrow ∷ []
blocked_kinds rule.Arrows = kind.Arrow ∷ []
blocked_kinds rule.Primary = []
blocked_kinds rule.Constant = []
blocked_kinds rule.Unary = kind.Arrow ∷ kind.LeftBracket ∷ kind.LeftParen ∷ []
blocked_kinds rule.UnOp = []
blocked_kinds rule.CastType = []
blocked_kinds rule.MapUnary = kind.Arrow ∷ kind.LeftBracket ∷ kind.Dot ∷ []
blocked_kinds rule.MapName = kind.LeftBracket ∷ kind.Dot ∷ []
blocked_kinds rule.MapArrows = kind.Arrow ∷ []
blocked_kinds rule.AnyName = []
blocked_kinds rule.NewName = []
blocked_kinds rule.Entries = kind.PointWord ∷ kind.FieldWord ∷ kind.InitWord ∷ kind.CheckWord ∷
    kind.FunctionWord ∷ kind.Struct ∷ kind.GlobalWord ∷ kind.MutexWord ∷ []
blocked_kinds rule.Entry = kind.LeftBrace ∷ kind.Plus ∷ kind.Arrow ∷ kind.LeftBracket ∷ kind.Dot ∷
    kind.Star ∷ kind.Slash ∷ kind.Percent ∷ kind.Minus ∷ kind.ShiftLeft ∷ kind.ShiftRight ∷ kind.Less ∷
    kind.LessEqual ∷ kind.Greater ∷ kind.GreaterEqual ∷ kind.EqualEqual ∷ kind.NotEqual ∷ kind.And ∷
    kind.Xor ∷ kind.Or ∷ kind.AndAnd ∷ kind.OrOr ∷ []
blocked_kinds rule.OtherEntry = kind.Arrow ∷ kind.LeftBracket ∷ kind.Dot ∷ kind.Star ∷ kind.Slash ∷
    kind.Percent ∷ kind.Plus ∷ kind.Minus ∷ kind.ShiftLeft ∷ kind.ShiftRight ∷ kind.Less ∷ kind.LessEqual ∷
    kind.Greater ∷ kind.GreaterEqual ∷ kind.EqualEqual ∷ kind.NotEqual ∷ kind.And ∷ kind.Xor ∷ kind.Or ∷
    kind.AndAnd ∷ kind.OrOr ∷ []
blocked_kinds rule.Side = []
blocked_kinds rule.Target = []
blocked_kinds rule.Pt = []
blocked_kinds rule.PtWord = []
blocked_kinds rule.Fills = kind.LeftBrace ∷ []
blocked_kinds rule.FillList = kind.NoneWord ∷ kind.Dot ∷ kind.Name ∷ kind.FunctionWord ∷ kind.GlobalWord ∷
    kind.MutexWord ∷ kind.FieldWord ∷ kind.InitWord ∷ kind.PointWord ∷ kind.CheckWord ∷ kind.EntryWord ∷
    kind.LoopWord ∷ kind.CallWord ∷ kind.BlockWord ∷ []
blocked_kinds rule.FillName = kind.Dot ∷ []
blocked_kinds rule.FillNumber = kind.Dot ∷ []
blocked_kinds rule.Parts = kind.LeftBrace ∷ kind.Plus ∷ []
blocked_kinds rule.SecondPart = kind.Plus ∷ kind.LeftBrace ∷ []
blocked_kinds rule.ThirdPart = kind.Plus ∷ kind.LeftBrace ∷ []
blocked_kinds rule.FourthPart = kind.Plus ∷ kind.LeftBrace ∷ []
blocked_kinds rule.AddedPart = kind.LeftBrace ∷ []
blocked_kinds rule.FirstEntries = kind.FieldWord ∷ kind.InitWord ∷ kind.CheckWord ∷ kind.PointWord ∷
    kind.FunctionWord ∷ kind.Struct ∷ kind.GlobalWord ∷ kind.MutexWord ∷ []
blocked_kinds rule.FirstEntry = kind.Arrow ∷ kind.LeftBracket ∷ kind.Dot ∷ kind.Star ∷ kind.Slash ∷
    kind.Percent ∷ kind.Plus ∷ kind.Minus ∷ kind.ShiftLeft ∷ kind.ShiftRight ∷ kind.Less ∷ kind.LessEqual ∷
    kind.Greater ∷ kind.GreaterEqual ∷ kind.EqualEqual ∷ kind.NotEqual ∷ kind.And ∷ kind.Xor ∷ kind.Or ∷
    kind.AndAnd ∷ kind.OrOr ∷ kind.LeftBrace ∷ []
blocked_kinds rule.OnlyPart = kind.LeftBrace ∷ []
blocked_kinds rule.Mul = kind.Arrow ∷ kind.LeftBracket ∷ kind.LeftParen ∷ kind.Star ∷ kind.Slash ∷
    kind.Percent ∷ []
blocked_kinds rule.MulTail = kind.Star ∷ kind.Slash ∷ kind.Percent ∷ kind.Arrow ∷ kind.LeftBracket ∷
    kind.LeftParen ∷ []
blocked_kinds rule.Add = kind.Arrow ∷ kind.LeftBracket ∷ kind.LeftParen ∷ kind.Star ∷ kind.Slash ∷
    kind.Percent ∷ kind.Plus ∷ kind.Minus ∷ []
blocked_kinds rule.AddTail = kind.Plus ∷ kind.Minus ∷ kind.Arrow ∷ kind.LeftBracket ∷ kind.LeftParen ∷
    kind.Star ∷ kind.Slash ∷ kind.Percent ∷ []
blocked_kinds rule.Shift = kind.Arrow ∷ kind.LeftBracket ∷ kind.LeftParen ∷ kind.Star ∷ kind.Slash ∷
    kind.Percent ∷ kind.Plus ∷ kind.Minus ∷ kind.ShiftLeft ∷ kind.ShiftRight ∷ []
blocked_kinds rule.ShiftTail = kind.ShiftLeft ∷ kind.ShiftRight ∷ kind.Arrow ∷ kind.LeftBracket ∷
    kind.LeftParen ∷ kind.Star ∷ kind.Slash ∷ kind.Percent ∷ kind.Plus ∷ kind.Minus ∷ []
blocked_kinds rule.Order = kind.Arrow ∷ kind.LeftBracket ∷ kind.LeftParen ∷ kind.Star ∷ kind.Slash ∷
    kind.Percent ∷ kind.Plus ∷ kind.Minus ∷ kind.ShiftLeft ∷ kind.ShiftRight ∷ kind.Less ∷ kind.LessEqual ∷
    kind.Greater ∷ kind.GreaterEqual ∷ []
blocked_kinds rule.OrderTail = kind.Less ∷ kind.LessEqual ∷ kind.Greater ∷ kind.GreaterEqual ∷ kind.Arrow ∷
    kind.LeftBracket ∷ kind.LeftParen ∷ kind.Star ∷ kind.Slash ∷ kind.Percent ∷ kind.Plus ∷ kind.Minus ∷
    kind.ShiftLeft ∷ kind.ShiftRight ∷ []
blocked_kinds rule.Equal = kind.Arrow ∷ kind.LeftBracket ∷ kind.LeftParen ∷ kind.Star ∷ kind.Slash ∷
    kind.Percent ∷ kind.Plus ∷ kind.Minus ∷ kind.ShiftLeft ∷ kind.ShiftRight ∷ kind.Less ∷ kind.LessEqual ∷
    kind.Greater ∷ kind.GreaterEqual ∷ kind.EqualEqual ∷ kind.NotEqual ∷ []
blocked_kinds rule.EqualTail = kind.EqualEqual ∷ kind.NotEqual ∷ kind.Arrow ∷ kind.LeftBracket ∷
    kind.LeftParen ∷ kind.Star ∷ kind.Slash ∷ kind.Percent ∷ kind.Plus ∷ kind.Minus ∷ kind.ShiftLeft ∷
    kind.ShiftRight ∷ kind.Less ∷ kind.LessEqual ∷ kind.Greater ∷ kind.GreaterEqual ∷ []
blocked_kinds rule.BitAnd = kind.Arrow ∷ kind.LeftBracket ∷ kind.LeftParen ∷ kind.Star ∷ kind.Slash ∷
    kind.Percent ∷ kind.Plus ∷ kind.Minus ∷ kind.ShiftLeft ∷ kind.ShiftRight ∷ kind.Less ∷ kind.LessEqual ∷
    kind.Greater ∷ kind.GreaterEqual ∷ kind.EqualEqual ∷ kind.NotEqual ∷ kind.And ∷ []
blocked_kinds rule.BitAndTail = kind.And ∷ kind.Arrow ∷ kind.LeftBracket ∷ kind.LeftParen ∷ kind.Star ∷
    kind.Slash ∷ kind.Percent ∷ kind.Plus ∷ kind.Minus ∷ kind.ShiftLeft ∷ kind.ShiftRight ∷ kind.Less ∷
    kind.LessEqual ∷ kind.Greater ∷ kind.GreaterEqual ∷ kind.EqualEqual ∷ kind.NotEqual ∷ []
blocked_kinds rule.BitXor = kind.Arrow ∷ kind.LeftBracket ∷ kind.LeftParen ∷ kind.Star ∷ kind.Slash ∷
    kind.Percent ∷ kind.Plus ∷ kind.Minus ∷ kind.ShiftLeft ∷ kind.ShiftRight ∷ kind.Less ∷ kind.LessEqual ∷
    kind.Greater ∷ kind.GreaterEqual ∷ kind.EqualEqual ∷ kind.NotEqual ∷ kind.And ∷ kind.Xor ∷ []
blocked_kinds rule.BitXorTail = kind.Xor ∷ kind.Arrow ∷ kind.LeftBracket ∷ kind.LeftParen ∷ kind.Star ∷
    kind.Slash ∷ kind.Percent ∷ kind.Plus ∷ kind.Minus ∷ kind.ShiftLeft ∷ kind.ShiftRight ∷ kind.Less ∷
    kind.LessEqual ∷ kind.Greater ∷ kind.GreaterEqual ∷ kind.EqualEqual ∷ kind.NotEqual ∷ kind.And ∷ []
blocked_kinds rule.BitOr = kind.Arrow ∷ kind.LeftBracket ∷ kind.LeftParen ∷ kind.Star ∷ kind.Slash ∷
    kind.Percent ∷ kind.Plus ∷ kind.Minus ∷ kind.ShiftLeft ∷ kind.ShiftRight ∷ kind.Less ∷ kind.LessEqual ∷
    kind.Greater ∷ kind.GreaterEqual ∷ kind.EqualEqual ∷ kind.NotEqual ∷ kind.And ∷ kind.Xor ∷ kind.Or ∷ []
blocked_kinds rule.BitOrTail = kind.Or ∷ kind.Arrow ∷ kind.LeftBracket ∷ kind.LeftParen ∷ kind.Star ∷
    kind.Slash ∷ kind.Percent ∷ kind.Plus ∷ kind.Minus ∷ kind.ShiftLeft ∷ kind.ShiftRight ∷ kind.Less ∷
    kind.LessEqual ∷ kind.Greater ∷ kind.GreaterEqual ∷ kind.EqualEqual ∷ kind.NotEqual ∷ kind.And ∷
    kind.Xor ∷ []
blocked_kinds rule.AndAnd = kind.Arrow ∷ kind.LeftBracket ∷ kind.LeftParen ∷ kind.Star ∷ kind.Slash ∷
    kind.Percent ∷ kind.Plus ∷ kind.Minus ∷ kind.ShiftLeft ∷ kind.ShiftRight ∷ kind.Less ∷ kind.LessEqual ∷
    kind.Greater ∷ kind.GreaterEqual ∷ kind.EqualEqual ∷ kind.NotEqual ∷ kind.And ∷ kind.Xor ∷ kind.Or ∷
    kind.AndAnd ∷ []
blocked_kinds rule.AndAndTail = kind.AndAnd ∷ kind.Arrow ∷ kind.LeftBracket ∷ kind.LeftParen ∷ kind.Star ∷
    kind.Slash ∷ kind.Percent ∷ kind.Plus ∷ kind.Minus ∷ kind.ShiftLeft ∷ kind.ShiftRight ∷ kind.Less ∷
    kind.LessEqual ∷ kind.Greater ∷ kind.GreaterEqual ∷ kind.EqualEqual ∷ kind.NotEqual ∷ kind.And ∷
    kind.Xor ∷ kind.Or ∷ []
blocked_kinds rule.Expr = kind.Arrow ∷ kind.LeftBracket ∷ kind.LeftParen ∷ kind.Star ∷ kind.Slash ∷
    kind.Percent ∷ kind.Plus ∷ kind.Minus ∷ kind.ShiftLeft ∷ kind.ShiftRight ∷ kind.Less ∷ kind.LessEqual ∷
    kind.Greater ∷ kind.GreaterEqual ∷ kind.EqualEqual ∷ kind.NotEqual ∷ kind.And ∷ kind.Xor ∷ kind.Or ∷
    kind.AndAnd ∷ kind.OrOr ∷ []
blocked_kinds rule.ExprTail = kind.OrOr ∷ kind.Arrow ∷ kind.LeftBracket ∷ kind.LeftParen ∷ kind.Star ∷
    kind.Slash ∷ kind.Percent ∷ kind.Plus ∷ kind.Minus ∷ kind.ShiftLeft ∷ kind.ShiftRight ∷ kind.Less ∷
    kind.LessEqual ∷ kind.Greater ∷ kind.GreaterEqual ∷ kind.EqualEqual ∷ kind.NotEqual ∷ kind.And ∷
    kind.Xor ∷ kind.Or ∷ kind.AndAnd ∷ []
blocked_kinds rule.MapMul = kind.Arrow ∷ kind.LeftBracket ∷ kind.Dot ∷ kind.Star ∷ kind.Slash ∷
    kind.Percent ∷ []
blocked_kinds rule.MapMulTail = kind.Star ∷ kind.Slash ∷ kind.Percent ∷ kind.Arrow ∷ kind.LeftBracket ∷
    kind.Dot ∷ []
blocked_kinds rule.MapAdd = kind.Arrow ∷ kind.LeftBracket ∷ kind.Dot ∷ kind.Star ∷ kind.Slash ∷
    kind.Percent ∷ kind.Plus ∷ kind.Minus ∷ []
blocked_kinds rule.MapAddTail = kind.Plus ∷ kind.Minus ∷ kind.Arrow ∷ kind.LeftBracket ∷ kind.Dot ∷
    kind.Star ∷ kind.Slash ∷ kind.Percent ∷ []
blocked_kinds rule.MapShift = kind.Arrow ∷ kind.LeftBracket ∷ kind.Dot ∷ kind.Star ∷ kind.Slash ∷
    kind.Percent ∷ kind.Plus ∷ kind.Minus ∷ kind.ShiftLeft ∷ kind.ShiftRight ∷ []
blocked_kinds rule.MapShiftTail = kind.ShiftLeft ∷ kind.ShiftRight ∷ kind.Arrow ∷ kind.LeftBracket ∷
    kind.Dot ∷ kind.Star ∷ kind.Slash ∷ kind.Percent ∷ kind.Plus ∷ kind.Minus ∷ []
blocked_kinds rule.MapOrder = kind.Arrow ∷ kind.LeftBracket ∷ kind.Dot ∷ kind.Star ∷ kind.Slash ∷
    kind.Percent ∷ kind.Plus ∷ kind.Minus ∷ kind.ShiftLeft ∷ kind.ShiftRight ∷ kind.Less ∷ kind.LessEqual ∷
    kind.Greater ∷ kind.GreaterEqual ∷ []
blocked_kinds rule.MapOrderTail = kind.Less ∷ kind.LessEqual ∷ kind.Greater ∷ kind.GreaterEqual ∷
    kind.Arrow ∷ kind.LeftBracket ∷ kind.Dot ∷ kind.Star ∷ kind.Slash ∷ kind.Percent ∷ kind.Plus ∷
    kind.Minus ∷ kind.ShiftLeft ∷ kind.ShiftRight ∷ []
blocked_kinds rule.MapEqual = kind.Arrow ∷ kind.LeftBracket ∷ kind.Dot ∷ kind.Star ∷ kind.Slash ∷
    kind.Percent ∷ kind.Plus ∷ kind.Minus ∷ kind.ShiftLeft ∷ kind.ShiftRight ∷ kind.Less ∷ kind.LessEqual ∷
    kind.Greater ∷ kind.GreaterEqual ∷ kind.EqualEqual ∷ kind.NotEqual ∷ []
blocked_kinds rule.MapEqualTail = kind.EqualEqual ∷ kind.NotEqual ∷ kind.Arrow ∷ kind.LeftBracket ∷
    kind.Dot ∷ kind.Star ∷ kind.Slash ∷ kind.Percent ∷ kind.Plus ∷ kind.Minus ∷ kind.ShiftLeft ∷
    kind.ShiftRight ∷ kind.Less ∷ kind.LessEqual ∷ kind.Greater ∷ kind.GreaterEqual ∷ []
blocked_kinds rule.MapBitAnd = kind.Arrow ∷ kind.LeftBracket ∷ kind.Dot ∷ kind.Star ∷ kind.Slash ∷
    kind.Percent ∷ kind.Plus ∷ kind.Minus ∷ kind.ShiftLeft ∷ kind.ShiftRight ∷ kind.Less ∷ kind.LessEqual ∷
    kind.Greater ∷ kind.GreaterEqual ∷ kind.EqualEqual ∷ kind.NotEqual ∷ kind.And ∷ []
blocked_kinds rule.MapBitAndTail = kind.And ∷ kind.Arrow ∷ kind.LeftBracket ∷ kind.Dot ∷ kind.Star ∷
    kind.Slash ∷ kind.Percent ∷ kind.Plus ∷ kind.Minus ∷ kind.ShiftLeft ∷ kind.ShiftRight ∷ kind.Less ∷
    kind.LessEqual ∷ kind.Greater ∷ kind.GreaterEqual ∷ kind.EqualEqual ∷ kind.NotEqual ∷ []
blocked_kinds rule.MapBitXor = kind.Arrow ∷ kind.LeftBracket ∷ kind.Dot ∷ kind.Star ∷ kind.Slash ∷
    kind.Percent ∷ kind.Plus ∷ kind.Minus ∷ kind.ShiftLeft ∷ kind.ShiftRight ∷ kind.Less ∷ kind.LessEqual ∷
    kind.Greater ∷ kind.GreaterEqual ∷ kind.EqualEqual ∷ kind.NotEqual ∷ kind.And ∷ kind.Xor ∷ []
blocked_kinds rule.MapBitXorTail = kind.Xor ∷ kind.Arrow ∷ kind.LeftBracket ∷ kind.Dot ∷ kind.Star ∷
    kind.Slash ∷ kind.Percent ∷ kind.Plus ∷ kind.Minus ∷ kind.ShiftLeft ∷ kind.ShiftRight ∷ kind.Less ∷
    kind.LessEqual ∷ kind.Greater ∷ kind.GreaterEqual ∷ kind.EqualEqual ∷ kind.NotEqual ∷ kind.And ∷ []
blocked_kinds rule.MapBitOr = kind.Arrow ∷ kind.LeftBracket ∷ kind.Dot ∷ kind.Star ∷ kind.Slash ∷
    kind.Percent ∷ kind.Plus ∷ kind.Minus ∷ kind.ShiftLeft ∷ kind.ShiftRight ∷ kind.Less ∷ kind.LessEqual ∷
    kind.Greater ∷ kind.GreaterEqual ∷ kind.EqualEqual ∷ kind.NotEqual ∷ kind.And ∷ kind.Xor ∷ kind.Or ∷ []
blocked_kinds rule.MapBitOrTail = kind.Or ∷ kind.Arrow ∷ kind.LeftBracket ∷ kind.Dot ∷ kind.Star ∷
    kind.Slash ∷ kind.Percent ∷ kind.Plus ∷ kind.Minus ∷ kind.ShiftLeft ∷ kind.ShiftRight ∷ kind.Less ∷
    kind.LessEqual ∷ kind.Greater ∷ kind.GreaterEqual ∷ kind.EqualEqual ∷ kind.NotEqual ∷ kind.And ∷
    kind.Xor ∷ []
blocked_kinds rule.MapAndAnd = kind.Arrow ∷ kind.LeftBracket ∷ kind.Dot ∷ kind.Star ∷ kind.Slash ∷
    kind.Percent ∷ kind.Plus ∷ kind.Minus ∷ kind.ShiftLeft ∷ kind.ShiftRight ∷ kind.Less ∷ kind.LessEqual ∷
    kind.Greater ∷ kind.GreaterEqual ∷ kind.EqualEqual ∷ kind.NotEqual ∷ kind.And ∷ kind.Xor ∷ kind.Or ∷
    kind.AndAnd ∷ []
blocked_kinds rule.MapAndAndTail = kind.AndAnd ∷ kind.Arrow ∷ kind.LeftBracket ∷ kind.Dot ∷ kind.Star ∷
    kind.Slash ∷ kind.Percent ∷ kind.Plus ∷ kind.Minus ∷ kind.ShiftLeft ∷ kind.ShiftRight ∷ kind.Less ∷
    kind.LessEqual ∷ kind.Greater ∷ kind.GreaterEqual ∷ kind.EqualEqual ∷ kind.NotEqual ∷ kind.And ∷
    kind.Xor ∷ kind.Or ∷ []
blocked_kinds rule.MapExpr = kind.Arrow ∷ kind.LeftBracket ∷ kind.Dot ∷ kind.Star ∷ kind.Slash ∷
    kind.Percent ∷ kind.Plus ∷ kind.Minus ∷ kind.ShiftLeft ∷ kind.ShiftRight ∷ kind.Less ∷ kind.LessEqual ∷
    kind.Greater ∷ kind.GreaterEqual ∷ kind.EqualEqual ∷ kind.NotEqual ∷ kind.And ∷ kind.Xor ∷ kind.Or ∷
    kind.AndAnd ∷ kind.OrOr ∷ []
blocked_kinds rule.MapExprTail = kind.OrOr ∷ kind.Arrow ∷ kind.LeftBracket ∷ kind.Dot ∷ kind.Star ∷
    kind.Slash ∷ kind.Percent ∷ kind.Plus ∷ kind.Minus ∷ kind.ShiftLeft ∷ kind.ShiftRight ∷ kind.Less ∷
    kind.LessEqual ∷ kind.Greater ∷ kind.GreaterEqual ∷ kind.EqualEqual ∷ kind.NotEqual ∷ kind.And ∷
    kind.Xor ∷ kind.Or ∷ kind.AndAnd ∷ []
blocked_kinds rule.MulOp = []
blocked_kinds rule.AddOp = []
blocked_kinds rule.ShiftOp = []
blocked_kinds rule.OrderOp = []
blocked_kinds rule.EqualOp = []
blocked_kinds rule.BitAndOp = []
blocked_kinds rule.BitXorOp = []
blocked_kinds rule.BitOrOp = []
blocked_kinds rule.AndAndOp = []
blocked_kinds rule.OrOrOp = []
blocked_kinds rule.StaticItem = []
blocked_kinds rule.AfterStruct = []
blocked_kinds rule.AfterVoid = []
blocked_kinds rule.Declared = []
blocked_kinds rule.AfterVoidParam = kind.Star ∷ kind.Comma ∷ []
blocked_kinds rule.AfterName = kind.Arrow ∷ kind.LeftBracket ∷ kind.LeftParen ∷ kind.Star ∷ kind.Slash ∷
    kind.Percent ∷ kind.Plus ∷ kind.Minus ∷ kind.ShiftLeft ∷ kind.ShiftRight ∷ kind.Less ∷ kind.LessEqual ∷
    kind.Greater ∷ kind.GreaterEqual ∷ kind.EqualEqual ∷ kind.NotEqual ∷ kind.And ∷ kind.Xor ∷ kind.Or ∷
    kind.AndAnd ∷ kind.OrOr ∷ []
blocked_kinds rule.AssignTail = kind.Arrow ∷ kind.LeftBracket ∷ kind.LeftParen ∷ kind.Star ∷ kind.Slash ∷
    kind.Percent ∷ kind.Plus ∷ kind.Minus ∷ kind.ShiftLeft ∷ kind.ShiftRight ∷ kind.Less ∷ kind.LessEqual ∷
    kind.Greater ∷ kind.GreaterEqual ∷ kind.EqualEqual ∷ kind.NotEqual ∷ kind.And ∷ kind.Xor ∷ kind.Or ∷
    kind.AndAnd ∷ kind.OrOr ∷ []
blocked_kinds rule.AfterPlace = kind.Arrow ∷ kind.LeftBracket ∷ kind.LeftParen ∷ kind.Star ∷ kind.Slash ∷
    kind.Percent ∷ kind.Plus ∷ kind.Minus ∷ kind.ShiftLeft ∷ kind.ShiftRight ∷ kind.Less ∷ kind.LessEqual ∷
    kind.Greater ∷ kind.GreaterEqual ∷ kind.EqualEqual ∷ kind.NotEqual ∷ kind.And ∷ kind.Xor ∷ kind.Or ∷
    kind.AndAnd ∷ kind.OrOr ∷ []
blocked_kinds rule.FieldTail = kind.Arrow ∷ kind.LeftBracket ∷ kind.LeftParen ∷ kind.Star ∷ kind.Slash ∷
    kind.Percent ∷ kind.Plus ∷ kind.Minus ∷ kind.ShiftLeft ∷ kind.ShiftRight ∷ kind.Less ∷ kind.LessEqual ∷
    kind.Greater ∷ kind.GreaterEqual ∷ kind.EqualEqual ∷ kind.NotEqual ∷ kind.And ∷ kind.Xor ∷ kind.Or ∷
    kind.AndAnd ∷ kind.OrOr ∷ []
blocked_kinds rule.AfterCall = kind.Arrow ∷ kind.LeftBracket ∷ kind.LeftParen ∷ kind.Star ∷ kind.Slash ∷
    kind.Percent ∷ kind.Plus ∷ kind.Minus ∷ kind.ShiftLeft ∷ kind.ShiftRight ∷ kind.Less ∷ kind.LessEqual ∷
    kind.Greater ∷ kind.GreaterEqual ∷ kind.EqualEqual ∷ kind.NotEqual ∷ kind.And ∷ kind.Xor ∷ kind.Or ∷
    kind.AndAnd ∷ kind.OrOr ∷ []
blocked_kinds rule.LvName = kind.LeftBracket ∷ kind.LeftParen ∷ kind.Arrow ∷ []
blocked_kinds rule.LvTail = kind.Arrow ∷ []
blocked_kinds rule.AfterParen = kind.Arrow ∷ kind.LeftBracket ∷ kind.LeftParen ∷ []
blocked_kinds rule.NameTail = kind.LeftBracket ∷ kind.LeftParen ∷ []

-- the rules that the reader expands
abbrev pub used_rules : Rule → Bool
used_rules rule.StructDef = false
used_rules rule.GlobalDef = false
used_rules rule.MutexDef = false
used_rules rule.FunctionDef = false
used_rules rule.Call = false
used_rules rule.Postfix = false
used_rules rule.Primary = false
used_rules r = true

-- a number for each rule, above what its alternatives hold before they take a token
abbrev pub rank : Rule → ℕ
rank rule.Items = 3
rank rule.Item = 2
rank rule.Directive = 1
rank rule.StructDef = 9
rank rule.Fields = 2
rank rule.Type = 1
rank rule.GlobalDef = 9
rank rule.GlobalRest = 1
rank rule.Count = 1
rank rule.Const = 1
rank rule.MutexDef = 9
rank rule.Mutex = 1
rank rule.MutexInit = 1
rank rule.FunctionDef = 9
rank rule.Params = 2
rank rule.MoreParams = 1
rank rule.Body = 2
rank rule.Block = 1
rank rule.BlockItems = 5
rank rule.Decl = 1
rank rule.IntItem = 1
rank rule.IntItems = 1
rank rule.PtrItem = 1
rank rule.PtrItems = 1
rank rule.Init = 2
rank rule.Stmt = 4
rank rule.ElsePart = 3
rank rule.ForInit = 4
rank rule.OptExpr = 14
rank rule.OptSimple = 4
rank rule.Simple = 2
rank rule.PrintArgs = 1
rank rule.Asgop = 1
rank rule.Incdec = 1
rank rule.PreOp = 1
rank rule.Lvalue = 2
rank rule.Call = 9
rank rule.WordCall = 1
rank rule.MallocRest = 1
rank rule.CreateRest = 1
rank rule.JoinRest = 1
rank rule.LockRest = 1
rank rule.Args = 13
rank rule.MoreArgs = 1
rank rule.Postfix = 9
rank rule.Arrows = 1
rank rule.Primary = 9
rank rule.Constant = 1
rank rule.Unary = 2
rank rule.UnOp = 1
rank rule.CastType = 1
rank rule.MapUnary = 3
rank rule.MapName = 2
rank rule.MapArrows = 1
rank rule.AnyName = 2
rank rule.NewName = 1
rank rule.Entries = 4
rank rule.Entry = 3
rank rule.OtherEntry = 2
rank rule.Side = 1
rank rule.Target = 2
rank rule.Pt = 2
rank rule.PtWord = 1
rank rule.Fills = 2
rank rule.FillList = 4
rank rule.FillName = 3
rank rule.FillNumber = 1
rank rule.Parts = 3
rank rule.SecondPart = 2
rank rule.ThirdPart = 2
rank rule.FourthPart = 2
rank rule.AddedPart = 3
rank rule.FirstEntries = 4
rank rule.FirstEntry = 3
rank rule.OnlyPart = 3
rank rule.Mul = 3
rank rule.MulTail = 2
rank rule.Add = 4
rank rule.AddTail = 2
rank rule.Shift = 5
rank rule.ShiftTail = 2
rank rule.Order = 6
rank rule.OrderTail = 2
rank rule.Equal = 7
rank rule.EqualTail = 2
rank rule.BitAnd = 8
rank rule.BitAndTail = 2
rank rule.BitXor = 9
rank rule.BitXorTail = 2
rank rule.BitOr = 10
rank rule.BitOrTail = 2
rank rule.AndAnd = 11
rank rule.AndAndTail = 2
rank rule.Expr = 12
rank rule.ExprTail = 2
rank rule.MapMul = 4
rank rule.MapMulTail = 2
rank rule.MapAdd = 5
rank rule.MapAddTail = 2
rank rule.MapShift = 6
rank rule.MapShiftTail = 2
rank rule.MapOrder = 7
rank rule.MapOrderTail = 2
rank rule.MapEqual = 8
rank rule.MapEqualTail = 2
rank rule.MapBitAnd = 9
rank rule.MapBitAndTail = 2
rank rule.MapBitXor = 10
rank rule.MapBitXorTail = 2
rank rule.MapBitOr = 11
rank rule.MapBitOrTail = 2
rank rule.MapAndAnd = 12
rank rule.MapAndAndTail = 2
rank rule.MapExpr = 13
rank rule.MapExprTail = 2
rank rule.MulOp = 1
rank rule.AddOp = 1
rank rule.ShiftOp = 1
rank rule.OrderOp = 1
rank rule.EqualOp = 1
rank rule.BitAndOp = 1
rank rule.BitXorOp = 1
rank rule.BitOrOp = 1
rank rule.AndAndOp = 1
rank rule.OrOrOp = 1
rank rule.StaticItem = 1
rank rule.AfterStruct = 1
rank rule.AfterVoid = 2
rank rule.Declared = 2
rank rule.AfterVoidParam = 2
rank rule.AfterName = 4
rank rule.AssignTail = 2
rank rule.AfterPlace = 3
rank rule.FieldTail = 1
rank rule.AfterCall = 2
rank rule.LvName = 3
rank rule.LvTail = 1
rank rule.AfterParen = 13
rank rule.NameTail = 2

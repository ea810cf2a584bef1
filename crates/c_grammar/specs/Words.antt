-- The words with a meaning, and the signs. Written by tools/reader_tables.py.
use Rattle.std.specs.Prelude.{ℕ, List, [], ◌∷◌, codes}
use Rattle.c_grammar.specs.declared.kind.Kind.{Kind}
use Rattle.c_grammar.specs.declared.kind.Kind.TheVariants as kind

-- a word with its kind
pub record Entry : Type 0 where
  pub text : List ℕ
  pub kind : Kind

-- the words that are no names
unfoldable pub words : List Entry
words =
    record { text = codes "int"; kind = kind.Int } ∷
    record { text = codes "void"; kind = kind.Void } ∷
    record { text = codes "struct"; kind = kind.Struct } ∷
    record { text = codes "if"; kind = kind.If } ∷
    record { text = codes "else"; kind = kind.Else } ∷
    record { text = codes "while"; kind = kind.While } ∷
    record { text = codes "for"; kind = kind.For } ∷
    record { text = codes "break"; kind = kind.Break } ∷
    record { text = codes "continue"; kind = kind.Continue } ∷
    record { text = codes "return"; kind = kind.Return } ∷
    record { text = codes "static"; kind = kind.Static } ∷
    record { text = codes "sizeof"; kind = kind.Sizeof } ∷
    record { text = codes "NULL"; kind = kind.Null } ∷
    record { text = codes "EOF"; kind = kind.Eof } ∷
    record { text = codes "printf"; kind = kind.Printf } ∷
    record { text = codes "malloc"; kind = kind.Malloc } ∷
    record { text = codes "free"; kind = kind.Free } ∷
    record { text = codes "getchar"; kind = kind.Getchar } ∷
    record { text = codes "pthread_t"; kind = kind.Thread } ∷
    record { text = codes "pthread_mutex_t"; kind = kind.Mutex } ∷
    record { text = codes "pthread_create"; kind = kind.Create } ∷
    record { text = codes "pthread_join"; kind = kind.Join } ∷
    record { text = codes "pthread_mutex_lock"; kind = kind.Lock } ∷
    record { text = codes "pthread_mutex_unlock"; kind = kind.Unlock } ∷
    record { text = codes "PTHREAD_MUTEX_INITIALIZER"; kind = kind.Initializer } ∷
    record { text = codes "char"; kind = kind.LeftOut } ∷
    record { text = codes "unsigned"; kind = kind.LeftOut } ∷
    record { text = codes "signed"; kind = kind.LeftOut } ∷
    record { text = codes "short"; kind = kind.LeftOut } ∷
    record { text = codes "long"; kind = kind.LeftOut } ∷
    record { text = codes "float"; kind = kind.LeftOut } ∷
    record { text = codes "double"; kind = kind.LeftOut } ∷
    record { text = codes "union"; kind = kind.LeftOut } ∷
    record { text = codes "enum"; kind = kind.LeftOut } ∷
    record { text = codes "typedef"; kind = kind.LeftOut } ∷
    record { text = codes "switch"; kind = kind.LeftOut } ∷
    record { text = codes "case"; kind = kind.LeftOut } ∷
    record { text = codes "default"; kind = kind.LeftOut } ∷
    record { text = codes "goto"; kind = kind.LeftOut } ∷
    record { text = codes "do"; kind = kind.LeftOut } ∷
    record { text = codes "const"; kind = kind.LeftOut } ∷
    record { text = codes "volatile"; kind = kind.LeftOut } ∷
    record { text = codes "extern"; kind = kind.LeftOut } ∷
    record { text = codes "register"; kind = kind.LeftOut } ∷
    record { text = codes "auto"; kind = kind.LeftOut } ∷
    record { text = codes "inline"; kind = kind.LeftOut } ∷
    []

-- the names that have a meaning in mappings
unfoldable pub map_words : List Entry
map_words =
    record { text = codes "function"; kind = kind.FunctionWord } ∷
    record { text = codes "global"; kind = kind.GlobalWord } ∷
    record { text = codes "mutex"; kind = kind.MutexWord } ∷
    record { text = codes "field"; kind = kind.FieldWord } ∷
    record { text = codes "init"; kind = kind.InitWord } ∷
    record { text = codes "point"; kind = kind.PointWord } ∷
    record { text = codes "check"; kind = kind.CheckWord } ∷
    record { text = codes "entry"; kind = kind.EntryWord } ∷
    record { text = codes "loop"; kind = kind.LoopWord } ∷
    record { text = codes "call"; kind = kind.CallWord } ∷
    record { text = codes "block"; kind = kind.BlockWord } ∷
    record { text = codes "none"; kind = kind.NoneWord } ∷
    []

-- the signs, in the order of their numbers
unfoldable pub signs : List Kind
signs = kind.Plus ∷ kind.Minus ∷ kind.Star ∷ kind.Slash ∷ kind.Percent ∷ kind.ShiftLeft ∷ kind.ShiftRight ∷
    kind.Less ∷ kind.LessEqual ∷ kind.Greater ∷ kind.GreaterEqual ∷ kind.EqualEqual ∷ kind.NotEqual ∷
    kind.And ∷ kind.Xor ∷ kind.Or ∷ kind.AndAnd ∷ kind.OrOr ∷ kind.Bang ∷ kind.Tilde ∷ kind.Equal ∷
    kind.PlusEqual ∷ kind.MinusEqual ∷ kind.StarEqual ∷ kind.SlashEqual ∷ kind.PercentEqual ∷ kind.AndEqual ∷
    kind.XorEqual ∷ kind.OrEqual ∷ kind.ShiftLeftEqual ∷ kind.ShiftRightEqual ∷ kind.PlusPlus ∷
    kind.MinusMinus ∷ kind.Arrow ∷ kind.LeftParen ∷ kind.RightParen ∷ kind.LeftBracket ∷ kind.RightBracket ∷
    kind.LeftBrace ∷ kind.RightBrace ∷ kind.Comma ∷ kind.Semicolon ∷ kind.Dot ∷ kind.Question ∷ kind.Colon ∷ []

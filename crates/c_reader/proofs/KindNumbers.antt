-- A kind's number in the code is its number here. Written by tools/reader_tables.py.
use Rattle.std.proofs.Common.{◌≡◌, refl, ◌∙◌, sym, ap, Option, Some}
use Rattle.std.specs.Prelude.{nat_eq}
use denote.Enum.Declared.{tag_of}
use Rattle.c_grammar.specs.contracts.kind.Kind.{the_type}
use Rattle.c_grammar.specs.declared.kind.Kind.{Kind}
use Rattle.c_grammar.specs.declared.kind.Kind.TheVariants as kind
use Rattle.c_reader.specs.Choices.{code}
use Rattle.c_reader.specs.Picks.{is_kind}

tag_code : (k : Kind) → tag_of the_type k ≡ code k
tag_code kind.Name = refl
tag_code kind.Number = refl
tag_code kind.Char = refl
tag_code kind.String = refl
tag_code kind.Include = refl
tag_code kind.Define = refl
tag_code kind.LeftOut = refl
tag_code kind.Other = refl
tag_code kind.Int = refl
tag_code kind.Void = refl
tag_code kind.Struct = refl
tag_code kind.If = refl
tag_code kind.Else = refl
tag_code kind.While = refl
tag_code kind.For = refl
tag_code kind.Break = refl
tag_code kind.Continue = refl
tag_code kind.Return = refl
tag_code kind.Static = refl
tag_code kind.Sizeof = refl
tag_code kind.Null = refl
tag_code kind.Eof = refl
tag_code kind.Printf = refl
tag_code kind.Malloc = refl
tag_code kind.Free = refl
tag_code kind.Getchar = refl
tag_code kind.Thread = refl
tag_code kind.Mutex = refl
tag_code kind.Create = refl
tag_code kind.Join = refl
tag_code kind.Lock = refl
tag_code kind.Unlock = refl
tag_code kind.Initializer = refl
tag_code kind.Plus = refl
tag_code kind.Minus = refl
tag_code kind.Star = refl
tag_code kind.Slash = refl
tag_code kind.Percent = refl
tag_code kind.ShiftLeft = refl
tag_code kind.ShiftRight = refl
tag_code kind.Less = refl
tag_code kind.LessEqual = refl
tag_code kind.Greater = refl
tag_code kind.GreaterEqual = refl
tag_code kind.EqualEqual = refl
tag_code kind.NotEqual = refl
tag_code kind.And = refl
tag_code kind.Xor = refl
tag_code kind.Or = refl
tag_code kind.AndAnd = refl
tag_code kind.OrOr = refl
tag_code kind.Bang = refl
tag_code kind.Tilde = refl
tag_code kind.Equal = refl
tag_code kind.PlusEqual = refl
tag_code kind.MinusEqual = refl
tag_code kind.StarEqual = refl
tag_code kind.SlashEqual = refl
tag_code kind.PercentEqual = refl
tag_code kind.AndEqual = refl
tag_code kind.XorEqual = refl
tag_code kind.OrEqual = refl
tag_code kind.ShiftLeftEqual = refl
tag_code kind.ShiftRightEqual = refl
tag_code kind.PlusPlus = refl
tag_code kind.MinusMinus = refl
tag_code kind.Arrow = refl
tag_code kind.LeftParen = refl
tag_code kind.RightParen = refl
tag_code kind.LeftBracket = refl
tag_code kind.RightBracket = refl
tag_code kind.LeftBrace = refl
tag_code kind.RightBrace = refl
tag_code kind.Comma = refl
tag_code kind.Semicolon = refl
tag_code kind.Dot = refl
tag_code kind.Question = refl
tag_code kind.Colon = refl
tag_code kind.FunctionWord = refl
tag_code kind.GlobalWord = refl
tag_code kind.MutexWord = refl
tag_code kind.FieldWord = refl
tag_code kind.InitWord = refl
tag_code kind.PointWord = refl
tag_code kind.CheckWord = refl
tag_code kind.EntryWord = refl
tag_code kind.LoopWord = refl
tag_code kind.CallWord = refl
tag_code kind.BlockWord = refl
tag_code kind.NoneWord = refl

pub decided : (k n : Kind) (ahead : Option Kind) → ahead ≡ Some n → nat_eq (tag_of the_type k) (tag_of the_type n) ≡ is_kind k ahead
decided k n ahead e = ap (λ x. nat_eq x (tag_of the_type n)) (tag_code k) ∙ ap (λ x. nat_eq (code k) x) (tag_code n) ∙ ap (λ o. is_kind k o) (sym e)

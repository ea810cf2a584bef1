-- How operators are written, and how tightly they bind.
use Rattle.std.specs.Prelude.{ℕ, List, codes}
use Rattle.c_tree.specs.declared.op.UnOp.{UnOp}
use Rattle.c_tree.specs.declared.op.UnOp.TheVariants as un
use Rattle.c_tree.specs.declared.op.BinOp.{BinOp}
use Rattle.c_tree.specs.declared.op.BinOp.TheVariants as bin

-- a prefix operator
abbrev pub un_text : UnOp → List ℕ
un_text un.Neg = codes "-"
un_text un.Not = codes "!"
un_text un.Flip = codes "~"

-- a binary operator
abbrev pub bin_text : BinOp → List ℕ
bin_text bin.Mul = codes "*"
bin_text bin.Div = codes "/"
bin_text bin.Rem = codes "%"
bin_text bin.Add = codes "+"
bin_text bin.Sub = codes "-"
bin_text bin.Shl = codes "<<"
bin_text bin.Shr = codes ">>"
bin_text bin.Lt = codes "<"
bin_text bin.Le = codes "<="
bin_text bin.Gt = codes ">"
bin_text bin.Ge = codes ">="
bin_text bin.Eq = codes "=="
bin_text bin.Ne = codes "!="
bin_text bin.BitAnd = codes "&"
bin_text bin.BitXor = codes "^"
bin_text bin.BitOr = codes "|"
bin_text bin.And = codes "&&"
bin_text bin.Or = codes "||"

-- the strength of a binary operator, from 0 for the one that binds least
abbrev pub binding : BinOp → ℕ
binding bin.Or = 0
binding bin.And = 1
binding bin.BitOr = 2
binding bin.BitXor = 3
binding bin.BitAnd = 4
binding bin.Eq = 5
binding bin.Ne = 5
binding bin.Lt = 6
binding bin.Le = 6
binding bin.Gt = 6
binding bin.Ge = 6
binding bin.Shl = 7
binding bin.Shr = 7
binding bin.Add = 8
binding bin.Sub = 8
binding bin.Mul = 9
binding bin.Div = 9
binding bin.Rem = 9

-- the strength of a prefix operator, which binds more than each binary one
abbrev pub prefix_binding : ℕ
prefix_binding = 10

-- the strength of names, numbers, indices and fields, which never need parentheses
abbrev pub whole_binding : ℕ
whole_binding = 11

-- What stands at the front of the bytes.
use Rattle.std.specs.Prelude.{ℕ, ◌+◌, pos, nat_eq, nat_le, if◌then◌else◌, List, [], ◌∷◌, length, take, drop, Option, Some, None, Result, Ok, Err, codes}
use Rattle.std.specs.List.{starts_with}
use Rattle.c_tree.specs.declared.cause.ReadCause.{ReadCause}
use Rattle.c_tree.specs.declared.cause.ReadCause.TheVariants as cause
use Rattle.c_tree.specs.declared.token.TokenKind.TheVariants as kind
use Rattle.c_tokens.specs.declared.class.Class.{Class}
use Rattle.c_tokens.specs.declared.class.Class.TheVariants as class
use Rattle.c_tokens.specs.declared.quoted.Quoted.{Quoted}
use Rattle.c_tokens.specs.declared.quoted.Quoted.TheVariants as q
use Rattle.c_tokens.specs.declared.front.Front.{Front}
use Rattle.c_tokens.specs.declared.front.Front.TheVariants as front
use Rattle.c_tokens.specs.Byte.{class_of, name_run}
use Rattle.c_tokens.specs.Literal.{literal}
use Rattle.c_tokens.specs.Quoted.{constant}
use Rattle.c_tokens.specs.Operator.{operator, longest}
use Rattle.c_tokens.specs.Comment.{line_len, up_to_close}

-- a word of at most 64 bytes
abbrev pub word : List ℕ → Front
word run = if nat_le (length run) 64 then front.Token (kind.Word run) (length run) else front.Fault cause.BadToken

-- a literal, by its number or its fault, and the number of its bytes
abbrev pub number : Result ℕ ReadCause → ℕ → Front
number (Ok n) len = front.Token (kind.Number (pos n)) len
number (Err why) len = front.Fault why

-- a string; its end on the line is asked for first
abbrev pub string : Quoted → Front
string q.Open = front.Fault cause.Unclosed
string q.Wrong = front.Fault cause.BadToken
string (q.Closed text n) = front.Token (kind.Str text) n

-- a character constant holds exactly one byte
abbrev pub single : List ℕ → ℕ → Front
single (c ∷ []) n = front.Token (kind.Char (pos c)) n
single _ n = front.Fault cause.BadToken

-- a character constant, which is judged as a string is
abbrev pub character : Quoted → Front
character q.Open = front.Fault cause.Unclosed
character q.Wrong = front.Fault cause.BadToken
character (q.Closed text n) = single text n

-- a comment behind its `/*`
abbrev pub block : Option ℕ → Front
block None = front.Fault cause.Unclosed
block (Some n) = front.Comment (2 + n)

-- an operator, by its place; a byte that begins none begins no token
abbrev pub punct : Option ℕ → Front
punct None = front.Fault cause.BadByte
punct (Some place) = front.Token (kind.Punct place) (length (operator place))

-- a comment or an operator
abbrev pub sign : List ℕ → Front
sign bytes =
    if starts_with nat_eq bytes (codes "//") then front.Comment (line_len bytes)
    else if starts_with nat_eq bytes (codes "/*") then block (up_to_close (drop 2 bytes))
    else punct (longest bytes)

-- what stands at the front, by what the first byte says of it
abbrev pub of_class : Class → List ℕ → Front
of_class class.Blank bytes = front.Blank
of_class class.Digit bytes = let n = name_run bytes in number (literal (take n bytes)) n
of_class class.Letter bytes = word (take (name_run bytes) bytes)
of_class class.Quote bytes = string (constant 34 (drop 1 bytes))
of_class class.Apostrophe bytes = character (constant 39 (drop 1 bytes))
of_class class.Sign bytes = sign bytes

-- what stands at the front
abbrev pub front_of : List ℕ → Front
front_of [] = front.End
front_of (b ∷ rest) = of_class (class_of b) (b ∷ rest)

-- the number of bytes of what stands at the front
abbrev pub size_of : Front → ℕ
size_of front.End = 0
size_of front.Blank = 1
size_of (front.Comment n) = n
size_of (front.Token kind n) = n
size_of (front.Fault why) = 1

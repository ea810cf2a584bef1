-- The values that were read, the newest in front.
use Rattle.std.specs.Prelude.{ℕ, pos, List, [], ◌∷◌, Option, Some, None, false}
use Rattle.c_tree.specs.declared.token.Token.{Token}
use Rattle.c_tree.specs.declared.token.TokenKind.TheVariants as token
use Rattle.c_tree.specs.declared.ty.Ty.{Ty}
use Rattle.c_tree.specs.declared.ty.Ty.TheVariants as ty
use Rattle.c_tree.specs.declared.program.Expr.{Expr}
use Rattle.c_tree.specs.declared.program.ExprKind.{ExprKind}
use Rattle.c_tree.specs.declared.program.ExprKind.TheVariants as e
use Rattle.c_tree.specs.declared.program.Stmt.{Stmt}
use Rattle.c_tree.specs.declared.program.StmtKind.{StmtKind}
use Rattle.c_tree.specs.declared.program.StmtKind.TheVariants as s
use Rattle.c_tree.specs.declared.program.Field.{Field}
use Rattle.c_tree.specs.declared.program.At.{At}
use Rattle.c_tree.specs.declared.program.Count.{Count}
use Rattle.c_tree.specs.declared.program.Count.TheVariants as count
use Rattle.c_tree.specs.declared.program.Const.{Const}
use Rattle.c_tree.specs.declared.program.Const.TheVariants as const
use Rattle.c_tree.specs.declared.program.Define.{Define}
use Rattle.c_tree.specs.declared.program.Program.{Program}
use Rattle.c_tree.specs.declared.place.PlaceKind.TheVariants as place
use Rattle.c_tree.specs.declared.mapping.Fill.{Fill}
use Rattle.c_tree.specs.declared.mapping.Mapping.{Mapping}
use Rattle.c_tree.specs.declared.mapping.Part.{Part}
use Rattle.c_tree.specs.declared.mapping.Pt.{Pt}
use Rattle.c_grammar.specs.declared.value.Operand.{Operand}
use Rattle.c_grammar.specs.declared.value.Value.{Value}
use Rattle.c_grammar.specs.declared.value.Value.TheVariants as value

-- the values but the newest
abbrev pub older : List Value → List Value
older [] = []
older (v ∷ vs) = vs

-- the values from the second on
abbrev pub second : List Value → List Value
second vs = older vs

-- the values from the third on
abbrev pub third : List Value → List Value
third vs = older (second vs)

-- the values from the fourth on
abbrev pub fourth : List Value → List Value
fourth vs = older (third vs)

-- the values from the fifth on
abbrev pub fifth : List Value → List Value
fifth vs = older (fourth vs)

-- the values from the sixth on
abbrev pub sixth : List Value → List Value
sixth vs = older (fifth vs)

-- the values from the seventh on
abbrev pub seventh : List Value → List Value
seventh vs = older (sixth vs)

-- an expression that stands at an offset
abbrev pub node : ℕ → ExprKind → Expr
node at kind = record { at = at; kind = kind }

-- an expression as an operand that begins where it stands
abbrev pub operand : ℕ → ExprKind → Operand
operand at kind = record { expr = node at kind; first = at }

-- a statement that stands at an offset
abbrev pub statement : ℕ → StmtKind → Stmt
statement at kind = record { at = at; kind = kind }

-- the program that declares nothing
abbrev pub no_program : Program
no_program = record { structs = []; globals = []; mutexes = []; defines = []; functions = []; len = 0 }

-- the mapping without entries
abbrev pub no_mapping : Mapping
no_mapping = record { entries = [] }

-- What the newest value is, with a fixed one where it is of another sort: no text of the grammar leads there.
abbrev pub word_in : List Value → Token
word_in (value.Word t ∷ vs) = t
word_in _ = record { kind = token.Punct 0; at = 0; len = 0 }

-- the type that is the newest value
abbrev pub ty_in : List Value → Ty
ty_in (value.Ty t ∷ vs) = t
ty_in _ = ty.Int

-- the operand that is the newest value
abbrev pub operand_in : List Value → Operand
operand_in (value.Operand x ∷ vs) = x
operand_in _ = operand 0 e.Null

-- the list of expressions that is the newest value
abbrev pub exprs_in : List Value → List Expr
exprs_in (value.Exprs xs ∷ vs) = xs
exprs_in _ = []

-- the expression, or its absence, that is the newest value
abbrev pub maybe_expr_in : List Value → Option Expr
maybe_expr_in (value.MaybeExpr x ∷ vs) = x
maybe_expr_in _ = None

-- the statement that is the newest value
abbrev pub stmt_in : List Value → Stmt
stmt_in (value.Stmt x ∷ vs) = x
stmt_in _ = statement 0 s.Empty

-- the list of statements that is the newest value
abbrev pub stmts_in : List Value → List Stmt
stmts_in (value.Stmts xs ∷ vs) = xs
stmts_in _ = []

-- the statement, or its absence, that is the newest value
abbrev pub maybe_stmt_in : List Value → Option Stmt
maybe_stmt_in (value.MaybeStmt x ∷ vs) = x
maybe_stmt_in _ = None

-- the fields or parameters that are the newest value
abbrev pub fields_in : List Value → List Field
fields_in (value.Fields xs ∷ vs) = xs
fields_in _ = []

-- the count of an array that is the newest value
abbrev pub count_in : List Value → At Count
count_in (value.Count x ∷ vs) = x
count_in _ = record { at = 0; it = count.Number (pos 0) }

-- the constant that is the newest value
abbrev pub const_in : List Value → At Const
const_in (value.Const x ∷ vs) = x
const_in _ = record { at = 0; it = const.Null }

-- the define that is the newest value
abbrev pub define_in : List Value → Define
define_in (value.Define x ∷ vs) = x
define_in _ = record { name = record { at = 0; it = [] }; minus = false; value = pos 0 }

-- the program that is the newest value
abbrev pub program_in : List Value → Program
program_in (value.Program p ∷ vs) = p
program_in _ = no_program

-- the point that is the newest value
abbrev pub pt_in : List Value → Pt
pt_in (value.Pt x ∷ vs) = x
pt_in _ = record { kind = place.Entry; number = 1 }

-- what fills slots, as the newest value has it
abbrev pub fills_in : List Value → List Fill
fills_in (value.Fills xs ∷ vs) = xs
fills_in _ = []

-- the added part of a point that is the newest value
abbrev pub part_in : List Value → Part
part_in (value.Part x ∷ vs) = x
part_in _ = record { function = Some []; point = record { kind = place.Entry; number = 1 }; fills = [] }

-- the parts of a point that are the newest value
abbrev pub parts_in : List Value → List Part
parts_in (value.Parts xs ∷ vs) = xs
parts_in _ = []

-- the mapping that is the newest value
abbrev pub mapping_in : List Value → Mapping
mapping_in (value.Mapping m ∷ vs) = m
mapping_in _ = no_mapping

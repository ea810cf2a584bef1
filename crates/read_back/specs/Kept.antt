-- What a mapping that is read keeps: the limits on expressions and numbers, and what its words may be.
use Rattle.std.specs.Prelude.{◌≡◌, ◌≢◌, ℕ, suc, ◌+◌, ◌≤◌, pos, nat_lt, IsTrue, ⊤, List, All, Option, Some, None}
use Rattle.c_tree.specs.declared.op.UnOp.{UnOp}
use Rattle.c_tree.specs.declared.op.BinOp.{BinOp}
use Rattle.c_tree.specs.declared.place.PlaceKind.{PlaceKind}
use Rattle.c_tree.specs.declared.place.PlaceKind.TheVariants as place
use Rattle.c_tree.specs.declared.program.Expr.{Expr}
use Rattle.c_tree.specs.declared.program.ExprKind.{ExprKind}
use Rattle.c_tree.specs.declared.program.ExprKind.TheVariants as e
use Rattle.c_tree.specs.declared.mapping.Pt.{Pt}
use Rattle.c_tree.specs.declared.mapping.Entry.{Entry}
use Rattle.c_tree.specs.declared.mapping.Entry.TheVariants as n
use Rattle.c_tree.specs.declared.mapping.Mapping.{Mapping}
use Rattle.c_tree.specs.declared.mapping.Part.{Part}
use Rattle.c_tree.specs.MapForm.{AreReadParts}
use Rattle.c_tree.specs.Operators.{binding}
use Rattle.c_grammar.specs.declared.kind.Kind.TheVariants as kind
use Rattle.c_grammar.specs.Tokens.{map_word_kind}
use Rattle.c_grammar.specs.Mapping.{IsMappingOf}

-- An expression can be written where it must bind so tightly and where so many more constructs may open, with so many
-- operators. Its brackets may stand anywhere.
pub data Fitting : ℕ → ℕ → ExprKind → ℕ → Type 0 where
  number : (asked room n : ℕ) → asked ≤ 11 → n ≤ 2147483647 → Fitting asked room (e.Num (pos n)) 0
  null : (asked room : ℕ) → asked ≤ 11 → Fitting asked room e.Null 0
  eof : (asked room : ℕ) → asked ≤ 11 → Fitting asked (suc room) e.Eof 0
  name : (asked room : ℕ) (word : List ℕ) → asked ≤ 11 → Fitting asked room (e.Name word) 0
  slot : (asked room : ℕ) (word : List ℕ) (n : ℕ) → asked ≤ 11 → Fitting asked room (e.Slot word n) 0
  element : (asked : ℕ) (word : List ℕ) (x : Expr) {room n : ℕ} → asked ≤ 11 → Fitting 0 room x.kind n → Fitting asked (suc room) (e.Index word x) n
  field : (asked : ℕ) (word : List ℕ) (x : Expr) {room n : ℕ} → asked ≤ 11 → Fitting 11 room x.kind n → Fitting asked room (e.Field x word) (n + 1)
  prefixed : (asked : ℕ) (op : UnOp) (x : Expr) {room n : ℕ} → asked ≤ 10 → Fitting 10 room x.kind n → Fitting asked (suc room) (e.Un op x) n
  between : (asked : ℕ) (op : BinOp) (x y : Expr) {room n m : ℕ} → asked ≤ binding op → Fitting (binding op) room x.kind n → Fitting (binding op + 1) room y.kind m
      → Fitting asked room (e.Bin op x y) (n + 1 + m)
  bracketed : (asked : ℕ) (x : ExprKind) {room n : ℕ} → asked ≤ 11 → Fitting 0 room x n → Fitting asked (suc room) x n

-- A whole expression opens at most 100 constructs, and has at most 1,000 operators.
pub record IsKeptExpr (x : Expr) : Type 0 where
  pub operators : ℕ
  pub fits : Fitting 0 100 x.kind operators
  pub few : operators ≤ 1000

-- The number of a point is a literal; an entry has the number 1, and a plain place is no point.
abbrev pub IsKeptNumber : PlaceKind → ℕ → Type 0
IsKeptNumber place.Entry i = i ≡ 1
IsKeptNumber place.Plain i = ⊥
IsKeptNumber k i = i ≤ 2147483647

abbrev pub IsKeptPoint : Pt → Type 0
IsKeptPoint pt = IsKeptNumber pt.kind pt.number

-- The place of a part and what fills its slots keep the limits.
abbrev pub IsKeptPart : Part → Type 0
IsKeptPart p = IsKeptPoint p.point × All (λ x. IsKeptExpr x.expr) p.fills

-- A new side of a match is not the word `none`.
abbrev pub IsKeptSide : Option (List ℕ) → Type 0
IsKeptSide None = ⊤
IsKeptSide (Some new) = map_word_kind new ≢ kind.NoneWord

-- A match is of one of the four kinds, a point has one to four parts, and all that stands in an entry keeps the limits.
abbrev pub IsKeptEntry : Entry → Type 0
IsKeptEntry (n.Match i old new) = IsTrue (nat_lt i 4) × IsKeptSide new
IsKeptEntry (n.Field owner f x) = IsKeptExpr x
IsKeptEntry (n.Init g x) = IsKeptExpr x
IsKeptEntry (n.Point f from parts) = IsKeptPoint from × AreReadParts parts × All IsKeptPart parts
IsKeptEntry (n.Check x) = IsKeptExpr x

abbrev pub IsKept : Mapping → Type 0
IsKept m = All (λ x. IsKeptEntry x.it) m.entries

-- The mapping that a text is keeps the limits.
abbrev pub EachMappingIsKept : Type 0
EachMappingIsKept = (text : List ℕ) (m : Mapping) → IsMappingOf text m → IsKept m

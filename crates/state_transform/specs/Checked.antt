-- Entries that are checks.
use Rattle.std.specs.Prelude.{Option, Some, None}
use Rattle.c_tree.specs.declared.lifted.LExpr.{LExpr}
use Rattle.c_tree.specs.declared.mapping.LEntry.{LEntry}
use Rattle.c_tree.specs.declared.mapping.LEntry.TheVariants as l

-- the expression of an entry that is a check
abbrev pub check_of : LEntry → Option LExpr
check_of (l.Check x) = Some x
check_of _ = None

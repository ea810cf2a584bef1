-- An expression by numbers, and its type beside it.
use Rattle.std.specs.Prelude.{Option, Some, None}
use Rattle.c_tree.specs.declared.lifted.LExpr.{LExpr}
use Rattle.c_tree.specs.declared.lifted.Lifted.{Lifted}
use Rattle.c_tree.specs.MapExpr as m
use Rattle.map_entries.specs.declared.reads.Reads.{Reads}
use Rattle.map_entries.specs.declared.reads.Reads.TheVariants as reads
use Rattle.map_entries.specs.declared.typed.Typed.{Typed}

-- what an expression reads, in full
abbrev pub reads_of : Lifted → Reads → m.Reads
reads_of p reads.Nothing = m.reads_of p None None
reads_of p (reads.Slots f) = m.reads_of p (Some f) None
reads_of p (reads.Fields owner) = m.reads_of p None (Some owner)

-- an expression that is there, with its type
abbrev pub typed : m.Reads → Option LExpr → Option Typed
typed r None = None
typed r (Some x) = Some (record { expr = x; ty = m.type_in r x })

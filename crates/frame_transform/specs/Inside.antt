-- What the expressions of the function that is printed read.
use Rattle.std.specs.Prelude.{Some, None}
use Rattle.c_tree.specs.MapExpr.{Reads, reads_of}
use Rattle.frame_transform.specs.declared.expressions.Inside.{Inside}

-- the slots of the function
abbrev pub reads : Inside → Reads
reads x = reads_of x.program.now (Some x.function) None

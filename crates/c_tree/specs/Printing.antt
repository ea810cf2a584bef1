-- What a printer looks names up in, as the definitions see it.
use Rattle.c_tree.specs.declared.print.Names.{Names}
use Rattle.c_tree.specs.MapExpr.{Reads}

-- the program, the slots and the fields that a printer was given
abbrev pub reads : Names → Reads
reads x = record { program = x.program.now; slots = x.slots.now; own = x.own.now }

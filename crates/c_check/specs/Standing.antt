-- The same words where the checker stands.
use Rattle.std.specs.Prelude.{ℕ, List, Option}
use Rattle.c_tree.specs.declared.scope.Fault.{Fault}
use Rattle.c_tree.specs.declared.program.Stmt.{Stmt}
use Rattle.c_tree.specs.declared.program.StmtKind.{StmtKind}
use Rattle.c_check.specs.declared.stand.Stand.{Stand}
use Rattle.c_check.specs.Inner.{Inner}
use Rattle.c_check.specs.Statements.{reported, all_reported, if_reported}

-- the faults of a statement where the checker stands
abbrev pub reports : Stand → Inner → ℕ → StmtKind → List Fault
reports w l at kind = reported w.file.now l w.ret.now w.in_loop at kind

-- the faults of some statements where the checker stands
abbrev pub all_report : Stand → Inner → List Stmt → List Fault
all_report w l body = all_reported w.file.now l w.ret.now w.in_loop body

-- the faults of a statement that need not be there, where the checker stands
abbrev pub if_reports : Stand → Inner → Option Stmt → List Fault
if_reports w l other = if_reported w.file.now l w.ret.now w.in_loop other

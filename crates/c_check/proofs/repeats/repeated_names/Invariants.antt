use Rattle.std.proofs.Common.{◌≡◌, [], take, drop}
use Rattle.std.specs.Prelude.{filter}
use Rattle.c_tree.specs.Scope.{routine}
use Rattle.c_tree.specs.Typing.{has_body}
use Rattle.c_check.specs.Words.{noted}
use Rattle.name_index.specs.Tables.{names_in}
use Rattle.c_check.specs.Files.{repeats}
use Rattle.c_check.proofs.repeats.repeated_names.Given as goal

abbrev pub invariant-loop-i : goal.invariant-loop-i
invariant-loop-i l = record {
  seen : l.seen ≡ names_in (take l.i l.names);
  bodies : l.bodies ≡ names_in (filter (λ z. has_body (routine l.file z.meaning)) (take l.i l.names));
  faults : noted l.initial.first (repeats l.file [] l.names) ≡ noted l.first (repeats l.file (take l.i l.names) (drop l.i l.names));
}

use Rattle.std.proofs.Common.{◌≡◌, ◌++◌, take}
use Rattle.std.specs.Prelude.{map}
use Rattle.std.specs.List.{enumerate_from}
use Rattle.c_tree.specs.Scope.{named}
use Rattle.c_tree.specs.declared.scope.Meaning.TheVariants as m
use Rattle.name_index.proofs.names.add_functions.Given as goal

abbrev pub invariant-loop-i : goal.invariant-loop-i
invariant-loop-i l = l.names.items ≡ l.initial.names.items ++ map (λ x. named x.1.name (m.Routine x.0)) (enumerate_from 0 (take l.i l.functions))

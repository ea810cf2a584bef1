use Rattle.std.proofs.Common.{◌≡◌, ◌++◌, take}
use Rattle.std.specs.List.{flat_map}
use Rattle.frame_transform.specs.Declarations.{mutex_text}
use Rattle.frame_transform.specs.Line.{line}
use Rattle.frame_transform.proofs.declarations.append_mutexes.Given as goal

abbrev pub invariant-mutexes : goal.invariant-mutexes
invariant-mutexes l = l.out.items ≡ l.initial.out.items ++ flat_map (λ name. line 0 (mutex_text name)) (take l.i l.mutexes)

use Rattle.std.proofs.Common.{◌≡◌, ◌++◌, take}
use Rattle.std.specs.List.{flat_map}
use Rattle.frame_transform.specs.Declarations.{global_text}
use Rattle.frame_transform.specs.Line.{line}
use Rattle.frame_transform.proofs.declarations.append_globals.Given as goal

abbrev pub invariant-globals : goal.invariant-globals
invariant-globals l = l.out.items ≡ l.initial.out.items ++ flat_map (λ x. line 0 (global_text x)) (take l.i l.globals)

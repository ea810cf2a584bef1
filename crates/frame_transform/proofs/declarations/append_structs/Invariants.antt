use Rattle.std.proofs.Common.{◌≡◌, ◌++◌, take}
use Rattle.std.specs.List.{flat_map}
use Rattle.frame_transform.specs.Declarations.{struct_text}
use Rattle.frame_transform.specs.Line.{line}
use Rattle.frame_transform.proofs.declarations.append_structs.Given as goal

abbrev pub invariant-structs : goal.invariant-structs
invariant-structs l = l.out.items ≡ l.initial.out.items ++ flat_map (λ x. line 0 (struct_text x)) (take l.i l.structs)

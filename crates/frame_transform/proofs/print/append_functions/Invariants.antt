use Rattle.std.proofs.Common.{◌≡◌, ◌++◌, take}
use Rattle.std.specs.List.{flat_map}
use Rattle.frame_transform.specs.TargetText.{function_text}
use Rattle.frame_transform.proofs.print.append_functions.Given as goal

-- the functions so far are printed
abbrev pub invariant-functions : goal.invariant-functions
invariant-functions l = l.out.items ≡ l.initial.out.items ++ flat_map (function_text l.program) (take l.f l.functions)

use Rattle.std.proofs.Common.{◌≡◌, map, take}
use Rattle.patch_match.proofs.tables.global_names.Given as goal

abbrev pub invariant-loop-global : goal.invariant-loop-global
invariant-loop-global l = l.names ≡ map (λ x. x.name) (take l.global-index l.globals)

use Rattle.std.proofs.Common.{◌≡◌, drop}
use Rattle.c_tree.specs.MapGlobals as spec
use Rattle.stack_map.specs.Added.{after}
use Rattle.state_transform.proofs.globals.map_globals.Given as goal

abbrev pub invariant-loop-g : goal.invariant-loop-g
invariant-loop-g l =
    spec.map_globals l.k l.entries l.state
    ≡ after l.made.items (spec.map_globals_from l.k l.entries l.state l.g (drop l.g l.k.new.globals))

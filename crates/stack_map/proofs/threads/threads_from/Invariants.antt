use Rattle.std.proofs.Common.{◌≡◌, drop}
use Rattle.c_tree.specs.Update as spec
use Rattle.stack_map.specs.Added.{after}
use Rattle.stack_map.specs.Moved as moved
use Rattle.stack_map.proofs.threads.threads_from.Given as goal

abbrev pub invariant-loop-t : goal.invariant-loop-t
invariant-loop-t l =
    (spec.map_threads l.m.link.now l.m.entries.now l.state 0 l.state.threads
    ≡ after l.made.items (spec.map_threads l.m.link.now l.m.entries.now l.state l.t (drop l.t l.state.threads)))
    × moved.Tells l.m.link.now l.m.entries.now l.known

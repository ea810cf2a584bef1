use Rattle.std.proofs.Common.{◌≡◌, [], drop, map}
use Rattle.std.specs.Prelude.{reverse}
use Rattle.c_check.specs.Words.{noted}
use Rattle.c_check.specs.Files.{seconds}
use Rattle.c_check.proofs.declared.second_structs.Given as goal

abbrev pub invariant-loop-owner : goal.invariant-loop-owner
invariant-loop-owner l =
    noted l.initial.first (seconds [] (map (λ d. d.name) l.structs)) ≡ noted l.first (seconds (reverse l.seen) (map (λ d. d.name) (drop l.owner-index l.structs)))

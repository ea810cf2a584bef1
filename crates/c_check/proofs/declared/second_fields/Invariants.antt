use Rattle.std.proofs.Common.{◌≡◌, [], drop, map}
use Rattle.std.specs.Prelude.{reverse}
use Rattle.c_check.specs.Words.{noted}
use Rattle.c_check.specs.Files.{seconds}
use Rattle.c_check.proofs.declared.second_fields.Given as goal

abbrev pub invariant-loop-field : goal.invariant-loop-field
invariant-loop-field l =
    noted l.initial.first (seconds [] (map (λ d. d.name) l.fields)) ≡ noted l.first (seconds (reverse l.seen) (map (λ d. d.name) (drop l.field-index l.fields)))

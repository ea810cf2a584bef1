use Rattle.std.proofs.Common.{◌≡◌, take, drop}
use Rattle.std.specs.Prelude.{map, filter, is_some}
use Rattle.c_tree.specs.Lifting.{lift_function, first_limit}
use Rattle.c_lift.proofs.program.lift_functions.Given as goal

abbrev pub invariant-loop-function : goal.invariant-loop-function
invariant-loop-function l =
    let p = l.file in
    record {
      lifted : l.lifted.items ≡ map (lift_function p) (filter (λ f. is_some f.body) (take l.function-index l.functions));
      within : first_limit p (filter (λ f. is_some f.body) (drop l.function-index l.functions)) ≡ first_limit p (filter (λ f. is_some f.body) l.functions);
    }

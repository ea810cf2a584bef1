use Rattle.std.proofs.Common.{◌≡◌, drop}
use Rattle.std.specs.Prelude.{◌&&◌}
use Rattle.std.specs.List.{position_from}
use Rattle.c_tree.specs.Fillings as spec
use Rattle.c_tree.specs.Link.{is_image}
use Rattle.c_tree.specs.Scope.{is_same_name}
use Rattle.stack_map.proofs.carry.carried.Given as goal

abbrev pub invariant-loop-i : goal.invariant-loop-i
invariant-loop-i l = spec.carried l.k l.olds l.new ≡ position_from (λ o. is_same_name o.name l.new.name && is_image l.k o.ty l.new.ty) l.i (drop l.i l.olds)

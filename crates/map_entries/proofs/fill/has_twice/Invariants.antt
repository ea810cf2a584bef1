use Rattle.std.proofs.Common.{◌≡◌, ℕ, false, nat_eq, map, take}
use Rattle.std.specs.List.{list_any}
use Rattle.std.specs.HashSet.{contains}
use Rattle.c_tree.specs.Suits.{has_twice}
use Rattle.map_entries.proofs.fill.has_twice.Given as goal

-- the slots that are filled so far, each once
abbrev pub invariant-loop-fill : goal.invariant-loop-fill
invariant-loop-fill l = record {
  once : has_twice (map (λ x. x.slot) (take l.fill-index l.fills)) ≡ false;
  filled : (q : ℕ) → contains nat_eq l.filled q ≡ list_any (nat_eq q) (map (λ x. x.slot) (take l.fill-index l.fills));
}

use Rattle.std.proofs.Common.{◌≡◌, ◌++◌, drop, map}
use Rattle.std.specs.Option.{option_map}
use Rattle.c_tree.specs.Entries.{all_there, function_in}
use Rattle.map_entries.proofs.part.functions_of.Given as goal

-- what is found so far, and what is left
abbrev pub invariant-loop-part : goal.invariant-loop-part
invariant-loop-part l =
    all_there (map (λ p. function_in l.k l.matched p.function) l.parts)
    ≡ option_map (λ rest. l.functions.items ++ rest) (all_there (map (λ p. function_in l.k l.matched p.function) (drop l.part-index l.parts)))

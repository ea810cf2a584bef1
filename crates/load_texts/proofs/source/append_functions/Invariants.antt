use Rattle.std.proofs.Common.{◌≡◌, ◌++◌}
use Rattle.std.specs.List.{flat_map, range_with_len}
use Rattle.load_texts.specs.Texts.{next_function}
use Rattle.load_texts.proofs.source.append_functions.Given as goal

-- the functions so far are written
abbrev pub invariant-functions : goal.invariant-functions
invariant-functions l = l.out.items ≡ l.initial.out.items ++ flat_map (next_function l.declared) (range_with_len 2 l.i)

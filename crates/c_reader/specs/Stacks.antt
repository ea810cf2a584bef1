-- The machine's stacks as lists, what comes first and what was read last in front.
use Rattle.std.specs.Prelude.{List, reverse}
use Rattle.c_grammar.specs.declared.symbol.Symbol.{Symbol}
use Rattle.c_grammar.specs.Effects.{State}
use Rattle.c_reader.specs.declared.machine.Machine.{Machine}

-- the symbols to come, the next one first
abbrev pub to_come : Machine → List Symbol
to_come m = reverse m.symbols.items

-- what was read so far, the newest value first
abbrev pub so_far : Machine → State
so_far m = record { values = reverse m.values.items; depth = m.depth; operators = m.operators }

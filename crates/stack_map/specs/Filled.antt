-- Whose values are filled.
use Rattle.std.specs.Prelude.{ℕ}
use Rattle.c_tree.specs.declared.event.Reason.{Reason}
use Rattle.c_tree.specs.declared.event.Reason.TheVariants as why
use Rattle.stack_map.specs.declared.values.Whose.{Whose}
use Rattle.stack_map.specs.declared.values.Whose.TheVariants as whose

-- the reason that a value traps
abbrev pub because : Whose → ℕ → ℕ → Reason
because (whose.Frame t f) i c = why.Slot t f i c
because (whose.Object o) i c = why.Field o i c

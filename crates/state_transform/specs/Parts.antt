-- A state with the parts that an update gives it.
use Rattle.c_tree.specs.declared.state.State.{State}
use Rattle.state_transform.specs.declared.parts.Parts.{Parts}

-- a state with new parts; the input that is left and the output stay as they are
abbrev pub with_parts : Parts → State → State
with_parts parts s = record s { globals = parts.globals; heap = parts.heap; mutexes = parts.mutexes; threads = parts.threads }

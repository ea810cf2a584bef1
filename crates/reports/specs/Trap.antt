-- The words of traps.
use Rattle.std.specs.Prelude.{ℕ, zero, suc, List, [], codes}
use Rattle.c_tree.specs.declared.state.Trap.{Trap}
use Rattle.c_tree.specs.declared.state.Trap.TheVariants as t

-- why a run was stopped, or an expression of a mapping has no value
abbrev pub trap : Trap → List ℕ
trap t.Divide = codes "divide"
trap t.Shift = codes "shift"
trap t.Null = codes "null"
trap t.Freed = codes "freed"
trap t.Struct = codes "struct"
trap t.Bounds = codes "bounds"
trap t.Relock = codes "relock"
trap t.Unlock = codes "unlock"
trap t.Join = codes "join"
trap t.Frames = codes "frames"
trap t.Threads = codes "threads"
trap t.Objects = codes "objects"
trap t.Output = codes "output"

-- the word of a trap's number in a reason
abbrev pub numbered : ℕ → List ℕ
numbered zero = []
numbered (suc zero) = trap t.Divide
numbered (suc (suc zero)) = trap t.Shift
numbered (suc (suc (suc zero))) = trap t.Null
numbered (suc (suc (suc (suc zero)))) = trap t.Freed
numbered (suc (suc (suc (suc (suc zero))))) = trap t.Struct
numbered (suc (suc (suc (suc (suc (suc zero)))))) = trap t.Bounds
numbered (suc (suc (suc (suc (suc (suc (suc n))))))) = []

-- The activations that are rebuilt from saved frames, and what this costs.
use Rattle.std.specs.Prelude.{◌≤◌, ◌<◌, ℕ, ◌+◌, ⊤, List, [], ◌∷◌, length, slice_index_or}
use Rattle.c_tree.specs.declared.state.Frame.{Frame}
use Rattle.c_tree.specs.Limits.{max_slots}
use Rattle.target_code.specs.declared.activation.Activation.{Activation}
use Rattle.target_code.specs.declared.code.CallSpot.{CallSpot}
use Rattle.target_code.specs.Code.{TargetCode}
use Rattle.target_code.specs.Machine.{function_in, part_at}

-- how many parameters a function has
abbrev pub params_in : TargetCode → ℕ → ℕ
params_in code f = (function_in code f).params

-- the position at which a frame is rebuilt, by the frames that it called: the innermost at its
-- mark, each other one behind the call of its rebuilding part
abbrev pub rebuilt_pc : TargetCode → Frame → List Frame → ℕ
rebuilt_pc code f [] = slice_index_or (function_in code f.function).marks f.place 0
rebuilt_pc code f (g ∷ rest) =
    part_at (function_in code f.function).calls f.place + (params_in code g.function + 1)

-- the activation of a frame, by the frames that it called
abbrev pub rebuilt : TargetCode → Frame → List Frame → Activation
rebuilt code f called =
    record { function = f.function; pc = rebuilt_pc code f called; slots = f.slots }

-- the activations of frames, outermost first, on others
abbrev pub rebuilt_on : TargetCode → List Frame → List Activation → List Activation
rebuilt_on code [] below = below
rebuilt_on code (f ∷ rest) below = rebuilt_on code rest (rebuilt code f rest ∷ below)

-- how many instructions it takes to rebuild a frame: its `restore`, and where it called another
-- one a zero for each parameter, and the call
abbrev pub rebuilt_cost : TargetCode → List Frame → ℕ
rebuilt_cost code [] = 1
rebuilt_cost code (g ∷ rest) = params_in code g.function + 2

-- how many instructions it takes to rebuild frames, outermost first
abbrev pub rebuilding_cost : TargetCode → List Frame → ℕ
rebuilding_cost code [] = 0
rebuilding_cost code (f ∷ rest) = rebuilt_cost code rest + rebuilding_cost code rest

-- the position at which the first of these frames is rebuilt
abbrev pub position_of : TargetCode → List Frame → ℕ
position_of code [] = 0
position_of code (f ∷ rest) = rebuilt_pc code f rest

-- frames can be pushed: they have few enough slots, and their positions fit 32 bits
abbrev pub AreReady : TargetCode → List Frame → Type 0
AreReady code [] = ⊤
AreReady code (f ∷ rest) =
    (length f.slots ≤ max_slots) × (rebuilt_pc code f rest < 4294967296) × AreReady code rest

-- what stands for a call that isn't there
abbrev pub no_call : CallSpot
no_call = record { place = 0; after = 0; rebuild = 0 }

-- the place of the call of a number
abbrev pub place_at : List CallSpot → ℕ → ℕ
place_at calls k = (slice_index_or calls k no_call).place

-- calls are ascending by place
abbrev pub AreAscending : List CallSpot → Type 0
AreAscending calls = (j k : ℕ) → j < k → k < length calls → place_at calls j < place_at calls k

-- the calls before this number have smaller places, and the others none that are smaller
pub record StandsAt (calls : List CallSpot) (place at : ℕ) : Type 0 where
  pub before : (k : ℕ) → k < at → place_at calls k < place
  pub behind : (k : ℕ) → at ≤ k → k < length calls → place ≤ place_at calls k

-- The activation with which a thread starts.
use Rattle.std.specs.Prelude.{ℕ, zero, suc, ℤ, List}
use Rattle.target_code.specs.declared.activation.Activation.{Activation}
use Rattle.target_code.specs.Stack.{with_slot}

-- the activations, of which the innermost has the argument in its first slot, where it has a
-- parameter
abbrev pub with_argument : ℕ → ℤ → List Activation → List Activation
with_argument zero v acts = acts
with_argument (suc n) v acts = with_slot 0 v acts

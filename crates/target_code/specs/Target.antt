-- A thread of the target machine between two events, and the activations of a stack.
use Rattle.std.specs.Prelude.{ℕ, ℤ, List, [], ◌∷◌}
use Rattle.c_tree.specs.declared.state.Frame.{Frame}
use Rattle.target_code.specs.declared.activation.Activation.{Activation}
use Rattle.target_code.specs.declared.activation.Mode.{Mode}

-- a thread: its activations, innermost first; the value that was returned last;
-- its saved frames that aren't taken yet, outermost first; how many instructions it ran
pub record Target : Type 0 where
  pub mode : Mode
  pub activations : List Activation
  pub returned : ℤ
  pub saved : List Frame
  pub count : ℕ

-- what stands for an activation that isn't there
abbrev pub no_activation : Activation
no_activation = record { function = 0; pc = 0; slots = [] }

-- the innermost activation
abbrev pub top_of : List Activation → Activation
top_of [] = no_activation
top_of (a ∷ below) = a

-- the activations outside the innermost one
abbrev pub below_of : List Activation → List Activation
below_of [] = []
below_of (a ∷ below) = below

-- the activations with a change of the innermost one, where there is one
abbrev pub edited : (Activation → Activation) → List Activation → List Activation
edited f [] = []
edited f (a ∷ below) = f a ∷ below

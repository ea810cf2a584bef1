-- Runs that end in a given way.
use Rattle.std.proofs.Common.{◌≡◌, ℕ, zero, suc, ℤ, List, [], Option, Some, sym, ap, ◌∙◌, subst}
use Rattle.c_tree.specs.declared.state.Frame.{Frame}
use Rattle.store_mem.specs.Memory.{Memory}
use Rattle.target_code.specs.declared.activation.Mode.TheVariants.{Running}
use Rattle.target_code.specs.declared.instr.Instr.{Instr}
use Rattle.target_code.specs.Between.{Wait, acts}
use Rattle.target_code.specs.Machine.{Setting, Machine, Ran, Did, Goes, Over, led, act, instr_at, go}

-- a run from the machine ends in a way that has the property
abbrev pub Halts : Setting → Machine → (Ran → Type 0) → Type 0
Halts w m Q = (n : ℕ) × Q (go w n m)

-- an instruction that goes on
pub halts_step : (w : Setting) (m m' : Machine) (i : Instr) (Q : Ran → Type 0) → instr_at w m ≡ Some i → act w (Some i) m ≡ Goes m' → Halts w m' Q → Halts w m Q
halts_step w m m' i Q e f h =
    (suc h.0, subst Q (sym (ap (λ (o : Option Instr). led (act w o m) (go w h.0)) e ∙ ap (λ (a : Did). led a (go w h.0)) f)) h.1)

-- the last instruction
pub halts_at : (w : Setting) (m : Machine) (i : Instr) (r : Ran) (Q : Ran → Type 0) → instr_at w m ≡ Some i → act w (Some i) m ≡ Over r → Q r → Halts w m Q
halts_at w m i r Q e f q =
    (suc zero, subst Q (sym (ap (λ (o : Option Instr). led (act w o m) (go w zero)) e ∙ ap (λ (a : Did). led a (go w zero)) f)) q)

-- a thread that runs, at its innermost activation
abbrev pub run_of : Frame → ℕ → List Wait → ℤ → Memory → ℕ → Machine
run_of f pc ws returned memory count = record {
  mode = Running;
  function = f.function;
  pc = pc;
  slots = f.slots;
  below = acts ws;
  operands = [];
  returned = returned;
  saved = [];
  memory = memory;
  count = count;
}

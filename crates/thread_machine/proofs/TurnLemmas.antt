-- A running thread has its activations, what was returned last and its count, and nothing else.
use Rattle.std.proofs.Common.{◌≡◌, ℕ, ℤ, List, [], sym, ap, ◌∙◌, subst}
use Rattle.c_tree.specs.declared.state.Frame.{Frame}
use Rattle.store_mem.specs.Memory.{Memory}
use Rattle.target_code.specs.declared.activation.Activation.{Activation}
use Rattle.target_code.specs.declared.activation.Mode.{Mode}
use Rattle.target_code.specs.declared.activation.Mode.TheVariants.{Running}
use Rattle.target_code.specs.Code.{TargetCode}
use Rattle.target_code.specs.Target.{Target}
use Rattle.target_laws.specs.Rows.{IsThreadOf}
use Rattle.target_laws.proofs.Threads.{thread_stands}
use Rattle.thread_turns.specs.declared.cursor.Stop.{Stop}
use Rattle.thread_turns.specs.Turns.{IsRow}

-- a thread of these parts
abbrev pub made : Mode → List Activation → ℤ → List Frame → ℕ → Target
made mode activations returned saved count = record {
  mode = mode;
  activations = activations;
  returned = returned;
  saved = saved;
  count = count;
}

-- a row of a running thread is one whatever its parts are called
pub row_of_parts : (code : TargetCode) (t : ℕ) (end : Stop) (x : Target) (memory next : Memory) (steps : ℕ) (mode : Mode) (before after : List Activation) (r r1 r2 : ℤ) (saved : List Frame) (n m : ℕ)
    → IsThreadOf code t x memory → x ≡ made mode before r saved n → r1 ≡ r2
    → IsRow code t end (made Running before r [] n) memory steps (made Running after r1 [] m) next
    → IsRow code t end x memory steps (made mode after r2 saved m) next
row_of_parts code t end x memory next steps mode before after r r1 r2 saved n m h is same row =
    let runs = thread_stands code t x memory h in
    let running : mode ≡ Running = sym (ap (λ (k : Target). k.mode) is) ∙ h.mode in
    let none : saved ≡ [] = sym (ap (λ (k : Target). k.saved) is) ∙ ap (λ (k : Target). k.saved) runs.is in
    let first : made Running before r [] n ≡ x = ap (λ k. made k before r [] n) (sym running) ∙ (ap (λ k. made mode before r k n) (sym none) ∙ sym is) in
    let last : made Running after r1 [] m ≡ made mode after r2 saved m = ap (λ k. made k after r1 [] m) (sym running) ∙ (ap (λ k. made mode after r1 k m) (sym none) ∙ ap (λ k. made mode after k saved m) same) in
    subst (λ k. IsRow code t end k memory steps (made mode after r2 saved m) next) first (subst (λ k. IsRow code t end (made Running before r [] n) memory steps k next) last row)

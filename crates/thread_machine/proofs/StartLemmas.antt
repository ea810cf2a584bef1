-- How a thread starts.
use Rattle.std.proofs.Common.{◌≡◌, ℕ, zero, suc, ◌-◌, ◌<◌, ◌≤◌, ℤ, pos, List, [], ◌∷◌, ◌++◌, length, take, replicate, sym, ap, ◌∙◌, subst, arith}
use Rattle.std.specs.Prelude.{slice_index_or}
use Rattle.std.proofs.lemmas.List.{length-replicate}
use Rattle.c_tree.specs.declared.lifted.LFunction.{LFunction}
use Rattle.c_tree.specs.declared.lifted.Lifted.{Lifted}
use Rattle.c_tree.specs.declared.state.Frame.{Frame}
use Rattle.target_code.specs.declared.activation.Activation.{Activation}
use Rattle.target_code.specs.declared.activation.Mode.TheVariants.{Running}
use Rattle.target_code.specs.Code.{TargetCode, IsCode, functions_code}
use Rattle.target_code.specs.Machine.{function_in, no_code, begins}
use Rattle.target_code.specs.Stack.{blank, with_pc}
use Rattle.target_code.specs.Target.{Target}
use Rattle.thread_machine.specs.Started.{with_argument}

few_in : (p : Lifted) (fs : List LFunction) (from k : ℕ) → ((j : ℕ) (d : LFunction) → j < length fs → length (slice_index_or fs j d).slots ≤ 128) → (slice_index_or (functions_code p from fs) k no_code).slots ≤ 128
few_in p [] from k h = omega arith
few_in p (f ∷ rest) from zero h = h 0 f (omega arith)
few_in p (f ∷ rest) from (suc k) h = few_in p rest _ k (λ j d within. h (suc j) d (omega (arith, within)))

-- each function of a code has few enough slots
pub few_in_code : (code : TargetCode) (f : ℕ) → IsCode code → (function_in code f).slots ≤ 128
few_in_code code f coded =
    subst (λ c. (function_in c f).slots ≤ 128) (sym coded.is) (few_in coded.program coded.program.functions 0 f coded.formed.limits.slots)

first_in : (p : Lifted) (fs : List LFunction) (from k : ℕ) → ((j : ℕ) (d : LFunction) → j < length fs → (slice_index_or fs j d).params ≤ length (slice_index_or fs j d).slots) → (slice_index_or (functions_code p from fs) k no_code).params ≤ (slice_index_or (functions_code p from fs) k no_code).slots
first_in p [] from k h = omega arith
first_in p (f ∷ rest) from zero h = h 0 f (omega arith)
first_in p (f ∷ rest) from (suc k) h = first_in p rest _ k (λ j d within. h (suc j) d (omega (arith, within)))

-- each function of a code has its parameters among its slots
pub first_in_code : (code : TargetCode) (f : ℕ) → IsCode code → (function_in code f).params ≤ (function_in code f).slots
first_in_code code f coded =
    subst (λ c. (function_in c f).params ≤ (function_in c f).slots) (sym coded.is) (first_in coded.program coded.program.functions 0 f coded.formed.parameters)

-- the slots with which a thread starts
abbrev begun : ℕ → ℕ → ℤ → List ℤ
begun params slots v =
    let args = take params (v ∷ []) in
    args ++ replicate (slots - length args) (pos 0)

abbrev at_one : ℕ → List ℤ → Activation
at_one f slots = record { function = f; pc = 1; slots = slots }

passed : (f params slots : ℕ) (v : ℤ) → params ≤ 1 → params ≤ slots → with_pc 1 (with_argument params v (blank f slots ∷ [])) ≡ at_one f (begun params slots v) ∷ []
passed f zero slots v one fits = let e : slots ≡ slots - 0 = omega arith in ap (λ n. at_one f (replicate n (pos 0)) ∷ []) e
passed f (suc zero) zero v one fits = absurd (omega (arith, fits))
passed f (suc zero) (suc n) v one fits = let e : n ≡ suc n - 1 = omega arith in ap (λ k. at_one f (v ∷ replicate k (pos 0)) ∷ []) e
passed f (suc (suc m)) slots v one fits = absurd (omega (arith, one))

pub started : (code : TargetCode) (f params slots : ℕ) (v : ℤ) (acts : List Activation) (saved : List Frame) → IsCode code → (function_in code f).params ≤ 1 → params ≡ (function_in code f).params → slots ≡ (function_in code f).slots → acts ≡ with_pc 1 (with_argument params v (blank f slots ∷ [])) → saved ≡ [] → (let x : Target = record { mode = Running; activations = acts; returned = pos 0; saved = saved; count = 0 } in x) ≡ begins code f v
started code f params slots v acts saved coded one ep es e none =
    let c = function_in code f in
    let there = e ∙ ap (λ n. with_pc 1 (with_argument n v (blank f slots ∷ []))) ep ∙ ap (λ n. with_pc 1 (with_argument c.params v (blank f n ∷ []))) es ∙ passed f c.params c.slots v one (first_in_code code f coded) in
    ap (λ l. let x : Target = record { mode = Running; activations = l; returned = pos 0; saved = saved; count = 0 } in x) there
    ∙ ap (λ l. let x : Target = record { mode = Running; activations = at_one f (begun c.params c.slots v) ∷ []; returned = pos 0; saved = l; count = 0 } in x) none

pub zeros_long : (n : ℕ) → length (replicate n (pos 0)) ≡ n
zeros_long n = length-replicate n (pos 0)

-- A call pushes the activation that the machine pushes.
use Rattle.std.proofs.Common.{◌≡◌, ℕ, zero, suc, ◌+◌, ◌-◌, ◌≤◌, ◌<◌, ℤ, pos, true, List, [], ◌∷◌, ◌++◌, length, reverse, take, drop, replicate, Some, refl, sym, ap, ◌∙◌, arith, lt-ltb}
use Rattle.std.specs.Prelude.{Bool, nat_lt, slice_index_or, slice_set}
use Rattle.c_tree.specs.Limits.{max_frames}
use Rattle.std.proofs.lemmas.List.{drop-replicate}
use Rattle.std.proofs.lemmas.Option.{slice_get-get_or}
use Rattle.target_laws.proofs.Places.{some_same}
use Rattle.store_mem.specs.Memory.{Memory}
use Rattle.target_code.specs.declared.activation.Activation.{Activation}
use Rattle.target_code.specs.declared.activation.Mode.TheVariants.{Running}
use Rattle.target_code.specs.declared.code.CodeFunction.{CodeFunction}
use Rattle.target_code.specs.Code.{TargetCode}
use Rattle.target_code.specs.Machine.{Did, Goes, function_in, no_code, pushed}
use Rattle.target_code.specs.Stack.{blank, with_pc, with_slot}
use Rattle.target_code.specs.Target.{top_of, below_of, edited}
use Rattle.thread_turns.specs.declared.cursor.Cursor.{Cursor}
use Rattle.thread_turns.specs.Now.{now, operands}

-- the arguments go to the first slots of the new activation
abbrev pub with_arguments : List ℤ → List Activation → List Activation
with_arguments args frames = edited (λ a. record a { slots = args ++ drop (length args) a.slots }) frames

pub called : (c : CodeFunction) (g : ℕ) (at : Cursor) (ws : List ℤ) (frames frames' : List Activation) (memory : Memory) (n back : ℕ) (args : List ℤ) (fits : Bool)
    → fits ≡ true → 0 < length frames → back ≡ at.pc + 1
    → take n (operands at.depth ws) ≡ take c.params (operands at.depth ws) → drop c.params (operands at.depth ws) ≡ operands (at.depth - n) ws
    → args ≡ reverse (take n (operands at.depth ws)) → frames' ≡ with_arguments args (blank g c.slots ∷ with_pc back frames)
    → pushed fits c g (now at ws frames memory) ≡ Goes (now (record { pc = 0; depth = at.depth - n; returned = at.returned; count = at.count + 1 }) ws frames' memory)
called c g at ws [] frames' memory n back args fits fit live b t d e f = absurd (omega (arith, live))
called c g at ws (a ∷ below) frames' memory n back args fits fit live b t d e f =
    let ops = operands at.depth ws in
    let made : List ℤ → List ℤ → ℕ → List ℤ → Did = λ args zeros back ops. Goes (record {
      mode = Running;
      function = g;
      pc = 0;
      slots = args ++ zeros;
      below = record { function = a.function; pc = back; slots = a.slots } ∷ below;
      operands = ops;
      returned = at.returned;
      saved = [];
      memory = memory;
      count = at.count + 1;
    }) in
    let given : reverse (take c.params ops) ≡ args = ap reverse (sym t) ∙ sym e in
    let next : Cursor = record { pc = 0; depth = at.depth - n; returned = at.returned; count = at.count + 1 } in
    ap (λ k. pushed k c g (now at ws (a ∷ below) memory)) fit
    ∙ (ap (λ xs. made xs (replicate (c.slots - length xs) (pos 0)) (at.pc + 1) (drop c.params ops)) given
    ∙ (ap (λ zs. made args zs (at.pc + 1) (drop c.params ops)) (sym (drop-replicate (length args) c.slots (pos 0)))
    ∙ (ap (λ k. made args (drop (length args) (replicate c.slots (pos 0))) k (drop c.params ops)) (sym b)
    ∙ (ap (λ os. made args (drop (length args) (replicate c.slots (pos 0))) back os) d
    ∙ ap (λ fs. Goes (now next ws fs memory)) (sym f)))))

-- there is room for one more activation
pub is_few : (frames : List Activation) → 0 < length frames → length frames < max_frames → nat_lt (length (below_of frames) + 1) max_frames ≡ true
is_few [] live few = absurd (omega (arith, live))
is_few (a ∷ below) live few = lt-ltb (length below + 1) max_frames (omega (arith, few))

argument_step : (k : ℕ) (args slots : List ℤ) (d : ℤ) → k < length args → k < length slots → slice_set (take k args ++ drop k slots) k (slice_index_or args k d) ≡ take (suc k) args ++ drop (suc k) slots
argument_step k [] slots d h g = absurd (omega (arith, h))
argument_step k (x ∷ args) [] d h g = absurd (omega (arith, g))
argument_step zero (x ∷ args) (y ∷ slots) d h g = refl
argument_step (suc k) (x ∷ args) (y ∷ slots) d h g = ap (λ l. x ∷ l) (argument_step k args slots d (omega (arith, h)) (omega (arith, g)))

-- the first k arguments are in their slots
abbrev pub with_first : ℕ → List ℤ → List Activation → List Activation
with_first k args frames = edited (λ a. record a { slots = take k args ++ drop k a.slots }) frames

-- one argument more
pub next_argument : (k : ℕ) (args : List ℤ) (d : ℤ) (frames : List Activation) → k < length args → length args ≤ length (top_of frames).slots → with_slot k (slice_index_or args k d) (with_first k args frames) ≡ with_first (k + 1) args frames
next_argument k args d [] h g = refl
next_argument k args d (a ∷ below) h g =
    let one : suc k ≡ k + 1 = omega arith in
    let step = argument_step k args a.slots d h (omega (arith, h, g)) in
    ap (λ l. record a { slots = l } ∷ below) (step ∙ ap (λ n. take n args ++ drop n a.slots) one)

-- the function of a number that is there, whatever stands for one that isn't
pub function_is : (code : TargetCode) (f : ℕ) (fs : List CodeFunction) (d : CodeFunction) → f < length code.functions → fs ≡ code.functions → d ≡ slice_index_or fs f d → function_in code f ≡ d
function_is code f fs d within same e =
    let here : d ≡ slice_index_or code.functions f d = e ∙ ap (λ l. slice_index_or l f d) same in
    some_same (function_in code f) d (sym (slice_get-get_or code.functions f no_code within) ∙ (slice_get-get_or code.functions f d within ∙ ap Some (sym here)))

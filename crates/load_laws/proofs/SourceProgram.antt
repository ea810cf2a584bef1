-- A source's tree is well typed, keeps the limits, and lifts to its program.
use Rattle.std.proofs.Common.{◌≡◌, ℕ, zero, suc, ◌+◌, ◌-◌, ◌<◌, ◌≤◌, Bool, true, List, [], ◌∷◌, ◌++◌, length, map, None, refl, sym, ap, ◌∙◌, subst, arith, codes}
use Rattle.std.specs.Prelude.{is_none, IsTrue, drop}
use Rattle.std.specs.List.{AllByRecursion, flat_map, range_with_len}
use Rattle.std.specs.Cmp.Lexicographic.{other_text}
use Rattle.std.proofs.lemmas.List.{drop_all}
use Rattle.c_tree.specs.declared.cause.CheckCause.TheVariants as c
use Rattle.c_tree.specs.declared.cause.LimitKind.TheVariants as limit
use Rattle.c_tree.specs.declared.scope.Fault.{Fault}
use Rattle.c_tree.specs.declared.scope.Meaning.TheVariants as m
use Rattle.c_tree.specs.declared.program.Function.{Function}
use Rattle.c_tree.specs.declared.program.Program.{Program}
use Rattle.c_tree.specs.declared.lifted.LFunction.{LFunction}
use Rattle.c_tree.specs.declared.lifted.Lifted.{Lifted}
use Rattle.c_tree.specs.Fault.{fault, first, unless}
use Rattle.c_tree.specs.Limits.{max_functions}
use Rattle.c_tree.specs.Scope.{names_of, file_scope, meaning, is_defined}
use Rattle.c_tree.specs.Typing.{definitions, function_faults, global_faults, name_repeats, program_faults, first_fault, IsWellTyped}
use Rattle.c_tree.specs.Lifting.{lift, lift_function, passed_limit, limit_at, first_limit, lift_limit}
use Rattle.load_texts.specs.Texts.{next_function}
use Rattle.load_laws.proofs.Programs.{function_name, declared, locals, word, text, function_tree, first_tree, next_tree, next_trees, work_tree, main_tree, at_first, at_second, at_work, at_main, total_tree, total_lifted, functions_tree, tree, first_lifted, next_lifted, work_lifted, main_lifted, functions_lifted, program}
use Rattle.load_laws.proofs.SourceTypes.{first_typed, next_typed, work_typed, main_typed}
use Rattle.load_laws.proofs.SourceLifting.{first_lifts, next_lifts, work_lifts, main_lifts, first_small, next_small, work_small, main_small}
use Rattle.load_laws.proofs.SourceNames.{all_next, last_two, IsThere, there, work_stands, main_stands, have_bodies, in_text_order, functions_differ, few_functions, no_name_repeats, no_such_function, IsKnown, known, definitions_are, total_means, mutex_means}

-- What is known of each function.

function_known : (wide : Bool) (n k : ℕ) → 1 ≤ k → k ≤ n → n ≤ 1000 → (t : IsThere (functions_tree wide n) wide k) × IsKnown (tree wide n) (k - 1) (function_tree wide k t.at t.gives)
function_known wide n k some le small =
    let t = there wide n k some le small in
    (t, known (functions_tree wide n) (length (text wide n)) (k - 1) _ (in_text_order wide n) (have_bodies wide n) (other_text (codes "total") (function_name k) refl) (other_text (codes "m") (function_name k) refl) refl t.stands)

work_known : (wide : Bool) (n : ℕ) → 1 ≤ n → IsKnown (tree wide n) n (work_tree n (at_work wide n))
work_known wide n some =
    known (functions_tree wide n) (length (text wide n)) n _ (in_text_order wide n) (have_bodies wide n) (other_text (codes "total") (codes "work") refl) (other_text (codes "m") (codes "work") refl) refl (work_stands wide n some)

main_known : (wide : Bool) (n : ℕ) → 1 ≤ n → IsKnown (tree wide n) (n + 1) (main_tree wide (at_main wide n))
main_known wide n some =
    known (functions_tree wide n) (length (text wide n)) (n + 1) _ (in_text_order wide n) (have_bodies wide n) (other_text (codes "total") (codes "main") refl) (other_text (codes "m") (codes "main") refl) refl (main_stands wide n some)

total_known : (wide : Bool) (n : ℕ) → meaning (file_scope (tree wide n)) (codes "total") ≡ m.Global 0
total_known wide n = total_means (functions_tree wide n) (length (text wide n)) (in_text_order wide n)

mutex_known : (wide : Bool) (n : ℕ) → meaning (file_scope (tree wide n)) (codes "m") ≡ m.Mutex 0
mutex_known wide n = mutex_means (functions_tree wide n) (length (text wide n)) (in_text_order wide n)

-- Types.

no_faults : {X : Type 0} (g : X → List Fault) (xs : List X) → AllByRecursion (λ x. g x ≡ []) xs → flat_map g xs ≡ []
no_faults g [] h = refl
no_faults g (x ∷ xs) h = rw h.0 (no_faults g xs h.1)

each_typed : (wide : Bool) (n : ℕ) → 1 ≤ n → n ≤ 1000 → AllByRecursion (λ f. function_faults (file_scope (tree wide n)) f ≡ []) (functions_tree wide n)
each_typed wide n some small =
    let p = tree wide n in
    let names = names_of p in
    let one = function_known wide n 1 (omega arith) some small in
    let last = function_known wide n n some (omega arith) small in
    let w = work_known wide n some in
    let f = main_known wide n some in
    let total = total_known wide n in
    let mutex = mutex_known wide n in (
      first_typed wide at_first p names one.1.defined,
      all_next (λ f. function_faults (file_scope p) f ≡ []) wide 2 (at_second wide) (n - 1) (last_two wide n)
          (λ i from a b.
          let self = function_known wide n i (omega (arith, a)) (omega (arith, some, b)) small in
          let called = function_known wide n (i - 1) (omega (arith, a)) (omega (arith, some, b)) small in
          next_typed wide i from p names self.1.defined called.1.defined called.0.at called.0.gives called.1.routine_is) (
            work_typed n (at_work wide n) p names w.defined last.1.defined wide last.0.at last.0.gives last.1.routine_is total refl mutex,
            (main_typed wide (at_main wide n) p names f.defined w.defined n (at_work wide n) w.routine_is total refl, tt),
          ),
    )

nothing : (a b c d e f g : List Fault) → a ≡ [] → b ≡ [] → c ≡ [] → d ≡ [] → e ≡ [] → f ≡ [] → g ≡ [] → a ++ b ++ c ++ d ++ e ++ f ++ g ≡ []
nothing a b c d e f g i j k l m n o = rw (i, j, k, l, m, n, o) refl

globals_typed : (p : Program) → global_faults (file_scope p) 0 (total_tree ∷ []) ≡ []
globals_typed p = refl

no_program_faults : (wide : Bool) (n : ℕ) → 1 ≤ n → n ≤ 1000 → program_faults (tree wide n) ≡ []
no_program_faults wide n some small =
    let p = tree wide n in
    let fs = functions_tree wide n in
    let repeats : name_repeats p [] (names_of p) ≡ [] =
    no_name_repeats fs (length (text wide n)) (in_text_order wide n)
    (no_such_function (codes "total") wide n (λ i. other_text (codes "total") (function_name i) refl) (other_text (codes "total") (codes "work") refl) (other_text (codes "total") (codes "main") refl))
    (no_such_function (codes "m") wide n (λ i. other_text (codes "m") (function_name i) refl) (other_text (codes "m") (codes "work") refl) (other_text (codes "m") (codes "main") refl))
    (functions_differ wide n some small) in
    let few : drop max_functions (definitions p) ≡ [] =
    ap (drop max_functions) (definitions_are fs (length (text wide n)) (have_bodies wide n)) ∙ drop_all max_functions fs (few_functions wide n small) in
    let over : Function → List Fault = λ f. fault f.name.at (c.Limit limit.Functions) in
    let is_main : is_defined p (codes "main") ≡ true = (main_known wide n some).defined in
    nothing [] [] (name_repeats p [] (names_of p)) (global_faults (file_scope p) 0 (total_tree ∷ [])) (flat_map over (drop max_functions (definitions p))) (flat_map (function_faults (file_scope p)) fs)
    (unless (is_defined p (codes "main")) (fault p.len c.NoMain))
    refl refl repeats (globals_typed p) (ap (flat_map over) few) (no_faults (function_faults (file_scope p)) fs (each_typed wide n some small))
    (ap (λ b. unless b (fault p.len c.NoMain)) is_main)

pub well_typed : (wide : Bool) (n : ℕ) → 1 ≤ n → n ≤ 1000 → IsWellTyped (tree wide n)
unfolding first_fault
well_typed wide n some small = subst (λ xs. IsTrue (is_none (first xs))) (sym (no_program_faults wide n some small)) refl

-- Lifting.

map_next : (p : Program) (wide : Bool) (k at m : ℕ) (tail : List Function) (last : List LFunction)
    → ((i from : ℕ) → k ≤ i → i < k + m → lift_function p (next_tree wide i from) ≡ next_lifted (locals wide) i) → map (lift_function p) tail ≡ last
    → map (lift_function p) (next_trees wide k at m ++ tail) ≡ map (next_lifted (locals wide)) (range_with_len k m) ++ last
map_next p wide k at zero tail last each rest = rest
map_next p wide k at (suc m) tail last each rest =
    let x = lift_function p (next_tree wide k at) in
    let y = next_lifted (locals wide) k in
    let e : x ≡ y = each k at (omega arith) (omega arith) in
    let more = map_next p wide (k + 1) (at + length (next_function (declared wide) k)) m tail last (λ i from a b. each i from (omega (arith, a)) (omega (arith, b))) rest in
    ap (λ z. z ∷ map (lift_function p) (next_trees wide (k + 1) (at + length (next_function (declared wide) k)) m ++ tail)) e ∙ ap (λ zs. y ∷ zs) more

next_lifts_here : (wide : Bool) (n : ℕ) → 1 ≤ n → n ≤ 1000 → (i from : ℕ) → 2 ≤ i → i < 2 + (n - 1) → lift_function (tree wide n) (next_tree wide i from) ≡ next_lifted (locals wide) i
next_lifts_here wide n some small i from a b =
    let called = function_known wide n (i - 1) (omega (arith, a)) (omega (arith, some, b)) small in
    let e : i - 1 - 1 ≡ i - 2 = omega arith in
    next_lifts wide i from (tree wide n) called.0.at called.0.gives called.1.routine_is (called.1.number ∙ e)

work_lifts_here : (wide : Bool) (n : ℕ) → 1 ≤ n → n ≤ 1000 → lift_function (tree wide n) (work_tree n (at_work wide n)) ≡ work_lifted n
work_lifts_here wide n some small =
    let last = function_known wide n n some (omega arith) small in
    work_lifts n (at_work wide n) (tree wide n) wide last.0.at last.0.gives last.1.routine_is last.1.number (total_known wide n) refl (mutex_known wide n)

main_lifts_here : (wide : Bool) (n : ℕ) → 1 ≤ n → lift_function (tree wide n) (main_tree wide (at_main wide n)) ≡ main_lifted (word wide) n
main_lifts_here wide n some = main_lifts wide n (at_main wide n) (tree wide n) (work_known wide n some).number (total_known wide n)

functions_lift : (wide : Bool) (n : ℕ) → 1 ≤ n → n ≤ 1000 → map (lift_function (tree wide n)) (functions_tree wide n) ≡ functions_lifted (locals wide) (word wide) n
functions_lift wide n some small =
    let p = tree wide n in
    let first : lift_function p (first_tree wide at_first) ≡ first_lifted (locals wide) = first_lifts wide at_first p in
    let w = lift_function p (work_tree n (at_work wide n)) in
    let f = lift_function p (main_tree wide (at_main wide n)) in
    let last : w ∷ f ∷ [] ≡ work_lifted n ∷ main_lifted (word wide) n ∷ [] =
    ap (λ z. z ∷ f ∷ []) (work_lifts_here wide n some small) ∙ ap (λ z. work_lifted n ∷ z ∷ []) (main_lifts_here wide n some) in
    let rest = map_next p wide 2 (at_second wide) (n - 1) (last_two wide n) _ (next_lifts_here wide n some small) last in
    ap (λ z. z ∷ map (lift_function p) (next_trees wide 2 (at_second wide) (n - 1) ++ last_two wide n)) first ∙ ap (λ zs. first_lifted (locals wide) ∷ zs) rest

abbrev made : List LFunction → ℕ → Lifted
made functions main = record { structs = []; globals = total_lifted ∷ []; mutexes = codes "m" ∷ []; functions = functions; main = main }

pub lifts : (wide : Bool) (n : ℕ) → 1 ≤ n → n ≤ 1000 → program (locals wide) (word wide) n ≡ lift (tree wide n)
lifts wide n some small =
    let p = tree wide n in
    let fs = functions_tree wide n in
    let functions : functions_lifted (locals wide) (word wide) n ≡ map (lift_function p) (definitions p) =
    sym (ap (map (lift_function p)) (definitions_are fs (length (text wide n)) (have_bodies wide n)) ∙ functions_lift wide n some small) in
    ap (λ gs. made gs (n + 1)) functions ∙ ap (made (map (lift_function p) (definitions p))) (sym (main_known wide n some).number)

-- Limits.

no_limit : (p : Program) (fs : List Function) → AllByRecursion (λ f. passed_limit (lift_function p f) ≡ None) fs → first_limit p fs ≡ None
no_limit p [] h = refl
no_limit p (f ∷ fs) h = ap (λ o. limit_at f.name.at o (first_limit p fs)) h.0 ∙ no_limit p fs h.1

pub keeps_limits : (wide : Bool) (n : ℕ) → 1 ≤ n → n ≤ 1000 → lift_limit (tree wide n) ≡ None
keeps_limits wide n some small =
    let p = tree wide n in
    let fs = functions_tree wide n in
    ap (first_limit p) (definitions_are fs (length (text wide n)) (have_bodies wide n))
    ∙ no_limit p fs (
      ap passed_limit (first_lifts wide at_first p) ∙ first_small wide,
      all_next (λ f. passed_limit (lift_function p f) ≡ None) wide 2 (at_second wide) (n - 1) (last_two wide n)
          (λ i from a b. ap passed_limit (next_lifts_here wide n some small i from a b) ∙ next_small wide i) (
            ap passed_limit (work_lifts_here wide n some small) ∙ work_small n,
            (ap passed_limit (main_lifts_here wide n some) ∙ main_small wide n, tt),
          ),
    )

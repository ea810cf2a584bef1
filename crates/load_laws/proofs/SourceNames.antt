-- The functions of a source: where they stand, and what their names stand for.
use Rattle.std.proofs.Common.{◌≡◌, ◌≢◌, ℕ, zero, suc, ◌+◌, ◌-◌, ◌<◌, ◌≤◌, Bool, true, false, List, [], ◌∷◌, ◌++◌, length, map, Some, refl, ap, ◌∙◌, subst, arith, codes}
use Rattle.std.specs.Prelude.{find, is_some, drop}
use Rattle.std.specs.List.{AllByRecursion}
use Rattle.std.specs.Cmp.Lexicographic.{other_text}
use Rattle.std.proofs.lemmas.Fmt.{decimal_injective}
use Rattle.c_tree.specs.declared.scope.Named.{Named}
use Rattle.c_tree.specs.declared.scope.Meaning.TheVariants as m
use Rattle.c_tree.specs.declared.program.Expr.{Expr}
use Rattle.c_tree.specs.declared.program.Function.{Function}
use Rattle.c_tree.specs.declared.program.Program.{Program}
use Rattle.c_tree.specs.Scope.{is_same_name, has_name, named, names_of, meaning, meaning_in, file_scope, routine, is_defined}
use Rattle.c_tree.specs.Typing.{definitions, name_repeats}
use Rattle.c_tree.specs.Lifting.{number_of, function_number}
use Rattle.load_texts.specs.Texts.{next_function}
use Rattle.load_laws.proofs.Programs as programs
use Rattle.load_laws.proofs.Programs.{function_name, declared, function_tree, first_tree, next_tree, next_trees, after_functions, work_tree, main_tree, at_first, at_second, at_work, at_main, total_tree, functions_tree}
use Rattle.load_laws.proofs.DeclaredNames.{other_name, turned, Stands, routines, found, got, defined, number, HaveBodies, all_defined, InTextOrder, routines_ascend, kept_order, differing, NoFunction, FunctionsDiffer, none_of_routines, routines_differ}

-- Names.

pub names_differ : (i j : ℕ) → i ≤ 1001 → j ≤ 1001 → (i ≡ j → ⊥) → function_name i ≢ function_name j
names_differ i j a b n e = n (decimal_injective i j (omega (arith, a)) (omega (arith, b)) (ap (drop 1) e))

not_work : (i : ℕ) → function_name i ≢ codes "work"
not_work i = other_text (function_name i) (codes "work") refl

not_main : (i : ℕ) → function_name i ≢ codes "main"
not_main i = other_text (function_name i) (codes "main") refl

-- The functions that call the one before them.

-- What holds of each of them, and of those behind them, holds of all.
pub all_next : (Q : Function → Type 0) (wide : Bool) (k at m : ℕ) (tail : List Function) → ((i from : ℕ) → k ≤ i → i < k + m → Q (next_tree wide i from))
    → AllByRecursion Q tail → AllByRecursion Q (next_trees wide k at m ++ tail)
all_next Q wide k at zero tail each rest = rest
all_next Q wide k at (suc m) tail each rest =
    (each k at (omega arith) (omega arith), all_next Q wide (k + 1) (at + length (next_function (declared wide) k)) m tail (λ i from a b. each i from (omega (arith, a)) (omega (arith, b))) rest)

next_stands : (wide : Bool) (k at m j : ℕ) (tail : List Function) → k + m ≤ 1001 → j < m → Stands (next_trees wide k at m ++ tail) j (next_tree wide (k + j) (after_functions wide k at j))
next_stands wide k at zero j tail le lt = absurd (omega (arith, lt))
next_stands wide k at (suc m) zero tail le lt = let e : k ≡ k + 0 = omega arith in ap (λ i. next_tree wide i at) e
next_stands wide k at (suc m) (suc j) tail le lt =
    let next = at + length (next_function (declared wide) k) in
    let e : k + 1 + j ≡ k + suc j = omega arith in (
      names_differ k (k + suc j) (omega (arith, le)) (omega (arith, le, lt)) (λ h. absurd (omega (arith, h))),
      subst (λ i. Stands (next_trees wide (k + 1) next m ++ tail) j (next_tree wide i (after_functions wide (k + 1) next j))) e
          (next_stands wide (k + 1) next m j tail (omega (arith, le)) (omega (arith, lt))),
    )

behind_next : (wide : Bool) (k at m j : ℕ) (tail : List Function) (f : Function) → ((i : ℕ) → function_name i ≢ f.name.it) → Stands tail j f → Stands (next_trees wide k at m ++ tail) (m + j) f
behind_next wide k at zero j tail f n s = let e : j ≡ 0 + j = omega arith in subst (λ i. Stands tail i f) e s
behind_next wide k at (suc m) j tail f n s =
    let next = at + length (next_function (declared wide) k) in
    let e : suc (m + j) ≡ suc m + j = omega arith in
    subst (λ i. Stands (next_trees wide k at (suc m) ++ tail) i f) e (n k, behind_next wide (k + 1) next m j tail f n s)

next_in_order : (wide : Bool) (k at m low : ℕ) (tail : List Function) → low ≤ at + 4 → ((l : ℕ) → l ≤ after_functions wide k at m + 4 → InTextOrder l tail) → InTextOrder low (next_trees wide k at m ++ tail)
next_in_order wide k at zero low tail le rest = rest low le
next_in_order wide k at (suc m) low tail le rest =
    (le, next_in_order wide (k + 1) (at + length (next_function (declared wide) k)) m (at + 4) tail (omega arith) rest)

next_differ : (wide : Bool) (k at m : ℕ) (tail : List Function) → k + m ≤ 1001 → ((i : ℕ) → NoFunction (function_name i) tail) → FunctionsDiffer tail → FunctionsDiffer (next_trees wide k at m ++ tail)
next_differ wide k at zero tail le none rest = rest
next_differ wide k at (suc m) tail le none rest =
    let next = at + length (next_function (declared wide) k) in (
      all_next (λ f. function_name k ≢ f.name.it) wide (k + 1) next m tail (λ i from a b. names_differ k i (omega (arith, le)) (omega (arith, le, b)) (λ h. absurd (omega (arith, h, a)))) (none k),
      next_differ wide (k + 1) next m tail (omega (arith, le)) none rest,
    )

next_length : (wide : Bool) (k at m : ℕ) (tail : List Function) → length (next_trees wide k at m ++ tail) ≡ m + length tail
next_length wide k at zero tail = omega arith
next_length wide k at (suc m) tail =
    let ih = next_length wide (k + 1) (at + length (next_function (declared wide) k)) m tail in omega (arith, ih)

-- All functions.

-- the last two of them
abbrev pub last_two : Bool → ℕ → List Function
last_two wide n = work_tree n (at_work wide n) ∷ main_tree wide (at_main wide n) ∷ []

-- the function k, from where its text stands, by what it gives
pub record IsThere (fs : List Function) (wide : Bool) (k : ℕ) : Type 0 where
  pub at : ℕ
  pub gives : Expr
  pub stands : Stands fs (k - 1) (function_tree wide k at gives)

pub there : (wide : Bool) (n k : ℕ) → 1 ≤ k → k ≤ n → n ≤ 1000 → IsThere (functions_tree wide n) wide k
there wide n zero some le small = absurd (omega (arith, some))
there wide n (suc zero) some le small = record { at = at_first; gives = _; stands = refl }
there wide n (suc (suc j)) some le small =
    let a : 2 + j ≡ suc (suc j) = omega arith in
    let b : suc j ≡ suc (suc j) - 1 = omega arith in
    let from = after_functions wide 2 (at_second wide) j in
    let s : Stands (functions_tree wide n) (suc j) (next_tree wide (suc (suc j)) from) = (
      names_differ 1 (suc (suc j)) (omega arith) (omega (arith, le, small)) (λ h. absurd (omega (arith, h))),
      subst (λ i. Stands (next_trees wide 2 (at_second wide) (n - 1) ++ last_two wide n) j (next_tree wide i from)) a
          (next_stands wide 2 (at_second wide) (n - 1) j (last_two wide n) (omega (arith, le, small)) (omega (arith, le))),
    ) in
    record { at = from; gives = _; stands = subst (λ i. Stands (functions_tree wide n) i (next_tree wide (suc (suc j)) from)) b s }

pub work_stands : (wide : Bool) (n : ℕ) → 1 ≤ n → Stands (functions_tree wide n) n (work_tree n (at_work wide n))
work_stands wide n some =
    let e : suc (n - 1 + 0) ≡ n = omega (arith, some) in
    let w = work_tree n (at_work wide n) in
    subst (λ i. Stands (functions_tree wide n) i w) e (not_work 1, behind_next wide 2 (at_second wide) (n - 1) 0 (last_two wide n) w not_work refl)

pub main_stands : (wide : Bool) (n : ℕ) → 1 ≤ n → Stands (functions_tree wide n) (n + 1) (main_tree wide (at_main wide n))
main_stands wide n some =
    let e : suc (n - 1 + 1) ≡ n + 1 = omega (arith, some) in
    let f = main_tree wide (at_main wide n) in
    subst (λ i. Stands (functions_tree wide n) i f) e
    (not_main 1, behind_next wide 2 (at_second wide) (n - 1) 1 (last_two wide n) f not_main (other_text (codes "work") (codes "main") refl, refl))

pub have_bodies : (wide : Bool) (n : ℕ) → HaveBodies (functions_tree wide n)
have_bodies wide n = (refl, all_next (λ f. is_some f.body ≡ true) wide 2 (at_second wide) (n - 1) (last_two wide n) (λ i from a b. refl) (refl, (refl, tt)))

pub in_text_order : (wide : Bool) (n : ℕ) → InTextOrder 27 (functions_tree wide n)
in_text_order wide n = (
  omega arith,
  next_in_order wide 2 (at_second wide) (n - 1) 34 (last_two wide n) (omega arith)
      (λ l le. (omega (arith, le), (omega arith, tt))),
)

pub functions_differ : (wide : Bool) (n : ℕ) → 1 ≤ n → n ≤ 1000 → FunctionsDiffer (functions_tree wide n)
functions_differ wide n some small =
    let last = last_two wide n in (
      all_next (λ f. function_name 1 ≢ f.name.it) wide 2 (at_second wide) (n - 1) last
          (λ i from a b. names_differ 1 i (omega arith) (omega (arith, some, small, b)) (λ h. absurd (omega (arith, h, a)))) (not_work 1, (not_main 1, tt)),
      next_differ wide 2 (at_second wide) (n - 1) last (omega (arith, some, small)) (λ i. (not_work i, (not_main i, tt))) ((other_text (codes "work") (codes "main") refl, tt), (tt, tt)),
    )

pub few_functions : (wide : Bool) (n : ℕ) → n ≤ 1000 → length (functions_tree wide n) ≤ 2000
few_functions wide n small =
    let e : length (next_trees wide 2 (at_second wide) (n - 1) ++ last_two wide n) ≡ n - 1 + 2 = next_length wide 2 (at_second wide) (n - 1) (last_two wide n) in omega (arith, e, small)

-- The program.

-- a program of these functions
abbrev pub whole : List Function → ℕ → Program
whole fs len = record { structs = []; globals = total_tree ∷ []; mutexes = programs.named 27 (codes "m") ∷ []; defines = []; functions = fs; len = len }

abbrev pub all_names : List Function → List Named
all_names fs = named (programs.named 4 (codes "total")) (m.Global 0) ∷ named (programs.named 27 (codes "m")) (m.Mutex 0) ∷ routines 0 fs

pub names_are : (fs : List Function) (len : ℕ) → InTextOrder 27 fs → names_of (whole fs len) ≡ all_names fs
names_are fs len h = kept_order 0 (all_names fs) (omega arith, (omega arith, routines_ascend 27 0 fs h))

pub no_name_repeats : (fs : List Function) (len : ℕ) → InTextOrder 27 fs → NoFunction (codes "total") fs → NoFunction (codes "m") fs → FunctionsDiffer fs
    → name_repeats (whole fs len) [] (names_of (whole fs len)) ≡ []
no_name_repeats fs len order total mutex d =
    ap (name_repeats (whole fs len) []) (names_are fs len order)
    ∙ differing (whole fs len) (all_names fs)
    ((other_text (codes "total") (codes "m") refl, none_of_routines (codes "total") 0 fs total), (none_of_routines (codes "m") 0 fs mutex, routines_differ 0 fs d))

pub no_such_function : (name : List ℕ) (wide : Bool) (n : ℕ) → ((i : ℕ) → name ≢ function_name i) → name ≢ codes "work" → name ≢ codes "main" → NoFunction name (functions_tree wide n)
no_such_function name wide n each no_work no_main =
    (each 1, all_next (λ f. name ≢ f.name.it) wide 2 (at_second wide) (n - 1) (last_two wide n) (λ i from a b. each i) (no_work, (no_main, tt)))

-- What is known of a function of a program by its name.
pub record IsKnown (p : Program) (i : ℕ) (f : Function) : Type 0 where
  pub routine_is : routine p (meaning (file_scope p) f.name.it) ≡ Some f
  pub defined : is_defined p f.name.it ≡ true
  pub number : function_number p f.name.it ≡ i

pub definitions_are : (fs : List Function) (len : ℕ) → HaveBodies fs → definitions (whole fs len) ≡ fs
definitions_are fs len h = all_defined fs h

pub known : (fs : List Function) (len i : ℕ) (f : Function) → InTextOrder 27 fs → HaveBodies fs → codes "total" ≢ f.name.it → codes "m" ≢ f.name.it → is_some f.body ≡ true
    → Stands fs i f → IsKnown (whole fs len) i f
known fs len i f order bodies total mutex body s =
    let p = whole fs len in
    let means : meaning (file_scope p) f.name.it ≡ m.Routine i =
    ap (λ names. meaning_in (find (has_name f.name.it) names)) (names_are fs len order) ∙ behind f total mutex (routines 0 fs) ∙ found fs 0 i f s ∙ (let e : 0 + i ≡ i = omega arith in ap (λ j. m.Routine j) e) in
    record {
      routine_is = ap (routine p) means ∙ got fs i f s;
      defined = defined fs i f s body;
      number = ap (λ gs. number_of (map (λ g. g.name) gs) f.name.it) (definitions_are fs len bodies) ∙ number fs i f s;
    }
  where
    behind : (f : Function) → codes "total" ≢ f.name.it → codes "m" ≢ f.name.it → (rest : List Named)
        → meaning_in (find (has_name f.name.it) (named (programs.named 4 (codes "total")) (m.Global 0) ∷ named (programs.named 27 (codes "m")) (m.Mutex 0) ∷ rest))
        ≡ meaning_in (find (has_name f.name.it) rest)
    behind f total mutex rest =
        let a : is_same_name f.name.it (codes "total") ≡ false = other_name f.name.it (codes "total") (turned total) in
        let b : is_same_name f.name.it (codes "m") ≡ false = other_name f.name.it (codes "m") (turned mutex) in
        rw (a, b) refl

pub total_means : (fs : List Function) (len : ℕ) → InTextOrder 27 fs → meaning (file_scope (whole fs len)) (codes "total") ≡ m.Global 0
total_means fs len order = ap (λ names. meaning_in (find (has_name (codes "total")) names)) (names_are fs len order)

pub mutex_means : (fs : List Function) (len : ℕ) → InTextOrder 27 fs → meaning (file_scope (whole fs len)) (codes "m") ≡ m.Mutex 0
mutex_means fs len order = ap (λ names. meaning_in (find (has_name (codes "m")) names)) (names_are fs len order)

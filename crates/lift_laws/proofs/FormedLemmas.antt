-- The lifting of a well-typed program is formed, item by item.
use Rattle.std.proofs.Common.{◌≡◌, ℕ, zero, suc, ◌+◌, ◌<◌, ◌≤◌, ℤ, pos, negsuc, Bool, true, false, cond, ◌&&◌, ◌||◌, List, [], ◌∷◌, ◌++◌, length, Option, Some, None, refl, sym, ap, subst, ◌∙◌, arith}
use Rattle.std.specs.Prelude.{map, find, All, codes, filter, not, is_some, slice_get, unwrap_or, option_map, nat_lt, if◌then◌else◌}
use Rattle.std.specs.List.{sum_by, fold, AllByRecursion, list_any, enumerate_from, position_or_len}
use Rattle.std.specs.Cmp.Lexicographic.{same_text, other_text}
use Rattle.std.proofs.lemmas.List.{length-map, length-append}
use Rattle.std.proofs.lemmas.Bool.{ltb-false}
use Rattle.std.proofs.lemmas.List.Sums.{sum-map}
use Rattle.std.proofs.lemmas.List.Folds.{find_at}
use Rattle.std.proofs.lemmas.Option.{slice_get-map, slice_get_past}
use Rattle.std.proofs.lemmas.List.Elements.{All-from_recursion, recursion_from_All}
use Rattle.c_tree.specs.declared.ty.Ty.{Ty}
use Rattle.c_tree.specs.declared.ty.Ty.TheVariants as ty
use Rattle.c_tree.specs.declared.cause.CheckCause.TheVariants as c
use Rattle.c_tree.specs.declared.scope.Fault.{Fault}
use Rattle.c_tree.specs.declared.scope.Meaning.TheVariants as m
use Rattle.c_tree.specs.declared.program.Program.{Program}
use Rattle.c_tree.specs.declared.program.Struct.{Struct}
use Rattle.c_tree.specs.declared.program.Field.{Field}
use Rattle.c_tree.specs.declared.program.Function.{Function}
use Rattle.c_tree.specs.declared.program.GlobalDecl.{GlobalDecl}
use Rattle.c_tree.specs.declared.program.Define.{Define}
use Rattle.c_tree.specs.declared.program.Const.{Const}
use Rattle.c_tree.specs.declared.program.Const.TheVariants as const
use Rattle.c_tree.specs.declared.program.Count.{Count}
use Rattle.c_tree.specs.declared.program.At.{At}
use Rattle.c_tree.specs.declared.lifted.LFunction.{LFunction}
use Rattle.c_tree.specs.declared.lifted.LStruct.{LStruct}
use Rattle.c_tree.specs.declared.lifted.Slot.{Slot}
use Rattle.c_tree.specs.Fault.{fault, unless}
use Rattle.c_tree.specs.Scope.{Scope, Variable, file_scope, is_same_name, is_defined, locals_of, with_parameters, meaning}
use Rattle.c_tree.specs.Types.{is_int, is_pointer, is_zero_number, define}
use Rattle.c_tree.specs.Typing.{IsWellTyped, Stand, definitions, function_faults, type_faults, parameter_faults, body_faults, has_no_parameters, struct_faults, second_names, init_faults, const_faults, constant_faults, define_faults, number_fits}
use Rattle.c_tree.specs.Layout.{size_of}
use Rattle.c_tree.specs.declared.program.StmtKind.TheBlock.{hidden-the_row-Stmt-0 as row_of}
use Rattle.c_tree.specs.Lifting.{Spot, lift, lift_all, lift_function, lift_global, lift_struct, lift_limit, first_value, start_of, array_length, value_of, signed, slots_from, temporary_slots, variables_of, body_of, function_number, number_of}
use Rattle.c_tree.specs.Formed.{IsWithinLimits, HasDifferentNames, ParametersComeFirst, PointersStartNull, HasMain, IsMain, AreDifferent, ArraysStartAtZero, words_of}
use Rattle.c_tree.specs.ReadForm.{HasReadForm, IsReadGlobal, HasNoStart}
use Rattle.lift_laws.proofs.NumberLemmas.{number_of-map}
use Rattle.lift_laws.proofs.NoFaults.{Parts, parts, no_left, no_right, passes}
use Rattle.lift_laws.proofs.LimitLemmas.{drop_none, few_functions, none_passed, each_within, each_first, each_second, all_fine, AllFine, Fine, both_true}
use Rattle.lift_laws.proofs.ApartLemmas.{Apart, apart_weaker, each_weaker, distinct}
use Rattle.lift_laws.proofs.NamesLemmas.{NoSecond, no_second, apart-map, Kinds, kinds, apart_row, functions_agree, definitions_apart}

-- a fact of each element that is made by a function
pub each-map : {A B : Type 0} (f : A → B) (P : B → Type 0) (xs : List A) → AllByRecursion (λ x. P (f x)) xs → AllByRecursion P (map f xs)
each-map f P [] e = tt
each-map f P (x ∷ xs) e = (e.0, each-map f P xs e.1)

pub all-map : {A B : Type 0} (f : A → B) (P : B → Type 0) (xs : List A) → AllByRecursion (λ x. P (f x)) xs → All P (map f xs)
all-map f P xs e = All-from_recursion P (map f xs) (each-map f P xs e)

-- the limits
pub within_limits : (p : Program) → IsWellTyped p → lift_limit p ≡ None → IsWithinLimits (lift p)
within_limits p typed kept = record {
  functions = subst (λ n. n ≤ 2000) (sym (length-map (definitions p) (lift_function p))) (drop_none 2000 (definitions p) (few_functions _ whole.few));
  places = all-map (lift_function p) (λ f. size_of f.body + 2 ≤ 10000) (definitions p) (each_first (λ f. size_of (lift_function p f).body + 2 ≤ 10000) (λ f. length (lift_function p f).slots ≤ 128) (definitions p) each);
  slots = all-map (lift_function p) (λ f. length f.slots ≤ 128) (definitions p) (each_second (λ f. size_of (lift_function p f).body + 2 ≤ 10000) (λ f. length (lift_function p f).slots ≤ 128) (definitions p) each);
  arrays = all-map (lift_global (file_scope p)) (λ g. (0 < words_of g) × (words_of g ≤ 65536)) p.globals
      (each_weaker lengths p.globals fine.each);
  words = subst (λ n. n ≤ 1000000) (sym (sum-map words_of (map (lift_global (file_scope p)) p.globals))) (few_words p.globals fine.few);
} where
  whole : Parts p
  whole = parts p typed

  each : AllByRecursion (λ f. (size_of (lift_function p f).body + 2 ≤ 10000) × (length (lift_function p f).slots ≤ 128)) (definitions p)
  each = each_within p (definitions p) (none_passed p (definitions p) kept)

  fine : AllFine (file_scope p) 0 p.globals
  fine = all_fine (file_scope p) 0 p.globals (omega arith) whole.globals

  lengths : (g : GlobalDecl) → Fine (file_scope p) g → (0 < words_of (lift_global (file_scope p) g)) × (words_of (lift_global (file_scope p) g) ≤ 65536)
  lengths g fine = (fine.some, fine.few)

  sums : (gs : List GlobalDecl) (a : ℕ) → fold (λ n g. n + words_of g) a (map (lift_global (file_scope p)) gs) ≡ fold (λ n g. n + words_of (lift_global (file_scope p) g)) a gs
  sums [] a = refl
  sums (g ∷ gs) a = sums gs (a + words_of (lift_global (file_scope p) g))

  few_words : (gs : List GlobalDecl) → 0 + sum_by (λ g. words_of (lift_global (file_scope p) g)) gs ≤ 1000000 → sum_by words_of (map (lift_global (file_scope p)) gs) ≤ 1000000
  few_words gs e = subst (λ n. n ≤ 1000000) (sym (sums gs 0)) (omega (arith, e))

-- names
pub mapped-twice : {A B C : Type 0} (f : A → B) (g : B → C) (xs : List A) → map g (map f xs) ≡ map (λ x. g (f x)) xs
mapped-twice f g [] = refl
mapped-twice f g (x ∷ xs) = ap (λ ys. g (f x) ∷ ys) (mapped-twice f g xs)

pub different : {A B : Type 0} (f : A → B) (name : B → List ℕ) (xs : List A) → Apart (λ x y. name (f x) ≡ name (f y) → ⊥) xs → AreDifferent (map name (map f xs))
different f name xs e = subst AreDifferent (sym (mapped-twice f name xs)) (distinct (λ x. name (f x)) xs e)

pub fields_different : (file : Scope) (d : Struct) → struct_faults file d ≡ [] → AreDifferent (map (λ f. f.name) (lift_struct d).fields)
fields_different file d e =
    different (λ f. let s : Slot = record { name = f.name.it; ty = f.ty } in s) (λ s. s.name) d.fields
    (apart-map (λ f. f.name) (λ x y. x.it ≡ y.it → ⊥) d.fields (no_second [] (map (λ f. f.name) d.fields) (no_left (second_names [] (map (λ f. f.name) d.fields)) _ e)).new)

pub different_names : (p : Program) → IsWellTyped p → HasDifferentNames (lift p)
different_names p typed = record {
  structs = different lift_struct (λ x. x.name) p.structs (apart-map (λ d. d.name) (λ x y. x.it ≡ y.it → ⊥) p.structs (no_second [] (map (λ d. d.name) p.structs) whole.structs).new);
  fields = all-map lift_struct (λ x. AreDifferent (map (λ f. f.name) x.fields)) p.structs (each_weaker (fields_different (file_scope p)) p.structs whole.fields);
  globals = different (lift_global (file_scope p)) (λ x. x.name) p.globals (apart_row p (λ g. g.name) m.Global (λ i. refl) 0 p.globals apart.globals);
  mutexes = distinct (λ x. x.it) p.mutexes (apart_row p (λ x. x) m.Mutex (λ i. refl) 0 p.mutexes apart.mutexes);
  functions = different (lift_function p) (λ x. x.name) (definitions p) (definitions_apart p (functions_agree p whole.names));
} where
  whole : Parts p
  whole = parts p typed

  apart : Kinds p
  apart = kinds p whole.names

-- parameters
pub length-slots_from : (seen xs : List Variable) → length (slots_from seen xs) ≡ length xs
length-slots_from seen [] = refl
length-slots_from seen (x ∷ xs) = let r = length-slots_from (seen ++ x ∷ []) xs in omega (arith, r)

pub params_fit : (f : Function) (temporaries : List Slot) → length f.params ≤ length (slots_from [] (variables_of f) ++ temporaries)
params_fit f temporaries =
    let shown : Field → Variable = λ q. record { name = q.name.it; ty = q.ty } in
    let a = length-append (slots_from [] (variables_of f)) temporaries in
    let b = length-slots_from [] (variables_of f) in
    let d = length-append (map shown f.params) (locals_of (row_of (body_of f.body))) in
    let k = length-map f.params shown in
    omega (arith, a, b, d, k)

pub params_first : (p : Program) (f : Function) → (lift_function p f).params ≤ length (lift_function p f).slots
params_first p f =
    let w : Spot = record { scope = with_parameters (file_scope p) f.params; slots = length (variables_of f); ret = f.ret } in
    params_fit f (temporary_slots 1 (lift_all w [] (row_of (body_of f.body))).made)

pub params_come_first : (p : Program) → ParametersComeFirst (lift p)
params_come_first p = all-map (lift_function p) (λ f. f.params ≤ length f.slots) (definitions p) (each (definitions p)) where
  each : (fs : List Function) → AllByRecursion (λ f. (lift_function p f).params ≤ length (lift_function p f).slots) fs
  each [] = tt
  each (f ∷ fs) = (params_first p f, each fs)

-- initialisers of pointers
pub no_int : (t : Ty) → is_pointer t ≡ true → is_int t ≡ false
no_int ty.Int e = cc
no_int ty.Thread e = refl
no_int ty.Void e = refl
no_int ty.AnyPtr e = refl
no_int (ty.Ptr name) e = refl

pub zero_is : (n : ℤ) → is_zero_number n ≡ true → n ≡ pos 0
zero_is (pos zero) e = refl
zero_is (pos (suc n)) e = cc
zero_is (negsuc n) e = cc

pub number_is_zero : (t : Ty) (minus : Bool) (n : ℤ) → is_pointer t ≡ true → number_fits t minus n ≡ true → signed minus n ≡ pos 0
number_is_zero t minus n is e = pick (is_int t) (is_pointer t) minus (no_int t is) is e where
  pick : (a b : Bool) (minus : Bool) → a ≡ false → b ≡ true → (a || b && not minus && is_zero_number n) ≡ true → signed minus n ≡ pos 0
  pick false true false h k e = ap (signed false) (zero_is n e)
  pick false true true h k e = cc
  pick false false minus h k e = cc
  pick true b minus h k e = cc

pub starts_null : (file : Scope) (t : Ty) (init : Option (At Const)) → is_pointer t ≡ true → init_faults file t init ≡ [] → start_of file init ≡ pos 0
starts_null file t None is e = refl
starts_null file t (Some x) is e = from x.it x.at e where
  of_define : (at : ℕ) (o : Option Define) → define_faults t at o ≡ [] → value_of o ≡ pos 0
  of_define at None e = refl
  of_define at (Some d) e = number_is_zero t d.minus d.value is (passes (number_fits t d.minus d.value) _ e)

  from : (x : Const) (at : ℕ) → const_faults file t at x ≡ [] → first_value file x ≡ pos 0
  from (const.Number minus n) at e = number_is_zero t minus n is (passes (number_fits t minus n) _ e)
  from (const.Named name) at e = of_define at (define file.program (meaning file name)) (no_right (constant_faults at name (meaning file name)) (define_faults t at (define file.program (meaning file name))) e)
  from const.Null at e = refl

pub pointers_start_null : (p : Program) → IsWellTyped p → PointersStartNull (lift p)
pointers_start_null p typed =
    let null : (g : GlobalDecl) → Fine (file_scope p) g → is_pointer g.ty ≡ true → start_of (file_scope p) g.init ≡ pos 0 =
    λ g fine is. starts_null (file_scope p) g.ty g.init is fine.init in
    all-map (lift_global (file_scope p)) (λ g. is_pointer g.ty ≡ true → g.init ≡ pos 0) p.globals
    (each_weaker null p.globals
    (all_fine (file_scope p) 0 p.globals (omega arith) (parts p typed).globals).each)

-- initialisers of arrays
pub starts_at_zero : (file : Scope) (count : Option (At Count)) (init : Option (At Const)) → HasNoStart count init → is_some (array_length file count) ≡ true → start_of file init ≡ pos 0
starts_at_zero file count None none is = refl
starts_at_zero file None (Some x) none is = cc
starts_at_zero file (Some n) (Some x) none is = absurd none

pub arrays_start_at_zero : (p : Program) → HasReadForm p → ArraysStartAtZero (lift p)
arrays_start_at_zero p read =
    let zero_start : (g : GlobalDecl) → IsReadGlobal g → is_some (array_length (file_scope p) g.count) ≡ true → start_of (file_scope p) g.init ≡ pos 0 =
    λ g form is. starts_at_zero (file_scope p) g.count g.init form.2 is in
    all-map (lift_global (file_scope p)) (λ g. is_some g.count ≡ true → g.init ≡ pos 0) p.globals
    (each_weaker zero_start p.globals (recursion_from_All IsReadGlobal p.globals read.globals))

-- the definition of a name
pub record Found (P : Function → Type 0) (name : List ℕ) (ds : List Function) : Type 0 where
  pub function : Function
  pub is : find (λ f. is_same_name f.name.it name) ds ≡ Some function
  pub same : is_same_name function.name.it name ≡ true
  pub holds : P function

pub found_more : (P : Function → Type 0) (name : List ℕ) (f : Function) (ds : List Function) → is_same_name f.name.it name ≡ false → Found P name ds → Found P name (f ∷ ds)
found_more P name f ds other found = record {
  function = found.function;
  is = ap (λ b. cond b (Some f) (find (λ f. is_same_name f.name.it name) ds)) other ∙ found.is;
  same = found.same;
  holds = found.holds;
}

pub found_here : (P : Function → Type 0) (name : List ℕ) (f : Function) (ds : List Function) → is_same_name f.name.it name ≡ true → P f → Found P name (f ∷ ds)
found_here P name f ds same holds = record {
  function = f;
  is = ap (λ b. cond b (Some f) (find (λ f. is_same_name f.name.it name) ds)) same;
  same = same;
  holds = holds;
}

pub defined_found : (P : Function → Type 0) (name : List ℕ) (fs : List Function) → list_any (λ f. is_same_name f.name.it name && is_some f.body) fs ≡ true → AllByRecursion P fs →
    Found P name (filter (λ f. is_some f.body) fs)
defined_found P name [] e h = cc
defined_found P name (f ∷ fs) e h = pick (is_same_name f.name.it name) (is_some f.body) refl e (λ d. defined_found P name fs d h.1) where
  pick : (a b : Bool) → a ≡ is_same_name f.name.it name → ((a && b) || list_any (λ f. is_same_name f.name.it name && is_some f.body) fs) ≡ true →
      (list_any (λ f. is_same_name f.name.it name && is_some f.body) fs ≡ true → Found P name (filter (λ f. is_some f.body) fs)) →
      Found P name (cond b (f ∷ filter (λ f. is_some f.body) fs) (filter (λ f. is_some f.body) fs))
  pick true true s e more = found_here P name f (filter (λ f. is_some f.body) fs) (sym s) h.0
  pick true false s e more = more e
  pick false true s e more = found_more P name f (filter (λ f. is_some f.body) fs) (sym s) (more e)
  pick false false s e more = more e

-- what stands at the number of a name is the first of that name
pub number_finds : {A : Type 0} (g : A → At (List ℕ)) (xs : List A) (name : List ℕ) (x : A) → find (λ y. is_same_name (g y).it name) xs ≡ Some x → slice_get xs (number_of (map g xs) name) ≡ Some x
number_finds {A} g xs name x e = ap (slice_get xs) (number_of-map g xs name) ∙ pick (nat_lt place (length xs)) refl where
  place : ℕ
  place = position_or_len (λ y. is_same_name (g y).it name) xs

  at : slice_get xs place ≡ Some x
  at = sym (find_at (λ y. is_same_name (g y).it name) xs) ∙ e

  pick : (b : Bool) → b ≡ nat_lt place (length xs) → slice_get xs (unwrap_or (cond b (Some place) None) 0) ≡ Some x
  pick true h = at
  pick false h = absurd (let q : None ≡ Some x = sym (slice_get_past xs place (ltb-false place (length xs) (sym h))) ∙ at in let impossible : ⊥ = cc in impossible)

-- `main`
pub main_form : (file : Scope) (f : Function) → is_same_name f.name.it (codes "main") ≡ true → function_faults file f ≡ [] → (f.ret ≡ ty.Int) × (f.params ≡ [])
main_form file f named e = pick (is_same_name f.name.it (codes "main")) f.ret f.params named test where
  st : Stand
  st = record { scope = file; block = 0; ret = f.ret; in_loop = false }

  A : List Fault
  A = unless (is_defined file.program f.name.it) (fault f.name.at (c.Unknown f.name.it))

  B : List Fault
  B = unless (not (is_same_name f.name.it (codes "main")) || is_int f.ret && has_no_parameters f.params) (fault f.name.at c.BadMain)

  C : List Fault
  C = type_faults file f.name.at f.ret

  D : List Fault
  D = parameter_faults st f.params

  E : List Fault
  E = body_faults (record st { scope = with_parameters file f.params; block = length f.params }) f.body

  test : (not (is_same_name f.name.it (codes "main")) || is_int f.ret && has_no_parameters f.params) ≡ true
  test = passes (not (is_same_name f.name.it (codes "main")) || is_int f.ret && has_no_parameters f.params) _
      (no_right A B (no_left (A ++ B) C (no_left (A ++ B ++ C) D (no_left (A ++ B ++ C ++ D) E e))))

  pick : (b : Bool) (t : Ty) (qs : List Field) → b ≡ true → (not b || is_int t && has_no_parameters qs) ≡ true → (t ≡ ty.Int) × (qs ≡ [])
  pick true ty.Int [] b e = (refl, refl)
  pick true ty.Int (q ∷ qs) b e = cc
  pick true ty.Thread qs b e = cc
  pick true ty.Void qs b e = cc
  pick true ty.AnyPtr qs b e = cc
  pick true (ty.Ptr name) qs b e = cc
  pick false t qs b e = cc

pub has_main : (p : Program) → IsWellTyped p → HasMain (lift p)
has_main p typed =
    subst IsMain (sym (slice_get-map (lift_function p) (definitions p) (function_number p (codes "main")) ∙ ap (option_map (lift_function p)) (number_finds (λ f. f.name) (definitions p) (codes "main") found.function found.is)))
    (form.0, ap length form.1, found.same) where
      whole : Parts p
      whole = parts p typed

      found : Found (λ f. function_faults (file_scope p) f ≡ []) (codes "main") (definitions p)
      found = defined_found (λ f. function_faults (file_scope p) f ≡ []) (codes "main") p.functions whole.main whole.functions

      form : (found.function.ret ≡ ty.Int) × (found.function.params ≡ [])
      form = main_form (file_scope p) found.function found.same found.holds

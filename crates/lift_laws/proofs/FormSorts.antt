-- The expressions and destinations of a lifted program have the sorts that their places ask.
use Rattle.std.proofs.Common.{◌≡◌, ℕ, zero, suc, ◌+◌, ◌<◌, Bool, true, false, cond, ◌&&◌, ◌||◌, List, [], ◌∷◌, ◌++◌, length, take, Option, Some, None, refl, sym, ap, subst, ◌∙◌, arith, append_assoc, nat_lt}
use Rattle.std.specs.Prelude.{map, find, filter, is_some, slice_get, option_map, All, not, codes, if◌then◌else◌}
use Rattle.std.specs.List.{AllByRecursion, enumerate_from}
use Rattle.std.specs.Cmp.Lexicographic.{same_text}
use Rattle.std.proofs.lemmas.List.{length-map, map-append, append-nil}
use Rattle.std.proofs.lemmas.Option.{slice_get-map, slice_get_within}
use Rattle.std.proofs.lemmas.List.Elements.{recursion_from_All}
use Rattle.c_tree.specs.Compute.{literals}
use Rattle.c_tree.specs.declared.ty.Ty.{Ty}
use Rattle.c_tree.specs.declared.ty.Ty.TheVariants as ty
use Rattle.c_tree.specs.declared.cause.CheckCause.TheVariants as c
use Rattle.c_tree.specs.declared.scope.Named.{Named}
use Rattle.c_tree.specs.declared.scope.Meaning.{Meaning}
use Rattle.c_tree.specs.declared.scope.Meaning.TheVariants as m
use Rattle.c_tree.specs.declared.program.At.{At}
use Rattle.c_tree.specs.declared.program.Program.{Program}
use Rattle.c_tree.specs.declared.program.Struct.{Struct}
use Rattle.c_tree.specs.declared.program.Field.{Field}
use Rattle.c_tree.specs.declared.program.Function.{Function}
use Rattle.c_tree.specs.declared.program.GlobalDecl.{GlobalDecl}
use Rattle.c_tree.specs.declared.program.Define.{Define}
use Rattle.c_tree.specs.declared.program.Count.{Count}
use Rattle.c_tree.specs.declared.program.Stmt.{Stmt}
use Rattle.c_tree.specs.declared.program.StmtKind.TheBlock.{hidden-the_row-Stmt-0 as row_of}
use Rattle.c_tree.specs.declared.lifted.Slot.{Slot}
use Rattle.c_tree.specs.declared.lifted.LFunction.{LFunction}
use Rattle.c_tree.specs.declared.lifted.LGlobal.{LGlobal}
use Rattle.c_tree.specs.declared.lifted.Lifted.{Lifted}
use Rattle.c_tree.specs.Fault.{fault, unless}
use Rattle.c_tree.specs.Scope.{Scope, Variable, named, declared, names_of, placed, in_order, has_name, meaning_in, meaning, routine, is_defined, is_same_name, struct_named, field_named, file_scope, with_local, with_parameters, locals_of}
use Rattle.c_tree.specs.Types.{scalar_type, array_type, member_type, type_of_field, is_int}
use Rattle.c_tree.specs.Typing.{IsWellTyped, Stand, definitions, function_faults, body_faults, parameter_faults, type_faults, has_no_parameters}
use Rattle.c_tree.specs.Lifting.{Spot, lift, lift_all, lift_function, lift_global, lift_struct, array_length, slots_from, temporary_slots, variables_of, body_of, struct_number, field_number, function_number, number_of, fields_of}
use Rattle.c_tree.specs.Formed.{sort_of_type, sort_of_slot, sort_of_scalar, sort_of_element, fields_in, HasSorts}
use Rattle.c_tree.specs.StartForm.{parameters_of}
use Rattle.c_tree.specs.ReadForm.{HasReadForm, IsReadFunction, AreReadStmts}
use Rattle.lift_laws.proofs.NoFaults.{Parts, parts, no_right}
use Rattle.lift_laws.proofs.ApartLemmas.{Apart, each_weaker, each_filter}
use Rattle.lift_laws.proofs.NamesLemmas.{types, GoesWith, functions_agree}
use Rattle.lift_laws.proofs.FormedLemmas.{all-map, Found, defined_found, number_finds}
use Rattle.lift_laws.proofs.SlotLemmas.{each_append}
use Rattle.lift_laws.proofs.CallSorts.{Callee, Knows, Shows, HaveSorts, have_none, get_left}
use Rattle.lift_laws.proofs.StmtSorts.{tys, Sees, sees_left, knows_local, Standing, sorted_block}

-- what the names of a file stand for
pub record Good (p : Program) (name : List ℕ) (what : Meaning) : Type 0 where
  pub constant : (i : ℕ) → what ≡ m.Constant i → is_some (slice_get p.defines i) ≡ true
  pub mutex : (i : ℕ) → what ≡ m.Mutex i → i < length p.mutexes
  pub function : (f : Function) → routine p what ≡ Some f → f.name.it ≡ name

pub each_placed_in : (P : Named → Type 0) (x : Named) (ys : List Named) → P x → AllByRecursion P ys → AllByRecursion P (placed x ys)
each_placed_in P x [] h e = (h, tt)
each_placed_in P x (y ∷ ys) h e = pick (nat_lt y.at x.at) (each_placed_in P x ys h e.1) where
  pick : (b : Bool) → AllByRecursion P (placed x ys) → AllByRecursion P (if b then y ∷ placed x ys else x ∷ y ∷ ys)
  pick true more = (e.0, more)
  pick false more = (h, e)

pub each_ordered : (P : Named → Type 0) (xs : List Named) → AllByRecursion P xs → AllByRecursion P (in_order xs)
each_ordered P [] e = tt
each_ordered P (x ∷ xs) e = each_placed_in P x (in_order xs) e.0 (each_ordered P xs e.1)

-- rows of one kind
pub each_row : {A : Type 0} (P : Named → Type 0) (all : List A) (name : A → At (List ℕ)) (what : ℕ → Meaning) → ((i : ℕ) (x : A) → slice_get all i ≡ Some x → P (named (name x) (what i))) →
    (k : ℕ) (xs : List A) → ((j : ℕ) → slice_get all (k + j) ≡ slice_get xs j) → AllByRecursion P (map (λ x. named (name x.1) (what x.0)) (enumerate_from k xs))
each_row P all name what h k [] at = tt
each_row P all name what h k (x ∷ xs) at = (
  h k x (let s : k ≡ k + 0 = omega arith in ap (slice_get all) s ∙ at 0),
  each_row P all name what h (k + 1) xs (λ j. let s : k + 1 + j ≡ k + suc j = omega arith in ap (slice_get all) s ∙ at (suc j)),
)

abbrev pub GoodName : Program → Named → Type 0
GoodName p x = Good p x.name x.meaning

pub all_rows : {A : Type 0} (all : List A) (j : ℕ) → slice_get all (0 + j) ≡ slice_get all j
all_rows all j = let s : 0 + j ≡ j = omega arith in ap (slice_get all) s

pub same_some : {A : Type 0} (x y : A) → Some x ≡ Some y → x ≡ y
same_some x y e = cc

pub good_names : (p : Program) → AllByRecursion (GoodName p) (names_of p)
good_names p = each_ordered (GoodName p) (declared p)
    (each_append (GoodName p) (D ++ G ++ M) R (each_append (GoodName p) (D ++ G) M (each_append (GoodName p) D G defines globals) mutexes) functions) where
      D : List Named
      D = map (λ x. named x.1.name (m.Constant x.0)) (enumerate_from 0 p.defines)

      G : List Named
      G = map (λ x. named x.1.name (m.Global x.0)) (enumerate_from 0 p.globals)

      M : List Named
      M = map (λ x. named x.1 (m.Mutex x.0)) (enumerate_from 0 p.mutexes)

      R : List Named
      R = map (λ x. named x.1.name (m.Routine x.0)) (enumerate_from 0 p.functions)

      defines : AllByRecursion (GoodName p) D
      defines = each_row (GoodName p) p.defines (λ x. x.name) m.Constant
          (λ i x e. record { constant = λ j h. let s : i ≡ j = cc in subst (λ k. is_some (slice_get p.defines k) ≡ true) s (ap is_some e); mutex = λ j h. cc; function = λ f h. cc }) 0 p.defines (all_rows p.defines)

      globals : AllByRecursion (GoodName p) G
      globals = each_row (GoodName p) p.globals (λ x. x.name) m.Global (λ i x e. record { constant = λ j h. cc; mutex = λ j h. cc; function = λ f h. cc }) 0 p.globals (all_rows p.globals)

      mutexes : AllByRecursion (GoodName p) M
      mutexes = each_row (GoodName p) p.mutexes (λ x. x) m.Mutex
          (λ i x e. record { constant = λ j h. cc; mutex = λ j h. let s : i ≡ j = cc in subst (λ k. k < length p.mutexes) s (slice_get_within p.mutexes i x e); function = λ f h. cc }) 0 p.mutexes (all_rows p.mutexes)

      functions : AllByRecursion (GoodName p) R
      functions = each_row (GoodName p) p.functions (λ x. x.name) m.Routine
          (λ i x e. record { constant = λ j h. cc; mutex = λ j h. cc; function = λ f h. ap (λ g. g.name.it) (same_some f x (sym h ∙ e)) }) 0 p.functions (all_rows p.functions)

pub good_meaning : (p : Program) (name : List ℕ) (names : List Named) → AllByRecursion (GoodName p) names → Good p name (meaning_in (find (has_name name) names))
good_meaning p name [] e = record { constant = λ i h. cc; mutex = λ i h. cc; function = λ f h. cc }
good_meaning p name (x ∷ xs) e = pick (has_name name x) refl (good_meaning p name xs e.1) where
  pick : (b : Bool) → b ≡ has_name name x → Good p name (meaning_in (find (has_name name) xs)) → Good p name (meaning_in (cond b (Some x) (find (has_name name) xs)))
  pick true h more = record { constant = e.0.constant; mutex = e.0.mutex; function = λ f g. e.0.function f g ∙ sym (same_text name x.name h) }
  pick false h more = more

-- functions of one name have one form
abbrev pub LikeIt : Function → Function → Type 0
LikeIt f g = g.name.it ≡ f.name.it → (g.ret ≡ f.ret) × (types g ≡ types f)

pub each_at : {A : Type 0} (P : A → Type 0) (xs : List A) (i : ℕ) (x : A) → AllByRecursion P xs → slice_get xs i ≡ Some x → P x
each_at P [] i x h e = cc
each_at P (y ∷ xs) zero x h e = subst P (same_some y x e) h.0
each_at P (y ∷ xs) (suc i) x h e = each_at P xs i x h.1 e

pub like_first : (x f : Function) (ys : List Function) → x ≡ f → AllByRecursion (GoesWith x) ys → AllByRecursion (LikeIt f) ys
like_first x f ys is h = subst (λ g. AllByRecursion (LikeIt g) ys) is (each_weaker each ys h) where
  each : (y : Function) → GoesWith x y → LikeIt x y
  each y goes e = (sym (goes.ret (sym e)), sym (goes.params (sym e)))

pub all_like : (fs : List Function) (i : ℕ) (f : Function) → Apart GoesWith fs → slice_get fs i ≡ Some f → AllByRecursion (LikeIt f) fs
all_like [] i f h e = tt
all_like (x ∷ xs) zero f h e = let is = same_some x f e in ((λ s. (ap (λ g. g.ret) is, ap types is)), like_first x f xs is h.0)
all_like (x ∷ xs) (suc i) f h e = let goes = each_at (GoesWith x) xs i f h.0 e in ((λ s. (goes.ret s, goes.params s)), all_like xs i f h.1 e)

-- slots have the types of variables and temporaries
pub slots_types : (seen xs : List Variable) → map (λ q. q.ty) (slots_from seen xs) ≡ tys xs
slots_types seen [] = refl
slots_types seen (x ∷ xs) = ap (λ ts. x.ty ∷ ts) (slots_types (seen ++ x ∷ []) xs)

pub temporaries_types : (k : ℕ) (made : List Ty) → map (λ q. q.ty) (temporary_slots k made) ≡ made
temporaries_types k [] = refl
temporaries_types k (T ∷ made) = ap (λ ts. T ∷ ts) (temporaries_types (k + 1) made)

pub all_types : (xs : List Variable) (made : List Ty) → map (λ q. q.ty) (slots_from [] xs ++ temporary_slots 1 made) ≡ tys xs ++ made
all_types xs made = map-append (λ q. q.ty) (slots_from [] xs) (temporary_slots 1 made) ∙ ap (λ ts. ts ++ map (λ q. q.ty) (temporary_slots 1 made)) (slots_types [] xs) ∙ ap (λ ts. tys xs ++ ts) (temporaries_types 1 made)

pub slot_sort : (slots : List Slot) (i : ℕ) (T : Ty) → slice_get (map (λ q. q.ty) slots) i ≡ Some T → sort_of_slot (slice_get slots i) ≡ sort_of_type T
slot_sort slots i T e = pick (slice_get slots i) (sym (slice_get-map (λ (q : Slot). q.ty) slots i) ∙ e) where
  pick : (o : Option Slot) → option_map (λ (q : Slot). q.ty) o ≡ Some T → sort_of_slot o ≡ sort_of_type T
  pick None e = cc
  pick (Some q) e = ap sort_of_type (same_some q.ty T e)

pub get_right : (xs ys : List Ty) (i : ℕ) → slice_get (xs ++ ys) (length xs + i) ≡ slice_get ys i
get_right [] ys i = let s : 0 + i ≡ i = omega arith in ap (slice_get ys) s
get_right (x ∷ xs) ys i = let s : length (x ∷ xs) + i ≡ suc (length xs + i) = omega arith in ap (slice_get (x ∷ xs ++ ys)) s ∙ get_right xs ys i

pub function_sees : (xs : List Variable) (made : List Ty) → Sees (slots_from [] xs ++ temporary_slots 1 made) (tys xs)
function_sees xs made i T e =
    slot_sort (slots_from [] xs ++ temporary_slots 1 made) i T (ap (λ ts. slice_get ts i) (all_types xs made) ∙ get_left (tys xs) made i T e)

pub function_shows : (xs : List Variable) (made : List Ty) → Shows (slots_from [] xs ++ temporary_slots 1 made) (length xs) made
function_shows xs made i T e =
    let l : length xs + i ≡ length (tys xs) + i = let k = length-map xs (λ (x : Variable). x.ty) in omega (arith, k) in
    slot_sort (slots_from [] xs ++ temporary_slots 1 made) (length xs + i) T
    (ap (λ ts. slice_get ts (length xs + i)) (all_types xs made) ∙ ap (slice_get (tys xs ++ made)) l ∙ get_right (tys xs) made i ∙ e)

abbrev pub shown : Field → Variable
shown q = record { name = q.name.it; ty = q.ty }

pub parameter_types : (seen : List Variable) (qs : List Field) (rest : List Variable) (temporaries : List Slot) →
    map (λ q. q.ty) (take (length qs) (slots_from seen (map shown qs ++ rest) ++ temporaries)) ≡ map (λ q. q.ty) qs
parameter_types seen [] rest temporaries = refl
parameter_types seen (q ∷ qs) rest temporaries = ap (λ ts. q.ty ∷ ts) (parameter_types (seen ++ shown q ∷ []) qs rest temporaries)

-- what a file says holds of its lifting
pub count_stays : (file : Scope) (o : Option (At Count)) → is_some (array_length file o) ≡ is_some o
count_stays file None = refl
count_stays file (Some n) = refl

pub global_sorts : (file : Scope) (o : Option GlobalDecl) (T : Ty) → ((scalar_type o ≡ Some T → sort_of_scalar (option_map (lift_global file) o) ≡ sort_of_type T)) × ((array_type o ≡ Some T → sort_of_element (option_map (lift_global file) o) ≡ sort_of_type T))
global_sorts file None T = ((λ e. cc), (λ e. cc))
global_sorts file (Some g) T = (scalar, element) where
  of_scalar : (b : Bool) → (if b then None else Some g.ty) ≡ Some T → (if b then None else sort_of_type g.ty) ≡ sort_of_type T
  of_scalar true e = cc
  of_scalar false e = ap sort_of_type (same_some g.ty T e)

  of_element : (b : Bool) → (if b then Some g.ty else None) ≡ Some T → (if b then sort_of_type g.ty else None) ≡ sort_of_type T
  of_element true e = ap sort_of_type (same_some g.ty T e)
  of_element false e = cc

  scalar : scalar_type (Some g) ≡ Some T → sort_of_scalar (Some (lift_global file g)) ≡ sort_of_type T
  scalar e = ap (λ b. if b then None else sort_of_type g.ty) (count_stays file g.count) ∙ of_scalar (is_some g.count) e

  element : array_type (Some g) ≡ Some T → sort_of_element (Some (lift_global file g)) ≡ sort_of_type T
  element e = ap (λ b. if b then sort_of_type g.ty else None) (count_stays file g.count) ∙ of_element (is_some g.count) e

pub struct_at : (p : Program) (owner : List ℕ) (d : Struct) → struct_named (file_scope p) owner ≡ Some d → slice_get p.structs (struct_number p owner) ≡ Some d
struct_at p owner d e = number_finds (λ s. s.name) p.structs owner d e

abbrev pub field_slot : Field → Slot
field_slot f = record { name = f.name.it; ty = f.ty }

pub field_sort : (p : Program) (owner name : List ℕ) (T : Ty) → member_type (file_scope p) (Some (ty.Ptr owner)) name ≡ Some T →
    sort_of_slot (slice_get (fields_in (slice_get (lift p).structs (struct_number p owner))) (field_number (file_scope p) owner name)) ≡ sort_of_type T
field_sort p owner name T e = from (struct_named (file_scope p) owner) refl where
  from : (o : Option Struct) → o ≡ struct_named (file_scope p) owner → sort_of_slot (slice_get (fields_in (slice_get (lift p).structs (struct_number p owner))) (field_number (file_scope p) owner name)) ≡ sort_of_type T
  from None is = absurd (let q : type_of_field (field_named None name) ≡ Some T = ap (λ o. type_of_field (field_named o name)) is ∙ e in let k : ⊥ = cc in k)
  from (Some d) is = at (field_named (Some d) name) refl where
    row : slice_get (lift p).structs (struct_number p owner) ≡ Some (lift_struct d)
    row = slice_get-map lift_struct p.structs (struct_number p owner) ∙ ap (option_map lift_struct) (struct_at p owner d (sym is))

    number : field_number (file_scope p) owner name ≡ number_of (map (λ f. f.name) d.fields) name
    number = ap (λ o. number_of (map (λ f. f.name) (fields_of o)) name) (sym is)

    at : (q : Option Field) → q ≡ field_named (Some d) name → sort_of_slot (slice_get (fields_in (slice_get (lift p).structs (struct_number p owner))) (field_number (file_scope p) owner name)) ≡ sort_of_type T
    at None there = absurd (let q : type_of_field None ≡ Some T = ap type_of_field there ∙ ap (λ o. type_of_field (field_named o name)) is ∙ e in let k : ⊥ = cc in k)
    at (Some f) there =
        let told : type_of_field (Some f) ≡ Some T = ap type_of_field there ∙ ap (λ o. type_of_field (field_named o name)) is ∙ e in
        ap (λ o. sort_of_slot (slice_get (fields_in o) (field_number (file_scope p) owner name))) row
        ∙ ap (λ n. sort_of_slot (slice_get (map field_slot d.fields) n)) number
        ∙ ap sort_of_slot (slice_get-map field_slot d.fields (number_of (map (λ f. f.name) d.fields) name))
        ∙ ap (λ o. sort_of_slot (option_map field_slot o)) (number_finds (λ f. f.name) d.fields name f (sym there))
        ∙ ap sort_of_type (same_some f.ty T told)

pub owner_inside : (p : Program) (name : List ℕ) → is_some (struct_named (file_scope p) name) ≡ true → struct_number p name < length (lift p).structs
owner_inside p name e = from (struct_named (file_scope p) name) refl e where
  from : (o : Option Struct) → o ≡ struct_named (file_scope p) name → is_some o ≡ true → struct_number p name < length (lift p).structs
  from None is e = cc
  from (Some d) is e = subst (λ n. struct_number p name < n) (sym (length-map p.structs lift_struct)) (slice_get_within p.structs (struct_number p name) d (struct_at p name d (sym is)))

pub callee_of : (p : Program) (name : List ℕ) (f : Function) → Apart GoesWith p.functions → (what : Meaning) → Good p name what → routine p what ≡ Some f → is_defined p name ≡ true → Callee (lift p) (function_number p name) f
callee_of p name f agree what good e defined = record {
  function = lift_function p found.function;
  is = slice_get-map (lift_function p) (definitions p) (function_number p name) ∙ ap (option_map (lift_function p)) (number_finds (λ g. g.name) (definitions p) name found.function found.is);
  ret = form.0;
  params = parameter_types [] found.function.params (locals_of (row_of (body_of found.function.body))) _ ∙ form.1;
} where
  like : (what : Meaning) → routine p what ≡ Some f → AllByRecursion (LikeIt f) p.functions
  like (m.Routine i) e = all_like p.functions i f agree e
  like (m.Local i) e = absurd (let k : ⊥ = cc in k)
  like (m.Constant i) e = absurd (let k : ⊥ = cc in k)
  like (m.Global i) e = absurd (let k : ⊥ = cc in k)
  like (m.Mutex i) e = absurd (let k : ⊥ = cc in k)
  like m.Nothing e = absurd (let k : ⊥ = cc in k)

  found : Found (LikeIt f) name (definitions p)
  found = defined_found (LikeIt f) name p.functions defined (like what e)

  form : (found.function.ret ≡ f.ret) × (types found.function ≡ types f)
  form = found.holds (same_text found.function.name.it name (sym found.same) ∙ sym (good.function f e))

pub knows_file : (p : Program) (slots : List Slot) → Apart GoesWith p.functions → Knows (lift p) slots (file_scope p)
knows_file p slots agree = record {
  local = λ i T e. cc;
  constant = λ name i e. (good name).constant i e;
  scalar = λ i T e. ap sort_of_scalar (slice_get-map (lift_global (file_scope p)) p.globals i) ∙ (global_sorts (file_scope p) (slice_get p.globals i) T).0 e;
  element = λ i T e. ap sort_of_element (slice_get-map (lift_global (file_scope p)) p.globals i) ∙ (global_sorts (file_scope p) (slice_get p.globals i) T).1 e;
  field = λ owner name T e. field_sort p owner name T e;
  owner = λ name e. owner_inside p name e;
  callee = λ name f e d. callee_of p name f agree (meaning (file_scope p) name) (good name) e d;
  mutex = λ name i e. subst (λ n. i < n) (sym (length-map p.mutexes (λ (x : At (List ℕ)). x.it))) ((good name).mutex i e);
} where
  good : (name : List ℕ) → Good p name (meaning (file_scope p) name)
  good name = good_meaning p name (names_of p) (good_names p)

-- parameters
pub scope_slots : (sc : Scope) (qs : List Field) → (with_parameters sc qs).slots ≡ sc.slots ++ tys (map shown qs)
scope_slots sc [] = sym (append-nil sc.slots)
scope_slots sc (q ∷ qs) = scope_slots (with_local sc q.name.at q.name.it q.ty) qs ∙ append_assoc sc.slots (q.ty ∷ []) (tys (map shown qs))

pub knows_parameters : (F : Lifted) (slots : List Slot) (sc : Scope) (qs : List Field) → Knows F slots sc → Sees slots (sc.slots ++ tys (map shown qs)) → Knows F slots (with_parameters sc qs)
knows_parameters F slots sc [] K S = K
knows_parameters F slots sc (q ∷ qs) K S =
    let V = subst (λ ts. Sees slots ts) (sym (append_assoc sc.slots (q.ty ∷ []) (tys (map shown qs)))) S in
    knows_parameters F slots (with_local sc q.name.at q.name.it q.ty) qs (knows_local F slots sc q.name.at q.name.it q.ty K (sees_left slots (sc.slots ++ q.ty ∷ []) (tys (map shown qs)) V)) V

-- a function
pub function_sorted : (p : Program) (f : Function) → Apart GoesWith p.functions → function_faults (file_scope p) f ≡ [] → IsReadFunction f → HaveSorts (lift p) (lift_function p f).slots f.ret (lift_function p f).body
unfolding literals lift_all
function_sorted p f agree e read = from f.body refl bodies read.2 where
  st : Stand
  st = record { scope = with_parameters (file_scope p) f.params; block = length f.params; ret = f.ret; in_loop = false }

  w : Spot
  w = record { scope = with_parameters (file_scope p) f.params; slots = length (variables_of f); ret = f.ret }

  bodies : body_faults st f.body ≡ []
  bodies =
      no_right (unless (is_defined p f.name.it) (fault f.name.at (c.Unknown f.name.it))
      ++ unless (not (is_same_name f.name.it (codes "main")) || is_int f.ret && has_no_parameters f.params) (fault f.name.at c.BadMain)
      ++ type_faults (file_scope p) f.name.at f.ret
      ++ parameter_faults (record { scope = file_scope p; block = 0; ret = f.ret; in_loop = false }) f.params) (body_faults st f.body) e

  made : Option (List Stmt) → List Ty
  made body = (lift_all w [] (row_of (body_of body))).made

  slots : Option (List Stmt) → List Slot
  slots body = slots_from [] (variables_of f) ++ temporary_slots 1 (made body)

  from : (body : Option (List Stmt)) → body ≡ f.body → body_faults st body ≡ [] → AreReadStmts (row_of (body_of body)) → HaveSorts (lift p) (slots body) f.ret (lift_all w [] (row_of (body_of body))).body
  from None is e h = have_none (lift p) (slots None) f.ret
  from (Some body) is e h =
      let all : variables_of f ≡ map shown f.params ++ locals_of (row_of body) = ap (λ o. map shown f.params ++ locals_of (row_of (body_of o))) (sym is) in
      let whole : Sees (slots (Some body)) (tys (map shown f.params ++ locals_of (row_of body))) = subst (λ xs. Sees (slots (Some body)) (tys xs)) all (function_sees (variables_of f) (made (Some body))) in
      let V = subst (λ ts. Sees (slots (Some body)) ts) (map-append (λ x. x.ty) (map shown f.params) (locals_of (row_of body))) whole in
      sorted_block (lift p) (slots (Some body)) w [] st (row_of body) (record {
        same = refl;
        ret = refl;
        knows = knows_parameters (lift p) (slots (Some body)) (file_scope p) f.params (knows_file p (slots (Some body)) agree) (sees_left (slots (Some body)) (tys (map shown f.params)) (tys (locals_of (row_of body))) V);
        sees = subst (λ ts. Sees (slots (Some body)) (ts ++ tys (locals_of (row_of body)))) (sym (scope_slots (file_scope p) f.params)) V;
        shows = function_shows (variables_of f) (made (Some body));
        fine = e;
        form_is = h;
      })

pub has_sorts : (p : Program) → IsWellTyped p → HasReadForm p → HasSorts (lift p)
has_sorts p typed read = all-map (lift_function p) (λ f. HaveSorts (lift p) f.slots f.ret f.body) (definitions p) (each_filter (λ f. HaveSorts (lift p) (lift_function p f).slots f.ret (lift_function p f).body) _ p.functions
    (each p.functions (parts p typed).functions (recursion_from_All IsReadFunction p.functions read.functions))) where
      agree : Apart GoesWith p.functions
      agree = functions_agree p (parts p typed).names

      each : (fs : List Function) → AllByRecursion (λ f. function_faults (file_scope p) f ≡ []) fs → AllByRecursion IsReadFunction fs → AllByRecursion (λ f. HaveSorts (lift p) (lift_function p f).slots f.ret (lift_function p f).body) fs
      each [] e h = tt
      each (f ∷ fs) e h = (function_sorted p f agree e.0 h.0, each fs e.1 h.1)

-- The names of a lifted program can be spelt, as those of its tree.
use Rattle.std.proofs.Common.{◌≡◌, ℕ, zero, suc, ◌+◌, ◌≤◌, List, [], ◌∷◌, ◌++◌, length, map, Bool, true, false, refl, sym, subst, arith, append_assoc, Option, Some, None}
use Rattle.std.specs.Prelude.{All, codes, count_by, is_some, nat_lt, if◌then◌else◌}
use Rattle.std.specs.Fmt.{decimal}
use Rattle.std.specs.List.{AllByRecursion}
use Rattle.std.proofs.lemmas.Bool.Decides.{nat_tests}
use Rattle.std.proofs.lemmas.List.{length-append}
use Rattle.std.proofs.lemmas.List.Elements.{All-filter, All-map, All-append, All-from_recursion, recursion_from_All}
use Rattle.std.proofs.lemmas.List.Sums.{count_by-le-length}
use Rattle.c_tree.specs.declared.cause.LimitKind.{LimitKind}
use Rattle.c_tree.specs.declared.cause.LimitKind.TheVariants as limit
use Rattle.c_tree.specs.declared.lifted.LFunction.{LFunction}
use Rattle.c_tree.specs.declared.program.Field.{Field}
use Rattle.c_tree.specs.declared.program.Function.{Function}
use Rattle.c_tree.specs.declared.program.Program.{Program}
use Rattle.c_tree.specs.declared.program.StmtKind.TheBlock.{hidden-the_row-Stmt-0 as row_of}
use Rattle.c_tree.specs.declared.ty.Ty.{Ty}
use Rattle.c_tree.specs.Layout.{size_of}
use Rattle.c_tree.specs.Lifting.{Spot, body_of, first_limit, lift, lift_all, lift_function, lift_global, lift_limit, lift_struct, limit_at, passed_limit, slot_name, slots_from, temporary_slots, variables_of}
use Rattle.c_tree.specs.Names.{names_in}
use Rattle.c_tree.specs.Scope.{Variable, file_scope, is_same_name, locals_of, with_parameters}
use Rattle.c_tree.specs.Typing.{definitions}
use Rattle.c_reader.specs.Spelling.{IsSpelt, IsSlotSpelt, plain, hidden, temporary, CanBeSpelt, AreLocalsSpelt, AreFieldsSpelt, IsTreeSpelt, EachLiftingIsSpelt}
use Rattle.c_reader.proofs.Formed.{tree_spelt}

-- slots
slot_spelt : (name : List ℕ) (j : ℕ) → j ≤ 2147483647 → IsSpelt name → IsSlotSpelt (slot_name name j)
slot_spelt name j le is = go (nat_lt j 2)
  where
    go : (t : Bool) → IsSlotSpelt (if t then name else name ++ codes "." ++ decimal j)
    go true = plain is
    go false = subst IsSlotSpelt (sym (append_assoc name (codes ".") (decimal j))) (hidden j name is le)

slots_spelt : (seen xs : List Variable) → length seen + length xs ≤ 128 → AllByRecursion (λ x. IsSpelt x.name) xs → AllByRecursion (λ s. IsSlotSpelt s.name) (slots_from seen xs)
slots_spelt seen [] few h = tt
slots_spelt seen (x ∷ xs) few h =
    let count = count_by-le-length (λ y. is_same_name y.name x.name) seen in
    let more = length-append seen (x ∷ []) in
    (slot_spelt x.name (count_by (λ y. is_same_name y.name x.name) seen + 1) (omega (arith, count, few)) h.0, slots_spelt (seen ++ x ∷ []) xs (omega (arith, more, few)) h.1)

temporaries_spelt : (k : ℕ) (made : List Ty) → k + length made ≤ 1000 → AllByRecursion (λ s. IsSlotSpelt s.name) (temporary_slots k made)
temporaries_spelt k [] few = tt
temporaries_spelt k (t ∷ made) few = (temporary k (omega (arith, few)), temporaries_spelt (k + 1) made (omega (arith, few)))

length-slots : (seen xs : List Variable) → length (slots_from seen xs) ≡ length xs
length-slots seen [] = refl
length-slots seen (x ∷ xs) = let r = length-slots (seen ++ x ∷ []) xs in omega (arith, r)

length-temporaries : (k : ℕ) (made : List Ty) → length (temporary_slots k made) ≡ length made
length-temporaries k [] = refl
length-temporaries k (t ∷ made) = let r = length-temporaries (k + 1) made in omega (arith, r)

all_spelt : (xs : List Variable) (made : List Ty) → AreLocalsSpelt xs → length (slots_from [] xs ++ temporary_slots 1 made) ≤ 128 → All (λ s. IsSlotSpelt s.name) (slots_from [] xs ++ temporary_slots 1 made)
all_spelt xs made h few =
    let l = length-append (slots_from [] xs) (temporary_slots 1 made) in
    let a = length-slots [] xs in
    let b = length-temporaries 1 made in
    All-append (λ s. IsSlotSpelt s.name) (slots_from [] xs) (temporary_slots 1 made)
    (All-from_recursion (λ s. IsSlotSpelt s.name) (slots_from [] xs) (slots_spelt [] xs (omega (arith, l, a, few)) (recursion_from_All (λ x. IsSpelt x.name) xs h)))
    (All-from_recursion (λ s. IsSlotSpelt s.name) (temporary_slots 1 made) (temporaries_spelt 1 made (omega (arith, l, b, few))))

-- the names that a function declares
parameter : Field → Variable
parameter q = record { name = q.name.it; ty = q.ty }

variables_spelt : (f : Function) → AreFieldsSpelt f.params → AreLocalsSpelt (locals_of (row_of (body_of f.body))) → AreLocalsSpelt (variables_of f)
variables_spelt f h i = All-append (λ x. IsSpelt x.name) _ (locals_of (row_of (body_of f.body))) (All-map (λ x. IsSpelt x.name) _ f.params h) i

-- where no function passes a limit
few_slots : (f : LFunction) → passed_limit f ≡ None → length f.slots ≤ 128
few_slots f e = go (nat_lt 10000 (size_of f.body + 2)) (nat_lt 128 (length f.slots)) refl e
  where
    within : nat_lt 128 (length f.slots) ≡ false → length f.slots ≤ 128
    within e = grind (arith, nat_tests, e)

    go : (a b : Bool) → nat_lt 128 (length f.slots) ≡ b → (if a then Some limit.Places else (if b then Some limit.Slots else None)) ≡ None → length f.slots ≤ 128
    go true b i e = cc
    go false true i e = cc
    go false false i e = within i

none_passed : (p : Program) (fs : List Function) → first_limit p fs ≡ None → AllByRecursion (λ f. length (lift_function p f).slots ≤ 128) fs
none_passed p [] e = tt
none_passed p (f ∷ fs) e = go (passed_limit (lift_function p f)) refl e (λ h. none_passed p fs h)
  where
    go : (o : Option LimitKind) → passed_limit (lift_function p f) ≡ o → limit_at f.name.at o (first_limit p fs) ≡ None
        → (first_limit p fs ≡ None → AllByRecursion (λ f. length (lift_function p f).slots ≤ 128) fs) → AllByRecursion (λ f. length (lift_function p f).slots ≤ 128) (f ∷ fs)
    go None i e more = (few_slots (lift_function p f) i, more e)
    go (Some kind) i e more = cc

abbrev IsFunctionSpelt : Function → Type 0
IsFunctionSpelt f = IsSpelt f.name.it × AreFieldsSpelt f.params × AreLocalsSpelt (locals_of (row_of (body_of f.body)))

each_function : (p : Program) (fs : List Function) → AllByRecursion IsFunctionSpelt fs → AllByRecursion (λ f. length (lift_function p f).slots ≤ 128) fs
    → AllByRecursion (λ f. All (λ s. IsSlotSpelt s.name) (lift_function p f).slots) fs
each_function p [] h few = tt
each_function p (f ∷ fs) h few =
    let w : Spot = record { scope = with_parameters (file_scope p) f.params; slots = length (variables_of f); ret = f.ret } in
    (all_spelt (variables_of f) (lift_all w [] (row_of (body_of f.body))).made (variables_spelt f h.0.1 h.0.2) few.0, each_function p fs h.1 few.1)

module _ (p : Program) (h : IsTreeSpelt p) where
  defined : All IsFunctionSpelt (definitions p)
  defined = All-filter (λ f. is_some f.body) IsFunctionSpelt p.functions h.functions

  each_in : {X : Type 0} (P Q : X → Type 0) (xs : List X) → ((x : X) → P x → Q x) → All P xs → All Q xs
  each_in P Q xs f all = All-from_recursion Q xs (go xs (recursion_from_All P xs all))
    where
      go : (xs : List _) → AllByRecursion P xs → AllByRecursion Q xs
      go [] h = tt
      go (x ∷ xs) h = (f x h.0, go xs h.1)

  names_spelt : (kind : ℕ) → All IsSpelt (names_in (lift p) kind)
  names_spelt zero =
      All-map IsSpelt (λ x. x.name) (map (lift_function p) (definitions p))
      (All-map (λ x. IsSpelt x.name) (lift_function p) (definitions p) (each_in IsFunctionSpelt (λ f. IsSpelt f.name.it) (definitions p) (λ f i. i.0) defined))
  names_spelt (suc zero) =
      All-map IsSpelt (λ x. x.name) (map lift_struct p.structs)
      (All-map (λ x. IsSpelt x.name) lift_struct p.structs (each_in (λ d. IsSpelt d.name.it × AreFieldsSpelt d.fields) (λ d. IsSpelt d.name.it) p.structs (λ d i. i.0) h.structs))
  names_spelt (suc (suc zero)) =
      All-map IsSpelt (λ x. x.name) (map (lift_global (file_scope p)) p.globals) (All-map (λ x. IsSpelt x.name) (lift_global (file_scope p)) p.globals h.globals)
  names_spelt (suc (suc (suc kind))) = All-map IsSpelt (λ m. m.it) p.mutexes h.mutexes

  fields_spelt : All (λ s. All (λ f. IsSpelt f.name) s.fields) (lift p).structs
  fields_spelt =
      All-map (λ s. All (λ f. IsSpelt f.name) s.fields) lift_struct p.structs
      (each_in (λ d. IsSpelt d.name.it × AreFieldsSpelt d.fields) (λ d. All (λ f. IsSpelt f.name) (lift_struct d).fields) p.structs (λ d i. All-map (λ f. IsSpelt f.name) _ d.fields i.1) h.structs)

  lifted_spelt : lift_limit p ≡ None → CanBeSpelt (lift p)
  lifted_spelt small = record {
    names = names_spelt;
    fields = fields_spelt;
    slots = All-map (λ f. All (λ s. IsSlotSpelt s.name) f.slots) (lift_function p) (definitions p)
        (All-from_recursion (λ f. All (λ s. IsSlotSpelt s.name) (lift_function p f).slots) (definitions p)
        (each_function p (definitions p) (recursion_from_All IsFunctionSpelt (definitions p) defined) (none_passed p (definitions p) small)));
  }

pub liftings_spelt : EachLiftingIsSpelt
liftings_spelt source tree is small = lifted_spelt tree (tree_spelt source tree is) small

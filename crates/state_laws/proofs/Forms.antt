-- What an update uses of a program's form.
use Rattle.std.proofs.Common.{◌≡◌, ℕ, zero, suc, ℤ, pos, true, false, List, [], ◌∷◌, Option, Some, None, refl, sym, ◌∙◌, ap, subst, arith}
use Rattle.std.specs.Prelude.{slice_get, codes, ◌&&◌}
use Rattle.std.specs.List.{IsDistinct, AllByRecursion}
use Rattle.std.specs.Option.{option_map}
use Rattle.std.proofs.lemmas.Option.{none-some, same_Some, get_or_from_slice_get}
use Rattle.std.proofs.lemmas.Option.{slice_get-map}
use Rattle.c_tree.specs.declared.ty.Ty.{Ty}
use Rattle.c_tree.specs.declared.ty.Ty.TheVariants as ty
use Rattle.c_tree.specs.declared.lifted.Lifted.{Lifted}
use Rattle.c_tree.specs.declared.lifted.LFunction.{LFunction}
use Rattle.c_tree.specs.declared.lifted.LGlobal.{LGlobal}
use Rattle.c_tree.specs.Scope.{is_same_name}
use Rattle.c_tree.specs.Types.{is_pointer, is_any_pointer}
use Rattle.c_tree.specs.Step.{no_function, function_of}
use Rattle.c_tree.specs.Valid.{Refers}
use Rattle.c_tree.specs.Formed.{IsMain, IsFormed}
use Rattle.c_tree.specs.Names.{names_in}
use Rattle.c_tree.specs.StartForm.{parameters_of, takes_one_pointer, is_start}
use Rattle.state_laws.proofs.Zips.{all_at}
use Rattle.state_laws.proofs.TypedValues.{no_false}
use Rattle.state_laws.proofs.Matched.{same_name, own_name}

abbrev pub Distinct : List (List ℕ) → Type 0
Distinct xs = (i j : ℕ) (a : List ℕ) → slice_get xs i ≡ Some a → slice_get xs j ≡ Some a → i ≡ j

-- what is used of a program's form
pub record HasForm (p : Lifted) : Type 0 where
  pub functions : Distinct (names_in p 0)
  pub structs : Distinct (names_in p 1)
  pub main : slice_get (names_in p 0) p.main ≡ Some (codes "main")
  pub main_called : is_start (function_of p p.main) ≡ false
  pub initial : (i : ℕ) (g : LGlobal) → slice_get p.globals i ≡ Some g → Refers 0 g.ty g.init

each_at : {A : Type 0} (P : A → Type 0) (xs : List A) (i : ℕ) (x : A) → AllByRecursion P xs → slice_get xs i ≡ Some x → P x
each_at P [] i x all e = absurd (none-some x e)
each_at P (y ∷ xs) zero x all e = subst P (same_Some y x e) all.0
each_at P (y ∷ xs) (suc i) x all e = each_at P xs i x all.1 e

apart : (x : List ℕ) (xs : List (List ℕ)) (j : ℕ) (a : List ℕ) → AllByRecursion (λ y. is_same_name x y ≡ false) xs → x ≡ a → slice_get xs j ≡ Some a → ⊥
apart x xs j a all same e = no_false (sym (each_at (λ y. is_same_name x y ≡ false) xs j a all e) ∙ (ap (λ y. is_same_name y a) same ∙ own_name a))

-- different names stand once each
distinct : (xs : List (List ℕ)) → IsDistinct is_same_name xs → Distinct xs
unfolding IsDistinct
distinct [] d i j a e f = absurd (none-some a e)
distinct (x ∷ xs) d zero zero a e f = refl
distinct (x ∷ xs) d zero (suc j) a e f = absurd (apart x xs j a d.0 (same_Some x a e) f)
distinct (x ∷ xs) d (suc i) zero a e f = absurd (apart x xs i a d.0 (same_Some x a f) e)
distinct (x ∷ xs) d (suc i) (suc j) a e f = ap (λ n. suc n) (distinct xs d.1 i j a e f)

main_named : (p : Lifted) (o : Option LFunction) → slice_get p.functions p.main ≡ o → IsMain o → slice_get (names_in p 0) p.main ≡ Some (codes "main")
main_named p None e m = absurd m
main_named p (Some f) e m = slice_get-map (λ x. x.name) p.functions p.main ∙ (ap (λ o. option_map (λ x. x.name) o) e ∙ ap (λ n. Some n) (same_name f.name (codes "main") m.2))

main_is_int : (p : Lifted) (o : Option LFunction) → slice_get p.functions p.main ≡ o → IsMain o → is_start (function_of p p.main) ≡ false
main_is_int p None e m = absurd m
main_is_int p (Some f) e m =
    ap (λ g. is_start g) (get_or_from_slice_get p.functions p.main f no_function e)
    ∙ ap (λ t. is_any_pointer t && takes_one_pointer (parameters_of f)) m.0

starts_null : (t : Ty) (v : ℤ) → (is_pointer t ≡ true → v ≡ pos 0) → Refers 0 t v
starts_null ty.Int v h = tt
starts_null ty.Thread v h = tt
starts_null ty.Void v h = tt
starts_null ty.AnyPtr v h = subst (λ w. Refers 0 ty.AnyPtr w) (sym (h refl)) (omega arith)
starts_null (ty.Ptr name) v h = subst (λ w. Refers 0 (ty.Ptr name) w) (sym (h refl)) (omega arith)

-- a formed program has this form
pub form_of : (p : Lifted) → IsFormed p → HasForm p
form_of p f = record {
  functions = distinct (names_in p 0) f.names.functions;
  structs = distinct (names_in p 1) f.names.structs;
  main = main_named p (slice_get p.functions p.main) refl f.main;
  main_called = main_is_int p (slice_get p.functions p.main) refl f.main;
  initial = λ i g e. starts_null g.ty g.init (all_at (λ g. is_pointer g.ty ≡ true → g.init ≡ pos 0) p.globals i g f.starts e);
}

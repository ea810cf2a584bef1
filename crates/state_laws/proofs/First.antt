-- The first state of a formed program is valid.
use Rattle.std.proofs.Common.{◌≡◌, ℕ, ◌<◌, ℤ, pos, true, List, [], ◌∷◌, length, map, take, Option, Some, None, refl, sym, subst, arith}
use Rattle.std.specs.Prelude.{slice_get, ⊤, MatchOption, unwrap_or}
use Rattle.std.specs.List.{AllZip, AllByRecursion}
use Rattle.std.proofs.lemmas.List.{length-replicate}
use Rattle.std.proofs.lemmas.List.Elements.{All-nil, All-cons, All-replicate, recursion_from_All}
use Rattle.std.proofs.lemmas.Option.{slice_get_within}
use Rattle.c_tree.specs.declared.ty.Ty.{Ty}
use Rattle.c_tree.specs.declared.ty.Ty.TheVariants as ty
use Rattle.c_tree.specs.declared.lifted.LFunction.{LFunction}
use Rattle.c_tree.specs.declared.lifted.LGlobal.{LGlobal}
use Rattle.c_tree.specs.declared.lifted.Lifted.{Lifted}
use Rattle.c_tree.specs.declared.state.Frame.{Frame}
use Rattle.c_tree.specs.Types.{is_pointer}
use Rattle.c_tree.specs.Start.{first_values, start}
use Rattle.c_tree.specs.Step.{function_of, fresh}
use Rattle.c_tree.specs.Formed.{IsMain, IsFormed}
use Rattle.c_tree.specs.Valid.{Refers, Fits, ValidFrame, ValidStack, ValidObject, ValidGlobal, outermost, Valid}
use Rattle.c_tree.specs.StartForm.{CanStart}
use Rattle.state_laws.proofs.Refers.{zero_refers, fresh_fits}
use Rattle.state_laws.proofs.Places.{first_inside}

main_inside : (p : Lifted) (o : Option LFunction) → slice_get p.functions p.main ≡ o → IsMain o → p.main < length p.functions
main_inside p None e h = absurd h
main_inside p (Some f) e h = slice_get_within p.functions p.main f e

-- a frame of a function that begins
pub fresh_valid : (p : Lifted) (n f : ℕ) (k : ℕ) (args : List ℤ) → f < length p.functions → Fits n (take k (function_of p f).slots) args → ValidFrame p n (fresh p f args)
fresh_valid p n f k args h fits = record { function = h; place = first_inside (function_of p f); slots = fresh_fits n k (function_of p f).slots args fits }

-- a stack of one frame
pub stack_of_one : (p : Lifted) (n : ℕ) (f : Frame) → ValidFrame p n f → ValidStack p n (f ∷ [])
stack_of_one p n f v = record { each = All-cons (λ f. ValidFrame p n f) f [] v (All-nil (λ f. ValidFrame p n f)); chained = tt; depth = omega arith }

first_refers : (T : Ty) (v : ℤ) → (is_pointer T ≡ true → v ≡ pos 0) → Refers 0 T v
first_refers ty.Int v h = tt
first_refers ty.Thread v h = tt
first_refers ty.Void v h = tt
first_refers ty.AnyPtr v h = subst (λ w. Refers 0 ty.AnyPtr w) (sym (h refl)) (zero_refers 0 ty.AnyPtr)
first_refers (ty.Ptr name) v h = subst (λ w. Refers 0 (ty.Ptr name) w) (sym (h refl)) (zero_refers 0 (ty.Ptr name))

first_globals : (gs : List LGlobal) → AllByRecursion (λ g. is_pointer g.ty ≡ true → g.init ≡ pos 0) gs → AllZip (λ g values. ValidGlobal 0 g values) gs (map first_values gs)
first_globals [] h = tt
first_globals (g ∷ gs) h = (
  record {
    long = length-replicate (unwrap_or g.count 1) g.init;
    refers = All-replicate (λ v. Refers 0 g.ty v) (unwrap_or g.count 1) g.init (first_refers g.ty g.init h.0);
  },
  first_globals gs h.1,
)

pub start_is_valid : (p : Lifted) (input : List ℕ) → IsFormed p → Valid p (start p input)
start_is_valid p input formed =
    let main : Frame = fresh p p.main [] in
    let inside : p.main < length p.functions = main_inside p (slice_get p.functions p.main) refl formed.main in
    let stack : ValidStack p 0 (main ∷ []) = stack_of_one p 0 main (fresh_valid p 0 p.main 0 [] inside tt) in
    record {
      starts = (refl, All-nil (λ o. MatchOption o ⊤ (λ frames. CanStart (function_of p (outermost frames)))));
      stacks = All-cons (λ o. MatchOption o ⊤ (λ frames. ValidStack p 0 frames)) (Some (main ∷ [])) [] stack (All-nil (λ o. MatchOption o ⊤ (λ frames. ValidStack p 0 frames)));
      globals = first_globals p.globals (recursion_from_All (λ g. is_pointer g.ty ≡ true → g.init ≡ pos 0) p.globals formed.starts);
      objects = All-nil (λ o. MatchOption o ⊤ (λ o. ValidObject p 0 o));
      mutexes = length-replicate (length p.mutexes) None;
      owners = All-replicate (λ o. MatchOption o ⊤ (λ t. t < 1)) (length p.mutexes) None tt;
      live = omega arith;
      threads = omega arith;
      made = omega arith;
      printed = omega arith;
    }

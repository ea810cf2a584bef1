-- What the form of a program asks of the statement at each of its places.
use Rattle.std.proofs.Common.{◌≡◌, ℕ, zero, suc, ◌+◌, ◌<◌, ◌≤◌, true, false, Bool, List, [], ◌∷◌, ◌++◌, length, take, Option, Some, None, refl, sym, ap, ◌∙◌, subst, arith}
use Rattle.std.specs.Prelude.{slice_get, ⊤, ◌&&◌}
use Rattle.std.proofs.lemmas.List.{length-take-le}
use Rattle.std.proofs.lemmas.Option.{slice_get_within}
use Rattle.c_tree.specs.declared.lifted.LExpr.{LExpr}
use Rattle.c_tree.specs.declared.lifted.LFunction.{LFunction}
use Rattle.c_tree.specs.declared.lifted.Lifted.{Lifted}
use Rattle.c_tree.specs.declared.lifted.LStmt.{LStmt, Row_of-LStmt, end_of-LStmt, more_of-LStmt}
use Rattle.c_tree.specs.declared.lifted.LStmt.TheBlock.{hidden-the_row-LStmt-0 as row_of}
use Rattle.c_tree.specs.declared.lifted.LStmt.TheVariants as s
use Rattle.c_tree.specs.declared.lifted.Slot.{Slot}
use Rattle.c_tree.specs.declared.place.Act.{Act}
use Rattle.c_tree.specs.declared.place.Act.TheVariants.{Do}
use Rattle.c_tree.specs.declared.place.Exits.{Exits}
use Rattle.c_tree.specs.declared.place.Place.{Place}
use Rattle.c_tree.specs.Formed.{IsFormed, HasSortsIn, IsCall, HasStartForm, AreArguments, PrintFits, PrintsFit}
use Rattle.c_tree.specs.Layout.{count, counts, enter, enters, layout, layouts, places, place_at, nowhere}
use Rattle.c_tree.specs.StartForm.{CanStart, takes_one_pointer, parameters_of}
use Rattle.c_tree.specs.Step.{function_of, no_function}
use Rattle.c_tree.specs.Types.{is_any_pointer}
use Rattle.c_tree.specs.Typing.{directives}
use Rattle.state_laws.proofs.Places.{ActFits, act_fits, function_told}

-- a place where something is printed has the arguments that the text asks
abbrev pub PrintsAt : Act → Type 0
PrintsAt (Do (s.Print text args)) = directives text ≡ Some (length args)
PrintsAt _ = ⊤

abbrev pub AllPrint : List Place → Type 0
AllPrint [] = ⊤
AllPrint (x ∷ xs) = PrintsAt x.act × AllPrint xs

both_print : (xs ys : List Place) → AllPrint xs → AllPrint ys → AllPrint (xs ++ ys)
both_print [] ys a b = b
both_print (x ∷ xs) ys a b = (a.0, both_print xs ys a.1 b)

mutual
  unfolding count counts enter enters layout layouts PrintFits PrintsFit

  layout_prints : (x : Exits) (n next : ℕ) (t : LStmt) → PrintFits t → AllPrint (layout x n next t)
  layout_prints x n next (s.If' e i a j b) h =
      (tt, both_print (layouts x (n + 1) next a) (layouts x (n + 1 + counts a) next b) (layouts_print x (n + 1) next a h.0) (layouts_print x (n + 1 + counts a) next b h.1))
  layout_prints x n next (s.Loop' i c e j b k t) h =
      both_print (layouts x _ _ c) _ (layouts_print x _ _ c h.0) (tt, both_print (layouts _ _ _ b) _ (layouts_print _ _ _ b h.1) (both_print (layouts x _ _ t) _ (layouts_print x _ _ t h.2) (tt, tt)))
  layout_prints x n next s.Break h = tt
  layout_prints x n next s.Continue h = tt
  layout_prints x n next (s.Return value) h = (tt, tt)
  layout_prints x n next (s.Print text args) h = (h, tt)
  layout_prints x n next simple h = (tt, tt)

  layouts_print : (x : Exits) (n next : ℕ) {m : _} (row : Row_of-LStmt m) → PrintsFit row → AllPrint (layouts x n next row)
  layouts_print x n next end_of-LStmt h = tt
  layouts_print x n next (more_of-LStmt t rest) h =
      both_print (layout x n (enters x (n + count t) next rest) t) (layouts x (n + count t) next rest) (layout_prints x n (enters x (n + count t) next rest) t h.0) (layouts_print x (n + count t) next rest h.1)

places_print : (f : LFunction) → PrintsFit (row_of f.body) → AllPrint (places f)
places_print f h = (tt, both_print (layouts _ 1 _ (row_of f.body)) _ (layouts_print _ 1 _ (row_of f.body) h) (tt, tt))

print_at : (xs : List Place) (n : ℕ) → AllPrint xs → PrintsAt (nowhere (slice_get xs n)).act
print_at [] n h = tt
print_at (x ∷ xs) zero h = h.0
print_at (x ∷ xs) (suc n) h = print_at xs n h.1

-- what is asked of a place's statement: a call has its callee's number of arguments, its parameters are its first slots;
-- a started function has one parameter; a text has a directive for each argument
abbrev pub Covered : Lifted → Act → Type 0
Covered p (Do (s.Call to g args)) = (g < length p.functions) × (length args ≡ (function_of p g).params) × ((function_of p g).params ≤ length (function_of p g).slots)
Covered p (Do (s.Spawn to g e)) = (g < length p.functions) × ((function_of p g).params ≡ 1) × (1 ≤ length (function_of p g).slots)
Covered p (Do (s.Print text args)) = directives text ≡ Some (length args)
Covered p _ = ⊤

args_long : (p : Lifted) (slots params : List Slot) (args : List LExpr) → AreArguments p slots params args → length args ≡ length params
args_long p slots [] [] h = refl
args_long p slots (x ∷ params) (a ∷ args) h = ap suc (args_long p slots params args h.1)
args_long p slots [] (a ∷ args) h = absurd h
args_long p slots (x ∷ params) [] h = absurd h

is_one : (xs : List Slot) → takes_one_pointer xs ≡ true → length xs ≡ 1
is_one [] h = absurd (let no : false ≡ true = h in cc)
is_one (x ∷ []) h = refl
is_one (x ∷ y ∷ xs) h = absurd (let no : false ≡ true = h in cc)

second : (a b : Bool) → (a && b) ≡ true → b ≡ true
second true b h = h
second false b h = cc

params_fit : (p : Lifted) (g : ℕ) → IsFormed p → g < length p.functions → (function_of p g).params ≤ length (function_of p g).slots
params_fit p g formed h = formed.parameters g no_function h

one_param : (p : Lifted) (g : ℕ) (f : LFunction) → IsFormed p → g < length p.functions → function_of p g ≡ f → CanStart f → ((function_of p g).params ≡ 1) × (1 ≤ length (function_of p g).slots)
one_param p g f formed within same start =
    let fn = function_of p g in
    let le = params_fit p g formed within in
    let can : CanStart fn = subst (λ k. CanStart k) (sym same) start in
    let long : length (parameters_of fn) ≡ 1 = is_one (parameters_of fn) (second (is_any_pointer fn.ret) (takes_one_pointer (parameters_of fn)) can) in
    let taken : length (take fn.params fn.slots) ≡ fn.params = length-take-le fn.params fn.slots le in
    let is : fn.params ≡ 1 = sym taken ∙ long in
    (is, omega (arith, le, is))

covers_call : (p : Lifted) (slots : List Slot) (to : Option ℕ) (g : ℕ) (args : List LExpr) (o : Option LFunction) → IsFormed p → slice_get p.functions g ≡ o → IsCall p slots to o args → Covered p (Do (s.Call to g args))
covers_call p slots to g args None formed e h = absurd h
covers_call p slots to g args (Some f) formed e h =
    let within = slice_get_within p.functions g f e in
    let le = params_fit p g formed within in
    let fn = function_of p g in
    let same : fn ≡ f = function_told p g f e in
    let long : length args ≡ length (parameters_of f) = args_long p slots (parameters_of f) args h.0 in
    let taken : length (take fn.params fn.slots) ≡ fn.params = length-take-le fn.params fn.slots le in
    (within, long ∙ (ap (λ (k : LFunction). length (parameters_of k)) (sym same) ∙ taken), le)

covers_spawn : (p : Lifted) (g : ℕ) (o : Option LFunction) → IsFormed p → slice_get p.functions g ≡ o → HasStartForm o → (g < length p.functions) × ((function_of p g).params ≡ 1) × (1 ≤ length (function_of p g).slots)
covers_spawn p g None formed e h = absurd h
covers_spawn p g (Some f) formed e h =
    let within = slice_get_within p.functions g f e in
    let one = one_param p g f formed within (function_told p g f e) h in
    (within, one.0, one.1)

covers : (p : Lifted) (fn : LFunction) (a : Act) → IsFormed p → ActFits p fn.slots fn.ret a → PrintsAt a → Covered p a
unfolding HasSortsIn
covers p fn (Do (s.Call to g args)) formed h q = covers_call p fn.slots to g args (slice_get p.functions g) formed refl h
covers p fn (Do (s.Spawn to g e)) formed h q = covers_spawn p g (slice_get p.functions g) formed refl h.1
covers p fn (Do (s.Print text args)) formed h q = q
covers p fn _ formed h q = tt

-- what is done at a place of a formed program is covered
pub covered_at : (p : Lifted) (f n : ℕ) → IsFormed p → f < length p.functions → Covered p (place_at (function_of p f) n).act
covered_at p f n formed within =
    let fn = function_of p f in
    covers p fn (place_at fn n).act formed (act_fits p f n formed within) (print_at (places fn) n (places_print fn (formed.prints f no_function within)))

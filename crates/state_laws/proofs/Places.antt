-- What is done at the places of a formed program's functions has the sorts that are asked, and flow stays inside.
use Rattle.std.proofs.Common.{◌≡◌, ℕ, zero, suc, ◌+◌, ◌<◌, List, [], ◌∷◌, ◌++◌, length, Some, ap, arith}
use Rattle.std.specs.Prelude.{slice_get, ⊤}
use Rattle.std.proofs.lemmas.Option.{slice_get-get_or, get_or_from_slice_get}
use Rattle.c_tree.specs.declared.ty.Ty.{Ty}
use Rattle.c_tree.specs.declared.lifted.Slot.{Slot}
use Rattle.c_tree.specs.declared.lifted.LFunction.{LFunction}
use Rattle.c_tree.specs.declared.lifted.Lifted.{Lifted}
use Rattle.c_tree.specs.declared.lifted.LStmt.{LStmt, Row_of-LStmt, end_of-LStmt, more_of-LStmt}
use Rattle.c_tree.specs.declared.lifted.LStmt.TheBlock.{hidden-the_row-LStmt-0 as row_of}
use Rattle.c_tree.specs.declared.lifted.LStmt.TheVariants as s
use Rattle.c_tree.specs.declared.place.Act.{Act}
use Rattle.c_tree.specs.declared.place.Act.TheVariants.{Enter, Do, Test, EndLoop, Finish}
use Rattle.c_tree.specs.declared.place.Exits.{Exits}
use Rattle.c_tree.specs.declared.place.Follow.{Follow}
use Rattle.c_tree.specs.declared.place.Follow.TheVariants.{One, Two, Leaves}
use Rattle.c_tree.specs.declared.place.Place.{Place}
use Rattle.c_tree.specs.declared.state.Frame.{Frame}
use Rattle.c_tree.specs.Layout.{place, count, counts, enter, enters, layout, layouts, places, nowhere, place_at, size_of}
use Rattle.c_tree.specs.Step.{no_function, function_of, then_of, else_of, place_in, at_frame}
use Rattle.c_tree.specs.Formed.{HasSortsIn, HaveSortsIn, IsFormed}
use Rattle.c_places.specs.Laws.{EachFollower}
use Rattle.c_places.proofs.FlowLemmas.{length-places, stays-inside}

-- what is done at a place has the sorts that are asked
abbrev pub ActFits : Lifted → List Slot → Ty → Act → Type 0
ActFits p slots ret (Do t) = HasSortsIn p slots ret t
ActFits p slots ret Enter = ⊤
ActFits p slots ret (Test e) = ⊤
ActFits p slots ret EndLoop = ⊤
ActFits p slots ret Finish = ⊤

abbrev pub EachFits : Lifted → List Slot → Ty → List Place → Type 0
EachFits p slots ret [] = ⊤
EachFits p slots ret (x ∷ xs) = ActFits p slots ret x.act × EachFits p slots ret xs

both_fit : (p : Lifted) (slots : List Slot) (ret : Ty) (xs ys : List Place) → EachFits p slots ret xs → EachFits p slots ret ys → EachFits p slots ret (xs ++ ys)
both_fit p slots ret [] ys a b = b
both_fit p slots ret (x ∷ xs) ys a b = (a.0, both_fit p slots ret xs ys a.1 b)

mutual
  unfolding count counts enter enters layout layouts HasSortsIn HaveSortsIn

  layout_fits : (p : Lifted) (slots : List Slot) (ret : Ty) (x : Exits) (n next : ℕ) (t : LStmt) → HasSortsIn p slots ret t → EachFits p slots ret (layout x n next t)
  layout_fits p slots ret x n next (s.If' e i a j b) h =
      (tt, both_fit p slots ret (layouts x (n + 1) next a) (layouts x (n + 1 + counts a) next b) (layouts_fit p slots ret x (n + 1) next a h.1) (layouts_fit p slots ret x (n + 1 + counts a) next b h.2))
  layout_fits p slots ret x n next (s.Loop' i c e j b k t) h =
      let test = n + counts c in
      let step = test + 1 + counts b in
      let end = step + counts t in
      let again = enters x step end t in
      let inner : Exits = record { leave = next; again = again } in
      both_fit p slots ret (layouts x n test c) _ (layouts_fit p slots ret x n test c h.0) (
        tt,
        both_fit p slots ret (layouts inner (test + 1) again b) _ (layouts_fit p slots ret inner (test + 1) again b h.2)
            (both_fit p slots ret (layouts x step end t) _ (layouts_fit p slots ret x step end t h.3) (tt, tt)),
      )
  layout_fits p slots ret x n next s.Break h = tt
  layout_fits p slots ret x n next s.Continue h = tt
  layout_fits p slots ret x n next (s.Assign to e) h = (h, tt)
  layout_fits p slots ret x n next (s.New slot owner) h = (h, tt)
  layout_fits p slots ret x n next (s.Getc slot) h = (h, tt)
  layout_fits p slots ret x n next (s.Print text args) h = (h, tt)
  layout_fits p slots ret x n next (s.Free e) h = (h, tt)
  layout_fits p slots ret x n next (s.Call to f args) h = (h, tt)
  layout_fits p slots ret x n next (s.Spawn to f e) h = (h, tt)
  layout_fits p slots ret x n next (s.Join e) h = (h, tt)
  layout_fits p slots ret x n next (s.Lock m) h = (h, tt)
  layout_fits p slots ret x n next (s.Unlock m) h = (h, tt)
  layout_fits p slots ret x n next (s.Return value) h = (h, tt)

  layouts_fit : (p : Lifted) (slots : List Slot) (ret : Ty) (x : Exits) (n next : ℕ) {m : _} (row : Row_of-LStmt m) → HaveSortsIn p slots ret row → EachFits p slots ret (layouts x n next row)
  layouts_fit p slots ret x n next end_of-LStmt h = tt
  layouts_fit p slots ret x n next (more_of-LStmt t rest) h =
      both_fit p slots ret (layout x n (enters x (n + count t) next rest) t) (layouts x (n + count t) next rest) (layout_fits p slots ret x n (enters x (n + count t) next rest) t h.0) (layouts_fit p slots ret x (n + count t) next rest h.1)

places_fit : (p : Lifted) (f : LFunction) → HaveSortsIn p f.slots f.ret (row_of f.body) → EachFits p f.slots f.ret (places f)
places_fit p f h =
    let last = 1 + size_of f.body in
    let outside : Exits = record { leave = last; again = last } in
    (tt, both_fit p f.slots f.ret (layouts outside 1 last (row_of f.body)) (place Finish Leaves ∷ []) (layouts_fit p f.slots f.ret outside 1 last (row_of f.body) h) (tt, tt))

fits_at : (p : Lifted) (slots : List Slot) (ret : Ty) (xs : List Place) (n : ℕ) → EachFits p slots ret xs → ActFits p slots ret (nowhere (slice_get xs n)).act
fits_at p slots ret [] n h = tt
fits_at p slots ret (x ∷ xs) zero h = h.0
fits_at p slots ret (x ∷ xs) (suc n) h = fits_at p slots ret xs n h.1

-- a function of the program
pub function_is : (p : Lifted) (f : ℕ) → f < length p.functions → slice_get p.functions f ≡ Some (function_of p f)
function_is p f h = slice_get-get_or p.functions f no_function h

pub function_told : (p : Lifted) (f : ℕ) (g : LFunction) → slice_get p.functions f ≡ Some g → function_of p f ≡ g
function_told p f g e = get_or_from_slice_get p.functions f g no_function e

-- what is done where a frame stands
pub act_fits : (p : Lifted) (f n : ℕ) → IsFormed p → f < length p.functions → ActFits p (function_of p f).slots (function_of p f).ret (place_at (function_of p f) n).act
act_fits p f n formed h = let g = function_of p f in fits_at p g.slots g.ret (places g) n (places_fit p g (formed.sorts f no_function h))

pub where_is : (p : Lifted) (f : Frame) → f.function < length p.functions → at_frame p f ≡ place_at (function_of p f.function) f.place
where_is p f h = ap (λ o. nowhere (place_in o f.place)) (function_is p f.function h)

-- a function has a first place, and each place that follows one
pub first_inside : (f : LFunction) → 0 < length (places f)
first_inside f = omega (arith, length-places f)

then_follows : (P : ℕ → Type 0) (x : Follow) → P 0 → EachFollower P x → P (then_of x) × P (else_of x)
then_follows P (One n) z h = (h, h)
then_follows P (Two n m) z h = h
then_follows P Leaves z h = (z, z)

pub follows_inside : (f : LFunction) (n : ℕ) → n < length (places f) → (then_of (place_at f n).follow < length (places f)) × (else_of (place_at f n).follow < length (places f))
follows_inside f n h = then_follows (λ m. m < length (places f)) (place_at f n).follow (first_inside f) (stays-inside f n h)

-- The innermost frame of a list of frames that is given from the innermost one on.
use Rattle.std.proofs.Common.{◌≡◌, ◌-◌, List, [], ◌∷◌, ◌++◌, length, reverse, take, refl, sym, ap, ◌∙◌, arith, length-append}
use Rattle.std.specs.Prelude.{slice_index_or, slice_set}
use Rattle.std.proofs.lemmas.List.{reverse-append}
use Rattle.std.proofs.Math.Seq.{get_or-append_seam}
use Rattle.c_tree.specs.declared.state.Frame.{Frame}
use Rattle.c_tree.specs.Step.{no_frame, top_of, outer_of, with_top}

-- a reversed list ends with the first element
pub reverse_cons : {A : Type 0} (x : A) (xs : List A) → reverse (x ∷ xs) ≡ reverse xs ++ x ∷ []
reverse_cons x xs = reverse-append (x ∷ []) xs

last_of : (xs : List Frame) (f : Frame) → length (xs ++ f ∷ []) - 1 ≡ length xs
last_of xs f = let e = length-append xs (f ∷ []) in omega (arith, e)

top_snoc : (xs : List Frame) (f : Frame) → top_of (xs ++ f ∷ []) ≡ f
top_snoc xs f = ap (λ n. slice_index_or (xs ++ f ∷ []) n no_frame) (last_of xs f) ∙ get_or-append_seam xs f [] no_frame

set_snoc : (xs : List Frame) (f g : Frame) → slice_set (xs ++ f ∷ []) (length xs) g ≡ xs ++ g ∷ []
set_snoc [] f g = refl
set_snoc (x ∷ xs) f g = ap (λ l. x ∷ l) (set_snoc xs f g)

take_snoc : (xs : List Frame) (f : Frame) → take (length xs) (xs ++ f ∷ []) ≡ xs
take_snoc [] f = refl
take_snoc (x ∷ xs) f = ap (λ l. x ∷ l) (take_snoc xs f)

-- the innermost frame
pub top_reverse : (f : Frame) (xs : List Frame) → top_of (reverse (f ∷ xs)) ≡ f
top_reverse f xs = ap top_of (reverse_cons f xs) ∙ top_snoc (reverse xs) f

-- another innermost frame
pub with_top_reverse : (f g : Frame) (xs : List Frame) → with_top (reverse (f ∷ xs)) g ≡ reverse (g ∷ xs)
with_top_reverse f g xs =
    ap (λ l. with_top l g) (reverse_cons f xs)
    ∙ (ap (λ n. slice_set (reverse xs ++ f ∷ []) n g) (last_of (reverse xs) f) ∙ (set_snoc (reverse xs) f g ∙ sym (reverse_cons g xs)))

-- the frames outside the innermost one
pub outer_reverse : (f : Frame) (xs : List Frame) → outer_of (reverse (f ∷ xs)) ≡ reverse xs
outer_reverse f xs =
    ap outer_of (reverse_cons f xs)
    ∙ (ap (λ n. take n (reverse xs ++ f ∷ [])) (last_of (reverse xs) f) ∙ take_snoc (reverse xs) f)

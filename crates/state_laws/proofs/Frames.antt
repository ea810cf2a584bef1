-- A thread's frames as those outside and the innermost one.
use Rattle.std.proofs.Common.{◌≡◌, ℕ, suc, ◌+◌, ◌-◌, ◌<◌, true, nat_lt, List, [], ◌∷◌, ◌++◌, length, take, drop, Option, Some, None, refl, sym, ap, arith, ◌∙◌}
use Rattle.std.specs.Prelude.{slice_get}
use Rattle.std.proofs.lemmas.Bool.{ltb-true}
use Rattle.std.proofs.lemmas.List.{take_all, take_more, set_split, drop_all, length-take-le}
use Rattle.c_tree.specs.declared.state.Frame.{Frame}
use Rattle.c_tree.specs.declared.state.State.{State}
use Rattle.c_tree.specs.Step.{no_frame, frames_in, frames_at, is_live, top_of, outer_of, with_top}

pub split : (frames : List Frame) → 0 < length frames → frames ≡ outer_of frames ++ top_of frames ∷ []
split frames h =
    let last = length frames - 1 in
    let whole : take (last + 1) frames ≡ frames = take_all (last + 1) frames (omega arith) in
    sym whole ∙ take_more frames last no_frame (omega (arith, h))

pub new_top : (frames : List Frame) (f : Frame) → 0 < length frames → with_top frames f ≡ outer_of frames ++ f ∷ []
new_top frames f h =
    let last = length frames - 1 in
    let none : drop (suc last) frames ≡ [] = drop_all (suc last) frames (omega (arith, h)) in
    set_split frames last f (omega (arith, h)) ∙ ap (λ rest. take last frames ++ f ∷ rest) none

pub length-outer : (frames : List Frame) → length (outer_of frames) ≡ length frames - 1
length-outer frames = length-take-le (length frames - 1) frames (omega arith)

-- a live thread's frames
live_frames : (o : Option (Option (List Frame))) → nat_lt 0 (length (frames_in o)) ≡ true → o ≡ Some (Some (frames_in o))
live_frames (Some (Some frames)) e = refl
live_frames (Some None) e = absurd (let k : ⊥ = cc in k)
live_frames None e = absurd (let k : ⊥ = cc in k)

pub frames_of_live : (s : State) (t : ℕ) → is_live s t ≡ true → (slice_get s.threads t ≡ Some (Some (frames_at s t))) × (0 < length (frames_at s t))
frames_of_live s t e = (live_frames (slice_get s.threads t) e, ltb-true 0 (length (frames_at s t)) e)

-- Stacks whose frames are chained, as the innermost frame changes, comes and goes.
use Rattle.std.proofs.Common.{◌≡◌, ℕ, ◌<◌, ◌≤◌, List, [], ◌∷◌, ◌++◌, length, refl, sym, subst, arith, length-append}
use Rattle.std.proofs.lemmas.List.Elements.{All-push, All-weaker}
use Rattle.c_tree.specs.declared.lifted.Lifted.{Lifted}
use Rattle.c_tree.specs.declared.state.Frame.{Frame}
use Rattle.c_tree.specs.Layout.{place_at}
use Rattle.c_tree.specs.Step.{function_of}
use Rattle.c_tree.specs.Limits.{max_frames}
use Rattle.c_tree.specs.Valid.{ValidFrame, IsCallOf, Chained, ChainedFrames, ValidStack, outermost}
use Rattle.state_laws.proofs.Zips.{all_front, all_last}
use Rattle.state_laws.proofs.Refers.{fits_more}

-- a frame waits for a call of a function
abbrev pub Calls : Lifted → Frame → ℕ → Type 0
Calls p f callee = IsCallOf callee (place_at (function_of p f.function) f.place).act

-- another innermost frame of the same function
chained_same : (p : Lifted) (c : Frame) (outer : List Frame) (f g : Frame) → g.function ≡ f.function → Chained p c (outer ++ f ∷ []) → Chained p c (outer ++ g ∷ [])
chained_same p c [] f g e h = (subst (λ k. Calls p c k) (sym e) h.0, tt)
chained_same p c (o ∷ outer) f g e h = (h.0, chained_same p o outer f g e h.1)

frames_same : (p : Lifted) (outer : List Frame) (f g : Frame) → g.function ≡ f.function → ChainedFrames p (outer ++ f ∷ []) → ChainedFrames p (outer ++ g ∷ [])
frames_same p [] f g e h = tt
frames_same p (o ∷ outer) f g e h = chained_same p o outer f g e h

-- a frame more
chained_more : (p : Lifted) (c : Frame) (outer : List Frame) (f g : Frame) → Calls p f g.function → Chained p c (outer ++ f ∷ []) → Chained p c ((outer ++ f ∷ []) ++ g ∷ [])
chained_more p c [] f g calls h = (h.0, (calls, tt))
chained_more p c (o ∷ outer) f g calls h = (h.0, chained_more p o outer f g calls h.1)

frames_more : (p : Lifted) (outer : List Frame) (f g : Frame) → Calls p f g.function → ChainedFrames p (outer ++ f ∷ []) → ChainedFrames p ((outer ++ f ∷ []) ++ g ∷ [])
frames_more p [] f g calls h = (calls, tt)
frames_more p (o ∷ outer) f g calls h = chained_more p o outer f g calls h

-- a frame less
chained_less : (p : Lifted) (c : Frame) (outer : List Frame) (f g : Frame) → Chained p c ((outer ++ f ∷ []) ++ g ∷ []) → Chained p c (outer ++ f ∷ []) × Calls p f g.function
chained_less p c [] f g h = ((h.0, tt), h.1.0)
chained_less p c (o ∷ outer) f g h = let r = chained_less p o outer f g h.1 in ((h.0, r.0), r.1)

frames_less : (p : Lifted) (outer : List Frame) (f g : Frame) → ChainedFrames p ((outer ++ f ∷ []) ++ g ∷ []) → ChainedFrames p (outer ++ f ∷ []) × Calls p f g.function
frames_less p [] f g h = (tt, h.0)
frames_less p (o ∷ outer) f g h = chained_less p o outer f g h

-- the outermost frame's function stays
pub outermost_same : (outer : List Frame) (f g : Frame) → g.function ≡ f.function → outermost (outer ++ g ∷ []) ≡ outermost (outer ++ f ∷ [])
outermost_same [] f g e = e
outermost_same (o ∷ outer) f g e = refl

pub outermost_more : (outer : List Frame) (f g : Frame) → outermost ((outer ++ f ∷ []) ++ g ∷ []) ≡ outermost (outer ++ f ∷ [])
outermost_more [] f g = refl
outermost_more (o ∷ outer) f g = refl

-- the stack with another innermost frame
pub stack_same : (p : Lifted) (n : ℕ) (outer : List Frame) (f g : Frame) → g.function ≡ f.function → ValidFrame p n g → ValidStack p n (outer ++ f ∷ []) → ValidStack p n (outer ++ g ∷ [])
stack_same p n outer f g e v h = record {
  each = All-push (λ f. ValidFrame p n f) outer g (all_front (λ f. ValidFrame p n f) outer (f ∷ []) h.each) v;
  chained = frames_same p outer f g e h.chained;
  depth = let d : length (outer ++ f ∷ []) ≤ max_frames = h.depth in omega (arith, length-append outer (g ∷ []), length-append outer (f ∷ []), d);
}

pub stack_more : (p : Lifted) (n : ℕ) (outer : List Frame) (f g : Frame) → Calls p f g.function → ValidFrame p n g → length (outer ++ f ∷ []) < max_frames → ValidStack p n (outer ++ f ∷ []) → ValidStack p n ((outer ++ f ∷ []) ++ g ∷ [])
stack_more p n outer f g calls v d h = record {
  each = All-push (λ f. ValidFrame p n f) (outer ++ f ∷ []) g h.each v;
  chained = frames_more p outer f g calls h.chained;
  depth = omega (arith, length-append (outer ++ f ∷ []) (g ∷ []), d);
}

pub stack_less : (p : Lifted) (n : ℕ) (outer : List Frame) (f g : Frame) → ValidStack p n ((outer ++ f ∷ []) ++ g ∷ []) → ValidStack p n (outer ++ f ∷ []) × Calls p f g.function
stack_less p n outer f g h =
    let r = frames_less p outer f g h.chained in
    let d : length ((outer ++ f ∷ []) ++ g ∷ []) ≤ max_frames = h.depth in (
      record {
        each = all_front (λ f. ValidFrame p n f) (outer ++ f ∷ []) (g ∷ []) h.each;
        chained = r.0;
        depth = omega (arith, length-append (outer ++ f ∷ []) (g ∷ []), d);
      },
      r.1,
    )

pub stack_top : (p : Lifted) (n : ℕ) (outer : List Frame) (f : Frame) → ValidStack p n (outer ++ f ∷ []) → ValidFrame p n f
stack_top p n outer f h = all_last (λ f. ValidFrame p n f) outer f h.each

-- where more objects were made
frame_grows : (p : Lifted) (n m : ℕ) (f : Frame) → n ≤ m → ValidFrame p n f → ValidFrame p m f
frame_grows p n m f h v = record { function = v.function; place = v.place; slots = fits_more n m _ f.slots h v.slots }

pub stack_grows : (p : Lifted) (n m : ℕ) (frames : List Frame) → n ≤ m → ValidStack p n frames → ValidStack p m frames
stack_grows p n m frames h v = record {
  each = All-weaker (λ f. ValidFrame p n f) (λ f. ValidFrame p m f) (λ f w. frame_grows p n m f h w) frames v.each;
  chained = v.chained;
  depth = v.depth;
}

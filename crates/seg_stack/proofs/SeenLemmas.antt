-- What a caller's view of a stack says of its innermost activation.
use Rattle.std.proofs.Common.{◌≡◌, ℕ, ◌+◌, ◌-◌, ◌<◌, ℤ, List, [], length, take, drop, get_or, refl, sym, ap, ◌∙◌, arith}
use Rattle.std.proofs.lemmas.List.{get_or_default}
use Rattle.target_code.specs.declared.activation.Activation.{Activation}
use Rattle.target_code.specs.Target.{top_of}
use Rattle.seg_stack.specs.Layout.{word_at, size_at, act_at, Lies, nth, before, frames_in, IsStack}
use Rattle.seg_stack.proofs.LaidLemmas.{frames-length, top-is}
use Rattle.seg_stack.proofs.StackLemmas.{innermost}

pub record IsSeen (segs : List (List ℤ)) (s b e d : ℕ) (fs : List Activation) : Type 0 where
  pub live : 0 < d
  pub there : s < length segs
  pub lies : Lies (nth segs s) b e
  pub top : top_of fs ≡ act_at (nth segs s) b

pub seen : (segs : List (List ℤ)) (s b e d spare : ℕ) → IsStack segs s b e d spare → (fs : List Activation) → frames_in segs s b d ≡ fs → 0 < length fs → IsSeen segs s b e d fs
seen segs s b e d spare is fs view h =
    let n = frames-length d (nth segs s) (before segs s) b in
    let long : length (frames_in segs s b d) ≡ length fs = ap (λ (l : List Activation). length l) view in
    let live : 0 < d = omega (arith, h, n, long) in
    let x = innermost segs s b e d spare is live in
    record {
      live = live;
      there = x.there;
      lies = x.lies;
      top = ap top_of (sym view) ∙ top-is d (nth segs s) (before segs s) b live;
    }

-- a segment that was looked up
pub read-nth : (segs : List (List ℤ)) (s : ℕ) (x y : List ℤ) → s < length segs → x ≡ y → y ≡ get_or segs s y → x ≡ nth segs s
read-nth segs s x y h e i = e ∙ i ∙ get_or_default segs s y [] h

-- the slots
pub slots-part : (segs : List (List ℤ)) (s b e d : ℕ) (fs : List Activation) (w : List ℤ) → IsSeen segs s b e d fs → w ≡ nth segs s → take (e - (b + 4)) (drop (b + 4) w) ≡ (top_of fs).slots
slots-part segs s b e d fs w x ew =
    let n : e - (b + 4) ≡ size_at (nth segs s) b = omega (arith, x.lies.ends) in
    ap (λ (l : List ℤ). take (e - (b + 4)) (drop (b + 4) l)) ew
    ∙ ap (λ k. take k (drop (b + 4) (nth segs s))) n
    ∙ ap (λ (a : Activation). a.slots) (sym x.top)

-- a word of a segment that was looked up
pub read-word : (segs : List (List ℤ)) (s at v : ℕ) (x : List ℤ) → s < length segs → v ≡ word_at x at → x ≡ get_or segs s x → v ≡ word_at (nth segs s) at
read-word segs s at v x h ev i = ev ∙ ap (λ (w : List ℤ). word_at w at) (read-nth segs s x x h refl i)

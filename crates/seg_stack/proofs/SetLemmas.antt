-- A word of the innermost activation that is written: its position, or one of its slots.
use Rattle.std.proofs.Common.{◌≡◌, ℕ, zero, suc, ◌+◌, ◌^◌, ◌<◌, ◌≤◌, ℤ, pos, List, [], ◌∷◌, length, take, drop, get_or, set, refl, sym, ap, ◌∙◌, subst, arith, w32}
use Rattle.std.specs.Int.{cast_signed, cast_unsigned}
use Rattle.std.proofs.lemmas.Int.{of_z-to_z}
use Rattle.std.proofs.lemmas.List.{get_or-set_same, get_or-set_other, length-set, take-set-le, drop-set-add, drop-set-lt}
use Rattle.std.proofs.Math.Seq.{take-set-lt}
use Rattle.target_code.specs.declared.activation.Activation.{Activation}
use Rattle.target_code.specs.Stack.{with_slot, with_pc}
use Rattle.seg_stack.specs.Layout.{word_at, size_at, below_at, act_at, rest_words, rest_older, frames_at, total, IsLaid, nth, before, frames_in, IsStack}
use Rattle.seg_stack.proofs.LaidLemmas.{Alike, alike-rest, alike-total, alike-laid}
use Rattle.seg_stack.proofs.StackLemmas.{before-set, innermost}

rest-set : (l : List ℤ) (older : List (List ℤ)) (at i : ℕ) (v : ℤ) → at ≤ i → rest_words (set l i v) older at ≡ rest_words l older at
rest-set l older (suc at) i v h = take-set-le (suc at) l i v h
rest-set l (o ∷ older) zero i v h = refl
rest-set l [] zero i v h = refl

module _ (l : List ℤ) (older : List (List ℤ)) (at i : ℕ) (v : ℤ) where
  word-set : (j : ℕ) → (j ≡ i → ⊥) → word_at (set l i v) j ≡ word_at l j
  word-set j h = ap (λ z. cast_unsigned w32 z) (get_or-set_other l i j v (pos 0) h)

  -- a slot
  module _ (k : ℕ) (ik : i ≡ at + 4 + k) (in-slots : k < size_at l at) where
    e0 : word_at (set l i v) at ≡ word_at l at
    e0 = word-set at (λ e. absurd (omega (arith, e, ik)))

    e1 : word_at (set l i v) (at + 1) ≡ word_at l (at + 1)
    e1 = word-set (at + 1) (λ e. absurd (omega (arith, e, ik)))

    e2 : size_at (set l i v) at ≡ size_at l at
    e2 = word-set (at + 2) (λ e. absurd (omega (arith, e, ik)))

    e3 : below_at (set l i v) at ≡ below_at l at
    e3 = word-set (at + 3) (λ e. absurd (omega (arith, e, ik)))

    slots : take (size_at (set l i v) at) (drop (at + 4) (set l i v)) ≡ set (act_at l at).slots k v
    slots =
        ap (λ n. take n (drop (at + 4) (set l i v))) e2
        ∙ ap (λ j. take (size_at l at) (drop (at + 4) (set l j v))) ik
        ∙ ap (λ (w : List ℤ). take (size_at l at) w) (drop-set-add (at + 4) l k v)
        ∙ take-set-lt (size_at l at) (drop (at + 4) l) k v in-slots

    pub slot-act : act_at (set l i v) at ≡ record (act_at l at) { slots = set (act_at l at).slots k v }
    slot-act =
        ap (λ n. record (act_at (set l i v) at) { function = n }) e0
        ∙ ap (λ n. record (act_at (set l i v) at) { function = word_at l at; pc = n }) e1
        ∙ ap (λ (w : List ℤ). record { function = word_at l at; pc = word_at l (at + 1); slots = w }) slots

    pub slot-alike : Alike l (set l i v) older at
    slot-alike = record {
      long = sym (ap (λ (a : Activation). length a.slots) slot-act ∙ length-set (act_at l at).slots k v);
      size = sym e2;
      below = sym e3;
      rest = sym (rest-set l older at i v (omega (arith, ik)));
    }

  -- the position
  module _ (pc : ℕ) (i1 : i ≡ at + 1) (held : get_or (set l i v) i (pos 0) ≡ v) (is-v : v ≡ cast_signed w32 pc) (fits : pc < 2 ^ 32) where
    f0 : word_at (set l i v) at ≡ word_at l at
    f0 = word-set at (λ e. absurd (omega (arith, e, i1)))

    f1 : word_at (set l i v) (at + 1) ≡ pc
    f1 = ap (λ j. word_at (set l i v) j) (sym i1) ∙ ap (λ z. cast_unsigned w32 z) (held ∙ is-v) ∙ of_z-to_z w32 pc fits

    f2 : size_at (set l i v) at ≡ size_at l at
    f2 = word-set (at + 2) (λ e. absurd (omega (arith, e, i1)))

    f3 : below_at (set l i v) at ≡ below_at l at
    f3 = word-set (at + 3) (λ e. absurd (omega (arith, e, i1)))

    stay : take (size_at (set l i v) at) (drop (at + 4) (set l i v)) ≡ (act_at l at).slots
    stay =
        ap (λ n. take n (drop (at + 4) (set l i v))) f2
        ∙ ap (λ (w : List ℤ). take (size_at l at) w) (drop-set-lt (at + 4) l i v (omega (arith, i1)))

    pub pc-act : act_at (set l i v) at ≡ record (act_at l at) { pc = pc }
    pc-act =
        ap (λ n. record (act_at (set l i v) at) { function = n }) f0
        ∙ ap (λ n. record (act_at (set l i v) at) { function = word_at l at; pc = n }) f1
        ∙ ap (λ (w : List ℤ). record { function = word_at l at; pc = pc; slots = w }) stay

    pub pc-alike : Alike l (set l i v) older at
    pc-alike = record {
      long = sym (ap (λ (a : Activation). length a.slots) pc-act);
      size = sym f2;
      below = sym f3;
      rest = sym (rest-set l older at i v (omega (arith, i1)));
    }

-- a write that leaves the segment alike leaves a stack
module _ (segs : List (List ℤ)) (s b e d spare : ℕ) (is : IsStack segs s b e d spare) (m : List ℤ) where
  abbrev now : List (List ℤ)
  now = set segs s m

  abbrev Stays : Type 0
  Stays = IsStack now s b e d spare

  same-words : s < length segs → nth now s ≡ m
  same-words h = get_or-set_same segs s m [] h

  same-older : before now s ≡ before segs s
  same-older = before-set segs s s m (omega arith)

  stays : (n : ℕ) → d ≡ suc n → s < length segs → Alike (nth segs s) m (before segs s) b → Stays
  stays n ed h alike =
      let older = before segs s in
      let whole = subst (λ k. IsLaid k (nth segs s) older b e) ed is.laid in
      let laid = alike-laid n (nth segs s) m older b alike e whole in
      let len = length-set segs s m in let here = is.here in let w = is.few in let r = is.room in
      let t : total (frames_in now s b d) ≡ total (frames_in segs s b d) =
      ap (λ k. total (frames_in now s b k)) ed
      ∙ ap (λ (l : List ℤ). total (frames_at (suc n) l (before now s) b)) (same-words h)
      ∙ ap (λ (o : List (List ℤ)). total (frames_at (suc n) m o b)) same-older
      ∙ sym (alike-total n (nth segs s) m older b alike)
      ∙ sym (ap (λ k. total (frames_in segs s b k)) ed) in
      record {
        laid = subst (λ k. IsLaid k (nth now s) (before now s) b e) (sym ed)
            (subst (λ (l : List ℤ). IsLaid (suc n) l (before now s) b e) (sym (same-words h))
            (subst (λ (o : List (List ℤ)). IsLaid (suc n) m o b e) (sym same-older) laid));
        here = omega (arith, here, len);
        low = is.low;
        room = omega (arith, t, r, len);
        few = omega (arith, w, len);
      }

  -- the activations with another innermost one
  stays-frames : (n : ℕ) → d ≡ suc n → s < length segs → Alike (nth segs s) m (before segs s) b
      → frames_in now s b d ≡ act_at m b ∷ frames_at n (rest_words (nth segs s) (before segs s) b) (rest_older (before segs s) b) (below_at (nth segs s) b)
  unfolding frames_at
  stays-frames n ed h alike =
      ap (λ k. frames_in now s b k) ed
      ∙ ap (λ (l : List ℤ). frames_at (suc n) l (before now s) b) (same-words h)
      ∙ ap (λ (o : List (List ℤ)). frames_at (suc n) m o b) same-older
      ∙ ap (λ (fs : List Activation). act_at m b ∷ fs) (sym (alike-rest n (nth segs s) m (before segs s) b alike))

module _ (segs : List (List ℤ)) (s b e spare : ℕ) where
  -- the stack after a write to a slot
  pub slot-stays : (d k i : ℕ) (v : ℤ) → IsStack segs s b e d spare → 0 < d → k < length (act_at (nth segs s) b).slots → i ≡ b + 4 + k
      → IsStack (set segs s (set (nth segs s) i v)) s b e d spare × (frames_in (set segs s (set (nth segs s) i v)) s b d ≡ with_slot k v (frames_in segs s b d))
  unfolding frames_at
  slot-stays zero k i v is h lt ei = absurd (omega (arith, h))
  slot-stays (suc n) k i v is h lt ei =
      let x = innermost segs s b e (suc n) spare is h in
      let inside : k < size_at (nth segs s) b = omega (arith, lt, x.lies.size) in
      let m = set (nth segs s) i v in
      let alike = slot-alike (nth segs s) (before segs s) b i v k ei inside in (
        stays segs s b e (suc n) spare is m n refl x.there alike,
        stays-frames segs s b e (suc n) spare is m n refl x.there alike
            ∙ ap (λ (a : Activation). a ∷ frames_at n (rest_words (nth segs s) (before segs s) b) (rest_older (before segs s) b) (below_at (nth segs s) b)) (slot-act (nth segs s) (before segs s) b i v k ei inside),
      )

  -- the stack at another position
  pub pc-stays : (d pc i : ℕ) (v : ℤ) → IsStack segs s b e d spare → 0 < d → i ≡ b + 1 → get_or (set (nth segs s) i v) i (pos 0) ≡ v → v ≡ cast_signed w32 pc → pc < 2 ^ 32
      → IsStack (set segs s (set (nth segs s) i v)) s b e d spare × (frames_in (set segs s (set (nth segs s) i v)) s b d ≡ with_pc pc (frames_in segs s b d))
  unfolding frames_at
  pc-stays zero pc i v is h ei held ev fits = absurd (omega (arith, h))
  pc-stays (suc n) pc i v is h ei held ev fits =
      let x = innermost segs s b e (suc n) spare is h in
      let m = set (nth segs s) i v in
      let alike = pc-alike (nth segs s) (before segs s) b i v pc ei held ev fits in (
        stays segs s b e (suc n) spare is m n refl x.there alike,
        stays-frames segs s b e (suc n) spare is m n refl x.there alike
            ∙ ap (λ (a : Activation). a ∷ frames_at n (rest_words (nth segs s) (before segs s) b) (rest_older (before segs s) b) (below_at (nth segs s) b)) (pc-act (nth segs s) (before segs s) b i v pc ei held ev fits),
      )

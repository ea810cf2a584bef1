-- The activations of a stack, innermost in one of its segments.
use Rattle.std.proofs.Common.{◌≡◌, ℕ, zero, suc, ◌+◌, ◌-◌, ◌*◌, ◌^◌, ◌<◌, ◌≤◌, inl, inr, ℤ, List, [], ◌∷◌, length, reverse, take, set, sym, ap, ◌∙◌, subst, arith}
use Rattle.std.proofs.lemmas.List.{length-set, length-reverse, length-take-le, reverse-append, take_more, take-set-le}
use Rattle.target_code.specs.Stack.{blank}
use Rattle.seg_stack.specs.declared.place.Place.{Place}
use Rattle.seg_stack.specs.Layout.{frames_at, total, Lies, IsLaid, nth, before, frames_in, IsStack, IsNext, IsBegun}
use Rattle.seg_stack.proofs.LaidLemmas.{frames-length, total-least}
use Rattle.seg_stack.proofs.PushLemmas.{IsNew, new-total, full, ends-within, pushed-frames, pushed-laid, next-frames, next-laid}

pub before-length : (segs : List (List ℤ)) (s : ℕ) → s ≤ length segs → length (before segs s) ≡ s
before-length segs s h = length-reverse (take s segs) ∙ length-take-le s segs h

pub before-more : (segs : List (List ℤ)) (s : ℕ) → s < length segs → before segs (s + 1) ≡ nth segs s ∷ before segs s
before-more segs s h =
    ap (λ (l : List (List ℤ)). reverse l) (take_more segs s [] h) ∙ reverse-append (take s segs) (nth segs s ∷ [])

pub before-set : (segs : List (List ℤ)) (t s : ℕ) (x : List ℤ) → t ≤ s → before (set segs s x) t ≡ before segs t
before-set segs t s x h = ap (λ (l : List (List ℤ)). reverse l) (take-set-le t segs s x h)

-- where the innermost activation lies
pub record IsInnermost (segs : List (List ℤ)) (s b e : ℕ) : Type 0 where
  pub there : s < length segs
  pub lies : Lies (nth segs s) b e

-- the innermost activation lies within its segment
pub laid-lies : (d : ℕ) (l : List ℤ) (older : List (List ℤ)) (b e : ℕ) → IsLaid d l older b e → 0 < d → Lies l b e
unfolding IsLaid
laid-lies zero l older b e x h = absurd (omega (arith, h))
laid-lies (suc d) l older b e x h = x.0

module _ (segs : List (List ℤ)) (s b e d spare : ℕ) (is : IsStack segs s b e d spare) where
  abbrev older : List (List ℤ)
  older = before segs s

  used : 3964 * s + e + spare ≤ 3964 * length segs
  used =
      let n = before-length segs s is.here in let f = full d (nth segs s) older b e is.laid in
      omega (arith, n, f, is.room)

  pub innermost : 0 < d → IsInnermost segs s b e
  innermost h =
      let x = laid-lies d (nth segs s) older b e is.laid h in
      record { there = omega (arith, x.ends, used); lies = x }

  pub end-within : e ≤ 4096
  end-within = ends-within d (nth segs s) older b e is.laid

  -- there are few activations
  pub few-frames : 4 * d ≤ total (frames_in segs s b d)
  few-frames = subst (λ n. 4 * n ≤ total (frames_in segs s b d)) (frames-length d (nth segs s) older b) (total-least (frames_in segs s b d))

  pub depth-fits : 4 ≤ spare → d + 1 < 2 ^ 32
  depth-fits h = let f = few-frames in let r = is.room in let w = is.few in omega (arith, f, r, w, h)

  -- the next activation lies in a segment that is there
  pub next-there : (p q : Place) (k : ℕ) → p.segment ≡ s → p.end ≡ e → k + 4 ≤ spare → IsNext p (k + 4) q → k ≤ 128 → (q.segment < length segs) × (q.base + (k + 4) ≤ 4096)
  next-there p q k es ee room (inl (fits, is-q)) few =
      let e1 : q.segment ≡ p.segment = ap (λ (x : Place). x.segment) is-q in let e2 : q.base ≡ p.end = ap (λ (x : Place). x.base) is-q in
      (omega (arith, used, es, ee, room, fits, e1), omega (arith, e2, fits))
  next-there p q k es ee room (inr (fits, is-q)) few =
      let e1 : q.segment ≡ p.segment + 1 = ap (λ (x : Place). x.segment) is-q in let e2 : q.base ≡ 0 = ap (λ (x : Place). x.base) is-q in
      (omega (arith, used, es, ee, room, fits, e1, few), omega (arith, e2, few))

  -- the segments with the new activation at its place
  module _ (segs' : List (List ℤ)) (p q : Place) (f k : ℕ) (es : p.segment ≡ s) (eb : p.base ≡ b) (ee : p.end ≡ e) (room : k + 4 ≤ spare) (few : k ≤ 128)
      (begun : IsBegun segs segs' q.segment q.base f k p.base) where
    is-new : IsNew (nth segs' q.segment) q.base f k b
    is-new = record { act = begun.act; size = begun.size; outside = begun.outside ∙ eb; few = few }

    same-before : (t : ℕ) → t ≤ q.segment → before segs' t ≡ before segs t
    same-before t h = ap (λ (l : List (List ℤ)). before l t) begun.others ∙ before-set segs t q.segment (nth segs' q.segment) h

    same-length : length segs' ≡ length segs
    same-length = ap (λ (l : List (List ℤ)). length l) begun.others ∙ length-set segs q.segment (nth segs' q.segment)

    -- what is known of the pushed activations makes a stack
    pushed-stack : frames_in segs' q.segment q.base (suc d) ≡ blank f k ∷ frames_in segs s b d
        → IsLaid (suc d) (nth segs' q.segment) (before segs' q.segment) q.base q.end → q.segment ≤ length segs → q.base ≤ 4092
        → IsStack segs' q.segment q.base q.end (suc d) (spare - (k + 4))
    pushed-stack fr laid here low =
        let t : total (frames_in segs' q.segment q.base (suc d)) ≡ (k + 4) + total (frames_in segs s b d) = ap total fr ∙ new-total f k (frames_in segs s b d) in
        let r = is.room in let w = is.few in
        record {
          laid = laid;
          here = omega (arith, here, same-length);
          low = low;
          room = omega (arith, t, r, room, same-length);
          few = omega (arith, w, same-length);
        }

    abbrev Pushed : Type 0
    Pushed = IsStack segs' q.segment q.base q.end (suc d) (spare - (k + 4)) × (frames_in segs' q.segment q.base (suc d) ≡ blank f k ∷ frames_in segs s b d)

    behind : e + (k + 4) ≤ 4096 → q.segment ≡ s → q.base ≡ e → q.end ≡ e + (k + 4) → Pushed
    behind h e1 e2 e3 =
        let m = nth segs' q.segment in
        let same : before segs' q.segment ≡ older = same-before q.segment (omega arith) ∙ ap (λ t. before segs t) e1 in
        let t : take q.base m ≡ take q.base (nth segs s) = begun.inner ∙ ap (λ t. take q.base (nth segs t)) e1 in
        let at-e : IsLaid d (nth segs s) older b q.base = subst (λ y. IsLaid d (nth segs s) older b y) (sym e2) is.laid in
        let fr = ap (λ (o : List (List ℤ)). frames_at (suc d) m o q.base) same ∙ pushed-frames (nth segs s) m older b f k d q.base at-e is-new t in
        let laid : IsLaid (suc d) m (before segs' q.segment) q.base q.end = subst (λ y. IsLaid (suc d) m (before segs' q.segment) q.base y) (omega (arith, e2, e3))
        (subst (λ (o : List (List ℤ)). IsLaid (suc d) m o q.base (q.base + (k + 4))) (sym same) (pushed-laid (nth segs s) m older b f k d q.base at-e is-new t (omega (arith, h, e2)))) in
        let here = is.here in
        (pushed-stack fr laid (omega (arith, here, e1)) (omega (arith, h, e2)), fr)

    ahead : 4096 < e + (k + 4) → q.segment < length segs → q.segment ≡ s + 1 → q.base ≡ 0 → q.end ≡ k + 4 → Pushed
    ahead h there e1 e2 e3 =
        let m = nth segs' q.segment in
        let same : before segs' q.segment ≡ nth segs s ∷ older = same-before q.segment (omega arith) ∙ ap (λ t. before segs t) e1 ∙ before-more segs s (omega (arith, there, e1)) in
        let new : IsNew m 0 f k b = subst (λ y. IsNew m y f k b) e2 is-new in
        let fr = ap (λ y. frames_at (suc d) m (before segs' q.segment) y) e2 ∙ ap (λ (o : List (List ℤ)). frames_at (suc d) m o 0) same ∙ next-frames (nth segs s) m older b f k d new in
        let laid : IsLaid (suc d) m (before segs' q.segment) q.base q.end = subst (λ y. IsLaid (suc d) m (before segs' q.segment) q.base y) (sym e3)
        (subst (λ y. IsLaid (suc d) m (before segs' q.segment) y (k + 4)) (sym e2)
        (subst (λ (o : List (List ℤ)). IsLaid (suc d) m o 0 (k + 4)) (sym same) (next-laid (nth segs s) m older b f k d e is.laid new h))) in
        (pushed-stack fr laid (omega (arith, there)) (omega (arith, e2)), fr)

    pub pushed : IsNext p (k + 4) q → q.segment < length segs → Pushed
    pushed (inl (h, is-q)) there =
        behind (omega (arith, h, ee)) (ap (λ (x : Place). x.segment) is-q ∙ es) (ap (λ (x : Place). x.base) is-q ∙ ee)
        (ap (λ (x : Place). x.end) is-q ∙ ap (λ n. n + (k + 4)) ee)
    pushed (inr (h, is-q)) there =
        ahead (omega (arith, h, ee)) there (ap (λ (x : Place). x.segment) is-q ∙ ap (λ n. n + 1) es) (ap (λ (x : Place). x.base) is-q)
        (ap (λ (x : Place). x.end) is-q)

-- Each event of a plan leaves fewer that may still come.
use Rattle.std.proofs.Common.{◌≡◌, ℕ, suc, ◌+◌, ◌*◌, ◌-◌, ◌<◌, ◌≤◌, true, false, List, [], ◌∷◌, length, refl, ap, ◌∙◌, arith}
use Rattle.c_tree.specs.declared.run.Phase.{Phase}
use Rattle.c_tree.specs.declared.run.Phase.TheVariants as phase
use Rattle.c_tree.specs.Run as r
use Rattle.world_core.specs.History.{History, core}
use Rattle.drive.specs.Measure.{missing, rank_of, rank, measure}
use Rattle.drive.proofs.CameLemmas.{Came}
use Rattle.drive.proofs.MeasureLemmas.{missing-bound, missing-less, without-less}

rank_is : (c : r.Core) (p : Phase) (ps : List ℕ) → c.phase ≡ p → c.parked ≡ ps → rank c ≡ rank_of p (missing 1000 ps) (length ps)
rank_is c p ps e f = ap (λ q. rank_of q (missing 1000 c.parked) (length c.parked)) e ∙ ap (λ qs. rank_of p (missing 1000 qs) (length qs)) f

rank_after : (p : Phase) (u n : ℕ) → r.is_after p ≡ true → rank_of p u n ≡ n
rank_after phase.Before u n h = cc
rank_after phase.Asked u n h = cc
rank_after phase.Updated u n h = refl
rank_after (phase.Refused x) u n h = refl

pub less_by_rank : (h h2 : History) → h2.settings ≡ h.settings → (core h2).steps ≡ (core h).steps → rank (core h2) < rank (core h) → measure h2 < measure h
less_by_rank h h2 s e l =
    let a : h2.settings.limit ≡ h.settings.limit = ap (λ k. k.limit) s in
    less_sum h2.settings.limit h.settings.limit (core h2).steps (core h).steps (rank (core h2)) (rank (core h)) a e l
  where
    less_sum : (a b c d x y : ℕ) → a ≡ b → c ≡ d → x < y → a - c + x < b - d + y
    less_sum a b c d x y e f l = omega arith

pub less_request : (c d : r.Core) → Came c d phase.Asked c.parked → c.phase ≡ phase.Before → c.parked ≡ [] → rank d < rank c
less_request c d m b n =
    let x : rank c ≡ 2003 = rank_is c phase.Before [] b n in
    let y : rank d ≡ 1 + 2 * missing 1000 [] + 0 = rank_is d phase.Asked [] m.phase (m.parked ∙ n) in
    small (rank c) (rank d) (missing 1000 []) x y (missing-bound 1000 [])
  where
    small : (a b u : ℕ) → a ≡ 2003 → b ≡ 1 + 2 * u + 0 → u ≤ 1000 → b < a
    small a b u e f l = omega arith

pub less_park : (c d : r.Core) (t : ℕ) → Came c d c.phase (t ∷ c.parked) → c.phase ≡ phase.Asked → t < 1000 → r.is_parked c t ≡ false → rank d < rank c
less_park c d t m a l p =
    small (rank c) (rank d) (missing 1000 c.parked) (missing 1000 (t ∷ c.parked)) (length c.parked)
    (rank_is c phase.Asked c.parked a refl) (rank_is d phase.Asked (t ∷ c.parked) (m.phase ∙ a) m.parked) (missing-less 1000 t c.parked l p)
  where
    small : (a b u v n : ℕ) → a ≡ 1 + 2 * u + n → b ≡ 1 + 2 * v + suc n → v < u → b < a
    small a b u v n e f l = omega arith

pub less_outcome : (c d : r.Core) (p : Phase) → Came c d p c.parked → c.phase ≡ phase.Asked → r.is_after p ≡ true → rank d < rank c
less_outcome c d p m a h =
    small (rank c) (rank d) (missing 1000 c.parked) (length c.parked)
    (rank_is c phase.Asked c.parked a refl) (rank_is d p c.parked m.phase m.parked ∙ rank_after p (missing 1000 c.parked) (length c.parked) h)
  where
    small : (a b u n : ℕ) → a ≡ 1 + 2 * u + n → b ≡ n → b < a
    small a b u n e f = omega arith

pub less_resume : (c d : r.Core) (t : ℕ) → Came c d c.phase (r.without t c.parked) → r.is_after c.phase ≡ true → r.is_parked c t ≡ true → rank d < rank c
less_resume c d t m a p =
    small (rank c) (rank d) (length c.parked) (length (r.without t c.parked))
    (rank_after c.phase (missing 1000 c.parked) (length c.parked) a)
    (rank_is d c.phase (r.without t c.parked) m.phase m.parked ∙ rank_after c.phase (missing 1000 (r.without t c.parked)) (length (r.without t c.parked)) a)
    (without-less t c.parked p)
  where
    small : (a b n m : ℕ) → a ≡ n → b ≡ m → m < n → b < a
    small a b n m e f l = omega arith

pub less_step : (h h2 : History) → h2.settings ≡ h.settings → (core h2).phase ≡ (core h).phase → (core h2).parked ≡ (core h).parked → (core h2).steps ≡ (core h).steps + 1
    → (core h).steps < h.settings.limit → measure h2 < measure h
less_step h h2 s p q n l =
    small h2.settings.limit h.settings.limit (core h2).steps (core h).steps (rank (core h2)) (rank (core h)) (ap (λ k. k.limit) s) n l
    (rank_is (core h2) (core h).phase (core h).parked p q)
  where
    small : (a b c d x y : ℕ) → a ≡ b → c ≡ d + 1 → d < b → x ≡ y → a - c + x < b - d + y
    small a b c d x y e f l g = omega arith

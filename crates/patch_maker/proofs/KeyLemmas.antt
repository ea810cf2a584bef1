-- The order of keys.
use Rattle.std.proofs.Common.{◌≡◌, ℕ, Bool, true, false, cond, refl, nat_lt, Ordering}
use Rattle.std.specs.Prelude.{◌&&◌, ◌||◌, ◌==◌}
use Rattle.std.specs.Ordering.{nat_cmp, is_lt, ordering_then}
use Rattle.std.specs.declared.cmp.Ordering.TheVariants.{Less, Equal, Greater}
use Rattle.std.specs.Cmp.{IsTotalOrder, nat_cmp_total, on_total, then_total}
use Rattle.c_tree.specs.Canonical.{Key, is_before}
use Rattle.patch_maker.specs.Order.{numbers_of}

pub lt_is : (a b : ℕ) → is_lt (nat_cmp a b) ≡ nat_lt a b
lt_is a b = pick (nat_lt a b) (a == b) where
  pick : (p q : Bool) → is_lt (cond p Less (cond q Equal Greater)) ≡ p
  pick true q = refl
  pick false true = refl
  pick false false = refl

-- the order of three numbers, one after another
abbrev pub triple_cmp : ℕ × ℕ × ℕ → ℕ × ℕ × ℕ → Ordering
triple_cmp x y = ordering_then (ordering_then (nat_cmp x.0 y.0) (nat_cmp x.1 y.1)) (nat_cmp x.2 y.2)

pub triple_total : IsTotalOrder triple_cmp
triple_total =
    then_total (then_total (on_total (λ (x : ℕ × ℕ × ℕ). x.0) nat_cmp_total) (on_total (λ (x : ℕ × ℕ × ℕ). x.1) nat_cmp_total)) (on_total (λ (x : ℕ × ℕ × ℕ). x.2) nat_cmp_total)

-- keys are ordered by their three numbers
pub before_is : (a b : Key) → is_lt (triple_cmp (numbers_of a) (numbers_of b)) ≡ is_before a b
before_is a b = pick (nat_lt a.group b.group) (a.group == b.group) (nat_lt a.first b.first) (a.first == b.first) (nat_lt a.second b.second) (a.second == b.second) where
  pick : (p q r s t u : Bool) →
      is_lt (ordering_then (ordering_then (cond p Less (cond q Equal Greater)) (cond r Less (cond s Equal Greater))) (cond t Less (cond u Equal Greater))) ≡ p || q && (r || s && t)
  pick true q r s t u = refl
  pick false false r s t u = refl
  pick false true true s t u = refl
  pick false true false false t u = refl
  pick false true false true true u = refl
  pick false true false true false true = refl
  pick false true false true false false = refl

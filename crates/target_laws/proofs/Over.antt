-- A run that is over has one end.
use Rattle.std.proofs.Common.{◌≡◌, ◌≢◌, ℕ, zero, suc, ◌≤◌, refl, arith}
use Rattle.target_laws.specs.Laws as law
use Rattle.target_code.specs.Machine.{Setting, Machine, Ran, Unfinished, Did, Goes, Over, led, act, instr_at, go}

-- the run was as long as it was allowed to be
abbrev pub IsOver : Ran → Type 0
IsOver Unfinished = ⊥
IsOver _ = Unit {0}

led_longer : (d : Did) (f g : Machine → Ran) → ((m : Machine) → IsOver (f m) → g m ≡ f m) → IsOver (led d f) → led d g ≡ led d f
led_longer (Goes m) f g h o = h m o
led_longer (Over r) f g h o = refl

-- where a run is over, a longer one is the same
pub longer : (w : Setting) (j k : ℕ) (m : Machine) → j ≤ k → IsOver (go w j m) → go w k m ≡ go w j m
longer w zero k m le o = absurd o
longer w (suc j) zero m le o = absurd (omega (arith, le))
longer w (suc j) (suc k) m le o = led_longer (act w (instr_at w m) m) (go w j) (go w k) (λ b. longer w j k b (omega (arith, le))) o

over_where : (r : Ran) → r ≢ Unfinished → IsOver r
over_where Unfinished h = absurd (h refl)
over_where _ h = tt

-- a machine has one end
pub one_end : law.MachinesHaveOneEnd
one_end w m j k le h = longer w j k m le (over_where (go w j m) h)

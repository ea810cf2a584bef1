-- What an event keeps of a core: which threads are there, and which of them are parked.
use Rattle.std.proofs.Common.{◌≡◌, ℕ, zero, suc, ◌+◌, ◌<◌, ◌≤◌, Bool, true, false, not, ◌&&◌, ◌==◌, nat_lt, List, [], ◌∷◌, length, Option, Some, refl, ap, sym, ◌∙◌, subst, arith}
use Rattle.std.specs.Prelude.{find, cond, is_some}
use Rattle.std.specs.List.{list_all, range_with_len}
use Rattle.std.proofs.lemmas.Bool.Decides.{nat_tests}
use Rattle.c_tree.specs.declared.run.Phase.{Phase}
use Rattle.c_tree.specs.declared.run.Phase.TheVariants as phase
use Rattle.c_tree.specs.declared.run.Settings.{Settings}
use Rattle.c_tree.specs.Step.{Outcome, Done, Trapped, Finished, Blocked}
use Rattle.c_tree.specs.Run as r
use Rattle.c_tree.proofs.ThreadLemmas.{Few}
use Rattle.drive.specs.OnWay.{IsKept}
use Rattle.drive.proofs.CameLemmas.{Came}
use Rattle.drive.proofs.ThreadsStay.{Many}
use Rattle.c_tree.proofs.BoolLemmas.{true_false, and_first, and_last, and_both}

pub is_Before : (p : Phase) → r.is_before p ≡ true → p ≡ phase.Before
is_Before phase.Before h = refl
is_Before phase.Asked h = cc
is_Before phase.Updated h = cc
is_Before (phase.Refused x) h = cc

pub is_Asked : (p : Phase) → r.is_asked p ≡ true → p ≡ phase.Asked
is_Asked phase.Before h = cc
is_Asked phase.Asked h = refl
is_Asked phase.Updated h = cc
is_Asked (phase.Refused x) h = cc

pub after_not_before : (p : Phase) → r.is_after p ≡ true → r.is_before p ≡ false
after_not_before phase.Before h = cc
after_not_before phase.Asked h = cc
after_not_before phase.Updated h = refl
after_not_before (phase.Refused x) h = refl

pub due_before : (k : Settings) (c : r.Core) → r.is_due k c ≡ true → c.phase ≡ phase.Before
due_before k c d =
    let at_first = r.is_at k.armed c.steps && r.is_before c.phase in
    is_Before c.phase (and_last (r.is_at k.armed c.steps) (r.is_before c.phase) (and_first at_first (not (is_some c.ended)) (and_first (at_first && not (is_some c.ended)) (not (c.steps == k.limit)) d)))

-- what is found passes the test, and is one of the numbers
found_step : (p : ℕ → Bool) (x t n : ℕ) (b : Bool) (o : Option ℕ) → p x ≡ b → cond b (Some x) o ≡ Some t → x < n → (o ≡ Some t → (p t ≡ true) × (t < n)) → (p t ≡ true) × (t < n)
found_step p x t n true o e h l go =
    let z : x ≡ t = cc in
    (subst (λ y. p y ≡ true) z e, subst (λ y. y < n) z l)
found_step p x t n false o e h l go = go h

found_in : (p : ℕ → Bool) (a n m t : ℕ) → a + n ≤ m → find p (range_with_len a n) ≡ Some t → (p t ≡ true) × (t < m)
found_in p a zero m t l h = cc
found_in p a (suc n) m t l h =
    found_step p a t m (p a) (find p (range_with_len (a + 1) n)) refl h (omega (arith, l)) (found_in p (a + 1) n m t (omega (arith, l)))

pub found_thread : (p : ℕ → Bool) (c : r.Core) (t : ℕ) → find p (r.threads c) ≡ Some t → (p t ≡ true) × (t < length c.state.threads)
found_thread p c t h = found_in p 0 (length c.state.threads) (length c.state.threads) t (omega arith) h

-- what is kept
pub kept_came : (c d : r.Core) (p : Phase) (ps : List ℕ) → Came c d p ps → r.is_before p ≡ false → list_all (λ t. nat_lt t (length c.state.threads)) ps ≡ true
    → length c.state.threads ≤ 1000 → IsKept d
kept_came c d p ps m b l f =
    record {
      begins = λ h. absurd (true_false (sym h ∙ (ap r.is_before m.phase ∙ b)));
      made = ap (λ n. list_all (λ t. nat_lt t n) d.parked) m.threads ∙ (ap (list_all (λ t. nat_lt t (length c.state.threads))) m.parked ∙ l);
      few = subst (λ n. n ≤ 1000) (sym m.threads) f;
    }

pub one_more_made : (t n : ℕ) (b : Bool) → t < n → b ≡ true → (nat_lt t n && b) ≡ true
one_more_made t n b l h = grind (arith, nat_tests)

all_cons : (b c : Bool) (x : ℕ) (p : ℕ → Bool) (xs ys : List ℕ) → (p x && list_all p xs) ≡ true → (list_all p xs ≡ true → list_all p ys ≡ true) → list_all p (cond b (x ∷ ys) ys) ≡ true
all_cons true c x p xs ys h go = and_both (p x) (list_all p ys) (and_first (p x) (list_all p xs) h) (go (and_last (p x) (list_all p xs) h))
all_cons false c x p xs ys h go = go (and_last (p x) (list_all p xs) h)

pub all_without : (p : ℕ → Bool) (t : ℕ) (xs : List ℕ) → list_all p xs ≡ true → list_all p (r.without t xs) ≡ true
all_without p t [] h = refl
all_without p t (x ∷ xs) h = all_cons (not (x == t)) true x p xs (r.without t xs) h (all_without p t xs)

below_more : (t n m : ℕ) (b c : Bool) → n ≤ m → (nat_lt t n && b) ≡ true → (b ≡ true → c ≡ true) → (nat_lt t m && c) ≡ true
below_more t n m b true l h go = grind (arith, nat_tests)
below_more t n m true false l h go = let e : false ≡ true = go refl in cc
below_more t n m false false l h go = absurd (true_false (sym (and_last (nat_lt t n) false h)))

all_below : (n m : ℕ) (xs : List ℕ) → n ≤ m → list_all (λ t. nat_lt t n) xs ≡ true → list_all (λ t. nat_lt t m) xs ≡ true
all_below n m [] l h = refl
all_below n m (x ∷ xs) l h = below_more x n m (list_all (λ t. nat_lt t n) xs) (list_all (λ t. nat_lt t m) xs) l h (all_below n m xs l)

pub kept_stepped : (c : r.Core) (t : ℕ) (o : Outcome) → IsKept c → Few 1000 o → Many (length c.state.threads) o → IsKept (r.stepped c t o)
kept_stepped c t (Done s) w f m = record { begins = w.begins; made = all_below (length c.state.threads) (length s.threads) c.parked m w.made; few = f }
kept_stepped c t (Trapped x) w f m = record { begins = w.begins; made = w.made; few = w.few }
kept_stepped c t (Finished n) w f m = record { begins = w.begins; made = w.made; few = w.few }
kept_stepped c t Blocked w f m = w

pub phase_stepped : (c : r.Core) (t : ℕ) (o : Outcome) → (r.stepped c t o).phase ≡ c.phase
phase_stepped c t (Done s) = refl
phase_stepped c t (Trapped x) = refl
phase_stepped c t (Finished n) = refl
phase_stepped c t Blocked = refl

pub parked_stepped : (c : r.Core) (t : ℕ) (o : Outcome) → (r.stepped c t o).parked ≡ c.parked
parked_stepped c t (Done s) = refl
parked_stepped c t (Trapped x) = refl
parked_stepped c t (Finished n) = refl
parked_stepped c t Blocked = refl

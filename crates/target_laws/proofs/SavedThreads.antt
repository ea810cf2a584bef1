-- Which threads are saved, against which are parked.
use Rattle.std.proofs.Common.{◌≡◌, ℕ, zero, suc, ◌<◌, ◌==◌, Bool, true, false, not, List, [], ◌∷◌, ◌++◌, length, map, Option, Some, None, refl, sym, ap, ◌∙◌, subst, arith, eq-eqb, ne_eqb}
use Rattle.std.specs.Prelude.{◌||◌, ⊤, MatchOption, cond, slice_get, slice_set, slice_index_or}
use Rattle.std.specs.List.{list_any}
use Rattle.c_tree.proofs.BoolLemmas.{true_false, number_is}
use Rattle.c_tree.specs.declared.lifted.Lifted.{Lifted}
use Rattle.c_tree.specs.Run.{without}
use Rattle.target_code.specs.declared.activation.Mode.{Mode}
use Rattle.target_code.specs.declared.activation.Mode.TheVariants.{Running, Unwinding, Saved, Rebuilding}
use Rattle.target_code.specs.Between.{IsAtRest}
use Rattle.target_code.specs.Target.{Target}

-- a thread that hasn't ended runs, or is saved
abbrev pub Rests : Lifted → Option Target → Type 0
Rests p o = MatchOption o ⊤ (λ x. IsAtRest p x)

-- whether a thread of this mode is saved
abbrev pub is_saved_mode : Mode → Bool
is_saved_mode Saved = true
is_saved_mode _ = false

-- whether a thread is there and saved
abbrev pub is_saved : Option Target → Bool
is_saved None = false
is_saved (Some x) = is_saved_mode x.mode

-- whether the thread of a number is saved
abbrev pub saved_at : List (Option Target) → ℕ → Bool
saved_at ts u = slice_index_or (map is_saved ts) u false

-- such a mode is that of a saved thread
pub mode_saved : (m : Mode) → is_saved_mode m ≡ true → m ≡ Saved
mode_saved Saved e = refl
mode_saved Running e = cc
mode_saved Unwinding e = cc
mode_saved Rebuilding e = cc

-- what a number tells of a thread that is there
pub saved_of : (ts : List (Option Target)) (t : ℕ) (o : Option Target) → slice_get ts t ≡ Some o → saved_at ts t ≡ is_saved o
saved_of [] t o e = cc
saved_of (y ∷ ts) zero o e = let same : y ≡ o = cc in ap is_saved same
saved_of (y ∷ ts) (suc t) o e = saved_of ts t o e

-- a thread in place of one that is as saved
pub saved_same : (ts : List (Option Target)) (t u : ℕ) (o : Option Target) → is_saved o ≡ saved_at ts t → saved_at (slice_set ts t o) u ≡ saved_at ts u
saved_same [] t u o h = refl
saved_same (y ∷ ts) zero zero o h = h
saved_same (y ∷ ts) zero (suc u) o h = refl
saved_same (y ∷ ts) (suc t) zero o h = refl
saved_same (y ∷ ts) (suc t) (suc u) o h = saved_same ts t u o h

-- one more thread, which isn't saved
pub saved_more : (ts : List (Option Target)) (u : ℕ) (o : Option Target) → is_saved o ≡ false → saved_at (ts ++ o ∷ []) u ≡ saved_at ts u
saved_more [] zero o h = h
saved_more [] (suc u) o h = refl
saved_more (y ∷ ts) zero o h = refl
saved_more (y ∷ ts) (suc u) o h = saved_more ts u o h

put_same : (ts : List (Option Target)) (t : ℕ) (o : Option Target) → t < length ts → saved_at (slice_set ts t o) t ≡ is_saved o
put_same [] t o h = absurd (omega (arith, h))
put_same (y ∷ ts) zero o h = refl
put_same (y ∷ ts) (suc t) o h = put_same ts t o (omega (arith, h))

put_other : (ts : List (Option Target)) (t u : ℕ) (o : Option Target) → (t ≡ u → ⊥) → saved_at (slice_set ts t o) u ≡ saved_at ts u
put_other [] t u o h = refl
put_other (y ∷ ts) zero zero o h = absurd (h refl)
put_other (y ∷ ts) zero (suc u) o h = refl
put_other (y ∷ ts) (suc t) zero o h = refl
put_other (y ∷ ts) (suc t) (suc u) o h = put_other ts t u o (λ e. h (ap suc e))

ne_of : (t u : ℕ) → (t == u) ≡ false → t ≡ u → ⊥
ne_of t u h e = true_false (sym (eq-eqb t u e) ∙ h)

-- whether a thread is one of those that are parked
abbrev pub among : List ℕ → ℕ → Bool
among ps u = list_any (λ v. v == u) ps

-- a thread more is parked, and saved
pub parks : (ps : List ℕ) (ts : List (Option Target)) (t : ℕ) (o : Option Target) → t < length ts → is_saved o ≡ true → ((u : ℕ) → among ps u ≡ saved_at ts u) → (u : ℕ) → among (t ∷ ps) u ≡ saved_at (slice_set ts t o) u
parks ps ts t o within saved h u = by (t == u) refl where
  by : (b : Bool) → (t == u) ≡ b → ((t == u) || among ps u) ≡ saved_at (slice_set ts t o) u
  by true q = ap (λ k. k || among ps u) q ∙ sym (subst (λ v. saved_at (slice_set ts t o) v ≡ true) (number_is t u q) (put_same ts t o within ∙ saved))
  by false q = ap (λ k. k || among ps u) q ∙ (h u ∙ sym (put_other ts t u o (ne_of t u q)))

same_cons : (t x : ℕ) (b : Bool) (rest : List ℕ) → (x == t) ≡ b → among rest t ≡ false → among (cond (not b) (x ∷ rest) rest) t ≡ false
same_cons t x true rest e h = h
same_cons t x false rest e h = ap (λ k. k || among rest t) e ∙ h

without_same : (t : ℕ) (ps : List ℕ) → among (without t ps) t ≡ false
without_same t [] = refl
without_same t (x ∷ ps) = same_cons t x (x == t) (without t ps) refl (without_same t ps)

other_cons : (t u x : ℕ) (b : Bool) (rest ps : List ℕ) → (x == t) ≡ b → (t ≡ u → ⊥) → among rest u ≡ among ps u → among (cond (not b) (x ∷ rest) rest) u ≡ among (x ∷ ps) u
other_cons t u x true rest ps e other h =
    let no : (x == u) ≡ false = ne_eqb x u (λ q. other (sym (number_is x t e) ∙ q)) in
    h ∙ sym (ap (λ k. k || among ps u) no)
other_cons t u x false rest ps e other h = ap (λ k. (x == u) || k) h

without_other : (t u : ℕ) (ps : List ℕ) → (t ≡ u → ⊥) → among (without t ps) u ≡ among ps u
without_other t u [] other = refl
without_other t u (x ∷ ps) other = other_cons t u x (x == t) (without t ps) ps refl other (without_other t u ps other)

-- a thread isn't parked any more, and not saved
pub resumes : (ps : List ℕ) (ts : List (Option Target)) (t : ℕ) (o : Option Target) → t < length ts → is_saved o ≡ false → ((u : ℕ) → among ps u ≡ saved_at ts u) → (u : ℕ) → among (without t ps) u ≡ saved_at (slice_set ts t o) u
resumes ps ts t o within saved h u = by (t == u) refl where
  by : (b : Bool) → (t == u) ≡ b → among (without t ps) u ≡ saved_at (slice_set ts t o) u
  by true q = subst (λ v. among (without t ps) v ≡ saved_at (slice_set ts t o) v) (number_is t u q) (without_same t ps ∙ sym (put_same ts t o within ∙ saved))
  by false q = without_other t u ps (ne_of t u q) ∙ (h u ∙ sym (put_other ts t u o (ne_of t u q)))

-- What `retain` keeps, where the closure only tests.
use Rattle.std.proofs.Common.{◌≡◌, ℕ, Bool, true, false, List, [], ◌∷◌, length, ap, subst, ◌∙◌, refl, arith}
use Rattle.std.specs.Prelude.{cond, filter}
use Rattle.std.specs.List.{items_where_true}
use Rattle.std.specs.List.Retain.{IsFiltered, ReturnsInTurn}

module _ {F : Type 0} (R : F → ℕ → Bool → F → Type 0) (test : ℕ → Bool) (f : F) (h : (x : ℕ) (b : Bool) (g : F) → R f x b g → (b ≡ test x) × (g ≡ f)) where
  told : (bs : List Bool) (xs : List ℕ) (q : F) → length bs ≡ length xs → ReturnsInTurn R f bs xs q → items_where_true bs xs ≡ filter test xs
  told [] [] q e t = refl
  told [] (x ∷ xs) q e t = absurd (omega arith)
  told (b ∷ bs) [] q e t = absurd t
  told (true ∷ bs) (x ∷ xs) q e t =
      let one = h x true t.0 t.1 in
      ap (λ ys. x ∷ ys) (told bs xs q (omega arith) (subst (λ (g : F). ReturnsInTurn R g bs xs q) one.1 t.2))
      ∙ ap (λ b. cond b (x ∷ filter test xs) (filter test xs)) one.0
  told (false ∷ bs) (x ∷ xs) q e t =
      let one = h x false t.0 t.1 in
      told bs xs q (omega arith) (subst (λ (g : F). ReturnsInTurn R g bs xs q) one.1 t.2)
      ∙ ap (λ b. cond b (x ∷ filter test xs) (filter test xs)) one.0

  pub retained : (xs ys : List ℕ) → IsFiltered R f xs ys → ys ≡ filter test xs
  retained xs ys k = k.4 ∙ told k.0 xs k.1 k.2 k.3

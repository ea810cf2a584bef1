-- The numbers of texts, one place after another.
use Rattle.std.proofs.Common.{◌≡◌, ℕ, zero, suc, ◌+◌, List, [], ◌∷◌, ◌++◌, length, take, refl, sym, ap, ◌∙◌, arith}
use Rattle.std.specs.Prelude.{slice_index_or}
use Rattle.std.proofs.lemmas.List.{length-append}
use Rattle.c_tree.specs.declared.place.Place.{Place}
use Rattle.target_code.specs.Code.{texts_at, texts_in}
use Rattle.lower.specs.Numbers.{numbers_from}

-- a kept number is that of the texts at the places before, past the last place too
pub kept : (row : List Place) (from n : ℕ) → slice_index_or (numbers_from from row) n (from + length (texts_in row)) ≡ from + length (texts_in (take n row))
kept [] from zero = refl
kept [] from (suc n) = refl
kept (x ∷ rest) from zero = omega arith
kept (x ∷ rest) from (suc n) =
    let more : from + length (texts_at x.act ++ texts_in rest) ≡ from + length (texts_at x.act) + length (texts_in rest) = omega (arith, length-append (texts_at x.act) (texts_in rest)) in
    let less : from + length (texts_at x.act ++ texts_in (take n rest)) ≡ from + length (texts_at x.act) + length (texts_in (take n rest)) = omega (arith, length-append (texts_at x.act) (texts_in (take n rest))) in
    ap (slice_index_or (numbers_from (from + length (texts_at x.act)) rest) n) more ∙ (kept rest (from + length (texts_at x.act)) n ∙ sym less)

-- The code of a function and of functions, from their parts.
use Rattle.std.proofs.Common.{◌≡◌, ℕ, ◌+◌, List, ◌++◌, length, get_or, ap, ◌∙◌}
use Rattle.std.specs.Prelude.{Result, Ok, Err, IfOk}
use Rattle.std.proofs.Math.Path.{fun_ext}
use Rattle.std.proofs.lemmas.List.{length-append}
use Rattle.c_tree.specs.declared.lifted.LFunction.{LFunction}
use Rattle.c_tree.specs.declared.lifted.Lifted.{Lifted}
use Rattle.c_tree.specs.declared.place.Place.{Place}
use Rattle.c_tree.specs.Layout.{places}
use Rattle.target_code.specs.declared.code.CodeFunction.{CodeFunction}
use Rattle.target_code.specs.Code.{texts_in, text_number, function_code}
use Rattle.lower.specs.Numbers.{numbers_from}
use Rattle.lower.proofs.TextLemmas.{kept}

-- the kept numbers of texts are those of the definition
numbered : (f : LFunction) (numbers : List ℕ) (past from : ℕ) → numbers ≡ numbers_from from (places f) → past ≡ from + length (texts_in (places f))
    → (λ n. get_or numbers n past) ≡ text_number f from
numbered f numbers past from e1 e2 =
    fun_ext (λ n. ap (λ z. get_or z n past) e1 ∙ (ap (get_or (numbers_from from (places f)) n) e2 ∙ kept (places f) from n))

pub numbered-code : {E : Type 0} (res : Result CodeFunction E) (p : Lifted) (f : LFunction) (numbers : List ℕ) (past : ℕ) (row : List Place) (old new : List (List ℕ))
    → row ≡ places f → numbers ≡ numbers_from (length old) row → past ≡ length new → new ≡ old ++ texts_in row
    → IfOk res (λ c. c ≡ function_code p (λ n. get_or numbers n past) f) → IfOk res (λ c. c ≡ function_code p (text_number f (length old)) f)
numbered-code (Ok c) p f numbers past row old new laid told counted more is =
    let all : past ≡ length old + length (texts_in (places f)) = counted ∙ (ap length more ∙ (length-append old (texts_in row) ∙ ap (λ z. length old + length (texts_in z)) laid)) in
    is ∙ ap (λ t. function_code p t f) (numbered f numbers past (length old) (told ∙ ap (numbers_from (length old)) laid) all)
numbered-code (Err e) p f numbers past row old new laid told counted more is = tt

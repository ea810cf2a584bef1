-- Looking for a closing quote, and reading what stands before it.
use Rattle.std.proofs.Common.{◌≡◌, ℕ, ◌+◌, ◌<◌, ◌≤◌, Bool, true, false, List, [], ◌++◌, length, drop, get_or, refl, sym, ap, ◌∙◌, append_assoc, arith}
use Rattle.std.specs.Prelude.{Option, Some, None, option_map, ◌==◌, if◌then◌else◌}
use Rattle.std.proofs.lemmas.List.{drop_more, drop_all, append-nil}
use Rattle.std.proofs.lemmas.Bool.Decides.{nat_tests}
use Rattle.c_tokens.specs.Quoted.{escapes, closes, up_to_quote, added, joined, text_of}
use Rattle.c_tokens.proofs.Shift.{shifted, shifted_more, shifted_none}

-- so far no closing quote was met
abbrev pub Searched : ℕ → List ℕ → ℕ → Bool → Type 0
Searched quote rest i escaped = up_to_quote quote false rest ≡ shifted i (up_to_quote quote escaped (drop i rest))

quote_step : (quote : ℕ) (rest : List ℕ) (i : ℕ) (escaped : Bool) → i < length rest
    → up_to_quote quote escaped (drop i rest) ≡ (if get_or rest i 0 == 10 then None else if closes quote escaped (get_or rest i 0) then Some 0 else option_map (λ n. 1 + n) (up_to_quote quote (escapes escaped (get_or rest i 0)) (drop (i + 1) rest)))
unfolding up_to_quote
quote_step quote rest i escaped lt = rw (drop_more rest i 0) refl

pub quote_first : (quote : ℕ) (rest : List ℕ) → Searched quote rest 0 false
quote_first quote rest = sym (shifted_none (up_to_quote quote false rest))

pub quote_line : (quote : ℕ) (rest : List ℕ) (i : ℕ) (escaped : Bool) → i < length rest → get_or rest i 0 ≡ 10 → Searched quote rest i escaped → None ≡ up_to_quote quote false rest
quote_line quote rest i escaped lt is so_far =
    let test : (get_or rest i 0 == 10) ≡ true = grind (arith, nat_tests) in
    sym (so_far ∙ ap (shifted i) (rw test at (quote_step quote rest i escaped lt)))

pub quote_found : (quote : ℕ) (rest : List ℕ) (i : ℕ) (escaped : Bool) → i < length rest → (get_or rest i 0 ≡ 10 → ⊥) → closes quote escaped (get_or rest i 0) ≡ true → Searched quote rest i escaped → Some i ≡ up_to_quote quote false rest
quote_found quote rest i escaped lt other is so_far =
    let test : (get_or rest i 0 == 10) ≡ false = grind (arith, nat_tests) in
    let here : i + 0 ≡ i = omega arith in
    sym (so_far ∙ ap (shifted i) (rw (test, is) at (quote_step quote rest i escaped lt)) ∙ ap (λ n. Some n) here)

pub quote_more : (quote : ℕ) (rest : List ℕ) (i : ℕ) (escaped next : Bool) → i < length rest → (get_or rest i 0 ≡ 10 → ⊥) → closes quote escaped (get_or rest i 0) ≡ false → next ≡ escapes escaped (get_or rest i 0) → Searched quote rest i escaped → Searched quote rest (i + 1) next
quote_more quote rest i escaped next lt other is next_is so_far =
    let test : (get_or rest i 0 == 10) ≡ false = grind (arith, nat_tests) in
    rw next_is (so_far ∙ ap (shifted i) (rw (test, is) at (quote_step quote rest i escaped lt)) ∙ shifted_more i (up_to_quote quote (escapes escaped (get_or rest i 0)) (drop (i + 1) rest)))

pub quote_none : (quote : ℕ) (rest : List ℕ) (i : ℕ) (escaped : Bool) → length rest ≤ i → Searched quote rest i escaped → None ≡ up_to_quote quote false rest
unfolding up_to_quote
quote_none quote rest i escaped le so_far = sym (so_far ∙ ap (λ xs. shifted i (up_to_quote quote escaped xs)) (drop_all i rest le))

-- the text so far, and that of what is left
abbrev pub Read : List ℕ → List ℕ → ℕ → Bool → Type 0
Read body bytes i escaped = text_of false body ≡ joined (Some bytes) (text_of escaped (drop i body))

text_step : (body : List ℕ) (i : ℕ) (escaped : Bool) → i < length body
    → text_of escaped (drop i body) ≡ joined (added escaped (get_or body i 0)) (text_of (escapes escaped (get_or body i 0)) (drop (i + 1) body))
unfolding text_of
text_step body i escaped lt = rw (drop_more body i 0) refl

joined_none : (o : Option (List ℕ)) → joined (Some []) o ≡ o
joined_none None = refl
joined_none (Some x) = refl

joined_more : (front more : List ℕ) (o : Option (List ℕ)) → joined (Some front) (joined (Some more) o) ≡ joined (Some (front ++ more)) o
joined_more front more None = refl
joined_more front more (Some x) = ap (λ xs. Some xs) (sym (append_assoc front more x))

pub text_first : (body : List ℕ) → Read body [] 0 false
text_first body = sym (joined_none (text_of false body))

pub text_wrong : (body bytes : List ℕ) (i : ℕ) (escaped : Bool) → i < length body → None ≡ added escaped (get_or body i 0) → Read body bytes i escaped → None ≡ text_of false body
text_wrong body bytes i escaped lt is so_far = sym (so_far ∙ ap (joined (Some bytes)) (rw (← is) at (text_step body i escaped lt)))

pub text_more : (body bytes : List ℕ) (i : ℕ) (escaped next : Bool) (more after : List ℕ) → i < length body → Some more ≡ added escaped (get_or body i 0) → next ≡ escapes escaped (get_or body i 0) → after ≡ bytes ++ more → Read body bytes i escaped → Read body after (i + 1) next
text_more body bytes i escaped next more after lt is next_is after_is so_far =
    rw (next_is, after_is) (so_far ∙ ap (joined (Some bytes)) (rw (← is) at (text_step body i escaped lt)) ∙ joined_more bytes more (text_of (escapes escaped (get_or body i 0)) (drop (i + 1) body)))

pub text_all : (body bytes : List ℕ) (i : ℕ) (escaped : Bool) → length body ≤ i → Read body bytes i escaped → Some bytes ≡ text_of false body
unfolding text_of
text_all body bytes i escaped le so_far = sym (so_far ∙ ap (λ xs. joined (Some bytes) (text_of escaped xs)) (drop_all i body le) ∙ ap (λ xs. Some xs) (append-nil bytes))

-- The language of one word.
use Rattle.std.proofs.Common.{◌≡◌, ◌≢◌, ℕ, zero, suc, ◌+◌, ◌<◌, ◌≤◌, ◌⊎◌, inl, inr, List, ◌++◌, length, take, drop, get_or, refl, sym, ap, ap₂, ◌∙◌, arith}
use Rattle.std.proofs.lemmas.Bool.{cases_lt, cases_eq}
use Rattle.std.proofs.lemmas.List.{take-append-drop, take_all, take_more_same, drop-drop, length-drop, length-take, get_or-take, get_or_append_left}
use Rattle.patch_form.specs.declared.fault.FrameFault.TheVariants.{Short, BadHead}
use Rattle.patch_form.specs.Parts.{Is, IsCut, IsBad}
use Rattle.patch_form.proofs.Languages.{HasOneAtFront, Answer, Whole, Fails}

pub once_word : (word : List ℕ) → HasOneAtFront (Is word)
once_word word a b xs ys wa wb e = wa ∙ sym wb

-- bytes that are a front of the word, and shorter
pub word_short : (bytes word : List ℕ) (i : ℕ) → i ≡ length bytes → i < length word → take i bytes ≡ take i word → IsCut (Is word) bytes
word_short bytes word i is short same = (
  drop i word,
  λ none. omega (arith, ap length none, length-drop i word),
  ap (λ l. l ++ drop i word) (sym (take_all i bytes (omega arith)) ∙ same) ∙ take-append-drop i word,
)

pub word_bad : (bytes word : List ℕ) (i : ℕ) → i < length bytes → i < length word → take i bytes ≡ take i word → get_or bytes i 0 ≢ get_or word i 0 → IsBad (Is word) i bytes
word_bad bytes word i within before same differs = (
  (drop i word, ap (λ l. l ++ drop i word) same ∙ take-append-drop i word),
  λ w more rest is e. differs (sym (at_front bytes more (get_or-take (i + 1) bytes i 0 (omega arith)) (omega (arith, length-take (i + 1) bytes))) ∙ ap (λ l. get_or l i 0) (e ∙ ap (λ l. l ++ rest) is) ∙ get_or_append_left word rest 0 i before),
)
  where
    at_front : (bytes more : List ℕ) → get_or (take (i + 1) bytes) i 0 ≡ get_or bytes i 0 → i < length (take (i + 1) bytes) → get_or (take (i + 1) bytes ++ more) i 0 ≡ get_or bytes i 0
    at_front bytes more is lt = get_or_append_left (take (i + 1) bytes) more 0 i lt ∙ is

-- the word stands at the offset
pub word_there : (bytes rest word : List ℕ) (at i : ℕ) → at ≤ length bytes → i ≡ length word → rest ≡ drop at bytes → i ≤ length rest → take i rest ≡ take i word →
    (at + length word ≤ length bytes) × (drop at bytes ≡ word ++ drop (at + length word) bytes)
word_there bytes rest word at i within is there le same = (
  omega (arith, ap length there, length-drop at bytes),
  sym there ∙ sym (take-append-drop i rest) ∙ ap₂ (λ a b. a ++ b) (same ∙ take_all i word (omega arith)) (ap (drop i) there ∙ drop-drop i at bytes ∙ ap (λ n. drop (at + n) bytes) is),
)

-- bytes begin with the word, or differ from it, or are shorter

answer_at : (word bytes : List ℕ) (i : ℕ) → i < length word → take i bytes ≡ take i word → (i < length bytes) ⊎ (length bytes ≤ i) → (get_or bytes i 0 ≡ get_or word i 0) ⊎ (get_or bytes i 0 ≢ get_or word i 0) → i ≤ length bytes →
    (i < length bytes → take (i + 1) bytes ≡ take (i + 1) word → Answer (Is word) bytes) → Answer (Is word) bytes
answer_at word bytes i before same (inl lt) (inl eq) le more = more lt (take_more_same bytes word i 0 lt before same eq)
answer_at word bytes i before same (inl lt) (inr ne) le more = Fails (BadHead i) (i, omega arith, word_bad bytes word i lt before same ne)
answer_at word bytes i before same (inr ge) eq le more = Fails Short (word_short bytes word i (omega arith) before same)

answer_from : (word bytes : List ℕ) (left i : ℕ) → i + left ≡ length word → i ≤ length bytes → take i bytes ≡ take i word → Answer (Is word) bytes
answer_from word bytes zero i e le same =
    Whole word (drop i bytes) refl (sym (take-append-drop i bytes) ∙ ap (λ l. l ++ drop i bytes) (same ∙ take_all i word (omega arith)))
answer_from word bytes (suc left) i e le same =
    answer_at word bytes i (omega arith) same (cases_lt i (length bytes)) (cases_eq (get_or bytes i 0) (get_or word i 0)) le
    (λ lt next. answer_from word bytes left (i + 1) (omega arith) (omega arith) next)

pub answer_word : (word bytes : List ℕ) → Answer (Is word) bytes
answer_word word bytes = answer_from word bytes (length word) 0 (omega arith) (omega arith) refl

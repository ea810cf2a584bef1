-- The language of a file's first line.
use Rattle.std.proofs.Common.{◌≡◌, ◌≢◌, ℕ, ◌+◌, ◌<◌, ◌≤◌, ◌⊎◌, inl, inr, List, [], ◌∷◌, ◌++◌, length, take, drop, get_or, refl, sym, ap, ◌∙◌, subst, arith}
use Rattle.std.specs.Prelude.{codes}
use Rattle.std.proofs.lemmas.Bool.{cases_eq}
use Rattle.std.proofs.lemmas.List.{append_cancel_left, take_at, drop_all, drop_more}
use Rattle.patch_form.specs.declared.fault.FrameFault.{FrameFault}
use Rattle.patch_form.specs.declared.fault.FrameFault.TheVariants.{Short, BadHead}
use Rattle.patch_form.specs.declared.format.Format.{Format}
use Rattle.patch_form.specs.declared.format.Format.TheVariants.{One, Two}
use Rattle.patch_form.specs.Framing.{digit, head}
use Rattle.patch_form.specs.Parts.{Is, IsDigit, IsHead, NoneGoesOn, IsCut, IsBad, IsFaultOf}
use Rattle.patch_form.proofs.Languages.{HasOneAtFront, Joined, fault_second, once_joined, Answer, Whole, Fails, answer_joined}
use Rattle.patch_form.proofs.Words.{once_word, answer_word}

-- the digit of the format

once_digit : HasOneAtFront IsDigit
once_digit a b xs ys (f, fa) (g, gb) e =
    let front : (c : ℕ) (zs : List ℕ) → take 1 ((c ∷ []) ++ zs) ≡ c ∷ [] = λ c zs. take_at (c ∷ []) zs 1 refl in
    fa ∙ (sym (front (digit f) xs) ∙ (ap (λ l. take 1 (l ++ xs)) (sym fa) ∙ (ap (take 1) e ∙ (ap (λ l. take 1 (l ++ ys)) gb ∙ front (digit g) ys))) ∙ sym gb)

-- nothing stands where the digit should
pub digit_short : IsCut IsDigit []
digit_short = (49 ∷ [], λ e. cc, (One, refl))

-- no format has the digit that stands there
pub digit_bad : (c : ℕ) (rest : List ℕ) → c ≢ 49 → c ≢ 50 → IsBad IsDigit 0 (c ∷ rest)
digit_bad c rest one two = ((49 ∷ [], (One, refl)), none) where
  none : NoneGoesOn IsDigit (c ∷ [])
  none word more after (One, is) e = one (ap (λ l. get_or l 0 0) (e ∙ ap (λ l. l ++ after) is))
  none word more after (Two, is) e = two (ap (λ l. get_or l 0 0) (e ∙ ap (λ l. l ++ after) is))

answer_digit : (bytes : List ℕ) → Answer IsDigit bytes
answer_digit [] = Fails Short digit_short
answer_digit (c ∷ rest) = by (cases_eq c 49) (cases_eq c 50) where
  by : (c ≡ 49) ⊎ (c ≢ 49) → (c ≡ 50) ⊎ (c ≢ 50) → Answer IsDigit (c ∷ rest)
  by (inl one) two = Whole (49 ∷ []) rest (One, refl) (ap (λ x. x ∷ rest) one)
  by (inr one) (inl two) = Whole (50 ∷ []) rest (Two, refl) (ap (λ x. x ∷ rest) two)
  by (inr one) (inr two) = Fails (BadHead 0) (0, refl, digit_bad c rest one two)

-- the digit and the end of the line

abbrev pub IsVersion : List ℕ → Type 0
IsVersion bytes = (f : Format) × (bytes ≡ digit f ∷ codes "\n")

pub version : Joined IsVersion IsDigit (λ a. Is (codes "\n"))
version = record {
  join = λ a b digit line. (digit.0, ap (λ l. l ++ b) digit.1 ∙ ap (λ l. digit_of digit.0 ++ l) line);
  split = λ w v. (digit_of v.0, (codes "\n", ((v.0, refl), refl, v.1)));
  goes_on = λ a digit. (codes "\n", refl);
  once = once_digit;
}
  where
    digit_of : Format → List ℕ
    digit_of f = digit f ∷ []

-- the whole line

pub head_joined : Joined IsHead (Is (codes "upstare-patch ")) (λ a. IsVersion)
head_joined = record {
  join = λ a b word v. (v.0, ap (λ l. l ++ b) word ∙ ap (λ l. codes "upstare-patch " ++ l) v.1);
  split = λ w line. (codes "upstare-patch ", (digit line.0 ∷ codes "\n", (refl, (line.0, refl), line.1)));
  goes_on = λ a word. (digit One ∷ codes "\n", (One, refl));
  once = once_word (codes "upstare-patch ");
}

pub once_head : HasOneAtFront IsHead
once_head =
    once_joined IsHead (Is (codes "upstare-patch ")) (λ a. IsVersion) head_joined (λ a w.
    once_joined IsVersion IsDigit (λ a. Is (codes "\n")) version (λ a d. once_word (codes "\n")))

pub answer_head : (bytes : List ℕ) → Answer IsHead bytes
answer_head =
    answer_joined IsHead (Is (codes "upstare-patch ")) (λ a. IsVersion) head_joined (answer_word (codes "upstare-patch ")) (λ a w.
    answer_joined IsVersion IsDigit (λ a. Is (codes "\n")) version answer_digit (λ a d. answer_word (codes "\n")))

-- a line names one format
one_format : (f g : Format) → head f ≡ head g → f ≡ g
one_format One One e = refl
one_format Two Two e = refl
one_format One Two e = absurd (omega (arith, ap (λ l. get_or l 14 0) e))
one_format Two One e = absurd (omega (arith, ap (λ l. get_or l 14 0) e))

-- the same where the bytes stand at an offset

pub digit_cut : (bytes : List ℕ) (at : ℕ) → length bytes ≤ at → IsCut IsDigit (drop at bytes)
digit_cut bytes at past = subst (IsCut IsDigit) (sym (drop_all at bytes past)) digit_short

pub digit_wrong : (bytes : List ℕ) (at c : ℕ) → at < length bytes → c ≡ get_or bytes at 0 → c ≢ 49 → c ≢ 50 → IsBad IsDigit 0 (drop at bytes)
digit_wrong bytes at c within is one two =
    subst (IsBad IsDigit 0) (ap (λ x. x ∷ drop (at + 1) bytes) is ∙ sym (drop_more bytes at 0 within)) (digit_bad c (drop (at + 1) bytes) one two)

-- faults behind the word, and behind the digit

pub after_word : (bytes : List ℕ) (at : ℕ) (f : FrameFault) → (at ≡ 14) × (at ≤ length bytes) × (bytes ≡ codes "upstare-patch " ++ drop at bytes)
    → IsFaultOf IsVersion at (drop at bytes) f → IsFaultOf IsHead 0 bytes f
after_word bytes at f (is, within, word) fault =
    fault_second IsHead (Is (codes "upstare-patch ")) (λ a. IsVersion) head_joined 0 at (codes "upstare-patch ") (drop at bytes) bytes f refl is word fault

pub after_digit : (bytes : List ℕ) (at : ℕ) (form : Format) (f : FrameFault) → (at ≡ 14) × (at ≤ length bytes) × (bytes ≡ codes "upstare-patch " ++ drop at bytes)
    → (at + 1 ≤ length bytes) × (drop at bytes ≡ digit form ∷ drop (at + 1) bytes) → IsFaultOf (Is (codes "\n")) (at + 1) (drop (at + 1) bytes) f → IsFaultOf IsHead 0 bytes f
after_digit bytes at form f word (within, is) fault =
    after_word bytes at f word
    (fault_second IsVersion IsDigit (λ a. Is (codes "\n")) version at (at + 1) (digit form ∷ []) (drop (at + 1) bytes) (drop at bytes) f (form, refl) refl is fault)

-- one format, and one rest
pub one_head : (f g : Format) (xs ys : List ℕ) → head f ++ xs ≡ head g ++ ys → (f ≡ g) × (xs ≡ ys)
one_head f g xs ys e =
    let same = once_head (head f) (head g) xs ys (f, refl) (g, refl) e in
    (one_format f g same, append_cancel_left (head f) xs ys (e ∙ ap (λ l. l ++ ys) (sym same)))

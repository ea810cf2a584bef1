-- What stands where no reason does, and the one reason of its numbers.
use Rattle.std.proofs.Common.{◌≡◌, ℕ, suc, List, ◌∷◌, ◌++◌, length, get_or, drop, eqb, cond, refl, sym, ap, ◌∙◌, All, Some, None}
use Rattle.std.specs.List.{flat_map}
use Rattle.c_tree.specs.declared.event.Reason.{Reason}
use Rattle.c_tree.specs.declared.event.Reason.TheVariants as r
use Rattle.history.specs.History.{spaced, reason_numbers, IsShort}
use Rattle.history.specs.Taken.{LacksSpaced, TakesSpaced, LacksNumbers, LacksReason, numbers_after}
use Rattle.history.proofs.DigitLemmas.{spaced_once}
use Rattle.history.proofs.NumberLemmas.{no_digit_first, short_head, first_number, lacks_first, lacks_next}

abbrev code_of : Reason → ℕ
code_of reason = get_or (reason_numbers reason) 0 0

abbrev after_code : Reason → List ℕ
after_code reason = drop 1 (reason_numbers reason)

shape : (reason : Reason) → (reason_numbers reason ≡ code_of reason ∷ after_code reason) × (numbers_after (code_of reason) ≡ Some (length (after_code reason)))
shape (r.Unmapped t f) = (refl, refl)
shape (r.Held m) = (refl, refl)
shape (r.Removed o) = (refl, refl)
shape (r.Check k c) = (refl, refl)
shape (r.Global g c) = (refl, refl)
shape (r.Field o i c) = (refl, refl)
shape (r.Slot t f i c) = (refl, refl)
shape r.Memory = (refl, refl)
shape (r.Depth t) = (refl, refl)

pub reason_from : List ℕ → Reason
reason_from ns =
    let at : ℕ → ℕ = λ k. get_or ns k 0 in
    cond (eqb (at 0) 1) (r.Unmapped (at 1) (at 2))
    (cond (eqb (at 0) 2) (r.Held (at 1))
    (cond (eqb (at 0) 3) (r.Removed (at 1))
    (cond (eqb (at 0) 4) (r.Check (at 1) (at 2))
    (cond (eqb (at 0) 5) (r.Global (at 1) (at 2))
    (cond (eqb (at 0) 6) (r.Field (at 1) (at 2) (at 3))
    (cond (eqb (at 0) 7) (r.Slot (at 1) (at 2) (at 3) (at 4))
    (cond (eqb (at 0) 8) r.Memory
    (r.Depth (at 1)))))))))

pub reason_back : (reason : Reason) → reason_from (reason_numbers reason) ≡ reason
unfolding reason_from
reason_back (r.Unmapped t f) = refl
reason_back (r.Held m) = refl
reason_back (r.Removed o) = refl
reason_back (r.Check k c) = refl
reason_back (r.Global g c) = refl
reason_back (r.Field o i c) = refl
reason_back (r.Slot t f i c) = refl
reason_back r.Memory = refl
reason_back (r.Depth t) = refl

pub same_reason : (a b : Reason) → reason_numbers a ≡ reason_numbers b → a ≡ b
same_reason a b e = sym (reason_back a) ∙ ap reason_from e ∙ reason_back b

pub lacks_code : (bytes : List ℕ) → LacksSpaced bytes → LacksReason bytes
lacks_code bytes none reason more short e =
    lacks_first (length (after_code reason)) bytes none (reason_numbers reason) more (ap length (shape reason).0) short e

-- the code that was taken is that of a reason that stands there
the_code : (bytes : List ℕ) (code : ℕ) (rest : List ℕ) → TakesSpaced bytes code rest → (reason : Reason) (more : List ℕ) → All IsShort (reason_numbers reason) → bytes ≡ flat_map spaced (reason_numbers reason) ++ 10 ∷ more → numbers_after code ≡ Some (length (after_code reason))
the_code bytes code rest takes reason more short e =
    let split = (shape reason).0 in
    let head : IsShort (code_of reason) = short_head (code_of reason) (after_code reason) (rw split at short) in
    let there = e ∙ ap (λ ns. flat_map spaced ns ++ 10 ∷ more) split ∙ first_number (code_of reason) (after_code reason) more in
    let once = spaced_once code (code_of reason) rest (flat_map spaced (after_code reason) ++ 10 ∷ more) takes.0 head takes.2 (no_digit_first (after_code reason) more) (sym takes.1 ∙ there) in
    ap numbers_after once.0 ∙ (shape reason).1

pub lacks_name : (bytes : List ℕ) (code : ℕ) (rest : List ℕ) → TakesSpaced bytes code rest → numbers_after code ≡ None → LacksReason bytes
lacks_name bytes code rest takes none reason more short e =
    let named = the_code bytes code rest takes reason more short e in
    let apart : None ≡ Some (length (after_code reason)) = sym none ∙ named in cc

pub lacks_numbers : (bytes : List ℕ) (code count : ℕ) (rest : List ℕ) → TakesSpaced bytes code rest → numbers_after code ≡ Some count → LacksNumbers count rest → LacksReason bytes
lacks_numbers bytes code count rest takes named none reason more short e =
    let both : Some count ≡ Some (length (after_code reason)) = sym named ∙ the_code bytes code rest takes reason more short e in
    let same : count ≡ length (after_code reason) = cc in
    lacks_next count bytes code rest takes none (reason_numbers reason) more (ap length (shape reason).0 ∙ ap (λ n. suc n) (sym same)) short e

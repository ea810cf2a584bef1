-- What stands where no kind does, and the one kind of its word and numbers.
use Rattle.std.proofs.Common.{◌≡◌, ℕ, List, [], ◌∷◌, ◌++◌, length, get_or, drop, eqb, cond, refl, sym, ap, ap₂, subst, ◌∙◌, append_assoc}
use Rattle.std.specs.List.{flat_map}
use Rattle.std.proofs.Math.Seq.{drop-append_seam}
use Rattle.c_tree.specs.declared.event.EventKind.{EventKind}
use Rattle.c_tree.specs.declared.event.EventKind.TheVariants as k
use Rattle.history.specs.declared.word.Word.{Word}
use Rattle.history.specs.declared.word.Word.TheVariants as w
use Rattle.history.specs.History.{spaced, word, numbers, kind_text, IsKind}
use Rattle.history.specs.Taken.{letters, LacksWord, LacksNumbers, LacksReason, LacksKind, TakesKind, TakesNumbers}
use Rattle.history.proofs.NumberLemmas.{numbers_once}
use Rattle.history.proofs.ReasonLemmas.{reason_from, reason_back}

abbrev pub word_of : EventKind → Word
word_of (k.Step t) = w.Step
word_of k.Request = w.Request
word_of (k.Park t) = w.Park
word_of k.Update = w.Update
word_of (k.Refuse r) = w.Refuse
word_of (k.Resume t) = w.Resume

the_letters : (kind : EventKind) → word kind ≡ letters (word_of kind)
the_letters (k.Step t) = refl
the_letters k.Request = refl
the_letters (k.Park t) = refl
the_letters k.Update = refl
the_letters (k.Refuse r) = refl
the_letters (k.Resume t) = refl

-- the word, by its first and its third letter
word_from : List ℕ → Word
word_from bytes =
    cond (eqb (get_or bytes 0 0) 115) w.Step
    (cond (eqb (get_or bytes 0 0) 112) w.Park
    (cond (eqb (get_or bytes 0 0) 117) w.Update
    (cond (eqb (get_or bytes 2 0) 113) w.Request
    (cond (eqb (get_or bytes 2 0) 102) w.Refuse w.Resume))))

word_back : (v : Word) (xs : List ℕ) → word_from (letters v ++ xs) ≡ v
unfolding word_from
word_back w.Step xs = refl
word_back w.Request xs = refl
word_back w.Park xs = refl
word_back w.Update xs = refl
word_back w.Refuse xs = refl
word_back w.Resume xs = refl

pub word_once : (u v : Word) (xs ys : List ℕ) → letters u ++ xs ≡ letters v ++ ys → (u ≡ v) × (xs ≡ ys)
word_once u v xs ys e =
    let same : u ≡ v = sym (word_back u xs) ∙ ap word_from e ∙ word_back v ys in
    let rest : xs ≡ ys =
    sym (drop-append_seam (letters u) xs) ∙ ap (λ n. drop (length (letters n)) (letters u ++ xs)) same
    ∙ ap (drop (length (letters v))) e ∙ drop-append_seam (letters v) ys in
    (same, rest)

kind_from : Word → List ℕ → EventKind
kind_from w.Step ns = k.Step (get_or ns 0 0)
kind_from w.Request ns = k.Request
kind_from w.Park ns = k.Park (get_or ns 0 0)
kind_from w.Update ns = k.Update
kind_from w.Refuse ns = k.Refuse (reason_from ns)
kind_from w.Resume ns = k.Resume (get_or ns 0 0)

kind_back : (kind : EventKind) → kind_from (word_of kind) (numbers kind) ≡ kind
unfolding kind_from
kind_back (k.Step t) = refl
kind_back k.Request = refl
kind_back (k.Park t) = refl
kind_back k.Update = refl
kind_back (k.Refuse r) = ap k.Refuse (reason_back r)
kind_back (k.Resume t) = refl

-- the word, and what follows it
kind_parts : (kind : EventKind) (more : List ℕ) → kind_text kind ++ more ≡ letters (word_of kind) ++ (flat_map spaced (numbers kind) ++ 10 ∷ more)
unfolding kind_text
kind_parts kind more =
    append_assoc (word kind ++ flat_map spaced (numbers kind)) (10 ∷ []) more
    ∙ append_assoc (word kind) (flat_map spaced (numbers kind)) (10 ∷ more)
    ∙ ap (λ l. l ++ (flat_map spaced (numbers kind) ++ 10 ∷ more)) (the_letters kind)

pub kind_once : (a b : EventKind) (xs ys : List ℕ) → IsKind a → IsKind b → kind_text a ++ xs ≡ kind_text b ++ ys → (a ≡ b) × (xs ≡ ys)
kind_once a b xs ys ha hb e =
    let words = word_once (word_of a) (word_of b) (flat_map spaced (numbers a) ++ 10 ∷ xs) (flat_map spaced (numbers b) ++ 10 ∷ ys) (sym (kind_parts a xs) ∙ e ∙ kind_parts b ys) in
    let ns = numbers_once (numbers a) (numbers b) xs ys ha hb words.1 in
    (sym (kind_back a) ∙ ap₂ kind_from words.0 ns.0 ∙ kind_back b, ns.1)

pub lacks_word : (bytes : List ℕ) → LacksWord bytes → LacksKind bytes
lacks_word bytes none kind more short e =
    none (word_of kind) (flat_map spaced (numbers kind) ++ 10 ∷ more) (e ∙ kind_parts kind more)

-- what follows a word lacks its numbers
abbrev pub LacksAfter : Word → List ℕ → Type 0
LacksAfter w.Step rest = LacksNumbers 1 rest
LacksAfter w.Request rest = LacksNumbers 0 rest
LacksAfter w.Park rest = LacksNumbers 1 rest
LacksAfter w.Update rest = LacksNumbers 0 rest
LacksAfter w.Refuse rest = LacksReason rest
LacksAfter w.Resume rest = LacksNumbers 1 rest

no_numbers : (kind : EventKind) (rest more : List ℕ) → LacksAfter (word_of kind) rest → IsKind kind → rest ≡ flat_map spaced (numbers kind) ++ 10 ∷ more → ⊥
no_numbers (k.Step t) rest more none short e = none (t ∷ []) more refl short e
no_numbers k.Request rest more none short e = none [] more refl short e
no_numbers (k.Park t) rest more none short e = none (t ∷ []) more refl short e
no_numbers k.Update rest more none short e = none [] more refl short e
no_numbers (k.Refuse r) rest more none short e = none r more short e
no_numbers (k.Resume t) rest more none short e = none (t ∷ []) more refl short e

pub lacks_kind : (v : Word) (bytes rest : List ℕ) → bytes ≡ letters v ++ rest → LacksAfter v rest → LacksKind bytes
lacks_kind v bytes rest there none kind more short e =
    let words = word_once v (word_of kind) rest (flat_map spaced (numbers kind) ++ 10 ∷ more) (sym there ∙ e ∙ kind_parts kind more) in
    no_numbers kind rest more (subst (λ (u : Word). LacksAfter u rest) words.0 none) short words.1

pub takes_kind : (kind : EventKind) (bytes rest more : List ℕ) → bytes ≡ letters (word_of kind) ++ rest → TakesNumbers rest (numbers kind) more → TakesKind bytes kind more
takes_kind kind bytes rest more there takes =
    (takes.0, there ∙ ap (λ l. letters (word_of kind) ++ l) takes.1 ∙ sym (kind_parts kind more))

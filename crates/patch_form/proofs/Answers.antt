-- Bytes have an answer, and only one.
use Rattle.std.proofs.Common.{◌≡◌, ℕ, ◌+◌, ◌<◌, ◌≤◌, ◌⊎◌, inl, inr, List, [], ◌∷◌, ◌++◌, length, take, drop, refl, sym, ap, ◌∙◌, subst, append_assoc, arith}
use Rattle.std.specs.Prelude.{codes, ◌↔◌, Result, Ok, Err, IsOk, MatchResult}
use Rattle.std.proofs.lemmas.Bool.{cases_lt}
use Rattle.std.proofs.lemmas.List.{append-nil, append_cancel_left, take-take, take-append-drop}
use Rattle.patch_form.specs.declared.fault.FrameFault.{FrameFault}
use Rattle.patch_form.specs.declared.fault.FrameFault.TheVariants.{Short, BadHead}
use Rattle.patch_form.specs.declared.frame.Frame.{Frame}
use Rattle.patch_form.specs.Framing.{IsFraming, BeginsFraming, IsCutShort, IsBadAt}
use Rattle.patch_form.specs.Answer.{IsFrame, IsFault}
use Rattle.patch_form.specs.Laws.{EachIsAnswered, OneFraming, NoneIsShort, NoneIsBad, NoShortIsBad, OneOffset}
use Rattle.patch_form.proofs.Languages.{Answer, Whole, Fails}
use Rattle.patch_form.proofs.Heads.{one_head}
use Rattle.patch_form.proofs.Files.{IsFile, part_of, once_part, part_injective, framed_parts, framing_from_file, file_fault, behind_file, answer_file}

pub each_is_answered : EachIsAnswered
each_is_answered bytes = by (answer_file bytes)
  where
    by : Answer IsFile bytes → IsFraming bytes ⊎ (IsCutShort bytes ⊎ ((at : ℕ) × IsBadAt at bytes))
    by (Whole w [] file whole) = inl (subst IsFraming (sym (whole ∙ append-nil w)) (framing_from_file w file))
    by (Whole w (x ∷ rest) file whole) = inr (inr (length w, behind_file bytes w (x ∷ rest) file whole (omega arith)))
    by (Fails Short fault) = inr (inl (file_fault bytes Short fault))
    by (Fails (BadHead at) fault) = inr (inr (at, file_fault bytes (BadHead at) fault))

-- one text behind a word, and one rest
one_part : (word t u xs ys : List ℕ) → part_of word t ++ xs ≡ part_of word u ++ ys → (t ≡ u) × (xs ≡ ys)
one_part word t u xs ys e =
    let same = once_part word (part_of word t) (part_of word u) xs ys (t, refl) (u, refl) e in
    (part_injective word t u same, append_cancel_left (part_of word t) xs ys (e ∙ ap (λ l. l ++ ys) (sym same)))

pub one_framing : OneFraming
one_framing f f' old new map old' new' map' e =
    let heads = one_head f f' _ _ (sym (framed_parts f old new map) ∙ e ∙ framed_parts f' old' new' map') in
    let olds = one_part (codes "old ") old old' _ _ heads.1 in
    let news = one_part (codes "new ") new new' _ _ olds.1 in
    let maps = one_part (codes "map ") map map' _ _ news.1 in
    (heads.0, olds.0, news.0, maps.0)

front_begins : (bytes : List ℕ) (k : ℕ) → BeginsFraming bytes → BeginsFraming (take k bytes)
front_begins bytes k (more, framing) =
    (drop k bytes ++ more, subst IsFraming (ap (λ l. l ++ more) (sym (take-append-drop k bytes)) ∙ append_assoc (take k bytes) (drop k bytes) more) framing)

pub none_is_short : NoneIsShort
none_is_short bytes framing cut = cut.1 framing

pub none_is_bad : NoneIsBad
none_is_bad bytes at framing bad = bad.1 (front_begins bytes (at + 1) ([], subst IsFraming (sym (append-nil bytes)) framing))

pub no_short_is_bad : NoShortIsBad
no_short_is_bad bytes at cut bad = bad.1 (front_begins bytes (at + 1) cut.0)

below : (bytes : List ℕ) (a b : ℕ) → IsBadAt a bytes → IsBadAt b bytes → a < b → ⊥
below bytes a b p q lt =
    p.1 (subst BeginsFraming (take-take (a + 1) b bytes (omega arith)) (front_begins (take b bytes) (a + 1) q.0))

pub one_offset : OneOffset
one_offset bytes a b p q = by (cases_lt a b) (cases_lt b a)
  where
    by : (a < b) ⊎ (b ≤ a) → (b < a) ⊎ (a ≤ b) → a ≡ b
    by (inl lt) y = absurd (below bytes a b p q lt)
    by (inr ge) (inl lt) = absurd (below bytes b a q p lt)
    by (inr ge) (inr le) = omega arith

-- an answer is what the bytes are, and only that

pub exact_framing : (bytes : List ℕ) (r : Result Frame FrameFault) → MatchResult r (IsFrame bytes) (IsFault bytes) → IsOk r ↔ IsFraming bytes
exact_framing bytes (Ok f) is = (λ ok. (f.format, (f.old.text.now, (f.new.text.now, (f.map.text.now, is.whole)))), λ framing. refl)
exact_framing bytes (Err Short) is = (λ ok. absurd (cc), λ framing. absurd (is.1 framing))
exact_framing bytes (Err (BadHead at)) is = (λ ok. absurd (cc), λ framing. absurd (none_is_bad bytes at framing is))

pub exact_short : (bytes : List ℕ) (r : Result Frame FrameFault) → MatchResult r (IsFrame bytes) (IsFault bytes) → (r ≡ Err Short) ↔ IsCutShort bytes
exact_short bytes (Ok f) is = (λ e. absurd (cc), λ cut. absurd (cut.1 (f.format, (f.old.text.now, (f.new.text.now, (f.map.text.now, is.whole))))))
exact_short bytes (Err Short) is = (λ e. is, λ cut. refl)
exact_short bytes (Err (BadHead at)) is = (λ e. absurd (cc), λ cut. absurd (no_short_is_bad bytes at cut is))

pub exact_bad : (bytes : List ℕ) (r : Result Frame FrameFault) → MatchResult r (IsFrame bytes) (IsFault bytes) → (at : ℕ) → (r ≡ Err (BadHead at)) ↔ IsBadAt at bytes
exact_bad bytes (Ok f) is at = (λ e. absurd (cc), λ bad. absurd (none_is_bad bytes at (f.format, (f.old.text.now, (f.new.text.now, (f.map.text.now, is.whole)))) bad))
exact_bad bytes (Err Short) is at = (λ e. absurd (cc), λ bad. absurd (no_short_is_bad bytes at is bad))
exact_bad bytes (Err (BadHead a)) is at = (
  λ e. let same : a ≡ at = cc in subst (λ (n : ℕ). IsBadAt n bytes) same is,
  λ bad. ap (λ n. Err (BadHead n)) (one_offset bytes a at is bad),
)

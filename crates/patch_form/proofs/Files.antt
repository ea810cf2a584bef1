-- The languages of a file's parts, and of files.
use Rattle.std.proofs.Common.{◌≡◌, ℕ, ◌+◌, ◌-◌, ◌<◌, ◌≤◌, ◌⊎◌, inl, inr, List, [], ◌++◌, length, take, drop, replicate, refl, sym, ap, ap₂, ◌∙◌, subst, append_assoc, arith}
use Rattle.std.specs.Prelude.{codes}
use Rattle.std.proofs.lemmas.Bool.{cases_lt}
use Rattle.std.proofs.lemmas.List.{append-nil, append_cancel_left, length-append, length-replicate, length-take, length-take-le, take_at, take-append-drop}
use Rattle.std.proofs.Math.Seq.{take-append-add}
use Rattle.patch_form.specs.declared.fault.FrameFault.{FrameFault}
use Rattle.patch_form.specs.declared.fault.FrameFault.TheVariants.{Short, BadHead}
use Rattle.patch_form.specs.declared.format.Format.{Format}
use Rattle.patch_form.specs.Framing.{head, number_line, framed, IsFraming, BeginsFraming, IsBadAt}
use Rattle.patch_form.specs.Answer.{IsFault}
use Rattle.patch_form.specs.Parts.{Is, IsHead, IsNumberLine, IsPart, Begins, NoneGoesOn, IsCut, IsFaultOf}
use Rattle.patch_form.proofs.Languages.{HasOneAtFront, Joined, once_joined, Answer, Whole, Fails, answer_joined}
use Rattle.patch_form.proofs.Words.{once_word, answer_word}
use Rattle.patch_form.proofs.Heads.{once_head, answer_head}
use Rattle.patch_form.proofs.Numbers.{once_line, line_injective, answer_line}

-- a text behind the line of its length

-- the bytes are the line of a text's length, and the text
abbrev pub IsSized : List ℕ → Type 0
IsSized bytes = (text : List ℕ) × (bytes ≡ number_line (length text) ++ text)

-- the text is as long as the line says
abbrev pub IsSizedBy : List ℕ → List ℕ → Type 0
IsSizedBy line text = line ≡ number_line (length text)

pub sized : Joined IsSized IsNumberLine IsSizedBy
sized = record {
  join = λ a b line is. (b, ap (λ l. l ++ b) is);
  split = λ w sized. (number_line (length sized.0), (sized.0, ((length sized.0, refl), refl, sized.1)));
  goes_on = λ a line. (replicate line.0 0, line.1 ∙ ap number_line (sym (length-replicate line.0 0)));
  once = once_line;
}

same_front : (x y xs ys : List ℕ) → length x ≡ length y → x ++ xs ≡ y ++ ys → x ≡ y
same_front x y xs ys len e = sym (take_at x xs (length x) refl) ∙ ap (λ l. take (length x) l) e ∙ take_at y ys (length x) (sym len)

once_text : (a : List ℕ) → IsNumberLine a → HasOneAtFront (IsSizedBy a)
once_text a line x y xs ys ex ey e = same_front x y xs ys (line_injective (length x) (length y) (sym ex ∙ ey)) e

once_sized : HasOneAtFront IsSized
once_sized = once_joined IsSized IsNumberLine IsSizedBy sized once_text

-- fewer bytes than the line says
pub text_short : (n : ℕ) (bytes : List ℕ) → length bytes < n → IsCut (IsSizedBy (number_line n)) bytes
text_short n bytes short = (
  replicate (n - length bytes) 0,
  λ none. omega (arith, ap length none, length-replicate {A = ℕ} (n - length bytes) 0),
  ap number_line (omega (arith, length-append bytes (replicate (n - length bytes) 0), length-replicate {A = ℕ} (n - length bytes) 0)),
)

-- a text behind its word and line

pub part : (word : List ℕ) → Joined (IsPart word) (Is word) (λ a. IsSized)
part word = record {
  join = λ a b is sized. (sized.0, ap₂ (λ x y. x ++ y) is sized.1 ∙ sym (append_assoc word (number_line (length sized.0)) sized.0));
  split = λ w text. (word, (number_line (length text.0) ++ text.0, (refl, (text.0, refl), text.1 ∙ append_assoc word (number_line (length text.0)) text.0)));
  goes_on = λ a is. (number_line 0 ++ [], ([], refl));
  once = once_word word;
}

pub once_part : (word : List ℕ) → HasOneAtFront (IsPart word)
once_part word = once_joined (IsPart word) (Is word) (λ a. IsSized) (part word) (λ a is. once_sized)

abbrev pub part_of : List ℕ → List ℕ → List ℕ
part_of word text = word ++ number_line (length text) ++ text

pub part_injective : (word t u : List ℕ) → part_of word t ≡ part_of word u → t ≡ u
part_injective word t u e =
    let lines : number_line (length t) ++ t ≡ number_line (length u) ++ u =
    append_cancel_left word _ _ (sym (append_assoc word (number_line (length t)) t) ∙ e ∙ append_assoc word (number_line (length u)) u) in
    let same = once_line (number_line (length t)) (number_line (length u)) t u (length t, refl) (length u, refl) lines in
    append_cancel_left (number_line (length t)) t u (lines ∙ ap (λ l. l ++ u) (sym same))

-- files

-- the bytes are a word of the first language and one of the second
abbrev pub Then : (List ℕ → Type 0) → (List ℕ → Type 0) → List ℕ → Type 0
Then A B bytes = (a : List ℕ) × ((b : List ℕ) × (A a × B b × (bytes ≡ a ++ b)))

then : (A B : List ℕ → Type 0) → HasOneAtFront A → (b : List ℕ) × B b → Joined (Then A B) A (λ a. B)
then A B once some = record { join = λ a b x y. (a, (b, (x, y, refl))); split = λ w h. h; goes_on = λ a x. some; once = once }

abbrev pub IsFromEnd : List ℕ → Type 0
IsFromEnd = Is (codes "end\n")

abbrev pub IsFromMap : List ℕ → Type 0
IsFromMap = Then (IsPart (codes "map ")) IsFromEnd

abbrev pub IsFromNew : List ℕ → Type 0
IsFromNew = Then (IsPart (codes "new ")) IsFromMap

abbrev pub IsFromOld : List ℕ → Type 0
IsFromOld = Then (IsPart (codes "old ")) IsFromNew

abbrev pub IsFile : List ℕ → Type 0
IsFile = Then IsHead IsFromOld

a_part : (word : List ℕ) → IsPart word (part_of word [])
a_part word = ([], refl)

from_map : (b : List ℕ) × IsFromMap b
from_map = (part_of (codes "map ") [] ++ codes "end\n", (part_of (codes "map ") [], (codes "end\n", (a_part (codes "map "), refl, refl))))

from_new : (b : List ℕ) × IsFromNew b
from_new = (part_of (codes "new ") [] ++ from_map.0, (part_of (codes "new ") [], (from_map.0, (a_part (codes "new "), from_map.1, refl))))

from_old : (b : List ℕ) × IsFromOld b
from_old = (part_of (codes "old ") [] ++ from_new.0, (part_of (codes "old ") [], (from_new.0, (a_part (codes "old "), from_new.1, refl))))

pub map_joined : Joined IsFromMap (IsPart (codes "map ")) (λ a. IsFromEnd)
map_joined = then (IsPart (codes "map ")) IsFromEnd (once_part (codes "map ")) (codes "end\n", refl)

pub new_joined : Joined IsFromNew (IsPart (codes "new ")) (λ a. IsFromMap)
new_joined = then (IsPart (codes "new ")) IsFromMap (once_part (codes "new ")) from_map

pub old_joined : Joined IsFromOld (IsPart (codes "old ")) (λ a. IsFromNew)
old_joined = then (IsPart (codes "old ")) IsFromNew (once_part (codes "old ")) from_new

pub file_joined : Joined IsFile IsHead (λ a. IsFromOld)
file_joined = then IsHead IsFromOld once_head from_old

once_file : HasOneAtFront IsFile
once_file =
    once_joined IsFile IsHead (λ a. IsFromOld) file_joined (λ a w.
    once_joined IsFromOld (IsPart (codes "old ")) (λ a. IsFromNew) old_joined (λ a w.
    once_joined IsFromNew (IsPart (codes "new ")) (λ a. IsFromMap) new_joined (λ a w.
    once_joined IsFromMap (IsPart (codes "map ")) (λ a. IsFromEnd) map_joined (λ a w. once_word (codes "end\n")))))

-- the parts of a framing
regroup : (o w₁ l₁ t₁ w₂ l₂ t₂ w₃ l₃ t₃ e : List ℕ) →
    o ++ w₁ ++ l₁ ++ t₁ ++ w₂ ++ l₂ ++ t₂ ++ w₃ ++ l₃ ++ t₃ ++ e ≡ o ++ ((w₁ ++ l₁ ++ t₁) ++ ((w₂ ++ l₂ ++ t₂) ++ ((w₃ ++ l₃ ++ t₃) ++ e)))
regroup o w₁ l₁ t₁ w₂ l₂ t₂ w₃ l₃ t₃ e = simp append_assoc

pub framed_parts : (f : Format) (old new map : List ℕ) → framed f old new map ≡ head f ++ (part_of (codes "old ") old ++ (part_of (codes "new ") new ++ (part_of (codes "map ") map ++ codes "end\n")))
framed_parts f old new map =
    regroup (head f) (codes "old ") (number_line (length old)) old (codes "new ") (number_line (length new)) new (codes "map ") (number_line (length map)) map (codes "end\n")

pub file_from_framing : (bytes : List ℕ) → IsFraming bytes → IsFile bytes
file_from_framing bytes (f, (old, (new, (map, e)))) = (
  head f,
  (
    part_of (codes "old ") old ++ (part_of (codes "new ") new ++ (part_of (codes "map ") map ++ codes "end\n")),
    (
      (f, refl),
      (
        part_of (codes "old ") old,
        (
          part_of (codes "new ") new ++ (part_of (codes "map ") map ++ codes "end\n"),
          (
            (old, refl),
            (
              part_of (codes "new ") new,
              (
                part_of (codes "map ") map ++ codes "end\n",
                (
                  (new, refl),
                  (part_of (codes "map ") map, (codes "end\n", ((map, refl), refl, refl))),
                  refl,
                ),
              ),
            ),
            refl,
          ),
        ),
      ),
      e ∙ framed_parts f old new map,
    ),
  ),
)

pub framing_from_file : (bytes : List ℕ) → IsFile bytes → IsFraming bytes
framing_from_file bytes (a, (b, (ea, (c, (d, (oc, (f, (g, (nf, (h, (i, (mh, ei, eg))), ed))), eb))), e))) = (
  ea.0,
  (
    oc.0,
    (
      nf.0,
      (
        mh.0,
        e ∙ ap₂ (λ x y. x ++ y) ea.1 (eb ∙ ap₂ (λ x y. x ++ y) oc.1 (ed ∙ ap₂ (λ x y. x ++ y) nf.1 (eg ∙ ap₂ (λ x y. x ++ y) mh.1 ei)))
            ∙ sym (framed_parts ea.0 oc.0 nf.0 mh.0),
      ),
    ),
  ),
)

-- what a fault of a file says

begins_framing : (bytes : List ℕ) → Begins IsFile bytes → BeginsFraming bytes
begins_framing bytes (more, file) = (more, framing_from_file (bytes ++ more) file)

begins_none : (bytes : List ℕ) → NoneGoesOn IsFile bytes → ¬ (BeginsFraming bytes)
begins_none bytes none (more, framing) = none (bytes ++ more) more [] (file_from_framing (bytes ++ more) framing) (sym (append-nil (bytes ++ more)))

pub file_fault : (bytes : List ℕ) (f : FrameFault) → IsFaultOf IsFile 0 bytes f → IsFault bytes f
file_fault bytes Short (more, some, file) = (
  (more, framing_from_file (bytes ++ more) file),
  λ framing. some (append_cancel_left bytes more [] (sym (once_file bytes (bytes ++ more) more [] (file_from_framing bytes framing) file (sym (append-nil (bytes ++ more)))) ∙ sym (append-nil bytes))),
)
file_fault bytes (BadHead at) (i, is, (begins, none)) =
    let same : i ≡ at = omega arith in
    subst (λ (n : ℕ). IsBadAt n bytes) same (begins_framing (take i bytes) begins, begins_none (take (i + 1) bytes) none)

-- nothing stands behind a file
pub behind_file : (bytes w rest : List ℕ) → IsFile w → bytes ≡ w ++ rest → 0 < length rest → IsBadAt (length w) bytes
behind_file bytes w rest file whole some = (
  ([], subst IsFraming (sym front ∙ sym (append-nil (take (length w) bytes))) (framing_from_file w file)),
  longer,
)
  where
    front : take (length w) bytes ≡ w
    front = ap (take (length w)) whole ∙ take_at w rest (length w) refl

    further : take (length w + 1) bytes ≡ w ++ take 1 rest
    further = ap (take (length w + 1)) whole ∙ take-append-add w rest 1

    longer : BeginsFraming (take (length w + 1) bytes) → ⊥
    longer (more, framing) =
        let l = take (length w + 1) bytes ++ more in
        let same : w ≡ l = once_file w l (take 1 rest ++ more) [] file (file_from_framing l framing) (sym (append_assoc w (take 1 rest) more) ∙ ap (λ x. x ++ more) (sym further) ∙ sym (append-nil l)) in
        omega (arith, ap length same, length-append (take (length w + 1) bytes) more, ap length further, length-append w (take 1 rest), length-take 1 rest)

-- bytes begin with a file, or have a fault

answer_text : (line : List ℕ) → IsNumberLine line → (bytes : List ℕ) → Answer (IsSizedBy line) bytes
answer_text line (n, is) bytes = by (cases_lt (length bytes) n)
  where
    by : (length bytes < n) ⊎ (n ≤ length bytes) → Answer (IsSizedBy line) bytes
    by (inl short) = Fails Short (subst (λ (l : List ℕ). IsCut (IsSizedBy l) bytes) (sym is) (text_short n bytes short))
    by (inr long) = Whole (take n bytes) (drop n bytes) (is ∙ ap number_line (sym (length-take-le n bytes long))) (sym (take-append-drop n bytes))

answer_part : (word bytes : List ℕ) → Answer (IsPart word) bytes
answer_part word =
    answer_joined (IsPart word) (Is word) (λ a. IsSized) (part word) (answer_word word) (λ a is.
    answer_joined IsSized IsNumberLine IsSizedBy sized answer_line answer_text)

pub answer_file : (bytes : List ℕ) → Answer IsFile bytes
answer_file =
    answer_joined IsFile IsHead (λ a. IsFromOld) file_joined answer_head (λ a w.
    answer_joined IsFromOld (IsPart (codes "old ")) (λ a. IsFromNew) old_joined (answer_part (codes "old ")) (λ a w.
    answer_joined IsFromNew (IsPart (codes "new ")) (λ a. IsFromMap) new_joined (answer_part (codes "new ")) (λ a w.
    answer_joined IsFromMap (IsPart (codes "map ")) (λ a. IsFromEnd) map_joined (answer_part (codes "map ")) (λ a w. answer_word (codes "end\n")))))

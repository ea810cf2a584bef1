-- What is meant by the texts of a patch.
use Rattle.std.proofs.Common.{◌≡◌, ◌∙◌, ℕ, List, [], ◌∷◌, length, get_or, sym, ap, subst, arith}
use Rattle.std.specs.Prelude.{Result, Ok, Err, IfOk}
use Rattle.std.specs.declared.alloc.AllocError.{AllocError}
use Rattle.c_tree.specs.declared.lifted.Lifted.{Lifted}
use Rattle.c_tree.specs.declared.mapping.LEntry.{LEntry}
use Rattle.c_tree.specs.declared.mapping.Mapping.{Mapping}
use Rattle.c_tree.specs.declared.mapping.Patch as made
use Rattle.c_tree.specs.Canonical.{canonical_text}
use Rattle.patch_file.specs.Whole.{file_of}
use Rattle.patch_form.specs.declared.format.Format.TheVariants.{Two}
use Rattle.patch_form.specs.Framing.{framed}
use Rattle.patch_maker.specs.Made.{IsPatch}
use Rattle.answers.specs.Answer.{Answer}
use Rattle.upstare_cmd.specs.Asked.{names_of}
use Rattle.upstare_cmd.specs.Meaning.{Means, PatchMeans, entries_of}
use Rattle.upstare_cmd.specs.Parts.{OfEntries, OfTexts}
use Rattle.upstare_cmd.specs.Replies.{put_patch}
use Rattle.answers.specs.declared.answer.Answer as code
use Rattle.upstare_cmd.specs.declared.judged.Judged.TheVariants as judged
use Rattle.answers.specs.Views as view
use Rattle.upstare_cmd.specs.Views as inner
use Rattle.upstare_cmd.proofs.Judging.{of_patch, of_refused}
use Rattle.upstare_cmd.proofs.Meant.{texts_mean}
use Rattle.command_line.specs.Command.{Patch as ToPatch, PatchWords}

-- the bytes of a patch of two texts, by their programs and the entries of a mapping
file_is : (a b : List ℕ) (p q : Lifted) (m : Mapping) (x : made.Patch) → IsPatch a p b q m x → file_of x ≡ framed Two a b (canonical_text p q x.entries)
file_is a b p q m x is =
    ap (λ t. framed Two t x.new_text (canonical_text x.old x.new x.entries)) is.old_text
    ∙ ap (λ t. framed Two a t (canonical_text x.old x.new x.entries)) is.new_text
    ∙ ap (λ o. framed Two a b (canonical_text o x.new x.entries)) is.old
    ∙ ap (λ n. framed Two a b (canonical_text p n x.entries)) is.new

-- what is answered of a patch is the file of its texts and entries
abbrev Puts : PatchWords → List ℕ → List ℕ → Lifted → Lifted → List LEntry → Answer → Type 0
Puts words a b p q entries y = y ≡ put_patch words.output (framed Two a b (canonical_text p q entries))

puts : (words : PatchWords) (a b : List ℕ) (x : made.Patch) (p q : Lifted) (m : Mapping) (y : Answer) → IsPatch a p b q m x → y ≡ put_patch words.output (file_of x)
    → OfEntries words.map (λ entries. Puts words a b p q entries y) (entries_of p q m) y
puts words a b x p q m y is done =
    subst (λ r. OfEntries words.map (λ entries. Puts words a b p q entries y) r y) (sym is.entries.are) (done ∙ ap (put_patch words.output) (file_is a b p q m x is))

-- What a patch means, where the three texts have one.
pub patch_put : (words : PatchWords) (a b text : List ℕ) (x : made.Patch) (r : Result code.Answer AllocError) → inner.IsOfTexts (names_of words) a b text (judged.Patch x)
    → IfOk r (λ y. view.answer y ≡ put_patch words.output (file_of x)) → IfOk r (λ y. PatchMeans words a b text (view.answer y))
patch_put words a b text x (Ok y) of done =
    texts_mean (names_of words) a b text (Puts words a b) (view.answer y)
    (of_patch (names_of words) a b text x (λ p q r. OfEntries words.map (λ entries. Puts words a b p q entries (view.answer y)) r (view.answer y)) (view.answer y) of
    (λ p q m is. puts words a b x p q m (view.answer y) is done))
patch_put words a b text x (Err e) of done = tt

-- What a patch means, where one of the three texts is refused.
pub patch_refused : (words : PatchWords) (a b text : List ℕ) (y : Answer) → OfTexts (names_of words) a b text (λ p q r. inner.TurnsDownEntries words.map r y) y → PatchMeans words a b text y
patch_refused words a b text y down =
    texts_mean (names_of words) a b text (Puts words a b) y
    (of_refused (names_of words) a b text (λ p q r. OfEntries words.map (λ entries. Puts words a b p q entries y) r y) y (λ p q why is. is) down)

-- What three texts mean is what the command means.
three : (xs : List (List ℕ)) (x y z d e f : List ℕ) → length xs ≡ 3 → x ≡ get_or xs 0 d → y ≡ get_or xs 1 e → z ≡ get_or xs 2 f → xs ≡ x ∷ y ∷ z ∷ []
three [] x y z d e f n p q r = absurd (omega arith)
three (a ∷ []) x y z d e f n p q r = absurd (omega arith)
three (a ∷ b ∷ []) x y z d e f n p q r = absurd (omega arith)
three (a ∷ b ∷ c ∷ []) x y z d e f n p q r = λ i. sym p i ∷ sym q i ∷ sym r i ∷ []
three (a ∷ b ∷ c ∷ g ∷ rest) x y z d e f n p q r = absurd (omega arith)

pub means_three : (w : PatchWords) (texts : List (List ℕ)) (x y z d e f a b m : List ℕ) (r : Result code.Answer AllocError) → length texts ≡ 3
    → x ≡ get_or texts 0 d → y ≡ get_or texts 1 e → z ≡ get_or texts 2 f → a ≡ x → b ≡ y → m ≡ z → IfOk r (λ k. PatchMeans w a b m (view.answer k))
    → IfOk r (λ k. Means (ToPatch w) texts (view.answer k))
means_three w texts x y z d e f a b m r n p q s is_a is_b is_m meant =
    let all : texts ≡ a ∷ b ∷ m ∷ [] = three texts x y z d e f n p q s ∙ (λ i. sym is_a i ∷ sym is_b i ∷ sym is_m i ∷ []) in
    subst (λ (ts : List (List ℕ)). IfOk r (λ k. Means (ToPatch w) ts (view.answer k))) (sym all) meant

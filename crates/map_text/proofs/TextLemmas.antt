-- Texts of lists, and the text of a point's entry from its parts.
use Rattle.std.proofs.Common.{◌≡◌, ◌∙◌, ℕ, ◌+◌, ◌<◌, List, [], ◌∷◌, ◌++◌, length, get_or, take, Result, Ok, Err, OnOk, refl, sym, ap, append_assoc, arith}
use Rattle.std.specs.Prelude.{codes}
use Rattle.std.specs.List.{flat_map}
use Rattle.std.proofs.lemmas.List.{flat_map_more, take_more}
use Rattle.c_tree.specs.declared.lifted.Slot.{Slot}
use Rattle.c_tree.specs.declared.lifted.Lifted.{Lifted}
use Rattle.c_tree.specs.declared.mapping.LEntry.TheVariants.{Point}
use Rattle.c_tree.specs.declared.mapping.LFill.{LFill}
use Rattle.c_tree.specs.declared.mapping.LPart.{LPart}
use Rattle.c_tree.specs.Link.{Link}
use Rattle.c_tree.specs.MapExpr.{Reads}
use Rattle.c_tree.specs.Canonical.{fill_text, fills_text, parts_text, entry_text}
use Rattle.map_text.specs.Lines.{from}

-- what fills slots, where something does
pub some_fills : (r : Reads) (slots : List Slot) (fills : List LFill) → 0 < length fills → fills_text r slots fills ≡ codes " { " ++ flat_map (fill_text r slots) fills ++ codes "}"
some_fills r slots [] h = absurd (omega (arith, h))
some_fills r slots (x ∷ rest) h = refl

-- the items so far are written, with one more
pub written_more : {A : Type 0} (f : A → List ℕ) (xs : List A) (i : ℕ) (x : A) (start before after : List ℕ) → i < length xs → x ≡ get_or xs i x →
    before ≡ start ++ flat_map f (take i xs) → after ≡ before ++ f x → after ≡ start ++ flat_map f (take (i + 1) xs)
written_more f xs i x start before after l is so more =
    more ∙ (ap (λ z. z ++ f x) so ∙ (flat_map_more f start (take i xs) x
    ∙ ap (λ z. start ++ flat_map f z) (sym (take_more xs i x l ∙ ap (λ y. take i xs ++ y ∷ []) (sym is)))))

three : (out a b c : List ℕ) → ((out ++ a) ++ b) ++ c ≡ out ++ ((a ++ b) ++ c)
three out a b c = append_assoc (out ++ a) b c ∙ (append_assoc out a (b ++ c) ∙ ap (λ z. out ++ z) (sym (append_assoc a b c)))

-- the old side, the arrow and the parts make the entry
pub point_appended : {T E : Type 0} (r : Result T E) (k : Link) (f n : ℕ) (parts : List LPart) (old : Lifted) (out first second last : List ℕ) →
    old ≡ k.old → first ≡ out ++ from old f n → second ≡ first ++ codes " -> " → OnOk r (last ≡ second ++ parts_text k f parts) → OnOk r (last ≡ out ++ entry_text k (Point f n parts))
point_appended (Ok x) k f n parts old out first second last is a b e =
    e
    ∙ (ap (λ z. z ++ parts_text k f parts) (b ∙ ap (λ z. z ++ codes " -> ") (a ∙ ap (λ p. out ++ from p f n) is))
    ∙ three out (from k.old f n) (codes " -> ") (parts_text k f parts))
point_appended (Err x) k f n parts old out first second last is a b e = tt

-- Entries clash where they are about one thing.
use Rattle.std.proofs.Common.{◌≡◌, Bool, true, false, List, [], ◌∷◌, ◌++◌, Some, None, refl, sym, ◌∙◌, ap}
use Rattle.std.specs.Prelude.{◌&&◌, ◌||◌, ◌==◌}
use Rattle.std.specs.List.{list_any}
use Rattle.std.specs.HashSet.{HashSet}
use Rattle.std.specs.declared.hash.FoldHasher.{FoldHasher}
use Rattle.std.specs.declared.hash.BuildHasherDefault.{BuildHasherDefault}
use Rattle.std.proofs.lemmas.List.Folds.{list_any-append}
use Rattle.c_tree.specs.declared.mapping.LEntry.{LEntry}
use Rattle.c_tree.specs.declared.mapping.LEntry.TheVariants as l
use Rattle.c_tree.specs.Sound.{numbers_clash}
use Rattle.patch_match.proofs.AnyLemmas.{any_either}
use Rattle.patch_maker.specs.declared.subjects.Subject.{Subject}
use Rattle.patch_maker.specs.Subjects.{first_subject, second_subject, is_subject, is_about, is_about_some, AreSubjects, Adds}

alone : (p : Bool) → p ≡ (p || false) || false
alone true = refl
alone false = refl

old_side : (k p : Bool) → k && (p || false) ≡ (k && p || false) || false
old_side true true = refl
old_side true false = refl
old_side false p = refl

both_sides : (k p q : Bool) → k && (p || q) ≡ (k && p || false) || (false || k && q)
both_sides true true q = refl
both_sides true false q = refl
both_sides false p q = refl

-- entries clash where one is about a subject of the other
pub clash_is : (x y : LEntry) → numbers_clash x y ≡ is_about_some (first_subject x) y || is_about_some (second_subject x) y
clash_is (l.Match i a None) (l.Match j x None) = old_side (i == j) (a == x)
clash_is (l.Match i a None) (l.Match j x (Some y)) = old_side (i == j) (a == x)
clash_is (l.Match i a None) (l.Field owner f e) = refl
clash_is (l.Match i a None) (l.Init g e) = refl
clash_is (l.Match i a None) (l.Point f n parts) = refl
clash_is (l.Match i a None) (l.Check e) = refl
clash_is (l.Match i a (Some b)) (l.Match j x None) = old_side (i == j) (a == x)
clash_is (l.Match i a (Some b)) (l.Match j x (Some y)) = both_sides (i == j) (a == x) (b == y)
clash_is (l.Match i a (Some b)) (l.Field owner f e) = refl
clash_is (l.Match i a (Some b)) (l.Init g e) = refl
clash_is (l.Match i a (Some b)) (l.Point f n parts) = refl
clash_is (l.Match i a (Some b)) (l.Check e) = refl
clash_is (l.Field s i e) (l.Match j x None) = refl
clash_is (l.Field s i e) (l.Match j x (Some y)) = refl
clash_is (l.Field s i e) (l.Field t j d) = alone (s == t && i == j)
clash_is (l.Field s i e) (l.Init g d) = refl
clash_is (l.Field s i e) (l.Point f n parts) = refl
clash_is (l.Field s i e) (l.Check d) = refl
clash_is (l.Init g e) (l.Match j x None) = refl
clash_is (l.Init g e) (l.Match j x (Some y)) = refl
clash_is (l.Init g e) (l.Field t j d) = refl
clash_is (l.Init g e) (l.Init h d) = alone (g == h)
clash_is (l.Init g e) (l.Point f n parts) = refl
clash_is (l.Init g e) (l.Check d) = refl
clash_is (l.Point f n parts) (l.Match j x None) = refl
clash_is (l.Point f n parts) (l.Match j x (Some y)) = refl
clash_is (l.Point f n parts) (l.Field t j d) = refl
clash_is (l.Point f n parts) (l.Init g d) = refl
clash_is (l.Point f n parts) (l.Point g p others) = alone (f == g && n == p)
clash_is (l.Point f n parts) (l.Check d) = refl
clash_is (l.Check e) (l.Match j x b) = refl
clash_is (l.Check e) (l.Field t j d) = refl
clash_is (l.Check e) (l.Init g d) = refl
clash_is (l.Check e) (l.Point f n parts) = refl
clash_is (l.Check e) (l.Check d) = refl

-- so does one of many
pub any_clash : (x : LEntry) (es : List LEntry) →
    list_any (numbers_clash x) es ≡ list_any (is_about_some (first_subject x)) es || list_any (is_about_some (second_subject x)) es
any_clash x es = any_either (numbers_clash x) (is_about_some (first_subject x)) (is_about_some (second_subject x)) (clash_is x) es

-- nothing is no subject
pub about_none : (es : List LEntry) → false ≡ list_any (is_about_some None) es
about_none [] = refl
about_none (e ∷ es) = about_none es

-- the subjects of one entry are added
pub noted : (old mid new : HashSet Subject (BuildHasherDefault FoldHasher)) (e : LEntry) (es : List LEntry) →
    Adds old (first_subject e) mid → Adds mid (second_subject e) new → AreSubjects old es → AreSubjects new (es ++ e ∷ [])
noted old mid new e es first second h x =
    second x
    ∙ (ap (λ b. is_subject x (second_subject e) || b) (first x ∙ ap (λ b. is_subject x (first_subject e) || b) (h x))
    ∙ (turn (is_subject x (first_subject e)) (is_subject x (second_subject e)) (list_any (is_about x) es) ∙ sym (list_any-append (is_about x) es (e ∷ [])))) where
      turn : (p q b : Bool) → q || (p || b) ≡ b || ((p || q) || false)
      turn true true true = refl
      turn true true false = refl
      turn true false true = refl
      turn true false false = refl
      turn false true true = refl
      turn false true false = refl
      turn false false true = refl
      turn false false false = refl

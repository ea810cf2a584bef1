-- The words of the grammar are those of the tokens.
use Rattle.std.proofs.Common.{◌≡◌, ℕ, List, [], ◌∷◌, ◌++◌, map, take, drop, Bool, true, false, refl, sym, ◌∙◌, ap, subst, ◌↔◌}
use Rattle.std.specs.Prelude.{◌||◌, ◌&&◌, not, nat_eq, if◌then◌else◌}
use Rattle.std.specs.List.{list_all, list_any}
use Rattle.std.specs.Str.{bytes_eq}
use Rattle.std.proofs.Common.{eqb-true}
use Rattle.std.specs.Bool.{Decides}
use Rattle.std.proofs.lemmas.Slice.Eq.{bytes_eq-Decides}
use Rattle.c_tokens.specs.Word.{keywords, left_out_words, is_among, is_name, is_left_out}
use Rattle.c_grammar.specs.declared.kind.Kind.{Kind}
use Rattle.c_grammar.specs.declared.kind.Kind.TheVariants as kind
use Rattle.c_grammar.specs.SameWords.{SameWords}
use Rattle.c_grammar.specs.Tokens.{kind_in, word_kind}
use Rattle.c_grammar.specs.Words.{Entry, words}

-- a name, a left-out word, or a word with a meaning
abbrev sort : Kind → ℕ
sort kind.Name = 0
sort kind.LeftOut = 1
sort _ = 2

abbrev are : ℕ → List Entry → Bool
are n entries = list_all (λ e. nat_eq (sort e.kind) n) entries

found : (n : ℕ) (entries rest : List Entry) (word : List ℕ) → are n entries ≡ true → is_among (map (λ e. e.text) entries) word ≡ true → sort (kind_in (entries ++ rest) word) ≡ n
found n [] rest word h a = cc
found n (e ∷ entries) rest word h a = go (bytes_eq e.text word) a (nat_eq (sort e.kind) n) refl h (found n entries rest word)
  where
    go : (b : Bool) → b || is_among (map (λ e. e.text) entries) word ≡ true → (c : Bool) → nat_eq (sort e.kind) n ≡ c → c && are n entries ≡ true
        → (are n entries ≡ true → is_among (map (λ e. e.text) entries) word ≡ true → sort (kind_in (entries ++ rest) word) ≡ n)
        → sort (if b then e.kind else kind_in (entries ++ rest) word) ≡ n
    go b x false s h ih = cc
    go true x true s h ih = eqb-true _ _ s
    go false x true s h ih = ih h x

passed : (entries rest : List Entry) (word : List ℕ) → is_among (map (λ e. e.text) entries) word ≡ false → kind_in (entries ++ rest) word ≡ kind_in rest word
passed [] rest word a = refl
passed (e ∷ entries) rest word a = go (bytes_eq e.text word) a (passed entries rest word)
  where
    go : (b : Bool) → b || is_among (map (λ e. e.text) entries) word ≡ false
        → (is_among (map (λ e. e.text) entries) word ≡ false → kind_in (entries ++ rest) word ≡ kind_in rest word)
        → (if b then e.kind else kind_in (entries ++ rest) word) ≡ kind_in rest word
    go true x ih = cc
    go false x ih = ih x

parts : words ≡ take 25 words ++ (drop 25 words ++ [])
unfolding words
parts = refl

meant : map (λ e. e.text) (take 25 words) ≡ keywords
unfolding words
meant = refl

meant_sort : are 2 (take 25 words) ≡ true
unfolding words
meant_sort = refl

left : map (λ e. e.text) (drop 25 words) ≡ left_out_words
unfolding words
left = refl

left_sort : are 1 (drop 25 words) ≡ true
unfolding words
left_sort = refl

-- the kind of a word, by the two lists
in_parts : (word : List ℕ) → word_kind word ≡ kind_in (take 25 words ++ (drop 25 words ++ [])) word
unfolding word_kind
in_parts word = ap (λ x. kind_in x word) parts

kind_meant : (word : List ℕ) → is_among keywords word ≡ true → sort (word_kind word) ≡ 2
kind_meant word a = ap sort (in_parts word) ∙ found 2 (take 25 words) (drop 25 words ++ []) word meant_sort (subst (λ x. is_among x word ≡ true) (sym meant) a)

kind_behind : (word : List ℕ) → is_among keywords word ≡ false → word_kind word ≡ kind_in (drop 25 words ++ []) word
kind_behind word a = in_parts word ∙ passed (take 25 words) (drop 25 words ++ []) word (subst (λ x. is_among x word ≡ false) (sym meant) a)

kind_left : (word : List ℕ) → is_among keywords word ≡ false → is_left_out word ≡ true → sort (word_kind word) ≡ 1
kind_left word a b = ap sort (kind_behind word a) ∙ found 1 (drop 25 words) [] word left_sort (subst (λ x. is_among x word ≡ true) (sym left) b)

kind_name : (word : List ℕ) → is_among keywords word ≡ false → is_left_out word ≡ false → word_kind word ≡ kind.Name
kind_name word a b = kind_behind word a ∙ passed (drop 25 words) [] word (subst (λ x. is_among x word ≡ false) (sym left) b)

name_is : (word : List ℕ) (n : ℕ) → sort (word_kind word) ≡ n → word_kind word ≡ kind.Name → n ≡ 0
name_is word n s e = sym s ∙ ap sort e

left_is : (word : List ℕ) (n : ℕ) → sort (word_kind word) ≡ n → word_kind word ≡ kind.LeftOut → n ≡ 1
left_is word n s e = sym s ∙ ap sort e

sort_left : (k : Kind) → sort k ≡ 1 → k ≡ kind.LeftOut
sort_left kind.LeftOut e = refl
sort_left k e = cc

names : (word : List ℕ) (a b : Bool) → is_among keywords word ≡ a → is_left_out word ≡ b → (not (a || b) ≡ true) ↔ (word_kind word ≡ kind.Name)
names word true b e f = (λ h. cc, λ h. let z : 2 ≡ 0 = name_is word 2 (kind_meant word e) h in cc)
names word false true e f = (λ h. cc, λ h. let z : 1 ≡ 0 = name_is word 1 (kind_left word e f) h in cc)
names word false false e f = (λ h. kind_name word e f, λ h. refl)

-- No word is in both lists.
apart_in : (ws : List (List ℕ)) (word : List ℕ) → list_all (λ w. not (is_among keywords w)) ws ≡ true → is_among ws word ≡ true → is_among keywords word ≡ false
apart_in [] word h a = cc
apart_in (w ∷ ws) word h a = go (bytes_eq w word) (bytes_eq-Decides w word) a (is_among keywords w) refl h (apart_in ws word)
  where
    go : (b : Bool) → Decides b (w ≡ word) → b || is_among ws word ≡ true → (c : Bool) → is_among keywords w ≡ c → not c && list_all (λ w. not (is_among keywords w)) ws ≡ true
        → (list_all (λ w. not (is_among keywords w)) ws ≡ true → is_among ws word ≡ true → is_among keywords word ≡ false) → is_among keywords word ≡ false
    go b d x true e h ih = cc
    go true d x false e h ih = subst (λ y. is_among keywords y ≡ false) (d.0 refl) e
    go false d x false e h ih = ih h x

apart : (word : List ℕ) → is_among keywords word ≡ true → is_left_out word ≡ true → ⊥
apart word e f = let g : is_among keywords word ≡ false = apart_in left_out_words word refl f in let d : true ≡ false = sym e ∙ g in cc

left_outs : (word : List ℕ) (a b : Bool) → is_among keywords word ≡ a → is_left_out word ≡ b → (b ≡ true) ↔ (word_kind word ≡ kind.LeftOut)
left_outs word true b e f = (λ h. absurd (apart word e (f ∙ h)), λ h. let z : 2 ≡ 1 = left_is word 2 (kind_meant word e) h in cc)
left_outs word false true e f = (λ h. sort_left _ (kind_left word e f), λ h. refl)
left_outs word false false e f = (λ h. cc, λ h. let z : 0 ≡ 1 = left_is word 0 (ap sort (kind_name word e f)) h in cc)

pub same_words : SameWords
same_words = record {
  names = λ word. names word (is_among keywords word) (is_left_out word) refl refl;
  left_out = λ word. left_outs word (is_among keywords word) (is_left_out word) refl refl;
}

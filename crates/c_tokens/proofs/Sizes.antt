-- What stands at the front has at least one byte, and no more than there are.
use Rattle.std.proofs.Common.{◌≡◌, ℕ, ◌+◌, ◌<◌, ◌≤◌, Bool, true, false, List, [], ◌∷◌, length, take, drop, refl, ap, subst, arith, length-drop, length-take-le, suc, length-take}
use Rattle.std.specs.Prelude.{Option, Some, None, IfSome, IfOk, Result, Ok, Err, ◌&&◌, ◌||◌, ◌==◌, not, nat_eq, nat_le, option_map, if◌then◌else◌, codes, find}
use Rattle.std.specs.List.{prefix_len, starts_with, list_all}
use Rattle.std.specs.Cmp.Lexicographic.{as_long}
use Rattle.std.proofs.lemmas.List.Sums.{prefix_len-le-length}
use Rattle.std.proofs.lemmas.Bool.Decides.{nat_tests}
use Rattle.c_tree.specs.declared.cause.ReadCause.{ReadCause}
use Rattle.c_tokens.specs.declared.class.Class.{Class}
use Rattle.c_tokens.specs.declared.class.Class.TheVariants as class
use Rattle.c_tokens.specs.declared.quoted.Quoted.{Quoted}
use Rattle.c_tokens.specs.declared.quoted.Quoted.TheVariants as q
use Rattle.c_tokens.specs.declared.front.Front.{Front}
use Rattle.c_tokens.specs.Byte.{is_blank, is_digit, is_letter, is_name_byte, class_of, name_run}
use Rattle.c_tokens.specs.Literal.{literal}
use Rattle.c_tokens.specs.Quoted.{escapes, closes, up_to_quote, text_of, closed, closed_at, constant}
use Rattle.c_tokens.specs.Operator.{operator, longest_first, longest}
use Rattle.c_tokens.specs.Comment.{up_to_close}
use Rattle.c_tokens.specs.Front.{size_of, word, number, string, single, character, block, punct, sign, of_class, front_of}

pub record Fits (n len : ℕ) : Type 0 where
  pub some : 1 ≤ n
  pub within : n ≤ len

fits : (n len : ℕ) → 1 ≤ n → n ≤ len → Fits n len
fits n len some within = record { some = some; within = within }

pub starts_within : (xs needle : List ℕ) → starts_with nat_eq xs needle ≡ true → length needle ≤ length xs
starts_within xs needle is = omega (arith, as_long nat_eq needle (take (length needle) xs) is, length-take (length needle) xs)

run_fits : (p : ℕ → Bool) (b : ℕ) (rest : List ℕ) → p b ≡ true → Fits (prefix_len p (b ∷ rest)) (length (b ∷ rest))
run_fits p b rest is = fits _ _ (rw is (omega arith)) (prefix_len-le-length p (b ∷ rest))

number_fits : (r : Result ℕ ReadCause) (n len : ℕ) → Fits n len → 1 ≤ len → Fits (size_of (number r n)) len
number_fits (Ok x) n len f some = f
number_fits (Err why) n len f some = fits _ _ (omega arith) some

chosen_fits : (test : Bool) (f g : Front) (len : ℕ) → (test ≡ true → Fits (size_of f) len) → (test ≡ false → Fits (size_of g) len) → Fits (size_of (if test then f else g)) len
chosen_fits true f g len then_ else_ = then_ refl
chosen_fits false f g len then_ else_ = else_ refl

word_fits : (run : List ℕ) (len : ℕ) → Fits (length run) len → 1 ≤ len → Fits (size_of (word run)) len
word_fits run len f some = chosen_fits (nat_le (length run) 64) _ _ len (λ _. f) (λ _. fits _ _ (omega arith) some)

one_more : (o : Option ℕ) (m : ℕ) → IfSome o (λ n. n < m) → IfSome (option_map (λ n. 1 + n) o) (λ n. n < suc m)
one_more None m within = tt
one_more (Some n) m within = omega arith

if_some : (test : Bool) (o p : Option ℕ) (P : ℕ → Type 0) → IfSome o P → IfSome p P → IfSome (if test then o else p) P
if_some true o p P then_ else_ = then_
if_some false o p P then_ else_ = else_

up_to_quote_within : (quote : ℕ) (escaped : Bool) (rest : List ℕ) → IfSome (up_to_quote quote escaped rest) (λ n. n < length rest)
unfolding up_to_quote
up_to_quote_within quote escaped [] = tt
up_to_quote_within quote escaped (b ∷ rest) =
    if_some (b == 10) None _ (λ n. n < suc (length rest)) tt
    (if_some (closes quote escaped b) (Some 0) _ (λ n. n < suc (length rest)) (omega arith)
    (one_more (up_to_quote quote (escapes escaped b) rest) (length rest) (up_to_quote_within quote (escapes escaped b) rest)))

more_within : (o : Option ℕ) (m : ℕ) → IfSome o (λ n. n ≤ m) → IfSome (option_map (λ n. 1 + n) o) (λ n. n ≤ suc m)
more_within None m within = tt
more_within (Some n) m within = omega arith

if_some_so : (test : Bool) (o p : Option ℕ) (P : ℕ → Type 0) → (test ≡ true → IfSome o P) → IfSome p P → IfSome (if test then o else p) P
if_some_so true o p P then_ else_ = then_ refl
if_some_so false o p P then_ else_ = else_

up_to_close_within : (bytes : List ℕ) → IfSome (up_to_close bytes) (λ n. n ≤ length bytes)
unfolding up_to_close
up_to_close_within [] = tt
up_to_close_within (b ∷ rest) =
    if_some_so (starts_with nat_eq (b ∷ rest) (codes "*/")) (Some 2) _ (λ n. n ≤ suc (length rest)) (λ is. starts_within (b ∷ rest) (codes "*/") is)
    (more_within (up_to_close rest) (length rest) (up_to_close_within rest))

-- a constant has both its quotes
abbrev QuotedFits : Quoted → ℕ → Type 0
QuotedFits q.Open len = Unit {0}
QuotedFits q.Wrong len = Unit {0}
QuotedFits (q.Closed text n) len = Fits n len

closed_fits : (t : Option (List ℕ)) (n len : ℕ) → Fits n len → QuotedFits (closed t n) len
closed_fits None n len f = tt
closed_fits (Some text) n len f = f

closed_at_fits : (o : Option ℕ) (rest : List ℕ) → IfSome o (λ n. n < length rest) → QuotedFits (closed_at o rest) (suc (length rest))
closed_at_fits None rest within = tt
closed_at_fits (Some n) rest within = closed_fits (text_of false (take n rest)) (n + 2) _ (fits _ _ (omega arith) (omega arith))

constant_fits : (quote : ℕ) (rest : List ℕ) → QuotedFits (constant quote rest) (suc (length rest))
constant_fits quote rest = closed_at_fits (up_to_quote quote false rest) rest (up_to_quote_within quote false rest)

string_fits : (k : Quoted) (len : ℕ) → QuotedFits k len → 1 ≤ len → Fits (size_of (string k)) len
string_fits q.Open len f some = fits _ _ (omega arith) some
string_fits q.Wrong len f some = fits _ _ (omega arith) some
string_fits (q.Closed text n) len f some = f

single_fits : (text : List ℕ) (n len : ℕ) → Fits n len → 1 ≤ len → Fits (size_of (single text n)) len
single_fits [] n len f some = fits _ _ (omega arith) some
single_fits (c ∷ []) n len f some = f
single_fits (c ∷ d ∷ rest) n len f some = fits _ _ (omega arith) some

character_fits : (k : Quoted) (len : ℕ) → QuotedFits k len → 1 ≤ len → Fits (size_of (character k)) len
character_fits q.Open len f some = fits _ _ (omega arith) some
character_fits q.Wrong len f some = fits _ _ (omega arith) some
character_fits (q.Closed text n) len f some = single_fits text n len f some

block_fits : (o : Option ℕ) (len : ℕ) → IfSome o (λ n. n + 2 ≤ len) → 1 ≤ len → Fits (size_of (block o)) len
block_fits None len within some = fits _ _ (omega arith) some
block_fits (Some n) len within some = fits _ _ (omega arith) (omega arith)

-- what is found passes, and what all pass it passes
found : {A : Type 0} (test : Bool) (x : A) (o : Option A) (P : A → Type 0) → (test ≡ true → P x) → IfSome o P → IfSome (if test then Some x else o) P
found true x o P here later = here refl
found false x o P here later = later

pub found_passes : {A : Type 0} (p : A → Bool) (xs : List A) → IfSome (find p xs) (λ x. p x ≡ true)
found_passes p [] = tt
found_passes p (x ∷ xs) = found (p x) x (find p xs) (λ y. p y ≡ true) (λ is. is) (found_passes p xs)

pub both : (a b : Bool) → (a && b) ≡ true → (a ≡ true) × (b ≡ true)
both true b is = (refl, is)
both false b is = cc

found_among : (p also : ℕ → Bool) (xs : List ℕ) → list_all also xs ≡ true → IfSome (find p xs) (λ x. also x ≡ true)
found_among p also [] all = tt
found_among p also (x ∷ xs) all =
    let parts = both (also x) (list_all also xs) all in
    found (p x) x (find p xs) (λ y. also y ≡ true) (λ is. parts.0) (found_among p also xs parts.1)

punct_fits : (o : Option ℕ) (bytes : List ℕ) → IfSome o (λ place. starts_with nat_eq bytes (operator place) ≡ true) → IfSome o (λ place. nat_le 1 (length (operator place)) ≡ true) → 1 ≤ length bytes → Fits (size_of (punct o)) (length bytes)
punct_fits None bytes begins long some = fits _ _ (omega arith) some
punct_fits (Some place) bytes begins long some = fits _ _ (grind (arith, nat_tests)) (starts_within bytes (operator place) begins)

-- what a class says of its byte
pick : Bool → Bool → Bool → Bool → Bool → Class
pick blank digit letter quote apostrophe =
    if blank then class.Blank else if digit then class.Digit else if letter then class.Letter else if quote then class.Quote else if apostrophe then class.Apostrophe else class.Sign

ClassSays : Class → Bool → Bool → Bool → Type 0
ClassSays class.Blank blank digit letter = Unit {0}
ClassSays class.Digit blank digit letter = digit ≡ true
ClassSays class.Letter blank digit letter = letter ≡ true
ClassSays class.Quote blank digit letter = Unit {0}
ClassSays class.Apostrophe blank digit letter = Unit {0}
ClassSays class.Sign blank digit letter = blank ≡ false

picked : (blank digit letter quote apostrophe : Bool) → ClassSays (pick blank digit letter quote apostrophe) blank digit letter
unfolding pick ClassSays
picked true digit letter quote apostrophe = tt
picked false true letter quote apostrophe = refl
picked false false true quote apostrophe = refl
picked false false false true apostrophe = tt
picked false false false false true = tt
picked false false false false false = refl

class_says : (b : ℕ) (k : Class) → class_of b ≡ k → ClassSays k (is_blank b) (is_digit b) (is_letter b)
unfolding pick
class_says b k is = subst (λ j. ClassSays j (is_blank b) (is_digit b) (is_letter b)) is (picked (is_blank b) (is_digit b) (is_letter b) (b == 34) (b == 39))

or_right : (a b : Bool) → b ≡ true → (a || b) ≡ true
or_right true b is = refl
or_right false b is = is

or_left : (a b : Bool) → a ≡ true → (a || b) ≡ true
or_left true b is = refl
or_left false b is = cc

neither : (a b : Bool) → (a || b) ≡ false → b ≡ false
neither true b is = cc
neither false b is = is

pub if_some_weaker : (o : Option ℕ) (P Q : ℕ → Type 0) → ((n : ℕ) → P n → Q n) → IfSome o P → IfSome o Q
if_some_weaker None P Q weaker is = tt
if_some_weaker (Some n) P Q weaker is = weaker n is

sign_fits : (b : ℕ) (rest : List ℕ) → is_blank b ≡ false → Fits (size_of (sign (b ∷ rest))) (length (b ∷ rest))
sign_fits b rest is =
    let bytes = b ∷ rest in
    let visible : not (b == 10) ≡ true = ap not (neither _ (b == 10) is) in
    chosen_fits (starts_with nat_eq bytes (codes "//")) _ _ (length bytes)
    (λ _. run_fits (λ c. not (c == 10)) b rest visible)
    (λ _. chosen_fits (starts_with nat_eq bytes (codes "/*")) _ _ (length bytes)
    (λ open_. block_fits (up_to_close (drop 2 bytes)) (length bytes)
    (if_some_weaker (up_to_close (drop 2 bytes)) (λ n. n ≤ length (drop 2 bytes)) (λ n. n + 2 ≤ length bytes) (λ n within. omega (arith, length-drop 2 bytes, starts_within bytes (codes "/*") open_)) (up_to_close_within (drop 2 bytes)))
    (omega arith))
    (λ _. punct_fits (longest bytes) bytes (found_passes (λ place. starts_with nat_eq bytes (operator place)) longest_first) (found_among (λ place. starts_with nat_eq bytes (operator place)) (λ place. nat_le 1 (length (operator place))) longest_first refl) (omega arith)))

of_class_fits : (k : Class) (b : ℕ) (rest : List ℕ) → ClassSays k (is_blank b) (is_digit b) (is_letter b) → Fits (size_of (of_class k (b ∷ rest))) (length (b ∷ rest))
unfolding ClassSays
of_class_fits class.Blank b rest says = fits _ _ (omega arith) (omega arith)
of_class_fits class.Digit b rest says =
    let run = run_fits is_name_byte b rest (or_right (is_letter b) (is_digit b) says) in
    number_fits (literal (take (name_run (b ∷ rest)) (b ∷ rest))) (name_run (b ∷ rest)) (length (b ∷ rest)) run (omega arith)
of_class_fits class.Letter b rest says =
    let run = run_fits is_name_byte b rest (or_left (is_letter b) (is_digit b) says) in
    let len = length-take-le (name_run (b ∷ rest)) (b ∷ rest) run.within in
    word_fits (take (name_run (b ∷ rest)) (b ∷ rest)) (length (b ∷ rest)) (rw len run) (omega arith)
of_class_fits class.Quote b rest says = string_fits (constant 34 rest) (suc (length rest)) (constant_fits 34 rest) (omega arith)
of_class_fits class.Apostrophe b rest says = character_fits (constant 39 rest) (suc (length rest)) (constant_fits 39 rest) (omega arith)
of_class_fits class.Sign b rest says = sign_fits b rest says

pub front_fits : (b : ℕ) (rest : List ℕ) → Fits (size_of (front_of (b ∷ rest))) (length (b ∷ rest))
front_fits b rest = of_class_fits (class_of b) b rest (class_says b (class_of b) refl)

pub at_most : (bytes : List ℕ) → size_of (front_of bytes) ≤ length bytes
at_most [] = omega arith
at_most (b ∷ rest) = (front_fits b rest).within

pub result_within : {E : Type 0} (r : Result Front E) (bytes : List ℕ) → IfOk r (λ f. f ≡ front_of bytes) → IfOk r (λ f. size_of f ≤ length bytes)
result_within (Ok f) bytes is = rw is (at_most bytes)
result_within (Err e) bytes is = tt

-- The numbers of the functions, by their names, and that each goes to the one of the same number.
use Rattle.std.proofs.Common.{◌≡◌, ◌⊎◌, inl, inr, ℕ, zero, suc, ◌+◌, ◌-◌, ◌<◌, ◌≤◌, ◌^◌, Bool, true, false, cond, List, [], ◌∷◌, ◌++◌, Option, Some, None, refl, sym, ap, ◌∙◌, arith, codes, map}
use Rattle.std.proofs.lemmas.Bool.{cases_lt}
use Rattle.std.specs.Prelude.{slice_get, not, if◌then◌else◌}
use Rattle.std.specs.Option.{option_flatten}
use Rattle.std.specs.Fmt.{decimal}
use Rattle.std.specs.List.{range_with_len, enumerate_from, position_from}
use Rattle.std.specs.Str.Parse.{digits_value}
use Rattle.std.proofs.lemmas.Option.{get_or_from_slice_get}
use Rattle.std.proofs.lemmas.Fmt.{decimal_is_IsNumeral}
use Rattle.c_tree.specs.declared.lifted.Lifted.{Lifted}
use Rattle.c_tree.specs.declared.lifted.LFunction.{LFunction}
use Rattle.c_tree.specs.declared.lifted.Slot.{Slot}
use Rattle.c_tree.specs.Scope.{is_same_name}
use Rattle.c_tree.specs.StartForm.{is_start}
use Rattle.c_tree.specs.Step.{function_of}
use Rattle.c_tree.specs.Names.{find_name, names_in}
use Rattle.c_tree.specs.Link.{Link, match_of, unclaimed, match_at, start_alike}
use Rattle.patch_laws.proofs.Numbers.{own_name, number_at}
use Rattle.patch_laws.proofs.LiftedLink.{built}
use Rattle.lift_laws.proofs.ApartLemmas.{unlike}
use Rattle.load_laws.proofs.Programs.{function_name, first_lifted, next_lifted, work_lifted, main_lifted, program}

-- Numbers have different names.
same_decimal : (k j : ℕ) → k < 2 ^ 64 → j < 2 ^ 64 → decimal k ≡ decimal j → k ≡ j
same_decimal k j small less e = sym (decimal_is_IsNumeral k small).1 ∙ (ap (λ ds. digits_value 10 ds) e ∙ (decimal_is_IsNumeral j less).1)

name_tail : List ℕ → List ℕ
name_tail [] = []
name_tail (b ∷ bytes) = bytes

pub other_function : (k j : ℕ) → k < 2 ^ 64 → j < 2 ^ 64 → (k ≡ j → ⊥) → is_same_name (function_name k) (function_name j) ≡ false
unfolding name_tail
other_function k j small less other = unlike (function_name k) (function_name j) (λ e. other (same_decimal k j small less (ap name_tail e)))

-- The names of all functions.
abbrev pub names : ℕ → List (List ℕ)
names m = function_name 1 ∷ (map function_name (range_with_len 2 m) ++ codes "work" ∷ codes "main" ∷ [])

names_after : (locals : List Slot) (a m : ℕ) (rest : List LFunction)
    → map (λ f. f.name) (map (next_lifted locals) (range_with_len a m) ++ rest) ≡ map function_name (range_with_len a m) ++ map (λ f. f.name) rest
names_after locals a zero rest = refl
names_after locals a (suc m) rest = ap (λ xs. function_name a ∷ xs) (names_after locals (a + 1) m rest)

pub names_are : (locals : List Slot) (word : List ℕ) (n : ℕ) → names_in (program locals word n) 0 ≡ names (n - 1)
names_are locals word n = ap (λ xs. function_name 1 ∷ xs) (names_after locals 2 (n - 1) (work_lifted n ∷ main_lifted word n ∷ []))

-- what is found behind an item that does not pass, and at one that does
abbrev Found : Bool → ℕ → Option ℕ → Option ℕ
Found b i rest = cond b (Some i) rest

found_after : (a m b k : ℕ) (rest : List (List ℕ)) → a ≤ k → k < a + m → k < 2 ^ 64
    → position_from (is_same_name (function_name k)) b (map function_name (range_with_len a m) ++ rest) ≡ Some (b + (k - a))
found_after a zero b k rest le lt small = absurd (omega (arith, le, lt))
found_after a (suc m) b k rest le lt small = go (cases_lt a k) (λ less. found_after (a + 1) m (b + 1) k rest less (omega (arith, lt)) small)
  where
    more : List (List ℕ)
    more = map function_name (range_with_len (a + 1) m) ++ rest

    go : (a < k) ⊎ (k ≤ a) → (a + 1 ≤ k → position_from (is_same_name (function_name k)) (b + 1) more ≡ Some (b + 1 + (k - (a + 1))))
        → position_from (is_same_name (function_name k)) b (function_name a ∷ more) ≡ Some (b + (k - a))
    go (inl less) next =
        let sum : b + 1 + (k - (a + 1)) ≡ b + (k - a) = omega (arith, less) in
        ap (λ t. Found t b (position_from (is_same_name (function_name k)) (b + 1) more)) (other_function k a small (omega (arith, less, small)) (λ e. omega (arith, e, less)))
        ∙ (next (omega (arith, less)) ∙ ap (λ i. Some i) sum)
    go (inr ge) next =
        let same : a ≡ k = omega (arith, le, ge) in
        let sum : b ≡ b + (k - a) = omega (arith, same) in
        ap (λ t. Found t b (position_from (is_same_name (function_name k)) (b + 1) more)) (ap (λ j. is_same_name (function_name k) (function_name j)) same ∙ own_name (function_name k))
        ∙ ap (λ i. Some i) sum

main_after : (a m b : ℕ) → position_from (is_same_name (codes "main")) b (map function_name (range_with_len a m) ++ codes "work" ∷ codes "main" ∷ []) ≡ Some (b + m + 1)
main_after a zero b = let sum : b + 1 ≡ b + 0 + 1 = omega arith in ap (λ i. Some i) sum
main_after a (suc m) b = let sum : b + 1 + m + 1 ≡ b + suc m + 1 = omega arith in main_after (a + 1) m (b + 1) ∙ ap (λ i. Some i) sum

pub find_first : (m : ℕ) → find_name (function_name 1) (names m) ≡ Some 0
find_first m = ap (λ t. Found t 0 (position_from (is_same_name (function_name 1)) 1 (map function_name (range_with_len 2 m) ++ codes "work" ∷ codes "main" ∷ []))) (own_name (function_name 1))

pub find_next : (m k : ℕ) → 2 ≤ k → k < 2 + m → k < 2 ^ 64 → find_name (function_name k) (names m) ≡ Some (k - 1)
find_next m k le lt small =
    let sum : 1 + (k - 2) ≡ k - 1 = omega (arith, le) in
    ap (λ t. Found t 0 (position_from (is_same_name (function_name k)) 1 (map function_name (range_with_len 2 m) ++ codes "work" ∷ codes "main" ∷ [])))
    (other_function k 1 small (omega arith) (λ e. omega (arith, e, le)))
    ∙ (found_after 2 m 1 k (codes "work" ∷ codes "main" ∷ []) le lt small ∙ ap (λ i. Some i) sum)

pub find_main : (m : ℕ) → find_name (codes "main") (names m) ≡ Some (m + 2)
find_main m = let sum : 1 + m + 1 ≡ m + 2 = omega arith in main_after 2 m 1 ∙ ap (λ i. Some i) sum

-- The function of a number.
among : {A : Type 0} (f : ℕ → A) (a m i : ℕ) (rest : List A) → i < m → slice_get (map f (range_with_len a m) ++ rest) i ≡ Some (f (a + i))
among f a zero i rest lt = absurd (omega (arith, lt))
among f a (suc m) zero rest lt = let sum : a ≡ a + 0 = omega arith in ap (λ j. Some (f j)) sum
among f a (suc m) (suc i) rest lt = let sum : a + 1 + i ≡ a + suc i = omega arith in among f (a + 1) m i rest (omega (arith, lt)) ∙ ap (λ j. Some (f j)) sum

behind : {A : Type 0} (f : ℕ → A) (a m i : ℕ) (rest : List A) → slice_get (map f (range_with_len a m) ++ rest) (m + i) ≡ slice_get rest i
behind f a zero i rest = let sum : 0 + i ≡ i = omega arith in ap (slice_get rest) sum
behind f a (suc m) i rest =
    let sum : suc m + i ≡ suc (m + i) = omega arith in
    ap (slice_get (f a ∷ (map f (range_with_len (a + 1) m) ++ rest))) sum ∙ behind f (a + 1) m i rest

function_at : (p : Lifted) (i : ℕ) (f : LFunction) → slice_get p.functions i ≡ Some f → function_of p i ≡ f
function_at p i f e = get_or_from_slice_get p.functions i f _ e

pub first_is : (locals : List Slot) (word : List ℕ) (n : ℕ) → function_of (program locals word n) 0 ≡ first_lifted locals
first_is locals word n = refl

pub next_is : (locals : List Slot) (word : List ℕ) (n k : ℕ) → 2 ≤ k → k ≤ n → function_of (program locals word n) (k - 1) ≡ next_lifted locals k
next_is locals word n k le small =
    let at : k - 1 ≡ suc (k - 2) = omega (arith, le) in
    let sum : 2 + (k - 2) ≡ k = omega (arith, le) in
    function_at (program locals word n) (k - 1) (next_lifted locals k)
    (ap (slice_get (program locals word n).functions) at
    ∙ (among (next_lifted locals) 2 (n - 1) (k - 2) (work_lifted n ∷ main_lifted word n ∷ []) (omega (arith, le, small)) ∙ ap (λ j. Some (next_lifted locals j)) sum))

pub main_is : (locals : List Slot) (word : List ℕ) (n : ℕ) → 1 ≤ n → function_of (program locals word n) (n + 1) ≡ main_lifted word n
main_is locals word n some =
    let at : n + 1 ≡ suc (n - 1 + 1) = omega (arith, some) in
    function_at (program locals word n) (n + 1) (main_lifted word n)
    (ap (slice_get (program locals word n).functions) at ∙ behind (next_lifted locals) 2 (n - 1) 1 (work_lifted n ∷ main_lifted word n ∷ []))

-- The link of the two programs where nothing is declared to match.
abbrev pub plain_link : Lifted → Lifted → Link
plain_link p q = built p q [] [] [] []

numbered : {A B : Type 0} (g : ℕ × A → B) (b i : ℕ) (xs : List A) (x : A) → slice_get xs i ≡ Some x → slice_get (map g (enumerate_from b xs)) i ≡ Some (g (b + i, x))
numbered g b i [] x e = absurd (let no : ⊥ = cc in no)
numbered g b zero (y ∷ xs) x e =
    let sum : b ≡ b + 0 = omega arith in
    let same : y ≡ x = cc in
    ap (λ j. Some (g (j, y))) sum ∙ ap (λ z. Some (g (b + 0, z))) same
numbered g b (suc i) (y ∷ xs) x e =
    let sum : b + 1 + i ≡ b + suc i = omega arith in
    numbered g (b + 1) i xs x e ∙ ap (λ j. Some (g (j, x))) sum

pub matched : (p q : Lifted) (name : List ℕ) (i : ℕ) → find_name name (names_in p 0) ≡ Some i → find_name name (names_in q 0) ≡ Some i → start_alike p q i i ≡ true
    → match_at (plain_link p q).functions i ≡ Some i
matched p q name i old new alike =
    let sum : 0 + i ≡ i = omega arith in
    ap option_flatten (numbered (λ x. match_of [] (names_in q 0) (start_alike p q x.0) x.0 x.1) 0 i (names_in p 0) name (number_at (names_in p 0) name i old))
    ∙ (ap (λ j. match_of [] (names_in q 0) (start_alike p q j) j name) sum
    ∙ (ap (λ o. unclaimed [] (start_alike p q i) o) new ∙ ap (λ t. if not t then None else Some i) alike))

-- no thread starts with either function
pub no_start : (p q : Lifted) (i : ℕ) → is_start (function_of p i) ≡ false → is_start (function_of q i) ≡ false → start_alike p q i i ≡ true
no_start p q i e f = ap (λ t. if t then is_start (function_of q i) else not (is_start (function_of q i))) e ∙ ap not f

-- What is known of a function of both programs: its number by its name, that it goes to that of the same number, and what it is.
pub record IsKeptFunction (p q : Lifted) (name : List ℕ) (i : ℕ) (f g : LFunction) : Type 0 where
  pub found : find_name name (names_in p 0) ≡ Some i
  pub matches : match_at (plain_link p q).functions i ≡ Some i
  pub old : function_of p i ≡ f
  pub new : function_of q i ≡ g

kept : (p q : Lifted) (name : List ℕ) (i : ℕ) (f g : LFunction) → find_name name (names_in p 0) ≡ Some i → find_name name (names_in q 0) ≡ Some i
    → function_of p i ≡ f → function_of q i ≡ g → is_start f ≡ false → is_start g ≡ false → IsKeptFunction p q name i f g
kept p q name i f g found there old new a b = record {
  found = found;
  matches = matched p q name i found there (no_start p q i (ap is_start old ∙ a) (ap is_start new ∙ b));
  old = old;
  new = new;
}

in_program : (locals : List Slot) (word name : List ℕ) (n i : ℕ) → find_name name (names (n - 1)) ≡ Some i → find_name name (names_in (program locals word n) 0) ≡ Some i
in_program locals word name n i e = ap (find_name name) (names_are locals word n) ∙ e

pub first_kept : (old new : List Slot) (u v : List ℕ) (n : ℕ) → IsKeptFunction (program old u n) (program new v n) (function_name 1) 0 (first_lifted old) (first_lifted new)
first_kept old new u v n =
    kept (program old u n) (program new v n) (function_name 1) 0 (first_lifted old) (first_lifted new)
    (in_program old u (function_name 1) n 0 (find_first (n - 1))) (in_program new v (function_name 1) n 0 (find_first (n - 1)))
    (first_is old u n) (first_is new v n) refl refl

pub next_kept : (old new : List Slot) (u v : List ℕ) (n k : ℕ) → 2 ≤ k → k ≤ n → n ≤ 1000
    → IsKeptFunction (program old u n) (program new v n) (function_name k) (k - 1) (next_lifted old k) (next_lifted new k)
next_kept old new u v n k le within small =
    let there = find_next (n - 1) k le (omega (arith, le, within)) (omega (arith, within, small)) in
    kept (program old u n) (program new v n) (function_name k) (k - 1) (next_lifted old k) (next_lifted new k)
    (in_program old u (function_name k) n (k - 1) there) (in_program new v (function_name k) n (k - 1) there)
    (next_is old u n k le within) (next_is new v n k le within) refl refl

pub main_kept : (old new : List Slot) (u v : List ℕ) (n : ℕ) → 1 ≤ n → IsKeptFunction (program old u n) (program new v n) (codes "main") (n + 1) (main_lifted u n) (main_lifted v n)
main_kept old new u v n some =
    let sum : n - 1 + 2 ≡ n + 1 = omega (arith, some) in
    let there = find_main (n - 1) ∙ ap (λ i. Some i) sum in
    kept (program old u n) (program new v n) (codes "main") (n + 1) (main_lifted u n) (main_lifted v n)
    (in_program old u (codes "main") n (n + 1) there) (in_program new v (codes "main") n (n + 1) there)
    (main_is old u n some) (main_is new v n some) refl refl

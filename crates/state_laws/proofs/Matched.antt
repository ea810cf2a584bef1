-- The matches that the entries of a sound patch make.
use Rattle.std.proofs.Common.{◌≡◌, ◌⊎◌, inl, inr, ℕ, ◌+◌, Bool, true, false, not, List, [], ◌∷◌, ◌++◌, Option, Some, None, refl, sym, ◌∙◌, ap, subst, arith}
use Rattle.std.specs.Prelude.{zero, suc, map, find, ◌==◌, ◌&&◌, ◌||◌, cond, if◌then◌else◌, slice_get}
use Rattle.std.specs.Option.{option_map, option_flatten}
use Rattle.std.specs.List.{list_any, flat_map, enumerate_from}
use Rattle.std.proofs.lemmas.Option.{none-some, same_Some}
use Rattle.std.proofs.lemmas.Bool.{eqb-true, eq-eqb}
use Rattle.c_tree.specs.declared.mapping.LEntry.{LEntry}
use Rattle.c_tree.specs.declared.mapping.LEntry.TheVariants as n
use Rattle.c_tree.specs.Scope.{is_same_name}
use Rattle.c_tree.specs.Names.{is_number, find_name}
use Rattle.c_tree.specs.Link.{Link, Claim, new_side, unclaimed, match_of, matches, match_at, claim_of}
use Rattle.c_tree.specs.Sound.{sound_match, is_sound_entry, numbers_clash, are_sound}
use Rattle.state_laws.proofs.TypedValues.{no_false}
use Rattle.state_laws.proofs.Filled.{and_both}
use Rattle.state_laws.proofs.SoundFits.{not_true, clash_of}

pub same_name : (a b : List ℕ) → is_same_name a b ≡ true → a ≡ b
same_name [] [] e = refl
same_name [] (y ∷ b) e = absurd (no_false e)
same_name (x ∷ a) [] e = absurd (no_false e)
same_name (x ∷ a) (y ∷ b) e =
    let q = and_both (x == y) (is_same_name a b) e in
    ap (λ z. z ∷ a) (eqb-true x y q.0) ∙ ap (λ z. y ∷ z) (same_name a b q.1)

pub own_name : (a : List ℕ) → is_same_name a a ≡ true
own_name [] = refl
own_name (x ∷ a) = ap (λ b. b && is_same_name a a) (eq-eqb x x refl) ∙ own_name a

pub own_number : (i : ℕ) → is_number (Some i) i ≡ true
own_number i = eq-eqb i i refl

-- the claims of entries
abbrev pub claims : ℕ → List LEntry → List Claim
claims kind entries = flat_map (claim_of kind) entries

abbrev pub claim : ℕ → Option ℕ → Claim
claim a b = record { old = Some a; new = b; stands = true }

-- one of the entries matches a with b
abbrev pub Says : ℕ → ℕ → Option ℕ → List LEntry → Type 0
Says kind a b [] = ⊥
Says kind a b (x ∷ rest) = (x ≡ n.Match kind a b) ⊎ Says kind a b rest

abbrev pub Told : ℕ → (Claim → Bool) → List LEntry → Type 0
Told kind p entries = (a : ℕ) × ((b : Option ℕ) × (Says kind a b entries × (p (claim a b) ≡ true)))

pub later : (kind : ℕ) (p : Claim → Bool) (x : LEntry) (rest : List LEntry) → Told kind p rest → Told kind p (x ∷ rest)
later kind p x rest t = (t.0, (t.1.0, (inr t.1.1.0, t.1.1.1)))

pub or_left : (a b : Bool) → (a || b) ≡ true → (a ≡ true) ⊎ (b ≡ true)
or_left true b e = inl refl
or_left false b e = inr e

pub or_true : (a b : Bool) → b ≡ true → (a || b) ≡ true
or_true true b e = refl
or_true false b e = e

-- a claim that passes is that of an entry
pub any_says : (kind : ℕ) (p : Claim → Bool) (entries : List LEntry) → list_any p (claims kind entries) ≡ true → Told kind p entries
any_says kind p [] e = absurd (no_false e)
any_says kind p (n.Match i a b ∷ rest) e = pick (i == kind) refl e (any_says kind p rest) where
  pick : (q : Bool) → (i == kind) ≡ q → list_any p ((if q then claim a b ∷ [] else []) ++ claims kind rest) ≡ true → (list_any p (claims kind rest) ≡ true → Told kind p rest) → Told kind p (n.Match i a b ∷ rest)
  pick false g e more = later kind p (n.Match i a b) rest (more e)
  pick true g e more = elim (or_left (p (claim a b)) (list_any p (claims kind rest)) e) as (λ z. Told kind p (n.Match i a b ∷ rest)) [
    | inl y ↦ (a, (b, (inl (ap (λ z. n.Match z a b) (eqb-true i kind g)), y)))
    | inr y ↦ later kind p (n.Match i a b) rest (more y)
  ]
any_says kind p (n.Field a b c ∷ rest) e = later kind p (n.Field a b c) rest (any_says kind p rest e)
any_says kind p (n.Init a b ∷ rest) e = later kind p (n.Init a b) rest (any_says kind p rest e)
any_says kind p (n.Point a b c ∷ rest) e = later kind p (n.Point a b c) rest (any_says kind p rest e)
any_says kind p (n.Check a ∷ rest) e = later kind p (n.Check a) rest (any_says kind p rest e)

pub any_join : (p : Claim → Bool) (xs ys : List Claim) → list_any p ys ≡ true → list_any p (xs ++ ys) ≡ true
any_join p [] ys e = e
any_join p (x ∷ xs) ys e = or_true (p x) (list_any p (xs ++ ys)) (any_join p xs ys e)

pub says_any : (kind : ℕ) (p : Claim → Bool) (a : ℕ) (b : Option ℕ) (entries : List LEntry) → Says kind a b entries → p (claim a b) ≡ true → list_any p (claims kind entries) ≡ true
says_any kind p a b [] s e = absurd s
says_any kind p a b (x ∷ rest) (inl y) e =
    subst (λ z. list_any p (claim_of kind z ++ claims kind rest) ≡ true) (sym y)
    (subst (λ q. list_any p ((if q then claim a b ∷ [] else []) ++ claims kind rest) ≡ true) (sym (eq-eqb kind kind refl)) (ap (λ z. z || list_any p (claims kind rest)) e))
says_any kind p a b (x ∷ rest) (inr s) e = any_join p (claim_of kind x) (claims kind rest) (says_any kind p a b rest s e)

-- what is found is what an entry says
pub find_says : (kind : ℕ) (p : Claim → Bool) (entries : List LEntry) (c : Claim) → find p (claims kind entries) ≡ Some c →
    (a : ℕ) × ((b : Option ℕ) × ((c ≡ claim a b) × (Says kind a b entries × (p c ≡ true))))
find_says kind p [] c e = absurd (none-some c e)
find_says kind p (n.Match i a b ∷ rest) c e = pick (i == kind) refl e (find_says kind p rest c) where
  Out : Type 0
  Out = (x : ℕ) × ((y : Option ℕ) × ((c ≡ claim x y) × (Says kind x y (n.Match i a b ∷ rest) × (p c ≡ true))))

  In : Type 0
  In = (x : ℕ) × ((y : Option ℕ) × ((c ≡ claim x y) × (Says kind x y rest × (p c ≡ true))))

  onto : In → Out
  onto t = (t.0, (t.1.0, (t.1.1.0, (inr t.1.1.1.0, t.1.1.1.1))))

  here : (i == kind) ≡ true → (q : Bool) → p (claim a b) ≡ q → cond q (Some (claim a b)) (find p (claims kind rest)) ≡ Some c → (find p (claims kind rest) ≡ Some c → In) → Out
  here g true h e more =
      let is : claim a b ≡ c = same_Some (claim a b) c e in
      (a, (b, (sym is, (inl (ap (λ z. n.Match z a b) (eqb-true i kind g)), subst (λ z. p z ≡ true) is h))))
  here g false h e more = onto (more e)

  pick : (q : Bool) → (i == kind) ≡ q → find p ((if q then claim a b ∷ [] else []) ++ claims kind rest) ≡ Some c → (find p (claims kind rest) ≡ Some c → In) → Out
  pick false g e more = onto (more e)
  pick true g e more = here g (p (claim a b)) refl e more
find_says kind p (n.Field a b d ∷ rest) c e = let t = find_says kind p rest c e in (t.0, (t.1.0, (t.1.1.0, (inr t.1.1.1.0, t.1.1.1.1))))
find_says kind p (n.Init a b ∷ rest) c e = let t = find_says kind p rest c e in (t.0, (t.1.0, (t.1.1.0, (inr t.1.1.1.0, t.1.1.1.1))))
find_says kind p (n.Point a b d ∷ rest) c e = let t = find_says kind p rest c e in (t.0, (t.1.0, (t.1.1.0, (inr t.1.1.1.0, t.1.1.1.1))))
find_says kind p (n.Check a ∷ rest) c e = let t = find_says kind p rest c e in (t.0, (t.1.0, (t.1.1.0, (inr t.1.1.1.0, t.1.1.1.1))))

-- where a test passes of some claim, one is found
pub found_of : (p : Claim → Bool) (cs : List Claim) → list_any p cs ≡ true → (c : Claim) × (find p cs ≡ Some c)
found_of p [] e = absurd (no_false e)
found_of p (x ∷ xs) e = pick (p x) e (found_of p xs) where
  pick : (q : Bool) → (q || list_any p xs) ≡ true → (list_any p xs ≡ true → (c : Claim) × (find p xs ≡ Some c)) → (c : Claim) × (cond q (Some x) (find p xs) ≡ Some c)
  pick true e more = (x, refl)
  pick false e more = more e

pub says_sound : (k : Link) (kind a : ℕ) (b : Option ℕ) (entries : List LEntry) → are_sound k entries ≡ true → Says kind a b entries → sound_match k kind a b ≡ true
says_sound k kind a b [] s e = absurd e
says_sound k kind a b (x ∷ rest) s (inl y) =
    let q = and_both (is_sound_entry k x && not (list_any (numbers_clash x) rest)) (are_sound k rest) s in
    subst (λ z. is_sound_entry k z ≡ true) y (and_both (is_sound_entry k x) (not (list_any (numbers_clash x) rest)) q.0).0
says_sound k kind a b (x ∷ rest) s (inr y) = says_sound k kind a b rest (and_both (is_sound_entry k x && not (list_any (numbers_clash x) rest)) (are_sound k rest) s).1 y

-- no two entries name one new side
pub new_clashes : (kind a x j : ℕ) (rest : List LEntry) → Says kind x (Some j) rest → list_any (numbers_clash (n.Match kind a (Some j))) rest ≡ true
new_clashes kind a x j [] s = absurd s
new_clashes kind a x j (y ∷ rest) (inl e) =
    subst (λ z. (numbers_clash (n.Match kind a (Some j)) z || list_any (numbers_clash (n.Match kind a (Some j))) rest) ≡ true) (sym e)
    (ap (λ b. b || list_any (numbers_clash (n.Match kind a (Some j))) rest)
    (ap (λ b. b && (a == x || j == j)) (eq-eqb kind kind refl) ∙ or_true (a == x) (j == j) (eq-eqb j j refl)))
new_clashes kind a x j (y ∷ rest) (inr s) = or_true (numbers_clash (n.Match kind a (Some j)) y) (list_any (numbers_clash (n.Match kind a (Some j))) rest) (new_clashes kind a x j rest s)

pub says_once : (k : Link) (kind a x j : ℕ) (entries : List LEntry) → are_sound k entries ≡ true → Says kind a (Some j) entries → Says kind x (Some j) entries → a ≡ x
says_once k kind a x j [] s p q = absurd p
says_once k kind a x j (y ∷ rest) s p q = pick p q (says_once k kind a x j rest parts.1) where
  parts : ((is_sound_entry k y && not (list_any (numbers_clash y) rest)) ≡ true) × (are_sound k rest ≡ true)
  parts = and_both (is_sound_entry k y && not (list_any (numbers_clash y) rest)) (are_sound k rest) s

  free : list_any (numbers_clash y) rest ≡ false
  free = not_true (list_any (numbers_clash y) rest) (and_both (is_sound_entry k y) (not (list_any (numbers_clash y) rest)) parts.0).1

  old_of : LEntry → ℕ
  old_of (n.Match i a b) = a
  old_of z = 0

  no : (a x : ℕ) → y ≡ n.Match kind a (Some j) → Says kind x (Some j) rest → ⊥
  no a x e m = clash_of (list_any (numbers_clash y) rest) (subst (λ z. list_any (numbers_clash z) rest ≡ true) (sym e) (new_clashes kind a x j rest m)) free

  pick : (y ≡ n.Match kind a (Some j)) ⊎ Says kind a (Some j) rest → (y ≡ n.Match kind x (Some j)) ⊎ Says kind x (Some j) rest → (Says kind a (Some j) rest → Says kind x (Some j) rest → a ≡ x) → a ≡ x
  pick (inl e) (inl f) more = ap (λ z. old_of z) (sym e ∙ f)
  pick (inl e) (inr f) more = absurd (no a x e f)
  pick (inr e) (inl f) more = absurd (no x a f e)
  pick (inr e) (inr f) more = more e f

-- what a match comes from: an entry, or equal names
pub record ByName (cs : List Claim) (new : List (List ℕ)) (may : ℕ → Bool) (name : List ℕ) (i j : ℕ) : Type 0 where
  pub old_free : list_any (λ c. is_number c.old i) cs ≡ false
  pub new_free : list_any (λ c. is_number c.new j) cs ≡ false
  pub allowed : may j ≡ true
  pub named : find_name name new ≡ Some j

pub side_known : (o : Option Claim) (j : ℕ) → new_side o ≡ Some j → (c : Claim) × ((o ≡ Some c) × (c.new ≡ Some j))
side_known None j e = absurd (none-some j e)
side_known (Some c) j e = (c, (refl, e))

pub enum_get : {B : Type 0} (F : ℕ × List ℕ → B) (b i m : ℕ) (xs : List (List ℕ)) → m ≡ b + i → slice_get (map F (enumerate_from b xs)) i ≡ option_map (λ x. F (m, x)) (slice_get xs i)
enum_get F b i m [] e = refl
enum_get F b zero m (x ∷ xs) e = ap (λ z. Some (F (z, x))) (let q : b ≡ m = omega (arith, e) in q)
enum_get F b (suc i) m (x ∷ xs) e = enum_get F (b + 1) i m xs (omega (arith, e))

pub flat_known : {A B : Type 0} (f : A → Option B) (o : Option A) (y : B) → option_flatten (option_map f o) ≡ Some y → (x : A) × ((o ≡ Some x) × (f x ≡ Some y))
flat_known f None y e = absurd (none-some y e)
flat_known f (Some x) y e = (x, (refl, e))

pub match_known : (kind : ℕ) (entries : List LEntry) (old new : List (List ℕ)) (may : ℕ → ℕ → Bool) (i j : ℕ) → match_at (matches (claims kind entries) old new may) i ≡ Some j →
    (name : List ℕ) × ((slice_get old i ≡ Some name) × (Says kind i (Some j) entries ⊎ ByName (claims kind entries) new (may i) name i j))
match_known kind entries old new may i j e = whole (flat_known (λ name. match_of cs new (may i) i name) (slice_get old i) j (ap (λ o. option_flatten o) (sym (enum_get (λ x. match_of cs new (may x.0) x.0 x.1) 0 i i old (omega arith))) ∙ e)) where
  cs : List Claim
  cs = claims kind entries

  named : (name : List ℕ) (o : Option ℕ) → find_name name new ≡ o → list_any (λ c. is_number c.old i) cs ≡ false → unclaimed cs (may i) o ≡ Some j → ByName cs new (may i) name i j
  named name None g f w = absurd (none-some j w)
  named name (Some m) g f w = free (list_any (λ c. is_number c.new m) cs) (may i m) refl refl w where
    free : (p q : Bool) → list_any (λ c. is_number c.new m) cs ≡ p → may i m ≡ q → (if p || not q then None else Some m) ≡ Some j → ByName cs new (may i) name i j
    free true q a b w = absurd (none-some j w)
    free false false a b w = absurd (none-some j w)
    free false true a b w =
        let is : m ≡ j = same_Some m j w in
        record { old_free = f; new_free = subst (λ m. list_any (λ c. is_number c.new m) cs ≡ false) is a; allowed = subst (λ m. may i m ≡ true) is b; named = g ∙ ap (λ z. Some z) is }

  said : (c : Claim) → find (λ c. is_number c.old i && c.stands) cs ≡ Some c → c.new ≡ Some j → Says kind i (Some j) entries
  said c g w =
      let s = find_says kind (λ c. is_number c.old i && c.stands) entries c g in
      let old : s.0 ≡ i = eqb-true s.0 i (ap (λ c. is_number c.old i) (sym s.1.1.0) ∙ (and_both (is_number c.old i) c.stands s.1.1.1.1).0) in
      let side : s.1.0 ≡ Some j = ap (λ c. c.new) (sym s.1.1.0) ∙ w in
      subst (λ a. Says kind a (Some j) entries) old (subst (λ b. Says kind s.0 b entries) side s.1.1.1.0)

  cases : (name : List ℕ) (b : Bool) → list_any (λ c. is_number c.old i) cs ≡ b →
      (if b then new_side (find (λ c. is_number c.old i && c.stands) cs) else unclaimed cs (may i) (find_name name new)) ≡ Some j → Says kind i (Some j) entries ⊎ ByName cs new (may i) name i j
  cases name true f w = let c = side_known (find (λ c. is_number c.old i && c.stands) cs) j w in inl (said c.0 c.1.0 c.1.1)
  cases name false f w = inr (named name (find_name name new) refl f w)

  whole : (name : List ℕ) × ((slice_get old i ≡ Some name) × (match_of cs new (may i) i name ≡ Some j)) → (name : List ℕ) × ((slice_get old i ≡ Some name) × (Says kind i (Some j) entries ⊎ ByName cs new (may i) name i j))
  whole t = (t.0, (t.1.0, cases t.0 (list_any (λ c. is_number c.old i) cs) refl t.1.1))

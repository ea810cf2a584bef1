-- What the match entries of one kind claim, one entry further.
use Rattle.std.proofs.Common.{◌≡◌, ℕ, ◌+◌, ◌<◌, Bool, true, false, List, [], ◌∷◌, ◌++◌, length, take, get_or, map, Option, Some, None, Ok, refl, sym, ◌∙◌, ap, subst, append_assoc}
use Rattle.std.specs.Prelude.{◌&&◌, ◌||◌, ◌==◌, not, is_ok, if◌then◌else◌, find}
use Rattle.std.specs.List.{list_any}
use Rattle.std.specs.Option.{ok_or}
use Rattle.std.proofs.lemmas.Bool.{eqb-true, eqb-false, eq-eqb}
use Rattle.std.proofs.lemmas.List.{append-nil, map-append, take_more}
use Rattle.std.proofs.lemmas.List.Folds.{list_any-append}
use Rattle.c_tree.specs.declared.cause.EntryCause.TheVariants as c
use Rattle.c_tree.specs.declared.lifted.Lifted.{Lifted}
use Rattle.c_tree.specs.declared.program.At.{At}
use Rattle.c_tree.specs.declared.mapping.Entry.{Entry}
use Rattle.c_tree.specs.declared.mapping.Entry.TheVariants as n
use Rattle.c_tree.specs.declared.mapping.LEntry.TheVariants as l
use Rattle.c_tree.specs.Scope.{is_same_name}
use Rattle.c_tree.specs.Refusal.{onward, refuse_if}
use Rattle.c_tree.specs.Names.{is_number, find_name, names_in}
use Rattle.c_tree.specs.Link.{Claim}
use Rattle.c_tree.specs.Suits.{start_differs}
use Rattle.c_tree.specs.Causes.{same_side, clash}
use Rattle.c_tree.specs.Entries.{can_match, side_number, claims_of, all_claims}
use Rattle.c_tree.specs.Chain.{missing, new_number, lifted_match}
use Rattle.c_tree.proofs.CanMatch.{match_passes}
use Rattle.patch_match.specs.declared.sides.Sides.{Sides}
use Rattle.patch_match.specs.Sides.{Tells, said_by, said_in}
use Rattle.patch_match.specs.Matching.{TellsOf, is_said, old_is_taken, new_is_taken, is_taken, claim_beside}
use Rattle.patch_match.proofs.AnyLemmas.{or-false, or-left, any_either, any_alike, found_any, found_within, same_found}

-- the entries before, the last one first
abbrev pub pushed : List Entry → List Entry → List Entry
pushed acc [] = acc
pushed acc (x ∷ rest) = pushed (x ∷ acc) rest

any_pushed : (p : Entry → Bool) (acc es : List Entry) → list_any p (pushed acc es) ≡ list_any p acc || list_any p es
any_pushed p acc [] = sym (or-false (list_any p acc))
any_pushed p acc (x ∷ rest) = any_pushed p (x ∷ acc) rest ∙ or-left (p x) (list_any p acc) (list_any p rest)

pub claims_more : (old new : Lifted) (kind : ℕ) (acc es : List Entry) (x : Entry) →
    all_claims old new kind acc (es ++ x ∷ []) ≡ all_claims old new kind acc es ++ claims_of old new kind (pushed acc es) x
claims_more old new kind acc [] x = append-nil (claims_of old new kind acc x)
claims_more old new kind acc (e ∷ es) x =
    ap (λ xs. claims_of old new kind acc e ++ xs) (claims_more old new kind (e ∷ acc) es x)
    ∙ sym (append_assoc (claims_of old new kind acc e) (all_claims old new kind (e ∷ acc) es) (claims_of old new kind (pushed acc (e ∷ es)) x))

-- whether an entry names an old or a new thing of a kind
abbrev pub names_old : Lifted → ℕ → ℕ → Entry → Bool
names_old old kind i (n.Match j a b) = if j == kind then is_number (find_name a (names_in old kind)) i else false
names_old old kind i _ = false

abbrev pub names_new : Lifted → ℕ → ℕ → Entry → Bool
names_new new kind i (n.Match j a b) = if j == kind then is_number (side_number kind new b) i else false
names_new new kind i _ = false

claims_old : (old new : Lifted) (kind i : ℕ) (acc es : List Entry) → list_any (λ c. is_number c.old i) (all_claims old new kind acc es) ≡ list_any (names_old old kind i) es
claims_old old new kind i acc [] = refl
claims_old old new kind i acc (x ∷ rest) =
    list_any-append (λ c. is_number c.old i) (claims_of old new kind acc x) (all_claims old new kind (x ∷ acc) rest)
    ∙ (ap (λ b. b || list_any (λ c. is_number c.old i) (all_claims old new kind (x ∷ acc) rest)) (one x)
    ∙ ap (λ b. names_old old kind i x || b) (claims_old old new kind i (x ∷ acc) rest)) where
      some : (j : ℕ) (a : List ℕ) (b : Option (List ℕ)) (t : Bool) (c : Claim) → c.old ≡ find_name a (names_in old kind) →
          list_any (λ d. is_number d.old i) (if t then c ∷ [] else []) ≡ (if t then is_number (find_name a (names_in old kind)) i else false)
      some j a b true c e = or-false (is_number c.old i) ∙ ap (λ o. is_number o i) e
      some j a b false c e = refl

      one : (y : Entry) → list_any (λ c. is_number c.old i) (claims_of old new kind acc y) ≡ names_old old kind i y
      one (n.Match j a b) = some j a b (j == kind) _ refl
      one (n.Field a b e) = refl
      one (n.Init a e) = refl
      one (n.Point a p parts) = refl
      one (n.Check e) = refl

claims_new : (old new : Lifted) (kind i : ℕ) (acc es : List Entry) → list_any (λ c. is_number c.new i) (all_claims old new kind acc es) ≡ list_any (names_new new kind i) es
claims_new old new kind i acc [] = refl
claims_new old new kind i acc (x ∷ rest) =
    list_any-append (λ c. is_number c.new i) (claims_of old new kind acc x) (all_claims old new kind (x ∷ acc) rest)
    ∙ (ap (λ b. b || list_any (λ c. is_number c.new i) (all_claims old new kind (x ∷ acc) rest)) (one x)
    ∙ ap (λ b. names_new new kind i x || b) (claims_new old new kind i (x ∷ acc) rest)) where
      some : (b : Option (List ℕ)) (t : Bool) (c : Claim) → c.new ≡ side_number kind new b →
          list_any (λ d. is_number d.new i) (if t then c ∷ [] else []) ≡ (if t then is_number (side_number kind new b) i else false)
      some b true c e = or-false (is_number c.new i) ∙ ap (λ o. is_number o i) e
      some b false c e = refl

      one : (y : Entry) → list_any (λ c. is_number c.new i) (claims_of old new kind acc y) ≡ names_new new kind i y
      one (n.Match j a b) = some b (j == kind) _ refl
      one (n.Field a b e) = refl
      one (n.Init a e) = refl
      one (n.Point a p parts) = refl
      one (n.Check e) = refl

-- a test of numbers is the same either way
pub flip_eq : (a b : ℕ) → (a == b) ≡ (b == a)
flip_eq a b = pick (a == b) (b == a) refl refl where
  pick : (x y : Bool) → x ≡ (a == b) → y ≡ (b == a) → x ≡ y
  pick true true e f = refl
  pick false false e f = refl
  pick true false e f = absurd (eqb-false b a (sym f) (sym (eqb-true a b (sym e))))
  pick false true e f = absurd (eqb-false a b (sym e) (sym (eqb-true b a (sym f))))

-- an entry clashes with a match entry of a kind where it names one of its sides
no_side : (kind : ℕ) (a : List ℕ) (old : Lifted) (i : ℕ) → find_name a (names_in old kind) ≡ Some i → (y : Entry) → clash (n.Match kind a None) y ≡ names_old old kind i y
no_side kind a old i e (n.Match j x y) = ap (λ t. t && (is_same_name a x || false)) (flip_eq kind j) ∙ pick (j == kind) where
  pick : (t : Bool) → t && (is_same_name a x || false) ≡ (if t then is_number (find_name x (names_in old kind)) i else false)
  pick true = or-false (is_same_name a x) ∙ same_found a x (names_in old kind) i e
  pick false = refl
no_side kind a old i e (n.Field x y z) = refl
no_side kind a old i e (n.Init x y) = refl
no_side kind a old i e (n.Point x p parts) = refl
no_side kind a old i e (n.Check x) = refl

two_sides : (kind : ℕ) (a b : List ℕ) (old new : Lifted) (i j : ℕ) → find_name a (names_in old kind) ≡ Some i → find_name b (names_in new kind) ≡ Some j →
    (y : Entry) → clash (n.Match kind a (Some b)) y ≡ names_old old kind i y || names_new new kind j y
two_sides kind a b old new i j e f (n.Match k x y) = ap (λ t. t && (is_same_name a x || same_side (Some b) y)) (flip_eq kind k) ∙ pick (k == kind) where
  side : (z : Option (List ℕ)) → same_side (Some b) z ≡ is_number (side_number kind new z) j
  side None = refl
  side (Some z) = same_found b z (names_in new kind) j f

  pick : (t : Bool) → t && (is_same_name a x || same_side (Some b) y) ≡
      (if t then is_number (find_name x (names_in old kind)) i else false) || (if t then is_number (side_number kind new y) j else false)
  pick true = ap (λ z. z || same_side (Some b) y) (same_found a x (names_in old kind) i e) ∙ ap (λ z. is_number (find_name x (names_in old kind)) i || z) (side y)
  pick false = refl
two_sides kind a b old new i j e f (n.Field x y z) = refl
two_sides kind a b old new i j e f (n.Init x y) = refl
two_sides kind a b old new i j e f (n.Point x p parts) = refl
two_sides kind a b old new i j e f (n.Check x) = refl

-- what is said of an old thing tells whether an entry names it
pub is_said_in : (claims : List Claim) (i : ℕ) → is_said (said_in claims i) ≡ list_any (λ c. is_number c.old i) claims
is_said_in claims i = pick (list_any (λ c. is_number c.old i) claims) (find (λ c. is_number c.old i && c.stands) claims) refl refl where
  pick : (b : Bool) (o : Option Claim) → b ≡ list_any (λ c. is_number c.old i) claims → find (λ c. is_number c.old i && c.stands) claims ≡ o → is_said (said_by b o) ≡ b
  pick true None e f = refl
  pick false None e f = refl
  pick b (Some x) e f = sym (e ∙ found_any (λ c. is_number c.old i) (λ c. c.stands) claims x f)

old_taken : (old new : Lifted) (kind : ℕ) (s : Sides) (es : List Entry) (i : ℕ) → TellsOf s kind old new es → i < length (names_in old kind) →
    old_is_taken s (Some i) ≡ list_any (names_old old kind i) es
old_taken old new kind s es i h lt = ap is_said (h.said i lt) ∙ (is_said_in (all_claims old new kind [] es) i ∙ claims_old old new kind i [] es)

new_taken : (old new : Lifted) (kind : ℕ) (s : Sides) (es : List Entry) (j : ℕ) → TellsOf s kind old new es → j < length (names_in new kind) →
    new_is_taken s (Some j) ≡ list_any (names_new new kind j) es
new_taken old new kind s es j h lt = h.named j lt ∙ claims_new old new kind j [] es

-- a sound match entry clashes where one of its sides is taken
taken : (old new : Lifted) (kind : ℕ) (s : Sides) (es : List Entry) (a : List ℕ) (b : Option (List ℕ)) → TellsOf s kind old new es →
    (o u : Option ℕ) → find_name a (names_in old kind) ≡ o → side_number kind new b ≡ u →
    is_ok (lifted_match old new kind a b) && not (is_taken s o u) ≡ is_ok (lifted_match old new kind a b) && not (list_any (clash (n.Match kind a b)) (pushed [] es))
taken old new kind s es a b h None u e f =
    let no : is_ok (lifted_match old new kind a b) ≡ false = ap (λ q. is_ok (onward (ok_or q (missing kind)) (λ i.
    onward (new_number kind new b) (λ j.
    refuse_if (kind == 0 && start_differs old new i j) c.StartDiffers (Ok (l.Match kind i j)))))) e in
    ap (λ t. t && not (is_taken s None u)) no ∙ sym (ap (λ t. t && not (list_any (clash (n.Match kind a b)) (pushed [] es))) no)
taken old new kind s es a None h (Some i) u e f =
    let here : is_taken s (Some i) u ≡ list_any (clash (n.Match kind a None)) (pushed [] es) =
    ap (λ q. old_is_taken s (Some i) || new_is_taken s q) (sym f) ∙ (or-false (old_is_taken s (Some i))
    ∙ (old_taken old new kind s es i h (found_within a (names_in old kind) i e)
    ∙ (sym (any_alike (clash (n.Match kind a None)) (names_old old kind i) (no_side kind a old i e) es)
    ∙ sym (any_pushed (clash (n.Match kind a None)) [] es)))) in
    ap (λ t. is_ok (lifted_match old new kind a None) && not t) here
taken old new kind s es a (Some b) h (Some i) None e f =
    let no : is_ok (lifted_match old new kind a (Some b)) ≡ false = ap (λ q. is_ok (onward (ok_or q (missing kind)) (λ x.
    onward (new_number kind new (Some b)) (λ j.
    refuse_if (kind == 0 && start_differs old new x j) c.StartDiffers (Ok (l.Match kind x j)))))) e
    ∙ ap (λ q. is_ok (onward (onward (ok_or q (missing kind)) (λ j. Ok (Some j))) (λ j.
    refuse_if (kind == 0 && start_differs old new i j) c.StartDiffers (Ok (l.Match kind i j))))) f in
    ap (λ t. t && not (is_taken s (Some i) None)) no ∙ sym (ap (λ t. t && not (list_any (clash (n.Match kind a (Some b))) (pushed [] es))) no)
taken old new kind s es a (Some b) h (Some i) (Some j) e f =
    let here : is_taken s (Some i) (Some j) ≡ list_any (clash (n.Match kind a (Some b))) (pushed [] es) =
    ap (λ t. t || new_is_taken s (Some j)) (old_taken old new kind s es i h (found_within a (names_in old kind) i e))
    ∙ (ap (λ t. list_any (names_old old kind i) es || t) (new_taken old new kind s es j h (found_within b (names_in new kind) j f))
    ∙ (sym (any_either (clash (n.Match kind a (Some b))) (names_old old kind i) (names_new new kind j) (two_sides kind a b old new i j e f) es)
    ∙ sym (any_pushed (clash (n.Match kind a (Some b))) [] es))) in
    ap (λ t. is_ok (lifted_match old new kind a (Some b)) && not t) here

-- what a match entry claims after those before
claimed : (old new : Lifted) (kind : ℕ) (s : Sides) (es : List Entry) (a : List ℕ) (b : Option (List ℕ)) → TellsOf s kind old new es →
    claims_of old new kind (pushed [] es) (n.Match kind a b) ≡ claim_beside s kind old new a b ∷ []
claimed old new kind s es a b h =
    ap (λ t. if t then record {
      old = find_name a (names_in old kind);
      new = side_number kind new b;
      stands = can_match old new kind a b && not (list_any (clash (n.Match kind a b)) (pushed [] es));
    } ∷ [] else []) (eq-eqb kind kind refl)
    ∙ ap (λ t. let x : Claim = record { old = find_name a (names_in old kind); new = side_number kind new b; stands = t } in x ∷ [])
    (ap (λ t. t && not (list_any (clash (n.Match kind a b)) (pushed [] es))) (sym (match_passes old new kind a b))
    ∙ sym (taken old new kind s es a b h (find_name a (names_in old kind)) (side_number kind new b) refl refl))

-- a match entry of the kind is noted
pub noted : (old new : Lifted) (kind i : ℕ) (s t : Sides) (es : List Entry) (a : List ℕ) (b : Option (List ℕ)) → i ≡ kind → TellsOf s kind old new es →
    ((claims : List Claim) (x y : ℕ) → Tells s claims x y → Tells t (claims ++ claim_beside s kind old new a b ∷ []) x y) →
    TellsOf t kind old new (es ++ n.Match i a b ∷ [])
noted old new kind i s t es a b is h go =
    subst (λ k. TellsOf t kind old new (es ++ n.Match k a b ∷ [])) (sym is)
    (subst (λ claims. Tells t claims (length (names_in old kind)) (length (names_in new kind)))
    (sym (claims_more old new kind [] es (n.Match kind a b) ∙ ap (λ xs. all_claims old new kind [] es ++ xs) (claimed old new kind s es a b h)))
    (go (all_claims old new kind [] es) (length (names_in old kind)) (length (names_in new kind)) h))

-- another entry claims nothing
pub unnoted : (old new : Lifted) (kind : ℕ) (s : Sides) (es : List Entry) (x : Entry) → claims_of old new kind (pushed [] es) x ≡ [] → TellsOf s kind old new es →
    TellsOf s kind old new (es ++ x ∷ [])
unnoted old new kind s es x e h =
    subst (λ claims. Tells s claims (length (names_in old kind)) (length (names_in new kind)))
    (sym (claims_more old new kind [] es x ∙ (ap (λ xs. all_claims old new kind [] es ++ xs) e ∙ append-nil (all_claims old new kind [] es)))) h

-- a match entry of another kind claims nothing
pub other_kind : (old new : Lifted) (kind i : ℕ) (acc : List Entry) (a : List ℕ) (b : Option (List ℕ)) → (i ≡ kind → ⊥) → claims_of old new kind acc (n.Match i a b) ≡ []
other_kind old new kind i acc a b h =
    ap (λ t. if t then record {
      old = find_name a (names_in old kind);
      new = side_number kind new b;
      stands = can_match old new kind a b && not (list_any (clash (n.Match i a b)) acc);
    } ∷ [] else []) (pick (i == kind) refl) where
      pick : (t : Bool) → t ≡ (i == kind) → (i == kind) ≡ false
      pick true e = absurd (h (eqb-true i kind (sym e)))
      pick false e = sym e

-- the entries of a mapping, one further
pub items_more : (xs : List (At Entry)) (i : ℕ) (x : At Entry) → i < length xs → x ≡ get_or xs i x →
    map (λ y. y.it) (take i xs) ++ x.it ∷ [] ≡ map (λ y. y.it) (take (i + 1) xs)
items_more xs i x lt e =
    sym (ap (λ ys. map (λ y. y.it) ys) (take_more xs i x lt) ∙ (map-append (λ y. y.it) (take i xs) (get_or xs i x ∷ [])
    ∙ ap (λ y. map (λ z. z.it) (take i xs) ++ y.it ∷ []) (sym e)))

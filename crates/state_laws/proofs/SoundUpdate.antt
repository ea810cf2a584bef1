-- The update of a valid state by a sound patch is a valid state.
use Rattle.std.proofs.Common.{◌≡◌, ◌⊎◌, inl, inr, ℕ, ◌+◌, ◌<◌, Bool, true, false, not, List, [], ◌∷◌, Option, Some, None, refl, sym, ◌∙◌, ap, subst, length, nat_lt, arith}
use Rattle.std.specs.Prelude.{zero, suc, find, ◌==◌, ◌&&◌, ◌||◌, cond, if◌then◌else◌, codes, slice_get, Ok}
use Rattle.std.specs.Option.{option_map, option_flatten}
use Rattle.std.specs.List.{list_any, position_from}
use Rattle.std.proofs.lemmas.Option.{none-some, same_Some, slice_get_within}
use Rattle.std.proofs.lemmas.List.{length-map}
use Rattle.std.proofs.lemmas.Bool.{ltb-true}
use Rattle.c_tree.specs.declared.lifted.Lifted.{Lifted}
use Rattle.c_tree.specs.declared.mapping.LEntry.{LEntry}
use Rattle.c_tree.specs.declared.state.State.{State}
use Rattle.c_tree.specs.Scope.{is_same_name}
use Rattle.c_tree.specs.Step.{function_of}
use Rattle.c_tree.specs.Valid.{Valid}
use Rattle.c_tree.specs.StartForm.{CanStart}
use Rattle.c_tree.specs.Names.{is_number, find_name, names_in}
use Rattle.c_tree.specs.Link.{Link, Claim, new_side, unclaimed, match_of, matches, match_at, origin, link_of, start_alike, any_two}
use Rattle.c_tree.specs.StartForm.{is_start}
use Rattle.c_tree.specs.Suits.{start_differs, loses_start}
use Rattle.c_tree.specs.Sound.{below, sound_match, are_sound}
use Rattle.c_tree.specs.Update.{update_by}
use Rattle.state_laws.proofs.Refers.{refers_more}
use Rattle.state_laws.proofs.Forms.{Distinct, HasForm}
use Rattle.state_laws.proofs.TypedValues.{no_false}
use Rattle.state_laws.proofs.Filled.{and_both, position_found}
use Rattle.state_laws.proofs.SoundFits.{not_true, clash_of, number_known, UnchangedKept, maps_well, inits_give, fields_give}
use Rattle.state_laws.proofs.ValidUpdate.{valid_update}
use Rattle.state_laws.proofs.Matched.{claims, Says, any_says, says_any, find_says, found_of, says_sound, says_once, ByName, match_known, enum_get, same_name, own_name, own_number}

-- the first of a list that passes, where only one does
pub only_position : {A : Type 0} (p : A → Bool) (xs : List A) (j i m : ℕ) (x : A) → m ≡ j + i → slice_get xs i ≡ Some x → p x ≡ true →
    ((u : ℕ) (y : A) → slice_get xs u ≡ Some y → p y ≡ true → u ≡ i) → position_from p j xs ≡ Some m
only_position p [] j i m x e g t once = absurd (none-some x g)
only_position {A} p (y ∷ rest) j zero m x e g t once =
    ap (λ b. cond b (Some j) (position_from p (j + 1) rest)) (ap (λ z. p z) (same_Some y x g) ∙ t) ∙ ap (λ z. Some z) (let q : j ≡ m = omega (arith, e) in q)
only_position {A} p (y ∷ rest) j (suc i) m x e g t once =
    ap (λ b. cond b (Some j) (position_from p (j + 1) rest)) (no (p y) refl)
    ∙ only_position p rest (j + 1) i m x (omega (arith, e)) g t (λ u z a b. let q : suc u ≡ suc i = once (suc u) z a b in omega (arith, q))
  where
    no : (b : Bool) → p y ≡ b → p y ≡ false
    no false f = f
    no true f = absurd (let q : 0 ≡ suc i = once 0 y refl f in omega (arith, q))

pub number_there : (names : List (List ℕ)) (name : List ℕ) (i : ℕ) → Distinct names → slice_get names i ≡ Some name → find_name name names ≡ Some i
number_there names name i d e =
    only_position (is_same_name name) names 0 i i name (omega arith) e (own_name name)
    (λ u y g t. d u i name (g ∙ ap (λ z. Some z) (sym (same_name name y t))) e)

pub number_at : (names : List (List ℕ)) (name : List ℕ) (j : ℕ) → find_name name names ≡ Some j → slice_get names j ≡ Some name
number_at names name j e =
    let f = position_found (is_same_name name) names 0 j e in
    let is : f.0 ≡ j = (let q : j ≡ 0 + f.0 = f.1.0 in omega (arith, q)) in
    subst (λ i. slice_get names i ≡ Some name) is (f.1.1.1.0 ∙ ap (λ z. Some z) (sym (same_name name f.1.1.0 f.1.1.1.1)))

pub of_differs : (b c d : Bool) → ((if b then not c else c) || d) ≡ false → (d ≡ false) × ((b ≡ true → c ≡ true) × (c ≡ true → b ≡ true))
of_differs true true d e = (e, (λ _. refl, λ _. refl))
of_differs true false d e = absurd (no_false (sym e))
of_differs false true d e = absurd (no_false (sym e))
of_differs false false d e = (e, (λ q. q, λ q. q))

pub sound_claim : (k : Link) (a : ℕ) (b : Option ℕ) → sound_match k 0 a b ≡ true → start_differs k.old k.new a b ≡ false
sound_claim k a b e = not_true (start_differs k.old k.new a b) (and_both (nat_lt 0 4 && nat_lt a (length (names_in k.old 0)) && below b (length (names_in k.new 0))) (not (0 == 0 && start_differs k.old k.new a b)) e).1

pub within_claim : (k : Link) (kind a j : ℕ) → sound_match k kind a (Some j) ≡ true → j < length (names_in k.new kind)
within_claim k kind a j e =
    let q = and_both (nat_lt kind 4 && nat_lt a (length (names_in k.old kind)) && below (Some j) (length (names_in k.new kind))) (not (kind == 0 && start_differs k.old k.new a (Some j))) e in
    let r = and_both (nat_lt kind 4 && nat_lt a (length (names_in k.old kind))) (nat_lt j (length (names_in k.new kind))) q.0 in
    ltb-true j (length (names_in k.new kind)) r.1

-- a match lies inside the new program
pub within_match : (k : Link) (kind : ℕ) (entries : List LEntry) (may : ℕ → ℕ → Bool) (i j : ℕ) → are_sound k entries ≡ true →
    match_at (matches (claims kind entries) (names_in k.old kind) (names_in k.new kind) may) i ≡ Some j → j < length (names_in k.new kind)
within_match k kind entries may i j s e = pick (match_known kind entries (names_in k.old kind) (names_in k.new kind) may i j e).1.1 where
  pick : {name : List ℕ} → Says kind i (Some j) entries ⊎ ByName (claims kind entries) (names_in k.new kind) (may i) name i j → j < length (names_in k.new kind)
  pick (inl x) = within_claim k kind i j (says_sound k kind i (Some j) entries s x)
  pick {name} (inr x) = slice_get_within (names_in k.new kind) j name (number_at (names_in k.new kind) name j x.named)

-- structs are matched one to one
pub one_to_one : (k : Link) (kind : ℕ) (entries : List LEntry) (may : ℕ → ℕ → Bool) (i u j : ℕ) → are_sound k entries ≡ true → Distinct (names_in k.old kind) →
    match_at (matches (claims kind entries) (names_in k.old kind) (names_in k.new kind) may) i ≡ Some j →
    match_at (matches (claims kind entries) (names_in k.old kind) (names_in k.new kind) may) u ≡ Some j → u ≡ i
one_to_one k kind entries may i u j s d e f =
    let a = match_known kind entries (names_in k.old kind) (names_in k.new kind) may i j e in
    let b = match_known kind entries (names_in k.old kind) (names_in k.new kind) may u j f in
    pick a.0 b.0 a.1.0 b.1.0 a.1.1 b.1.1
  where
    new : List (List ℕ)
    new = names_in k.new kind

    taken : (x : ℕ) → Says kind x (Some j) entries → list_any (λ c. is_number c.new j) (claims kind entries) ≡ true
    taken x y = says_any kind (λ c. is_number c.new j) x (Some j) entries y (own_number j)

    pick : (a b : List ℕ) → slice_get (names_in k.old kind) i ≡ Some a → slice_get (names_in k.old kind) u ≡ Some b → Says kind i (Some j) entries ⊎ ByName (claims kind entries) new (may i) a i j →
        Says kind u (Some j) entries ⊎ ByName (claims kind entries) new (may u) b u j → u ≡ i
    pick a b g h (inl x) (inl y) = says_once k kind u i j entries s y x
    pick a b g h (inl x) (inr y) = absurd (clash_of (list_any (λ c. is_number c.new j) (claims kind entries)) (taken i x) y.new_free)
    pick a b g h (inr x) (inl y) = absurd (clash_of (list_any (λ c. is_number c.new j) (claims kind entries)) (taken u y) x.new_free)
    pick a b g h (inr x) (inr y) =
        let same : Some a ≡ Some b = sym (number_at new a j x.named) ∙ number_at new b j y.named in
        d u i a (h ∙ sym same) g

pub origin_known : (found : List (Option ℕ)) (i j : ℕ) → ((u : ℕ) → match_at found u ≡ Some j → u ≡ i) → match_at found i ≡ Some j → origin found j ≡ Some i
origin_known found i j once e = pick (slice_get found i) refl e where
  pick : (o : Option (Option ℕ)) → slice_get found i ≡ o → option_flatten o ≡ Some j → origin found j ≡ Some i
  pick None g w = absurd (none-some j w)
  pick (Some m) g w = only_position (λ o. is_number o j) found 0 i i m (omega arith) g (ap (λ o. is_number o j) w ∙ own_number j)
      (λ u y a t. once u (ap (λ o. option_flatten o) a ∙ number_known y j t))

-- what can be started goes to what can be started
pub start_match : (k : Link) (entries : List LEntry) (f g : ℕ) → are_sound k entries ≡ true →
    match_at (matches (claims 0 entries) (names_in k.old 0) (names_in k.new 0) (start_alike k.old k.new)) f ≡ Some g → CanStart (function_of k.old f) → CanStart (function_of k.new g)
start_match k entries f g s e c = pick (match_known 0 entries (names_in k.old 0) (names_in k.new 0) (start_alike k.old k.new) f g e).1.1 where
  both : (a b : Bool) → a ≡ true → (a && not b) ≡ false → b ≡ true
  both true true p q = refl
  both true false p q = absurd (no_false (sym q))
  both false b p q = absurd (no_false p)

  alike : (a b : Bool) → a ≡ true → (if a then b else not b) ≡ true → b ≡ true
  alike true b p q = q
  alike false b p q = absurd (no_false p)

  pick : {name : List ℕ} → Says 0 f (Some g) entries ⊎ ByName (claims 0 entries) (names_in k.new 0) (start_alike k.old k.new f) name f g → is_start (function_of k.new g) ≡ true
  pick (inl x) = both (is_start (function_of k.old f)) (is_start (function_of k.new g)) c (of_differs (f == k.old.main) (is_number (Some g) k.new.main) (loses_start k.old k.new f (Some g)) (sound_claim k f (Some g) (says_sound k 0 f (Some g) entries s x))).0
  pick (inr x) = alike (is_start (function_of k.old f)) (is_start (function_of k.new g)) c x.allowed

-- `main` goes to `main`
pub main_match : (k : Link) (entries : List LEntry) → are_sound k entries ≡ true → HasForm k.old → HasForm k.new →
    match_at (matches (claims 0 entries) (names_in k.old 0) (names_in k.new 0) (start_alike k.old k.new)) k.old.main ≡ Some k.new.main
main_match k entries s a b =
    ap (λ o. option_flatten o) (enum_get (λ x. match_of cs new (start_alike k.old k.new x.0) x.0 x.1) 0 k.old.main k.old.main (names_in k.old 0) (omega arith))
    ∙ (ap (λ o. option_flatten (option_map (λ name. match_of cs new (start_alike k.old k.new k.old.main) k.old.main name) o)) a.main
    ∙ cases (list_any (λ c. is_number c.old k.old.main) cs) refl)
  where
    cs : List Claim
    cs = claims 0 entries

    new : List (List ℕ)
    new = names_in k.new 0

    sides : (x : ℕ) (y : Option ℕ) → Says 0 x y entries → ((x == k.old.main) ≡ true → is_number y k.new.main ≡ true) × (is_number y k.new.main ≡ true → (x == k.old.main) ≡ true)
    sides x y z = (of_differs (x == k.old.main) (is_number y k.new.main) (loses_start k.old k.new x y) (sound_claim k x y (says_sound k 0 x y entries s z))).1

    -- an entry names `main`
    stands : list_any (λ c. is_number c.old k.old.main) cs ≡ true → list_any (λ c. is_number c.old k.old.main && c.stands) cs ≡ true
    stands e =
        let q = any_says 0 (λ c. is_number c.old k.old.main) entries e in
        says_any 0 (λ c. is_number c.old k.old.main && c.stands) q.0 q.1.0 entries q.1.1.0 (ap (λ b. b && true) q.1.1.1)

    claimed : list_any (λ c. is_number c.old k.old.main) cs ≡ true → new_side (find (λ c. is_number c.old k.old.main && c.stands) cs) ≡ Some k.new.main
    claimed e =
        let c = found_of (λ c. is_number c.old k.old.main && c.stands) cs (stands e) in
        let q = find_says 0 (λ c. is_number c.old k.old.main && c.stands) entries c.0 c.1 in
        let old : (q.0 == k.old.main) ≡ true = ap (λ c. is_number c.old k.old.main) (sym q.1.1.0) ∙ (and_both (is_number c.0.old k.old.main) c.0.stands q.1.1.1.1).0 in
        ap (λ o. new_side o) c.1 ∙ (ap (λ c. c.new) q.1.1.0 ∙ number_known q.1.0 k.new.main ((sides q.0 q.1.0 q.1.1.1.0).0 old))

    -- none does
    free : list_any (λ c. is_number c.old k.old.main) cs ≡ false → (b : Bool) → list_any (λ c. is_number c.new k.new.main) cs ≡ b → b ≡ false
    free e false g = refl
    free e true g =
        let q = any_says 0 (λ c. is_number c.new k.new.main) entries g in
        let old : (q.0 == k.old.main) ≡ true = (sides q.0 q.1.0 q.1.1.0).1 q.1.1.1 in
        absurd (clash_of (list_any (λ c. is_number c.old k.old.main) cs) (says_any 0 (λ c. is_number c.old k.old.main) q.0 q.1.0 entries q.1.1.0 old) e)

    alike : start_alike k.old k.new k.old.main k.new.main ≡ true
    alike = ap (λ b. if b then is_start (function_of k.new k.new.main) else not (is_start (function_of k.new k.new.main))) a.main_called ∙ ap (λ b. not b) b.main_called

    open_side : list_any (λ c. is_number c.old k.old.main) cs ≡ false → unclaimed cs (start_alike k.old k.new k.old.main) (find_name (codes "main") new) ≡ Some k.new.main
    open_side e =
        ap (λ o. unclaimed cs (start_alike k.old k.new k.old.main) o) (number_there new (codes "main") k.new.main b.functions b.main)
        ∙ (ap (λ b. if b || not (start_alike k.old k.new k.old.main k.new.main) then None else Some k.new.main) (free e (list_any (λ c. is_number c.new k.new.main) cs) refl)
        ∙ ap (λ b. if false || not b then None else Some k.new.main) alike)

    cases : (b : Bool) → list_any (λ c. is_number c.old k.old.main) cs ≡ b →
        (if b then new_side (find (λ c. is_number c.old k.old.main && c.stands) cs) else unclaimed cs (start_alike k.old k.new k.old.main) (find_name (codes "main") new)) ≡ Some k.new.main
    cases true e = claimed e
    cases false e = open_side e

-- `Sound` as a test that passes
pub sound_update_by : (old new : Lifted) (entries : List LEntry) (s s' : State) → HasForm old → HasForm new → UnchangedKept (link_of old new entries) → are_sound (link_of old new entries) entries ≡ true →
    Valid old s → update_by (link_of old new entries) entries s ≡ Ok s' → Valid new s'
sound_update_by old new entries s s' a b kept sound v e =
    let k : Link = link_of old new entries in
    let m : ℕ = length s.heap.objects in
    valid_update k entries s s' (record {
      starts = record { main = main_match k entries sound a b; start = λ f g e c. start_match k entries f g sound e c };
      maps = maps_well k entries m sound (λ f g e. subst (λ z. g < z) (length-map new.functions (λ x. x.name)) (within_match k 0 entries (start_alike old new) f g sound e)) kept;
      fields = fields_give k entries m sound (λ i j e. (
        subst (λ z. j < z) (length-map new.structs (λ x. x.name)) (within_match k 1 entries any_two i j sound e),
        origin_known k.structs i j (λ u f. one_to_one k 1 entries any_two i u j sound a.structs e f) e,
      ));
      inits = inits_give k entries m sound;
      initial = λ i g e. refers_more 0 m g.ty g.init (omega arith) (b.initial i g e);
    }) v e

-- What stands at the first place of a name is the first of that name.
use Rattle.std.proofs.Common.{◌≡◌, ℕ, ◌+◌, ◌≤◌, subst, Bool, true, false, cond, ◌&&◌, ◌||◌, List, [], ◌∷◌, length, map, Option, Some, None, refl, sym, ◌∙◌, ap, nat_lt, arith}
use Rattle.std.specs.Prelude.{find, filter, is_some, position, slice_get, unwrap_or}
use Rattle.std.specs.Option.{option_map}
use Rattle.std.specs.List.{position_from, position_or_len, list_any}
use Rattle.std.specs.Cmp.Lexicographic.{same_text, other_text}
use Rattle.std.proofs.lemmas.Bool.{ltb-false}
use Rattle.std.proofs.lemmas.Option.{slice_get_past, slice_get-map}
use Rattle.std.proofs.lemmas.List.Folds.{find_at}
use Rattle.std.proofs.lemmas.Iterator.Adapters.{position_from-zero}
use Rattle.c_tree.specs.declared.scope.Named.{Named}
use Rattle.c_tree.specs.declared.program.At.{At}
use Rattle.c_tree.specs.declared.program.Program.{Program}
use Rattle.c_tree.specs.declared.program.Struct.{Struct}
use Rattle.c_tree.specs.declared.program.Field.{Field}
use Rattle.c_tree.specs.Scope.{is_same_name, names_of, has_name, struct_named, file_scope, field_named, is_defined}
use Rattle.c_tree.specs.Typing.{definitions}
use Rattle.c_tree.specs.Lifting.{number_of, struct_number, function_number}
use Rattle.c_tree.specs.Names.{find_name}
use Rattle.c_tree.specs.Numbers.{item_at}
use Rattle.name_index.specs.Tables.{IsTableOf, field_names, names_in, struct_names, function_names}

pub is_same_name-comm : (a b : List ℕ) → is_same_name a b ≡ is_same_name b a
is_same_name-comm a b = pick (is_same_name a b) (is_same_name b a) refl refl where
  pick : (p q : Bool) → p ≡ is_same_name a b → q ≡ is_same_name b a → p ≡ q
  pick true true e d = refl
  pick false false e d = refl
  pick true false e d = absurd (other_text b a d (sym (same_text a b e)))
  pick false true e d = absurd (other_text a b e (sym (same_text b a d)))

pub position_from-map : {X Y : Type 0} (p : Y → Bool) (f : X → Y) (i : ℕ) (xs : List X) → position_from p i (map f xs) ≡ position_from (λ x. p (f x)) i xs
position_from-map p f i [] = refl
position_from-map p f i (x ∷ xs) = ap (cond (p (f x)) (Some i)) (position_from-map p f (i + 1) xs)

pub find_agree : {X : Type 0} (p q : X → Bool) → ((x : X) → p x ≡ q x) → (xs : List X) → find p xs ≡ find q xs
find_agree p q e [] = refl
find_agree p q e (x ∷ xs) = ap (λ b. cond b (Some x) (find p xs)) (e x) ∙ ap (cond (q x) (Some x)) (find_agree p q e xs)

pub list_any_agree : {X : Type 0} (p q : X → Bool) → ((x : X) → p x ≡ q x) → (xs : List X) → list_any p xs ≡ list_any q xs
list_any_agree p q e [] = refl
list_any_agree p q e (x ∷ xs) = ap (λ b. b || list_any p xs) (e x) ∙ ap (λ b. q x || b) (list_any_agree p q e xs)

pub item_at-position : {X : Type 0} (p : X → Bool) (xs : List X) → item_at (position_from p 0 xs) xs ≡ find p xs
item_at-position p xs =
    ap (λ o. item_at o xs) (sym (position_from-zero p xs)) ∙ (pick (nat_lt (position_or_len p xs) (length xs)) refl ∙ sym (find_at p xs)) where
      pick : (b : Bool) → b ≡ nat_lt (position_or_len p xs) (length xs) → item_at (cond b (Some (position_or_len p xs)) None) xs ≡ slice_get xs (position_or_len p xs)
      pick true e = refl
      pick false e = sym (slice_get_past xs (position_or_len p xs) (ltb-false (position_or_len p xs) (length xs) (sym e)))

-- by a name of each item
pub item_at-find_name : {X : Type 0} (f : X → List ℕ) (name : List ℕ) (xs : List X) → item_at (find_name name (map f xs)) xs ≡ find (λ x. is_same_name name (f x)) xs
item_at-find_name f name xs = ap (λ o. item_at o xs) (position_from-map (is_same_name name) f 0 xs) ∙ item_at-position (λ x. is_same_name name (f x)) xs

pub item_at-place_flipped : {X : Type 0} (f : X → List ℕ) (name : List ℕ) (xs : List X) → item_at (find_name name (map f xs)) xs ≡ find (λ x. is_same_name (f x) name) xs
item_at-place_flipped f name xs = item_at-find_name f name xs ∙ find_agree (λ x. is_same_name name (f x)) (λ x. is_same_name (f x) name) (λ x. is_same_name-comm name (f x)) xs

pub item_at-map : {X Y : Type 0} (f : X → Y) (o : Option ℕ) (xs : List X) → item_at o (map f xs) ≡ option_map f (item_at o xs)
item_at-map f None xs = refl
item_at-map f (Some i) xs = slice_get-map f xs i

pub is_some-position : {X : Type 0} (p : X → Bool) (i : ℕ) (xs : List X) → is_some (position_from p i xs) ≡ list_any p xs
is_some-position p i [] = refl
is_some-position p i (x ∷ xs) = pick (p x) (is_some-position p (i + 1) xs) where
  pick : (b : Bool) → is_some (position_from p (i + 1) xs) ≡ list_any p xs → is_some (cond b (Some i) (position_from p (i + 1) xs)) ≡ (b || list_any p xs)
  pick true e = refl
  pick false e = e

pub is_some-find_name : {X : Type 0} (f : X → List ℕ) (name : List ℕ) (xs : List X) → is_some (find_name name (map f xs)) ≡ list_any (λ x. is_same_name name (f x)) xs
is_some-find_name f name xs = ap is_some (position_from-map (is_same_name name) f 0 xs) ∙ is_some-position (λ x. is_same_name name (f x)) 0 xs

pub list_any-filter : {X : Type 0} (p q : X → Bool) (xs : List X) → list_any p (filter q xs) ≡ list_any (λ x. p x && q x) xs
list_any-filter p q [] = refl
list_any-filter p q (x ∷ xs) = pick (q x) (list_any-filter p q xs) where
  kept : (a b c : Bool) → b ≡ c → (a || b) ≡ ((a && true) || c)
  kept true b c e = refl
  kept false b c e = e

  left_out : (a b c : Bool) → b ≡ c → b ≡ ((a && false) || c)
  left_out true b c e = e
  left_out false b c e = e

  pick : (b : Bool) → list_any p (filter q xs) ≡ list_any (λ x. p x && q x) xs →
      list_any p (cond b (x ∷ filter q xs) (filter q xs)) ≡ ((p x && b) || list_any (λ x. p x && q x) xs)
  pick true e = kept (p x) _ _ e
  pick false e = left_out (p x) _ _ e

-- the number of a name among items that have names
pub position_from_agree : {X : Type 0} (p q : X → Bool) → ((x : X) → p x ≡ q x) → (i : ℕ) (xs : List X) → position_from p i xs ≡ position_from q i xs
position_from_agree p q e i [] = refl
position_from_agree p q e i (x ∷ xs) = ap (λ b. cond b (Some i) (position_from p (i + 1) xs)) (e x) ∙ ap (cond (q x) (Some i)) (position_from_agree p q e (i + 1) xs)

pub number_of-find_name : {X : Type 0} (g : X → At (List ℕ)) (name : List ℕ) (xs : List X) → unwrap_or (find_name name (map (λ x. (g x).it) xs)) 0 ≡ number_of (map g xs) name
number_of-find_name g name xs =
    ap (λ o. unwrap_or o 0)
    (position_from-map (is_same_name name) (λ x. (g x).it) 0 xs
    ∙ (position_from_agree (λ x. is_same_name name (g x).it) (λ x. is_same_name (g x).it name) (λ x. is_same_name-comm name (g x).it) 0 xs
    ∙ (sym (position_from-map (λ n. is_same_name n.it name) g 0 xs) ∙ sym (position_from-zero (λ n. is_same_name n.it name) (map g xs)))))

-- the look-ups of a file
pub named_is : (q p : Program) (names : List Named) (places structs defined : List (List ℕ)) (fields : List (List (List ℕ))) (name : List ℕ) (items : List Named) (o : Option Named) →
    p ≡ q → IsTableOf p names places structs fields defined → items ≡ names → o ≡ item_at (find_name name places) items → o ≡ find (has_name name) (names_of q)
named_is q p names places structs defined fields name items o view t is e = subst (λ q. o ≡ find (has_name name) (names_of q)) view (e ∙ (ap (λ z. item_at (find_name name z) items) t.all_places ∙ (ap (item_at (find_name name (names_in names))) is
    ∙ (item_at-find_name (λ x. x.name) name names ∙ ap (find (has_name name)) t.all_names))))

pub struct_is : (q p : Program) (names : List Named) (places structs defined : List (List ℕ)) (fields : List (List (List ℕ))) (name : List ℕ) (items : List Struct) (o : Option Struct) →
    p ≡ q → IsTableOf p names places structs fields defined → items ≡ p.structs → o ≡ item_at (find_name name structs) items → o ≡ struct_named (file_scope q) name
struct_is q p names places structs defined fields name items o view t is e = subst (λ q. o ≡ struct_named (file_scope q) name) view (e ∙ (ap (λ z. item_at (find_name name z) items) t.all_structs ∙ (ap (item_at (find_name name (struct_names p.structs))) is
    ∙ item_at-place_flipped (λ d. d.name.it) name p.structs)))

pub fields_are : (q p : Program) (names : List Named) (places structs defined : List (List ℕ)) (fields : List (List (List ℕ))) (name : List ℕ) (items : List (List (List ℕ))) (o : Option (List (List ℕ))) →
    p ≡ q → IsTableOf p names places structs fields defined → items ≡ fields → o ≡ item_at (find_name name structs) items → o ≡ option_map field_names (struct_named (file_scope q) name)
fields_are q p names places structs defined fields name items o view t is e = subst (λ q. o ≡ option_map field_names (struct_named (file_scope q) name)) view (e ∙ (ap (λ z. item_at (find_name name z) items) t.all_structs ∙ (ap (item_at (find_name name (struct_names p.structs))) (is ∙ t.all_fields)
    ∙ (item_at-map field_names (find_name name (struct_names p.structs)) p.structs ∙ ap (option_map field_names) (item_at-place_flipped (λ d. d.name.it) name p.structs)))))

pub field_is : (found : Option Struct) (d : Struct) (fields : List (List ℕ)) (name : List ℕ) (items : List Field) (o : Option Field) →
    Some d ≡ found → Some fields ≡ option_map field_names found → items ≡ d.fields → o ≡ item_at (find_name name fields) items → o ≡ field_named found name
field_is found d fields name items o is names all e =
    let same : fields ≡ field_names d = let h : Some fields ≡ Some (field_names d) = names ∙ ap (option_map field_names) (sym is) in cc in
    e ∙ (ap (λ z. item_at (find_name name z) items) same ∙ (ap (item_at (find_name name (field_names d))) all
    ∙ (item_at-place_flipped (λ f. f.name.it) name d.fields ∙ ap (λ z. field_named z name) is)))

pub defined_is : (q p : Program) (names : List Named) (places structs defined : List (List ℕ)) (fields : List (List (List ℕ))) (name : List ℕ) (b : Bool) (o : Option ℕ) →
    p ≡ q → IsTableOf p names places structs fields defined → o ≡ find_name name defined → b ≡ is_some o → b ≡ is_defined q name
defined_is q p names places structs defined fields name b o view t is e = subst (λ q. b ≡ is_defined q name) view (e ∙ (ap is_some is ∙ (ap (λ z. is_some (find_name name z)) t.all_defined ∙ (is_some-find_name (λ f. f.name.it) name (definitions p)
    ∙ (list_any-filter (λ f. is_same_name name f.name.it) (λ f. is_some f.body) p.functions
    ∙ list_any_agree (λ f. is_same_name name f.name.it && is_some f.body) (λ f. is_same_name f.name.it name && is_some f.body)
    (λ f. ap (λ b. b && is_some f.body) (is_same_name-comm name f.name.it)) p.functions)))))

pub struct_number_is : (q p : Program) (names : List Named) (places structs defined : List (List ℕ)) (fields : List (List (List ℕ))) (name : List ℕ) (n : ℕ) (o : Option ℕ) →
    p ≡ q → IsTableOf p names places structs fields defined → o ≡ find_name name structs → n ≡ unwrap_or o 0 → n ≡ struct_number q name
struct_number_is q p names places structs defined fields name n o view t is e =
    subst (λ q. n ≡ struct_number q name) view (e ∙ (ap (λ o. unwrap_or o 0) (is ∙ ap (find_name name) t.all_structs) ∙ number_of-find_name (λ d. d.name) name p.structs))

pub function_number_is : (q p : Program) (names : List Named) (places structs defined : List (List ℕ)) (fields : List (List (List ℕ))) (name : List ℕ) (n : ℕ) (o : Option ℕ) →
    p ≡ q → IsTableOf p names places structs fields defined → o ≡ find_name name defined → n ≡ unwrap_or o 0 → n ≡ function_number q name
function_number_is q p names places structs defined fields name n o view t is e =
    subst (λ q. n ≡ function_number q name) view (e ∙ (ap (λ o. unwrap_or o 0) (is ∙ ap (find_name name) t.all_defined) ∙ number_of-find_name (λ f. f.name) name (definitions p)))

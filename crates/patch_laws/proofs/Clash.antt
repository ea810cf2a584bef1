-- Two entries by names clash exactly where their numbers do.
use Rattle.std.proofs.Common.{◌≡◌, ℕ, Bool, true, false, List, [], ◌∷◌, Option, Some, None, Ok, refl, sym, ◌∙◌, ap, arith}
use Rattle.std.specs.Prelude.{◌==◌, ◌&&◌, ◌||◌}
use Rattle.std.specs.List.{list_any, AllZip}
use Rattle.std.proofs.lemmas.Bool.{eqb-true}
use Rattle.std.proofs.lemmas.Bool.Decides.{nat_tests}
use Rattle.c_tree.specs.declared.lifted.Lifted.{Lifted}
use Rattle.c_tree.specs.declared.program.Expr.{Expr}
use Rattle.c_tree.specs.declared.mapping.Pt.{Pt}
use Rattle.c_tree.specs.declared.mapping.Part.{Part}
use Rattle.c_tree.specs.declared.mapping.Entry.{Entry}
use Rattle.c_tree.specs.declared.mapping.Entry.TheVariants as n
use Rattle.c_tree.specs.declared.mapping.LEntry.{LEntry}
use Rattle.c_tree.specs.declared.mapping.LEntry.TheVariants as l
use Rattle.c_tree.specs.Scope.{is_same_name}
use Rattle.c_tree.specs.Step.{function_of}
use Rattle.c_tree.specs.Names.{find_name, names_in, slot_names, struct_of, same_number}
use Rattle.c_tree.specs.Points.{is_kind, place_of}
use Rattle.c_tree.specs.Link.{Link}
use Rattle.c_tree.specs.Causes.{same_side, clash}
use Rattle.c_tree.specs.Sound.{numbers_clash}
use Rattle.c_tree.specs.Chain.{new_number, lifted_entry}
use Rattle.patch_laws.proofs.Numbers.{same_found, same_place}
use Rattle.patch_laws.proofs.LiftedForms.{there_known, same_ok, MatchForm, FieldForm, InitForm, PointForm, EntryForm, entry_form}
use Rattle.c_tree.proofs.BoolLemmas.{and_same}

-- it does not matter which of two entries is the first
pub eqb_swapped : (a b : ℕ) → (a == b) ≡ (b == a)
eqb_swapped a b = grind (arith, nat_tests)

number_swapped : (a b : Option ℕ) → same_number a b ≡ same_number b a
number_swapped None None = refl
number_swapped None (Some b) = refl
number_swapped (Some a) None = refl
number_swapped (Some a) (Some b) = eqb_swapped a b

pub clash_swapped : (x y : LEntry) → numbers_clash x y ≡ numbers_clash y x
clash_swapped (l.Match i a b) (l.Match j c d) =
    ap (λ z. z && (a == c || same_number b d)) (eqb_swapped i j)
    ∙ (ap (λ z. j == i && (z || same_number b d)) (eqb_swapped a c) ∙ ap (λ z. j == i && (c == a || z)) (number_swapped b d))
clash_swapped (l.Field s a x) (l.Field t b y) = ap (λ z. z && a == b) (eqb_swapped s t) ∙ ap (λ z. t == s && z) (eqb_swapped a b)
clash_swapped (l.Init a x) (l.Init b y) = eqb_swapped a b
clash_swapped (l.Point f p x) (l.Point g r y) = ap (λ z. z && p == r) (eqb_swapped f g) ∙ ap (λ z. g == f && z) (eqb_swapped p r)
clash_swapped (l.Match i a b) (l.Field t c y) = refl
clash_swapped (l.Match i a b) (l.Init c y) = refl
clash_swapped (l.Match i a b) (l.Point g r y) = refl
clash_swapped (l.Match i a b) (l.Check y) = refl
clash_swapped (l.Field s a x) (l.Match j c d) = refl
clash_swapped (l.Field s a x) (l.Init c y) = refl
clash_swapped (l.Field s a x) (l.Point g r y) = refl
clash_swapped (l.Field s a x) (l.Check y) = refl
clash_swapped (l.Init a x) (l.Match j c d) = refl
clash_swapped (l.Init a x) (l.Field t b y) = refl
clash_swapped (l.Init a x) (l.Point g r y) = refl
clash_swapped (l.Init a x) (l.Check y) = refl
clash_swapped (l.Point f p x) (l.Match j c d) = refl
clash_swapped (l.Point f p x) (l.Field t b y) = refl
clash_swapped (l.Point f p x) (l.Init b y) = refl
clash_swapped (l.Point f p x) (l.Check y) = refl
clash_swapped (l.Check x) (l.Match j c d) = refl
clash_swapped (l.Check x) (l.Field t b y) = refl
clash_swapped (l.Check x) (l.Init b y) = refl
clash_swapped (l.Check x) (l.Point g r y) = refl
clash_swapped (l.Check x) (l.Check y) = refl

and_grouped : (a b c : Bool) → (a && b && c) ≡ (a && (b && c))
and_grouped true b c = refl
and_grouped false b c = refl

-- new sides
new_known : (kind : ℕ) (new : Lifted) (name : List ℕ) (o : Option ℕ) → new_number kind new (Some name) ≡ Ok o → (j : ℕ) × (find_name name (names_in new kind) ≡ Some j) × (Some j ≡ o)
new_known kind new name o w = let q = there_known _ _ _ o w in (q.0, q.1, same_ok (Some q.0) o q.2)

pub same_sides : (kind : ℕ) (new : Lifted) (a b : Option (List ℕ)) (i j : Option ℕ) → new_number kind new a ≡ Ok i → new_number kind new b ≡ Ok j → same_side a b ≡ same_number i j
same_sides kind new None b i j e f = ap (λ z. same_number z j) (same_ok None i e)
same_sides kind new (Some a) None i j e f =
    let p = new_known kind new a i e in
    ap (λ z. same_number (Some p.0) z) (same_ok None j f) ∙ ap (λ z. same_number z j) p.2
same_sides kind new (Some a) (Some b) i j e f =
    let p = new_known kind new a i e in
    let q = new_known kind new b j f in
    same_found (names_in new kind) a b p.0 q.0 p.1 q.1 ∙ (ap (λ z. same_number z (Some q.0)) p.2 ∙ ap (λ z. same_number i z) q.2)

match_clash : (k : Link) (i j : ℕ) (a c : List ℕ) (b d : Option (List ℕ)) (y z : LEntry) → MatchForm k.old k.new i a b y → MatchForm k.old k.new j c d z →
    clash (n.Match i a b) (n.Match j c d) ≡ numbers_clash y z
match_clash k i j a c b d y z p q =
    and_same (i == j) (i == j) (is_same_name a c || same_side b d) (p.from == q.from || same_number p.to q.to) refl (λ s. within (eqb-true i j s))
    ∙ (ap (λ t. numbers_clash t (l.Match j q.from q.to)) p.is ∙ ap (λ t. numbers_clash y t) q.is)
  where
    within : i ≡ j → (is_same_name a c || same_side b d) ≡ (p.from == q.from || same_number p.to q.to)
    within s =
        ap (λ t. t || same_side b d) (same_found (names_in k.old i) a c p.from q.from p.from_found (ap (λ t. find_name c (names_in k.old t)) s ∙ q.from_found))
        ∙ ap (λ t. p.from == q.from || t) (same_sides i k.new b d p.to q.to p.to_found (ap (λ t. new_number t k.new d) s ∙ q.to_found))

field_clash : (k : Link) (s t a b : List ℕ) (v w : Expr) (y z : LEntry) → FieldForm k s a v y → FieldForm k t b w z → clash (n.Field s a v) (n.Field t b w) ≡ numbers_clash y z
field_clash k s t a b v w y z p q =
    and_same (is_same_name s t) (p.struct == q.struct) (is_same_name a b) (p.field == q.field) structs (λ h. fields (eqb-true p.struct q.struct (sym structs ∙ h)))
    ∙ (ap (λ x. numbers_clash x (l.Field q.struct q.field q.value)) p.is ∙ ap (λ x. numbers_clash y x) q.is)
  where
    structs : is_same_name s t ≡ (p.struct == q.struct)
    structs = same_found (names_in k.new 1) s t p.struct q.struct p.struct_found q.struct_found

    fields : p.struct ≡ q.struct → is_same_name a b ≡ (p.field == q.field)
    fields h = same_found (slot_names (struct_of k.new p.struct).fields) a b p.field q.field p.field_found (ap (λ x. find_name b (slot_names (struct_of k.new x).fields)) h ∙ q.field_found)

init_clash : (k : Link) (a b : List ℕ) (v w : Expr) (y z : LEntry) → InitForm k a v y → InitForm k b w z → clash (n.Init a v) (n.Init b w) ≡ numbers_clash y z
init_clash k a b v w y z p q =
    same_found (names_in k.new 2) a b p.global q.global p.global_found q.global_found
    ∙ (ap (λ x. numbers_clash x (l.Init q.global q.value)) p.is ∙ ap (λ x. numbers_clash y x) q.is)

point_clash : (k : Link) (f g : List ℕ) (a c : Pt) (v w : List Part) (y z : LEntry) → PointForm k f a v y → PointForm k g c w z →
    clash (n.Point f a v) (n.Point g c w) ≡ numbers_clash y z
point_clash k f g a c v w y z p q =
    and_grouped (is_same_name f g) (is_kind a.kind c.kind) (a.number == c.number)
    ∙ (and_same (is_same_name f g) (p.function == q.function) (is_kind a.kind c.kind && a.number == c.number) (p.old_place == q.old_place) functions
    (λ h. places (eqb-true p.function q.function (sym functions ∙ h)))
    ∙ (ap (λ x. numbers_clash x (l.Point q.function q.old_place q.values)) p.is ∙ ap (λ x. numbers_clash y x) q.is))
  where
    functions : is_same_name f g ≡ (p.function == q.function)
    functions = same_found (names_in k.old 0) f g p.function q.function p.function_found q.function_found

    places : p.function ≡ q.function → (is_kind a.kind c.kind && a.number == c.number) ≡ (p.old_place == q.old_place)
    places h = same_place (function_of k.old p.function) a c p.old_place q.old_place p.old_found (ap (λ x. place_of (function_of k.old x) c) h ∙ q.old_found)

-- entries of different kinds never clash
apart : (y z s t : LEntry) → s ≡ y → t ≡ z → numbers_clash s t ≡ false → false ≡ numbers_clash y z
apart y z s t p q e = sym e ∙ (ap (λ x. numbers_clash x t) p ∙ ap (λ x. numbers_clash y x) q)

form_clash : (k : Link) (a b : Entry) (y z : LEntry) → EntryForm k a y → EntryForm k b z → clash a b ≡ numbers_clash y z
form_clash k (n.Match i a b) (n.Match j c d) y z p q = match_clash k i j a c b d y z p q
form_clash k (n.Field s a v) (n.Field t b w) y z p q = field_clash k s t a b v w y z p q
form_clash k (n.Init a v) (n.Init b w) y z p q = init_clash k a b v w y z p q
form_clash k (n.Point f a v) (n.Point g c w) y z p q = point_clash k f g a c v w y z p q
form_clash k (n.Match i a b) (n.Field t c w) y z p q = apart y z _ _ p.is q.is refl
form_clash k (n.Match i a b) (n.Init c w) y z p q = apart y z _ _ p.is q.is refl
form_clash k (n.Match i a b) (n.Point g c w) y z p q = apart y z _ _ p.is q.is refl
form_clash k (n.Match i a b) (n.Check w) y z p q = apart y z _ _ p.is q.is refl
form_clash k (n.Field s a v) (n.Match j c d) y z p q = apart y z _ _ p.is q.is refl
form_clash k (n.Field s a v) (n.Init c w) y z p q = apart y z _ _ p.is q.is refl
form_clash k (n.Field s a v) (n.Point g c w) y z p q = apart y z _ _ p.is q.is refl
form_clash k (n.Field s a v) (n.Check w) y z p q = apart y z _ _ p.is q.is refl
form_clash k (n.Init a v) (n.Match j c d) y z p q = apart y z _ _ p.is q.is refl
form_clash k (n.Init a v) (n.Field t b w) y z p q = apart y z _ _ p.is q.is refl
form_clash k (n.Init a v) (n.Point g c w) y z p q = apart y z _ _ p.is q.is refl
form_clash k (n.Init a v) (n.Check w) y z p q = apart y z _ _ p.is q.is refl
form_clash k (n.Point f a v) (n.Match j c d) y z p q = apart y z _ _ p.is q.is refl
form_clash k (n.Point f a v) (n.Field t c w) y z p q = apart y z _ _ p.is q.is refl
form_clash k (n.Point f a v) (n.Init c w) y z p q = apart y z _ _ p.is q.is refl
form_clash k (n.Point f a v) (n.Check w) y z p q = apart y z _ _ p.is q.is refl
form_clash k (n.Check v) (n.Match j c d) y z p q = apart y z _ _ p.is q.is refl
form_clash k (n.Check v) (n.Field t b w) y z p q = apart y z _ _ p.is q.is refl
form_clash k (n.Check v) (n.Init b w) y z p q = apart y z _ _ p.is q.is refl
form_clash k (n.Check v) (n.Point g c w) y z p q = apart y z _ _ p.is q.is refl
form_clash k (n.Check v) (n.Check w) y z p q = apart y z _ _ p.is q.is refl

-- two entries that lift clash exactly where their numbers do
pub clash_by_numbers : (k : Link) (a b : Entry) (y z : LEntry) → lifted_entry k a ≡ Ok y → lifted_entry k b ≡ Ok z → clash a b ≡ numbers_clash y z
clash_by_numbers k a b y z e f = form_clash k a b y z (entry_form k a y e) (entry_form k b z f)

-- each of some entries lifts
abbrev pub AllLift : Link → List Entry → List LEntry → Type 0
AllLift k xs ys = AllZip (λ x y. lifted_entry k x ≡ Ok y) xs ys

pub clashes_by_numbers : (k : Link) (a : Entry) (y : LEntry) (xs : List Entry) (ys : List LEntry) → lifted_entry k a ≡ Ok y → AllLift k xs ys →
    list_any (clash a) xs ≡ list_any (numbers_clash y) ys
clashes_by_numbers k a y [] [] e r = refl
clashes_by_numbers k a y [] (z ∷ ys) e r = absurd r
clashes_by_numbers k a y (x ∷ xs) [] e r = absurd r
clashes_by_numbers k a y (x ∷ xs) (z ∷ ys) e r =
    ap (λ t. t || list_any (clash a) xs) (clash_by_numbers k a x y z e r.0) ∙ ap (λ t. numbers_clash y z || t) (clashes_by_numbers k a y xs ys e r.1)

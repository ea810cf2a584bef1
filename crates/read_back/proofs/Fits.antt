-- What an expression of a mapping becomes by its numbers keeps the limits that the mapping keeps.
use Rattle.std.proofs.Common.{◌≡◌, ℕ, zero, suc, ◌+◌, ◌<◌, ◌≤◌, ◌⊎◌, inl, inr, Bool, true, false, pos, List, [], ◌∷◌, ◌++◌, Option, Some, None, refl, sym, ap, subst, ◌∙◌, arith}
use Rattle.std.specs.Prelude.{if◌then◌else◌, is_some, slice_get, slice_index_or}
use Rattle.std.specs.Option.{option_map, option_or}
use Rattle.std.specs.Fmt.{decimal}
use Rattle.std.proofs.lemmas.Bool.{cases_lt}
use Rattle.std.proofs.lemmas.Option.{none-some, same_Some}
use Rattle.c_tree.specs.declared.lifted.LExpr.{LExpr, more_of-LExpr}
use Rattle.c_tree.specs.declared.lifted.LExpr.TheVariants as l
use Rattle.c_tree.specs.declared.lifted.LStruct.{LStruct}
use Rattle.c_tree.specs.declared.op.UnOp.TheVariants as un
use Rattle.c_tree.specs.declared.op.BinOp.{BinOp}
use Rattle.c_tree.specs.declared.op.BinOp.TheVariants as bin
use Rattle.c_tree.specs.declared.ty.Ty.{Ty}
use Rattle.c_tree.specs.declared.program.ExprKind.{ExprKind}
use Rattle.c_tree.specs.Compute.{literals}
use Rattle.c_tree.specs.Types.{is_pointer}
use Rattle.c_tree.specs.Names.{find_name, slot_names, names_in, no_struct, struct_of}
use Rattle.c_tree.specs.Operators.{binding}
use Rattle.c_tree.specs.MapExpr.{Reads, passes, int_if, takes_one, takes_two, type_in, local_named, named, array_named, indexed, struct_fields, pointed, member_in, member, beside, operator, operated, numbered}
use Rattle.c_tree.specs.Shown.{strength}
use Rattle.read_back.specs.Kept as kept
use Rattle.read_back.specs.Kept.{Fitting}
use Rattle.c_reader.specs.Spelling.{plain}
use Rattle.patch_laws.proofs.Numbers.{number_at}
use Rattle.read_back.proofs.Shown.{Spelling, Fit, fit_number, fit_null, fit_name, fit_element, fit_field, fit_prefixed, fit_between, fit_bracketed}
use Rattle.read_back.proofs.Numbering.{is_zero, stays, named_is, operator_again}
use Rattle.read_back.proofs.Spelt.{named_of, spelling_of, CanSpell, name_of_number, slot_of_number}

-- Where one construct more may open, what fits still fits.
pub one_more : {r : Reads} {asked room : ℕ} {x : LExpr} {n : ℕ} → Fit r asked room x n → Fit r asked (suc room) x n
one_more (fit_number asked room n le small) = fit_number asked (suc room) n le small
one_more (fit_null asked room le) = fit_null asked (suc room) le
one_more (fit_name asked room word x le s found text strong) = fit_name asked (suc room) word x le s found text strong
one_more (fit_element asked b bytes g i le is found called f) = fit_element asked b bytes g i le is found called (one_more f)
one_more (fit_field asked b bytes p owner field le is found called f) = fit_field asked b bytes p owner field le is found called (one_more f)
one_more (fit_prefixed asked op a le f) = fit_prefixed asked op a le (one_more f)
one_more (fit_between asked op a b le is f g) = fit_between asked op a b le is (one_more f) (one_more g)
one_more (fit_bracketed asked x lt le f) = fit_bracketed asked x lt le (one_more f)

below : (op : BinOp) → binding op ≤ 9
below bin.Mul = omega arith
below bin.Div = omega arith
below bin.Rem = omega arith
below bin.Add = omega arith
below bin.Sub = omega arith
below bin.Shl = omega arith
below bin.Shr = omega arith
below bin.Lt = omega arith
below bin.Le = omega arith
below bin.Gt = omega arith
below bin.Ge = omega arith
below bin.Eq = omega arith
below bin.Ne = omega arith
below bin.BitAnd = omega arith
below bin.BitXor = omega arith
below bin.BitOr = omega arith
below bin.And = omega arith
below bin.Or = omega arith

-- What fits fits wherever it binds tightly enough.
pub raised : {r : Reads} {asked room : ℕ} {x : LExpr} {n : ℕ} (top : ℕ) → Fit r asked room x n → top ≤ strength x → Fit r top room x n
unfolding literals
raised top (fit_number asked room n le small) h = fit_number top room n h small
raised top (fit_null asked room le) h = fit_null top room h
raised top (fit_name asked room word x le s found text strong) h = fit_name top room word x (omega (arith, h, strong)) s found text strong
raised top (fit_element asked b bytes g i le is found called f) h = fit_element top b bytes g i h is found called f
raised top (fit_field asked b bytes p owner field le is found called f) h = fit_field top b bytes p owner field h is found called f
raised top (fit_prefixed asked op a le f) h = fit_prefixed top op a h f
raised top (fit_between asked op a b le is f g) h = fit_between top op a b h is f g
raised top (fit_bracketed asked x lt le f) h = one_more (raised top f h)

-- In brackets, where they are needed.
pub bracketed_fit : {r : Reads} {room : ℕ} {x : LExpr} {n : ℕ} (asked : ℕ) → asked ≤ 11 → Fit r 0 room x n → Fit r asked (suc room) x n
bracketed_fit {r} {room} {x} {n} asked le f = go (cases_lt (strength x) asked)
  where
    go : (strength x < asked) ⊎ (asked ≤ strength x) → Fit r asked (suc room) x n
    go (inl lt) = fit_bracketed asked x lt le f
    go (inr ge) = one_more (raised asked f ge)

-- A literal 0 beside a pointer fits where it fitted.
strong_zero : (x : LExpr) → is_zero x ≡ true → strength x ≡ 11
strong_zero (l.Num n) h = refl
strong_zero l.Null h = refl
strong_zero (l.Slot i) h = refl
strong_zero (l.Global g) h = refl
strong_zero (l.Elem' g a b) h = refl
strong_zero (l.Field' a b owner field) h = refl
strong_zero (l.Own i) h = refl
strong_zero (l.Un' op a b) h = cc
strong_zero (l.Bin' op a b c d) h = cc

named_no_zero : (r : Reads) (name : List ℕ) (x : LExpr) → named r name ≡ Some x → is_zero x ≡ false
named_no_zero r name x h = by (find_name name (slot_names r.slots)) (find_name name (slot_names r.own)) (find_name name (names_in r.program 2)) h
  where
    by : (a b c : Option ℕ) → option_or (option_or (option_map (λ i. l.Slot i) a) (option_map (λ i. l.Own i) b)) (option_map (λ g. l.Global g) c) ≡ Some x → is_zero x ≡ false
    by (Some i) b c h = sym (ap is_zero (same_Some _ _ h))
    by None (Some i) c h = sym (ap is_zero (same_Some _ _ h))
    by None None (Some i) h = sym (ap is_zero (same_Some _ _ h))
    by None None None h = absurd (none-some x h)

same_fit : {r : Reads} {asked room : ℕ} {x : LExpr} {n : ℕ} (t : Option Ty) → is_zero x ≡ false → Fit r asked room x n → Fit r asked room (beside x t) n
same_fit {r} {asked} {room} {x} {n} t h f = subst (λ y. Fit r asked room y n) (sym (stays x t h)) f

pub beside_fit : {r : Reads} {asked room : ℕ} {x : LExpr} {n : ℕ} (t : Option Ty) → Fit r asked room x n → Fit r asked room (beside x t) n
unfolding literals
beside_fit {r = r} t (fit_number asked room zero le small) = go (passes is_pointer t)
  where
    go : (b : Bool) → Fit r asked room (if b then l.Null else l.Num (pos 0)) 0
    go true = fit_null asked room le
    go false = fit_number asked room 0 le small
beside_fit t (fit_number asked room (suc n) le small) = fit_number asked room (suc n) le small
beside_fit t (fit_null asked room le) = fit_null asked room le
beside_fit {r = r} t (fit_name asked room word x le s found text strong) = same_fit t (named_no_zero r word x found) (fit_name asked room word x le s found text strong)
beside_fit t (fit_element asked b bytes g i le is found called f) = fit_element asked b bytes g i le is found called f
beside_fit t (fit_field asked b bytes p owner field le is found called f) = fit_field asked b bytes p owner field le is found called f
beside_fit t (fit_prefixed asked op a le f) = fit_prefixed asked op a le f
beside_fit t (fit_between asked op a b le is f g) = fit_between asked op a b le is f g
beside_fit {r = r} t (fit_bracketed asked x {room = room} {n = n} lt le f) = go (is_zero x) refl
  where
    go : (z : Bool) → is_zero x ≡ z → Fit r asked (suc room) (beside x t) n
    go true h = absurd (let e : strength x ≡ 11 = strong_zero x h in omega (arith, e, lt, le))
    go false h = same_fit t h (fit_bracketed asked x lt le f)

-- What an operator makes of two sides that fit.
between_fit : {r : Reads} {room n m : ℕ} (asked : ℕ) (op : BinOp) (a b : LExpr) → asked ≤ binding op → Fit r (binding op) room a n → Fit r (binding op + 1) room b m
    → Fit r asked room (operator r op a b) (n + 1 + m)
between_fit {r = r} asked bin.Eq a b le f g = fit_between asked bin.Eq (beside a (type_in r b)) (beside b (type_in r a)) le (operator_again r bin.Eq a b (beside a (type_in r b)) (beside b (type_in r a)) refl) (beside_fit (type_in r b) f) (beside_fit (type_in r a) g)
between_fit {r = r} asked bin.Ne a b le f g = fit_between asked bin.Ne (beside a (type_in r b)) (beside b (type_in r a)) le (operator_again r bin.Ne a b (beside a (type_in r b)) (beside b (type_in r a)) refl) (beside_fit (type_in r b) f) (beside_fit (type_in r a) g)
between_fit asked op a b le f g = fit_between asked op a b le refl f g

-- The spelling of a name that leads to something.
leaf : (r : Reads) → CanSpell r → (asked room : ℕ) (word : List ℕ) (x : LExpr) → asked ≤ 11 → named r word ≡ Some x → Fit r asked room x 0
leaf r can asked room word x le h = fit_name asked room word x le (spelling (find_name word (slot_names r.slots)) (find_name word (slot_names r.own)) (find_name word (names_in r.program 2)) refl refl refl h) h (named_is r word x h).text (named_is r word x h).strong
  where
    spelling : (a b c : Option ℕ) → find_name word (slot_names r.slots) ≡ a → find_name word (slot_names r.own) ≡ b → find_name word (names_in r.program 2) ≡ c
        → option_or (option_or (option_map (λ i. l.Slot i) a) (option_map (λ i. l.Own i) b)) (option_map (λ g. l.Global g) c) ≡ Some x → Spelling word
    spelling (Some i) b c p q s h = spelling_of word (can.slots i word (number_at (slot_names r.slots) word i p))
    spelling None (Some i) c p q s h = spelling_of word (plain (can.own i word (number_at (slot_names r.own) word i q)))
    spelling None None (Some i) p q s h = spelling_of word (plain (can.globals i word (number_at (names_in r.program 2) word i s)))
    spelling None None None p q s h = absurd (none-some x h)

-- The parts of an element, and of a field.
array_found : (r : Reads) (word : List ℕ) (g : ℕ) → array_named r word ≡ Some g → find_name word (names_in r.program 2) ≡ Some g
array_found r word g h = go (is_some (local_named r word)) h
  where
    go : (t : Bool) → (if t then None else find_name word (names_in r.program 2)) ≡ Some g → find_name word (names_in r.program 2) ≡ Some g
    go true h = absurd (none-some g h)
    go false h = h

struct_at : (xs : List LStruct) (i : ℕ) → struct_fields (slice_get xs i) ≡ (slice_index_or xs i no_struct).fields
struct_at [] i = refl
struct_at (x ∷ xs) zero = refl
struct_at (x ∷ xs) (suc i) = struct_at xs i

abbrev Strong : ℕ → LExpr → Type 0
Strong asked x = (asked ≤ 10) ⊎ (strength x ≡ 11)

none_pointed : (r : Reads) (b : Bool) (owner : ℕ) → pointed r.program (int_if b) ≡ Some owner → ⊥
none_pointed r true owner h = none-some owner h
none_pointed r false owner h = none-some owner h

pointer_strong : (r : Reads) (x : LExpr) (owner : ℕ) → pointed r.program (type_in r x) ≡ Some owner → strength x ≡ 11
unfolding literals
pointer_strong r (l.Num n) owner h = refl
pointer_strong r l.Null owner h = refl
pointer_strong r (l.Slot i) owner h = refl
pointer_strong r (l.Global g) owner h = refl
pointer_strong r (l.Elem' g a b) owner h = refl
pointer_strong r (l.Field' a b o field) owner h = refl
pointer_strong r (l.Own i) owner h = refl
pointer_strong r (l.Un' op a (more_of-LExpr x b)) owner h = absurd (none_pointed r (takes_one op (type_in r x)) owner h)
pointer_strong r (l.Bin' op a (more_of-LExpr x b) c (more_of-LExpr y d)) owner h = absurd (none_pointed r (takes_two op (type_in r x) (type_in r y)) owner h)

-- A field that was found, by the number of its struct and its own.
record FieldFound (r : Reads) (p : LExpr) (word : List ℕ) (y : LExpr) : Type 0 where
  owner : ℕ
  field : ℕ
  points : pointed r.program (type_in r p) ≡ Some owner
  found : find_name word (slot_names (struct_of r.program owner).fields) ≡ Some field
  is : l.Field p owner field ≡ y

field_found : (r : Reads) (p : LExpr) (word : List ℕ) (y : LExpr) → member r (Some p) word ≡ Some y → FieldFound r p word y
field_found r p word y h = go (pointed r.program (type_in r p)) refl h
  where
    named_field : (owner : ℕ) → pointed r.program (type_in r p) ≡ Some owner → (o : Option ℕ) → find_name word (slot_names (struct_fields (slice_get r.program.structs owner))) ≡ o
        → option_map (λ field. l.Field p owner field) o ≡ Some y → FieldFound r p word y
    named_field owner is None f h = absurd (none-some y h)
    named_field owner is (Some field) f h = record {
      owner = owner;
      field = field;
      points = is;
      found = ap (λ xs. find_name word (slot_names xs)) (sym (struct_at r.program.structs owner)) ∙ f;
      is = same_Some _ y h;
    }

    go : (o : Option ℕ) → pointed r.program (type_in r p) ≡ o → member_in r p word o ≡ Some y → FieldFound r p word y
    go None is h = absurd (none-some y h)
    go (Some owner) is h = named_field owner is (find_name word (slot_names (struct_fields (slice_get r.program.structs owner)))) refl h

element_fit : (r : Reads) → CanSpell r → (asked : ℕ) (word : List ℕ) (g : ℕ) (i : LExpr) {room n : ℕ} → asked ≤ 11 → array_named r word ≡ Some g → Fit r 0 room i n → Fit r asked (suc room) (l.Elem g i) n
element_fit r can asked word g i le h f =
    let found = array_found r word g h in
    let y = named_of word (can.globals g word (number_at (names_in r.program 2) word g found)) in
    fit_element asked y.head y.tail g i le y.name (ap (array_named r) (sym y.is) ∙ h) (name_of_number (names_in r.program 2) word g found ∙ y.is) f

field_fit : (r : Reads) → CanSpell r → (asked : ℕ) (word : List ℕ) (p x : LExpr) {room n : ℕ} → asked ≤ 11 → member r (Some p) word ≡ Some x → Fit r 11 room p n → Fit r asked room x (n + 1)
field_fit r can asked word p x {room} {n} le h f =
    let q = field_found r p word x h in
    let y = named_of word (can.fields q.owner q.field word (number_at (slot_names (struct_of r.program q.owner).fields) word q.field q.found)) in
    subst (λ z. Fit r asked room z (n + 1)) q.is
    (fit_field asked y.head y.tail p q.owner q.field le y.name (ap (member r (Some p)) (sym y.is) ∙ (h ∙ ap (λ z. Some z) (sym q.is)))
    (slot_of_number (struct_of r.program q.owner).fields word q.field q.found ∙ y.is) f)

-- Where the names can be spelt, what an expression that keeps the limits becomes by its numbers fits.
pub fits : {asked room n : ℕ} {k : ExprKind} (r : Reads) → CanSpell r → Fitting asked room k n → (x : LExpr) → numbered r k ≡ Some x → Strong asked x → Fit r asked room x n
unfolding literals
fits r can (kept.number asked room n le small) x h strong = subst (λ y. Fit r asked room y 0) (same_Some _ x h) (fit_number asked room n le small)
fits r can (kept.null asked room le) x h strong = subst (λ y. Fit r asked room y 0) (same_Some _ x h) (fit_null asked room le)
fits r can (kept.eof asked room le) x h strong = subst (λ y. Fit r asked (suc room) y 0) (same_Some _ x h) (go (subst (Strong asked) (sym (same_Some _ x h)) strong))
  where
    go : Strong asked (l.Un un.Neg (l.Num (pos 1))) → Fit r asked (suc room) (l.Un un.Neg (l.Num (pos 1))) 0
    go (inl small) = fit_prefixed asked un.Neg (l.Num (pos 1)) small (fit_number 10 room 1 (omega arith) (omega arith))
    go (inr same) = absurd (omega (arith, same))
fits r can (kept.name asked room word le) x h strong = leaf r can asked room word x le h
fits r can (kept.slot asked room word n le) x h strong = leaf r can asked room (word ++ 46 ∷ decimal n) x le h
fits r can (kept.element asked word y {room = room} {n = n} le f) x h strong = go (array_named r word) (numbered r y.kind) refl refl h (λ i b. fits r can f i b (inl (omega arith)))
  where
    go : (o : Option ℕ) (p : Option LExpr) → array_named r word ≡ o → numbered r y.kind ≡ p → indexed o p ≡ Some x → ((i : LExpr) → numbered r y.kind ≡ Some i → Fit r 0 room i n) → Fit r asked (suc room) x n
    go None p a b h ih = absurd (none-some x h)
    go (Some g) None a b h ih = absurd (none-some x h)
    go (Some g) (Some i) a b h ih = subst (λ z. Fit r asked (suc room) z n) (same_Some _ x h) (element_fit r can asked word g i le a (ih i b))
fits r can (kept.field asked word y {room = room} {n = n} le f) x h strong = go (numbered r y.kind) refl h (λ p a strong. fits r can f p a strong)
  where
    go : (o : Option LExpr) → numbered r y.kind ≡ o → member r o word ≡ Some x → ((p : LExpr) → numbered r y.kind ≡ Some p → Strong 11 p → Fit r 11 room p n) → Fit r asked room x (n + 1)
    go None a h ih = absurd (none-some x h)
    go (Some p) a h ih = let q = field_found r p word x h in field_fit r can asked word p x le h (ih p a (inr (pointer_strong r p q.owner q.points)))
fits r can (kept.prefixed asked op y {room = room} {n = n} le f) x h strong = go (numbered r y.kind) refl h (λ z a. fits r can f z a (inl (omega arith)))
  where
    go : (o : Option LExpr) → numbered r y.kind ≡ o → option_map (λ z. l.Un op z) o ≡ Some x → ((z : LExpr) → numbered r y.kind ≡ Some z → Fit r 10 room z n) → Fit r asked (suc room) x n
    go None a h ih = absurd (none-some x h)
    go (Some z) a h ih = subst (λ y. Fit r asked (suc room) y n) (same_Some _ x h) (fit_prefixed asked op z le (ih z a))
fits r can (kept.between asked op y z {room = room} {n = n} {m = m} le f g) x h strong =
    go (numbered r y.kind) (numbered r z.kind) refl refl h (λ s a. fits r can f s a (inl (omega (arith, below op)))) (λ t b. fits r can g t b (inl (omega (arith, below op))))
  where
    go : (o p : Option LExpr) → numbered r y.kind ≡ o → numbered r z.kind ≡ p → operated r op o p ≡ Some x → ((s : LExpr) → numbered r y.kind ≡ Some s → Fit r (binding op) room s n)
        → ((t : LExpr) → numbered r z.kind ≡ Some t → Fit r (binding op + 1) room t m) → Fit r asked room x (n + 1 + m)
    go None p a b h ih jh = absurd (none-some x h)
    go (Some s) None a b h ih jh = absurd (none-some x h)
    go (Some s) (Some t) a b h ih jh = subst (λ y. Fit r asked room y (n + 1 + m)) (same_Some _ x h) (between_fit asked op s t le (ih s a) (jh t b))
fits r can (kept.bracketed asked k le f) x h strong = bracketed_fit asked le (fits r can f x h (inl (omega arith)))

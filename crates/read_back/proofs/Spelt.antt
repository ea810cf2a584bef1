-- The names that a program's numbers are printed as can be spelt.
use Rattle.std.proofs.Common.{◌≡◌, ℕ, zero, suc, Bool, true, false, List, [], ◌∷◌, ◌++◌, Option, Some, None, refl, sym, ◌∙◌, ap, subst, arith}
use Rattle.std.specs.Prelude.{All, map, slice_get, slice_index_or, nat_eq, if◌then◌else◌}
use Rattle.std.specs.Fmt.{decimal}
use Rattle.std.specs.Option.{option_map}
use Rattle.std.specs.Str.{bytes_eq}
use Rattle.std.proofs.lemmas.Option.{none-some, same_Some, slice_get_within, get_or_from_slice_get, slice_get-map}
use Rattle.std.proofs.lemmas.Bool.Decides.{nat_tests}
use Rattle.c_tree.specs.declared.lifted.Lifted.{Lifted}
use Rattle.c_tree.specs.declared.lifted.LFunction.{LFunction}
use Rattle.c_tree.specs.declared.lifted.LStruct.{LStruct}
use Rattle.c_tree.specs.declared.lifted.Slot.{Slot}
use Rattle.c_tree.specs.Step.{function_of}
use Rattle.c_tree.specs.Names.{find_name, names_in, slot_names, slot_name, struct_of}
use Rattle.c_tree.specs.MapExpr.{Reads, reads_of, slots_of, fields_of}
use Rattle.c_tokens.specs.declared.class.Class.TheVariants as class
use Rattle.c_tokens.specs.Byte.{class_of}
use Rattle.c_grammar.specs.declared.kind.Kind.{Kind}
use Rattle.c_grammar.specs.declared.kind.Kind.TheVariants as kind
use Rattle.c_grammar.specs.Words.{Entry, map_words}
use Rattle.c_grammar.specs.Tokens.{kind_in, word_kind, meant_or, map_word_kind}
use Rattle.c_reader.specs.Spelling.{IsSpelt, IsSlotSpelt, plain, hidden, temporary, CanBeSpelt}
use Rattle.patch_laws.proofs.Numbers.{number_at}
use Rattle.read_back.proofs.Printed.{is_any_name, IsAnyName}
use Rattle.read_back.proofs.Shown.{IsName, Spelling, plain_name, hidden_name, temporary_name}

-- A word that is a name in a source is one in a mapping.
abbrev AreNames : List Entry → Type 0
AreNames [] = Unit {0}
AreNames (w ∷ ws) = (is_any_name w.kind ≡ true) × AreNames ws

kind_in_names : (ws : List Entry) (word : List ℕ) → AreNames ws → is_any_name (kind_in ws word) ≡ true
kind_in_names [] word all = refl
kind_in_names (w ∷ ws) word all = go (bytes_eq w.text word) (kind_in_names ws word all.1)
  where
    go : (t : Bool) → is_any_name (kind_in ws word) ≡ true → is_any_name (if t then w.kind else kind_in ws word) ≡ true
    go true h = all.0
    go false h = h

words_are_names : AreNames map_words
unfolding map_words
words_are_names = (refl, (refl, (refl, (refl, (refl, (refl, (refl, (refl, (refl, (refl, (refl, (refl, tt))))))))))))

meant_name : (k : Kind) (word : List ℕ) → is_any_name k ≡ true → word_kind word ≡ kind.Name → is_any_name (meant_or k word) ≡ true
meant_name kind.Name word h e = ap is_any_name e
meant_name k word h e = h

any_name_of : (word : List ℕ) → word_kind word ≡ kind.Name → IsAnyName word
unfolding map_word_kind
any_name_of word e = meant_name (kind_in map_words word) word (kind_in_names map_words word words_are_names) e

-- A letter begins no sign.
letter_byte : (b : ℕ) → class_of b ≡ class.Letter → (nat_eq 61 b ≡ false) × (nat_eq 62 b ≡ false)
letter_byte b h = (no 61 refl, no 62 refl)
  where
    differ : (c : ℕ) (t : Bool) → nat_eq c b ≡ t → (t ≡ true → ⊥) → t ≡ false
    differ c true e n = absurd (n refl)
    differ c false e n = refl

    equal : (c : ℕ) → nat_eq c b ≡ true → c ≡ b
    equal c e = grind (arith, nat_tests, e)

    no : (c : ℕ) → class_of c ≡ class.Sign → nat_eq c b ≡ false
    no c s = differ c (nat_eq c b) refl (λ e. let f : class.Sign ≡ class.Letter = sym s ∙ ap class_of (equal c e) ∙ h in cc)

-- A name, by its first byte and the others.
pub record Named (word : List ℕ) : Type 0 where
  pub head : ℕ
  pub tail : List ℕ
  pub is : word ≡ head ∷ tail
  pub name : IsName head tail

pub named_of : (word : List ℕ) → IsSpelt word → Named word
named_of [] h = absurd h
named_of (b ∷ bytes) h = record {
  head = b;
  tail = bytes;
  is = refl;
  name = record {
    word = record { letter = h.0; run = h.1; short = h.2 };
    any = any_name_of (b ∷ bytes) h.3;
    equal = (letter_byte b h.0).0;
    greater = (letter_byte b h.0).1;
  };
}

pub spelling_of : (word : List ℕ) → IsSlotSpelt word → Spelling word
spelling_of word (plain h) = let y = named_of word h in subst Spelling (sym y.is) (plain_name y.name)
spelling_of word (hidden n front h le) =
    let y = named_of front h in
    subst (λ w. Spelling (w ++ 46 ∷ decimal n)) (sym y.is) (hidden_name n y.name le)
spelling_of word (temporary n le) = temporary_name n le

-- Each of some names is of a form.
abbrev pub EachName : (List ℕ → Type 0) → List (List ℕ) → Type 0
EachName P names = (i : ℕ) (name : List ℕ) → slice_get names i ≡ Some name → P name

pub each_name : (P : List ℕ → Type 0) (names : List (List ℕ)) → All P names → EachName P names
each_name P names all i name e = subst P (get_or_from_slice_get names i name name e) (all i name (slice_get_within names i name e))

each_slot_name : (P : List ℕ → Type 0) (xs : List Slot) → All (λ s. P s.name) xs → EachName P (slot_names xs)
each_slot_name P xs all i name e = go (slice_get xs i) refl (sym (slice_get-map (λ s. s.name) xs i) ∙ e)
  where
    go : (o : Option Slot) → slice_get xs i ≡ o → option_map (λ s. s.name) o ≡ Some name → P name
    go None h f = absurd (none-some name f)
    go (Some s) h f =
        subst P (same_Some s.name name f)
        (subst (λ x. P x.name) (get_or_from_slice_get xs i s s h) (all i s (slice_get_within xs i s h)))

-- What can be spelt of what an expression reads.
pub record CanSpell (r : Reads) : Type 0 where
  pub slots : EachName IsSlotSpelt (slot_names r.slots)
  pub own : EachName IsSpelt (slot_names r.own)
  pub globals : EachName IsSpelt (names_in r.program 2)
  pub fields : (owner : ℕ) → EachName IsSpelt (slot_names (struct_of r.program owner).fields)

none_named : (P : List ℕ → Type 0) → EachName P []
none_named P i name e = absurd (none-some name e)

pub function_slots : (p : Lifted) → CanBeSpelt p → (f : ℕ) → EachName IsSlotSpelt (slot_names (function_of p f).slots)
function_slots p can f = at p.functions f can.slots
  where
    at : (fs : List LFunction) (f : ℕ) → All (λ f. All (λ s. IsSlotSpelt s.name) f.slots) fs → EachName IsSlotSpelt (slot_names (slice_index_or fs f (function_of (record p { functions = [] }) 0)).slots)
    at [] f all = none_named IsSlotSpelt
    at (x ∷ fs) zero all = each_slot_name IsSlotSpelt x.slots (all 0 x (omega arith))
    at (x ∷ fs) (suc f) all = at fs f (λ k d lt. all (suc k) d (omega (arith, lt)))

pub struct_fields_spelt : (p : Lifted) → CanBeSpelt p → (s : ℕ) → EachName IsSpelt (slot_names (struct_of p s).fields)
struct_fields_spelt p can s = at p.structs s can.fields
  where
    at : (ss : List LStruct) (s : ℕ) → All (λ s. All (λ f. IsSpelt f.name) s.fields) ss → EachName IsSpelt (slot_names (struct_of (record p { structs = ss }) s).fields)
    at [] s all = none_named IsSpelt
    at (x ∷ ss) zero all = each_slot_name IsSpelt x.fields (all 0 x (omega arith))
    at (x ∷ ss) (suc s) all = at ss s (λ k d lt. all (suc k) d (omega (arith, lt)))

pub names_spelt : (p : Lifted) → CanBeSpelt p → (kind : ℕ) → EachName IsSpelt (names_in p kind)
names_spelt p can kind = each_name IsSpelt (names_in p kind) (can.names kind)

pub can_spell : (p : Lifted) → CanBeSpelt p → (f owner : Option ℕ) → CanSpell (reads_of p f owner)
can_spell p can f owner = record {
  slots = slots f;
  own = own owner;
  globals = names_spelt p can 2;
  fields = struct_fields_spelt p can;
}
  where
    slots : (f : Option ℕ) → EachName IsSlotSpelt (slot_names (slots_of p f))
    slots None = none_named IsSlotSpelt
    slots (Some f) = function_slots p can f

    own : (owner : Option ℕ) → EachName IsSpelt (slot_names (fields_of p owner))
    own None = none_named IsSpelt
    own (Some owner) = struct_fields_spelt p can owner

-- A name that was found is the one of its number.
pub name_of_number : (names : List (List ℕ)) (name : List ℕ) (i : ℕ) → find_name name names ≡ Some i → slice_index_or names i [] ≡ name
name_of_number names name i e = get_or_from_slice_get names i name [] (number_at names name i e)

pub slot_of_number : (xs : List Slot) (name : List ℕ) (i : ℕ) → find_name name (slot_names xs) ≡ Some i → slot_name xs i ≡ name
slot_of_number xs name i e = at xs i ∙ name_of_number (slot_names xs) name i e
  where
    at : (xs : List Slot) (i : ℕ) → slot_name xs i ≡ slice_index_or (slot_names xs) i []
    at [] i = refl
    at (x ∷ xs) zero = refl
    at (x ∷ xs) (suc i) = at xs i

-- A function that is found by its name has the name.
pub function_named : (p : Lifted) (name : List ℕ) (f : ℕ) → find_name name (names_in p 0) ≡ Some f → (function_of p f).name ≡ name
function_named p name f e = at p.functions f ∙ name_of_number (names_in p 0) name f e
  where
    at : (fs : List LFunction) (f : ℕ) → (slice_index_or fs f (function_of (record p { functions = [] }) 0)).name ≡ slice_index_or (map (λ x. x.name) fs) f []
    at [] f = refl
    at (x ∷ fs) zero = refl
    at (x ∷ fs) (suc f) = at fs f

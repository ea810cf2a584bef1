-- Points of one part among the values: an action that makes no further parts leaves it as it was whether each point has one.
use Rattle.std.specs.Prelude.{ℕ, List, [], ◌∷◌, ◌++◌, length, Bool, true, false, ◌&&◌, nat_eq, cond}
use Rattle.std.specs.List.{list_all, AllByRecursion}
use Rattle.std.proofs.Common.{◌≡◌, refl, sym, ◌∙◌, ap, eqb-true, eq-eqb}
use Rattle.std.proofs.lemmas.List.Elements.{All-from_recursion, recursion_from_All}
use Rattle.std.proofs.lemmas.List.Folds.{list_all-append}
use Rattle.c_tree.specs.declared.program.At.{At}
use Rattle.c_tree.specs.declared.mapping.Entry.{Entry}
use Rattle.c_tree.specs.declared.mapping.Entry.TheVariants as n
use Rattle.c_tree.specs.declared.mapping.Mapping.{Mapping}
use Rattle.c_tree.specs.declared.mapping.Pt.{Pt}
use Rattle.c_grammar.specs.declared.action.Action.{Action}
use Rattle.c_grammar.specs.declared.action.Action.TheVariants as action
use Rattle.c_grammar.specs.declared.kind.Kind.{Kind}
use Rattle.c_grammar.specs.declared.kind.Kind.TheVariants as kind
use Rattle.c_grammar.specs.declared.value.Value.{Value}
use Rattle.c_grammar.specs.declared.value.Value.TheVariants as value
use Rattle.c_grammar.specs.Values.{older, second, fifth, sixth, parts_in, mapping_in}
use Rattle.c_grammar.specs.Effects.{value_effect, with_entry}
use Rattle.c_reader.proofs.Choice.{both_left, both_right}
use Rattle.c_reader.proofs.Sorts as sort
use Rattle.c_reader.proofs.Sorts.{Sort, sort_of, kept_sort, wants}
use Rattle.c_reader.proofs.SortRuns.{sorts, older_sorts}
use Rattle.map_lang.specs.Formats.{HasOnePart, HasSingleParts}
use Rattle.map_lang.proofs.Typing.{past}

-- an entry that is a point has one part
abbrev pub entry_single : Entry → Bool
entry_single (n.Point f from parts) = nat_eq (length parts) 1
entry_single x = true

abbrev pub are_single : List (At Entry) → Bool
are_single entries = list_all (λ x. entry_single x.it) entries

-- a value has points of one part alone
abbrev pub single : Value → Bool
single (value.Parts parts) = nat_eq (length parts) 1
single (value.Mapping m) = are_single m.entries
single v = true

abbrev pub all_single : List Value → Bool
all_single vs = list_all single vs

-- a value of this sort has no points
abbrev pub is_plain : Sort → Bool
is_plain sort.Parts = false
is_plain sort.Mapping = false
is_plain s = true

plain_single : (v : Value) → is_plain (sort_of v) ≡ true → single v ≡ true
plain_single (value.Parts parts) h = cc
plain_single (value.Mapping m) h = cc
plain_single v h = refl

kept_plain : (k : Kind) → is_plain (kept_sort k) ≡ true
kept_plain kind.Define = refl
kept_plain k = refl

-- A token that is kept has no points.
pub kept_single : (b : Bool) (k : Kind) (v : Value) (vs : List Value) → sort_of v ≡ kept_sort k → all_single (cond b (v ∷ vs) vs) ≡ all_single vs
kept_single true k v vs e = ap (λ b. b && all_single vs) (plain_single v (ap is_plain e ∙ kept_plain k))
kept_single false k v vs e = refl

past_sorts : (ws rest : List Sort) (vs : List Value) → sorts vs ≡ ws ++ rest → sorts (past ws vs) ≡ rest
past_sorts [] rest vs e = e
past_sorts (w ∷ ws) rest vs e = past_sorts ws rest (older vs) (older_sorts vs w (ws ++ rest) e)

past_single : (ws rest : List Sort) (vs : List Value) → list_all is_plain ws ≡ true → sorts vs ≡ ws ++ rest → all_single vs ≡ all_single (past ws vs)
past_single [] rest vs p e = refl
past_single (w ∷ ws) rest [] p e = cc
past_single (w ∷ ws) rest (v ∷ vs) p e =
    let s : sort_of v ≡ w = cc in
    let r : sorts vs ≡ ws ++ rest = cc in
    ap (λ b. b && all_single vs) (plain_single v (ap is_plain s ∙ both_left (is_plain w) _ p)) ∙ past_single ws rest vs (both_right (is_plain w) _ p) r

mapping_front : (vs : List Value) (rest : List Sort) → sorts vs ≡ sort.Mapping ∷ rest → all_single vs ≡ (are_single (mapping_in vs).entries && all_single (older vs))
mapping_front [] rest e = cc
mapping_front (value.Mapping m ∷ vs) rest e = refl
mapping_front (v ∷ vs) rest e = cc

parts_front : (vs : List Value) (rest : List Sort) → sorts vs ≡ sort.Parts ∷ rest → all_single vs ≡ (nat_eq (length (parts_in vs)) 1 && all_single (older vs))
parts_front [] rest e = cc
parts_front (value.Parts parts ∷ vs) rest e = refl
parts_front (v ∷ vs) rest e = cc

and_true : (b : Bool) → (b && true) ≡ b
and_true true = refl
and_true false = refl

and_moved : (b c d : Bool) → ((b && c) && d) ≡ (c && (b && d))
and_moved true c d = refl
and_moved false true d = refl
and_moved false false d = refl

more_single : (m : Mapping) (at : ℕ) (x : Entry) → are_single (with_entry m at x).entries ≡ (are_single m.entries && entry_single x)
more_single m at x = list_all-append (λ y. entry_single y.it) m.entries (record { at = at; it = x } ∷ []) ∙ ap (λ b. are_single m.entries && b) (and_true (entry_single x))

-- one more entry that is no point, made of plain values
entry_after : (ws : List Sort) (vs : List Value) (rest : List Sort) (at : ℕ) (x : Entry) → list_all is_plain ws ≡ true → sorts vs ≡ ws ++ sort.Mapping ∷ rest → entry_single x ≡ true
    → all_single (value.Mapping (with_entry (mapping_in (past ws vs)) at x) ∷ older (past ws vs)) ≡ all_single vs
entry_after ws vs rest at x p e s =
    let m = mapping_in (past ws vs) in
    let behind = all_single (older (past ws vs)) in
    ap (λ b. b && behind) (more_single m at x ∙ (ap (λ b. are_single m.entries && b) s ∙ and_true (are_single m.entries)))
    ∙ (sym (mapping_front (past ws vs) rest (past_sorts ws (sort.Mapping ∷ rest) vs e)) ∙ sym (past_single ws (sort.Mapping ∷ rest) vs p e))

-- one more point
point_after : (vs : List Value) (rest : List Sort) (at : ℕ) (name : List ℕ) (pt : Pt) → sorts vs ≡ sort.Parts ∷ sort.Pt ∷ sort.Word ∷ sort.Word ∷ sort.Mapping ∷ rest
    → all_single (value.Mapping (with_entry (mapping_in (fifth vs)) at (n.Point name pt (parts_in vs))) ∷ sixth vs) ≡ all_single vs
point_after vs rest at name pt e =
    let m = mapping_in (fifth vs) in
    let one = nat_eq (length (parts_in vs)) 1 in
    let plain = sort.Pt ∷ sort.Word ∷ sort.Word ∷ [] in
    let e' : sorts (second vs) ≡ plain ++ sort.Mapping ∷ rest = older_sorts vs sort.Parts _ e in
    ap (λ b. b && all_single (sixth vs)) (more_single m at (n.Point name pt (parts_in vs)))
    ∙ (and_moved (are_single m.entries) one (all_single (sixth vs))
    ∙ (ap (λ b. one && b) (sym (mapping_front (fifth vs) rest (past_sorts plain (sort.Mapping ∷ rest) (second vs) e')) ∙ sym (past_single plain (sort.Mapping ∷ rest) (second vs) refl e'))
    ∙ sym (parts_front vs _ e)))

-- the action makes more than one part
abbrev pub makes_more : Action → Bool
makes_more action.TwoParts = true
makes_more action.ThreeParts = true
makes_more action.FourParts = true
makes_more a = false

-- All other actions leave it as it was.
pub single_after : (a : Action) (vs : List Value) (rest : List Sort) → makes_more a ≡ false → sorts vs ≡ wants a ++ rest → all_single (value_effect a vs) ≡ all_single vs
single_after action.TwoParts vs rest p e = cc
single_after action.ThreeParts vs rest p e = cc
single_after action.FourParts vs rest p e = cc
single_after action.MatchEntry vs rest p e = entry_after (sort.Word ∷ sort.Word ∷ sort.Word ∷ []) vs rest _ _ refl e refl
single_after action.UnmatchedEntry vs rest p e = entry_after (sort.Word ∷ sort.Word ∷ []) vs rest _ _ refl e refl
single_after action.FieldEntry vs rest p e = entry_after (sort.Operand ∷ sort.Word ∷ sort.Word ∷ sort.Word ∷ []) vs rest _ _ refl e refl
single_after action.InitEntry vs rest p e = entry_after (sort.Operand ∷ sort.Word ∷ sort.Word ∷ []) vs rest _ _ refl e refl
single_after action.CheckEntry vs rest p e = entry_after (sort.Operand ∷ sort.Word ∷ []) vs rest _ _ refl e refl
single_after action.PointEntry vs rest p e = point_after vs rest _ _ _ e
single_after a vs rest p e = sym (past_single (wants a) rest vs refl e)

-- These three make a point of more than one part.
pub more_after : (a : Action) (vs : List Value) → makes_more a ≡ true → all_single (value_effect a vs) ≡ false
more_after action.TwoParts vs p = refl
more_after action.ThreeParts vs p = refl
more_after action.FourParts vs p = refl
more_after a vs p = cc

pub more_stay : (a : Action) (vs : List Value) (rest : List Sort) → sorts vs ≡ wants a ++ rest → all_single vs ≡ false → all_single (value_effect a vs) ≡ false
more_stay a vs rest e h = go (makes_more a) refl
  where
    go : (b : Bool) → makes_more a ≡ b → all_single (value_effect a vs) ≡ false
    go true m = more_after a vs m
    go false m = single_after a vs rest m e ∙ h

-- What the test says of a mapping.
has_one : (x : Entry) → entry_single x ≡ true → HasOnePart x
has_one (n.Point f from parts) h = eqb-true (length parts) 1 h
has_one x h = tt

is_one : (x : Entry) → HasOnePart x → entry_single x ≡ true
is_one (n.Point f from parts) h = eq-eqb (length parts) 1 h
is_one x h = refl

each_has : (xs : List (At Entry)) → are_single xs ≡ true → AllByRecursion (λ x. HasOnePart x.it) xs
each_has [] h = tt
each_has (x ∷ xs) h = (has_one x.it (both_left (entry_single x.it) _ h), each_has xs (both_right (entry_single x.it) _ h))

each_is : (xs : List (At Entry)) → AllByRecursion (λ x. HasOnePart x.it) xs → are_single xs ≡ true
each_is [] h = refl
each_is (x ∷ xs) h = ap (λ b. b && are_single xs) (is_one x.it h.0) ∙ each_is xs h.1

pub has_single : (m : Mapping) → all_single (value.Mapping m ∷ []) ≡ true → HasSingleParts m
has_single m h = All-from_recursion (λ x. HasOnePart x.it) m.entries (each_has m.entries (both_left (are_single m.entries) _ h))

pub is_single : (m : Mapping) → HasSingleParts m → all_single (value.Mapping m ∷ []) ≡ true
is_single m h = and_true (are_single m.entries) ∙ each_is m.entries (recursion_from_All (λ x. HasOnePart x.it) m.entries h)

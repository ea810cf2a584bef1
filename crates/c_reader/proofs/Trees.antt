-- What a whole text leaves is one tree.
use Rattle.std.specs.Prelude.{List, [], ◌∷◌, ◌++◌, Bool, true, false, cond}
use Rattle.std.proofs.Common.{◌≡◌, Option, Some, None, refl, sym, ◌∙◌, ap, subst, append_assoc}
use Rattle.c_grammar.specs.declared.symbol.Symbol.{Symbol}
use Rattle.c_grammar.specs.declared.symbol.Symbol.TheVariants.{Take, Unless, Act, Expand}
use Rattle.c_grammar.specs.declared.value.Value.{Value}
use Rattle.c_grammar.specs.declared.value.Value.TheVariants as value
use Rattle.c_grammar.specs.Marks.{keeps}
use Rattle.c_grammar.specs.Rules.{alternatives, start, expr_start, map_start, first_map_start}
use Rattle.c_grammar.specs.Values.{program_in, operand_in, mapping_in}
use Rattle.c_grammar.specs.Effects.{State, empty}
use Rattle.c_grammar.specs.Pieces.{Piece}
use Rattle.c_grammar.specs.Reading.{Test, Aim, Part, Whole, Accepts, Goes, stop, end, take_token, pass, act, expand}
use Rattle.c_reader.proofs.Sorts.{Sort, sort_of, kept_sort, wants, makes, takes, gives}
use Rattle.c_reader.proofs.Sorts as sort
use Rattle.c_reader.proofs.SortRuns.{sorts, strip, and_then, run, strip_is}
use Rattle.c_reader.proofs.SortTables.{rule_sorts, effect_sorts}

-- Each token has a value of the sort that its kind is kept with.
abbrev pub AllKept : List Piece → Type 0
AllKept [] = Unit {0}
AllKept (p ∷ ps) = (sort_of p.value ≡ kept_sort p.kind) × AllKept ps

-- the symbols lead from these sorts to one value of the last
abbrev pub Typed : Sort → List Symbol → List Sort → Type 0
Typed last [] found = found ≡ last ∷ []
Typed last (Take k mark ∷ symbols) found = Typed last symbols (cond (keeps mark) (kept_sort k ∷ found) found)
Typed last (Unless k ∷ symbols) found = Typed last symbols found
Typed last (Act a ∷ symbols) found = (rest : List Sort) × (found ≡ wants a ++ rest) × Typed last symbols (makes a ++ rest)
Typed last (Expand r ∷ symbols) found = (rest : List Sort) × (found ≡ takes r ++ rest) × Typed last symbols (gives r ++ rest)

kept_append : (b : Bool) (s : Sort) (found rest : List Sort) → cond b (s ∷ found) found ++ rest ≡ cond b (s ∷ (found ++ rest)) (found ++ rest)
kept_append true s found rest = refl
kept_append false s found rest = refl

pub run_typed : (last : Sort) (front behind : List Symbol) (found found' rest : List Sort) → run front found ≡ Some found' → Typed last behind (found' ++ rest) → Typed last (front ++ behind) (found ++ rest)
run_typed last [] behind found found' rest e t = let d : found' ≡ found = cc in subst (λ x. Typed last behind (x ++ rest)) d t
run_typed last (Take k mark ∷ front) behind found found' rest e t =
    subst (λ x. Typed last (front ++ behind) x) (kept_append (keeps mark) (kept_sort k) found rest) (run_typed last front behind (cond (keeps mark) (kept_sort k ∷ found) found) found' rest e t)
run_typed last (Unless k ∷ front) behind found found' rest e t = run_typed last front behind found found' rest e t
run_typed last (Act a ∷ front) behind found found' rest e t = go (strip (wants a) found) refl e (λ x h. subst (λ y. Typed last (front ++ behind) y) (append_assoc (makes a) x rest) (run_typed last front behind (makes a ++ x) found' rest h t))
  where
    go : (o : Option (List Sort)) → strip (wants a) found ≡ o → and_then o (λ x. run front (makes a ++ x)) ≡ Some found'
        → ((x : List Sort) → run front (makes a ++ x) ≡ Some found' → Typed last (front ++ behind) (makes a ++ (x ++ rest)))
        → (x : List Sort) × (found ++ rest ≡ wants a ++ x) × Typed last (front ++ behind) (makes a ++ x)
    go None d h ih = cc
    go (Some x) d h ih = (x ++ rest, ap (λ y. y ++ rest) (strip_is (wants a) found x d) ∙ append_assoc (wants a) x rest, ih x h)
run_typed last (Expand r ∷ front) behind found found' rest e t = go (strip (takes r) found) refl e (λ x h. subst (λ y. Typed last (front ++ behind) y) (append_assoc (gives r) x rest) (run_typed last front behind (gives r ++ x) found' rest h t))
  where
    go : (o : Option (List Sort)) → strip (takes r) found ≡ o → and_then o (λ x. run front (gives r ++ x)) ≡ Some found'
        → ((x : List Sort) → run front (gives r ++ x) ≡ Some found' → Typed last (front ++ behind) (gives r ++ (x ++ rest)))
        → (x : List Sort) × (found ++ rest ≡ takes r ++ x) × Typed last (front ++ behind) (gives r ++ x)
    go None d h ih = cc
    go (Some x) d h ih = (x ++ rest, ap (λ y. y ++ rest) (strip_is (takes r) found x d) ∙ append_assoc (takes r) x rest, ih x h)

abbrev Final : Sort → Aim → Type 0
Final last (Part test) = Unit {0}
Final last (Whole values) = sorts values ≡ last ∷ []

final_stop : (last : Sort) (aim : Aim) (state : State) → Accepts aim state → Final last aim
final_stop last (Part test) state ok = tt
final_stop last (Whole values) state ok = absurd ok

pub kept_sorts : (b : Bool) (s : Sort) (v : Value) (vs : List Value) → sort_of v ≡ s → cond b (s ∷ sorts vs) (sorts vs) ≡ sorts (cond b (v ∷ vs) vs)
kept_sorts true s v vs e = ap (λ x. x ∷ sorts vs) (sym e)
kept_sorts false s v vs e = refl

goes_typed : (last : Sort) {aim : Aim} {symbols : List Symbol} {state : State} {ps : List Piece} → AllKept ps → Goes alternatives aim symbols state ps → Typed last symbols (sorts state.values) → Final last aim
goes_typed last w (stop {aim = aim} {state = state} ok) t = final_stop last aim state ok
goes_typed last w (end e) t = rw e t
goes_typed last w (take_token {kind = kind} {mark = mark} {symbols = symbols} {state = state} {p = p} e g) t =
    goes_typed last w.1 g (subst (λ x. Typed last symbols x) (kept_sorts (keeps mark) (kept_sort kind) p.value state.values (w.0 ∙ ap kept_sort e)) t)
goes_typed last w (pass n g) t = goes_typed last w g t
goes_typed last w (act {a = a} {symbols = symbols} {state = state} g) t = goes_typed last w g (subst (λ x. Typed last symbols x) (sym (effect_sorts a state.values t.0 t.1)) t.2)
goes_typed last w (expand {r = r} {alternative = front} {symbols = behind} m g) t =
    goes_typed last w g (subst (λ x. Typed last (front ++ behind) x) (sym t.1) (run_typed last front behind (takes r) (gives r) t.0 (rule_sorts r front m) t.2))

one_program : (vs : List Value) → sorts vs ≡ sort.Program ∷ [] → vs ≡ value.Program (program_in vs) ∷ []
one_program [] e = cc
one_program (value.Program p ∷ []) e = refl
one_program (v ∷ w ∷ vs) e = cc
one_program (v ∷ []) e = cc

-- What a whole file leaves is one program.
pub whole_is : (values : List Value) (ps : List Piece) → AllKept ps → Goes alternatives (Whole values) start empty ps → values ≡ value.Program (program_in values) ∷ []
whole_is values ps w g = one_program values (goes_typed sort.Program w g ([], refl, ([], refl, refl)))

one_operand : (vs : List Value) → sorts vs ≡ sort.Operand ∷ [] → vs ≡ value.Operand (operand_in vs) ∷ []
one_operand [] e = cc
one_operand (value.Operand x ∷ []) e = refl
one_operand (v ∷ w ∷ vs) e = cc
one_operand (v ∷ []) e = cc

-- What an expression leaves is one tree.
pub expr_is : (values : List Value) (ps : List Piece) → AllKept ps → Goes alternatives (Whole values) expr_start empty ps → values ≡ value.Operand (operand_in values) ∷ []
expr_is values ps w g = one_operand values (goes_typed sort.Operand w g ([], refl, refl))

one_mapping : (vs : List Value) → sorts vs ≡ sort.Mapping ∷ [] → vs ≡ value.Mapping (mapping_in vs) ∷ []
one_mapping [] e = cc
one_mapping (value.Mapping m ∷ []) e = refl
one_mapping (v ∷ w ∷ vs) e = cc
one_mapping (v ∷ []) e = cc

-- What a whole mapping leaves is one mapping.
pub mapping_is : (values : List Value) (ps : List Piece) → AllKept ps → Goes alternatives (Whole values) map_start empty ps → values ≡ value.Mapping (mapping_in values) ∷ []
mapping_is values ps w g = one_mapping values (goes_typed sort.Mapping w g ([], refl, ([], refl, refl)))

pub first_mapping_is : (values : List Value) (ps : List Piece) → AllKept ps → Goes alternatives (Whole values) first_map_start empty ps → values ≡ value.Mapping (mapping_in values) ∷ []
first_mapping_is values ps w g = one_mapping values (goes_typed sort.Mapping w g ([], refl, ([], refl, refl)))

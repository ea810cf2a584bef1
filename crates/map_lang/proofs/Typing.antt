-- The sorts of the values in front of the symbols to come, in a reading of a mapping.
use Rattle.std.specs.Prelude.{List, [], ◌∷◌, ◌++◌, cond}
use Rattle.std.proofs.Common.{◌≡◌, refl, sym, subst}
use Rattle.c_grammar.specs.declared.action.Action.{Action}
use Rattle.c_grammar.specs.declared.kind.Kind.{Kind}
use Rattle.c_grammar.specs.declared.rule.Rule.{Rule}
use Rattle.c_grammar.specs.declared.symbol.Mark.{Mark}
use Rattle.c_grammar.specs.declared.symbol.Symbol.{Symbol}
use Rattle.c_grammar.specs.declared.symbol.Symbol.TheVariants.{Take, Act, Expand}
use Rattle.c_grammar.specs.declared.value.Value.{Value}
use Rattle.c_grammar.specs.Values.{older}
use Rattle.c_grammar.specs.Marks.{keeps}
use Rattle.c_grammar.specs.Effects.{value_effect}
use Rattle.c_grammar.specs.Rules.{map_start, first_map_start}
use Rattle.c_grammar.specs.Reading.{Among}
use Rattle.c_reader.specs.Choices.{choices}
use Rattle.c_reader.proofs.Sorts as sort
use Rattle.c_reader.proofs.Sorts.{Sort, sort_of, kept_sort, takes, gives}
use Rattle.c_reader.proofs.SortRuns.{sorts}
use Rattle.c_reader.proofs.SortTables.{choice_sorts, effect_sorts}
use Rattle.c_reader.proofs.Trees.{Typed, run_typed, kept_sorts}

-- the values behind as many as there are sorts
abbrev pub past : List Sort → List Value → List Value
past [] vs = vs
past (s ∷ ss) vs = past ss (older vs)

-- The sorts go on with each step of the reader.
abbrev pub AreTyped : List Symbol → List Value → Type 0
AreTyped symbols vs = Typed sort.Mapping symbols (sorts vs)

pub typed_take : (k : Kind) (mark : Mark) (symbols : List Symbol) (v : Value) (vs : List Value) → sort_of v ≡ kept_sort k → AreTyped (Take k mark ∷ symbols) vs
    → AreTyped symbols (cond (keeps mark) (v ∷ vs) vs)
typed_take k mark symbols v vs e t = subst (λ x. Typed sort.Mapping symbols x) (kept_sorts (keeps mark) (kept_sort k) v vs e) t

pub typed_act : (a : Action) (symbols : List Symbol) (vs : List Value) → AreTyped (Act a ∷ symbols) vs → AreTyped symbols (value_effect a vs)
typed_act a symbols vs t = subst (λ x. Typed sort.Mapping symbols x) (sym (effect_sorts a vs t.0 t.1)) t.2

pub typed_expand : (r : Rule) (front symbols : List Symbol) (vs : List Value) → Among front (choices r) → AreTyped (Expand r ∷ symbols) vs → AreTyped (front ++ symbols) vs
typed_expand r front symbols vs m t =
    subst (λ x. Typed sort.Mapping (front ++ symbols) x) (sym t.1) (run_typed sort.Mapping front symbols (takes r) (gives r) t.0 (choice_sorts r front m) t.2)

-- They begin so.
pub typed_map : AreTyped map_start []
typed_map = ([], refl, ([], refl, refl))

pub typed_first : AreTyped first_map_start []
typed_first = ([], refl, ([], refl, refl))

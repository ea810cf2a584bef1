-- The grammar without the rule that an else belongs to the nearest if: the part with the else may always be left out.
use Rattle.std.specs.Prelude.{List, [], ◌∷◌, ◌↔◌}
use Rattle.c_grammar.specs.declared.kind.Kind.TheVariants as kind
use Rattle.c_grammar.specs.declared.rule.Rule.{Rule}
use Rattle.c_grammar.specs.declared.rule.Rule.TheVariants as rule
use Rattle.c_grammar.specs.declared.action.Action.TheVariants as action
use Rattle.c_grammar.specs.declared.symbol.Mark.TheVariants.{Open}
use Rattle.c_grammar.specs.declared.symbol.Symbol.{Symbol}
use Rattle.c_grammar.specs.declared.symbol.Symbol.TheVariants.{Take, Act, Expand}
use Rattle.c_grammar.specs.Effects.{empty}
use Rattle.c_grammar.specs.Pieces.{Piece}
use Rattle.c_grammar.specs.Rules.{alternatives, start}
use Rattle.c_grammar.specs.Reading.{Part, Any, Goes, IsLive}

-- the alternatives of each rule, where an `else` may belong to any open `if`
abbrev pub loose : Rule → List (List Symbol)
loose rule.ElsePart =
    (Take kind.Else Open ∷ Expand rule.Stmt ∷ Act action.Leave ∷ Act action.IfElse ∷ [])
    ∷ (Act action.If ∷ [])
    ∷ []
loose r = alternatives r

-- The rule changes no live list.
abbrev pub SameLive : Type 0
SameLive = (ps : List Piece) → Goes loose (Part Any) start empty ps ↔ IsLive start ps

-- Which alternative of a rule the next token picks.
use Rattle.std.specs.Prelude.{List, [], ◌∷◌, Bool, true, false, Option, Some, None, ◌&&◌, ◌||◌, not, find, nat_eq}
use Rattle.std.specs.List.{list_any, list_all}
use Rattle.c_grammar.specs.declared.kind.Kind.{Kind}
use Rattle.c_grammar.specs.declared.rule.Rule.{Rule}
use Rattle.c_grammar.specs.declared.symbol.Symbol.{Symbol}
use Rattle.c_grammar.specs.declared.symbol.Symbol.TheVariants.{Take, Unless, Act, Expand}
use Rattle.c_reader.specs.Choices.{code}

-- the next token, where there is one, is of this kind
abbrev pub is_kind : Kind → Option Kind → Bool
is_kind k None = false
is_kind k (Some q) = nat_eq (code k) (code q)

-- a text of the rule may begin with the next token
abbrev pub begins : (Rule → List Kind) → Rule → Option Kind → Bool
begins first r ahead = list_any (λ k. is_kind k ahead) (first r)

-- the symbols may take the next token first
abbrev pub leads : (Rule → List Kind) → List Symbol → Option Kind → Bool
leads first [] ahead = false
leads first (Take k mark ∷ symbols) ahead = is_kind k ahead
leads first (Unless k ∷ symbols) ahead = false
leads first (Act a ∷ symbols) ahead = leads first symbols ahead
leads first (Expand r ∷ symbols) ahead = begins first r ahead

-- the symbol takes no token
abbrev pub takes_nothing : Symbol → Bool
takes_nothing (Take k mark) = false
takes_nothing (Unless k) = true
takes_nothing (Act a) = true
takes_nothing (Expand r) = false

-- none of the symbols takes a token
abbrev pub is_empty : List Symbol → Bool
is_empty symbols = list_all takes_nothing symbols

-- the alternative is the one to take before the next token
abbrev pub picks : (Rule → List Kind) → Rule → Option Kind → List Symbol → Bool
picks first r ahead symbols = leads first symbols ahead || (is_empty symbols && not (begins first r ahead))

-- the alternative to take before the next token
abbrev pub predict : (Rule → List (List Symbol)) → (Rule → List Kind) → Rule → Option Kind → Option (List Symbol)
predict rules first r ahead = find (picks first r ahead) (rules r)

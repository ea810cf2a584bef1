-- How far the symbols to come can go back up before they take a token.
use Rattle.std.specs.Prelude.{ℕ, ◌-◌, List, [], ◌∷◌, Bool, true, false, ◌&&◌, nat_eq, cond}
use Rattle.c_grammar.specs.declared.rule.Rule.{Rule}
use Rattle.c_grammar.specs.declared.symbol.Symbol.{Symbol}
use Rattle.c_grammar.specs.declared.symbol.Symbol.TheVariants.{Take, Unless, Act, Expand}
use Rattle.c_grammar.specs.Effects.{closes}
use Rattle.c_reader.specs.Choices.{choices}
use Rattle.c_reader.specs.Follow.{vanishes_end}

-- the least number of constructs that may be open before the next token, where so many are open
abbrev pub least : List Symbol → ℕ → ℕ
least [] depth = depth
least (Take k mark ∷ symbols) depth = depth
least (Unless k ∷ symbols) depth = least symbols depth
least (Act a ∷ symbols) depth = least symbols (depth - closes a)
least (Expand r ∷ symbols) depth = cond (vanishes_end choices r) (least symbols depth) depth

-- the symbols don't go back up before they take a token
abbrev pub quiet : (Rule → List (List Symbol)) → List Symbol → Bool
quiet rules [] = true
quiet rules (Take k mark ∷ symbols) = true
quiet rules (Unless k ∷ symbols) = quiet rules symbols
quiet rules (Act a ∷ symbols) = nat_eq (closes a) 0 && quiet rules symbols
quiet rules (Expand r ∷ symbols) = cond (vanishes_end rules r) (quiet rules symbols) true

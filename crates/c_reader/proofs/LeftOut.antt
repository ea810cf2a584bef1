-- Left-out words are taken by no rule.
use Rattle.std.proofs.Common.{◌≡◌, ◌≢◌, ℕ, List, [], ◌∷◌, ◌++◌, Bool, true, false, refl, sym, ap, subst}
use Rattle.std.specs.Prelude.{◌&&◌, not, nat_eq}
use Rattle.std.specs.List.{list_all}
use Rattle.c_grammar.specs.declared.kind.Kind.{Kind}
use Rattle.c_grammar.specs.declared.kind.Kind.TheVariants as kind
use Rattle.c_grammar.specs.declared.symbol.Symbol.{Symbol}
use Rattle.c_grammar.specs.declared.symbol.Symbol.TheVariants.{Take, Unless, Act, Expand}
use Rattle.c_grammar.specs.Pieces.{Piece}

abbrev pub is_named : Kind → Bool
is_named kind.LeftOut = false
is_named k = true

-- the symbols take no left-out word
abbrev pub names : List Symbol → Bool
names [] = true
names (Take k mark ∷ symbols) = is_named k && names symbols
names (Unless k ∷ symbols) = names symbols
names (Act a ∷ symbols) = names symbols
names (Expand r ∷ symbols) = names symbols

abbrev pub AllNamed : List Piece → Type 0
AllNamed [] = Unit {0}
AllNamed (p ∷ ps) = (is_named p.kind ≡ true) × AllNamed ps

-- What a token does that is taken.
use Rattle.std.specs.Prelude.{Bool, true, false}
use Rattle.c_grammar.specs.declared.symbol.Mark.{Mark}
use Rattle.c_grammar.specs.declared.symbol.Mark.TheVariants as mark

-- it is kept as a value
abbrev pub keeps : Mark → Bool
keeps mark.Keep = true
keeps mark.OpenKeep = true
keeps mark.CountKeep = true
keeps _ = false

-- what follows it stands one deeper
abbrev pub opens : Mark → Bool
opens mark.Open = true
opens mark.OpenKeep = true
opens _ = false

-- it is one of the operators that are counted
abbrev pub counts : Mark → Bool
counts mark.Count = true
counts mark.CountKeep = true
counts _ = false

-- What a declaration that was found stands for.
use Rattle.std.specs.Prelude.{Option, Some, None}
use Rattle.c_tree.specs.declared.scope.Named.{Named}
use Rattle.c_tree.specs.declared.scope.Meaning.{Meaning}

-- the meaning of a declaration, where there is one
abbrev pub meaning_of : Option Named → Option Meaning
meaning_of None = None
meaning_of (Some x) = Some x.meaning

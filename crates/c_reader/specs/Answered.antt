-- What the definitions say of every source.
use Rattle.std.specs.Prelude.{ℕ, List, ◌⊎◌}
use Rattle.c_tree.specs.declared.cause.ReadCause.{ReadCause}
use Rattle.c_tree.specs.declared.program.Program.{Program}
use Rattle.c_grammar.specs.Source.{IsProgramOf, IsFirstFault}

-- It is a program or has a first fault.
abbrev pub IsAnswered : List ℕ → Type 0
IsAnswered bytes = ((program : Program) × IsProgramOf bytes program) ⊎ ((at : ℕ) × (c : ReadCause) × IsFirstFault bytes at c)

-- Each source is answered.
abbrev pub EachIsAnswered : Type 0
EachIsAnswered = (bytes : List ℕ) → IsAnswered bytes

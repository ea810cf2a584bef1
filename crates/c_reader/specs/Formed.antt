-- Each tree that is read has the form that the laws of the lifting ask for.
use Rattle.std.specs.Prelude.{ℕ, List}
use Rattle.c_tree.specs.declared.program.Program.{Program}
use Rattle.c_tree.specs.ReadForm.{HasReadForm}
use Rattle.c_grammar.specs.Source.{IsProgramOf}

-- The program that a source is has the form.
abbrev pub EachReadingHasTheForm : Type 0
EachReadingHasTheForm = (source : List ℕ) (tree : Program) → IsProgramOf source tree → HasReadForm tree

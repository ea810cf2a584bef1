-- The program that a source is has the form that the laws of the lifting ask for.
use Rattle.std.specs.Prelude.{ℕ, List, Result, Ok, Err, IfOk, MatchResult}
use Rattle.std.proofs.Common.{sym, subst}
use Rattle.c_tree.specs.declared.program.Program.{Program}
use Rattle.c_tree.specs.ReadForm.{HasReadForm}
use Rattle.c_tokens.specs.declared.refused.ReadRefused.{ReadRefused}
use Rattle.c_tokens.specs.Source.{scan_of}
use Rattle.c_grammar.specs.Source.{pieces_of, IsProgramOf}
use Rattle.c_reader.specs.Refusal.{IsRefusal}
use Rattle.c_reader.specs.Formed.{EachReadingHasTheForm}
use Rattle.c_reader.specs.Spelling.{IsTreeSpelt, EachReadingIsSpelt}
use Rattle.c_reader.proofs.FormReadings.{reading_formed}
use Rattle.c_reader.proofs.FormTokens.{pieces_named}
use Rattle.c_reader.proofs.Names.{source_named}

with_length : (p : Program) (len : ℕ) → HasReadForm p → HasReadForm (record p { len = len })
with_length p len h = record { structs = h.structs; globals = h.globals; mutexes = h.mutexes; defines = h.defines; functions = h.functions }

with_length_spelt : (p : Program) (len : ℕ) → IsTreeSpelt p → IsTreeSpelt (record p { len = len })
with_length_spelt p len h = record { structs = h.structs; globals = h.globals; mutexes = h.mutexes; functions = h.functions }

pub formed : EachReadingHasTheForm
formed source tree p =
    let read = reading_formed (pieces_of (scan_of source)) p.is.read (pieces_named (scan_of source).lexemes (source_named source)) p.is.reading.reads in
    subst HasReadForm (sym p.is.whole) (with_length p.is.read _ read.0)

-- Its names can be spelt.
pub tree_spelt : EachReadingIsSpelt
tree_spelt source tree p =
    let read = reading_formed (pieces_of (scan_of source)) p.is.read (pieces_named (scan_of source).lexemes (source_named source)) p.is.reading.reads in
    subst IsTreeSpelt (sym p.is.whole) (with_length_spelt p.is.read _ read.1)

-- So does what a reader answers that gives this program.
pub answer_formed : (source : List ℕ) (r : Result Program ReadRefused) → MatchResult r (IsProgramOf source) (IsRefusal source) → IfOk r HasReadForm
answer_formed source (Ok tree) is = formed source tree is
answer_formed source (Err why) is = tt

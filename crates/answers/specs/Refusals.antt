-- The answers where a file is lost, is too long, or is refused: a line alone.
use Rattle.std.specs.Prelude.{ℕ, List, []}
use Rattle.c_tree.specs.declared.cause.ReadCause.{ReadCause}
use Rattle.c_tree.specs.declared.cause.SourceCause.{SourceCause}
use Rattle.reports.specs.Line as line
use Rattle.answers.specs.Answer.{Answer}
use Rattle.answers.specs.Status.{code}
use Rattle.answers.specs.declared.status.Status.{Status}
use Rattle.answers.specs.declared.status.Status.TheVariants as st

-- a line alone
abbrev pub says : List ℕ → Status → Answer
says line status = record { pieces = []; line = line; status = code status }

-- a file that could not be read
abbrev pub cannot_read : List ℕ → Answer
cannot_read name = says (line.cannot_read name) st.ReadFault

-- a source that is refused, at an offset in bytes
abbrev pub refused : List ℕ → ℕ → SourceCause → Answer
refused name at why = says (line.refused name at why) st.SourceRefused

-- an input or a schedule that has more bytes than it may
abbrev pub too_long : List ℕ → Answer
too_long name = says (line.too_long name) st.TooLong

-- a mapping that is refused, at an offset in bytes
abbrev pub map_refused : List ℕ → ℕ → ReadCause → Answer
map_refused name at why = says (line.map_refused name at why) st.MapRefused

-- a patch whose file has more bytes than it may
abbrev pub patch_too_long : List ℕ → Answer
patch_too_long name = says (line.patch_too_long name) st.MapRefused

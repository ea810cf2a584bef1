-- The answers that the commands give.
use Rattle.std.specs.Prelude.{ℕ, nat_le, if◌then◌else◌, List, [], ◌∷◌, length, Option, Some, None}
use Rattle.c_tree.specs.declared.cause.EntryCause.{EntryCause}
use Rattle.c_tree.specs.declared.cause.FileCause.{FileCause}
use Rattle.c_tree.specs.declared.event.Event.{Event}
use Rattle.c_tree.specs.declared.lifted.Lifted.{Lifted}
use Rattle.c_tree.specs.declared.run.End.{End}
use Rattle.history.specs.History.{history}
use Rattle.reports.specs.Line as line
use Rattle.answers.specs.declared.status.Status.{Status}
use Rattle.answers.specs.declared.status.Status.TheVariants as st
use Rattle.answers.specs.Refusals.{patch_too_long, says}
use Rattle.answers.specs.Wanted.{max_patch}
use Rattle.answers.specs.Answer.{Answer, Piece, ToOut, ToFile}
use Rattle.answers.specs.Status.{code, status_of}

-- a text for out and then a line
abbrev pub puts : List ℕ → List ℕ → Status → Answer
puts text line status = record { pieces = ToOut text ∷ []; line = line; status = code status }

-- a text for out alone
abbrev pub prints : List ℕ → Answer
prints text = puts text [] st.Done

-- words that are no command
abbrev pub usage : Answer
usage = says line.usage st.Usage

-- a schedule that is refused at its event of this number, from 1
abbrev pub schedule_refused : List ℕ → ℕ → Answer
schedule_refused name n = says (line.schedule_refused name n) st.ScheduleRefused

-- a mapping whose entry of this number, from 1, is unsound
abbrev pub map_unsound : List ℕ → ℕ → EntryCause → Answer
map_unsound name number why = says (line.map_unsound name number why) st.MapRefused

-- a file that is no patch, at an offset in bytes
abbrev pub patch_refused : List ℕ → ℕ → FileCause → Answer
patch_refused name at why = says (line.patch_refused name at why) st.MapRefused

-- a patch whose old source is another text: how many bytes the two have, and where they differ
abbrev pub patch_differs : List ℕ → ℕ → ℕ → ℕ → Answer
patch_differs name source old at = says (line.patch_differs name source old at) st.MapRefused

-- a patch for its file, and then how many bytes it has for out
abbrev pub patch_written : List ℕ → List ℕ → Answer
patch_written name patch = record { pieces = ToFile name patch ∷ ToOut (line.written (length patch)) ∷ []; line = []; status = code st.Done }

-- a patch for its file, where that may have so many bytes
abbrev pub put_patch : List ℕ → List ℕ → Answer
put_patch name patch = if nat_le (length patch) max_patch then patch_written name patch else patch_too_long name

-- how many functions, structs, globals and mutexes a program has
abbrev pub counts : Lifted → List ℕ
counts p = line.counts (length p.functions) (length p.structs) (length p.globals) (length p.mutexes)

-- the history of a run for its file, where one is named
abbrev pub kept : Option (List ℕ) → List Event → List Piece
kept None events = []
kept (Some name) events = ToFile name (history events) ∷ []

-- a run: its output, its history where that is kept, and its report
abbrev pub ran : Option (List ℕ) → List Event → List ℕ → ℕ → List ℕ → End → Answer
ran name events output steps update end =
    record { pieces = ToOut output ∷ kept name events; line = line.report end steps update; status = code (status_of end) }

-- a load: its line and the output of its run
abbrev pub loaded : ℕ → List ℕ → ℕ → List ℕ → End → Answer
loaded n output steps update end =
    record { pieces = ToOut (line.loaded n steps update) ∷ ToOut output ∷ []; line = []; status = code (status_of end) }

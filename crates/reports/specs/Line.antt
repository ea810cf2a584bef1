-- The lines that a call tells `err`, and those that it prints itself.
use Rattle.std.specs.Prelude.{ℕ, List, ◌++◌, codes}
use Rattle.std.specs.Fmt.{decimal}
use Rattle.c_tree.specs.declared.cause.ReadCause.{ReadCause}
use Rattle.c_tree.specs.declared.cause.ReadCause.TheVariants as read
use Rattle.c_tree.specs.declared.cause.CheckCause.{CheckCause}
use Rattle.c_tree.specs.declared.cause.CheckCause.TheVariants as check
use Rattle.c_tree.specs.declared.cause.EntryCause.{EntryCause}
use Rattle.c_tree.specs.declared.cause.EntryCause.TheVariants as entry
use Rattle.c_tree.specs.declared.cause.LimitKind.{LimitKind}
use Rattle.c_tree.specs.declared.cause.LimitKind.TheVariants as limits
use Rattle.c_tree.specs.declared.cause.FileCause.{FileCause}
use Rattle.c_tree.specs.declared.cause.FileCause.TheVariants as file
use Rattle.c_tree.specs.declared.cause.SourceCause.{SourceCause}
use Rattle.c_tree.specs.declared.cause.SourceCause.TheVariants as cause_of
use Rattle.c_tree.specs.declared.run.End.{End}
use Rattle.c_tree.specs.declared.run.End.TheVariants as end
use Rattle.reports.specs.Trap.{trap}

-- the line where the words are no command
abbrev pub usage : List ℕ
usage = codes "usage\n"

-- the line where memory is wanted
abbrev pub memory : List ℕ
memory = codes "memory\n"

-- the line of a file that can't be read
abbrev pub cannot_read : List ℕ → List ℕ
cannot_read name = codes "cannot read " ++ (name ++ codes "\n")

-- the line of a file, or of the output, that can't be written
abbrev pub cannot_write : List ℕ → List ℕ
cannot_write name = codes "cannot write " ++ (name ++ codes "\n")

-- the causes for which a text is refused by its reader
abbrev pub read_cause : ReadCause → List ℕ
read_cause read.BadByte = codes "bad byte"
read_cause read.BadToken = codes "bad token"
read_cause read.Unclosed = codes "unclosed"
read_cause read.Unexpected = codes "unexpected"
read_cause (read.LeftOut word) = codes "left out " ++ word
read_cause read.TooDeep = codes "too deep"
read_cause read.TooLong = codes "too long"
read_cause read.Literal = codes "literal"

-- the limit that a program passes, with its number
abbrev pub limit : LimitKind → List ℕ
limit limits.Functions = codes "limit functions 2000"
limit limits.Locals = codes "limit locals 64"
limit limits.ArrayLength = codes "limit array 65536"
limit limits.GlobalWords = codes "limit globals 1000000"
limit limits.Places = codes "limit places 10000"
limit limits.Slots = codes "limit slots 128"

-- the causes for which a source is refused by its types or its limits
abbrev pub check_cause : CheckCause → List ℕ
check_cause (check.Unknown name) = codes "unknown " ++ name
check_cause (check.Twice name) = codes "twice " ++ name
check_cause check.BadType = codes "bad type"
check_cause check.BadCall = codes "bad call"
check_cause check.NoMain = codes "no main"
check_cause check.BadMain = codes "bad main"
check_cause check.NotInLoop = codes "not in loop"
check_cause check.BadStart = codes "bad start"
check_cause check.BadInit = codes "bad init"
check_cause check.ReturnValue = codes "return value"
check_cause (check.Limit kind) = limit kind

-- the cause for which a source is refused
abbrev pub source_cause : SourceCause → List ℕ
source_cause (cause_of.Read c) = read_cause c
source_cause (cause_of.Check c) = check_cause c
source_cause (cause_of.Lift kind) = limit kind

-- the start of a source's refusal: its name, and the offset in bytes
abbrev pub place_of : List ℕ → ℕ → List ℕ
place_of name at = codes "source " ++ (name ++ (codes " at " ++ (decimal at ++ codes ": ")))

-- a source that is refused, at an offset in bytes
abbrev pub refused : List ℕ → ℕ → SourceCause → List ℕ
refused name at why = place_of name at ++ (source_cause why ++ codes "\n")

-- the start of a mapping's refusal: its name, and the offset in bytes
abbrev pub map_place : List ℕ → ℕ → List ℕ
map_place name at = codes "map " ++ (name ++ (codes " at " ++ (decimal at ++ codes ": ")))

-- a mapping that is refused, at an offset in bytes
abbrev pub map_refused : List ℕ → ℕ → ReadCause → List ℕ
map_refused name at why = map_place name at ++ (read_cause why ++ codes "\n")

-- the causes for which an entry of a mapping is unsound
abbrev pub entry_cause : EntryCause → List ℕ
entry_cause entry.UnknownFunction = codes "unknown function"
entry_cause entry.UnknownPoint = codes "unknown point"
entry_cause entry.KindDiffers = codes "kind differs"
entry_cause entry.CalleeDiffers = codes "callee differs"
entry_cause entry.StartDiffers = codes "start differs"
entry_cause entry.UnknownStruct = codes "unknown struct"
entry_cause entry.UnknownGlobal = codes "unknown global"
entry_cause entry.BadExpr = codes "bad expression"
entry_cause entry.Twice = codes "twice"

-- a mapping whose entry of this number, from 1, is unsound
abbrev pub map_unsound : List ℕ → ℕ → EntryCause → List ℕ
map_unsound name number why = codes "map " ++ (name ++ (codes " entry " ++ (decimal number ++ (codes ": " ++ (entry_cause why ++ codes "\n")))))

-- a patch whose file would hold more than it may
abbrev pub patch_too_long : List ℕ → List ℕ
patch_too_long name = codes "patch " ++ (name ++ codes " at 4194304: too long\n")

-- the causes for which the bytes of a file are no patch
abbrev pub file_cause : FileCause → List ℕ
file_cause file.TooLong = codes "too long"
file_cause file.Short = codes "short"
file_cause file.BadHead = codes "bad head"
file_cause (file.OldSource c) = codes "old source: " ++ source_cause c
file_cause (file.NewSource c) = codes "new source: " ++ source_cause c
file_cause (file.Map c) = codes "map: " ++ read_cause c
file_cause (file.Entry number c) = codes "entry " ++ (decimal number ++ (codes ": " ++ entry_cause c))
file_cause file.NotCanonical = codes "not canonical"

-- the start of a patch's refusal: its name, and the offset in bytes
abbrev pub patch_place : List ℕ → ℕ → List ℕ
patch_place name at = codes "patch " ++ (name ++ (codes " at " ++ (decimal at ++ codes ": ")))

-- a patch that is refused, at an offset in bytes
abbrev pub patch_refused : List ℕ → ℕ → FileCause → List ℕ
patch_refused name at why = patch_place name at ++ (file_cause why ++ codes "\n")

-- a patch whose old source is another text: how many bytes the two have, and where they differ
abbrev pub patch_differs : List ℕ → ℕ → ℕ → ℕ → List ℕ
patch_differs name source old at =
    codes "patch " ++ (name ++ (codes ": old source " ++ (decimal source ++ (codes " bytes, patch " ++ (decimal old ++ (codes ", differ at " ++ (decimal at ++ codes "\n")))))))

-- how many bytes a patch has
abbrev pub written : ℕ → List ℕ
written bytes = codes "ok bytes " ++ (decimal bytes ++ codes "\n")

-- a file that holds more than it may
abbrev pub too_long : List ℕ → List ℕ
too_long name = codes "too long " ++ (name ++ codes "\n")

-- a schedule that is refused at its event of this number, from 1
abbrev pub schedule_refused : List ℕ → ℕ → List ℕ
schedule_refused name n = codes "schedule " ++ (name ++ (codes " refused at " ++ (decimal n ++ codes "\n")))

-- how many functions, structs, globals and mutexes an accepted program has
abbrev pub counts : ℕ → ℕ → ℕ → ℕ → List ℕ
counts functions structs globals mutexes =
    codes "ok functions " ++ (decimal functions ++ (codes " structs " ++ (decimal structs ++ (codes " globals " ++ (decimal globals ++ (codes " mutexes " ++ (decimal mutexes ++ codes "\n")))))))

-- how a run ended
abbrev pub end_words : End → List ℕ
end_words (end.Finished code) = codes "end exit " ++ decimal code
end_words (end.Trapped t x) = codes "end trap " ++ (trap x ++ (codes " thread " ++ decimal t))
end_words end.Deadlock = codes "end deadlock"
end_words end.Limit = codes "end limit"

-- the number of Steps, and that no target code ran
abbrev pub counted : ℕ → List ℕ
counted steps = codes " steps " ++ (decimal steps ++ codes " target - update ")

-- the report of a run: its end, its Steps, and what came of its update
abbrev pub report : End → ℕ → List ℕ → List ℕ
report end steps update = end_words end ++ (counted steps ++ (update ++ codes "\n"))

-- the line of a load: its number, its Steps, and what came of its update
abbrev pub loaded : ℕ → ℕ → List ℕ → List ℕ
loaded n steps update = codes "load " ++ (decimal n ++ (codes " steps " ++ (decimal steps ++ (codes " update " ++ (update ++ codes "\n")))))

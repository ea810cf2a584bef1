-- The code's answers and files as the definitions see them, without where they lie in memory; and what the reading of files came to.
use Rattle.std.specs.Prelude.{◌≡◌, ◌≤◌, ℕ, List, [], ◌∷◌, length, map, string_bytes, Result, IfOk, OnOk, IfErr, IsErrOf, Vec}
use Rattle.std.specs.declared.alloc.Global.{Global}
use Rattle.up_base.specs.Outside.{Shelf, Sunk, Holds}
use Rattle.up_base.specs.Reading.{asked as asked_for}
use Rattle.up_base.specs.declared.refusal.ReadEnd.{ReadEnd}
use Rattle.up_base.specs.declared.refusal.ReadEnd.TheVariants as ends
use Rattle.answers.specs.Answer as a
use Rattle.answers.specs.Reading.{AreRead, Begins, IsLong, IsLost, Stops}
use Rattle.answers.specs.Status.{code}
use Rattle.answers.specs.Wanted as kind
use Rattle.answers.specs.Wanted.{Wanted}
use Rattle.answers.specs.declared.answer.Answer.{Answer}
use Rattle.answers.specs.declared.answer.Halt.{Halt}
use Rattle.answers.specs.declared.answer.Halt.TheVariants.{Broke, Starved}
use Rattle.answers.specs.declared.answer.Piece.{Piece}
use Rattle.answers.specs.declared.answer.Piece.TheVariants.{Out, File}
use Rattle.answers.specs.declared.read.Taken.{Taken}
use Rattle.answers.specs.declared.read.Taken.TheVariants.{Texts, Stopped}
use Rattle.answers.specs.declared.read.WantedFile.{WantedFile}
use Rattle.answers.specs.declared.read.WantedFile.TheVariants as wanted

-- a piece
abbrev pub piece : Piece → a.Piece
piece (Out text) = a.ToOut text
piece (File name text) = a.ToFile (string_bytes name) text

-- some pieces
abbrev pub pieces : List Piece → List a.Piece
pieces ps = map piece ps

-- an answer, whose status is a number
abbrev pub answer : Answer → a.Answer
answer x = record { pieces = pieces x.pieces; line = x.line; status = code x.status }

-- why the putting of pieces ended early
abbrev pub Halts : List a.Piece → Shelf → Sunk → Shelf → Sunk → Halt → Type 0
Halts ps files out files' out' (Broke line) = a.Breaks ps files out files' out' line
Halts ps files out files' out' Starved = (p : a.Piece) × a.EndsAt p ps (a.told_of files out) (a.told_of files' out')

-- what the putting of pieces does: all are whole, or it ended early at one of them
pub record PutsPieces (ps : List a.Piece) (files : Shelf) (out : Sunk) (files' : Shelf) (out' : Sunk) (result : Result (Unit {0}) Halt) : Type 0 where
  pub reads : files'.reading ≡ files.reading
  pub writes : files.write_faults ≤ files'.write_faults
  pub outs : out.faults ≤ out'.faults
  pub whole : OnOk result (a.told_of files' out' ≡ a.with_all ps (a.told_of files out))
  pub halted : IfErr result (Halts ps files out files' out')

-- what a file to be read is, by what it holds
abbrev pub file : WantedFile → Wanted
file (wanted.Source name) = kind.source_file name.now
file (wanted.Patch name) = kind.patch_file name.now
file (wanted.Map name) = kind.map_file name.now
file (wanted.Input name) = kind.input_file name.now
file (wanted.Schedule name) = kind.schedule_file name.now

-- the files to be read
abbrev pub files : List WantedFile → List Wanted
files fs = map file fs

-- What is read leaves all but the counts of reads.
pub record Rereads (before now : Shelf) : Type 0 where
  pub held : now.held ≡ before.held
  pub writes : now.write_faults ≡ before.write_faults

-- A file was read whole, and this is its text.
pub record IsText (f : Wanted) (before now : Shelf) (text : List ℕ) : Type 0 where
  pub small : length text ≤ f.limit
  pub holds : Holds before.held f.name text
  pub counts : now.reading ≡ asked_for f.limit before.reading

-- What asking for a wanted file comes to.
pub record Asks (f : Wanted) (before now : Shelf) (result : Result (Vec ℕ Global) ReadEnd) : Type 0 where
  pub rereads : Rereads before now
  pub begins : Begins (f ∷ []) before.reading now.reading
  pub whole : IfOk result (λ v. IsText f before now v.items)
  pub failed : IsErrOf result ends.Failed → IsLost f before.held (asked_for f.limit before.reading) now.reading
  pub missing : IsErrOf result ends.Missing → IsLost f before.held (asked_for f.limit before.reading) now.reading
  pub long : IsErrOf result ends.TooLong → IsLong f before.held (asked_for f.limit before.reading) now.reading

-- A file ends the call, and this is answered.
pub record IsStop (f : Wanted) (before now : Shelf) (a : a.Answer) : Type 0 where
  pub stops : Stops (f ∷ []) before.held before.reading now.reading a

-- What the reading of files came to: their texts; or what is answered.
abbrev pub AreTaken : List Wanted → Shelf → Shelf → Taken → Type 0
AreTaken fs before now (Texts texts) = AreRead fs before.held before.reading texts now.reading
AreTaken fs before now (Stopped a) = Stops fs before.held before.reading now.reading (answer a)

-- Each text is no longer than its file may be.
abbrev pub Fit : List Wanted → List (List ℕ) → Type 0
Fit [] [] = Unit {0}
Fit (f ∷ fs) (text ∷ texts) = (length text ≤ f.limit) × Fit fs texts
Fit _ _ = ⊥

-- The text of a trace: one line for each frame that was saved or loaded.
use Rattle.std.specs.Prelude.{ℕ, Bool, true, false, List, ◌++◌, codes}
use Rattle.std.specs.Fmt.{decimal}
use Rattle.std.specs.List.{flat_map}
use Rattle.c_tree.specs.declared.event.TraceMark.{TraceMark}
use Rattle.c_tree.specs.declared.lifted.Lifted.{Lifted}
use Rattle.c_tree.specs.Canonical.{point_text}
use Rattle.c_tree.specs.Points.{point_of}
use Rattle.c_tree.specs.Step.{function_of}

-- what was done to a frame
abbrev pub word : Bool → List ℕ
word true = codes "save "
word false = codes "load "

-- the function and the point of a place of a program
abbrev pub place : Lifted → ℕ → ℕ → List ℕ
place p f n =
    let function = function_of p f in
    function.name ++ codes " " ++ point_text (point_of function n)

-- the line of a mark in a program: what was done, the thread, the function, the point, a newline
abbrev pub line : Lifted → TraceMark → List ℕ
line p m =
    word m.save
    ++ decimal m.thread
    ++ codes " "
    ++ place p m.function m.place
    ++ codes "\n"

-- the program in which a mark is: the new one, or the old one
abbrev pub program_of : Lifted → Lifted → Bool → Lifted
program_of old new true = new
program_of old new false = old

-- the text of the marks of a run that an update leads from the old program to the new one
abbrev pub trace : Lifted → Lifted → List TraceMark → List ℕ
trace old new marks = flat_map (λ m. line (program_of old new m.new) m) marks

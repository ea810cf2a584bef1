use Rattle.std.proofs.Common.{take}
use Rattle.answers.proofs.Reading.{SoFar}
use Rattle.answers.specs.Views as view
use Rattle.answers.proofs.read.read_all.Given as goal

abbrev pub invariant-loop-file : goal.invariant-loop-file
invariant-loop-file g l = SoFar (g.F.Files.shelf l.fn.files) (g.F.Files.shelf l.files) (view.files (take l.file-index l.wanted)) l.texts.items

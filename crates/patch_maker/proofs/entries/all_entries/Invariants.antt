use Rattle.std.proofs.Common.{◌≡◌, map}
use Rattle.patch_maker.specs.Subjects.{AreSubjects}
use Rattle.patch_maker.proofs.EntriesLemmas.{SoFar}
use Rattle.patch_maker.proofs.entries.all_entries.Given as goal

-- the entries so far, and what they are about
abbrev pub invariant-loop-entry : goal.invariant-loop-entry
invariant-loop-entry l = record {
  so : SoFar l.k (map (λ x. x.it) l.entries) l.entry-index l.lifted.items;
  noted : AreSubjects l.subjects l.lifted.items;
  number : l.number ≡ l.entry-index;
}

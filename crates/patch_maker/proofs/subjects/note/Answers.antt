use Rattle.std.proofs.Common.{subst}
use Rattle.patch_maker.specs.Subjects.{Adds}
use Rattle.patch_maker.proofs.SubjectLemmas.{noted}
use Rattle.patch_maker.proofs.subjects.note.Goals as goal

pub returns : goal.returns
returns c = λ es h.
    let e = c.args.entry.now in
    let first = subst (λ o. Adds c.args.subjects.now o c.add.new.subjects) c.first_subject.ensures c.in_ok-add.ensures in
    let second = subst (λ o. Adds c.add.new.subjects o c.add-2.new.subjects) c.second_subject.ensures c.in_ok-add-2.ensures in
    noted c.args.subjects.now c.add.new.subjects c.add-2.new.subjects e es first second h

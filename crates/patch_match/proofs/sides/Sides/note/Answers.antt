use Rattle.patch_match.proofs.SidesLemmas.{told}
use Rattle.patch_match.proofs.sides.Sides.note.Goals as goal

pub returns : goal.returns
returns c = λ claims n m h. told c.args.self.now _ c.args.old c.args.new c.args.stands claims n m c.note_old.ensures c.note_new.ensures h

use Rattle.patch_match.proofs.SidesLemmas.{told_as}
use Rattle.patch_match.proofs.matching.note_match.Goals as goal

pub returns : goal.returns
returns c = λ claims n m h.
    told_as c.note.new.self claims c.number-i.result _ c.side_number-j.result _ c.stands-stands.result _ n m c.number-i.ensures c.side_number-j.ensures c.stands-stands.ensures
    (c.note.ensures claims n m h)

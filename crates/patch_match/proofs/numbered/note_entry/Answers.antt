use Rattle.patch_match.proofs.NumberedLemmas.{noted}
use Rattle.patch_match.proofs.numbered.note_entry.Goals as goal

pub returns-in-Match : goal.returns-in-Match
returns-in-Match c = noted c.args.kind c.in-Match.of c.in-Match.old c.in-Match.new c.args.entry.now c.args.named.now c.note.new.self c.in-Match.is c.if-of-kind.false c.note.ensures

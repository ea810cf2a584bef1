use Rattle.std.proofs.Common.{◌∷◌, ◌∙◌, ap, sym}
use Rattle.c_check.specs.Words.{noted}
use Rattle.c_check.specs.Files.{past}
use Rattle.c_check.proofs.NoteLemmas.{noted-append}
use Rattle.c_check.proofs.FileLemmas.{past-full, too_many}
use Rattle.c_check.proofs.function.room_after.Goals as goal

pub returns-then-room-eq0 : goal.returns-then-room-eq0
returns-then-room-eq0 c = λ rest.
    ap (λ n. noted c.args.first.now (past n (c.args.function.now ∷ rest))) c.if-room-eq0.true ∙ (ap (noted c.args.first.now) (past-full c.args.function.now rest c.if-is_none.ensures)
    ∙ (noted-append c.args.first.now (too_many c.args.function.now) (past 0 rest) ∙ ap (λ f. noted f (past 0 rest)) (sym c.note.ensures)))

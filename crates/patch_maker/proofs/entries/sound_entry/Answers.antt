use Rattle.std.proofs.Common.{sym, ◌∙◌}
use Rattle.std.proofs.lemmas.Result.{err_from_is_err_and}
use Rattle.patch_maker.proofs.EntriesLemmas.{twice, sound, unsound}
use Rattle.patch_maker.proofs.entries.sound_entry.Goals as goal

pub returns-in_err-lifted-clause-sound : goal.returns-in_err-lifted-clause-sound
returns-in_err-lifted-clause-sound c = λ earlier done mirrors subjects.
    let p = err_from_is_err_and c.from_residual.result c.from_residual.ensures.1 in
    rw (p.1, p.2) (unsound c.args.k.now earlier c.args.entry.now c.in_err-lifted.field-0.0 c.in_err-lifted.ensures)

pub returns-then-clashes-clause-sound : goal.returns-then-clashes-clause-sound
returns-then-clashes-clause-sound c = λ earlier done mirrors subjects.
    twice c.args.k.now earlier done c.args.entry.now c.in_ok-lifted.lifted mirrors c.in_ok-lifted.ensures (sym (c.clashes.ensures done subjects) ∙ c.if-clashes.true)

pub returns-clause-sound : goal.returns-clause-sound
returns-clause-sound c = λ earlier done mirrors subjects.
    sound c.args.k.now earlier done c.args.entry.now c.in_ok-lifted.lifted mirrors c.in_ok-lifted.ensures (sym (c.clashes.ensures done subjects) ∙ c.if-clashes.false)

use Rattle.std.proofs.Common.{sym, ap}
use Rattle.c_tree.specs.Link.{Link}
use Rattle.patch_maker.proofs.MakerLemmas.{lifted_result}
use Rattle.patch_maker.proofs.maker.lifted_entries.Goals as goal

pub judged-requires-clause-old_limit : goal.judged-requires-clause-old_limit
judged-requires-clause-old_limit c = c.requires.old_limit

pub judged-requires-clause-new_limit : goal.judged-requires-clause-new_limit
judged-requires-clause-new_limit c = c.requires.new_limit

pub judged-requires-clause-old : goal.judged-requires-clause-old
judged-requires-clause-old c = ap (λ (k : Link). k.old) (sym c.in-Ok.ensures)

pub judged-requires-clause-new : goal.judged-requires-clause-new
judged-requires-clause-new c = ap (λ (k : Link). k.new) (sym c.in-Ok.ensures)

pub returns-in-Err : goal.returns-in-Err
returns-in-Err c = tt

pub returns-in-Ok : goal.returns-in-Ok
returns-in-Ok c = lifted_result (λ v. v.items) c.args.old.now c.args.new.now _ c.in-Ok.k c.judged.result c.in-Ok.ensures c.judged.ensures

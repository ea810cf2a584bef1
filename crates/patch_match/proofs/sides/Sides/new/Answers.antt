use Rattle.patch_match.proofs.SidesLemmas.{told_nothing}
use Rattle.patch_match.proofs.sides.Sides.new.Goals as goal

pub returns : goal.returns
returns c = told_nothing _ c.args.olds c.args.news c.in_ok-said.ensures c.in_ok-named.ensures

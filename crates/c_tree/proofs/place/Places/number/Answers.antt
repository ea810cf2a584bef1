use Rattle.std.proofs.Common.{take, rules, tests}
use Rattle.std.proofs.lemmas.Iterator.{YieldsList-from_slice}
use Rattle.std.proofs.lemmas.Iterator.Consumers.{count_from_yields_List, YieldsList-from_filter}
use Rattle.c_tree.specs.Points as spec
use Rattle.c_tree.proofs.PointLemmas.{same_kind, counted}
use Rattle.c_tree.proofs.place.Places.number.Goals as goal

pub returns : goal.returns
returns c =
    counted c.row-row.result.now c.args.n c.count-before.result c.kind-kind.result _ c.kind-kind.ensures c.row-row.ensures.row
    (count_from_yields_List c.filter.result _ c.count-before.ensures.ran (YieldsList-from_filter _ (λ p. spec.is_kind c.kind-kind.result (spec.kind_of p.act)) (YieldsList-from_slice (take c.args.n c.row-row.result.now) cc) c.filter.ensures.closure (λ x b q k. search (rules, tests, same_kind))))

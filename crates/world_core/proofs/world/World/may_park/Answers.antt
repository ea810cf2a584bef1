use Rattle.std.proofs.Common.{◌∙◌}
use Rattle.c_tree.specs.Run as r
use Rattle.world_core.specs.History.{core}
use Rattle.world_core.proofs.WorldLemmas.{none_if, on_told, test_at}
use Rattle.world_core.proofs.world.World.may_park.Goals as goal

pub returns-then-is_none : goal.returns-then-is_none
returns-then-is_none c =
    let h = c.args.self.now in
    on_told h c.may_park.result (r.may_park (core h) c.args.t) (none_if c.over.result h c.over.ensures c.if-is_none.ensures)
    (c.may_park.ensures ∙ test_at (λ k d. r.may_park d c.args.t) c.self.inside h c.present.result.now c.self.view_is c.self.invariant c.present.ensures)

use Rattle.std.proofs.Common.{◌-◌, ◌∙◌, take, ap, arith}
use Rattle.std.specs.List.{list_any}
use Rattle.c_tree.specs.Scope.{has_name}
use Rattle.c_check.proofs.StackLemmas.{declared_is}
use Rattle.c_check.proofs.locals.Locals.is_declared.Goals as goal

pub returns-clause-found : goal.returns-clause-found
returns-clause-found c =
    declared_is c.self.inside.heights c.self.inside.entries.items c.self.inside.block c.args.name.now (c.len.result - c.self.inside.block) _ _ c.args.self.now.names
    c.self.invariant (ap (λ l. l.names) c.self.view_is) (omega (arith, c.len.ensures, c.self.inside.entries.ok.0)) c.height_of.ensures c.is_from.ensures
    ∙ ap (λ l. list_any (has_name c.args.name.now) (take l.block c.args.self.now.names)) c.self.view_is

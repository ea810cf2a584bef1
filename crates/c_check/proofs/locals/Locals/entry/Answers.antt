use Rattle.std.proofs.Common.{◌∙◌, ap}
use Rattle.std.specs.Prelude.{find, reverse}
use Rattle.std.specs.Option.{option_map}
use Rattle.c_tree.specs.Scope.{has_name}
use Rattle.c_tree.specs.Numbers.{item_at}
use Rattle.c_check.specs.Stack.{height, named_by}
use Rattle.c_check.proofs.StackLemmas.{entry_is}
use Rattle.c_check.proofs.locals.Locals.entry.Goals as goal

pub returns : goal.returns
returns c =
    entry_is c.self.inside.heights c.self.inside.entries.items c.as_slice.result.now c.args.name.now _ c.args.self.now.names c.self.inside.block
    c.self.invariant c.as_slice.ensures.value (ap (λ l. l.names) c.self.view_is) c.entry_of.ensures

-- What fills the slots that are left.
use Rattle.std.proofs.Common.{ℕ, List, map}
use Rattle.std.specs.Option.{option_map}
use Rattle.std.specs.List.{enumerate_from}
use Rattle.c_tree.specs.declared.lifted.LExpr.{LExpr}
use Rattle.c_tree.specs.declared.lifted.LExpr.TheVariants as l
use Rattle.c_tree.specs.declared.lifted.Slot.{Slot}
use Rattle.c_tree.specs.declared.mapping.LFill.{LFill}
use Rattle.c_tree.specs.Fillings.{carried, filling}
use Rattle.c_tree.specs.Link.{Link}
use Rattle.c_tree.specs.MapStack.{fill_for}

-- what fills the slots from number j on
abbrev pub fillings_from : Link → List Slot → List LFill → ℕ → List Slot → List LExpr
fillings_from k olds fills j news = map (λ x. filling (fill_for fills x.0) (option_map (λ i. l.Slot i) (carried k olds x.1))) (enumerate_from j news)

-- What fills the fields that are left.
use Rattle.std.proofs.Common.{ℕ, List, map}
use Rattle.std.specs.List.{enumerate_from}
use Rattle.c_tree.specs.declared.lifted.LExpr.{LExpr}
use Rattle.c_tree.specs.declared.lifted.Slot.{Slot}
use Rattle.c_tree.specs.declared.mapping.LEntry.{LEntry}
use Rattle.c_tree.specs.Link.{Link}
use Rattle.state_transform.specs.Fields.{filling_of}

-- what fills the fields from number j on
abbrev pub fields_from : Link → List LEntry → List Slot → ℕ → ℕ → List Slot → List LExpr
fields_from k entries olds new j news = map (λ x. filling_of k entries olds new x.0 x.1) (enumerate_from j news)

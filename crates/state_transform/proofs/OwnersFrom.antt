-- Who holds the new mutexes that are left.
use Rattle.std.proofs.Common.{ℕ, List, Option, map}
use Rattle.std.specs.List.{enumerate_from}
use Rattle.c_tree.specs.declared.state.State.{State}
use Rattle.c_tree.specs.Link.{Link, origin}
use Rattle.c_tree.specs.MapMutexes.{owner_at}

-- who holds the new mutexes from number m on
abbrev pub owners_from : Link → State → ℕ → List (List ℕ) → List (Option ℕ)
owners_from k s m names = map (λ x. owner_at s (origin k.mutexes x.0)) (enumerate_from m names)

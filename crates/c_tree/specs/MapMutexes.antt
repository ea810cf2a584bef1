-- How the mutexes of an old state become those of a new one.
use Rattle.std.specs.Prelude.{ℕ, ◌+◌, ◌&&◌, is_some, is_none, if◌then◌else◌, List, [], ◌∷◌, map, slice_index_or, Option, Some, None, Result, Ok}
use Rattle.std.specs.List.{enumerate_from}
use Rattle.c_tree.specs.declared.state.State.{State}
use Rattle.c_tree.specs.declared.event.Reason.{Reason}
use Rattle.c_tree.specs.declared.event.Reason.TheVariants as why
use Rattle.c_tree.specs.Refusal.{unless_refused}
use Rattle.c_tree.specs.Link.{Link, match_at, origin}

-- the first mutex that is held and has no match; the first mutex has number m
abbrev pub held : Link → ℕ → List (Option ℕ) → Option Reason
held k m [] = None
held k m (owner ∷ rest) = if is_some owner && is_none (match_at k.mutexes m) then Some (why.Held m) else held k (m + 1) rest

-- who holds an old mutex; a mutex that is new is free
abbrev pub owner_at : State → Option ℕ → Option ℕ
owner_at s None = None
owner_at s (Some m) = slice_index_or s.mutexes m None

-- who holds each new mutex
abbrev pub new_owners : Link → State → List (Option ℕ)
new_owners k s = map (λ x. owner_at s (origin k.mutexes x.0)) (enumerate_from 0 k.new.mutexes)

-- who holds each new mutex, or the first that is held and has no match
abbrev pub map_mutexes : Link → State → Result (List (Option ℕ)) Reason
map_mutexes k s = unless_refused (held k 0 s.mutexes) (Ok (new_owners k s))

-- The points of a function: its places by kind, and the text that lists them.
use Rattle.std.specs.Prelude.{ℕ, zero, suc, ◌+◌, Bool, true, false, List, [], ◌++◌, length, map, filter, take, count_by, slice_get, Option, Some, None, codes}
use Rattle.std.specs.List.{enumerate_from, flat_map, range_with_len}
use Rattle.std.specs.Fmt.{decimal}
use Rattle.c_tree.specs.declared.lifted.LFunction.{LFunction}
use Rattle.c_tree.specs.declared.lifted.Lifted.{Lifted}
use Rattle.c_tree.specs.declared.lifted.LStmt.TheVariants as s
use Rattle.c_tree.specs.declared.place.Act.{Act}
use Rattle.c_tree.specs.declared.place.Act.TheVariants.{Enter, Do, EndLoop}
use Rattle.c_tree.specs.declared.place.Follow.{Follow}
use Rattle.c_tree.specs.declared.place.Place.{Place}
use Rattle.c_tree.specs.declared.place.PlaceKind.{PlaceKind}
use Rattle.c_tree.specs.declared.place.PlaceKind.TheVariants as kind
use Rattle.c_tree.specs.declared.mapping.Pt.{Pt}
use Rattle.c_tree.specs.Layout.{nowhere, places}

-- the place of a number
abbrev pub nth : List Place → ℕ → Place
nth places n = nowhere (slice_get places n)

-- where it goes on from a place
abbrev pub follow_at : List Place → ℕ → Follow
follow_at places n = (nth places n).follow

-- a program is updated at an entry, at a loop's end, and where it may block; callers wait at a call
abbrev pub kind_of : Act → PlaceKind
kind_of Enter = kind.Entry
kind_of EndLoop = kind.LoopEnd
kind_of (Do (s.Lock m)) = kind.Block
kind_of (Do (s.Join e)) = kind.Block
kind_of (Do (s.Call d f args)) = kind.Call
kind_of _ = kind.Plain

-- the kind of the place of a number
abbrev pub kind_at : List Place → ℕ → PlaceKind
kind_at places n = kind_of (nth places n).act

-- whether two kinds are the same
abbrev pub is_kind : PlaceKind → PlaceKind → Bool
is_kind kind.Entry kind.Entry = true
is_kind kind.LoopEnd kind.LoopEnd = true
is_kind kind.Block kind.Block = true
is_kind kind.Call kind.Call = true
is_kind kind.Plain kind.Plain = true
is_kind _ _ = false

-- how many of the first n places are of a kind
abbrev pub before : PlaceKind → List Place → ℕ → ℕ
before kind places n = count_by (λ p. is_kind kind (kind_of p.act)) (take n places)

-- a place is the k-th of its kind, in ascending order and from 1
abbrev pub number_of : List Place → ℕ → ℕ
number_of places n = before (kind_at places n) places n + 1

-- the numbers of the places of a kind, in ascending order
abbrev pub of_kind : PlaceKind → List Place → List ℕ
of_kind kind places = map (λ x. x.0) (filter (λ x. is_kind kind (kind_of x.1.act)) (enumerate_from 0 places))

-- the k-th of some numbers, from 1
abbrev pub kth : List ℕ → ℕ → Option ℕ
kth numbers zero = None
kth numbers (suc k) = slice_get numbers k

-- the k-th place of a kind
abbrev pub find_place : List Place → PlaceKind → ℕ → Option ℕ
find_place places kind k = kth (of_kind kind places) k

-- the place of a function that a point names
abbrev pub place_of : LFunction → Pt → Option ℕ
place_of f pt = find_place (places f) pt.kind pt.number

-- the point of a function's place: its kind, and its number among that kind, from 1
abbrev pub point_of : LFunction → ℕ → Pt
point_of f n = record { kind = kind_at (places f) n; number = number_of (places f) n }

-- the kind of a function's place
abbrev pub kind_in : LFunction → ℕ → PlaceKind
kind_in f n = kind_at (places f) n

-- the function that is called where this is done
abbrev pub callee_in : Act → Option ℕ
callee_in (Do (s.Call to f args)) = Some f
callee_in _ = None

-- the function that is called at a place of a function
abbrev pub callee_at : LFunction → ℕ → Option ℕ
callee_at f n = callee_in (nth (places f) n).act

-- what the k-th point of a kind is called; a plain place is no point
abbrev pub point : PlaceKind → ℕ → Option (List ℕ)
point kind.Entry k = Some (codes "entry")
point kind.LoopEnd k = Some (codes "loop " ++ decimal k)
point kind.Call k = Some (codes "call " ++ decimal k)
point kind.Block k = Some (codes "block " ++ decimal k)
point kind.Plain k = None

-- the line of the point at place n
abbrev pub line : List ℕ → ℕ → Option (List ℕ) → List ℕ
line function n None = []
line function n (Some point) = function ++ (codes " " ++ (point ++ (codes " " ++ (decimal n ++ codes "\n"))))

-- the lines of a function's points, places ascending
abbrev pub lines_of : List ℕ → List Place → List ℕ
lines_of function places =
    flat_map (λ n. line function n (point (kind_at places n) (number_of places n))) (range_with_len 0 (length places))

-- the text that lists a program's points, functions in source order
abbrev pub points : Lifted → List ℕ
points p = flat_map (λ f. lines_of f.name (places f)) p.functions

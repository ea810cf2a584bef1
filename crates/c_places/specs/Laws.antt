-- What holds of the places of every function.
use Rattle.std.specs.Prelude.{◌≡◌, ◌≢◌, ◌<◌, ℕ, ◌+◌, List, length, Some}
use Rattle.c_tree.specs.declared.lifted.LFunction.{LFunction}
use Rattle.c_tree.specs.declared.place.Place.{Place}
use Rattle.c_tree.specs.declared.place.PlaceKind.{PlaceKind}
use Rattle.c_tree.specs.declared.place.PlaceKind.TheVariants as kind
use Rattle.c_tree.specs.declared.place.Follow.{Follow}
use Rattle.c_tree.specs.declared.place.Follow.TheVariants.{One, Two, Leaves}
use Rattle.c_tree.specs.Layout.{places, size_of}
use Rattle.c_tree.specs.Points.{follow_at, kind_at, number_of, find_place}

-- what is said of each place that follows
abbrev pub EachFollower : (ℕ → Type 0) → Follow → Type 0
EachFollower P (One n) = P n
EachFollower P (Two n m) = P n × P m
EachFollower P Leaves = Unit {0}

-- the entry, the places of the body, and the implied return
abbrev pub CountsAll : Type 0
CountsAll = (f : LFunction) → length (places f) ≡ size_of f.body + 2

-- from each place it goes on within the function
abbrev pub StaysInside : Type 0
StaysInside = (f : LFunction) (n : ℕ) → n < length (places f) → EachFollower (λ m. m < length (places f)) (follow_at (places f) n)

-- from each place other than a loop's end it goes on to greater numbers
abbrev pub GoesOn : Type 0
GoesOn = (f : LFunction) (n : ℕ) → n < length (places f) → kind_at (places f) n ≢ kind.LoopEnd → EachFollower (λ m. n < m) (follow_at (places f) n)

-- a place is found by its kind and number
abbrev pub FindsEach : Type 0
FindsEach = (ps : List Place) (n : ℕ) → n < length ps → find_place ps (kind_at ps n) (number_of ps n) ≡ Some n

-- a place that is found has the kind and the number
abbrev pub FindsNoOther : Type 0
FindsNoOther = (ps : List Place) (kind : PlaceKind) (k n : ℕ) → find_place ps kind k ≡ Some n → (n < length ps) × (kind_at ps n ≡ kind) × (number_of ps n ≡ k)

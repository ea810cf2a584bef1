-- What a text lists: the events of its lines, up to the first that is no event's line.
use Rattle.std.specs.Prelude.{◌≡◌, ◌≢◌, ℕ, Bool, true, false, List, [], ◌++◌, All}
use Rattle.c_tree.specs.declared.event.Event.{Event}
use Rattle.history.specs.History.{line, history, IsEvent}

-- no line of an event begins the bytes
abbrev pub NoLine : List ℕ → Type 0
NoLine bytes =
    (event : Event) (more : List ℕ) → IsEvent event → bytes ≡ line event ++ more → ⊥

-- what a listing leaves: nothing where it is clean, and else bytes that no event's line begins
abbrev pub IsRest : Bool → List ℕ → Type 0
IsRest true rest = rest ≡ []
IsRest false rest = (rest ≢ []) × NoLine rest

-- the bytes begin with the text of the events, and leave such a rest
abbrev pub IsListing : List ℕ → List Event → Bool → Type 0
IsListing bytes events clean =
    All IsEvent events
    × ((rest : List ℕ) × (bytes ≡ history events ++ rest) × IsRest clean rest)

-- two listings of the same bytes are equal
abbrev pub AtMostOneListing : Type 0
AtMostOneListing =
    (bytes : List ℕ) (events events' : List Event) (clean clean' : Bool)
    → IsListing bytes events clean → IsListing bytes events' clean'
    → (events ≡ events') × (clean ≡ clean')

-- the one listing of a history is clean and has its events
abbrev pub ReadsBack : Type 0
ReadsBack = (events : List Event) → All IsEvent events → IsListing (history events) events true

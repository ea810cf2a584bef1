-- The form of each mapping that was read from a text.
use Rattle.std.specs.Prelude.{◌≡◌, ◌≤◌, nat_lt, not, ⊤, IsTrue, List, [], ◌∷◌, length, All, is_some, Option, Some, None}
use Rattle.c_tree.specs.declared.place.PlaceKind.TheVariants as kind
use Rattle.c_tree.specs.declared.mapping.Pt.{Pt}
use Rattle.c_tree.specs.declared.mapping.Part.{Part}
use Rattle.c_tree.specs.declared.mapping.Entry.{Entry}
use Rattle.c_tree.specs.declared.mapping.Entry.TheVariants as n
use Rattle.c_tree.specs.declared.mapping.Mapping.{Mapping}
use Rattle.c_tree.specs.Points.{is_kind}

-- a point is an entry, a call, a block, an iteration or an end, and no plain place
abbrev pub IsReadPoint : Pt → Type 0
IsReadPoint pt = IsTrue (not (is_kind kind.Plain pt.kind))

-- an added part names its function
abbrev pub IsAddedPart : Part → Type 0
IsAddedPart p = IsTrue (is_some p.function) × IsReadPoint p.point

-- one to four parts: the first names no function, and each added one does
abbrev pub AreReadParts : List Part → Type 0
AreReadParts [] = ⊥
AreReadParts (p ∷ added) = (p.function ≡ None) × IsReadPoint p.point × (length added ≤ 3) × All IsAddedPart added

-- an entry that a text gives: a match has one of the four kinds,
-- a mapped place and its parts' places are points that have names, and other entries have any form
abbrev pub IsReadEntry : Entry → Type 0
IsReadEntry (n.Match i old new) = IsTrue (nat_lt i 4)
IsReadEntry (n.Point f from parts) = IsReadPoint from × AreReadParts parts
IsReadEntry _ = ⊤

-- all entries of a mapping have the form that a text gives
abbrev pub HasMapForm : Mapping → Type 0
HasMapForm m = All (λ x. IsReadEntry x.it) m.entries

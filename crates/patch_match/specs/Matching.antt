-- The matches of one kind, from what the entries name.
use Rattle.std.specs.Prelude.{ℕ, zero, suc, ◌+◌, Bool, true, false, not, ◌&&◌, ◌||◌, is_ok, if◌then◌else◌, List, [], ◌∷◌, length, slice_index_or, Option, Some, None}
use Rattle.c_tree.specs.declared.lifted.Lifted.{Lifted}
use Rattle.c_tree.specs.declared.mapping.Entry.{Entry}
use Rattle.c_tree.specs.declared.mapping.LEntry.{LEntry}
use Rattle.c_tree.specs.Names.{find_name, names_in}
use Rattle.std.specs.List.{flat_map}
use Rattle.c_tree.specs.Link.{Claim, claim_of, start_alike, any_two, matches}
use Rattle.c_tree.specs.Entries.{all_claims, side_number}
use Rattle.c_tree.specs.Chain.{lifted_match}
use Rattle.patch_match.specs.declared.sides.Said.{Said}
use Rattle.patch_match.specs.declared.sides.Said.TheVariants.{Nothing, Named, Matched}
use Rattle.patch_match.specs.declared.sides.Sides.{Sides}
use Rattle.patch_match.specs.Sides.{Tells, claim}

-- the sides tell what claims say of one kind
abbrev pub TellsIn : Sides → ℕ → Lifted → Lifted → List Claim → Type 0
TellsIn s kind old new claims = Tells s claims (length (names_in old kind)) (length (names_in new kind))

-- the sides tell what the entries of a mapping name in one kind
abbrev pub TellsOf : Sides → ℕ → Lifted → Lifted → List Entry → Type 0
TellsOf s kind old new entries = TellsIn s kind old new (all_claims old new kind [] entries)

-- the sides tell what the entries of a patch name in one kind
abbrev pub TellsNumbers : Sides → ℕ → Lifted → Lifted → List LEntry → Type 0
TellsNumbers s kind old new entries = TellsIn s kind old new (flat_map (claim_of kind) entries)

-- whether an entry names an old thing
abbrev pub is_said : Said → Bool
is_said Nothing = false
is_said Named = true
is_said (Matched side) = true

-- whether an entry names a side that is there
abbrev pub old_is_taken : Sides → Option ℕ → Bool
old_is_taken s None = false
old_is_taken s (Some i) = is_said (slice_index_or s.said.items i Nothing)

-- whether an entry names this new side, where it is there
abbrev pub new_is_taken : Sides → Option ℕ → Bool
new_is_taken s None = false
new_is_taken s (Some j) = slice_index_or s.named.items j false

-- whether an entry names one of these two sides
abbrev pub is_taken : Sides → Option ℕ → Option ℕ → Bool
is_taken s i j = old_is_taken s i || new_is_taken s j

-- whether a match entry is sound after those before
abbrev pub stands_beside : Sides → ℕ → Lifted → Lifted → List ℕ → Option (List ℕ) → Bool
stands_beside s kind old new a b = is_ok (lifted_match old new kind a b) && not (is_taken s (find_name a (names_in old kind)) (side_number kind new b))

-- what a match entry claims after those before
abbrev pub claim_beside : Sides → ℕ → Lifted → Lifted → List ℕ → Option (List ℕ) → Claim
claim_beside s kind old new a b = claim (find_name a (names_in old kind)) (side_number kind new b) (stands_beside s kind old new a b)

-- whether things of equal names may match
abbrev pub may : ℕ → Lifted → Lifted → ℕ → ℕ → Bool
may zero old new = start_alike old new
may (suc kind) old new = any_two

-- the new thing of a name, where no entry names it and it may be the match
abbrev pub free : List Bool → (ℕ → Bool) → Option ℕ → Option ℕ
free named test None = None
free named test (Some j) = if slice_index_or named j false || not (test j) then None else Some j

-- what is said, else the match by equal names
abbrev pub match_from : Said → Option ℕ → Option ℕ
match_from (Matched side) other = side
match_from Named other = None
match_from Nothing other = other

-- the match of the i-th old thing of a kind, which has this name
abbrev pub match_beside : Sides → ℕ → Lifted → Lifted → ℕ → List ℕ → Option ℕ
match_beside s kind old new i name =
    match_from (slice_index_or s.said.items i Nothing) (free s.named.items (may kind old new i) (find_name name (names_in new kind)))

-- the matches of old things from the i-th on
abbrev pub matched : Sides → ℕ → Lifted → Lifted → ℕ → List (List ℕ) → List (Option ℕ)
matched s kind old new i [] = []
matched s kind old new i (name ∷ rest) = match_beside s kind old new i name ∷ matched s kind old new (i + 1) rest

-- the matches of a kind by what entries claim
abbrev pub matches_in : ℕ → Lifted → Lifted → List Claim → List (Option ℕ)
matches_in kind old new claims = matches claims (names_in old kind) (names_in new kind) (may kind old new)

-- the matches of a kind by a mapping
abbrev pub matches_of : ℕ → Lifted → Lifted → List Entry → List (Option ℕ)
matches_of kind old new entries = matches_in kind old new (all_claims old new kind [] entries)

-- the matches of a kind by the entries of a patch
abbrev pub matches_by_numbers : ℕ → Lifted → Lifted → List LEntry → List (Option ℕ)
matches_by_numbers kind old new entries = matches_in kind old new (flat_map (claim_of kind) entries)

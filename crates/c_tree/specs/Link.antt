-- How an old and a new program belong together: matches, and the image of a type.
use Rattle.std.specs.Prelude.{ℕ, Bool, true, false, not, ◌&&◌, ◌||◌, ◌==◌, if◌then◌else◌, List, [], ◌∷◌, map, find, slice_get, Option, Some, None}
use Rattle.std.specs.Option.{option_flatten}
use Rattle.std.specs.List.{list_any, enumerate_from, position_from, flat_map}
use Rattle.c_tree.specs.declared.ty.Ty.{Ty}
use Rattle.c_tree.specs.declared.ty.Ty.TheVariants as ty
use Rattle.c_tree.specs.declared.lifted.Lifted.{Lifted}
use Rattle.c_tree.specs.declared.mapping.LEntry.{LEntry}
use Rattle.c_tree.specs.declared.mapping.LEntry.TheVariants as entry
use Rattle.c_tree.specs.Scope.{is_same_type}
use Rattle.c_tree.specs.StartForm.{is_start}
use Rattle.c_tree.specs.Step.{function_of}
use Rattle.c_tree.specs.Names.{is_number, find_name, names_in, struct_of}

-- what a match entry names, as far as it is there, and whether the entry is sound
pub record Claim : Type 0 where
  pub old : Option ℕ
  pub new : Option ℕ
  pub stands : Bool

-- the new side of an entry; none where the entry takes a match away
abbrev pub new_side : Option Claim → Option ℕ
new_side None = None
new_side (Some c) = c.new

-- the new one of a name, where no entry names it and it may be the match
abbrev pub unclaimed : List Claim → (ℕ → Bool) → Option ℕ → Option ℕ
unclaimed claims may None = None
unclaimed claims may (Some j) = if list_any (λ c. is_number c.new j) claims || not (may j) then None else Some j

-- the match of the old one with a number and a name: what the entries say, else the new one of its name that no entry names
abbrev pub match_of : List Claim → List (List ℕ) → (ℕ → Bool) → ℕ → List ℕ → Option ℕ
match_of claims new may i name =
    if list_any (λ c. is_number c.old i) claims
    then new_side (find (λ c. is_number c.old i && c.stands) claims)
    else unclaimed claims may (find_name name new)

-- the matches of all old ones of a kind
abbrev pub matches : List Claim → List (List ℕ) → List (List ℕ) → (ℕ → ℕ → Bool) → List (Option ℕ)
matches claims old new may = map (λ x. match_of claims new (may x.0) x.0 x.1) (enumerate_from 0 old)

-- two programs, and for each old thing the number of its match
pub record Link : Type 0 where
  pub old : Lifted
  pub new : Lifted
  pub functions : List (Option ℕ)
  pub structs : List (Option ℕ)
  pub globals : List (Option ℕ)
  pub mutexes : List (Option ℕ)

-- both functions or neither can be started
abbrev pub start_alike : Lifted → Lifted → ℕ → ℕ → Bool
start_alike old new f g = if is_start (function_of old f) then is_start (function_of new g) else not (is_start (function_of new g))

-- no condition
abbrev pub any_two : ℕ → ℕ → Bool
any_two i j = true

-- the link of two programs by what entries name in each kind; functions of equal names match only where both or neither can be started
abbrev pub linked : Lifted → Lifted → (ℕ → List Claim) → Link
linked old new claims = record {
  old = old;
  new = new;
  functions = matches (claims 0) (names_in old 0) (names_in new 0) (start_alike old new);
  structs = matches (claims 1) (names_in old 1) (names_in new 1) any_two;
  globals = matches (claims 2) (names_in old 2) (names_in new 2) any_two;
  mutexes = matches (claims 3) (names_in old 3) (names_in new 3) any_two;
}

-- what an entry by numbers names in one kind
abbrev pub claim_of : ℕ → LEntry → List Claim
claim_of kind (entry.Match k old new) = if k == kind then record { old = Some old; new = new; stands = true } ∷ [] else []
claim_of kind _ = []

-- the link that the entries of a patch make
abbrev pub link_of : Lifted → Lifted → List LEntry → Link
link_of old new entries = linked old new (λ kind. flat_map (claim_of kind) entries)

-- from an old one to its match
abbrev pub match_at : List (Option ℕ) → ℕ → Option ℕ
match_at found i = option_flatten (slice_get found i)

-- from a new one to the old one that it is the match of
abbrev pub origin : List (Option ℕ) → ℕ → Option ℕ
origin found j = position_from (λ o. is_number o j) 0 found

-- the pointer to a struct
abbrev pub pointer_to : Lifted → Option ℕ → Option Ty
pointer_to p None = None
pointer_to p (Some i) = Some (ty.Ptr (struct_of p i).name)

-- the match of a struct that is there
abbrev pub match_named : Link → Option ℕ → Option ℕ
match_named k None = None
match_named k (Some i) = match_at k.structs i

-- the image of an old type: a pointer goes to the pointer to the matched struct, and has none where there is no match
abbrev pub image : Link → Ty → Option Ty
image k (ty.Ptr name) = pointer_to k.new (match_named k (find_name name (names_in k.old 1)))
image k t = Some t

-- whether there is a type, and it is this one
abbrev pub is_type : Option Ty → Ty → Bool
is_type None t = false
is_type (Some s) t = is_same_type s t

-- whether the image of an old type is this new one
abbrev pub is_image : Link → Ty → Ty → Bool
is_image k s t = is_type (image k s) t

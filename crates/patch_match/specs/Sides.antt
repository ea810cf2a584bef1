-- What the match entries of one kind name.
use Rattle.std.specs.Prelude.{◌≡◌, ℕ, ◌<◌, Bool, true, false, ◌&&◌, if◌then◌else◌, List, length, find, slice_set, slice_index_or, Option, Some, None}
use Rattle.std.specs.List.{list_any}
use Rattle.c_tree.specs.Names.{is_number}
use Rattle.c_tree.specs.Link.{Claim}
use Rattle.patch_match.specs.declared.sides.Said.{Said}
use Rattle.patch_match.specs.declared.sides.Said.TheVariants.{Nothing, Named, Matched}
use Rattle.patch_match.specs.declared.sides.Sides.{Sides}

-- a claim of these parts
abbrev pub claim : Option ℕ → Option ℕ → Bool → Claim
claim old new stands = record { old = old; new = new; stands = stands }

-- what is said with one entry more
abbrev pub and : Said → Option ℕ → Bool → Said
and (Matched first) new stands = Matched first
and Nothing new stands = if stands then Matched new else Named
and Named new stands = if stands then Matched new else Named

-- what is said of one old thing changes
abbrev pub with_said : List Said → Option ℕ → (Said → Said) → List Said
with_said said None change = said
with_said said (Some i) change = slice_set said i (change (slice_index_or said i Nothing))

-- one more new thing is named
abbrev pub with_named : List Bool → Option ℕ → List Bool
with_named named None = named
with_named named (Some j) = slice_set named j true

-- what claims say of an old thing: whether one names it, and the first sound one that does
abbrev pub said_by : Bool → Option Claim → Said
said_by named (Some c) = Matched c.new
said_by true None = Named
said_by false None = Nothing

-- what claims say of the i-th old thing
abbrev pub said_in : List Claim → ℕ → Said
said_in claims i = said_by (list_any (λ c. is_number c.old i) claims) (find (λ c. is_number c.old i && c.stands) claims)

-- whether a claim names the j-th new thing
abbrev pub named_in : List Claim → ℕ → Bool
named_in claims j = list_any (λ c. is_number c.new j) claims

-- the sides tell what claims say of n old and m new things
pub record Tells (s : Sides) (claims : List Claim) (n m : ℕ) : Type 0 where
  pub olds : length s.said.items ≡ n
  pub news : length s.named.items ≡ m
  pub said : (i : ℕ) → i < n → slice_index_or s.said.items i Nothing ≡ said_in claims i
  pub named : (j : ℕ) → j < m → slice_index_or s.named.items j false ≡ named_in claims j

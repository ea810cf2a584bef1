-- The commands of this crate are bare, and what clap finds for a bare command is exact.
use Rattle.std.proofs.Common.{◌≡◌, ◌∙◌, Bool, true, false, refl, sym, ap, [], List, Some, None}
use Rattle.std.specs.Prelude.{if◌then◌else◌}
use Rattle.clap.specs.Words.{App, Row, Text, built, fault_of, matches_of, takes}
use Rattle.clap.specs.Simple.{argument_words}
use Rattle.clap.specs.Walk.{nothing_held}
use Rattle.clap.specs.declared.error.kind.ErrorKind.{ErrorKind}
use Rattle.clap.specs.declared.error.kind.ErrorKind.TheVariants.{OutOfMemory}
use Rattle.clap.proofs.FaultLemmas.{leaf_fault}
use Rattle.clap.proofs.TakesLemmas.{leaf_takes}
use Rattle.command_line.specs.Bare.{IsBare}
use Rattle.command_line.specs.Options.{check_app, load_app, patch_app, points_app, run_app, transform_app, upgrade_app, found}
use Rattle.command_line.proofs.FaultFree.{level}

pub check_is_bare : IsBare check_app
check_is_bare = record { simple = refl; free = refl; subs = refl; defaults = refl; rules = refl; helps = refl; enters = refl }

pub points_is_bare : IsBare points_app
points_is_bare = record { simple = refl; free = refl; subs = refl; defaults = refl; rules = refl; helps = refl; enters = refl }

pub transform_is_bare : IsBare transform_app
transform_is_bare = record { simple = refl; free = refl; subs = refl; defaults = refl; rules = refl; helps = refl; enters = refl }

pub run_is_bare : IsBare run_app
run_is_bare = record { simple = refl; free = refl; subs = refl; defaults = refl; rules = refl; helps = refl; enters = refl }

pub patch_is_bare : IsBare patch_app
patch_is_bare = record { simple = refl; free = refl; subs = refl; defaults = refl; rules = refl; helps = refl; enters = refl }

pub upgrade_is_bare : IsBare upgrade_app
upgrade_is_bare = record { simple = refl; free = refl; subs = refl; defaults = refl; rules = refl; helps = refl; enters = refl }

pub load_is_bare : IsBare load_app
load_is_bare = record { simple = refl; free = refl; subs = refl; defaults = refl; rules = refl; helps = refl; enters = refl }

-- a bare command takes the words at which it has no fault
pub takes_without_fault : (a : App) (words : List Text) → IsBare a → fault_of a words ≡ [] → takes a words ≡ true
takes_without_fault a words bare e =
    let here = sym (leaf_fault (built a) nothing_held (argument_words a words) bare.subs) ∙ e in
    let passes = level (built a).top [] nothing_held (argument_words a words) bare.helps bare.enters bare.rules bare.defaults here in
    rw (bare.simple) (leaf_takes (built a) nothing_held (argument_words a words) bare.subs passes)

-- what is found where a parse gives matches with these rows
pub found_rows : (a : App) (words : List Text) (rows : List Row) → IsBare a → rows ≡ matches_of a words → fault_of a words ≡ []
    → Some rows ≡ found a words
found_rows a words rows bare is e = go (takes a words) (takes_without_fault a words bare e)
  where
    go : (b : Bool) → b ≡ true → Some rows ≡ (if b then Some (matches_of a words) else None)
    go true e = ap Some is
    go false e = cc

-- nothing is found where a parse fails by another kind than want of memory
pub found_none : (a : App) (words : List Text) (k : ErrorKind) → (takes a words ≡ true → k ≡ OutOfMemory) → (k ≡ OutOfMemory → ⊥)
    → None ≡ found a words
found_none a words k passes other = go (takes a words) passes
  where
    go : (b : Bool) → (b ≡ true → k ≡ OutOfMemory) → None ≡ (if b then Some (matches_of a words) else None)
    go true e = absurd (other (e refl))
    go false e = refl

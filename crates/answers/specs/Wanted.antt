-- The files that are read, by what they hold.
use Rattle.std.specs.Prelude.{ℕ, List}
use Rattle.c_tree.specs.declared.cause.ReadCause.TheVariants as read
use Rattle.c_tree.specs.declared.cause.SourceCause.TheVariants as cause
use Rattle.answers.specs.Answer.{Answer}
use Rattle.answers.specs.Refusals.{map_refused, patch_too_long, refused, too_long}

-- A file to be read: its name, the most bytes that it may hold, and what is answered where it holds more.
pub record Wanted : Type 0 where
  pub name : List ℕ
  pub limit : ℕ
  pub too_long : Answer

-- the most bytes of a source, and of an input
abbrev pub max_source : ℕ
max_source = 1048576

-- the most bytes of a mapping
abbrev pub max_map : ℕ
max_map = 1048576

-- the most bytes of a patch's file
abbrev pub max_patch : ℕ
max_patch = 4194304

-- the most bytes of a schedule
abbrev pub max_schedule : ℕ
max_schedule = 268435456

-- a file that holds a source
abbrev pub source_file : List ℕ → Wanted
source_file name = record { name = name; limit = max_source; too_long = refused name max_source (cause.Read read.TooLong) }

-- a file that holds a mapping
abbrev pub map_file : List ℕ → Wanted
map_file name = record { name = name; limit = max_map; too_long = map_refused name max_map read.TooLong }

-- a file that holds a patch
abbrev pub patch_file : List ℕ → Wanted
patch_file name = record { name = name; limit = max_patch; too_long = patch_too_long name }

-- a file that holds a schedule
abbrev pub schedule_file : List ℕ → Wanted
schedule_file name = record { name = name; limit = max_schedule; too_long = too_long name }

-- a file that holds the input of a program
abbrev pub input_file : List ℕ → Wanted
input_file name = record { name = name; limit = max_source; too_long = too_long name }

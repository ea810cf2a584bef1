-- The command that the words of a call are.
use Rattle.std.specs.Prelude.{ℕ, Bool, ◌&&◌, ◌||◌, List, [], ◌∷◌, Option, Some, None, is_some, is_none, unwrap_or, option_map, if◌then◌else◌, codes}
use Rattle.std.specs.Option.{option_map_or}
use Rattle.std.specs.Str.{bytes_eq}
use Rattle.std.specs.Str.Parse.{digits_value, without_leading_plus}
use Rattle.clap.specs.Words.{Row, Text, first_of}
use Rattle.command_line.specs.Options as options

-- The update that a run is asked for.
pub record UpdateWords : Type 0 where
  -- the name of the file with the patch
  pub patch : Text
  -- after how many Steps it is asked for
  pub at : ℕ

-- What a run is asked to do.
pub record RunWords : Type 0 where
  -- the name of the file with the program
  pub file : Text
  -- the update that it is asked for
  pub update : Option UpdateWords
  -- the name of the file that the program reads as its input
  pub input : Option Text
  -- what the choices of a drawn schedule are drawn from
  pub seed : Option ℕ
  -- the name of the file with a schedule
  pub schedule : Option Text
  -- the most steps that the run may make
  pub steps : ℕ
  -- the name of the file that the history goes to
  pub history : Option Text

-- The files of a patch that is made.
pub record PatchWords : Type 0 where
  -- the names of the files with the old program, the new program and the mapping
  pub old : Text
  pub new : Text
  pub map : Text
  -- the name of the file that the patch goes to
  pub output : Text

-- The files of a patch whose format is made the newest one.
pub record UpgradeWords : Type 0 where
  -- the name of the file with the patch
  pub file : Text
  -- the name of the file that the patch goes to
  pub output : Text

-- What the words ask for. Each command has the names of its files, and `Load` the size of its texts.
pub data Command : Type 0 where
  Usage : Command
  Check : Text → Command
  Points : Text → Command
  Transform : Text → Command
  Run : RunWords → Command
  Patch : PatchWords → Command
  Upgrade : UpgradeWords → Command
  Load : ℕ → Command

-- the name of a file that has to be named
abbrev pub name_in : Text → List Row → Text
name_in name rows = unwrap_or (first_of name rows) []

-- the name of the file that is read
abbrev pub file_in : List Row → Text
file_in rows = name_in (codes "file") rows

-- the number that a text says
abbrev pub number_of : Text → ℕ
number_of text = digits_value 10 (without_leading_plus text)

-- the number of an option, where it was given
abbrev pub number_in : Text → List Row → Option ℕ
number_in name rows = option_map number_of (first_of name rows)

-- the update of a patch and a number of Steps, where both are given
abbrev pub update_of : Option Text → Option ℕ → Option UpdateWords
update_of (Some patch) (Some at) = Some (record { patch = patch; at = at })
update_of (Some patch) None = None
update_of None at = None

-- whether one of the two is given without the other
abbrev pub is_half : Option Text → Option ℕ → Bool
is_half patch at = if is_some patch then is_none at else is_some at

-- what a run is asked to do, by what was found for its arguments
abbrev pub run_words : List Row → RunWords
run_words rows = record {
  file = file_in rows;
  update = update_of (first_of (codes "patch") rows) (number_in (codes "at") rows);
  input = first_of (codes "input") rows;
  seed = number_in (codes "seed") rows;
  schedule = first_of (codes "schedule") rows;
  steps = unwrap_or (number_in (codes "steps") rows) options.default_steps;
  history = first_of (codes "history") rows;
}

-- a run follows a schedule or draws one from a seed, and not both; half an update is none
abbrev pub run_on : Bool → RunWords → Command
run_on half words = if half || (is_some words.seed && is_some words.schedule) then Usage else Run words

-- the command of a run, by what was found for its arguments
abbrev pub run_in : List Row → Command
run_in rows = run_on (is_half (first_of (codes "patch") rows) (number_in (codes "at") rows)) (run_words rows)

-- what `check` asks for; words that it doesn't take are a usage fault
abbrev pub check_of : List Text → Command
check_of words =
    option_map_or (λ rows. Check (file_in rows)) (options.found options.check_app words) Usage

-- what `points` asks for
abbrev pub points_of : List Text → Command
points_of words =
    option_map_or (λ rows. Points (file_in rows)) (options.found options.points_app words) Usage

-- what `transform` asks for
abbrev pub transform_of : List Text → Command
transform_of words =
    option_map_or (λ rows. Transform (file_in rows)) (options.found options.transform_app words) Usage

-- what `run` asks for
abbrev pub run_of : List Text → Command
run_of words =
    option_map_or run_in (options.found options.run_app words) Usage

-- the files of a patch that is made, by what was found for its arguments
abbrev pub patch_words : List Row → PatchWords
patch_words rows = record {
  old = name_in (codes "old") rows;
  new = name_in (codes "new") rows;
  map = name_in (codes "map") rows;
  output = name_in (codes "output") rows;
}

-- what `patch` asks for
abbrev pub patch_of : List Text → Command
patch_of words =
    option_map_or (λ rows. Patch (patch_words rows)) (options.found options.patch_app words) Usage

-- the files of a patch that is upgraded, by what was found for its arguments
abbrev pub upgrade_words : List Row → UpgradeWords
upgrade_words rows = record { file = file_in rows; output = name_in (codes "output") rows }

-- what `upgrade` asks for
abbrev pub upgrade_of : List Text → Command
upgrade_of words =
    option_map_or (λ rows. Upgrade (upgrade_words rows)) (options.found options.upgrade_app words) Usage

-- a load of this size; no number is none
abbrev pub load_on : Option ℕ → Command
load_on number = option_map_or Load number Usage

-- the command of a load, by what was found for its number
abbrev pub load_in : List Row → Command
load_in rows = load_on (number_in (codes "number") rows)

-- what `load` asks for
abbrev pub load_of : List Text → Command
load_of words =
    option_map_or load_in (options.found options.load_app words) Usage

-- the command of a name with these words; another name is a usage fault
abbrev pub command_on : Text → List Text → Command
command_on name words =
    if bytes_eq name (codes "check") then check_of words
    else (if bytes_eq name (codes "points") then points_of words
    else (if bytes_eq name (codes "transform") then transform_of words
    else (if bytes_eq name (codes "run") then run_of words
    else (if bytes_eq name (codes "patch") then patch_of words
    else (if bytes_eq name (codes "upgrade") then upgrade_of words
    else (if bytes_eq name (codes "load") then load_of words else Usage))))))

-- the command that the words are; the first of them is its name
abbrev pub command_of : List Text → Command
command_of [] = Usage
command_of (name ∷ rest) = command_on name (name ∷ rest)

-- The words that each command takes after its name, as the commands of clap.
use Rattle.std.specs.Prelude.{ℕ, Option, Some, None, List, true, codes, if◌then◌else◌}
use Rattle.clap.specs.Words.{App, Row, Rule, Text, new_app, new_rule, with_rule, takes, matches_of}
use Rattle.clap.specs.Simple.{on_top}
use Rattle.clap.specs.declared.builder.value_parser.ValueParser.TheVariants as parser

-- an argument that has to be given, such as the name of a file
abbrev pub needed : Text → Rule
needed name = record (new_rule name) { required = true }

-- the file that a command reads
abbrev pub file : Rule
file = needed (codes "file")

-- an option with a text, `--NAME TEXT`
abbrev pub text_option : Text → Rule
text_option name = record (new_rule name) { long = Some name }

-- an option with a number in a range
abbrev pub number_option : Text → ℕ → ℕ → Rule
number_option name least most =
    record (text_option name) { parser = Some (parser.Unsigned least most) }

-- a seed is at most this number
abbrev pub max_seed : ℕ
max_seed = 18446744073709551615

-- a run makes at most so many Steps, and its update is asked for after no more
abbrev pub max_steps : ℕ
max_steps = 10000000

-- the texts of a load have at most this size
abbrev pub max_load : ℕ
max_load = 1000

-- a run that is given no limit makes at most so many Steps
abbrev pub default_steps : ℕ
default_steps = 1000000

-- the patch of an update
abbrev pub patch : Rule
patch = text_option (codes "patch")

-- the number of Steps after which an update is asked for
abbrev pub at : Rule
at = number_option (codes "at") 0 max_steps

-- the file that the program reads as its input
abbrev pub input : Rule
input = text_option (codes "input")

-- what the choices of a drawn schedule are drawn from
abbrev pub seed : Rule
seed = number_option (codes "seed") 0 max_seed

-- the file with a schedule
abbrev pub schedule : Rule
schedule = text_option (codes "schedule")

-- the most Steps that the run may make, 1 at least
abbrev pub steps : Rule
steps = number_option (codes "steps") 1 max_steps

-- the file that the history goes to
abbrev pub history : Rule
history = text_option (codes "history")

-- a command with no words of its own for help and for the version
abbrev pub bare : Text → App
bare name = on_top (λ s. record s {
  disable_help_flag = true;
  disable_version_flag = true;
  disable_help_subcommand = true;
}) (new_app name)

-- a command that takes a file alone
abbrev pub file_app : Text → App
file_app name = with_rule (bare name) file

-- the words of `check`
abbrev pub check_app : App
check_app = file_app (codes "check")

-- the words of `transform`
abbrev pub transform_app : App
transform_app = file_app (codes "transform")

-- the words of `points`
abbrev pub points_app : App
points_app = file_app (codes "points")

-- the words of `run`
abbrev pub run_app : App
run_app =
    with_rule (with_rule (with_rule (with_rule (with_rule (with_rule (with_rule
    (file_app (codes "run")) patch) at) input) seed) schedule) steps) history

-- the file with the old program
abbrev pub old : Rule
old = needed (codes "old")

-- the file with the new program
abbrev pub new : Rule
new = needed (codes "new")

-- the file with the mapping
abbrev pub mapping : Rule
mapping = needed (codes "map")

-- the file that a patch goes to, `-o OUT`
abbrev pub output : Rule
output = record (new_rule (codes "output")) { short = Some 111; required = true }

-- the words of `patch`
abbrev pub patch_app : App
patch_app = with_rule (with_rule (with_rule (with_rule (bare (codes "patch")) old) new) mapping) output

-- the words of `upgrade`
abbrev pub upgrade_app : App
upgrade_app = with_rule (file_app (codes "upgrade")) output

-- how large the texts of a load are, a number that has to be given
abbrev pub number : Rule
number = record (needed (codes "number")) { parser = Some (parser.Unsigned 1 max_load) }

-- the words of `load`
abbrev pub load_app : App
load_app = with_rule (bare (codes "load")) number

-- what was found for each argument, where the command takes the words
abbrev pub found : App → List Text → Option (List Row)
found app words = if takes app words then Some (matches_of app words) else None

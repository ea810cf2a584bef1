-- What a command asks for: the files that it reads, and those that it may write.
use Rattle.std.specs.Prelude.{ℕ, List, [], ◌∷◌, ◌++◌, Option, Some, None, option_to_list, codes}
use Rattle.command_line.specs.Command.{Command, Usage, Check, Points, Transform, Run, RunWords, UpdateWords, Patch, PatchWords, Upgrade, Load}
use Rattle.answers.specs.Wanted.{Wanted, input_file, map_file, patch_file, schedule_file, source_file}

-- a file, where its name is given
abbrev pub named : (List ℕ → Wanted) → Option (List ℕ) → List Wanted
named file None = []
named file (Some name) = file name ∷ []

-- the file with the patch of an update
abbrev pub update_files : Option UpdateWords → List Wanted
update_files None = []
update_files (Some update) = patch_file update.patch ∷ []

-- the files that a run reads behind its source and its patch
abbrev pub run_files : RunWords → List Wanted
run_files words = named input_file words.input ++ named schedule_file words.schedule

-- The files that a command reads.
abbrev pub wanted : Command → List Wanted
wanted Usage = []
wanted (Check name) = source_file name ∷ []
wanted (Points name) = source_file name ∷ []
wanted (Transform name) = source_file name ∷ []
wanted (Run words) = source_file words.file ∷ update_files words.update ++ run_files words
wanted (Patch words) = source_file words.old ∷ source_file words.new ∷ map_file words.map ∷ []
wanted (Upgrade words) = patch_file words.file ∷ []
wanted (Load n) = []

-- The names that a command may write.
abbrev pub outputs : Command → List (List ℕ)
outputs (Run words) = option_to_list words.history
outputs (Patch words) = words.output ∷ []
outputs (Upgrade words) = words.output ∷ []
outputs _ = []

-- The names by which a line tells of an old source, a new one and a mapping.
pub record TextNames : Type 0 where
  pub old : List ℕ
  pub new : List ℕ
  pub map : List ℕ

-- the texts of a patch are told of by the names of their files
abbrev pub names_of : PatchWords → TextNames
names_of words = record { old = words.old; new = words.new; map = words.map }

-- the texts of a load are told of by these names
abbrev pub load_names : TextNames
load_names = record { old = codes "old"; new = codes "new"; map = codes "map" }

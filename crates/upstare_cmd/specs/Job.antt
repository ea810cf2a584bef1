-- What a call is asked to do, whatever the words that asked for it.
use Rattle.std.specs.Prelude.{◌≡◌, ℕ, List}
use Rattle.command_line.specs.Command.{Command, Usage}
use Rattle.answers.specs.Answer.{Answer}
use Rattle.answers.specs.Wanted.{Wanted}
use Rattle.upstare_cmd.specs.Asked as asked
use Rattle.upstare_cmd.specs.Meaning as meaning

-- The files that are read, the names that may be written, what an answer means by the texts of the files, and whether the words
-- are none that ask for anything.
pub record Job : Type 1 where
  pub wanted : List Wanted
  pub outputs : List (List ℕ)
  pub Means : List (List ℕ) → Answer → Type 0
  pub IsUsage : Type 0

-- What a command asks for.
abbrev pub job_of : Command → Job
job_of c = record { wanted = asked.wanted c; outputs = asked.outputs c; Means = meaning.Means c; IsUsage = c ≡ Usage }

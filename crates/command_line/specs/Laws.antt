-- What holds of whatever the words ask for.
use Rattle.std.specs.Prelude.{◌≡◌, ◌⊎◌, ◌≤◌, ◌<◌, ◌^◌, ℕ, IfSome, List, None}
use Rattle.command_line.specs.Command.{Command, Load, Run, RunWords, command_of}

-- a run makes from 1 to 10,000,000 steps at most, its seed is below 2 ^ 64, it has not both a seed
-- and a schedule, and its update is asked for after 10,000,000 steps at most
pub record IsFair (run : RunWords) : Type 0 where
  pub least : 1 ≤ run.steps
  pub most : run.steps ≤ 10000000
  pub seed : IfSome run.seed (λ n. n < 2 ^ 64)
  pub one : (run.seed ≡ None) ⊎ (run.schedule ≡ None)
  pub at : IfSome run.update (λ update. update.at ≤ 10000000)

-- a run that is asked for is fair, and texts that are asked for are neither empty nor endless
abbrev pub IsFairCommand : Command → Type 0
IsFairCommand (Run run) = IsFair run
IsFairCommand (Load n) = (1 ≤ n) × (n ≤ 1000)
IsFairCommand _ = Unit {0}

-- whatever the words are, what they ask for is fair
abbrev pub CommandIsFair : Type 0
CommandIsFair = (words : List (List ℕ)) → IsFairCommand (command_of words)

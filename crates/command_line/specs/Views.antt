-- The code's commands as the definitions see them: without where their texts lie in memory.
use Rattle.std.specs.Prelude.{ℕ, List, Option, option_map}
use Rattle.std.specs.Borrow.{Bor}
use Rattle.command_line.specs.Command as c
use Rattle.command_line.specs.declared.command.Command.{Command}
use Rattle.command_line.specs.declared.command.Command.TheVariants.{Usage, Check, Points, Transform, Run, Patch, Upgrade, Load}
use Rattle.command_line.specs.declared.command.RunWords.{RunWords}
use Rattle.command_line.specs.declared.command.UpdateWords.{UpdateWords}
use Rattle.command_line.specs.declared.command.PatchWords.{PatchWords}
use Rattle.command_line.specs.declared.command.UpgradeWords.{UpgradeWords}

-- a text that need not be there
abbrev pub text : Option (Bor (List ℕ)) → Option (List ℕ)
text = option_map (λ s. s.now)

-- an update that need not be there
abbrev pub update : Option UpdateWords → Option c.UpdateWords
update = option_map (λ u. record { patch = u.patch.now; at = u.at })

-- what a run is asked to do
abbrev pub run : RunWords → c.RunWords
run r = record {
  file = r.file.now;
  update = update r.update;
  input = text r.input;
  seed = r.seed;
  schedule = text r.schedule;
  steps = r.steps;
  history = text r.history;
}

-- the files of a patch that is made
abbrev pub patch : PatchWords → c.PatchWords
patch p = record { old = p.old.now; new = p.new.now; map = p.map.now; output = p.output.now }

-- the files of a patch that is upgraded
abbrev pub upgrade : UpgradeWords → c.UpgradeWords
upgrade u = record { file = u.file.now; output = u.output.now }

-- a command
abbrev pub command : Command → c.Command
command Usage = c.Usage
command (Check name) = c.Check name.now
command (Points name) = c.Points name.now
command (Transform name) = c.Transform name.now
command (Run r) = c.Run (run r)
command (Patch p) = c.Patch (patch p)
command (Upgrade u) = c.Upgrade (upgrade u)
command (Load n) = c.Load n

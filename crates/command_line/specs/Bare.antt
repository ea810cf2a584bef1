-- The commands that are used here: what clap finds in the words is exact for them.
use Rattle.std.specs.Prelude.{◌≡◌, true, false, []}
use Rattle.std.specs.List.{list_all}
use Rattle.clap.specs.Words.{App, built, is_simple, is_simple_and_free}
use Rattle.clap.specs.Takes.{default_passes}

-- a command with no subcommand, and with no rule of one argument on another
pub record IsBare (a : App) : Type 0 where
  pub simple : is_simple a ≡ true
  pub free : is_simple_and_free a ≡ true
  pub subs : (built a).subs ≡ []
  pub defaults : list_all default_passes (built a).top.rules ≡ true
  pub rules : list_all (λ r. r.is_free) (built a).top.rules ≡ true
  pub helps : (built a).top.arg_required_else_help ≡ false
  pub enters : (built a).top.subcommand_required ≡ false

use Rattle.std.proofs.Common.{◌≡◌, ◌∙◌, ap, sym, subst, map, option_map, string_bytes, Some}
use Rattle.clap.specs.Words.{found_of, rows_of}
use Rattle.command_line.specs.Bare.{IsBare}
use Rattle.command_line.specs.Options.{found, upgrade_app}
use Rattle.command_line.proofs.BareLemmas.{upgrade_is_bare}
use Rattle.command_line.proofs.CommandLemmas.{upgrade_given}
use Rattle.command_line.proofs.command.upgrade_in.Goals as goal

pub returns : goal.returns
returns c =
    let words = map string_bytes c.args.words.now in
    let rows = rows_of (found_of c.in-Some.matches) in
    let bare = subst IsBare (sym c.in_ok-upgrade_command.ensures) upgrade_is_bare in
    let is : Some rows ≡ found upgrade_app words = sym (ap (option_map (λ m. rows_of (found_of m))) c.in-Some.is) ∙ c.in_ok-matches.ensures bare
    ∙ ap (λ a. found a words) c.in_ok-upgrade_command.ensures in
    upgrade_given words rows _ is c.file_in.ensures c.name_in.ensures

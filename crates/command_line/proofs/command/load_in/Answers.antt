use Rattle.std.proofs.Common.{◌≡◌, ◌∙◌, ap, sym, subst, map, option_map, string_bytes, Some}
use Rattle.clap.specs.Words.{found_of, rows_of}
use Rattle.command_line.specs.Bare.{IsBare}
use Rattle.command_line.specs.Command.{load_on}
use Rattle.command_line.specs.Options.{found, load_app}
use Rattle.command_line.proofs.BareLemmas.{load_is_bare}
use Rattle.command_line.proofs.CommandLemmas.{load_given, no_load}
use Rattle.command_line.proofs.LawLemmas.{load_lies}
use Rattle.command_line.proofs.command.load_in.Goals as goal

pub returns : goal.returns
returns c =
    let words = map string_bytes c.args.words.now in
    let rows = rows_of (found_of c.in-Some.matches) in
    let bare = subst IsBare (sym c.in_ok-load_command.ensures) load_is_bare in
    let is : Some rows ≡ found load_app words = sym (ap (option_map (λ m. rows_of (found_of m))) c.in-Some.is) ∙ c.in_ok-matches.ensures bare
    ∙ ap (λ a. found a words) c.in_ok-load_command.ensures in
    load_given words rows _ is (c.load_on.ensures ∙ ap load_on (c.small_number_in.ensures (load_lies words rows is)))

pub returns-in_default : goal.returns-in_default
returns-in_default c =
    let words = map string_bytes c.args.words.now in
    let bare = subst IsBare (sym c.in_ok-load_command.ensures) load_is_bare in
    no_load words (sym (ap (option_map (λ m. rows_of (found_of m))) c.in_default.is) ∙ c.in_ok-matches.ensures bare ∙ ap (λ a. found a words) c.in_ok-load_command.ensures)

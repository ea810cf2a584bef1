use Rattle.std.proofs.Common.{◌≡◌, ◌∙◌, ap, sym, subst, map, option_map, string_bytes, Some}
use Rattle.clap.specs.Words.{found_of, rows_of}
use Rattle.command_line.specs.Bare.{IsBare}
use Rattle.command_line.specs.Options.{found, patch_app}
use Rattle.command_line.proofs.BareLemmas.{patch_is_bare}
use Rattle.command_line.proofs.CommandLemmas.{patch_given}
use Rattle.command_line.proofs.command.patch_in.Goals as goal

pub returns : goal.returns
returns c =
    let words = map string_bytes c.args.words.now in
    let rows = rows_of (found_of c.in-Some.matches) in
    let bare = subst IsBare (sym c.in_ok-patch_command.ensures) patch_is_bare in
    let is : Some rows ≡ found patch_app words = sym (ap (option_map (λ m. rows_of (found_of m))) c.in-Some.is) ∙ c.in_ok-matches.ensures bare
    ∙ ap (λ a. found a words) c.in_ok-patch_command.ensures in
    patch_given words rows _ is c.name_in.ensures c.name_in-2.ensures c.name_in-3.ensures c.name_in-4.ensures

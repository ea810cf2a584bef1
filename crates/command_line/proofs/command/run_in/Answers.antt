use Rattle.std.proofs.Common.{◌≡◌, ◌∙◌, ap, ap₂, sym, subst, codes, map, option_map, string_bytes, unwrap_or, Some}
use Rattle.clap.specs.Words.{first_of, found_of, rows_of}
use Rattle.command_line.specs.Bare.{IsBare}
use Rattle.command_line.specs.Command.{is_half, update_of}
use Rattle.command_line.specs.Options.{default_steps, found, run_app}
use Rattle.command_line.proofs.BareLemmas.{run_is_bare}
use Rattle.command_line.proofs.CommandLemmas.{at_is_read, not_taken, run_given, steps_are_read}
use Rattle.command_line.proofs.LawLemmas.{at_lies, seed_lies, steps_lie}
use Rattle.command_line.proofs.command.run_in.Goals as goal

pub returns : goal.returns
returns c =
    let words = map string_bytes c.args.words.now in
    let rows = rows_of (found_of c.in-Some.matches) in
    let bare = subst IsBare (sym c.in_ok-run_command.ensures) run_is_bare in
    let is : Some rows ≡ found run_app words = sym (ap (option_map (λ m. rows_of (found_of m))) c.in-Some.is) ∙ c.in_ok-matches.ensures bare
    ∙ ap (λ a. found a words) c.in_ok-run_command.ensures in
    let at = c.number_in-at.ensures (at_is_read (first_of (codes "at") rows) (at_lies words rows is)) in
    let steps = c.number_in-2.ensures (steps_are_read (first_of (codes "steps") rows) (steps_lie words rows is)) in
    c.run_on.ensures ∙ run_given words rows _ _ is (c.is_half.ensures ∙ ap₂ is_half c.text_in-patch.ensures at) c.file_in.ensures
    (c.update_of.ensures ∙ ap₂ update_of c.text_in-patch.ensures at) c.text_in.ensures (c.number_in.ensures (seed_lies words rows is)) c.text_in-2.ensures
    (c.unwrap_or.ensures ∙ ap (λ o. unwrap_or o default_steps) steps) c.text_in-3.ensures

pub returns-in_default : goal.returns-in_default
returns-in_default c =
    let words = map string_bytes c.args.words.now in
    let bare = subst IsBare (sym c.in_ok-run_command.ensures) run_is_bare in
    not_taken words (sym (ap (option_map (λ m. rows_of (found_of m))) c.in_default.is) ∙ c.in_ok-matches.ensures bare ∙ ap (λ a. found a words) c.in_ok-run_command.ensures)

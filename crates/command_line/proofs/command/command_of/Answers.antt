use Rattle.std.proofs.Common.{map, string_bytes}
use Rattle.std.proofs.lemmas.Result.{IfOk-weaker}
use Rattle.command_line.specs.Command.{command_of, load_of, patch_of, run_of, upgrade_of}
use Rattle.command_line.specs.Views as view
use Rattle.command_line.proofs.CommandLemmas.{no_command, retold, run_named}
use Rattle.command_line.proofs.LawLemmas.{load_of_is_fair, patch_of_is_fair, run_of_is_fair, same_is_fair, upgrade_of_is_fair}
use Rattle.command_line.proofs.command.command_of.Goals as goal

pub returns-in-run-clause-fair : goal.returns-in-run-clause-fair
returns-in-run-clause-fair c =
    let words = map string_bytes c.args.words.now in
    IfOk-weaker c.run_in.result _ _ (λ run. same_is_fair (view.command run) (run_of words) (run_of_is_fair words)) c.run_in.ensures

pub returns-in_default-as_str-clause-command : goal.returns-in_default-as_str-clause-command
returns-in_default-as_str-clause-command c = no_command string_bytes c.args.words.now c.in-Some.name.now c.as_str.result.now c.in-Some.ensures.value c.as_str.ensures.value
    c.in_default-as_str.not-check c.in_default-as_str.not-points c.in_default-as_str.not-transform c.in_default-as_str.not-run c.in_default-as_str.not-patch
    c.in_default-as_str.not-upgrade c.in_default-as_str.not-load

pub returns-in-run-clause-command : goal.returns-in-run-clause-command
returns-in-run-clause-command c =
    let words = map string_bytes c.args.words.now in
    retold c.run_in.result view.command (run_of words) (command_of words)
    (run_named string_bytes c.args.words.now c.in-Some.name.now c.as_str.result.now c.in-Some.ensures.value c.as_str.ensures.value c.in-run.is) c.run_in.ensures

pub returns-in-patch-clause-fair : goal.returns-in-patch-clause-fair
returns-in-patch-clause-fair c =
    let words = map string_bytes c.args.words.now in
    IfOk-weaker c.patch_in.result _ _ (λ patch. same_is_fair (view.command patch) (patch_of words) (patch_of_is_fair words)) c.patch_in.ensures

pub returns-in-load-clause-fair : goal.returns-in-load-clause-fair
returns-in-load-clause-fair c =
    let words = map string_bytes c.args.words.now in
    IfOk-weaker c.load_in.result _ _ (λ load. same_is_fair (view.command load) (load_of words) (load_of_is_fair words)) c.load_in.ensures

pub returns-in-upgrade-clause-fair : goal.returns-in-upgrade-clause-fair
returns-in-upgrade-clause-fair c =
    let words = map string_bytes c.args.words.now in
    IfOk-weaker c.upgrade_in.result _ _ (λ upgrade. same_is_fair (view.command upgrade) (upgrade_of words) (upgrade_of_is_fair words)) c.upgrade_in.ensures

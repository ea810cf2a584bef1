use Rattle.command_line.specs.Views as words_view
use Rattle.upstare_cmd.proofs.Upgrading.{of_patch, of_refused}
use Rattle.upstare_cmd.proofs.upgrade.upgrade_meant.Goals as goal

pub returns-in-Ok : goal.returns-in-Ok
returns-in-Ok c = of_patch (words_view.upgrade c.args.words.now) c.args.bytes.now c.in-Ok.patch c.upgraded.result c.in-Ok.ensures c.upgraded.ensures

pub returns-in-Err : goal.returns-in-Err
returns-in-Err c = of_refused (words_view.upgrade c.args.words.now) c.args.bytes.now c.in-Err.why c.file_turned_down.result c.in-Err.ensures c.file_turned_down.ensures

use Rattle.std.proofs.Common.{◌≡◌, rules}
use Rattle.command_line.specs.Views as words_view
use Rattle.world_core.specs.History.{core}
use Rattle.answers.specs.Views as view
use Rattle.upstare_cmd.proofs.Running.{tells}
use Rattle.upstare_cmd.proofs.told.told.Goals as goal

pub returns : goal.returns
returns c =
    let printed : c.from_vec-output.result ≡ (core c.args.world.now).state.output = search rules in
    tells c.args.world.now (words_view.text c.args.history) c.events.result.now.items c.args.end c.from_vec-output.result c.steps.result c.in_ok-update.update c.as_bytes.result.now
    c.in_ok-line.line (view.pieces c.in_ok-pieces_of.field-0) c.status_of.result
    c.requires.over c.requires.single c.output.ensures.legal printed c.steps.ensures c.in_ok-update.ensures c.as_bytes.ensures c.in_ok-line.ensures c.events.ensures.value c.in_ok-pieces_of.ensures
    c.status_of.ensures

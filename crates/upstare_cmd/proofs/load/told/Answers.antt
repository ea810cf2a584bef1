use Rattle.std.proofs.Common.{◌≡◌, [], rules}
use Rattle.world_core.specs.History.{core}
use Rattle.answers.specs.Views as view
use Rattle.upstare_cmd.proofs.Loading.{tells}
use Rattle.upstare_cmd.proofs.load.told.Goals as goal

pub returns : goal.returns
returns c =
    let printed : c.from_vec-output.result ≡ (core c.args.world.now).state.output = search rules in
    let empty : c.from_vec.result ≡ [] = search rules in
    tells c.args.world.now c.args.n c.args.end c.from_vec-output.result c.steps.result c.in_ok-update.update c.as_bytes.result.now c.in_ok-line.line c.from_vec.result
    (view.pieces c.in_ok-pieces_of.field-0) c.status_of.result
    c.requires.over c.requires.single c.output.ensures.legal printed c.steps.ensures c.in_ok-update.ensures c.as_bytes.ensures c.in_ok-line.ensures c.in_ok-pieces_of.ensures empty c.status_of.ensures

use Rattle.std.proofs.Common.{arith}
use Rattle.command_line.specs.Views as words_view
use Rattle.upstare_cmd.proofs.Patching.{means_three}
use Rattle.upstare_cmd.proofs.patch.patch_meant.Goals as goal

pub returns : goal.returns
returns c =
    means_three (words_view.patch c.args.words.now) c.args.texts.now c.old-item.result c.new-item.result c.mapping-item.result _ _ _
    c.as_bytes.result.now c.as_bytes-2.result.now c.as_bytes-3.result.now c.texts_meant.result (omega arith)
    c.old-item.is c.new-item.is c.mapping-item.is c.as_bytes.ensures c.as_bytes-2.ensures c.as_bytes-3.ensures c.texts_meant.ensures

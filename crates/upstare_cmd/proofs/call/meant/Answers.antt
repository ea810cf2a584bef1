use Rattle.std.proofs.Common.{ap, arith}
use Rattle.command_line.specs.Views as words_view
use Rattle.c_tree.specs.Points.{points}
use Rattle.frame_transform.specs.TargetText.{target_text}
use Rattle.upstare_cmd.specs.Replies.{counts}
use Rattle.upstare_cmd.proofs.Meant.{of_source}
use Rattle.upstare_cmd.proofs.Refusing.{means_one}
use Rattle.upstare_cmd.proofs.call.meant.Goals as goal

pub returns-in-Check-len1 : goal.returns-in-Check-len1
returns-in-Check-len1 c =
    means_one _ _ c.args.texts.now c.source-item.result _ c.as_bytes.result.now _ (ap words_view.command c.in-Check-len1.is-0) (omega arith)
    c.source-item.is c.as_bytes.ensures (of_source _ _ counts _ c.check_meant.ensures)

pub returns-in-Points-len1 : goal.returns-in-Points-len1
returns-in-Points-len1 c =
    means_one _ _ c.args.texts.now c.source-item-then-this-lt2-2.result _ c.as_bytes-in-Points-len1.result.now _ (ap words_view.command c.in-Points-len1.is-0) (omega arith)
    c.source-item-then-this-lt2-2.is c.as_bytes-in-Points-len1.ensures (of_source _ _ points _ c.points_meant.ensures)

pub returns-in-Transform-len1 : goal.returns-in-Transform-len1
returns-in-Transform-len1 c =
    means_one _ _ c.args.texts.now c.source-item-then-this-lt2-3.result _ c.as_bytes-in-Transform-len1.result.now _ (ap words_view.command c.in-Transform-len1.is-0) (omega arith)
    c.source-item-then-this-lt2-3.is c.as_bytes-in-Transform-len1.ensures (of_source _ _ target_text _ c.transform_meant.ensures)

pub returns-in-Upgrade-len1 : goal.returns-in-Upgrade-len1
returns-in-Upgrade-len1 c =
    means_one _ _ c.args.texts.now c.bytes-item.result _ c.as_bytes-in-Upgrade-len1.result.now _ (ap words_view.command c.in-Upgrade-len1.is-0) (omega arith)
    c.bytes-item.is c.as_bytes-in-Upgrade-len1.ensures c.upgrade_meant.ensures

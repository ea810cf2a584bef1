use Rattle.command_line.specs.Views as words_view
use Rattle.upstare_cmd.proofs.Running.{told_of_picked}
use Rattle.upstare_cmd.proofs.run.picked.Goals as goal
use Rattle.std.proofs.Common.{subst}
use Rattle.drive.specs.Driven.{IsDriven}

pub returns : goal.returns
returns c =
    let k = c.args.world.now.settings in
    let h = c.drive.new.world in
    told_of_picked k (words_view.run c.args.words.now) h c.in_ok-end.field-0 c.in-Ended.end c.told.result
    (subst (λ p. IsDriven p k h c.in_ok-end.field-0) c.plan_of.ensures c.in_ok-end.ensures.driven) c.in-Ended.is c.drive.ensures.same c.drive.ensures.single c.told.ensures

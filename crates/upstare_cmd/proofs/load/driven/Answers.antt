use Rattle.upstare_cmd.proofs.Loading.{told_of_driven}
use Rattle.upstare_cmd.proofs.load.driven.Goals as goal

pub returns : goal.returns
returns c =
    told_of_driven c.args.world.now.settings c.args.n c.drive_round.new.world c.told.result c.in_ok-end.ensures.planned c.drive_round.ensures.same c.drive_round.ensures.single c.told.ensures

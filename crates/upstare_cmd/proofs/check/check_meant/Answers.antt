use Rattle.std.proofs.Common.{◌≡◌}
use Rattle.upstare_cmd.specs.Replies as replies
use Rattle.upstare_cmd.proofs.Refusing.{turned_down}
use Rattle.upstare_cmd.proofs.check.check_meant.Goals as goal

pub returns-in-Err : goal.returns-in-Err
returns-in-Err c = turned_down _ _ (λ a p. a ≡ replies.prints (replies.counts p)) _ _ c.in-Err.ensures.verdict c.turned_down.ensures

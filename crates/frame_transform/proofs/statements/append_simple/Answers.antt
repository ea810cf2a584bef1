use Rattle.std.proofs.Common.{sym}
use Rattle.frame_transform.proofs.statements.append_simple.Goals as goal

pub returns-in-Unlock : goal.returns-in-Unlock
returns-in-Unlock c = rw (c.in-Unlock.is, sym c.mutex_name-name-in-Unlock.ensures) c.append_named-in-Unlock.ensures

pub returns-in-Continue : goal.returns-in-Continue
returns-in-Continue c = rw c.in-Continue.is c.append_numbered.ensures

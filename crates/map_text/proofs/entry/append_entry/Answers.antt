use Rattle.std.proofs.Common.{sym}
use Rattle.map_text.proofs.entry.append_entry.Goals as goal

pub returns-in-Point : goal.returns-in-Point
returns-in-Point c = rw (c.in-Point.is, sym c.as_slice.ensures) c.append_point.ensures

use Rattle.map_text.proofs.TextLemmas.{point_appended}
use Rattle.map_text.proofs.entry.append_point.Goals as goal

pub returns : goal.returns
returns c =
    point_appended c.append_parts.result c.args.programs.now c.args.function c.args.place c.args.parts.now c.old.result.now c.args.out.now.items c.append_from.new.out.items
    c.extend_from_slice.new.self.items c.append_parts.new.out.items c.old.ensures c.in_ok-append_from.ensures c.in_ok-extend_from_slice.ensures.items c.append_parts.ensures

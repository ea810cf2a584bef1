use Rattle.frame_transform.specs.Inside.{reads}
use Rattle.frame_transform.proofs.BlockLemmas.{simple_appended}
use Rattle.frame_transform.proofs.statements.append_simple_lines.Goals as goal

pub returns : goal.returns
returns c =
    simple_appended c.append_mark_behind.result (reads c.args.inside.now) c.args.depth c.args.label c.args.n c.args.s.now c.args.out.now.items c.append_mark_before.new.out.items c.append_simple_line.new.out.items c.append_mark_behind.new.out.items
    c.in_ok-append_mark_before.ensures c.in_ok-append_simple_line.ensures c.append_mark_behind.ensures

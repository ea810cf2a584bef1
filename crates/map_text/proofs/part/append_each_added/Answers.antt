use Rattle.c_tree.specs.Canonical.{added_text}
use Rattle.map_text.proofs.TextLemmas.{written_more}
use Rattle.map_text.proofs.part.append_each_added.Goals as goal

pub added-preserved : goal.added-preserved
added-preserved c =
    written_more (added_text c.args.programs.now c.args.function) c.args.added.now c.added.i c.index-added-i.result c.args.out.now.items c.added.out.items c.append_added.new.out.items
    c.added-test.true c.index-added-i.is c.added.invariant c.in_ok-append_added.ensures

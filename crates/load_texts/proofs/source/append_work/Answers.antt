use Rattle.load_texts.proofs.TextLemmas.{two_appended}
use Rattle.load_texts.proofs.source.append_work.Goals as goal

pub returns : goal.returns
returns c = two_appended c.append_added.result c.args.out.now.items c.append_numbered.new.out.items c.append_added.new.out.items _ _
    c.in_ok-append_numbered.ensures c.append_added.ensures

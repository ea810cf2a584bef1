use Rattle.load_texts.proofs.TextLemmas.{three_appended}
use Rattle.load_texts.proofs.source.append_main.Goals as goal

pub returns : goal.returns
returns c = three_appended c.append_printed.result c.args.out.now.items c.extend_from_slice.new.self.items c.append_threads.new.out.items c.append_printed.new.out.items _ _ _
    c.in_ok-extend_from_slice.ensures.items c.in_ok-append_threads.ensures c.append_printed.ensures

use Rattle.std.proofs.Common.{◌∙◌, ◌++◌, ◌+◌, ap, arith}
use Rattle.load_texts.specs.Texts.{next_function}
use Rattle.load_texts.proofs.TextLemmas.{text_more}
use Rattle.load_texts.proofs.source.append_functions.Goals as goal

pub functions-preserved : goal.functions-preserved
functions-preserved c =
    let next = next_function c.args.declared.now in
    c.in_ok-append_next.ensures ∙ ap (λ t. t ++ next (c.functions.i + 2)) c.functions.invariant
    ∙ text_more next 2 c.functions.i (c.functions.i + 2) c.append_first.new.out.items (omega arith)

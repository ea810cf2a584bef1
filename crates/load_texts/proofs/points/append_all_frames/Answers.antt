use Rattle.std.proofs.Common.{◌∙◌, ◌++◌, ◌+◌, ap, arith}
use Rattle.load_texts.specs.Texts.{frames}
use Rattle.load_texts.proofs.TextLemmas.{text_more}
use Rattle.load_texts.proofs.points.append_all_frames.Goals as goal

pub functions-preserved : goal.functions-preserved
functions-preserved c =
    c.in_ok-append_frames.ensures ∙ ap (λ t. t ++ frames (c.functions.i + 1)) c.functions.invariant
    ∙ text_more frames 1 c.functions.i (c.functions.i + 1) c.args.out.now.items (omega arith)

use Rattle.std.proofs.Common.{sym, ◌∙◌}
use Rattle.c_tokens.proofs.Closing.{close_found, close_more, close_none, rest_whole}
use Rattle.c_tokens.proofs.front.up_to_close.Goals as goal

pub returns-then-starts_with-clause-count : goal.returns-then-starts_with-clause-count
returns-then-starts_with-clause-count c =
    let is = rw (rest_whole c.bytes.i c.args.bytes.now) at c.starts_with.ensures.value in
    close_found c.args.bytes.now c.bytes.i c.bytes-test.true (sym is ∙ c.if-starts_with.true) c.bytes.invariant

pub bytes-preserved : goal.bytes-preserved
bytes-preserved c =
    let is = rw (rest_whole c.bytes.i c.args.bytes.now) at c.starts_with.ensures.value in
    close_more c.args.bytes.now c.bytes.i c.bytes-test.true (sym is ∙ c.if-starts_with.false) c.bytes.invariant

pub returns-clause-count : goal.returns-clause-count
returns-clause-count c = close_none c.args.bytes.now c.bytes.i c.bytes-test.false c.bytes.invariant

use Rattle.std.proofs.Common.{sym, ◌∙◌}
use Rattle.c_tokens.proofs.Quoting.{quote_line, quote_found, quote_more, quote_none}
use Rattle.c_tokens.proofs.quoted.up_to_quote.Goals as goal

pub returns-then-b-eq10-clause-count : goal.returns-then-b-eq10-clause-count
returns-then-b-eq10-clause-count c = quote_line c.args.quote c.args.rest.now c.bytes.i c.bytes.escaped c.bytes-test.true c.if-b-eq10.true c.bytes.invariant

pub returns-then-closes-clause-count : goal.returns-then-closes-clause-count
returns-then-closes-clause-count c = quote_found c.args.quote c.args.rest.now c.bytes.i c.bytes.escaped c.bytes-test.true c.if-b-eq10.false (sym c.closes.ensures ∙ c.if-closes.true) c.bytes.invariant

pub bytes-preserved : goal.bytes-preserved
bytes-preserved c = quote_more c.args.quote c.args.rest.now c.bytes.i c.bytes.escaped _ c.bytes-test.true c.if-b-eq10.false (sym c.closes.ensures ∙ c.if-closes.false) c.escapes-escaped.ensures c.bytes.invariant

pub returns-clause-count : goal.returns-clause-count
returns-clause-count c = quote_none c.args.quote c.args.rest.now c.bytes.i c.bytes.escaped c.bytes-test.false c.bytes.invariant

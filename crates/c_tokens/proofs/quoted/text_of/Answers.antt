use Rattle.std.proofs.Common.{◌∙◌, ap}
use Rattle.std.specs.Prelude.{Some}
use Rattle.c_tokens.proofs.Quoting.{text_wrong, text_more, text_all}
use Rattle.c_tokens.proofs.quoted.text_of.Goals as goal

pub returns-in_default : goal.returns-in_default
returns-in_default c = text_wrong c.args.body.now c.bytes.bytes.items c.bytes.b-index c.bytes.escaped c.bytes-test.true c.in_default.ensures c.bytes.invariant

pub bytes-preserved : goal.bytes-preserved
bytes-preserved c = text_more c.args.body.now c.bytes.bytes.items c.bytes.b-index c.bytes.escaped _ _ _ c.bytes-test.true c.in-Some.ensures c.escapes-escaped.ensures c.in_ok-push_some.ensures c.bytes.invariant

pub returns : goal.returns
returns c = ap (λ t. Some t) c.from_vec.ensures ∙ text_all c.args.body.now c.bytes.bytes.items c.bytes.b-index c.bytes.escaped c.bytes-test.false c.bytes.invariant

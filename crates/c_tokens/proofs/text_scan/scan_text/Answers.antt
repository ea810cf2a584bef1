use Rattle.std.proofs.Common.{◌∙◌, ap, sym, arith}
use Rattle.c_tokens.specs.Front.{size_of}
use Rattle.c_tokens.proofs.Closing.{rest_whole}
use Rattle.c_tokens.proofs.TextScanning.{text_size, text_more, text_fault, text_all}
use Rattle.c_tokens.proofs.text_scan.scan_text.Goals as goal

pub push_front-requires : goal.push_front-requires
push_front-requires c =
    let is = rw (rest_whole c.fronts.at c.args.bytes.now) at c.in_ok-front.ensures.front in
    let f = text_size c.args.bytes.now c.fronts.at c.fronts-test.true in
    omega (arith, ap size_of is, f.within)

pub returns-then-is_some : goal.returns-then-is_some
returns-then-is_some c =
    let is = rw (rest_whole c.fronts.at c.args.bytes.now) at c.in_ok-front.ensures.front in
    text_fault c.args.bytes.now c.fronts.tokens.items _ _ c.fronts.at c.in_ok-front.front c.in_ok-fault.fault c.fronts-test.true is c.in_ok-fault.ensures (sym c.is_some.ensures ∙ c.if-is_some.true) c.from_vec-tokens.ensures c.fronts.invariant

pub overflow_add-at : goal.overflow_add-at
overflow_add-at c =
    let is = rw (rest_whole c.fronts.at c.args.bytes.now) at c.in_ok-front.ensures.front in
    let f = text_size c.args.bytes.now c.fronts.at c.fronts-test.true in
    omega (arith, ap size_of is, f.within, c.size_of-len.ensures)

pub fronts-smaller : goal.fronts-smaller
fronts-smaller c =
    let is = rw (rest_whole c.fronts.at c.args.bytes.now) at c.in_ok-front.ensures.front in
    let f = text_size c.args.bytes.now c.fronts.at c.fronts-test.true in
    omega (arith, ap size_of is, f.some, c.size_of-len.ensures)

pub fronts-preserved : goal.fronts-preserved
fronts-preserved c =
    let is = rw (rest_whole c.fronts.at c.args.bytes.now) at c.in_ok-front.ensures.front in
    text_more c.args.bytes.now c.fronts.tokens.items _ c.fronts.at c.size_of-len.result c.in_ok-front.front c.in_ok-fault.fault c.fronts-test.true is c.size_of-len.ensures c.in_ok-fault.ensures (sym c.is_some.ensures ∙ c.if-is_some.false) c.fronts.invariant

pub returns : goal.returns
returns c = text_all c.args.bytes.now c.fronts.tokens.items _ c.fronts.at c.fronts-test.false c.from_vec-tokens-2.ensures c.fronts.invariant

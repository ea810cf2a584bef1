use Rattle.std.proofs.Common.{◌∙◌, ap, sym, arith}
use Rattle.c_tokens.specs.Piece.{size_of}
use Rattle.c_tokens.proofs.Closing.{rest_whole}
use Rattle.c_tokens.proofs.Scanning.{scan_size, scan_more, scan_fault, scan_all}
use Rattle.c_tokens.proofs.source.read_source.Goals as goal

pub push_piece-requires : goal.push_piece-requires
push_piece-requires c =
    let is = rw (rest_whole c.pieces.at c.args.bytes.now) at c.in_ok-piece.ensures in
    let f = scan_size c.pieces.part c.args.bytes.now c.pieces.at c.pieces-test.true in
    omega (arith, ap size_of is, f.within)

pub returns-then-is_some : goal.returns-then-is_some
returns-then-is_some c =
    let is = rw (rest_whole c.pieces.at c.args.bytes.now) at c.in_ok-piece.ensures in
    scan_fault c.args.bytes.now c.pieces.lexemes.items _ _ c.pieces.part c.pieces.at c.in_ok-piece.piece c.in_ok-fault.fault c.pieces-test.true is c.in_ok-fault.ensures (sym c.is_some.ensures ∙ c.if-is_some.true) c.from_vec-lexemes.ensures c.pieces.invariant

pub overflow_add-at : goal.overflow_add-at
overflow_add-at c =
    let is = rw (rest_whole c.pieces.at c.args.bytes.now) at c.in_ok-piece.ensures in
    let f = scan_size c.pieces.part c.args.bytes.now c.pieces.at c.pieces-test.true in
    omega (arith, ap size_of is, f.within, c.size_of-len.ensures)

pub pieces-smaller : goal.pieces-smaller
pieces-smaller c =
    let is = rw (rest_whole c.pieces.at c.args.bytes.now) at c.in_ok-piece.ensures in
    let f = scan_size c.pieces.part c.args.bytes.now c.pieces.at c.pieces-test.true in
    omega (arith, ap size_of is, f.some, c.size_of-len.ensures)

pub pieces-preserved : goal.pieces-preserved
pieces-preserved c =
    let is = rw (rest_whole c.pieces.at c.args.bytes.now) at c.in_ok-piece.ensures in
    scan_more c.args.bytes.now c.pieces.lexemes.items _ c.pieces.part _ c.pieces.at c.size_of-len.result c.in_ok-piece.piece c.in_ok-fault.fault c.pieces-test.true is c.part_of-part.ensures c.size_of-len.ensures c.in_ok-fault.ensures (sym c.is_some.ensures ∙ c.if-is_some.false) c.pieces.invariant

pub returns : goal.returns
returns c = scan_all c.args.bytes.now c.pieces.lexemes.items _ c.pieces.part c.pieces.at c.pieces-test.false c.from_vec-lexemes-2.ensures c.pieces.invariant

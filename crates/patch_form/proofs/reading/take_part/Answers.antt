use Rattle.std.proofs.Common.{◌-◌, length, take, drop, refl, arith}
use Rattle.std.proofs.lemmas.List.{take_rest}
use Rattle.std.proofs.lemmas.Result.{err_from_is_err_and}
use Rattle.patch_form.specs.Parts.{Is, IsPart}
use Rattle.patch_form.proofs.Languages.{fault_first}
use Rattle.patch_form.proofs.Files.{IsSized, part}
use Rattle.patch_form.proofs.Taken.{part_fault, part_short, part_there}
use Rattle.patch_form.proofs.reading.take_part.Goals as goal

pub returns-in_err-at : goal.returns-in_err-at
returns-in_err-at c =
    let p = err_from_is_err_and c.from_residual.result c.from_residual.ensures.1 in
    let word = c.args.word.now in
    rw (p.1, p.2) (fault_first (IsPart word) (Is word) (λ a. IsSized) (part word) c.args.at (drop c.args.at c.args.bytes.now) c.in_err-at.field-0.0 c.in_err-at.ensures)

pub returns-in_err-length : goal.returns-in_err-length
returns-in_err-length c =
    let p = err_from_is_err_and c.from_residual-in_err-length.result c.from_residual-in_err-length.ensures.1 in
    rw (p.1, p.2) (part_fault c.args.bytes.now c.args.word.now c.args.at c.in_ok-at.at c.in_err-length.field-0.0 c.in_ok-at.ensures c.in_err-length.ensures)

pub returns-then-rest-length : goal.returns-then-rest-length
returns-then-rest-length c =
    let bytes = c.args.bytes.now in
    let end = c.in_ok-length.length.end in
    part_short bytes c.args.word.now (take (length bytes - end) (drop end bytes)) c.args.at c.in_ok-at.at end c.in_ok-length.length.value c.in_ok-at.ensures c.in_ok-length.ensures (take_rest bytes end) c.if-rest-length.true

pub returns : goal.returns
returns c =
    let bytes = c.args.bytes.now in
    let end = c.in_ok-length.length.end in
    let rest = take (length bytes - end) (drop end bytes) in
    let value = c.in_ok-length.length.value in
    part_there bytes c.args.word.now rest (take value rest) c.args.at c.in_ok-at.at end value c.in_ok-at.ensures c.in_ok-length.ensures (omega arith) (take_rest bytes end) c.if-rest-length.false refl

use Rattle.std.proofs.Common.{drop}
use Rattle.std.specs.Prelude.{codes}
use Rattle.std.proofs.lemmas.Result.{err_from_is_err_and}
use Rattle.patch_form.specs.Parts.{Is, IsDigit, IsHead}
use Rattle.patch_form.proofs.Languages.{fault_first}
use Rattle.patch_form.proofs.Heads.{IsVersion, head_joined, version, after_word, after_digit}
use Rattle.patch_form.proofs.head.take_head.Goals as goal

pub returns-in_err-at : goal.returns-in_err-at
returns-in_err-at c =
    let p = err_from_is_err_and c.from_residual.result c.from_residual.ensures.1 in
    rw (p.1, p.2) (fault_first IsHead (Is (codes "upstare-patch ")) (λ a. IsVersion) head_joined 0 c.args.bytes.now c.in_err-at.field-0.0 c.in_err-at.ensures)

pub returns-in_err-format : goal.returns-in_err-format
returns-in_err-format c =
    let p = err_from_is_err_and c.from_residual-in_err-format.result c.from_residual-in_err-format.ensures.1 in
    let bytes = c.args.bytes.now in
    let at = c.in_ok-at.at in
    let f = c.in_err-format.field-0.0 in
    rw (p.1, p.2) (after_word bytes at f c.in_ok-at.ensures (fault_first IsVersion IsDigit (λ a. Is (codes "\n")) version at (drop at bytes) f c.in_err-format.ensures))

pub returns-in_err-end : goal.returns-in_err-end
returns-in_err-end c =
    let p = err_from_is_err_and c.from_residual-in_err-end.result c.from_residual-in_err-end.ensures.1 in
    let at = c.in_ok-at.at in
    rw (p.1, p.2) (after_digit c.args.bytes.now at c.in_ok-format.format c.in_err-end.field-0.0 c.in_ok-at.ensures c.in_ok-format.ensures c.in_err-end.ensures)

use Rattle.std.proofs.Common.{drop}
use Rattle.std.specs.Prelude.{codes}
use Rattle.std.proofs.lemmas.Result.{err_from_is_err_and}
use Rattle.patch_form.specs.Parts.{Is, IsHead, IsPart}
use Rattle.patch_form.proofs.Languages.{fault_first}
use Rattle.patch_form.proofs.Files.{IsFile, IsFromOld, IsFromNew, IsFromMap, IsFromEnd, file_joined, old_joined, new_joined, map_joined, file_fault}
use Rattle.patch_form.proofs.Taken.{from_old, from_new, from_map, from_end, file_there, bad_behind, frame_there}
use Rattle.patch_form.proofs.reading.find_frame.Goals as goal

pub returns-in_err-head : goal.returns-in_err-head
returns-in_err-head c =
    let p = err_from_is_err_and c.from_residual.result c.from_residual.ensures.1 in
    let bytes = c.args.bytes.now in
    let f = c.in_err-head.field-0.0 in
    rw (p.1, p.2) (file_fault bytes f (fault_first IsFile IsHead (λ a. IsFromOld) file_joined 0 bytes f c.in_err-head.ensures))

pub returns-in_err-old : goal.returns-in_err-old
returns-in_err-old c =
    let p = err_from_is_err_and c.from_residual-in_err-old.result c.from_residual-in_err-old.ensures.1 in
    let bytes = c.args.bytes.now in
    let f = c.in_err-old.field-0.0 in
    let at = c.in_ok-head.head.end in
    rw (p.1, p.2) (from_old bytes c.in_ok-head.head.format at f c.in_ok-head.ensures (fault_first IsFromOld (IsPart (codes "old ")) (λ a. IsFromNew) old_joined at (drop at bytes) f c.in_err-old.ensures))

pub returns-in_err-new : goal.returns-in_err-new
returns-in_err-new c =
    let p = err_from_is_err_and c.from_residual-in_err-new.result c.from_residual-in_err-new.ensures.1 in
    let bytes = c.args.bytes.now in
    let f = c.in_err-new.field-0.0 in
    let next = c.end.result in
    rw (p.1, p.2) (from_new bytes c.in_ok-head.head.format c.in_ok-old.old.text.now c.in_ok-head.head.end c.in_ok-old.old.at next f c.in_ok-head.ensures c.in_ok-old.ensures c.end.ensures
    (fault_first IsFromNew (IsPart (codes "new ")) (λ a. IsFromMap) new_joined next (drop next bytes) f c.in_err-new.ensures))

pub returns-in_err-map : goal.returns-in_err-map
returns-in_err-map c =
    let p = err_from_is_err_and c.from_residual-in_err-map.result c.from_residual-in_err-map.ensures.1 in
    let bytes = c.args.bytes.now in
    let f = c.in_err-map.field-0.0 in
    let behind = c.end-2.result in
    rw (p.1, p.2) (from_map bytes c.in_ok-head.head.format c.in_ok-head.head.end c.in_ok-old.old.text.now c.in_ok-old.old.at c.end.result c.in_ok-new.new.text.now c.in_ok-new.new.at behind f
    (record { opening = c.in_ok-head.ensures; first = c.in_ok-old.ensures; first_end = c.end.ensures; second = c.in_ok-new.ensures; second_end = c.end-2.ensures })
    (fault_first IsFromMap (IsPart (codes "map ")) (λ a. IsFromEnd) map_joined behind (drop behind bytes) f c.in_err-map.ensures))

pub returns-in_err-end : goal.returns-in_err-end
returns-in_err-end c =
    let p = err_from_is_err_and c.from_residual-in_err-end.result c.from_residual-in_err-end.ensures.1 in
    let bytes = c.args.bytes.now in
    rw (p.1, p.2) (from_end bytes c.in_ok-head.head.format c.in_ok-head.head.end c.in_ok-old.old.text.now c.in_ok-old.old.at c.end.result c.in_ok-new.new.text.now c.in_ok-new.new.at c.end-2.result c.in_ok-map.map.text.now c.in_ok-map.map.at c.end-3.result c.in_err-end.field-0.0
    (record { opening = c.in_ok-head.ensures; first = c.in_ok-old.ensures; first_end = c.end.ensures; second = c.in_ok-new.ensures; second_end = c.end-2.ensures }) c.in_ok-map.ensures c.end-3.ensures c.in_err-end.ensures)

pub returns-then-end-bytes : goal.returns-then-end-bytes
returns-then-end-bytes c =
    let bytes = c.args.bytes.now in
    let whole = file_there bytes c.in_ok-head.head.format c.in_ok-head.head.end c.in_ok-old.old.text.now c.in_ok-old.old.at c.end.result c.in_ok-new.new.text.now c.in_ok-new.new.at c.end-2.result c.in_ok-map.map.text.now c.in_ok-map.map.at c.end-3.result c.in_ok-end.end
    (record { opening = c.in_ok-head.ensures; first = c.in_ok-old.ensures; first_end = c.end.ensures; second = c.in_ok-new.ensures; second_end = c.end-2.ensures }) c.in_ok-map.ensures c.end-3.ensures c.in_ok-end.ensures in
    bad_behind bytes c.in_ok-head.head.format c.in_ok-old.old.text.now c.in_ok-new.new.text.now c.in_ok-map.map.text.now c.in_ok-end.end whole c.if-end-bytes.true

pub returns : goal.returns
returns c =
    frame_there c.args.bytes.now c.in_ok-head.head.end c.end.result c.end-2.result c.end-3.result c.in_ok-end.end (record { format = c.in_ok-head.head.format; old = c.in_ok-old.old; new = c.in_ok-new.new; map = c.in_ok-map.map })
    (record { opening = c.in_ok-head.ensures; first = c.in_ok-old.ensures; first_end = c.end.ensures; second = c.in_ok-new.ensures; second_end = c.end-2.ensures }) c.in_ok-map.ensures c.end-3.ensures c.in_ok-end.ensures c.if-end-bytes.false

use Rattle.std.proofs.Common.{◌≡◌, ◌∙◌, ℕ, Err, ap, subst, arith}
use Rattle.std.specs.Prelude.{Result}
use Rattle.c_tree.specs.declared.cause.FileCause.TheVariants as cause
use Rattle.patch_form.specs.declared.fault.FrameFault.{FrameFault}
use Rattle.patch_form.specs.declared.fault.FrameFault.TheVariants as fault
use Rattle.patch_form.specs.declared.frame.Frame.{Frame}
use Rattle.patch_file.specs.Refusal.{IsAt}
use Rattle.patch_file.proofs.Files.{answered, refused_head}
use Rattle.patch_file.proofs.reading.read_patch.Goals as goal

pub returns-in-Ok : goal.returns-in-Ok
returns-in-Ok c = answered c.first_mappings_are_mappings.ensures c.args.bytes.now c.in-Ok.frame c.texts_read.result (omega (arith, c.if-bytes-gt-MAX_FILE.false)) c.in-Ok.ensures.frame c.texts_read.ensures

pub returns-in-Err-BadHead : goal.returns-in-Err-BadHead
returns-in-Err-BadHead c =
    let at = c.in-Err-BadHead.at in
    let r = c.refused_at-in-Err-BadHead.result in
    let found : c.read_frame.result ≡ Err (fault.BadHead at) = c.in-Err-BadHead.is ∙ ap (λ e. let x : Result Frame FrameFault = Err e in x) c.in-Err-BadHead.field-0-is in
    let there : IsAt 0 at cause.BadHead r = subst (λ (n : ℕ). IsAt 0 n cause.BadHead r) c.in-Err-BadHead.at-is c.refused_at-in-Err-BadHead.ensures in
    refused_head c.args.bytes.now at r (omega (arith, c.if-bytes-gt-MAX_FILE.false)) ((c.read_frame.ensures.bad at).0 found) there

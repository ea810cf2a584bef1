use Rattle.std.proofs.Common.{◌<◌, ◌^◌, arith}
use Rattle.std.proofs.lemmas.Grind.{common_steps}
use Rattle.patch_form.proofs.Numbers.{appended}
use Rattle.patch_form.proofs.writing.append_head.Goals as goal

pub returns : goal.returns
returns c =
    let fits : c.args.len < 2 ^ 64 = omega arith in
    grind (arith, common_steps, appended c.args.out.now.items c.args.word.now c.args.len fits)

use Rattle.std.proofs.Common.{◌+◌, min, sym, ◌∙◌, ap, arith}
use Rattle.c_check.proofs.FileLemmas.{globals_step, globals_end}
use Rattle.c_check.proofs.global.globals.Goals as goal

pub loop-g-preserved : goal.loop-g-preserved
loop-g-preserved c =
    let p = c.args.file.now in
    let e = c.with_size-before.ensures ∙ ap (λ s. min (c.loop-g.before + s) 1000001) c.size.ensures in
    record {
      few = omega (arith, c.with_size-before.ensures);
      faults = c.loop-g.invariant.faults
          ∙ globals_step p c.loop-g.before c.with_size-before.result c.args.globals.now c.loop-g.g-index c.g-item.result c.loop-g.first c.global.new.first
          c.loop-g-test.true c.g-item.is c.in_ok-global.ensures e;
    }

pub returns : goal.returns
returns c =
    sym (c.loop-g.invariant.faults ∙ globals_end c.args.file.now c.loop-g.before c.args.globals.now c.loop-g.g-index c.loop-g.first c.loop-g-test.false)

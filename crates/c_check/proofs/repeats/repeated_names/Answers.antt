use Rattle.std.proofs.Common.{[], take, refl, sym, ◌∙◌, ap}
use Rattle.c_check.specs.Words.{noted}
use Rattle.c_check.specs.Files.{repeats}
use Rattle.c_check.proofs.RepeatLemmas.{seen_more, bodies_more, repeats_step, repeats_end}
use Rattle.c_check.proofs.repeats.repeated_names.Goals as goal

pub loop-i-preserved : goal.loop-i-preserved
loop-i-preserved c =
    let p = c.args.file.now in
    let xs = c.names-names.result.now in
    let i = c.loop-i.i in
    let x = c.index-names-i.result in
    record {
      seen = seen_more xs i x c.loop-i.seen c.in_ok-seen.seen c.loop-i-test.true c.index-names-i.is c.loop-i.invariant.seen c.in_ok-seen.ensures;
      bodies = bodies_more p xs i x c.loop-i.bodies c.in_ok-bodies.bodies c.loop-i-test.true c.index-names-i.is c.loop-i.invariant.bodies c.in_ok-bodies.ensures;
      faults = c.loop-i.invariant.faults
          ∙ repeats_step p xs (take i xs) i x c.loop-i.seen c.loop-i.bodies _ c.number.result c.is_some-is_defined.result c.may_follow-may.result c.loop-i.first c.note_twice.new.first
          c.loop-i-test.true c.index-names-i.is c.loop-i.invariant.seen c.loop-i.invariant.bodies refl c.at_number-other.ensures c.number.ensures c.is_some-is_defined.ensures
          c.may_follow-may.ensures c.in_ok-note_twice.ensures;
    }

pub returns : goal.returns
returns c =
    sym (ap (λ xs. noted c.args.first.now (repeats c.args.file.now [] xs)) (sym c.names-names.ensures) ∙ (c.loop-i.invariant.faults
    ∙ repeats_end c.args.file.now (take c.loop-i.i c.names-names.result.now) c.names-names.result.now c.loop-i.i c.loop-i.first c.loop-i-test.false))

use Rattle.std.proofs.Common.{◌≡◌, ◌+◌, arith}
use Rattle.patch_maker.proofs.EntriesLemmas.{next_entry, stopped, went_on}
use Rattle.patch_maker.proofs.entries.all_entries.Goals as goal

pub returns-in-Err-Cause : goal.returns-in-Err-Cause
returns-in-Err-Cause c =
    let so = c.loop-entry.invariant.so in
    let next = next_entry c.args.entries.now c.loop-entry.entry-index _ c.entry-item.result (omega arith) c.entry-item.is in
    let number : c.in_ok-number.number ≡ c.loop-entry.entry-index + 1 = omega (arith, c.in_ok-number.ensures, c.loop-entry.invariant.number) in
    let gives = c.sound_entry.ensures.sound so.earlier c.loop-entry.lifted.items so.mirrors c.loop-entry.invariant.noted in
    rw c.in-Err-Cause.cause-is
    (stopped c.args.k.now _ c.loop-entry.entry-index c.in_ok-number.number c.loop-entry.lifted.items c.entry-item.result.it c.in-Err-Cause.cause so
    c.sound_entry.result c.in-Err-Cause.field-0 next number c.in-Err-Cause.is c.in-Err-Cause.field-0-is gives)

pub loop-entry-preserved : goal.loop-entry-preserved
loop-entry-preserved c =
    let so = c.loop-entry.invariant.so in
    let next = next_entry c.args.entries.now c.loop-entry.entry-index _ c.entry-item.result (omega arith) c.entry-item.is in
    let gives = c.sound_entry.ensures.sound so.earlier c.loop-entry.lifted.items so.mirrors c.loop-entry.invariant.noted in
    record {
      so = went_on c.args.k.now _ c.loop-entry.entry-index c.loop-entry.lifted.items c.keep.new.lifted.items c.entry-item.result.it c.in-Ok.sound so c.sound_entry.result next
          c.in-Ok.is gives c.sound_entry.ensures.alone c.in_ok-keep-in-Ok.ensures.0;
      noted = c.in_ok-keep-in-Ok.ensures.1 c.loop-entry.invariant.noted;
      number = omega (arith, c.in_ok-number.ensures, c.loop-entry.invariant.number);
    }

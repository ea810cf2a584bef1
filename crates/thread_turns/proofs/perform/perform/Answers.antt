use Rattle.std.proofs.Common.{refl}
use Rattle.target_code.specs.declared.instr.Instr.TheVariants as i
use Rattle.target_laws.specs.Rows.{calm}
use Rattle.thread_turns.specs.Now.{now}
use Rattle.thread_turns.proofs.PerformLemmas.{stays_done, goes_done, call_done}
use Rattle.thread_turns.proofs.perform.perform.Goals as goal

pub returns-in-Set-clause-done : goal.returns-in-Set-clause-done
returns-in-Set-clause-done g c =
    let w = calm c.args.code.now c.args.number in
    let frames = g.S.FrameStack.frames c.args.stack.now in
    let to = now c.set.new.at c.args.words.now (g.S.FrameStack.frames c.set.new.stack) c.args.store.now in
    goes_done w (i.Set c.in-Set.k) c.args.instr c.set.result (now c.args.at.now c.args.words.now frames c.args.store.now) to c.in-Set.is tt refl c.set.ensures.goes ((c.set.ensures.changes c.args.store.now).performs w)

pub returns-in-After-clause-done : goal.returns-in-After-clause-done
returns-in-After-clause-done g c =
    let w = calm c.args.code.now c.args.number in
    let frames = g.S.FrameStack.frames c.args.stack.now in
    let to = now c.take_result.new.at c.args.words.now (g.S.FrameStack.frames c.take_result.new.stack) c.args.store.now in
    goes_done w (i.After c.in-After.n c.in-After.to) c.args.instr c.take_result.result (now c.args.at.now c.args.words.now frames c.args.store.now) to c.in-After.is tt refl c.take_result.ensures.goes ((c.take_result.ensures.changes c.args.store.now).performs w)

pub returns-in-Gset-clause-done : goal.returns-in-Gset-clause-done
returns-in-Gset-clause-done g c =
    let w = calm c.args.code.now c.args.number in
    let frames = g.S.FrameStack.frames c.args.stack.now in
    let to = now c.set_global.new.at c.args.words.now frames c.set_global.new.store in
    goes_done w (i.Gset c.in-Gset.global) c.args.instr c.set_global.result (now c.args.at.now c.args.words.now frames c.args.store.now) to c.in-Gset.is tt refl c.set_global.ensures.goes ((c.set_global.ensures.changes frames).performs w)

pub returns-in-Aset-clause-done : goal.returns-in-Aset-clause-done
returns-in-Aset-clause-done g c =
    let w = calm c.args.code.now c.args.number in
    let frames = g.S.FrameStack.frames c.args.stack.now in
    let did = c.set_element.ensures.changes frames in
    stays_done w (i.Aset c.in-Aset.global) c.args.instr c.set_element.result c.args.at.now c.set_element.new.at c.args.words.now c.args.words.now frames frames c.args.store.now c.set_element.new.store c.in-Aset.is tt (λ b. b) (did.performs w) did.stays

pub returns-in-Fset-clause-done : goal.returns-in-Fset-clause-done
returns-in-Fset-clause-done g c =
    let w = calm c.args.code.now c.args.number in
    let frames = g.S.FrameStack.frames c.args.stack.now in
    let did = c.set_field.ensures.changes frames in
    stays_done w (i.Fset c.in-Fset.owner c.in-Fset.field) c.args.instr c.set_field.result c.args.at.now c.set_field.new.at c.args.words.now c.args.words.now frames frames c.args.store.now c.set_field.new.store c.in-Fset.is tt (λ b. b) (did.performs w) did.stays

pub returns-in-Free-clause-done : goal.returns-in-Free-clause-done
returns-in-Free-clause-done g c =
    let w = calm c.args.code.now c.args.number in
    let frames = g.S.FrameStack.frames c.args.stack.now in
    let did = c.free.ensures.changes frames in
    stays_done w i.Free c.args.instr c.free.result c.args.at.now c.free.new.at c.args.words.now c.args.words.now frames frames c.args.store.now c.free.new.store c.in-Free.is tt (λ b. b) (did.performs w) did.stays

pub returns-in-New-clause-done : goal.returns-in-New-clause-done
returns-in-New-clause-done g c =
    let w = calm c.args.code.now c.args.number in
    let frames = g.S.FrameStack.frames c.args.stack.now in
    let did = c.new.ensures.alters w frames in
    stays_done w (i.New c.in-New.owner) c.args.instr c.new.result c.args.at.now c.new.new.at c.args.words.now c.new.new.words frames frames c.args.store.now c.new.new.store c.in-New.is tt (λ b. b) did.performs did.stays

pub returns-in-Getc-clause-done : goal.returns-in-Getc-clause-done
returns-in-Getc-clause-done g c =
    let w = calm c.args.code.now c.args.number in
    let frames = g.S.FrameStack.frames c.args.stack.now in
    let did = c.get_byte.ensures.alters w frames in
    stays_done w (i.Getc) c.args.instr c.get_byte.result c.args.at.now c.get_byte.new.at c.args.words.now c.get_byte.new.words frames frames c.args.store.now c.get_byte.new.store c.in-Getc.is tt (λ b. b) did.performs did.stays

pub returns-in-Print-clause-done : goal.returns-in-Print-clause-done
returns-in-Print-clause-done g c =
    let w = calm c.args.code.now c.args.number in
    let frames = g.S.FrameStack.frames c.args.stack.now in
    let did = c.print.ensures w frames refl in
    stays_done w (i.Print c.in-Print.text) c.args.instr c.print.result c.args.at.now c.print.new.at c.args.words.now c.args.words.now frames frames c.args.store.now c.print.new.store c.in-Print.is tt (λ b. b) did.performs did.stays

pub returns-in-Call-clause-done : goal.returns-in-Call-clause-done
returns-in-Call-clause-done g c =
    let w = calm c.args.code.now c.args.number in
    let frames = g.S.FrameStack.frames c.args.stack.now in
    let to = now c.call.new.at c.args.words.now (g.S.FrameStack.frames c.call.new.stack) c.args.store.now in
    call_done w (i.Call c.in-Call.function) c.args.instr c.call.result (now c.args.at.now c.args.words.now frames c.args.store.now) to c.in-Call.is (λ b. b) c.call.ensures.moves (c.call.ensures.performs w c.args.store.now refl) (c.call.ensures.stays c.args.store.now)

pub returns-in-Set-clause-depth : goal.returns-in-Set-clause-depth
returns-in-Set-clause-depth g c = (c.set.ensures.changes c.args.store.now).depth

pub returns-in-After-clause-depth : goal.returns-in-After-clause-depth
returns-in-After-clause-depth g c = (c.take_result.ensures.changes c.args.store.now).depth

pub returns-in-Gset-clause-depth : goal.returns-in-Gset-clause-depth
returns-in-Gset-clause-depth g c = (c.set_global.ensures.changes (g.S.FrameStack.frames c.args.stack.now)).depth

pub returns-in-Aset-clause-depth : goal.returns-in-Aset-clause-depth
returns-in-Aset-clause-depth g c = (c.set_element.ensures.changes (g.S.FrameStack.frames c.args.stack.now)).depth

pub returns-in-Fset-clause-depth : goal.returns-in-Fset-clause-depth
returns-in-Fset-clause-depth g c = (c.set_field.ensures.changes (g.S.FrameStack.frames c.args.stack.now)).depth

pub returns-in-Free-clause-depth : goal.returns-in-Free-clause-depth
returns-in-Free-clause-depth g c = (c.free.ensures.changes (g.S.FrameStack.frames c.args.stack.now)).depth

pub returns-in-New-clause-depth : goal.returns-in-New-clause-depth
returns-in-New-clause-depth g c = (c.new.ensures.alters (calm c.args.code.now c.args.number) (g.S.FrameStack.frames c.args.stack.now)).depth

pub returns-in-Getc-clause-depth : goal.returns-in-Getc-clause-depth
returns-in-Getc-clause-depth g c = (c.get_byte.ensures.alters (calm c.args.code.now c.args.number) (g.S.FrameStack.frames c.args.stack.now)).depth

pub returns-in-Print-clause-depth : goal.returns-in-Print-clause-depth
returns-in-Print-clause-depth g c = (c.print.ensures (calm c.args.code.now c.args.number) (g.S.FrameStack.frames c.args.stack.now) refl).depth

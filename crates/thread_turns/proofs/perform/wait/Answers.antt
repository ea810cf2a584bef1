use Rattle.std.proofs.Common.{[], false, refl}
use Rattle.target_code.specs.declared.instr.Instr.TheVariants as i
use Rattle.thread_turns.proofs.PerformLemmas.{stays_done}
use Rattle.thread_turns.proofs.perform.wait.Goals as goal

pub returns-in-Lock-clause-done : goal.returns-in-Lock-clause-done
returns-in-Lock-clause-done c w frames same =
    let did = c.lock.ensures w frames same in
    stays_done w (i.Lock c.in-Lock.k) c.args.instr c.lock.result c.args.at.now c.lock.new.at c.args.words.now c.args.words.now frames frames c.args.store.now c.lock.new.store c.in-Lock.is tt (λ b. b) did.performs did.stays

pub returns-in-Unlock-clause-done : goal.returns-in-Unlock-clause-done
returns-in-Unlock-clause-done c w frames same =
    let did = c.unlock.ensures w frames same in
    stays_done w (i.Unlock c.in-Unlock.k) c.args.instr c.unlock.result c.args.at.now c.unlock.new.at c.args.words.now c.args.words.now frames frames c.args.store.now c.unlock.new.store c.in-Unlock.is tt (λ b. b) did.performs did.stays

pub returns-in-Join-clause-done : goal.returns-in-Join-clause-done
returns-in-Join-clause-done c w frames same =
    let did = c.join.ensures w frames same in
    stays_done w (i.Join) c.args.instr c.join.result c.args.at.now c.join.new.at c.args.words.now c.args.words.now frames frames c.args.store.now c.args.store.now c.in-Join.is tt (λ b. b) did.performs did.stays

pub returns-in-Lock-clause-depth : goal.returns-in-Lock-clause-depth
returns-in-Lock-clause-depth c = (c.lock.ensures (record { code = record { functions = []; texts = [] }; number = c.args.number; flag = false }) [] refl).depth

pub returns-in-Unlock-clause-depth : goal.returns-in-Unlock-clause-depth
returns-in-Unlock-clause-depth c = (c.unlock.ensures (record { code = record { functions = []; texts = [] }; number = c.args.number; flag = false }) [] refl).depth

pub returns-in-Join-clause-depth : goal.returns-in-Join-clause-depth
returns-in-Join-clause-depth c = (c.join.ensures (record { code = record { functions = []; texts = [] }; number = c.args.number; flag = false }) [] refl).depth

use Rattle.std.proofs.Common.{◌+◌, List, subst, sym, ap, refl, arith}
use Rattle.c_tree.specs.declared.state.Frame.{Frame}
use Rattle.target_code.specs.Target.{Target}
use Rattle.thread_machine.specs.Room.{HaveFewSlots, room_of}
use Rattle.thread_machine.proofs.StackLemmas.{room_saved}
use Rattle.thread_machine.proofs.Unwinding.{left_unwound, thread_is_few}
use Rattle.thread_machine.proofs.thread.Thread.unwind.Goals as goal

pub empty-requires : goal.empty-requires
empty-requires g c = record { few = subst (λ (x : Target). HaveFewSlots x.activations) (sym c.self.view_is) (thread_is_few c.args.code.now c.args.self.now c.requires.between) }

pub invariant_of-self-2 : goal.invariant_of-self-2
invariant_of-self-2 g c =
    let room = ap (λ (l : List Frame). room_of l) c.in_ok-saved.ensures.frames in
    let same = room_saved c.args.code.now (g.S.FrameStack.frames c.self.inside.stack) in
    (c.in_ok-saved.ensures.empty, omega (arith, room, same, c.in_ok-saved.ensures.room))

pub returns-clause-ok : goal.returns-clause-ok
returns-clause-ok g c =
    left_unwound c.args.code.now _ c.args.self.now _ c.self.view_is c.requires.between c.requires.update refl c.in_ok-saved.ensures.empty refl c.in_ok-saved.ensures.frames (ap (λ k. c.self.inside.count + k) c.in_ok-saved.ensures.cost)

use Rattle.std.proofs.Common.{◌≡◌, ◌++◌, take, drop}
use Rattle.target_code.specs.Target.{edited}
use Rattle.thread_turns.proofs.calls.put_arguments.Given as goal

-- the first arguments are in their slots
abbrev pub invariant-loop-k : goal.invariant-loop-k
invariant-loop-k g l = g.S.FrameStack.frames l.stack ≡ edited (λ a. record a { slots = take l.k l.args ++ drop l.k a.slots }) (g.S.FrameStack.frames l.initial.stack)

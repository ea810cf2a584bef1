use Rattle.std.proofs.Common.{◌<◌, ◌+◌, length, refl, sym, ap, ◌∙◌, subst, arith}
use Rattle.std.specs.Prelude.{slice_index_or}
use Rattle.target_code.specs.Machine.{function_in}
use Rattle.target_code.specs.declared.instr.Instr.TheVariants as instr
use Rattle.target_laws.specs.Rows.{calm}
use Rattle.thread_turns.specs.declared.cursor.Kept.{Kept}
use Rattle.thread_turns.specs.declared.cursor.Stop.TheVariants as stop
use Rattle.thread_turns.specs.Now.{now}
use Rattle.thread_turns.specs.Turns.{IsDone, IsRow, IsWay, count_at, few, thread_of}
use Rattle.thread_turns.proofs.ChangeLemmas.{calls_fit, change_counts, change_ends, change_no_mark, change_on, change_within, ended_placed, ended_within, exit_ends, exit_evaluating, other_change, spawn_no_mark, spawn_undone}
use Rattle.thread_turns.proofs.MidLemmas.{length_operands}
use Rattle.thread_turns.proofs.RowLemmas.{done_goes, ends_here, evaluating, inside, is_at, mark_ends, mark_on, mark_placed, names_slot, placed_within, plain_counts, plain_no_mark, plain_on, pops_some, start_mark_at, start_way, start_within, top_within}
use Rattle.thread_turns.proofs.rows.row.Goals as goal

pub body_of-body-requires : goal.body_of-body-requires
body_of-body-requires g c =
    subst (λ n. n < length c.args.code.now.functions) (sym c.top-top.ensures.function) (start_within c.args.code.now c.args.number (thread_of c.args.kept.now (g.S.FrameStack.frames c.args.stack.now)) c.args.store.now c.requires.thread)

pub place_at-place-requires : goal.place_at-place-requires
place_at-place-requires g c =
    start_mark_at c.args.code.now c.args.number (thread_of c.args.kept.now (g.S.FrameStack.frames c.args.stack.now)) c.args.store.now c.body_of-body.result.now c.top-top.result.pc c.top-top.result.function c.requires.thread c.body_of-body.ensures.body c.top-top.ensures.function c.top-top.ensures.pc

pub loop-at-init : goal.loop-at-init
loop-at-init g c =
    let frames = g.S.FrameStack.frames c.args.stack.now in
    let kept : Kept = record { returned = c.args.kept.now.returned; count = c.args.kept.now.count; steps = 0 } in
    subst (λ k. IsWay c.args.code.now c.args.number (thread_of c.args.kept.now frames) c.args.store.now c.body_of-body.result.now c.place_at-place.result c.args.kept.now.count few c.args.most kept k c.args.words.now frames c.args.store.now) (sym c.behind_mark-at.ensures)
    (start_way c.args.code.now c.args.number c.args.kept.now kept frames c.args.store.now c.body_of-body.result.now c.place_at-place.result c.top-top.result.pc c.args.most c.args.words.now c.requires.thread (c.body_of-body.ensures.body ∙ ap (λ k. (function_in c.args.code.now k).body) c.top-top.ensures.function) c.place_at-place.ensures c.top-top.ensures.pc c.body_of-body.ensures.short refl c.requires.some (let low = c.if-kept-ge-FEW.false in omega (arith, low)))

pub offset_bounds-body-at : goal.offset_bounds-body-at
offset_bounds-body-at g c =
    let within = inside c.loop-at.invariant in
    let short = c.loop-at.invariant.short in
    omega (arith, within, short)

pub bounds-body-at : goal.bounds-body-at
bounds-body-at g c = inside c.loop-at.invariant

pub end_row-requires-clause-within : goal.end_row-requires-clause-within
end_row-requires-clause-within g c = top_within c.loop-at.invariant

pub end_row-requires-clause-placed : goal.end_row-requires-clause-placed
end_row-requires-clause-placed g c = mark_placed c.loop-at.invariant (instr.Mark 0) c.in-Mark.n c.in-Mark.is

pub returns-then-kept-most-clause-row : goal.returns-then-kept-most-clause-row
returns-then-kept-most-clause-row g c =
    let e = c.end_row.ensures in
    subst (λ s. IsRow c.args.code.now c.args.number s (thread_of c.args.kept.now (g.S.FrameStack.frames c.args.stack.now)) c.args.store.now c.end_row.new.kept.steps (thread_of c.end_row.new.kept (g.S.FrameStack.frames c.end_row.new.stack)) c.loop-at.store) (sym e.same)
    (mark_ends c.loop-at.invariant (instr.Mark 0) c.in-Mark.n (g.S.FrameStack.frames c.end_row.new.stack) c.end_row.new.kept c.in-Mark.is e.frames e.returned (e.count ∙ ap (λ s. count_at s c.loop-at.at.count c.loop-at.at.count) e.same) e.steps)

pub drop_top-requires-clause-at : goal.drop_top-requires-clause-at
drop_top-requires-clause-at g c =
    let a = is_at c.loop-at.invariant c.loop-at-test.true in
    record { pc = a.pc; count = a.count; depth = omega arith }

pub loop-at-preserved-in-Mark : goal.loop-at-preserved-in-Mark
loop-at-preserved-in-Mark g c =
    let d = c.drop_top in
    let kept : Kept = record { returned = c.loop-at.kept.returned; count = c.loop-at.kept.count; steps = c.loop-at.kept.steps + 1 } in
    let steps = c.loop-at.invariant.steps in
    let other = c.if-kept-most.false in
    mark_on c.loop-at.invariant (instr.Mark 0) c.in-Mark.n d.new.at kept c.in-Mark.is d.ensures.pc (sym (length_operands d.new.at.depth c.loop-at.words d.ensures.depth) ∙ ap length d.ensures.operands_are) d.ensures.returned d.ensures.count c.loop-at-test.true refl (omega (arith, steps, other))

pub plain-requires-clause-at : goal.plain-requires-clause-at
plain-requires-clause-at g c = is_at c.loop-at.invariant c.loop-at-test.true

pub plain-requires-clause-some : goal.plain-requires-clause-some
plain-requires-clause-some g c = pops_some c.loop-at.invariant (instr.Mark 0)

pub plain-requires-clause-slot : goal.plain-requires-clause-slot
plain-requires-clause-slot g c = names_slot c.loop-at.invariant (instr.Mark 0)

pub end_row-requires-in-Ends-clause-placed : goal.end_row-requires-in-Ends-clause-placed
end_row-requires-in-Ends-clause-placed g c =
    let frames = g.S.FrameStack.frames c.loop-at.stack in
    let w = calm c.args.code.now c.args.number in
    let x = slice_index_or c.loop-at.body.now c.loop-at.at.pc (instr.Mark 0) in
    let done = subst (λ d. IsDone w x d (now c.loop-at.at c.loop-at.words frames c.loop-at.store) (now c.plain.new.at c.plain.new.words frames c.loop-at.store)) c.in-Ends.is (c.plain.ensures.done w refl) in
    placed_within c.loop-at.invariant (evaluating c.loop-at.invariant (instr.Mark 0) done.1 (plain_no_mark x c.plain.ensures.plain))

pub end_row-requires-in-Ends-clause-few : goal.end_row-requires-in-Ends-clause-few
end_row-requires-in-Ends-clause-few g c =
    let frames = g.S.FrameStack.frames c.loop-at.stack in
    let w = calm c.args.code.now c.args.number in
    let x = slice_index_or c.loop-at.body.now c.loop-at.at.pc (instr.Mark 0) in
    let done = subst (λ d. IsDone w x d (now c.loop-at.at c.loop-at.words frames c.loop-at.store) (now c.plain.new.at c.plain.new.words frames c.loop-at.store)) c.in-Ends.is (c.plain.ensures.done w refl) in
    let a = (is_at c.loop-at.invariant c.loop-at-test.true).count in
    let same = done.3 in
    omega (arith, a, same)

pub returns-in-Ends-clause-row : goal.returns-in-Ends-clause-row
returns-in-Ends-clause-row g c =
    let frames = g.S.FrameStack.frames c.loop-at.stack in
    let w = calm c.args.code.now c.args.number in
    let x = slice_index_or c.loop-at.body.now c.loop-at.at.pc (instr.Mark 0) in
    let done = subst (λ d. IsDone w x d (now c.loop-at.at c.loop-at.words frames c.loop-at.store) (now c.plain.new.at c.plain.new.words frames c.loop-at.store)) c.in-Ends.is (c.plain.ensures.done w refl) in
    let e = c.end_row-in-Ends.ensures in
    subst (λ s. IsRow c.args.code.now c.args.number s (thread_of c.args.kept.now (g.S.FrameStack.frames c.args.stack.now)) c.args.store.now c.end_row-in-Ends.new.kept.steps (thread_of c.end_row-in-Ends.new.kept (g.S.FrameStack.frames c.end_row-in-Ends.new.stack)) c.loop-at.store) (sym e.same)
    (ends_here c.loop-at.invariant (instr.Mark 0) c.in-Ends.end c.plain.new.at c.plain.new.words (g.S.FrameStack.frames c.end_row-in-Ends.new.stack) c.end_row-in-Ends.new.kept (plain_no_mark x c.plain.ensures.plain) done e.frames e.returned (e.count ∙ ap (λ s. count_at s c.plain.new.at.count c.loop-at.marked) e.same) e.steps)

pub loop-at-smaller-in_default-plain : goal.loop-at-smaller-in_default-plain
loop-at-smaller-in_default-plain g c =
    let frames = g.S.FrameStack.frames c.loop-at.stack in
    let w = calm c.args.code.now c.args.number in
    let x = slice_index_or c.loop-at.body.now c.loop-at.at.pc (instr.Mark 0) in
    let goes = done_goes w x c.plain.result (now c.loop-at.at c.loop-at.words frames c.loop-at.store) (now c.plain.new.at c.plain.new.words frames c.loop-at.store) c.in_default-plain.not-Ends (c.plain.ensures.done w refl) in
    let a = (is_at c.loop-at.invariant c.loop-at-test.true).count in
    let more = plain_counts c.loop-at.invariant (instr.Mark 0) c.plain.new.at c.plain.new.words c.plain.ensures.plain goes in
    omega (arith, a, more)

pub loop-at-preserved-in_default-plain : goal.loop-at-preserved-in_default-plain
loop-at-preserved-in_default-plain g c =
    let frames = g.S.FrameStack.frames c.loop-at.stack in
    let w = calm c.args.code.now c.args.number in
    let x = slice_index_or c.loop-at.body.now c.loop-at.at.pc (instr.Mark 0) in
    let goes = done_goes w x c.plain.result (now c.loop-at.at c.loop-at.words frames c.loop-at.store) (now c.plain.new.at c.plain.new.words frames c.loop-at.store) c.in_default-plain.not-Ends (c.plain.ensures.done w refl) in
    plain_on c.loop-at.invariant (instr.Mark 0) c.plain.new.at c.plain.new.words c.plain.ensures.plain goes c.plain.ensures.depth c.loop-at-test.true

pub end_row-requires-in-Spawn-clause-placed : goal.end_row-requires-in-Spawn-clause-placed
end_row-requires-in-Spawn-clause-placed g c =
    ended_placed c.loop-at.invariant (instr.Mark 0) stop.Spawning c.loop-at.at c.loop-at.words (g.S.FrameStack.frames c.loop-at.stack) c.loop-at.store (spawn_no_mark c.loop-at.invariant (instr.Mark 0) c.in-Spawn.field-0 c.in-Spawn.is) (spawn_undone c.loop-at.invariant (instr.Mark 0) c.in-Spawn.field-0 c.in-Spawn.is)

pub returns-in-Spawn-clause-row : goal.returns-in-Spawn-clause-row
returns-in-Spawn-clause-row g c =
    let e = c.end_row-in-Spawn.ensures in
    subst (λ s. IsRow c.args.code.now c.args.number s (thread_of c.args.kept.now (g.S.FrameStack.frames c.args.stack.now)) c.args.store.now c.end_row-in-Spawn.new.kept.steps (thread_of c.end_row-in-Spawn.new.kept (g.S.FrameStack.frames c.end_row-in-Spawn.new.stack)) c.loop-at.store) (sym e.same)
    (change_ends c.loop-at.invariant (instr.Mark 0) stop.Spawning c.loop-at.at c.loop-at.words (g.S.FrameStack.frames c.loop-at.stack) c.loop-at.store (g.S.FrameStack.frames c.end_row-in-Spawn.new.stack) c.end_row-in-Spawn.new.kept (spawn_no_mark c.loop-at.invariant (instr.Mark 0) c.in-Spawn.field-0 c.in-Spawn.is) c.loop-at.invariant.live (spawn_undone c.loop-at.invariant (instr.Mark 0) c.in-Spawn.field-0 c.in-Spawn.is) e.frames e.returned (e.count ∙ ap (λ s. count_at s c.loop-at.at.count c.loop-at.marked) e.same) e.steps)

pub perform-requires : goal.perform-requires
perform-requires g c = record {
  at = is_at c.loop-at.invariant c.loop-at-test.true;
  some = pops_some c.loop-at.invariant (instr.Mark 0);
  slot = names_slot c.loop-at.invariant (instr.Mark 0);
  live = c.loop-at.invariant.live;
  calls = calls_fit c.loop-at.invariant (instr.Mark 0);
  change = (let n = c.in_default in other_change _ n.not-Mark n.not-Flag n.not-Restore n.not-Const n.not-Get n.not-Gget n.not-Aget n.not-Fget n.not-Un n.not-Bin n.not-Jump n.not-Jz n.not-Spawn);
}

pub loop-at-preserved-in-Goes : goal.loop-at-preserved-in-Goes
loop-at-preserved-in-Goes g c =
    let frames = g.S.FrameStack.frames c.loop-at.stack in
    let fs = g.S.FrameStack.frames c.perform.new.stack in
    let w = calm c.args.code.now c.args.number in
    let x = slice_index_or c.loop-at.body.now c.loop-at.at.pc (instr.Mark 0) in
    let done = subst (λ d. IsDone w x d (now c.loop-at.at c.loop-at.words frames c.loop-at.store) (now c.perform.new.at c.perform.new.words fs c.perform.new.store)) c.in-Goes.is c.perform.ensures.done in
    change_on c.loop-at.invariant (instr.Mark 0) c.perform.new.at c.perform.new.words fs c.perform.new.store c.loop-at.body.now c.loop-at-test.true c.perform.ensures.change done.0 (c.loop-at.invariant.body_is ∙ sym (ap (λ f. (function_in c.args.code.now f).body) done.1)) c.loop-at.invariant.short c.perform.ensures.live c.perform.ensures.depth

pub body_of-body-requires-in-Moves : goal.body_of-body-requires-in-Moves
body_of-body-requires-in-Moves g c =
    let frames = g.S.FrameStack.frames c.loop-at.stack in
    let fs = g.S.FrameStack.frames c.perform.new.stack in
    let w = calm c.args.code.now c.args.number in
    let x = slice_index_or c.loop-at.body.now c.loop-at.at.pc (instr.Mark 0) in
    let to = now c.perform.new.at c.perform.new.words fs c.perform.new.store in
    let done = subst (λ d. IsDone w x d (now c.loop-at.at c.loop-at.words frames c.loop-at.store) to) c.in-Moves.is c.perform.ensures.done in
    subst (λ n. n < length c.args.code.now.functions) (sym c.top.ensures.function) (change_within c.loop-at.invariant (instr.Mark 0) to c.perform.ensures.change done)

pub loop-at-smaller : goal.loop-at-smaller
loop-at-smaller g c =
    let frames = g.S.FrameStack.frames c.loop-at.stack in
    let fs = g.S.FrameStack.frames c.perform.new.stack in
    let w = calm c.args.code.now c.args.number in
    let x = slice_index_or c.loop-at.body.now c.loop-at.at.pc (instr.Mark 0) in
    let to = now c.perform.new.at c.perform.new.words fs c.perform.new.store in
    let a = (is_at c.loop-at.invariant c.loop-at-test.true).count in
    let done = subst (λ d. IsDone w x d (now c.loop-at.at c.loop-at.words frames c.loop-at.store) to) c.in-Moves.is c.perform.ensures.done in
    let more = change_counts c.loop-at.invariant (instr.Mark 0) to c.perform.ensures.change done in
    omega (arith, a, more)

pub loop-at-preserved : goal.loop-at-preserved
loop-at-preserved g c =
    let frames = g.S.FrameStack.frames c.loop-at.stack in
    let fs = g.S.FrameStack.frames c.perform.new.stack in
    let w = calm c.args.code.now c.args.number in
    let x = slice_index_or c.loop-at.body.now c.loop-at.at.pc (instr.Mark 0) in
    let to = now c.perform.new.at c.perform.new.words fs c.perform.new.store in
    let done = subst (λ d. IsDone w x d (now c.loop-at.at c.loop-at.words frames c.loop-at.store) to) c.in-Moves.is c.perform.ensures.done in
    let b = c.body_of-body-in-Moves.ensures in
    change_on c.loop-at.invariant (instr.Mark 0) c.perform.new.at c.perform.new.words fs c.perform.new.store c.body_of-body-in-Moves.result.now c.loop-at-test.true c.perform.ensures.change done (b.body ∙ ap (λ f. (function_in c.args.code.now f).body) c.top.ensures.function) b.short c.perform.ensures.live c.perform.ensures.depth

pub end_row-requires-in-Ends-perform : goal.end_row-requires-in-Ends-perform
end_row-requires-in-Ends-perform g c =
    let frames = g.S.FrameStack.frames c.loop-at.stack in
    let fs = g.S.FrameStack.frames c.perform.new.stack in
    let w = calm c.args.code.now c.args.number in
    let x = slice_index_or c.loop-at.body.now c.loop-at.at.pc (instr.Mark 0) in
    let to = now c.perform.new.at c.perform.new.words fs c.perform.new.store in
    let done = subst (λ d. IsDone w x d (now c.loop-at.at c.loop-at.words frames c.loop-at.store) to) c.in-Ends-perform.is c.perform.ensures.done in
    let same = done.3 in
    let a = (is_at c.loop-at.invariant c.loop-at-test.true).count in
    record {
      live = c.perform.ensures.live;
      within = ended_within c.loop-at.invariant (instr.Mark 0) c.in-Ends-perform.end c.perform.new.at c.perform.new.words fs c.perform.new.store done (top_within c.loop-at.invariant);
      placed = ended_placed c.loop-at.invariant (instr.Mark 0) c.in-Ends-perform.end c.perform.new.at c.perform.new.words fs c.perform.new.store (change_no_mark x c.perform.ensures.change) done;
      few = omega (arith, a, same);
    }

pub returns-in-Ends-perform : goal.returns-in-Ends-perform
returns-in-Ends-perform g c =
    let frames = g.S.FrameStack.frames c.loop-at.stack in
    let fs = g.S.FrameStack.frames c.perform.new.stack in
    let w = calm c.args.code.now c.args.number in
    let x = slice_index_or c.loop-at.body.now c.loop-at.at.pc (instr.Mark 0) in
    let to = now c.perform.new.at c.perform.new.words fs c.perform.new.store in
    let done = subst (λ d. IsDone w x d (now c.loop-at.at c.loop-at.words frames c.loop-at.store) to) c.in-Ends-perform.is c.perform.ensures.done in
    let e = c.end_row-in-Ends-perform.ensures in
    let below = c.loop-at.invariant.steps in
    let steps = e.steps in
    record {
      row = subst (λ s. IsRow c.args.code.now c.args.number s (thread_of c.args.kept.now (g.S.FrameStack.frames c.args.stack.now)) c.args.store.now c.end_row-in-Ends-perform.new.kept.steps (thread_of c.end_row-in-Ends-perform.new.kept (g.S.FrameStack.frames c.end_row-in-Ends-perform.new.stack)) c.perform.new.store) (sym e.same)
          (change_ends c.loop-at.invariant (instr.Mark 0) c.in-Ends-perform.end c.perform.new.at c.perform.new.words fs c.perform.new.store (g.S.FrameStack.frames c.end_row-in-Ends-perform.new.stack) c.end_row-in-Ends-perform.new.kept (change_no_mark x c.perform.ensures.change) c.perform.ensures.live done e.frames e.returned (e.count ∙ ap (λ s. count_at s c.perform.new.at.count c.loop-at.marked) e.same) e.steps);
      steps = omega (arith, below, steps);
      words = c.perform.ensures.same ∙ c.loop-at.auto.words;
    }

pub end_row-requires-2-clause-placed : goal.end_row-requires-2-clause-placed
end_row-requires-2-clause-placed g c =
    let full = c.loop-at-test.false in
    placed_within c.loop-at.invariant (exit_evaluating c.loop-at.invariant (omega (arith, full)))

pub end_row-requires-2-clause-few : goal.end_row-requires-2-clause-few
end_row-requires-2-clause-few g c = let a = c.loop-at.invariant.counts in omega (arith, a)

pub returns-clause-row : goal.returns-clause-row
returns-clause-row g c =
    let full = c.loop-at-test.false in
    let e = c.end_row-2.ensures in
    subst (λ s. IsRow c.args.code.now c.args.number s (thread_of c.args.kept.now (g.S.FrameStack.frames c.args.stack.now)) c.args.store.now c.end_row-2.new.kept.steps (thread_of c.end_row-2.new.kept (g.S.FrameStack.frames c.end_row-2.new.stack)) c.loop-at.store) (sym e.same)
    (exit_ends c.loop-at.invariant (g.S.FrameStack.frames c.end_row-2.new.stack) c.end_row-2.new.kept (omega (arith, full)) e.frames e.returned (e.count ∙ ap (λ s. count_at s c.loop-at.at.count c.loop-at.marked) e.same) e.steps)

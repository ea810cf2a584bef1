use Rattle.std.proofs.Common.{sym, ap, ◌∙◌}
use Rattle.target_code.specs.declared.code.CallSpot.{CallSpot}
use Rattle.thread_machine.proofs.PartLemmas.{part_found, part_other, part_behind}
use Rattle.thread_machine.proofs.part.part_in.Goals as goal

pub returns-then-call-place : goal.returns-then-call-place
returns-then-call-place c =
    let l = c.in-Some.ensures.lookup in
    let place = ap (λ (x : CallSpot). x.place) l.1 in
    ap (λ (x : CallSpot). x.rebuild) l.1
    ∙ part_found c.args.calls.now c.args.place c.calls_before.result c.in-Some.call.now c.calls_before.ensures l.3.0 (sym place ∙ c.if-call-place.true)

pub returns-else-call-place : goal.returns-else-call-place
returns-else-call-place c =
    let l = c.in-Some.ensures.lookup in
    let place = ap (λ (x : CallSpot). x.place) l.1 in
    part_other c.args.calls.now c.args.place c.calls_before.result c.in-Some.call.now c.requires c.calls_before.ensures l.3.0 (λ e. c.if-call-place.false (place ∙ e))

pub returns-in-None : goal.returns-in-None
returns-in-None c = part_behind c.args.calls.now c.args.place c.calls_before.result c.calls_before.ensures c.in-None.ensures.lookup.3

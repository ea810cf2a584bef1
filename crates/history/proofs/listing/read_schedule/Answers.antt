use Rattle.std.proofs.Common.{List, sym, subst}
use Rattle.c_tree.specs.declared.event.Event.{Event}
use Rattle.history.proofs.LineLemmas.{Listed, line_shortens, listed_more}
use Rattle.history.proofs.listing.read_schedule.Goals as goal

pub loop-event-smaller : goal.loop-event-smaller
loop-event-smaller c = line_shortens c.loop-event.rest.now c.in-Some.event c.in-Some.more.now c.in-Some.ensures.1

pub loop-event-preserved : goal.loop-event-preserved
loop-event-preserved c =
    let more : Listed c.args.bytes.now c.push.new.self.items c.in-Some.more.now =
    subst (λ (es : List Event). Listed c.args.bytes.now es c.in-Some.more.now) (sym c.in_ok-push.ensures.ok)
    (listed_more c.args.bytes.now c.loop-event.events.items c.loop-event.rest.now c.in-Some.event c.in-Some.more.now c.loop-event.invariant c.in-Some.ensures) in
    more

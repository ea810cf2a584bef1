use Rattle.plain_run.proofs.EventLemmas.{step_able, step_made}
use Rattle.plain_run.proofs.event.step.Goals as goal

pub step_now-requires-clause-able : goal.step_now-requires-clause-able
step_now-requires-clause-able c = step_able c.args.settings.now c.args.now.now c.present.result.now c.args.t c.present.ensures c.requires.may

pub returns-clause-ok : goal.returns-clause-ok
returns-clause-ok c =
    step_made c.step_now.result c.args.now.now c.step_now.new.now c.args.settings.now c.args.places.now c.present.result.now c.args.t c.present.ensures c.requires.ready c.requires.may
    c.step_now.ensures.ok

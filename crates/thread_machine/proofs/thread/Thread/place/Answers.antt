use Rattle.thread_machine.proofs.PlaceLemmas.{place_told}
use Rattle.thread_machine.proofs.thread.Thread.place.Goals as goal

pub returns-clause-place : goal.returns-clause-place
returns-clause-place g c =
    place_told c.args.code.now _ c.args.self.now c.place_in-place.result c.top-top.result.function c.top-top.result.pc c.body_of.result.now c.self.view_is c.requires c.top-top.ensures.function c.top-top.ensures.pc c.body_of.ensures c.place_in-place.ensures

use Rattle.std.proofs.Common.{map, take, subst}
use Rattle.patch_match.specs.Matching.{TellsOf}
use Rattle.patch_match.proofs.ClaimLemmas.{items_more}
use Rattle.patch_match.proofs.matching.sides_of.Goals as goal

pub loop-entry-preserved : goal.loop-entry-preserved
loop-entry-preserved c =
    subst (λ es. TellsOf c.note_entry.new.named c.args.kind c.args.old.now c.args.new.now es)
    (items_more c.args.mapping.now c.loop-entry.entry-index c.entry-item.result c.loop-entry-test.true c.entry-item.is)
    (c.note_entry.ensures (map (λ x. x.it) (take c.loop-entry.entry-index c.args.mapping.now)) c.loop-entry.invariant)

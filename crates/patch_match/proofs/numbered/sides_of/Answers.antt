use Rattle.std.proofs.Common.{length, take, subst}
use Rattle.std.specs.List.{flat_map}
use Rattle.c_tree.specs.Link.{claim_of}
use Rattle.c_tree.specs.Names.{names_in}
use Rattle.patch_match.specs.Matching.{TellsIn}
use Rattle.patch_match.proofs.NumberedLemmas.{claims_further}
use Rattle.patch_match.proofs.numbered.sides_of.Goals as goal

pub loop-entry-preserved : goal.loop-entry-preserved
loop-entry-preserved c =
    subst (λ claims. TellsIn c.note_entry.new.named c.args.kind c.args.old.now c.args.new.now claims)
    (claims_further c.args.kind c.args.entries.now c.loop-entry.entry-index c.entry-item.result c.loop-entry-test.true c.entry-item.is)
    (c.note_entry.ensures (flat_map (claim_of c.args.kind) (take c.loop-entry.entry-index c.args.entries.now))
    (length (names_in c.args.old.now c.args.kind)) (length (names_in c.args.new.now c.args.kind)) c.loop-entry.invariant)

use Rattle.std.proofs.Common.{◌∙◌}
use Rattle.std.specs.List.{flat_map}
use Rattle.c_tree.specs.Link.{claim_of}
use Rattle.patch_match.proofs.MatchLemmas.{matched_is}
use Rattle.patch_match.proofs.numbered.matches.Goals as goal

pub returns : goal.returns
returns c =
    c.in_ok-made.ensures
    ∙ matched_is c.args.old.now c.args.new.now c.args.kind c.in_ok-named.named
    (flat_map (claim_of c.args.kind) c.args.entries.now) (c.in_ok-named.ensures {u = tt})

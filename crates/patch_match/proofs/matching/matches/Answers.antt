use Rattle.std.proofs.Common.{[], map, ◌∙◌}
use Rattle.c_tree.specs.Entries.{all_claims}
use Rattle.patch_match.proofs.MatchLemmas.{matched_is}
use Rattle.patch_match.proofs.matching.matches.Goals as goal

pub returns : goal.returns
returns c =
    c.in_ok-made.ensures
    ∙ matched_is c.args.old.now c.args.new.now c.args.kind c.in_ok-named.named
    (all_claims c.args.old.now c.args.new.now c.args.kind [] (map (λ x. x.it) c.args.mapping.now)) (c.in_ok-named.ensures {u = tt})

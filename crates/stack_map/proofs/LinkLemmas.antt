-- The link of a patch has a match, or none, for each old function.
use Rattle.std.proofs.Common.{◌≡◌, List, length, ◌∙◌}
use Rattle.std.specs.List.{enumerate_from, flat_map}
use Rattle.std.proofs.lemmas.List.{length-map}
use Rattle.std.proofs.lemmas.List.FromFn.{length-enumerate_from}
use Rattle.c_tree.specs.declared.lifted.Lifted.{Lifted}
use Rattle.c_tree.specs.declared.mapping.LEntry.{LEntry}
use Rattle.c_tree.specs.Link.{claim_of, link_of, match_of, start_alike}
use Rattle.c_tree.specs.Names.{names_in}

pub linked_functions : (old new : Lifted) (entries : List LEntry) → length (link_of old new entries).functions ≡ length old.functions
linked_functions old new entries =
    length-map (enumerate_from 0 (names_in old 0)) (λ x. match_of (flat_map (claim_of 0) entries) (names_in new 0) (start_alike old new x.0) x.0 x.1)
    ∙ (length-enumerate_from 0 (names_in old 0) ∙ length-map old.functions (λ x. x.name))

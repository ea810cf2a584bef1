-- The link of a patch has a match, or none, for each old thing.
use Rattle.std.proofs.Common.{◌≡◌, ℕ, Bool, List, length, ◌∙◌}
use Rattle.std.specs.List.{enumerate_from, flat_map}
use Rattle.std.proofs.lemmas.List.{length-map}
use Rattle.std.proofs.lemmas.List.FromFn.{length-enumerate_from}
use Rattle.c_tree.specs.declared.lifted.Lifted.{Lifted}
use Rattle.c_tree.specs.declared.mapping.LEntry.{LEntry}
use Rattle.c_tree.specs.Link.{Claim, any_two, claim_of, link_of, match_of, matches, start_alike}
use Rattle.c_tree.specs.Names.{names_in}
use Rattle.state_transform.specs.Whole.{IsWhole}

matched : (claims : List Claim) (old new : List (List ℕ)) (may : ℕ → ℕ → Bool) → length (matches claims old new may) ≡ length old
matched claims old new may = length-map (enumerate_from 0 old) (λ x. match_of claims new (may x.0) x.0 x.1) ∙ length-enumerate_from 0 old

pub linked : (old new : Lifted) (entries : List LEntry) → IsWhole (link_of old new entries)
linked old new entries = record {
  functions = matched (flat_map (claim_of 0) entries) (names_in old 0) (names_in new 0) (start_alike old new) ∙ length-map old.functions (λ x. x.name);
  structs = matched (flat_map (claim_of 1) entries) (names_in old 1) (names_in new 1) any_two ∙ length-map old.structs (λ x. x.name);
  globals = matched (flat_map (claim_of 2) entries) (names_in old 2) (names_in new 2) any_two ∙ length-map old.globals (λ x. x.name);
  mutexes = matched (flat_map (claim_of 3) entries) (names_in old 3) (names_in new 3) any_two;
}

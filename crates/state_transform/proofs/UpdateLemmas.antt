-- The update by the link that the entries make.
use Rattle.std.proofs.Common.{◌≡◌, List, ◌∙◌, ap, refl}
use Rattle.c_tree.specs.declared.mapping.LEntry.{LEntry}
use Rattle.c_tree.specs.declared.mapping.Patch.{Patch}
use Rattle.c_tree.specs.declared.state.State.{State}
use Rattle.c_tree.specs.Link.{Link, link_of}
use Rattle.c_tree.specs.Update.{update, update_by}

opened : (p : Patch) (s : State) → update_by (link_of p.old p.new p.entries) p.entries s ≡ update p s
unfolding update
opened p s = refl

pub linked_update : (p : Patch) (s : State) (k : Link) (es fs : List LEntry) → es ≡ p.entries → fs ≡ p.entries → k ≡ link_of p.old p.new es → update_by k fs s ≡ update p s
linked_update p s k es fs same also is =
    ap (λ x. update_by x fs s) is
    ∙ (ap (λ x. update_by (link_of p.old p.new es) x s) also
    ∙ (ap (λ x. update_by (link_of p.old p.new x) p.entries s) same ∙ opened p s))

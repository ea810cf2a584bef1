-- The parts that an entry declares for a place.
use Rattle.std.proofs.Common.{◌≡◌, ℕ, suc, List, [], ◌∷◌, Option, Some, None, refl, ◌∙◌, ap, length}
use Rattle.std.specs.Prelude.{find}
use Rattle.std.specs.Option.{option_or}
use Rattle.std.proofs.lemmas.Option.{same_Some}
use Rattle.c_tree.specs.declared.lifted.Slot.{Slot}
use Rattle.c_tree.specs.declared.mapping.LEntry.{LEntry}
use Rattle.c_tree.specs.declared.mapping.LEntry.TheVariants as n
use Rattle.c_tree.specs.declared.mapping.LPart.{LPart}
use Rattle.c_tree.specs.Link.{Link, match_at}
use Rattle.c_tree.specs.MapStack.{declared_parts, is_point_of, parts_at, parts_of, parts_of_match, unchanged_parts}
use Rattle.c_tree.specs.Step.{function_of}
use Rattle.stack_map.specs.Subjects.{point_of}

-- where an entry declares parts, these are those of the place
pub declared_at : (k : Link) (es : List LEntry) (f i to : ℕ) (ps : List LPart) → match_at k.functions f ≡ Some to → Some ps ≡ point_of (find (is_point_of f i) es) →
    parts_at k es f i ≡ Some (parts_of k (function_of k.old f).slots ps)
declared_at k es f i to ps m e = ap (λ o. parts_of_match k es f i o) m ∙ pick (find (is_point_of f i) es) e where
  pick : (o : Option LEntry) → Some ps ≡ point_of o → option_or (declared_parts k f o) (unchanged_parts k f to i) ≡ Some (parts_of k (function_of k.old f).slots ps)
  pick (Some (n.Point g j qs)) e = ap (λ rs. Some (parts_of k (function_of k.old f).slots rs)) (same_Some qs ps (let h : Some qs ≡ Some ps = cc in h))
  pick None e = absurd (let no : ⊥ = cc in no)
  pick (Some (n.Match a b c)) e = absurd (let no : ⊥ = cc in no)
  pick (Some (n.Field a b c)) e = absurd (let no : ⊥ = cc in no)
  pick (Some (n.Init a b)) e = absurd (let no : ⊥ = cc in no)
  pick (Some (n.Check a)) e = absurd (let no : ⊥ = cc in no)

-- they are as many as the entry has
pub many_parts : (k : Link) (olds : List Slot) (ps : List LPart) → length (parts_of k olds ps) ≡ length ps
many_parts k olds [] = refl
many_parts k olds (p ∷ added) = ap (λ m. suc m) (many_parts k [] added)

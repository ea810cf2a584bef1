-- The slots of the parts of a place.
use Rattle.std.proofs.Common.{◌≡◌, ℕ, Bool, true, false, List, [], ◌∷◌, ◌++◌, Option, Some, None, refl, ◌∙◌, ap}
use Rattle.std.specs.Prelude.{find, if◌then◌else◌, not, ◌&&◌, unwrap_or}
use Rattle.std.specs.List.{flat_map}
use Rattle.std.specs.Option.{option_or}
use Rattle.std.proofs.lemmas.Option.{none-some, same_Some}
use Rattle.c_tree.specs.declared.lifted.Slot.{Slot}
use Rattle.c_tree.specs.declared.mapping.LEntry.{LEntry}
use Rattle.c_tree.specs.declared.mapping.LEntry.TheVariants as n
use Rattle.c_tree.specs.declared.mapping.LPart.{LPart}
use Rattle.c_tree.specs.declared.place.PlaceKind.TheVariants as kind
use Rattle.c_tree.specs.Link.{Link, match_at}
use Rattle.c_tree.specs.MapStack.{Part, declared_parts, is_point_of, part, parts_at, parts_of, parts_of_match, unchanged_parts}
use Rattle.c_tree.specs.Points.{is_kind, kind_in}
use Rattle.c_tree.specs.Same.{is_unchanged}
use Rattle.c_tree.specs.Step.{function_of}
use Rattle.reports.specs.Words.{declared, functions_by, functions_of, part_slots, slots_in}

abbrev slots_by : Link → List Part → List Slot
slots_by k parts = flat_map (λ p. (function_of k.new p.function).slots) parts

declared_slots : (k : Link) (olds : List Slot) (ps : List LPart) → slots_in k (functions_of ps) ≡ slots_by k (parts_of k olds ps)
declared_slots k olds [] = refl
declared_slots k olds (p ∷ added) = ap (λ xs. (function_of k.new p.function).slots ++ xs) (declared_slots k [] added)

alone : (k : Link) (b : Bool) (f g p : ℕ) (parts : List Part) → (if b then Some (part k (function_of k.old f).slots g p [] ∷ []) else None) ≡ Some parts → slots_in k (g ∷ []) ≡ slots_by k parts
alone k true f g p parts e = ap (slots_by k) (same_Some (part k (function_of k.old f).slots g p [] ∷ []) parts e)
alone k false f g p parts e = absurd (none-some parts e)

-- a place that no entry maps
kept : (k : Link) (f g p : ℕ) (parts : List Part) → match_at k.functions f ≡ Some g → unchanged_parts k f g p ≡ Some parts → slots_in k (functions_by k f None) ≡ slots_by k parts
kept k f g p parts is e =
    ap (λ o. slots_in k (unwrap_or o 0 ∷ [])) is ∙ alone k (is_unchanged k f g && not (is_kind kind.Plain (kind_in (function_of k.old f) p))) f g p parts e

found : (k : Link) (f g p : ℕ) (o : Option LEntry) (parts : List Part) → match_at k.functions f ≡ Some g → option_or (declared_parts k f o) (unchanged_parts k f g p) ≡ Some parts →
    slots_in k (functions_by k f (declared o)) ≡ slots_by k parts
found k f g p (Some (n.Point a b ps)) parts is e =
    declared_slots k (function_of k.old f).slots ps ∙ ap (slots_by k) (same_Some (parts_of k (function_of k.old f).slots ps) parts e)
found k f g p None parts is e = kept k f g p parts is e
found k f g p (Some (n.Match a b c)) parts is e = kept k f g p parts is e
found k f g p (Some (n.Field a b c)) parts is e = kept k f g p parts is e
found k f g p (Some (n.Init a b)) parts is e = kept k f g p parts is e
found k f g p (Some (n.Check a)) parts is e = kept k f g p parts is e

-- the slots that a reason counts are those of the parts
pub slots_of_parts : (k : Link) (entries : List LEntry) (f p : ℕ) (parts : List Part) → parts_at k entries f p ≡ Some parts →
    part_slots k entries f p ≡ flat_map (λ part. (function_of k.new part.function).slots) parts
slots_of_parts k entries f p parts e = pick (match_at k.functions f) refl e where
  pick : (o : Option ℕ) → match_at k.functions f ≡ o → parts_of_match k entries f p o ≡ Some parts → part_slots k entries f p ≡ slots_by k parts
  pick None is e = absurd (none-some parts e)
  pick (Some g) is e = found k f g p (find (is_point_of f p) entries) parts is e

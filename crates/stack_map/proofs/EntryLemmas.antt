-- The first entry about a thing, and what it fills.
use Rattle.std.proofs.Common.{◌≡◌, ℕ, Bool, true, false, cond, List, [], ◌∷◌, map, Some, None, refl, ap}
use Rattle.std.specs.Prelude.{◌&&◌, ◌==◌, find, if◌then◌else◌}
use Rattle.c_tree.specs.declared.mapping.LEntry.{LEntry}
use Rattle.c_tree.specs.declared.mapping.LEntry.TheVariants as l
use Rattle.c_tree.specs.MapGlobals.{init_of}
use Rattle.c_tree.specs.MapHeap.{field_for}
use Rattle.c_tree.specs.MapStack.{is_point_of}
use Rattle.c_tree.specs.Refusal.{first_some}
use Rattle.stack_map.specs.declared.entries.Subject.TheVariants as s
use Rattle.stack_map.specs.Subjects.{is_about, field_value, init_value}

pub first_field : (owner i : ℕ) (es : List LEntry) → field_value (find (is_about (s.Field owner i)) es) ≡ first_some (map (field_for owner i) es)
first_field owner i [] = refl
first_field owner i (l.Match k a b ∷ es) = first_field owner i es
first_field owner i (l.Init g x ∷ es) = first_field owner i es
first_field owner i (l.Point f n parts ∷ es) = first_field owner i es
first_field owner i (l.Check x ∷ es) = first_field owner i es
first_field owner i (l.Field t j x ∷ es) = pick (owner == t && i == j) (first_field owner i es) where
  pick : (b : Bool) → field_value (find (is_about (s.Field owner i)) es) ≡ first_some (map (field_for owner i) es) →
      field_value (cond b (Some (l.Field t j x)) (find (is_about (s.Field owner i)) es)) ≡ first_some ((if b then Some x else None) ∷ map (field_for owner i) es)
  pick true e = refl
  pick false e = e

pub first_init : (g : ℕ) (es : List LEntry) → init_value (find (is_about (s.Global g)) es) ≡ first_some (map (init_of g) es)
first_init g [] = refl
first_init g (l.Match k a b ∷ es) = first_init g es
first_init g (l.Field t j x ∷ es) = first_init g es
first_init g (l.Point f n parts ∷ es) = first_init g es
first_init g (l.Check x ∷ es) = first_init g es
first_init g (l.Init h x ∷ es) = pick (g == h) (first_init g es) where
  pick : (b : Bool) → init_value (find (is_about (s.Global g)) es) ≡ first_some (map (init_of g) es) →
      init_value (cond b (Some (l.Init h x)) (find (is_about (s.Global g)) es)) ≡ first_some ((if b then Some x else None) ∷ map (init_of g) es)
  pick true e = refl
  pick false e = e

pub first_point : (f i : ℕ) (es : List LEntry) → find (is_about (s.Place f i)) es ≡ find (is_point_of f i) es
first_point f i [] = refl
first_point f i (l.Match k a b ∷ es) = first_point f i es
first_point f i (l.Field t j x ∷ es) = first_point f i es
first_point f i (l.Init g x ∷ es) = first_point f i es
first_point f i (l.Check x ∷ es) = first_point f i es
first_point f i (l.Point g j parts ∷ es) = ap (λ o. cond (f == g && i == j) (Some (l.Point g j parts)) o) (first_point f i es)

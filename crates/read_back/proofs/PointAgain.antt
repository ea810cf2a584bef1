-- A point whose parts lift to the same parts in order lifts to the point in order.
use Rattle.std.proofs.Common.{◌≡◌, ℕ, false, List, [], ◌∷◌, Option, Some, Result, Ok, refl, ◌∙◌, ap}
use Rattle.std.specs.Prelude.{map, ◌||◌}
use Rattle.std.specs.List.{list_any, AllZip}
use Rattle.std.specs.Option.{ok_or, option_map}
use Rattle.c_tree.specs.declared.cause.EntryCause.{EntryCause}
use Rattle.c_tree.specs.declared.cause.EntryCause.TheVariants as c
use Rattle.c_tree.specs.declared.mapping.Entry.TheVariants as n
use Rattle.c_tree.specs.declared.mapping.LEntry.{LEntry}
use Rattle.c_tree.specs.declared.mapping.LEntry.TheVariants as l
use Rattle.c_tree.specs.declared.mapping.LFill.{LFill}
use Rattle.c_tree.specs.declared.mapping.LPart.{LPart}
use Rattle.c_tree.specs.declared.mapping.Part.{Part}
use Rattle.c_tree.specs.declared.mapping.Pt.{Pt}
use Rattle.c_tree.specs.Step.{function_of}
use Rattle.c_tree.specs.Refusal.{onward, refuse_if}
use Rattle.c_tree.specs.Points.{place_of}
use Rattle.c_tree.specs.Link.{Link, match_at}
use Rattle.c_tree.specs.Suits.{Site, site, kinds_differ, callees_differ}
use Rattle.c_tree.specs.Entries.{both, all_there, function_in}
use Rattle.c_tree.specs.Chain.{sites_of, lifted_parts, is_twice_filled, lifted_entry}
use Rattle.c_tree.specs.Canonical.{part_in_order}
use Rattle.c_tree.specs.Sound.{part_site}
use Rattle.patch_laws.proofs.LiftedForms.{PartForm, PointForm}
use Rattle.patch_laws.proofs.LiftedSound.{twice_kept}

-- parts in order stand where they stood, and fill no slot twice that was not filled twice
pub sites_kept : (xs : List LPart) → map part_site (map part_in_order xs) ≡ map part_site xs
sites_kept [] = refl
sites_kept (x ∷ xs) = ap (λ z. part_site x ∷ z) (sites_kept xs)

pub filled_kept : (xs : List LPart) → list_any is_twice_filled (map part_in_order xs) ≡ list_any is_twice_filled xs
filled_kept [] = refl
filled_kept (x ∷ xs) = ap (λ t. t || list_any is_twice_filled (map part_in_order xs)) (twice_kept x.fills) ∙ ap (λ t. is_twice_filled x || t) (filled_kept xs)

-- what is there, one after the other
both_there : {A : Type 0} (o : Option A) (p : Option (List A)) (x : A) (xs : List A) → o ≡ Some x → p ≡ Some xs → both o p ≡ Some (x ∷ xs)
both_there o p x xs e f = ap (λ z. both z p) e ∙ ap (λ z. both (Some x) z) f

functions_there : (k : Link) (f g : ℕ) (ps : List Part) (xs : List LPart) → AllZip (PartForm k f g) ps xs
    → all_there (map (λ p. function_in k g p.function) ps) ≡ Some (map (λ x. x.function) xs)
functions_there k f g [] [] h = refl
functions_there k f g [] (x ∷ xs) h = absurd h
functions_there k f g (p ∷ ps) [] h = absurd h
functions_there k f g (p ∷ ps) (x ∷ xs) h = both_there _ _ x.function (map (λ x. x.function) xs) h.0.0.0 (functions_there k f g ps xs h.1)

sites_there : (k : Link) (f g : ℕ) (ps : List Part) (xs : List LPart) → AllZip (PartForm k f g) ps xs
    → sites_of k (map (λ x. x.function) xs) ps ≡ Some (map part_site xs)
sites_there k f g [] [] h = refl
sites_there k f g [] (x ∷ xs) h = absurd h
sites_there k f g (p ∷ ps) [] h = absurd h
sites_there k f g (p ∷ ps) (x ∷ xs) h = both_there _ _ (part_site x) (map part_site xs) (ap (λ o. option_map (λ m. site x.function m) o) h.0.0.1) (sites_there k f g ps xs h.1)

parts_there : (k : Link) (f g : ℕ) (ps : List Part) (xs : List LPart) → AllZip (PartForm k f g) ps xs
    → lifted_parts k f (map part_site xs) ps ≡ Some xs
parts_there k f g [] [] h = refl
parts_there k f g [] (x ∷ xs) h = absurd h
parts_there k f g (p ∷ ps) [] h = absurd h
parts_there k f g (p ∷ ps) (x ∷ xs) h = both_there _ _ x xs (ap (λ o. option_map filled o) h.0.1) (parts_there k f g ps xs h.1)
  where
    filled : List LFill → LPart
    filled fs = record { function = x.function; place = x.place; fills = fs }

pub point_again : (k : Link) (name : List ℕ) (from : Pt) (parts : List Part) (y : LEntry) (q : PointForm k name from parts y) (ps : List Part) (xs : List LPart)
    → AllZip (PartForm k q.function q.match) ps xs → map part_site xs ≡ map part_site q.values → list_any is_twice_filled xs ≡ false
    → lifted_entry k (n.Point name from ps) ≡ Ok (l.Point q.function q.old_place xs)
point_again k name from parts y q ps xs forms stand once =
    ap (λ o. onward (ok_or o c.UnknownFunction) after_function) q.function_found
    ∙ (ap (λ o. onward (ok_or o c.UnknownFunction) (after_match q.function)) q.matched
    ∙ (ap (λ o. onward (ok_or o c.UnknownFunction) (after_functions q.function)) (functions_there k q.function q.match ps xs forms)
    ∙ (ap (λ o. onward (ok_or o c.UnknownPoint) (after_old q.function (map (λ x. x.function) xs))) q.old_found
    ∙ (ap (λ o. onward (ok_or o c.UnknownPoint) (after_sites q.function q.old_place)) (sites_there k q.function q.match ps xs forms)
    ∙ (ap (λ t. refuse_if t c.KindDiffers (after_kinds q.function q.old_place (map part_site xs))) kinds
    ∙ (ap (λ t. refuse_if t c.CalleeDiffers (after_callees q.function q.old_place (map part_site xs))) callees
    ∙ (ap (λ o. onward (ok_or o c.BadExpr) (after_parts q.function q.old_place)) (parts_there k q.function q.match ps xs forms)
    ∙ ap (λ t. refuse_if t c.Twice (Ok (l.Point q.function q.old_place xs))) once)))))))
  where
    kinds : kinds_differ k (site q.function q.old_place) (map part_site xs) ≡ false
    kinds = ap (λ z. kinds_differ k (site q.function q.old_place) z) stand ∙ q.kind_kept

    callees : callees_differ k (site q.function q.old_place) (map part_site xs) ≡ false
    callees = ap (λ z. callees_differ k (site q.function q.old_place) z) stand ∙ q.callee_kept

    after_parts : ℕ → ℕ → List LPart → Result LEntry EntryCause
    after_parts f a zs = refuse_if (list_any is_twice_filled zs) c.Twice (Ok (l.Point f a zs))

    after_callees : ℕ → ℕ → List Site → Result LEntry EntryCause
    after_callees f a sites = onward (ok_or (lifted_parts k f sites ps) c.BadExpr) (after_parts f a)

    after_kinds : ℕ → ℕ → List Site → Result LEntry EntryCause
    after_kinds f a sites = refuse_if (callees_differ k (site f a) sites) c.CalleeDiffers (after_callees f a sites)

    after_sites : ℕ → ℕ → List Site → Result LEntry EntryCause
    after_sites f a sites = refuse_if (kinds_differ k (site f a) sites) c.KindDiffers (after_kinds f a sites)

    after_old : ℕ → List ℕ → ℕ → Result LEntry EntryCause
    after_old f hs a = onward (ok_or (sites_of k hs ps) c.UnknownPoint) (after_sites f a)

    after_functions : ℕ → List ℕ → Result LEntry EntryCause
    after_functions f hs = onward (ok_or (place_of (function_of k.old f) from) c.UnknownPoint) (after_old f hs)

    after_match : ℕ → ℕ → Result LEntry EntryCause
    after_match f g = onward (ok_or (all_there (map (λ p. function_in k g p.function) ps)) c.UnknownFunction) (after_functions f)

    after_function : ℕ → Result LEntry EntryCause
    after_function f = onward (ok_or (match_at k.functions f) c.UnknownFunction) (after_match f)

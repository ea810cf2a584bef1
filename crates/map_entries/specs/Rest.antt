-- What is left of a point's chain, step by step, and the sites that it is about.
use Rattle.std.specs.Prelude.{ℕ, List, map, Option, Result, Ok}
use Rattle.std.specs.Option.{ok_or, option_map}
use Rattle.std.specs.List.{list_any, zip}
use Rattle.c_tree.specs.declared.cause.EntryCause.{EntryCause}
use Rattle.c_tree.specs.declared.cause.EntryCause.TheVariants as c
use Rattle.c_tree.specs.declared.lifted.Lifted.{Lifted}
use Rattle.c_tree.specs.declared.mapping.Pt.{Pt}
use Rattle.c_tree.specs.declared.mapping.Part.{Part}
use Rattle.c_tree.specs.declared.mapping.LEntry.{LEntry}
use Rattle.c_tree.specs.declared.mapping.LEntry.TheVariants as l
use Rattle.c_tree.specs.Step.{function_of}
use Rattle.c_tree.specs.Refusal.{onward, refuse_if}
use Rattle.c_tree.specs.Points.{place_of}
use Rattle.c_tree.specs.Link.{Link}
use Rattle.c_tree.specs.Suits as suits
use Rattle.c_tree.specs.Entries.{all_there}
use Rattle.c_tree.specs.Chain.{sites_of, lifted_parts, is_twice_filled}
use Rattle.map_entries.specs.declared.site.Site.{Site}

-- the place of a site, as definitions see it
abbrev pub seen : Site → suits.Site
seen s = suits.site s.function s.place

-- the place of a point in the function of a number
abbrev pub site_in : Lifted → ℕ → Pt → Option suits.Site
site_in p h pt = option_map (λ m. suits.site h m) (place_of (function_of p h) pt)

-- where parts of these functions stand
abbrev pub sites_in : Lifted → List ℕ → List Part → Option (List suits.Site)
sites_in p functions parts = all_there (map (λ x. site_in p x.0 x.1.point) (zip functions parts))

-- the slots of the parts are filled, each once
abbrev pub filled_point : Link → suits.Site → List suits.Site → List Part → Result LEntry EntryCause
filled_point k from sites parts =
    onward (ok_or (lifted_parts k from.function sites parts) c.BadExpr) (λ xs.
    refuse_if (list_any is_twice_filled xs) c.Twice (
    Ok (l.Point from.function from.place xs)))

-- the places suit each other in kind and in what is called, and then the slots are filled
abbrev pub point_between : Link → suits.Site → List suits.Site → List Part → Result LEntry EntryCause
point_between k from sites parts =
    refuse_if (suits.kinds_differ k from sites) c.KindDiffers (
    refuse_if (suits.callees_differ k from sites) c.CalleeDiffers (
    filled_point k from sites parts))

-- the places are there, and then they are tested
abbrev pub point_of : Link → ℕ → Pt → List ℕ → List Part → Result LEntry EntryCause
point_of k f from functions parts =
    onward (ok_or (place_of (function_of k.old f) from) c.UnknownPoint) (λ n.
    onward (ok_or (sites_of k functions parts) c.UnknownPoint) (λ sites.
    point_between k (suits.site f n) sites parts))

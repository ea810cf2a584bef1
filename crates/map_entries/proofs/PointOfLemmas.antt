-- A point whose old place and sites are there.
use Rattle.std.proofs.Common.{◌≡◌, ℕ, List, map, Option, Some, None, Result, Ok, sym, ◌∙◌, ap, subst}
use Rattle.std.specs.Option.{ok_or, option_map}
use Rattle.c_tree.specs.declared.cause.EntryCause.TheVariants as c
use Rattle.c_tree.specs.declared.lifted.Lifted.{Lifted}
use Rattle.c_tree.specs.declared.mapping.Pt.{Pt}
use Rattle.c_tree.specs.declared.mapping.Part.{Part}
use Rattle.c_tree.specs.declared.mapping.LEntry.{LEntry}
use Rattle.c_tree.specs.Step.{function_of}
use Rattle.c_tree.specs.Refusal.{onward}
use Rattle.c_tree.specs.Points.{place_of}
use Rattle.c_tree.specs.Link.{Link}
use Rattle.c_tree.specs.Suits.{site}
use Rattle.c_tree.specs.Chain.{sites_of}
use Rattle.map_entries.specs.declared.site.Site.{Site}
use Rattle.map_entries.specs.declared.refused.EntryRefused.{EntryRefused}
use Rattle.map_entries.specs.Gives.{Gives}
use Rattle.map_entries.specs.Rest.{seen, sites_in, point_between, point_of}

-- what was there where it was taken
pub some_of : {A E : Type 0} (o : Option A) (e : E) (r : Result A E) (x : A) → r ≡ ok_or o e → r ≡ Ok x → o ≡ Some x
some_of None e r x a b = absurd (let s = sym a ∙ b in let k : ⊥ = cc in k)
some_of (Some y) e r x a b = let s = sym a ∙ b in let same : y ≡ x = cc in ap (λ z. Some z) same

pub through : (k : Link) (old new : Lifted) (f : ℕ) (from : Pt) (functions : List ℕ) (parts : List Part) (r : Result LEntry EntryRefused)
    (n : ℕ) (found : Option ℕ) (stood : Option (List Site)) (sites shown : List Site) → old ≡ k.old → new ≡ k.new → found ≡ place_of (function_of old f) from → found ≡ Some n →
    option_map (map seen) stood ≡ sites_in new functions parts → stood ≡ Some sites → shown ≡ sites → Gives r (point_between k (site f n) (map seen shown) parts) →
    Gives r (point_of k f from functions parts)
through k old new f from functions parts r n found stood sites shown olds news a b d e same gives =
    let place : place_of (function_of k.old f) from ≡ Some n = ap (λ p. place_of (function_of p f) from) (sym olds) ∙ (sym a ∙ b) in
    let at : sites_of k functions parts ≡ Some (map seen shown) =
    ap (λ p. sites_in p functions parts) (sym news) ∙ (sym d ∙ (ap (option_map (map seen)) e ∙ ap (λ z. Some (map seen z)) (sym same))) in
    subst (λ o. Gives r (onward (ok_or o c.UnknownPoint) (λ n. onward (ok_or (sites_of k functions parts) c.UnknownPoint) (λ sites. point_between k (site f n) sites parts)))) (sym place)
    (subst (λ o. Gives r (onward (ok_or o c.UnknownPoint) (λ sites. point_between k (site f n) sites parts))) (sym at) gives)

-- Where an update was refused, after one more event.
use Rattle.std.proofs.Common.{◌≡◌, List, [], ◌∷◌, ◌++◌, Option, Some, None, refl, ap, ◌∙◌}
use Rattle.std.specs.Prelude.{fold}
use Rattle.c_tree.specs.declared.event.Event.{Event}
use Rattle.c_tree.specs.declared.event.EventKind.{EventKind}
use Rattle.c_tree.specs.declared.event.EventKind.TheVariants as e
use Rattle.c_tree.specs.declared.event.Reason.{Reason}
use Rattle.c_tree.specs.declared.run.Settings.{Settings}
use Rattle.c_tree.specs.Run.{Core, after, next, run_from}
use Rattle.world_core.specs.Refused.{refused_in, refused_or}

-- an event that is no refusal
abbrev pub IsNoRefusal : EventKind → Type 0
IsNoRefusal x = (c : Core) (o : Option (Core × Reason)) → refused_or c x o ≡ o

-- what comes after a core, if there is one
abbrev inner : Settings → Option Core → List Event → Option (Core × Reason)
inner k o es = (elim o as (λ _. Option (Core × Reason)) [ None ↦ None | Some d ↦ refused_in k d es ])

nothing_inner : (k : Settings) (o : Option Core) → inner k o [] ≡ None
nothing_inner k None = refl
nothing_inner k (Some d) = refl

same_inner : (k : Settings) (o : Option Core) (es fs : List Event) → ((d : Core) → refused_in k d es ≡ refused_in k d fs) → inner k o es ≡ inner k o fs
same_inner k None es fs h = refl
same_inner k (Some d) es fs h = h d

-- an event that is no refusal changes nothing
pub quiet-more : (k : Settings) (c : Core) (es : List Event) (x : Event) → IsNoRefusal x.kind → refused_in k c (es ++ x ∷ []) ≡ refused_in k c es
quiet-more k c [] x q = q c (inner k (next k c x.kind) []) ∙ nothing_inner k (next k c x.kind)
quiet-more k c (y ∷ ys) x q = ap (refused_or c y.kind) (same_inner k (next k c y.kind) (ys ++ x ∷ []) ys (λ d. quiet-more k d ys x q))

no_run : (k : Settings) (es : List Event) (d : Core) → fold (after k) None es ≡ Some d → ⊥
no_run k [] d e = cc
no_run k (x ∷ xs) d e = no_run k xs d e

-- a core that says of no refusal leaves the later ones as they are
open_or : (x : EventKind) (c : Core) (o o2 : Option (Core × Reason)) → refused_or c x o ≡ None → (o ≡ None) × (refused_or c x o2 ≡ o2)
open_or e.Request c o o2 h = (h, refl)
open_or (e.Step t) c o o2 h = (h, refl)
open_or (e.Park t) c o o2 h = (h, refl)
open_or e.Update c o o2 h = (h, refl)
open_or (e.Refuse y) c o o2 h = cc
open_or (e.Resume t) c o o2 h = (h, refl)

onward : (k : Settings) (o : Option Core) (es : List Event) (x : Event) (d : Core) (y : Reason) → fold (after k) o es ≡ Some d → inner k o es ≡ None
    → ((c : Core) → run_from k c es ≡ Some d → refused_in k c es ≡ None → refused_in k c (es ++ x ∷ []) ≡ Some (d, y))
    → inner k o (es ++ x ∷ []) ≡ Some (d, y)
onward k None es x d y run none h = absurd (no_run k es d run)
onward k (Some c) es x d y run none h = h c run none

at_end : (c d : Core) (x : EventKind) (o : Option (Core × Reason)) (y : Reason) → c ≡ d → x ≡ e.Refuse y → refused_or c x o ≡ Some (d, y)
at_end c d x o y h is = ap (λ z. refused_or c z o) is ∙ ap (λ z. let w : Option (Core × Reason) = Some (z, y) in w) h

-- the first refusal is the one that is named
pub refusal-more : (k : Settings) (c : Core) (es : List Event) (x : Event) (d : Core) (y : Reason) → x.kind ≡ e.Refuse y → run_from k c es ≡ Some d
    → refused_in k c es ≡ None → refused_in k c (es ++ x ∷ []) ≡ Some (d, y)
refusal-more k c [] x d y is run none = at_end c d x.kind _ y (let q : c ≡ d = cc in q) is
refusal-more k c (z ∷ zs) x d y is run none =
    let o = inner k (next k c z.kind) in
    let h = open_or z.kind c (o zs) (o (zs ++ x ∷ [])) none in
    h.1 ∙ onward k (next k c z.kind) zs x d y run h.0 (λ c2 run2 none2. refusal-more k c2 zs x d y is run2 none2)

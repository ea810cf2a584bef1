-- A listing, event by event.
use Rattle.std.proofs.Common.{◌≡◌, ℕ, ◌+◌, ◌<◌, Bool, true, false, List, [], ◌∷◌, ◌++◌, length, take, drop, get_or, Option, Some, None, refl, ap, sym, ◌∙◌, subst, suc, drop-cons, add-one}
use Rattle.std.specs.Prelude.{slice_get}
use Rattle.std.proofs.lemmas.List.{take_more}
use Rattle.std.proofs.lemmas.Option.{get_or_from_slice_get, slice_get_within}
use Rattle.c_tree.specs.declared.event.Event.{Event}
use Rattle.c_tree.specs.declared.run.Settings.{Settings}
use Rattle.c_tree.specs.Run as r
use Rattle.c_tree.specs.Plan.{refused_at, next_listed}
use Rattle.world_core.specs.History.{History, core}
use Rattle.world_core.proofs.WorldLemmas.{core_empty}
use Rattle.drive.specs.Listed.{OnList, Taken}

refused_none : (k : Settings) (clean : Bool) (n : ℕ) (c : r.Core) (x : Event) (es : List Event) (o : Option r.Core) → next_listed k c x.kind ≡ o → o ≡ None
    → refused_at k clean n c (x ∷ es) ≡ Some n
refused_none k clean n c x es o p q =
    ap (λ d. (elim d as (λ _. Option ℕ) [ None ↦ Some n | Some d2 ↦ refused_at k clean (n + 1) d2 es ])) (p ∙ q)

refused_some : (k : Settings) (clean : Bool) (n : ℕ) (c d : r.Core) (x : Event) (es : List Event) → next_listed k c x.kind ≡ Some d
    → refused_at k clean n c (x ∷ es) ≡ refused_at k clean (n + 1) d es
refused_some k clean n c d x es p =
    ap (λ o. (elim o as (λ _. Option ℕ) [ None ↦ Some n | Some d2 ↦ refused_at k clean (n + 1) d2 es ])) p

take_zero : (es : List Event) → take 0 es ≡ []
take_zero [] = refl
take_zero (x ∷ es) = refl

pub list_begins : (k : Settings) (clean : Bool) (es : List Event) (h : History) → h.settings ≡ k → h.earlier ≡ [] → h.events ≡ [] → OnList k clean es 0 h
list_begins k clean es h s one n =
    let c : core h ≡ r.first k = core_empty h one n ∙ ap r.first s in
    record {
      same = s;
      single = one;
      events = n ∙ sym (take_zero es);
      rest = ap (λ d. refused_at k clean 1 d es) (sym c);
    }

at_event : (es : List Event) (n : ℕ) (x : Event) → n < length es → x ≡ get_or es n x → drop n es ≡ x ∷ drop (n + 1) es
at_event es n x h e = drop-cons es n x h ∙ (ap (λ y. y ∷ drop (suc n) es) (sym e) ∙ ap (λ m. x ∷ drop m es) (sym (add-one n)))

pub list_takes : (k : Settings) (clean : Bool) (es : List Event) (n : ℕ) (h h2 : History) (x : Event) → OnList k clean es n h → n < length es → x ≡ get_or es n x
    → Taken true h h2 x.worker x.kind → OnList k clean es (n + 1) h2
list_takes k clean es n h h2 x l i e t =
    record {
      same = ap (λ g. g.settings) t.1 ∙ l.same;
      single = ap (λ g. g.earlier) t.1 ∙ l.single;
      events = ap (λ g. g.events) t.1 ∙ (ap (λ ys. ys ++ x ∷ []) l.events ∙ (ap (λ y. take n es ++ y ∷ []) e ∙ sym (take_more es n x i)));
      rest = l.rest ∙ (ap (λ ys. refused_at k clean (n + 1) (core h) ys) (at_event es n x i e)
          ∙ refused_some k clean (n + 1) (core h) (core h2) x (drop (n + 1) es) (ap (λ j. next_listed j (core h) x.kind) (sym l.same) ∙ t.0));
    }

pub list_takes_got : (k : Settings) (clean : Bool) (es : List Event) (n : ℕ) (h h2 : History) (x : Event) (b : Bool) → OnList k clean es n h → Some x ≡ slice_get es n
    → b ≡ true → Taken b h h2 x.worker x.kind → OnList k clean es (n + 1) h2
list_takes_got k clean es n h h2 x b l g e t =
    list_takes k clean es n h h2 x l (slice_get_within es n x (sym g)) (sym (get_or_from_slice_get es n x x (sym g)))
    (subst (λ c. Taken c h h2 x.worker x.kind) e t)

pub list_refuses : (k : Settings) (clean : Bool) (es : List Event) (n : ℕ) (h h2 : History) (x : Event) (b : Bool) → OnList k clean es n h → Some x ≡ slice_get es n
    → b ≡ false → Taken b h h2 x.worker x.kind → Some (n + 1) ≡ refused_at k clean 1 (r.first k) es
list_refuses k clean es n h h2 x b l g e t =
    let refused : Taken false h h2 x.worker x.kind = subst (λ c. Taken c h h2 x.worker x.kind) e t in
    let here = at_event es n x (slice_get_within es n x (sym g)) (sym (get_or_from_slice_get es n x x (sym g))) in
    sym (l.rest ∙ (ap (λ ys. refused_at k clean (n + 1) (core h) ys) here
    ∙ refused_none k clean (n + 1) (core h) x (drop (n + 1) es) None (ap (λ j. next_listed j (core h) x.kind) (sym l.same) ∙ refused.0) refl))

-- The event that a plan makes in a core, and the plan with one more event.
use Rattle.std.proofs.Common.{◌≡◌, ℕ, Bool, true, false, List, [], ◌∷◌, ◌++◌, Option, Some, None, ap, ◌∙◌}
use Rattle.std.specs.Prelude.{find}
use Rattle.std.specs.Option.{option_or, option_map}
use Rattle.c_tree.specs.declared.event.Event.{Event}
use Rattle.c_tree.specs.declared.event.EventKind.{EventKind}
use Rattle.c_tree.specs.declared.event.EventKind.TheVariants as e
use Rattle.c_tree.specs.declared.run.End.{End}
use Rattle.c_tree.specs.declared.run.Picker.{Picker}
use Rattle.c_tree.specs.declared.run.Settings.{Settings}
use Rattle.c_tree.specs.Run.{Core, over, next, threads, is_due, may_park, may_decide, may_resume}
use Rattle.c_tree.specs.Plan.{Progress, advance, chosen, picked, picker_after, by_none, where_so, outcome, with_choice, with_event}

while_none : (o : Option End) (x y : Option EventKind) → o ≡ None → x ≡ y → (elim o as (λ _. Option EventKind) [ None ↦ x | Some z ↦ None ]) ≡ y
while_none None x y h e = e
while_none (Some z) x y h e = cc

pub advance-by : (k : Settings) (short : Bool) (c c2 : Core) (g : Picker) (es : List Event) (kind : EventKind) → over k c ≡ None → chosen k short c g ≡ Some kind
    → next k c kind ≡ Some c2
    → advance k short (record { core = c; picker = g; events = es }) ≡ record { core = c2; picker = picker_after g kind; events = es ++ by_none kind ∷ [] }
unfolding advance
advance-by k short c c2 g es kind o p m =
    let w : Progress = record { core = c; picker = g; events = es } in
    ap (λ x. with_choice k w x) (while_none (over k c) (chosen k short c g) (Some kind) o p)
    ∙ ap (λ d. with_event w kind d) m

or_first : (a b : Option EventKind) (x : EventKind) → a ≡ Some x → option_or a b ≡ Some x
or_first None b x h = cc
or_first (Some y) b x h = h

or_next : (a b : Option EventKind) (x : EventKind) → a ≡ None → b ≡ Some x → option_or a b ≡ Some x
or_next None b x h i = i
or_next (Some y) b x h i = cc

pub chosen-Request : (k : Settings) (short : Bool) (c : Core) (g : Picker) → is_due k c ≡ true → chosen k short c g ≡ Some e.Request
chosen-Request k short c g d = or_first (where_so (is_due k c) e.Request) _ e.Request (ap (λ b. where_so b e.Request) d)

undue : (k : Settings) (c : Core) → is_due k c ≡ false → where_so (is_due k c) e.Request ≡ None
undue k c d = ap (λ b. where_so b e.Request) d

pub chosen-Park : (k : Settings) (short : Bool) (c : Core) (g : Picker) (t : ℕ) → is_due k c ≡ false → find (may_park c) (threads c) ≡ Some t
    → chosen k short c g ≡ Some (e.Park t)
chosen-Park k short c g t d p =
    or_next (where_so (is_due k c) e.Request) _ (e.Park t) (undue k c d)
    (or_first (option_map (λ u. e.Park u) (find (may_park c) (threads c))) _ (e.Park t) (ap (λ o. option_map (λ u. e.Park u) o) p))

unparked : (c : Core) → find (may_park c) (threads c) ≡ None → option_map (λ u. e.Park u) (find (may_park c) (threads c)) ≡ None
unparked c p = ap (λ o. option_map (λ u. e.Park u) o) p

pub chosen-outcome : (k : Settings) (short : Bool) (c : Core) (g : Picker) → is_due k c ≡ false → find (may_park c) (threads c) ≡ None → may_decide c ≡ true
    → chosen k short c g ≡ Some (outcome k short c)
chosen-outcome k short c g d p m =
    or_next (where_so (is_due k c) e.Request) _ (outcome k short c) (undue k c d)
    (or_next (option_map (λ u. e.Park u) (find (may_park c) (threads c))) _ (outcome k short c) (unparked c p)
    (or_first (where_so (may_decide c) (outcome k short c)) _ (outcome k short c) (ap (λ b. where_so b (outcome k short c)) m)))

pub chosen-Resume : (k : Settings) (short : Bool) (c : Core) (g : Picker) (t : ℕ) → is_due k c ≡ false → find (may_park c) (threads c) ≡ None → may_decide c ≡ false
    → find (may_resume c) (threads c) ≡ Some t → chosen k short c g ≡ Some (e.Resume t)
chosen-Resume k short c g t d p m r =
    or_next (where_so (is_due k c) e.Request) _ (e.Resume t) (undue k c d)
    (or_next (option_map (λ u. e.Park u) (find (may_park c) (threads c))) _ (e.Resume t) (unparked c p)
    (or_next (where_so (may_decide c) (outcome k short c)) _ (e.Resume t) (ap (λ b. where_so b (outcome k short c)) m)
    (or_first (option_map (λ u. e.Resume u) (find (may_resume c) (threads c))) _ (e.Resume t) (ap (λ o. option_map (λ u. e.Resume u) o) r))))

pub chosen-Step : (k : Settings) (short : Bool) (c : Core) (g : Picker) (t : ℕ) → is_due k c ≡ false → find (may_park c) (threads c) ≡ None → may_decide c ≡ false
    → find (may_resume c) (threads c) ≡ None → picked k c g ≡ Some t → chosen k short c g ≡ Some (e.Step t)
chosen-Step k short c g t d p m r s =
    or_next (where_so (is_due k c) e.Request) _ (e.Step t) (undue k c d)
    (or_next (option_map (λ u. e.Park u) (find (may_park c) (threads c))) _ (e.Step t) (unparked c p)
    (or_next (where_so (may_decide c) (outcome k short c)) _ (e.Step t) (ap (λ b. where_so b (outcome k short c)) m)
    (or_next (option_map (λ u. e.Resume u) (find (may_resume c) (threads c))) _ (e.Step t) (ap (λ o. option_map (λ u. e.Resume u) o) r)
    (ap (λ o. option_map (λ u. e.Step u) o) s))))

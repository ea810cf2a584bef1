-- What a whole file leaves has the form that the laws of the lifting ask for.
use Rattle.std.specs.Prelude.{List, [], ◌∷◌, ◌++◌, Bool, true, false, cond}
use Rattle.std.proofs.Common.{◌≡◌, Option, Some, None, refl, sym, ◌∙◌, ap, subst}
use Rattle.c_tree.specs.declared.program.Program.{Program}
use Rattle.c_tree.specs.ReadForm.{HasReadForm}
use Rattle.c_reader.specs.Spelling.{IsTreeSpelt}
use Rattle.c_grammar.specs.declared.symbol.Symbol.{Symbol}
use Rattle.c_grammar.specs.declared.symbol.Symbol.TheVariants.{Take, Unless, Act, Expand}
use Rattle.c_grammar.specs.declared.value.Value.{Value}
use Rattle.c_grammar.specs.declared.value.Value.TheVariants as value
use Rattle.c_grammar.specs.Marks.{keeps}
use Rattle.c_grammar.specs.Rules.{alternatives, start}
use Rattle.c_grammar.specs.Effects.{State, empty, value_effect}
use Rattle.c_grammar.specs.Pieces.{Piece}
use Rattle.c_grammar.specs.Reading.{Aim, Part, Whole, Accepts, Goes, stop, end, take_token, pass, act, expand}
use Rattle.c_reader.proofs.Forms.{Form, Deal, Has, Fits, past, kept_form, done_by, read_by}
use Rattle.c_reader.proofs.Forms as form
use Rattle.c_reader.proofs.FormRuns.{dealt, and_then, run, ends_in, keeps_deal, each_among, each_holds, fits_above, fits_front, fits_both, past_both, past_strip, Taken, taken}
use Rattle.c_reader.proofs.FormTables.{each_rule}
use Rattle.c_reader.proofs.FormEffects.{Does, done, no_parts}

-- Each token has a value of the form that its kind is kept with.
abbrev pub AllNamed : List Piece → Type 0
AllNamed [] = Unit {0}
AllNamed (p ∷ ps) = ((vs : List Value) → Has (kept_form p.kind) (p.value ∷ vs)) × AllNamed ps

-- From these values the symbols lead to a program of the form.
abbrev Leads : List Symbol → List Value → Type 0
Leads [] vs = Has form.Program vs
Leads (Take k mark ∷ symbols) vs = (v : Value) → Has (kept_form k) (v ∷ vs) → Leads symbols (cond (keeps mark) (v ∷ vs) vs)
Leads (Unless k ∷ symbols) vs = Leads symbols vs
Leads (Act a ∷ symbols) vs = Leads symbols (value_effect a vs)
Leads (Expand r ∷ symbols) vs =
    (d : Deal) × (keeps_deal r d ≡ true) × Fits d.finds vs × ((ws : List Value) → Fits d.leaves ws → past d.leaves ws ≡ past d.finds vs → Leads symbols ws)

kept_fits : (b : Bool) (f : Form) (found : List Form) (v : Value) (vs : List Value) → Has f (v ∷ vs) → Fits found vs → Fits (cond b (f ∷ found) found) (cond b (v ∷ vs) vs)
kept_fits true f found v vs h fits = (h, fits)
kept_fits false f found v vs h fits = fits

kept_past : (b : Bool) (f : Form) (found : List Form) (v : Value) (vs : List Value) → past (cond b (f ∷ found) found) (cond b (v ∷ vs) vs) ≡ past found vs
kept_past true f found v vs = refl
kept_past false f found v vs = refl

-- Values of the forms that follow a deal, where those behind are the same.
abbrev Follows : List Symbol → List Form → List Value → Type 0
Follows symbols after vs = (ws : List Value) → Fits after ws → past after ws ≡ vs → Leads symbols ws

dealt_on : (P : Deal → Type 0) (found x : List Form) (vs ws : List Value) (t : Taken P found x) → Fits found vs → Fits t.deal.leaves ws → past t.deal.leaves ws ≡ past t.deal.finds vs
    → Fits x ws × (past x ws ≡ past found vs)
dealt_on P found x vs ws t fits made same =
    let behind : Fits t.rest (past t.deal.leaves ws) = subst (λ y. Fits t.rest y) (sym same) (fits_front t.deal.finds found t.rest vs t.front fits).1 in (
      subst (λ y. Fits y ws) (sym t.is) (fits_both t.deal.leaves t.rest ws made behind),
      ap (λ y. past y ws) t.is ∙ past_both t.deal.leaves t.rest ws ∙ ap (λ y. past t.rest y) same ∙ sym (past_strip t.deal.finds found t.rest vs t.front),
    )

-- The symbols in front make of values of some forms values of others, and those behind go on with them.
leads_on : (front behind : List Symbol) (found after : List Form) (vs : List Value) → run front found ≡ Some after → Fits found vs → Follows behind after (past found vs) → Leads (front ++ behind) vs
leads_on [] behind found after vs e fits next = let d : found ≡ after = cc in next vs (subst (λ x. Fits x vs) d fits) (ap (λ x. past x vs) (sym d))
leads_on (Take k mark ∷ front) behind found after vs e fits next =
    λ v h. leads_on front behind (cond (keeps mark) (kept_form k ∷ found) found) after (cond (keeps mark) (v ∷ vs) vs) e (kept_fits (keeps mark) (kept_form k) found v vs h fits)
    (λ ws f p. next ws f (p ∙ kept_past (keeps mark) (kept_form k) found v vs))
leads_on (Unless k ∷ front) behind found after vs e fits next = leads_on front behind found after vs e fits next
leads_on (Act a ∷ front) behind found after vs e fits next =
    go (dealt (done_by a) found) refl e (λ x e f p. leads_on front behind x after (value_effect a vs) e f (λ ws g q. next ws g (q ∙ p)))
  where
    go : (o : Option (List Form)) → dealt (done_by a) found ≡ o → and_then o (λ x. run front x) ≡ Some after
        → ((x : List Form) → run front x ≡ Some after → Fits x (value_effect a vs) → past x (value_effect a vs) ≡ past found vs → Leads (front ++ behind) (value_effect a vs))
        → Leads (front ++ behind) (value_effect a vs)
    go None h e on = cc
    go (Some x) h e on =
        let t : Taken (λ d. Does a d) found x = taken (λ d. Does a d) (done_by a) found x (done a) h in
        let made = t.has vs (fits_front t.deal.finds found t.rest vs t.front fits).0 in
        let now = dealt_on (λ d. Does a d) found x vs (value_effect a vs) t fits made.0 made.1 in
        on x e now.0 now.1
leads_on (Expand r ∷ front) behind found after vs e fits next =
    go (dealt (read_by r) found) refl e (λ x ws e f p. leads_on front behind x after ws e f (λ us g q. next us g (q ∙ p)))
  where
    go : (o : Option (List Form)) → dealt (read_by r) found ≡ o → and_then o (λ x. run front x) ≡ Some after
        → ((x : List Form) (ws : List Value) → run front x ≡ Some after → Fits x ws → past x ws ≡ past found vs → Leads (front ++ behind) ws)
        → Leads (Expand r ∷ (front ++ behind)) vs
    go None h e on = cc
    go (Some x) h e on =
        let t : Taken (λ d. keeps_deal r d ≡ true) found x = taken (λ d. keeps_deal r d ≡ true) (read_by r) found x (each_holds (λ d. keeps_deal r d) (read_by r) (each_rule r)) h in
        (t.deal, t.has, (fits_front t.deal.finds found t.rest vs t.front fits).0, λ ws f p. let now = dealt_on (λ d. keeps_deal r d ≡ true) found x vs ws t fits f p in on x ws e now.0 now.1)

expands : (front behind : List Symbol) (d : Deal) (vs : List Value) → ends_in (run front d.finds) d.leaves ≡ true → Fits d.finds vs
    → Follows behind d.leaves (past d.finds vs) → Leads (front ++ behind) vs
expands front behind d vs e fits next = go (run front d.finds) refl e
  where
    go : (o : Option (List Form)) → run front d.finds ≡ o → ends_in o d.leaves ≡ true → Leads (front ++ behind) vs
    go None h e = cc
    go (Some after) h e = leads_on front behind d.finds after vs h fits (λ ws f p. let above = fits_above after d.leaves ws e f in next ws above.0 (sym above.1 ∙ p))

abbrev Ends : Aim → Type 0
Ends (Part test) = Unit {0}
Ends (Whole values) = Has form.Program values

ends_stop : (aim : Aim) (state : State) → Accepts aim state → Ends aim
ends_stop (Part test) state ok = tt
ends_stop (Whole values) state ok = absurd ok

goes_formed : {aim : Aim} {symbols : List Symbol} {state : State} {ps : List Piece} → AllNamed ps → Goes alternatives aim symbols state ps → Leads symbols state.values → Ends aim
goes_formed w (stop {aim = aim} {state = state} ok) t = ends_stop aim state ok
goes_formed w (end e) t = subst (λ vs. Has form.Program vs) (sym e) t
goes_formed w (take_token {kind = kind} {mark = mark} {symbols = symbols} {state = state} {p = p} e g) t = goes_formed w.1 g (t p.value (subst (λ k. Has (kept_form k) (p.value ∷ state.values)) e (w.0 state.values)))
goes_formed w (pass n g) t = goes_formed w g t
goes_formed w (act g) t = goes_formed w g t
goes_formed w (expand {r = r} {alternative = front} {symbols = behind} {state = state} m g) t =
    goes_formed w g (expands front behind t.0 state.values (each_among (λ x. ends_in (run x (t.0).finds) (t.0).leaves) front (alternatives r) m t.1) t.2 t.3)

-- What a whole file leaves has the form.
pub reading_formed : (ps : List Piece) (read : Program) → AllNamed ps → Goes alternatives (Whole (value.Program read ∷ [])) start empty ps → HasReadForm read × IsTreeSpelt read
reading_formed ps read w g = goes_formed w g (record { finds = form.Program ∷ []; leaves = form.Program ∷ [] }, refl, (no_parts, tt), λ ws f p. f.0)

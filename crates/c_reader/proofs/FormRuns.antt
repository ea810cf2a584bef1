-- What symbols make of forms, and that values follow.
use Rattle.std.specs.Prelude.{List, [], ◌∷◌, ◌++◌, Bool, true, false, ◌&&◌, cond}
use Rattle.std.specs.List.{list_all, AllByRecursion}
use Rattle.std.proofs.Common.{◌≡◌, Option, Some, None, refl, sym, ap, subst}
use Rattle.c_grammar.specs.declared.symbol.Symbol.{Symbol}
use Rattle.c_grammar.specs.declared.symbol.Symbol.TheVariants.{Take, Unless, Act, Expand}
use Rattle.c_grammar.specs.declared.rule.Rule.{Rule}
use Rattle.c_grammar.specs.declared.value.Value.{Value}
use Rattle.c_grammar.specs.Marks.{keeps}
use Rattle.c_grammar.specs.Rules.{alternatives}
use Rattle.c_grammar.specs.Values.{older}
use Rattle.c_grammar.specs.Reading.{Among, first, later}
use Rattle.c_reader.proofs.Choice.{both_left, both_right}
use Rattle.c_reader.proofs.Forms.{Form, Deal, Fits, past, below, kept_form, done_by, read_by}
use Rattle.c_reader.proofs.FormOrder.{below_has}

-- what is left behind the forms that are asked for, if those in front are these or below them
abbrev pub strip : List Form → List Form → Option (List Form)
strip [] found = Some found
strip (w ∷ ws) [] = None
strip (w ∷ ws) (f ∷ found) = cond (below f w) (strip ws found) None

abbrev pub or_else : Option (List Form) → Option (List Form) → Option (List Form)
or_else None other = other
or_else (Some x) other = Some x

abbrev pub and_then : Option (List Form) → (List Form → Option (List Form)) → Option (List Form)
and_then None f = None
and_then (Some x) f = f x

-- the forms after the first deal that they fit
abbrev pub dealt : List Deal → List Form → Option (List Form)
dealt [] found = None
dealt (d ∷ ds) found = or_else (and_then (strip d.finds found) (λ rest. Some (d.leaves ++ rest))) (dealt ds found)

-- the forms after the symbols, if each finds what it wants
abbrev pub run : List Symbol → List Form → Option (List Form)
run [] found = Some found
run (Take k mark ∷ symbols) found = run symbols (cond (keeps mark) (kept_form k ∷ found) found)
run (Unless k ∷ symbols) found = run symbols found
run (Act a ∷ symbols) found = and_then (dealt (done_by a) found) (λ x. run symbols x)
run (Expand r ∷ symbols) found = and_then (dealt (read_by r) found) (λ x. run symbols x)

-- as many forms, each the other or below it
abbrev pub all_below : List Form → List Form → Bool
all_below [] [] = true
all_below (f ∷ fs) (g ∷ gs) = below f g && all_below fs gs
all_below _ _ = false

abbrev pub ends_in : Option (List Form) → List Form → Bool
ends_in None leaves = false
ends_in (Some found) leaves = all_below found leaves

-- each alternative of the rule makes of what the deal finds what it leaves
abbrev pub keeps_deal : Rule → Deal → Bool
keeps_deal r d = list_all (λ front. ends_in (run front d.finds) d.leaves) (alternatives r)

pub each_among : {X : Type 0} (test : X → Bool) (x : X) (xs : List X) → Among x xs → list_all test xs ≡ true → test x ≡ true
each_among test x xs first h = both_left _ _ h
each_among test x xs (later {y = y} {xs = rest} m) h = each_among test x rest m (both_right (test y) _ h)

pub each_holds : {X : Type 0} (test : X → Bool) (xs : List X) → list_all test xs ≡ true → AllByRecursion (λ x. test x ≡ true) xs
each_holds test [] h = tt
each_holds test (x ∷ xs) h = (both_left _ _ h, each_holds test xs (both_right (test x) _ h))

-- values of forms have the forms above them, and as many stand in front
pub fits_above : (fs gs : List Form) (vs : List Value) → all_below fs gs ≡ true → Fits fs vs → Fits gs vs × (past fs vs ≡ past gs vs)
fits_above [] [] vs h fits = (tt, refl)
fits_above [] (g ∷ gs) vs h fits = cc
fits_above (f ∷ fs) [] vs h fits = cc
fits_above (f ∷ fs) (g ∷ gs) vs h fits =
    let more = fits_above fs gs (older vs) (both_right (below f g) _ h) fits.1 in
    ((below_has f g vs (both_left _ _ h) fits.0, more.0), more.1)

pub fits_front : (ws found rest : List Form) (vs : List Value) → strip ws found ≡ Some rest → Fits found vs → Fits ws vs × Fits rest (past ws vs)
fits_front [] found rest vs e fits = let d : found ≡ rest = cc in (tt, subst (λ x. Fits x vs) d fits)
fits_front (w ∷ ws) [] rest vs e fits = cc
fits_front (w ∷ ws) (f ∷ found) rest vs e fits = go (below f w) refl e (λ e. fits_front ws found rest (older vs) e fits.1)
  where
    go : (b : Bool) → below f w ≡ b → cond b (strip ws found) None ≡ Some rest → (strip ws found ≡ Some rest → Fits ws (older vs) × Fits rest (past ws (older vs)))
        → Fits (w ∷ ws) vs × Fits rest (past (w ∷ ws) vs)
    go true h e more = ((below_has f w vs h fits.0, (more e).0), (more e).1)
    go false h e more = cc

-- forms in front of others, with as many values
pub fits_both : (fs rest : List Form) (vs : List Value) → Fits fs vs → Fits rest (past fs vs) → Fits (fs ++ rest) vs
fits_both [] rest vs fits behind = behind
fits_both (f ∷ fs) rest vs fits behind = (fits.0, fits_both fs rest (older vs) fits.1 behind)

pub past_both : (fs rest : List Form) (vs : List Value) → past (fs ++ rest) vs ≡ past rest (past fs vs)
past_both [] rest vs = refl
past_both (f ∷ fs) rest vs = past_both fs rest (older vs)

pub past_strip : (ws found rest : List Form) (vs : List Value) → strip ws found ≡ Some rest → past found vs ≡ past rest (past ws vs)
past_strip [] found rest vs e = let d : found ≡ rest = cc in ap (λ x. past x vs) d
past_strip (w ∷ ws) [] rest vs e = cc
past_strip (w ∷ ws) (f ∷ found) rest vs e = go (below f w) e (λ e. past_strip ws found rest (older vs) e)
  where
    go : (b : Bool) → cond b (strip ws found) None ≡ Some rest → (strip ws found ≡ Some rest → past found (older vs) ≡ past rest (past ws (older vs)))
        → past found (older vs) ≡ past rest (past ws (older vs))
    go true e more = more e
    go false e more = cc

-- the deal that is taken
pub record Taken (P : Deal → Type 0) (found after : List Form) : Type 0 where
  pub deal : Deal
  pub has : P deal
  pub rest : List Form
  pub front : strip deal.finds found ≡ Some rest
  pub is : after ≡ deal.leaves ++ rest

pub taken : (P : Deal → Type 0) (ds : List Deal) (found after : List Form) → AllByRecursion P ds → dealt ds found ≡ Some after → Taken P found after
taken P [] found after each e = cc
taken P (d ∷ ds) found after each e = go (strip d.finds found) refl e (λ e. taken P ds found after each.1 e)
  where
    go : (o : Option (List Form)) → strip d.finds found ≡ o → or_else (and_then o (λ rest. Some (d.leaves ++ rest))) (dealt ds found) ≡ Some after
        → (dealt ds found ≡ Some after → Taken P found after) → Taken P found after
    go None h e more = more e
    go (Some rest) h e more = record { deal = d; has = each.0; rest = rest; front = h; is = (let q : d.leaves ++ rest ≡ after = cc in sym q) }

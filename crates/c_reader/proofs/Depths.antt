-- How far up the symbols to come can go back is what `least` says.
use Rattle.std.proofs.Common.{◌≡◌, ℕ, ◌+◌, ◌-◌, ◌≤◌, ◌<◌, ◌⊎◌, inl, inr, List, [], ◌∷◌, ◌++◌, Bool, true, false, refl, sym, ◌∙◌, ap, subst, arith}
use Rattle.std.specs.Prelude.{◌&&◌, ◌||◌, nat_eq, cond}
use Rattle.std.specs.List.{list_any, list_all}
use Rattle.std.proofs.Common.{eqb-true}
use Rattle.c_grammar.specs.declared.rule.Rule.{Rule}
use Rattle.c_grammar.specs.declared.action.Action.{Action}
use Rattle.c_grammar.specs.declared.symbol.Symbol.{Symbol}
use Rattle.c_grammar.specs.declared.symbol.Symbol.TheVariants.{Take, Unless, Act, Expand}
use Rattle.c_grammar.specs.Effects.{State, effect, closes}
use Rattle.c_grammar.specs.Pieces.{Piece}
use Rattle.c_grammar.specs.Reading.{Test, Any, Within, Over, Among, first, later, Aim, Part, Whole, Accepts, Goes, stop, end, take_token, pass, act, expand}
use Rattle.c_reader.specs.Choices.{choices, first_kinds}
use Rattle.c_reader.specs.Ranks.{blocked_kinds, used_rules}
use Rattle.c_reader.specs.Picks.{is_empty}
use Rattle.c_reader.specs.Follow.{vanishes_end}
use Rattle.c_reader.specs.Depth.{least, quiet}
use Rattle.c_reader.proofs.Choice.{closed_end, may_end, all_of, either, both_left, both_right, and_true}
use Rattle.c_reader.proofs.Tables.{all_kinds, kind_place, tables_good, tables_good_end, quiet_good}

pub least_below : (symbols : List Symbol) (d : ℕ) → least symbols d ≤ d
least_below [] d = omega arith
least_below (Take k mark ∷ symbols) d = omega arith
least_below (Unless k ∷ symbols) d = least_below symbols d
least_below (Act a ∷ symbols) d = let h : least symbols (d - closes a) ≤ d - closes a = least_below symbols (d - closes a) in omega arith
least_below (Expand r ∷ symbols) d = go (vanishes_end choices r) (least_below symbols d)
  where
    go : (b : Bool) → least symbols d ≤ d → cond b (least symbols d) d ≤ d
    go true h = h
    go false h = omega arith

quiet_act : (a : Action) (b : Bool) → nat_eq (closes a) 0 && b ≡ true → closes a ≡ 0
quiet_act a b h = eqb-true _ _ (both_left _ _ h)

-- An alternative in front takes a token without going back up, or leaves all of it to what is behind it.
least_front : (front symbols : List Symbol) (d : ℕ) → quiet choices front ≡ true
    → (least (front ++ symbols) d ≡ d) ⊎ ((may_end choices front ≡ true) × (least (front ++ symbols) d ≡ least symbols d))
least_front [] symbols d q = inr (refl, refl)
least_front (Take k mark ∷ front) symbols d q = inl refl
least_front (Unless k ∷ front) symbols d q = least_front front symbols d q
least_front (Act a ∷ front) symbols d q =
    let same : d - closes a ≡ d = let z : closes a ≡ 0 = quiet_act a _ q in omega arith in
    elim (least_front front symbols (d - closes a) (both_right _ _ q)) [
      | inl e ↦ inl (e ∙ same)
      | inr p ↦ inr (p.0, p.1 ∙ ap (λ x. least symbols x) same)
    ]
least_front (Expand r ∷ front) symbols d q = go (vanishes_end choices r) q (λ h. least_front front symbols d h)
  where
    go : (b : Bool) → cond b (quiet choices front) true ≡ true
        → (quiet choices front ≡ true → (least (front ++ symbols) d ≡ d) ⊎ ((may_end choices front ≡ true) × (least (front ++ symbols) d ≡ least symbols d)))
        → (cond b (least (front ++ symbols) d) d ≡ d) ⊎ ((b && may_end choices front ≡ true) × (cond b (least (front ++ symbols) d) d ≡ least symbols d))
    go true q ih = ih q
    go false q ih = inl refl

-- Without a token no way leads below `least`.
abbrev Lowest : Aim → List Symbol → State → List Piece → Type 0
Lowest (Part (Within n)) symbols state [] = least symbols state.depth ≤ n
Lowest (Part (Within n)) symbols state (p ∷ ps) = Unit {0}
Lowest (Part Any) symbols state ps = Unit {0}
Lowest (Part (Over n)) symbols state ps = Unit {0}
Lowest (Whole values) symbols state ps = Unit {0}

lowest_stop : (aim : Aim) (symbols : List Symbol) (state : State) → Accepts aim state → Lowest aim symbols state []
lowest_stop (Part Any) symbols state ok = tt
lowest_stop (Part (Within n)) symbols state ok = let h : least symbols state.depth ≤ state.depth = least_below symbols state.depth in omega arith
lowest_stop (Part (Over n)) symbols state ok = tt
lowest_stop (Whole values) symbols state ok = tt

lowest_take : (aim : Aim) (symbols : List Symbol) (state : State) (p : Piece) (ps : List Piece) → Lowest aim symbols state (p ∷ ps)
lowest_take (Part Any) symbols state p ps = tt
lowest_take (Part (Within n)) symbols state p ps = tt
lowest_take (Part (Over n)) symbols state p ps = tt
lowest_take (Whole values) symbols state p ps = tt

lowest_end : (aim : Aim) (values : _) (state : State) → aim ≡ Whole values → Lowest aim [] state []
lowest_end (Part Any) values state e = tt
lowest_end (Part (Within n)) values state e = cc
lowest_end (Part (Over n)) values state e = tt
lowest_end (Whole vs) values state e = tt

lowest_unless : (aim : Aim) (k : _) (symbols : List Symbol) (state : State) (ps : List Piece) → Lowest aim symbols state ps → Lowest aim (Unless k ∷ symbols) state ps
lowest_unless (Part Any) k symbols state ps h = tt
lowest_unless (Part (Within n)) k symbols state [] h = h
lowest_unless (Part (Within n)) k symbols state (p ∷ ps) h = tt
lowest_unless (Part (Over n)) k symbols state ps h = tt
lowest_unless (Whole values) k symbols state ps h = tt

lowest_act : (aim : Aim) (a : Action) (symbols : List Symbol) (state : State) (ps : List Piece) → Lowest aim symbols (effect a state) ps → Lowest aim (Act a ∷ symbols) state ps
lowest_act (Part Any) a symbols state ps h = tt
lowest_act (Part (Within n)) a symbols state [] h = h
lowest_act (Part (Within n)) a symbols state (p ∷ ps) h = tt
lowest_act (Part (Over n)) a symbols state ps h = tt
lowest_act (Whole values) a symbols state ps h = tt

vanish : (r : Rule) (front : List Symbol) → Among front (choices r) → may_end choices front ≡ true → vanishes_end choices r ≡ true
vanish r front m h = closed_end all_kinds kind_place choices first_kinds blocked_kinds used_rules tables_good tables_good_end m h

still : (r : Rule) (front : List Symbol) → Among front (choices r) → quiet choices front ≡ true
still r front m = all_of (quiet choices) m (quiet_good r)

lowest_expand : (aim : Aim) (r : Rule) (front symbols : List Symbol) (state : State) (ps : List Piece) → Among front (choices r)
    → Lowest aim (front ++ symbols) state ps → Lowest aim (Expand r ∷ symbols) state ps
lowest_expand (Part Any) r front symbols state ps m h = tt
lowest_expand (Part (Within n)) r front symbols state [] m h = go (vanishes_end choices r) (vanish r front m) (least_front front symbols state.depth (still r front m))
  where
    go : (b : Bool) → (may_end choices front ≡ true → b ≡ true)
        → (least (front ++ symbols) state.depth ≡ state.depth) ⊎ ((may_end choices front ≡ true) × (least (front ++ symbols) state.depth ≡ least symbols state.depth))
        → cond b (least symbols state.depth) state.depth ≤ n
    go true v c = let below : least symbols state.depth ≤ state.depth = least_below symbols state.depth in elim c [ inl e ↦ omega arith | inr p ↦ let e = p.1 in omega (arith, e) ]
    go false v c = elim c [ inl e ↦ omega arith | inr p ↦ let x : false ≡ true = v p.0 in cc ]
lowest_expand (Part (Within n)) r front symbols state (p ∷ ps) m h = tt
lowest_expand (Part (Over n)) r front symbols state ps m h = tt
lowest_expand (Whole values) r front symbols state ps m h = tt

pub lowest : (aim : Aim) {symbols : List Symbol} {state : State} {ps : List Piece} → Goes choices aim symbols state ps → Lowest aim symbols state ps
lowest aim (stop {symbols = symbols} {state = state} ok) = lowest_stop aim symbols state ok
lowest (Whole values) (end e) = tt
lowest aim (take_token {kind = k} {mark = mark} {symbols = symbols} {state = state} {p = p} {ps = ps} e g) = lowest_take aim (Take k mark ∷ symbols) state p ps
lowest aim (pass {kind = k} {symbols = symbols} {state = state} {ps = ps} n g) = lowest_unless aim k symbols state ps (lowest aim g)
lowest aim (act {a = a} {symbols = symbols} {state = state} {ps = ps} g) = lowest_act aim a symbols state ps (lowest aim g)
lowest aim (expand {r = r} {alternative = front} {symbols = symbols} {state = state} {ps = ps} m g) = lowest_expand aim r front symbols state ps m (lowest aim g)

pub not_within : (n : ℕ) (symbols : List Symbol) (state : State) → n < least symbols state.depth → Goes choices (Part (Within n)) symbols state [] → ⊥
not_within n symbols state lt g = let h : least symbols state.depth ≤ n = lowest (Part (Within n)) g in absurd (omega arith)

-- And one way leads there.
any_empty : (alternatives : List (List Symbol)) → list_any is_empty alternatives ≡ true → (front : List Symbol) × Among front alternatives × (is_empty front ≡ true)
any_empty [] h = cc
any_empty (x ∷ xs) h = elim (either (is_empty x) (list_any is_empty xs) h) [
  | inl e ↦ (x, first, e)
  | inr t ↦ let (front, m, e) : (front : List Symbol) × Among front xs × (is_empty front ≡ true) = any_empty xs t in (front, later m, e)
]

skip : (n : ℕ) (front symbols : List Symbol) (state : State) → is_empty front ≡ true → quiet choices front ≡ true
    → ((state' : State) → state'.depth ≡ state.depth → Goes choices (Part (Within n)) symbols state' []) → Goes choices (Part (Within n)) (front ++ symbols) state []
skip n [] symbols state e q go = go state refl
skip n (Take k mark ∷ front) symbols state e q go = cc
skip n (Unless k ∷ front) symbols state e q go = pass tt (skip n front symbols state e q go)
skip n (Act a ∷ front) symbols state e q go =
    let same : state.depth - closes a ≡ state.depth = let z : closes a ≡ 0 = quiet_act a _ q in omega arith in
    act (skip n front symbols (effect a state) e (both_right _ _ q) (λ state' d. go state' (d ∙ same)))
skip n (Expand r ∷ front) symbols state e q go = cc

pub reach : (n : ℕ) (symbols : List Symbol) (state : State) → least symbols state.depth ≤ n → Goes choices (Part (Within n)) symbols state []
reach n [] state le = stop le
reach n (Take k mark ∷ symbols) state le = stop le
reach n (Unless k ∷ symbols) state le = pass tt (reach n symbols state le)
reach n (Act a ∷ symbols) state le = act (reach n symbols (effect a state) le)
reach n (Expand r ∷ symbols) state le = go (vanishes_end choices r) refl le (λ state' le'. reach n symbols state' le')
  where
    go : (b : Bool) → vanishes_end choices r ≡ b → cond b (least symbols state.depth) state.depth ≤ n
        → ((state' : State) → least symbols state'.depth ≤ n → Goes choices (Part (Within n)) symbols state' []) → Goes choices (Part (Within n)) (Expand r ∷ symbols) state []
    go true h le more =
        let (front, m, e) : (front : List Symbol) × Among front (choices r) × (is_empty front ≡ true) = any_empty (choices r) h in
        expand m (skip n front symbols state e (still r front m) (λ state' d. more state' (subst (λ x. least symbols x ≤ n) (sym d) le)))
    go false h le more = stop le

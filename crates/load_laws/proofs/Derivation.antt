-- A derivation that the next token leads, step by step.
use Rattle.std.proofs.Common.{◌≡◌, ℕ, zero, suc, Bool, true, false, not, ◌&&◌, List, [], ◌∷◌, ◌++◌, Option, Some, None, refl, sym, ap, subst, append_assoc}
use Rattle.std.specs.Prelude.{nat_le, find, cond, unwrap_or}
use Rattle.std.proofs.lemmas.Bool.{leb-true}
use Rattle.c_tree.proofs.BoolLemmas.{and_first, and_last}
use Rattle.c_grammar.specs.declared.kind.Kind.{Kind}
use Rattle.c_grammar.specs.declared.kind.Kind.TheVariants as kind
use Rattle.c_grammar.specs.declared.symbol.Mark.{Mark}
use Rattle.c_grammar.specs.declared.symbol.Symbol.{Symbol}
use Rattle.c_grammar.specs.declared.symbol.Symbol.TheVariants.{Take, Unless, Act, Expand}
use Rattle.c_grammar.specs.declared.value.Value.{Value}
use Rattle.c_grammar.specs.Pieces.{Piece}
use Rattle.c_grammar.specs.Effects.{State, effect, with_token}
use Rattle.c_grammar.specs.Reading.{Among, first, later, depth_limit, operator_limit}
use Rattle.c_reader.specs.Choices.{choices, first_kinds}
use Rattle.c_reader.specs.Picks.{is_kind, picks, predict}
use Rattle.c_reader.proofs.Keeps.{IsKept, Keeps, takes, acts, expands}
use Rattle.c_reader.proofs.Turns.{same_kind}

-- From these symbols and this state, the tokens lead to those, whatever comes behind them.
abbrev pub LeadsTo : List Symbol → State → List Piece → List Symbol → State → Type 0
LeadsTo symbols state ps symbols' state' = (values : List Value) (qs : List Piece) → Keeps choices values symbols' state' qs → Keeps choices values symbols state (ps ++ qs)

pub leads_on : {a b c : List Symbol} {u v w : State} (ps qs : List Piece) → LeadsTo a u ps b v → LeadsTo b v qs c w → LeadsTo a u (ps ++ qs) c w
leads_on {a} {b} {c} {u} {v} {w} ps qs f g values rest k = subst (λ xs. Keeps choices values a u xs) (sym (append_assoc ps qs rest)) (f values (qs ++ rest) (g values rest k))

-- whether the token is the one that is to come, and keeps the limits
abbrev pub is_taken : Kind → Mark → Piece → State → Bool
is_taken k mark p state =
    is_kind k (Some p.kind) && (not (is_kind kind.LeftOut (Some p.kind)) && (nat_le state.depth (depth_limit p.kind) && nat_le (with_token mark p.value state).operators operator_limit))

-- they lead to these symbols and this state
abbrev pub to : List Symbol → State → Option (List Symbol × State)
to symbols state = Some (symbols, state)

-- Where the tokens lead to in so many steps, which the next token decides; nowhere where it is not to come.
unfoldable pub reached : ℕ → List Symbol → State → List Piece → Option (List Symbol × State)
reached zero symbols state ps = None
reached (suc n) (Act a ∷ symbols) state ps = reached n symbols (effect a state) ps
reached (suc n) symbols state [] = to symbols state
reached (suc n) [] state (p ∷ ps) = None
reached (suc n) (Take k mark ∷ symbols) state (p ∷ ps) =
    elim (is_taken k mark p state) as (λ b. Option (List Symbol × State)) [ true ↦ reached n symbols (with_token mark p.value state) ps | false ↦ None ]
reached (suc n) (Unless k ∷ symbols) state (p ∷ ps) = None
reached (suc n) (Expand r ∷ symbols) state (p ∷ ps) =
    elim (predict choices first_kinds r (Some p.kind)) as (λ o. Option (List Symbol × State)) [ None ↦ None | Some front ↦ reached n (front ++ symbols) state (p ∷ ps) ]

other_kind : (p : Piece) → not (is_kind kind.LeftOut (Some p.kind)) ≡ true → p.kind ≡ kind.LeftOut → ⊥
other_kind p h e = no (subst (λ k. not (is_kind kind.LeftOut (Some k)) ≡ true) e h)
  where
    no : not (is_kind kind.LeftOut (Some kind.LeftOut)) ≡ true → ⊥
    no h = cc

-- what is_taken tells
kept : (k : Kind) (mark : Mark) (p : Piece) (state : State) → is_taken k mark p state ≡ true → IsKept mark p state
kept k mark p state h =
    let rest = and_last _ _ h in
    let limits = and_last _ _ rest in
    record {
      named = other_kind p (and_first _ _ rest);
      shallow = leb-true _ _ (and_first _ _ limits);
      few = leb-true _ _ (and_last _ _ limits);
    }

some_is : {X : Type 0} (y x : X) → Some y ≡ Some x → y ≡ x
some_is y x h = ap (λ o. unwrap_or o y) h

among : {X : Type 0} (test : X → Bool) (xs : List X) (x : X) → find test xs ≡ Some x → Among x xs
among test [] x h = cc
among test (y ∷ ys) x h = go (test y) h (λ g. among test ys x g)
  where
    go : (b : Bool) → cond b (Some y) (find test ys) ≡ Some x → (find test ys ≡ Some x → Among x ys) → Among x (y ∷ ys)
    go true h ih = subst (λ z. Among z (y ∷ ys)) (some_is y x h) first
    go false h ih = later (ih h)

stopped : (symbols : List Symbol) (state : State) (symbols' : List Symbol) (state' : State) → to symbols state ≡ to symbols' state' → LeadsTo symbols state [] symbols' state'
stopped symbols state symbols' state' h values qs g =
    let here : List Symbol × State = (symbols, state) in
    let there : List Symbol × State = (symbols', state') in
    let e : here ≡ there = some_is here there h in
    subst (λ z. Keeps choices values z.0 z.1 qs) (sym e) g

pub leads : (n : ℕ) (symbols : List Symbol) (state : State) (ps : List Piece) (symbols' : List Symbol) (state' : State) → reached n symbols state ps ≡ to symbols' state' → LeadsTo symbols state ps symbols' state'
unfolding reached
leads zero symbols state ps symbols' state' h values qs g = cc
leads (suc n) (Act a ∷ symbols) state ps symbols' state' h values qs g = acts (leads n symbols (effect a state) ps symbols' state' h values qs g)
leads (suc n) [] state [] symbols' state' h values qs g = stopped [] state symbols' state' h values qs g
leads (suc n) (Take k mark ∷ symbols) state [] symbols' state' h values qs g = stopped (Take k mark ∷ symbols) state symbols' state' h values qs g
leads (suc n) (Unless k ∷ symbols) state [] symbols' state' h values qs g = stopped (Unless k ∷ symbols) state symbols' state' h values qs g
leads (suc n) (Expand r ∷ symbols) state [] symbols' state' h values qs g = stopped (Expand r ∷ symbols) state symbols' state' h values qs g
leads (suc n) [] state (p ∷ ps) symbols' state' h values qs g = cc
leads (suc n) (Take k mark ∷ symbols) state (p ∷ ps) symbols' state' h values qs g = go (is_taken k mark p state) refl h (λ i. leads n symbols (with_token mark p.value state) ps symbols' state' i values qs g)
  where
    go : (b : Bool) → is_taken k mark p state ≡ b
        → elim b as (λ b. Option (List Symbol × State)) [ true ↦ reached n symbols (with_token mark p.value state) ps | false ↦ None ] ≡ to symbols' state'
        → (reached n symbols (with_token mark p.value state) ps ≡ to symbols' state' → Keeps choices values symbols (with_token mark p.value state) (ps ++ qs))
        → Keeps choices values (Take k mark ∷ symbols) state (p ∷ (ps ++ qs))
    go true e i ih = takes (same_kind p.kind k (and_first _ _ e)) (kept k mark p state e) (ih i)
    go false e i ih = cc
leads (suc n) (Unless k ∷ symbols) state (p ∷ ps) symbols' state' h values qs g = cc
leads (suc n) (Expand r ∷ symbols) state (p ∷ ps) symbols' state' h values qs g = go (predict choices first_kinds r (Some p.kind)) refl h (λ front i. leads n (front ++ symbols) state (p ∷ ps) symbols' state' i values qs g)
  where
    go : (o : Option (List Symbol)) → predict choices first_kinds r (Some p.kind) ≡ o
        → elim o as (λ o. Option (List Symbol × State)) [ None ↦ None | Some front ↦ reached n (front ++ symbols) state (p ∷ ps) ] ≡ to symbols' state'
        → ((front : List Symbol) → reached n (front ++ symbols) state (p ∷ ps) ≡ to symbols' state' → Keeps choices values (front ++ symbols) state (p ∷ (ps ++ qs)))
        → Keeps choices values (Expand r ∷ symbols) state (p ∷ (ps ++ qs))
    go None e i ih = cc
    go (Some front) e i ih = expands (among (picks first_kinds r (Some p.kind)) (choices r) front e) (ih front i)

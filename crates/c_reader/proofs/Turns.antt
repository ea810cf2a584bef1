-- What each kind of symbol in front does before the next token.
use Rattle.std.proofs.Common.{◌≡◌, ℕ, ◌+◌, ◌<◌, List, [], ◌∷◌, ◌++◌, Bool, true, false, refl, sym, ◌∙◌, ap, subst, Option, Some, None, arith, reverse}
use Rattle.std.proofs.lemmas.List.{reverse-append}
use Rattle.std.specs.Prelude.{◌&&◌, find, cond, nat_lt}
use borrow.Author.Tests.{ltb-true}
use Rattle.c_grammar.specs.declared.kind.Kind.{Kind}
use Rattle.c_grammar.specs.declared.kind.Kind.TheVariants as kind
use Rattle.c_grammar.specs.declared.rule.Rule.{Rule}
use Rattle.c_grammar.specs.declared.action.Action.{Action}
use Rattle.c_grammar.specs.declared.symbol.Symbol.{Symbol}
use Rattle.c_grammar.specs.declared.symbol.Symbol.TheVariants.{Take, Unless, Act, Expand}
use Rattle.c_grammar.specs.declared.symbol.Mark.{Mark}
use Rattle.c_grammar.specs.declared.value.Value.{Value}
use Rattle.std.proofs.Common.{◌-◌}
use Rattle.c_grammar.specs.Effects.{effect, closes, is_outer, State}
use Rattle.c_grammar.specs.Pieces.{Piece}
use Rattle.c_grammar.specs.Reading.{Test, Among, first, later, Aim, Part, Whole, Accepts, NextIsNot, Goes, stop, end, take_token, pass, act, expand}
use Rattle.c_reader.specs.Choices.{choices, first_kinds}
use Rattle.c_reader.specs.Ranks.{blocked_kinds, used_rules, rank}
use Rattle.c_reader.specs.Picks.{is_kind, picks, predict}
use Rattle.c_reader.specs.Follow.{vanishes_end, work_then, work, Ahead, Leads, Refuses, FitsReader, Reached, Changed}
use Rattle.c_reader.proofs.Choice.{kind_from_code, kind_is, chosen, chosen_end, fits_after, closed_end, may_end, all_of, implied}
use Rattle.c_reader.proofs.Tables.{all_kinds, kind_place, tables_good, tables_good_end, ranks_good}

pub differ : (b : Bool) → b ≡ true → b ≡ false → ⊥
differ true h i = cc
differ false h i = cc

pub same_kind : (k q : Kind) → is_kind q (Some k) ≡ true → k ≡ q
same_kind k q h = kind_from_code all_kinds kind_place k q h

pub leads_refl : (ahead : Option Kind) (symbols : List Symbol) (values : State) → Leads ahead symbols values symbols values
leads_refl ahead symbols values = record { there = λ aim ts a g. g; back = λ aim ts a g. g }

pub leads_trans : (ahead : Option Kind) (s : List Symbol) (v : State) (s' : List Symbol) (v' : State) (s'' : List Symbol) (v'' : State)
    → Leads ahead s v s' v' → Leads ahead s' v' s'' v'' → Leads ahead s v s'' v''
leads_trans ahead s v s' v' s'' v'' a b = record { there = λ aim ts n g. b.there aim ts n (a.there aim ts n g); back = λ aim ts n g. a.back aim ts n (b.back aim ts n g) }

pub refuses_before : (ahead : Option Kind) (s : List Symbol) (v : State) (s' : List Symbol) (v' : State) → Leads ahead s v s' v' → Refuses ahead s' v' → Refuses ahead s v
refuses_before ahead s v s' v' a r aim ts n g = r aim ts n (a.there aim ts n g)

-- Where the text may go on, the next token is not known to be missing.
never : (aim : Aim) (state : State) (ahead : Option Kind) → Accepts aim state → Ahead aim [] ahead → ⊥
never (Part test) state ahead ok a = a
never (Whole values) state ahead ok a = ok

-- a token to take
pub take_reached : (ahead : Option Kind) (k : Kind) (d : Mark) (symbols : List Symbol) (values : State) → FitsReader (Take k d ∷ symbols) → is_kind k ahead ≡ true
    → Reached d ahead (Take k d ∷ symbols) values symbols values
take_reached None k d symbols values fits h = cc
take_reached (Some q) k d symbols values fits h =
    let same : Take k d ∷ symbols ≡ Take q d ∷ symbols = ap (λ x. Take x d ∷ symbols) (sym (same_kind q k h)) in
    (record { there = λ aim ts a g. subst (λ s. Goes choices aim s values ts) same g; back = λ aim ts a g. subst (λ s. Goes choices aim s values ts) (sym same) g }, (fits, λ e. cc))

pub take_refused : (ahead : Option Kind) (k : Kind) (d : Mark) (symbols : List Symbol) (values : State) → is_kind k ahead ≡ false → Refuses ahead (Take k d ∷ symbols) values
take_refused ahead k d symbols values h aim ts a (stop {aim = aim'} {state = state} ok) = never aim' state _ ok a
take_refused ahead k d symbols values h aim ts a (take_token {p = t} e g) = differ (is_kind k ahead) (rw a (kind_is t.kind k e)) h

-- a token not to come
pub unless_refused : (ahead : Option Kind) (k : Kind) (symbols : List Symbol) (values : State) → is_kind k ahead ≡ true → Refuses ahead (Unless k ∷ symbols) values
unless_refused ahead k symbols values h aim ts a (stop {aim = aim'} {state = state} ok) = never aim' state _ ok a
unless_refused ahead k symbols values h aim ts a (pass {aim = aim'} {ps = ts'} n g) = go aim' ts' n a
  where
    go : (aim : Aim) (ts : List Piece) → NextIsNot k ts → Ahead aim ts ahead → ⊥
    go (Part test) [] n a = a
    go (Whole w) [] n a = differ (is_kind k ahead) h (rw a refl)
    go aim (t ∷ ts) n a = n (same_kind t.kind k (subst (λ x. is_kind k x ≡ true) a h))

next_is_not : (ahead : Option Kind) (k : Kind) → is_kind k ahead ≡ false → (aim : Aim) (ts : List Piece) → Ahead aim ts ahead → NextIsNot k ts
next_is_not ahead k h aim [] a = tt
next_is_not ahead k h aim (t ∷ ts) a = λ e. differ (is_kind k ahead) (rw a (kind_is t.kind k e)) h

passed : (ahead : Option Kind) (k : Kind) (symbols : List Symbol) (values : State) (aim : Aim) (ts : List Piece) → Ahead aim ts ahead
    → Goes choices aim (Unless k ∷ symbols) values ts → Goes choices aim symbols values ts
passed ahead k symbols values aim ts a (stop {aim = aim'} {state = state} ok) = absurd (never aim' state _ ok a)
passed ahead k symbols values aim ts a (pass n g) = g

pub unless_changed : (ahead : Option Kind) (k : Kind) (symbols : List Symbol) (values : State) → FitsReader (Unless k ∷ symbols) → is_kind k ahead ≡ false
    → Changed ahead (Unless k ∷ symbols) values symbols values
unless_changed ahead k symbols values fits h = record {
  leads = record { there = λ aim ts a g. passed ahead k symbols values aim ts a g; back = λ aim ts a g. pass (next_is_not ahead k h aim ts a) g };
  fits = fits;
  less = omega arith;
}

-- an action
acted : (ahead : Option Kind) (b : Action) (symbols : List Symbol) (values : State) (aim : Aim) (ts : List Piece) → Ahead aim ts ahead
    → Goes choices aim (Act b ∷ symbols) values ts → Goes choices aim symbols (effect b values) ts
acted ahead b symbols values aim ts a (stop {aim = aim'} {state = state} ok) = absurd (never aim' state _ ok a)
acted ahead b symbols values aim ts a (act g) = g

pub act_changed : (ahead : Option Kind) (b : Action) (symbols : List Symbol) (values : State) → FitsReader (Act b ∷ symbols)
    → Changed ahead (Act b ∷ symbols) values symbols (effect b values)
act_changed ahead b symbols values fits = record {
  leads = record { there = λ aim ts a g. acted ahead b symbols values aim ts a g; back = λ aim ts a g. act g };
  fits = fits;
  less = omega arith;
}

-- nothing to come
pub none_reached : (d : Mark) (values : State) → Reached d None [] values [] values
none_reached d values = (leads_refl None [] values, (tt, λ e. refl))

pub none_refused : (k : Kind) (values : State) → Refuses (Some k) [] values
none_refused k values aim ts a (stop {aim = aim'} {state = state} ok) = never aim' state _ ok a
none_refused k values aim ts a (end e) = cc

-- a rule
picked : (ahead : Option Kind) (r : Rule) (symbols : List Symbol) (values : State) → FitsReader (Expand r ∷ symbols) → (aim : Aim) (ts : List Piece) → Ahead aim ts ahead
    → Goes choices aim (Expand r ∷ symbols) values ts
    → (front : List Symbol) × Among front (choices r) × (predict choices first_kinds r ahead ≡ Some front) × Goes choices aim (front ++ symbols) values ts
picked ahead r symbols values fits aim ts a (stop {aim = aim'} {state = state} ok) = absurd (never aim' state _ ok a)
picked ahead r symbols values fits aim ts a (expand {aim = aim'} {alternative = front} {ps = ts'} m g) = (front, m, go aim' ts' a g, g)
  where
    go : (aim : Aim) (ts : List Piece) → Ahead aim ts ahead → Goes choices aim (front ++ symbols) values ts → predict choices first_kinds r ahead ≡ Some front
    go (Part test) [] a g = absurd a
    go (Whole w) [] a g = rw a (chosen_end all_kinds kind_place choices first_kinds blocked_kinds used_rules tables_good tables_good_end symbols fits m g)
    go aim (t ∷ ts) a g = rw a (chosen all_kinds kind_place choices first_kinds blocked_kinds used_rules tables_good tables_good_end symbols fits m g)

pub expand_refused : (ahead : Option Kind) (r : Rule) (symbols : List Symbol) (values : State) → FitsReader (Expand r ∷ symbols) → predict choices first_kinds r ahead ≡ None
    → Refuses ahead (Expand r ∷ symbols) values
expand_refused ahead r symbols values fits none aim ts a g = let p = picked ahead r symbols values fits aim ts a g in let e : None ≡ Some p.0 = sym none ∙ p.2 in cc

some_is : {X : Type 0} {x y : X} → Some x ≡ Some y → x ≡ y
some_is e = cc

find_among : {X : Type 0} (test : X → Bool) (xs : List X) (x : X) → find test xs ≡ Some x → Among x xs
find_among test [] x h = cc
find_among {X} test (y ∷ xs) x h = go (test y) h (find_among test xs x)
  where
    go : (b : Bool) → cond b (Some y) (find test xs) ≡ Some x → (find test xs ≡ Some x → Among x xs) → Among x (y ∷ xs)
    go true e ih = subst (λ z. Among z (y ∷ xs)) (some_is e) first
    go false e ih = later (ih e)

-- the work of an alternative and what follows it
work_split : (front : List Symbol) (n : ℕ) → work_then choices rank front n ≡ work_then choices rank front 0 + cond (may_end choices front) n 0
work_split [] n = omega arith
work_split (Take k d ∷ front) n = refl
work_split (Unless k ∷ front) n = let ih : _ ≡ work_then choices rank front 0 + cond (may_end choices front) n 0 = work_split front n in omega arith
work_split (Act b ∷ front) n = let ih : _ ≡ work_then choices rank front 0 + cond (may_end choices front) n 0 = work_split front n in omega arith
work_split (Expand r ∷ front) n = go (vanishes_end choices r) (work_split front n)
  where
    go : (b : Bool) → work_then choices rank front n ≡ work_then choices rank front 0 + cond (may_end choices front) n 0
        → rank r + cond b (work_then choices rank front n) 0 ≡ rank r + cond b (work_then choices rank front 0) 0 + cond (b && may_end choices front) n 0
    go true ih = omega arith
    go false ih = omega arith

work_append : (front symbols : List Symbol) → work_then choices rank (front ++ symbols) 0 ≡ work_then choices rank front (work symbols)
work_append [] symbols = refl
work_append (Take k d ∷ front) symbols = refl
work_append (Unless k ∷ front) symbols = ap (λ n. n + 1) (work_append front symbols)
work_append (Act b ∷ front) symbols = ap (λ n. n + 1) (work_append front symbols)
work_append (Expand r ∷ front) symbols = ap (λ n. rank r + cond (vanishes_end choices r) n 0) (work_append front symbols)

pub expand_changed : (ahead : Option Kind) (r : Rule) (symbols : List Symbol) (values : State) (front : List Symbol) → FitsReader (Expand r ∷ symbols)
    → predict choices first_kinds r ahead ≡ Some front → Changed ahead (Expand r ∷ symbols) values (front ++ symbols) values
expand_changed ahead r symbols values front fits found = record {
  leads = record {
    there = λ aim ts a g. let p = picked ahead r symbols values fits aim ts a g in subst (λ f. Goes choices aim (f ++ symbols) values ts) (some_is (sym p.2 ∙ found)) p.3;
    back = λ aim ts a g. expand member g;
  };
  fits = fits_after all_kinds kind_place choices first_kinds blocked_kinds used_rules tables_good tables_good_end kind.Name {r = r} {front = front} symbols fits member;
  less = less;
}
  where
    member : Among front (choices r)
    member = find_among (picks first_kinds r ahead) (choices r) front found

    vanish : may_end choices front ≡ true → vanishes_end choices r ≡ true
    vanish h = closed_end all_kinds kind_place choices first_kinds blocked_kinds used_rules tables_good tables_good_end {r = r} {symbols = front} member h

    below : work_then choices rank front 0 < rank r
    below = ltb-true (work_then choices rank front 0) (rank r) (all_of (λ s. nat_lt (work_then choices rank s 0) (rank r)) member (implied (used_rules r) _ (ranks_good r) fits.0))

    cases : (b c : Bool) → (b ≡ true → c ≡ true) → work_then choices rank front 0 + cond b (work symbols) 0 < rank r + cond c (work symbols) 0
    cases true c h = rw (h refl) (omega (arith, below))
    cases false true h = omega (arith, below)
    cases false false h = omega (arith, below)

    less : work (front ++ symbols) < work (Expand r ∷ symbols)
    less = rw (work_append front symbols, work_split front (work symbols)) (cases (may_end choices front) (vanishes_end choices r) vanish)

-- The same, for symbols to come that are known by an equation.
pub in_front : (old rest : List Symbol) (x s : Symbol) → old ≡ rest ++ x ∷ [] → x ≡ s → reverse old ≡ s ∷ reverse rest
in_front old rest x s e d = ap reverse e ∙ reverse-append rest (x ∷ []) ∙ ap (λ y. y ∷ reverse rest) d

module _ (ahead : Option Kind) (before : List Symbol) (symbols : List Symbol) (values : State) (fits : FitsReader before) where
  pub at_take_refused : (k : Kind) (d : Mark) → before ≡ Take k d ∷ symbols → is_kind k ahead ≡ false → Refuses ahead before values
  at_take_refused k d e h = subst (λ s. Refuses ahead s values) (sym e) (take_refused ahead k d symbols values h)

  pub at_take_reached : (k : Kind) (d : Mark) → before ≡ Take k d ∷ symbols → is_kind k ahead ≡ true → Reached d ahead before values symbols values
  at_take_reached k d e h = subst (λ s. Reached d ahead s values symbols values) (sym e) (take_reached ahead k d symbols values (subst FitsReader e fits) h)

  pub at_unless_refused : (k : Kind) → before ≡ Unless k ∷ symbols → is_kind k ahead ≡ true → Refuses ahead before values
  at_unless_refused k e h = subst (λ s. Refuses ahead s values) (sym e) (unless_refused ahead k symbols values h)

  pub at_unless_changed : (k : Kind) → before ≡ Unless k ∷ symbols → is_kind k ahead ≡ false → Changed ahead before values symbols values
  at_unless_changed k e h = subst (λ s. Changed ahead s values symbols values) (sym e) (unless_changed ahead k symbols values (subst FitsReader e fits) h)

  pub at_act_changed : (b : Action) (values' : State) → before ≡ Act b ∷ symbols → values' ≡ effect b values → Changed ahead before values symbols values'
  at_act_changed b values' e d = subst (λ v. Changed ahead before values symbols v) (sym d) (subst (λ s. Changed ahead s values symbols (effect b values)) (sym e) (act_changed ahead b symbols values (subst FitsReader e fits)))

  pub at_expand_refused : (r : Rule) → before ≡ Expand r ∷ symbols → predict choices first_kinds r ahead ≡ None → Refuses ahead before values
  at_expand_refused r e h = subst (λ s. Refuses ahead s values) (sym e) (expand_refused ahead r symbols values (subst FitsReader e fits) h)

  pub at_expand_changed : (r : Rule) (front after : List Symbol) → before ≡ Expand r ∷ symbols → predict choices first_kinds r ahead ≡ Some front → after ≡ front ++ symbols
      → Changed ahead before values after values
  at_expand_changed r front after e h d =
      subst (λ s. Changed ahead before values s values) (sym d) (subst (λ s. Changed ahead s values (front ++ symbols) values) (sym e) (expand_changed ahead r symbols values front (subst FitsReader e fits) h))

pub state_is : (vs vs' : List Value) (d d' k m n n' : ℕ) → vs ≡ vs' → d ≡ d' - k → k ≡ m → n ≡ n'
    → ◌≡◌ {A = State} (record { values = vs; depth = d; operators = n }) (record { values = vs'; depth = d' - m; operators = n' })
state_is vs vs' d d' k m n n' e f g h = cc

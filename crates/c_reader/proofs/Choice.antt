-- Where the tables are good, the alternative that the next token picks is the only one by which the tokens can go on.
use Rattle.std.proofs.Common.{◌≡◌, List, [], ◌∷◌, ◌++◌, Bool, true, false, ◌⊎◌, inl, inr, refl, sym, ◌∙◌, ap, Some, None}
use Rattle.std.specs.Prelude.{◌&&◌, ◌||◌, not, find, cond}
use Rattle.std.specs.List.{list_any, list_all, slice_get}
use Rattle.std.proofs.Common.{eq-eqb, eqb-true}
use Rattle.c_grammar.specs.declared.kind.Kind.{Kind}
use Rattle.c_grammar.specs.declared.rule.Rule.{Rule}
use Rattle.c_grammar.specs.declared.action.Action.{Action}
use Rattle.c_grammar.specs.declared.symbol.Symbol.{Symbol}
use Rattle.c_grammar.specs.declared.symbol.Symbol.TheVariants.{Take, Unless, Act, Expand}
use Rattle.c_grammar.specs.declared.symbol.Mark.{Mark}
use Rattle.c_grammar.specs.Effects.{State}
use Rattle.c_grammar.specs.declared.value.Value.{Value}
use Rattle.c_grammar.specs.Pieces.{Piece}
use Rattle.c_grammar.specs.Reading.{Test, Passes, Among, first, later, Aim, Part, Whole, Accepts, NextIsNot, Goes, stop, end, take_token, pass, act, expand}
use Rattle.c_reader.specs.Follow.{blocks, passes, vanishes, vanishes_end, MayTake, Fits}
use Rattle.c_reader.specs.Choices.{code}
use Rattle.c_reader.specs.Picks.{is_kind, begins, leads, is_empty, picks, predict}

-- Tests.
pub both_left : (a b : Bool) → a && b ≡ true → a ≡ true
both_left true b h = refl
both_left false b h = h

pub both_right : (a b : Bool) → a && b ≡ true → b ≡ true
both_right true b h = h
both_right false b h = cc

pub either : (a b : Bool) → a || b ≡ true → (a ≡ true) ⊎ (b ≡ true)
either true b h = inl refl
either false b h = inr h

pub or_left : (a b : Bool) → a ≡ true → a || b ≡ true
or_left true b h = refl
or_left false b h = cc

pub or_right : (a b : Bool) → b ≡ true → a || b ≡ true
or_right true b h = refl
or_right false b h = h

pub and_true : (a b : Bool) → a ≡ true → b ≡ true → a && b ≡ true
and_true true b h i = i
and_true false b h i = h

abbrev pub implies : Bool → Bool → Bool
implies true b = b
implies false b = true

pub implied : (a b : Bool) → implies a b ≡ true → a ≡ true → b ≡ true
implied true b h i = h
implied false b h i = cc

pub not_both : (a : Bool) → a ≡ true → not a ≡ true → ⊥
not_both true h i = cc
not_both false h i = cc

pub is_false : (a : Bool) → (a ≡ true → ⊥) → not a ≡ true
is_false true h = absurd (h refl)
is_false false h = refl

-- Lists.
pub any_of : {X : Type 0} (test : X → Bool) {x : X} {xs : List X} → Among x xs → test x ≡ true → list_any test xs ≡ true
any_of test {x} first h = or_left (test x) _ h
any_of test (later {y = y} m) h = or_right (test y) _ (any_of test m h)

pub all_of : {X : Type 0} (test : X → Bool) {x : X} {xs : List X} → Among x xs → list_all test xs ≡ true → test x ≡ true
all_of test {x} first h = both_left (test x) _ h
all_of test (later {y = y} m) h = all_of test m (both_right (test y) _ h)

-- at most one element passes the test
abbrev pub single : {X : Type 0} → (X → Bool) → List X → Bool
single test [] = true
single test (x ∷ xs) = cond (test x) (not (list_any test xs)) (single test xs)

find_only : {X : Type 0} (test : X → Bool) {x : X} {xs : List X} → Among x xs → test x ≡ true → single test xs ≡ true → find test xs ≡ Some x
find_only test {x} (first {xs = xs}) h s = rw h
find_only {X} test {x} (later {y = y} {xs = xs} m) h s = go (test y) s (find_only test m h)
  where
    go : (b : Bool) → cond b (not (list_any test xs)) (single test xs) ≡ true → (single test xs ≡ true → find test xs ≡ Some x) → cond b (Some y) (find test xs) ≡ Some x
    go true i ih = absurd (not_both (list_any test xs) (any_of test m h) i)
    go false i ih = ih i

-- What follows is over any rules and tables: the alternatives of each rule, the kinds that its texts begin with,
-- kinds that cannot follow them, and the rules that the reader expands.

abbrev pub may_pass : (Rule → List (List Symbol)) → List Symbol → Kind → Bool
may_pass rules [] k = true
may_pass rules (Take q d ∷ symbols) k = false
may_pass rules (Unless q ∷ symbols) k = not (is_kind q (Some k)) && may_pass rules symbols k
may_pass rules (Act a ∷ symbols) k = may_pass rules symbols k
may_pass rules (Expand r ∷ symbols) k = vanishes rules r k && may_pass rules symbols k

-- the symbols may take a token of this kind first
abbrev pub may_take : (Rule → List (List Symbol)) → (Rule → List Kind) → List Symbol → Kind → Bool
may_take rules firsts [] k = false
may_take rules firsts (Take q d ∷ symbols) k = is_kind q (Some k)
may_take rules firsts (Unless q ∷ symbols) k = not (is_kind q (Some k)) && may_take rules firsts symbols k
may_take rules firsts (Act a ∷ symbols) k = may_take rules firsts symbols k
may_take rules firsts (Expand r ∷ symbols) k = begins firsts r (Some k) || (vanishes rules r k && may_take rules firsts symbols k)

-- an alternative takes nothing, or begins with a token or with a rule that takes one
abbrev pub is_shaped : (Rule → List (List Symbol)) → List Symbol → Bool
is_shaped rules [] = true
is_shaped rules (Take q d ∷ symbols) = true
is_shaped rules (Unless q ∷ symbols) = is_empty symbols
is_shaped rules (Act a ∷ symbols) = is_shaped rules symbols
is_shaped rules (Expand r ∷ symbols) = not (vanishes_end rules r)

-- behind each rule in the symbols, nothing can come that is blocked for it, where what is blocked for r can't come behind them all
abbrev pub is_kept : (Rule → List (List Symbol)) → (Rule → List Kind) → (Rule → List Kind) → (Rule → Bool) → Rule → List Symbol → Kind → Bool
is_kept rules firsts blocked used r [] k = true
is_kept rules firsts blocked used r (Take q d ∷ symbols) k = is_kept rules firsts blocked used r symbols k
is_kept rules firsts blocked used r (Unless q ∷ symbols) k = is_kept rules firsts blocked used r symbols k
is_kept rules firsts blocked used r (Act a ∷ symbols) k = is_kept rules firsts blocked used r symbols k
is_kept rules firsts blocked used r (Expand q ∷ symbols) k =
    used q && implies (blocks blocked q k) (not (may_take rules firsts symbols k) && implies (may_pass rules symbols k) (blocks blocked r k))
    && is_kept rules firsts blocked used r symbols k

abbrev pub may_end : (Rule → List (List Symbol)) → List Symbol → Bool
may_end rules [] = true
may_end rules (Take q d ∷ symbols) = false
may_end rules (Unless q ∷ symbols) = may_end rules symbols
may_end rules (Act a ∷ symbols) = may_end rules symbols
may_end rules (Expand r ∷ symbols) = vanishes_end rules r && may_end rules symbols

-- The tables' tests at a rule and a kind of the next token.
module _ (rules : Rule → List (List Symbol)) (firsts blocked : Rule → List Kind) (used : Rule → Bool) (r : Rule) (k : Kind) where
  abbrev pub test_take : Bool
  test_take = list_all (λ symbols. implies (may_take rules firsts symbols k) (begins firsts r (Some k))) (rules r)

  abbrev pub test_pass : Bool
  test_pass = list_all (λ symbols. implies (may_pass rules symbols k) (vanishes rules r k)) (rules r)

  abbrev pub test_one : Bool
  test_one = implies (used r) (single (picks firsts r (Some k)) (rules r))

  abbrev pub test_apart : Bool
  test_apart = implies (vanishes rules r k && begins firsts r (Some k)) (blocks blocked r k)

  abbrev pub test_kept : Bool
  test_kept = implies (used r) (list_all (λ symbols. is_kept rules firsts blocked used r symbols k) (rules r))

  abbrev pub test_at : Bool
  test_at = test_take && (test_pass && (test_one && (test_apart && test_kept)))

-- And before the end.
module _ (rules : Rule → List (List Symbol)) (firsts : Rule → List Kind) (used : Rule → Bool) (r : Rule) where
  abbrev pub test_end_pass : Bool
  test_end_pass = list_all (λ symbols. implies (may_end rules symbols) (vanishes_end rules r)) (rules r)

  abbrev pub test_end_one : Bool
  test_end_one = implies (used r) (single (picks firsts r None) (rules r))

  abbrev pub test_end_begins : Bool
  test_end_begins = not (begins firsts r None)

  abbrev pub test_end_shaped : Bool
  test_end_shaped = implies (used r) (list_all (is_shaped rules) (rules r))

  abbrev pub test_end : Bool
  test_end = test_end_pass && (test_end_one && (test_end_begins && (test_end_shaped && true)))

record AllTrue (a b c d e : Bool) : Type 0 where
  p0 : a ≡ true
  p1 : b ≡ true
  p2 : c ≡ true
  p3 : d ≡ true
  p4 : e ≡ true

all_true : (a b c d e : Bool) → a && (b && (c && (d && e))) ≡ true → AllTrue a b c d e
all_true a b c d e h =
    let h1 = both_right a (b && (c && (d && e))) h in
    let h2 = both_right b (c && (d && e)) h1 in
    let h3 = both_right c (d && e) h2 in
    record { p0 = both_left a (b && (c && (d && e))) h; p1 = both_left b (c && (d && e)) h1; p2 = both_left c (d && e) h2; p3 = both_left d e h3; p4 = both_right d e h3 }

-- Facts.

-- a kind's number is its place in the list of them
pub kind_from_code : (kinds : List Kind) → ((k : Kind) → slice_get kinds (code k) ≡ Some k) → (k q : Kind) → is_kind q (Some k) ≡ true → k ≡ q
kind_from_code kinds place k q h =
    let e : code q ≡ code k = eqb-true _ _ h in
    let f : Some q ≡ Some k = sym (place q) ∙ ap (λ n. slice_get kinds n) e ∙ place k in
    cc

pub kind_is : (k q : Kind) → k ≡ q → is_kind q (Some k) ≡ true
kind_is k q e = eq-eqb (code q) (code k) (ap code (sym e))

abbrev pub MayEnd : (Rule → List (List Symbol)) → List Symbol → Type 0
MayEnd rules [] = Unit {0}
MayEnd rules (Take q d ∷ symbols) = ⊥
MayEnd rules (Unless q ∷ symbols) = MayEnd rules symbols
MayEnd rules (Act a ∷ symbols) = MayEnd rules symbols
MayEnd rules (Expand r ∷ symbols) = (vanishes_end rules r ≡ true) × MayEnd rules symbols

abbrev Starts : (Rule → List (List Symbol)) → (Rule → List Kind) → List Symbol → List Piece → Type 0
Starts rules firsts symbols [] = Unit {0}
Starts rules firsts symbols (t ∷ ts) = MayTake rules firsts symbols t.kind

abbrev Ends : (Rule → List (List Symbol)) → Aim → List Symbol → List Piece → Type 0
Ends rules (Part test) symbols ts = Unit {0}
Ends rules (Whole values) symbols [] = MayEnd rules symbols
Ends rules (Whole values) symbols (t ∷ ts) = Unit {0}

module _ (kinds : List Kind) (place : (k : Kind) → slice_get kinds (code k) ≡ Some k)
    (rules : Rule → List (List Symbol)) (firsts blocked : Rule → List Kind) (used : Rule → Bool)
    (good : (r : Rule) (k : Kind) → test_at rules firsts blocked used r k ≡ true)
    (good_end : (r : Rule) → test_end rules firsts used r ≡ true) where
  not_kind : (k q : Kind) → (k ≡ q → ⊥) → not (is_kind q (Some k)) ≡ true
  not_kind k q n = is_false _ (λ h. n (kind_from_code kinds place k q h))

  -- the parts of the test
  parts : (r : Rule) (k : Kind) → AllTrue (test_take rules firsts blocked used r k) (test_pass rules firsts blocked used r k) (test_one rules firsts blocked used r k) (test_apart rules firsts blocked used r k) (test_kept rules firsts blocked used r k)
  parts r k = all_true _ _ _ _ _ (good r k)

  parts_end : (r : Rule) → AllTrue (test_end_pass rules firsts used r) (test_end_one rules firsts used r) (test_end_begins rules firsts used r) (test_end_shaped rules firsts used r) true
  parts_end r = all_true _ _ _ _ _ (good_end r)

  closed_take : {r : Rule} {symbols : List Symbol} → Among symbols (rules r) → (k : Kind) → may_take rules firsts symbols k ≡ true → begins firsts r (Some k) ≡ true
  closed_take {r} {symbols} m k h = implied (may_take rules firsts symbols k) _ (all_of (λ s. implies (may_take rules firsts s k) (begins firsts r (Some k))) m (parts r k).p0) h

  closed_pass : {r : Rule} {symbols : List Symbol} → Among symbols (rules r) → (k : Kind) → may_pass rules symbols k ≡ true → vanishes rules r k ≡ true
  closed_pass {r} {symbols} m k h = implied (may_pass rules symbols k) _ (all_of (λ s. implies (may_pass rules s k) (vanishes rules r k)) m (parts r k).p1) h

  one : (r : Rule) (k : Kind) → used r ≡ true → single (picks firsts r (Some k)) (rules r) ≡ true
  one r k u = implied (used r) _ (parts r k).p2 u

  apart : (r : Rule) (k : Kind) → vanishes rules r k ≡ true → begins firsts r (Some k) ≡ true → blocks blocked r k ≡ true
  apart r k v b = implied (vanishes rules r k && begins firsts r (Some k)) _ (parts r k).p3 (and_true (vanishes rules r k) _ v b)

  kept : {r : Rule} {symbols : List Symbol} → Among symbols (rules r) → (k : Kind) → used r ≡ true → is_kept rules firsts blocked used r symbols k ≡ true
  kept {r} m k u = all_of (λ s. is_kept rules firsts blocked used r s k) m (implied (used r) _ (parts r k).p4 u)

  pub closed_end : {r : Rule} {symbols : List Symbol} → Among symbols (rules r) → may_end rules symbols ≡ true → vanishes_end rules r ≡ true
  closed_end {r} {symbols} m h = implied (may_end rules symbols) _ (all_of (λ s. implies (may_end rules s) (vanishes_end rules r)) m (parts_end r).p0) h

  one_end : (r : Rule) → used r ≡ true → single (picks firsts r None) (rules r) ≡ true
  one_end r u = implied (used r) _ (parts_end r).p1 u

  nothing_begins : (r : Rule) → not (begins firsts r None) ≡ true
  nothing_begins r = (parts_end r).p2

  shaped : {r : Rule} {symbols : List Symbol} → Among symbols (rules r) → used r ≡ true → is_shaped rules symbols ≡ true
  shaped {r} m u = all_of (is_shaped rules) m (implied (used r) _ (parts_end r).p3 u)

  -- What the symbols in front take first, or pass to those behind them.
  split : (front behind : List Symbol) (k : Kind) → MayTake rules firsts (front ++ behind) k
      → (may_take rules firsts front k ≡ true) ⊎ ((may_pass rules front k ≡ true) × MayTake rules firsts behind k)
  split [] behind k h = inr (refl, h)
  split (Take q d ∷ front) behind k h = inl (kind_is k q h)
  split (Unless q ∷ front) behind k h =
      elim (split front behind k h.1) [ inl s ↦ inl (and_true _ _ (not_kind k q h.0) s) | inr p ↦ inr (and_true _ _ (not_kind k q h.0) p.0, p.1) ]
  split (Act a ∷ front) behind k h = split front behind k h
  split (Expand r ∷ front) behind k (inl b) = inl (or_left _ _ b)
  split (Expand r ∷ front) behind k (inr v) =
      elim (split front behind k v.1) [ inl s ↦ inl (or_right (begins firsts r (Some k)) _ (and_true _ _ v.0 s)) | inr p ↦ inr (and_true _ _ v.0 p.0, p.1) ]

  split_end : (front behind : List Symbol) → MayEnd rules (front ++ behind) → (may_end rules front ≡ true) × MayEnd rules behind
  split_end [] behind h = (refl, h)
  split_end (Take q d ∷ front) behind h = absurd h
  split_end (Unless q ∷ front) behind h = split_end front behind h
  split_end (Act a ∷ front) behind h = split_end front behind h
  split_end (Expand r ∷ front) behind h = let p = split_end front behind h.1 in (and_true _ _ h.0 p.0, p.1)

  starts_unless : (q : Kind) (symbols : List Symbol) (ts : List Piece) → NextIsNot q ts → Starts rules firsts symbols ts → Starts rules firsts (Unless q ∷ symbols) ts
  starts_unless q symbols [] n h = tt
  starts_unless q symbols (t ∷ ts) n h = (n, h)

  starts_act : (a : Action) (symbols : List Symbol) (ts : List Piece) → Starts rules firsts symbols ts → Starts rules firsts (Act a ∷ symbols) ts
  starts_act a symbols [] h = tt
  starts_act a symbols (t ∷ ts) h = h

  starts_expand : {r : Rule} {front : List Symbol} (behind : List Symbol) (ts : List Piece) → Among front (rules r)
      → Starts rules firsts (front ++ behind) ts → Starts rules firsts (Expand r ∷ behind) ts
  starts_expand behind [] m h = tt
  starts_expand {r} {front} behind (t ∷ ts) m h =
      elim (split front behind t.kind h) [ inl s ↦ inl (closed_take m t.kind s) | inr p ↦ inr (closed_pass m t.kind p.0, p.1) ]

  -- Tokens that go on begin with one that the symbols to come can take.
  pub goes_starts : {aim : Aim} {symbols : List Symbol} {values : State} {ts : List Piece} → Goes rules aim symbols values ts → Starts rules firsts symbols ts
  goes_starts (stop ok) = tt
  goes_starts (end e) = tt
  goes_starts (take_token e g) = e
  goes_starts (pass {kind = q} {symbols = symbols} {ps = ts} n g) = starts_unless q symbols ts n (goes_starts g)
  goes_starts (act {a = a} {symbols = symbols} {ps = ts} g) = starts_act a symbols ts (goes_starts g)
  goes_starts (expand {symbols = symbols} {ps = ts} m g) = starts_expand symbols ts m (goes_starts g)

  ends_unless : (q : Kind) (symbols : List Symbol) (aim : Aim) (ts : List Piece) → Ends rules aim symbols ts → Ends rules aim (Unless q ∷ symbols) ts
  ends_unless q symbols (Part test) ts h = tt
  ends_unless q symbols (Whole values) [] h = h
  ends_unless q symbols (Whole values) (t ∷ ts) h = tt

  ends_act : (a : Action) (symbols : List Symbol) (aim : Aim) (ts : List Piece) → Ends rules aim symbols ts → Ends rules aim (Act a ∷ symbols) ts
  ends_act a symbols (Part test) ts h = tt
  ends_act a symbols (Whole values) [] h = h
  ends_act a symbols (Whole values) (t ∷ ts) h = tt

  ends_take : (q : Kind) (d : Mark) (symbols : List Symbol) (aim : Aim) (t : Piece) (ts : List Piece) → Ends rules aim (Take q d ∷ symbols) (t ∷ ts)
  ends_take q d symbols (Part test) t ts = tt
  ends_take q d symbols (Whole values) t ts = tt

  ends_expand : {r : Rule} {front : List Symbol} (behind : List Symbol) (aim : Aim) (ts : List Piece) → Among front (rules r)
      → Ends rules aim (front ++ behind) ts → Ends rules aim (Expand r ∷ behind) ts
  ends_expand behind (Part test) ts m h = tt
  ends_expand {r} {front} behind (Whole values) [] m h = let p = split_end front behind h in (closed_end m p.0, p.1)
  ends_expand behind (Whole values) (t ∷ ts) m h = tt

  ends_stop : (aim : Aim) (symbols : List Symbol) (state : State) → Accepts aim state → Ends rules aim symbols []
  ends_stop (Part test) symbols state ok = tt
  ends_stop (Whole values) symbols state ok = absurd ok

  -- Where no token is left and the aim is the whole text, each symbol to come may take nothing.
  pub goes_ends : {aim : Aim} {symbols : List Symbol} {values : State} {ts : List Piece} → Goes rules aim symbols values ts → Ends rules aim symbols ts
  goes_ends (stop {aim = aim} {symbols = symbols} {state = state} ok) = ends_stop aim symbols state ok
  goes_ends (end e) = tt
  goes_ends (take_token {aim = aim} {kind = q} {mark = d} {symbols = symbols} {p = t} {ps = ts} e g) = ends_take q d symbols aim t ts
  goes_ends (pass {aim = aim} {kind = q} {symbols = symbols} {ps = ts} n g) = ends_unless q symbols aim ts (goes_ends g)
  goes_ends (act {aim = aim} {a = a} {symbols = symbols} {ps = ts} g) = ends_act a symbols aim ts (goes_ends g)
  goes_ends (expand {aim = aim} {symbols = symbols} {ps = ts} m g) = ends_expand symbols aim ts m (goes_ends g)

  -- An alternative that may come before a token leads to it, or takes nothing.
  shaped_split : (front behind : List Symbol) (k : Kind) → is_shaped rules front ≡ true → MayTake rules firsts (front ++ behind) k
      → (leads firsts front (Some k) ≡ true) ⊎ ((is_empty front ≡ true) × ((passes front k ≡ true) × MayTake rules firsts behind k))
  shaped_split [] behind k s h = inr (refl, (refl, h))
  shaped_split (Take q d ∷ front) behind k s h = inl (kind_is k q h)
  shaped_split (Unless q ∷ front) behind k s h = inr (s, empty_split (Unless q ∷ front) behind k s h)
    where
      empty_split : (front behind : List Symbol) (k : Kind) → is_empty front ≡ true → MayTake rules firsts (front ++ behind) k → (passes front k ≡ true) × MayTake rules firsts behind k
      empty_split [] behind k s h = (refl, h)
      empty_split (Take q d ∷ front) behind k s h = cc
      empty_split (Unless q ∷ front) behind k s h = let p = empty_split front behind k s h.1 in (and_true _ _ (not_kind k q h.0) p.0, p.1)
      empty_split (Act a ∷ front) behind k s h = empty_split front behind k s h
      empty_split (Expand r ∷ front) behind k s h = cc
  shaped_split (Act a ∷ front) behind k s h = shaped_split front behind k s h
  shaped_split (Expand r ∷ front) behind k s (inl b) = inl b
  shaped_split (Expand r ∷ front) behind k s (inr v) = absurd (not_both _ (vanish_end r k v.0) s)
    where
      empty_of_passes : (front : List Symbol) (k : Kind) → passes front k ≡ true → is_empty front ≡ true
      empty_of_passes [] k h = refl
      empty_of_passes (Take q d ∷ front) k h = cc
      empty_of_passes (Unless q ∷ front) k h = empty_of_passes front k (both_right _ _ h)
      empty_of_passes (Act a ∷ front) k h = empty_of_passes front k h
      empty_of_passes (Expand r ∷ front) k h = cc

      any_more : (xs : List (List Symbol)) (k : Kind) → list_any (λ s. passes s k) xs ≡ true → list_any is_empty xs ≡ true
      any_more [] k h = cc
      any_more (x ∷ xs) k h = elim (either _ _ h) [ inl p ↦ or_left _ _ (empty_of_passes x k p) | inr p ↦ or_right (is_empty x) _ (any_more xs k p) ]

      vanish_end : (r : Rule) (k : Kind) → vanishes rules r k ≡ true → vanishes_end rules r ≡ true
      vanish_end r k h = any_more (rules r) k h

  shaped_end : (front behind : List Symbol) → is_shaped rules front ≡ true → MayEnd rules (front ++ behind) → is_empty front ≡ true
  shaped_end [] behind s h = refl
  shaped_end (Take q d ∷ front) behind s h = absurd h
  shaped_end (Unless q ∷ front) behind s h = s
  shaped_end (Act a ∷ front) behind s h = shaped_end front behind s h
  shaped_end (Expand r ∷ front) behind s h = absurd (not_both _ h.0 s)

  -- The alternative by which the tokens go on is the one that the next token picks.
  pub chosen : {aim : Aim} {r : Rule} {front : List Symbol} {values : State} {t : Piece} {ts : List Piece} (behind : List Symbol)
      → Fits rules firsts blocked used (Expand r ∷ behind) → Among front (rules r) → Goes rules aim (front ++ behind) values (t ∷ ts)
      → predict rules firsts r (Some t.kind) ≡ Some front
  chosen {r = r} {front = front} {t = t} behind fits m g = find_only (picks firsts r (Some t.kind)) m (picked (shaped_split front behind t.kind (shaped m fits.0) (goes_starts g))) (one r t.kind fits.0)
    where
      picked : (leads firsts front (Some t.kind) ≡ true) ⊎ ((is_empty front ≡ true) × ((passes front t.kind ≡ true) × MayTake rules firsts behind t.kind)) → picks firsts r (Some t.kind) front ≡ true
      picked (inl l) = or_left _ _ l
      picked (inr p) = or_right (leads firsts front (Some t.kind)) _ (and_true _ _ p.0 (is_false _ (λ b. fits.1.0 t.kind (apart r t.kind (any_of (λ s. passes s t.kind) m p.1.0) b) p.1.1)))

  pub chosen_end : {wanted : List Value} {r : Rule} {front : List Symbol} {values : State} (behind : List Symbol)
      → Fits rules firsts blocked used (Expand r ∷ behind) → Among front (rules r) → Goes rules (Whole wanted) (front ++ behind) values []
      → predict rules firsts r None ≡ Some front
  chosen_end {r = r} {front = front} behind fits m g =
      find_only (picks firsts r None) m (or_right (leads firsts front None) _ (and_true _ _ (shaped_end front behind (shaped m fits.0) (goes_ends g)) (nothing_begins r))) (one_end r fits.0)

  -- What fits still fits with a rule's alternative in the rule's place.
  fits_suffix : (k0 : Kind) (r : Rule) (behind front : List Symbol) → ((k : Kind) → blocks blocked r k ≡ true → MayTake rules firsts behind k → ⊥)
      → Fits rules firsts blocked used behind → ((k : Kind) → is_kept rules firsts blocked used r front k ≡ true) → Fits rules firsts blocked used (front ++ behind)
  fits_suffix k0 r behind [] free fits keeps = fits
  fits_suffix k0 r behind (Take q d ∷ front) free fits keeps = fits_suffix k0 r behind front free fits keeps
  fits_suffix k0 r behind (Unless q ∷ front) free fits keeps = fits_suffix k0 r behind front free fits keeps
  fits_suffix k0 r behind (Act a ∷ front) free fits keeps = fits_suffix k0 r behind front free fits keeps
  fits_suffix k0 r behind (Expand q ∷ front) free fits keeps =
      (both_left _ _ (both_left _ _ (keeps k0)), (clear, fits_suffix k0 r behind front free fits (λ k. both_right _ _ (keeps k))))
    where
      clear : (k : Kind) → blocks blocked q k ≡ true → MayTake rules firsts (front ++ behind) k → ⊥
      clear k b h =
          let both = implied _ _ (both_right _ _ (both_left _ _ (keeps k))) b in
          elim (split front behind k h) [ inl s ↦ not_both _ s (both_left _ _ both) | inr p ↦ free k (implied _ _ (both_right _ _ both) p.0) p.1 ]

  pub fits_after : (k0 : Kind) {r : Rule} {front : List Symbol} (behind : List Symbol) → Fits rules firsts blocked used (Expand r ∷ behind) → Among front (rules r) → Fits rules firsts blocked used (front ++ behind)
  fits_after k0 {r} {front} behind fits m = fits_suffix k0 r behind front fits.1.0 fits.1.1 (λ k. kept m k fits.0)

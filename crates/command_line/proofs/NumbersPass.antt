-- Where clap takes the words, the text that it finds for an argument passed the parser of it.
use Rattle.std.proofs.Common.{◌≡◌, ◌&&◌, ◌||◌, not, ℕ, Bool, true, false, zero, suc, refl, sym, subst, List, [], ◌∷◌, ◌++◌, length, Option, Some, None, is_some}
use Rattle.std.specs.Prelude.{if◌then◌else◌, IfSome, slice_get, find, fold, option_and_then}
use Rattle.std.specs.Option.{option_map_or}
use Rattle.std.specs.Str.{bytes_eq, chars}
use Rattle.std.proofs.lemmas.Slice.Eq.{bytes_eq-Decides}
use Rattle.clap.specs.Lexer.{long_of, short_of}
use Rattle.clap.specs.Walk as w
use Rattle.clap.specs.Walk.{Held, Names, Outcome, Row, Rule, Step, Text, Waiting, Walk, action_of, arg_by_id, arg_by_index, arg_by_long, arg_by_short, attached_value, reacted, settled, takes_values, walked}
use Rattle.clap.specs.Simple.{Shape}
use Rattle.clap.specs.Takes as t
use Rattle.clap.specs.declared.builder.action.ArgAction.{ArgAction}
use Rattle.clap.specs.declared.builder.action.ArgAction.TheVariants.{Set}

left : (a b : Bool) → (a && b) ≡ true → a ≡ true
left true b e = refl
left false b e = cc

pub right : (a b : Bool) → (a && b) ≡ true → b ≡ true
right true b e = e
right false b e = cc

-- each element is a Q
abbrev pub Each : {X : Type 0} → (X → Type 0) → List X → Type 0
Each Q [] = Unit {0}
Each Q (x ∷ xs) = Q x × Each Q xs

find_each : {X : Type 0} (Q : X → Type 0) (p : X → Bool) (xs : List X) → Each Q xs → IfSome (find p xs) Q
find_each Q p [] h = tt
find_each Q p (x ∷ xs) h = go (p x) (find_each Q p xs h.1)
  where
    go : (b : Bool) → IfSome (find p xs) Q → IfSome (if b then Some x else find p xs) Q
    go true rest = h.0
    go false rest = rest

joined : {X : Type 0} (Q : X → Type 0) (xs ys : List X) → Each Q xs → Each Q ys → Each Q (xs ++ ys)
joined Q [] ys h k = k
joined Q (x ∷ xs) ys h k = (h.0, joined Q xs ys h.1 k)

-- each value of the argument that has this id is a P
module _ (id : Text) (P : Text → Type 0) where
  abbrev Fits : Row → Type 0
  Fits r = bytes_eq r.id id ≡ true → Each P r.values

  abbrev AllFit : List Row → Type 0
  AllFit rows = Each Fits rows

  -- an argument takes a value a use, has no default, and its parser lets a P alone pass where it has this id
  pub record Guards (a : Rule) : Type 0 where
    pub sets : action_of a ≡ Set
    pub defaults : a.defaults ≡ []
    pub parser : bytes_eq a.id id ≡ true → (v : Text) → t.value_passes a v ≡ true → P v

  values : (a : Rule) → Guards a → bytes_eq a.id id ≡ true → (vs : List Text) → t.values_pass a vs ≡ true → Each P vs
  values a g is [] e = tt
  values a g is (v ∷ vs) e = (g.parser is v (left _ _ e), values a g is vs (right _ _ e))

  without : (key : Text) (rows : List Row) → AllFit rows → AllFit (w.without key rows)
  without key [] h = tt
  without key (r ∷ rs) h = go (bytes_eq r.id key) (without key rs h.1)
    where
      go : (b : Bool) → AllFit (w.without key rs) → AllFit (if b then rs else r ∷ w.without key rs)
      go true rest = h.1
      go false rest = (h.0, rest)

  with_values : (key : Text) (how : _) (s : _) (vs : List Text) (rows : List Row) → (bytes_eq key id ≡ true → Each P vs) → AllFit rows
      → AllFit (w.with_values key how s vs rows)
  with_values key how s vs [] new h = (new, tt)
  with_values key how s vs (r ∷ rs) new h = go (bytes_eq r.id key) refl (with_values key how s vs rs new h.1)
    where
      go : (b : Bool) → bytes_eq r.id key ≡ b → AllFit (w.with_values key how s vs rs) → AllFit (if b then w.more_values s vs r ++ rs else r ∷ w.with_values key how s vs rs)
      go true same rest =
          let is : r.id ≡ key = (bytes_eq-Decides r.id key).0 same in
          ((λ fits. joined P r.values vs (h.0 fits) (new (subst (λ (u : Text). bytes_eq u id ≡ true) is fits))), h.1)
      go false other rest = (h.0, rest)

  module _ (again : Bool) where
    used_set : (x : ArgAction) (a : Rule) → Guards a → x ≡ Set → (how : _) (vs : List Text) (rows : List Row) → t.action_passes x again a vs rows ≡ true
        → AllFit rows → AllFit (w.used_as x a.id how vs rows)
    used_set x a g is how vs rows e h =
        let passed : t.set_passes again a vs rows ≡ true = rw is at e in
        subst (λ (y : ArgAction). AllFit (w.used_as y a.id how vs rows)) (sym is)
        (with_values a.id how _ vs (w.without a.id rows) (λ own. values a g own vs (right _ _ passed)) (without a.id rows h))

    used : (a : Rule) → Guards a → (vs : List Text) (rows : List Row) → t.use_passes again a vs rows ≡ true → AllFit rows → AllFit (w.used a vs rows)
    used a g vs rows e h = used_set (action_of a) a g g.sets _ _ rows (right _ _ (right _ _ e)) h

    module _ (c : List Rule) (all : Each Guards c) where
      settle : (h : Held) → t.settle_passes c again h ≡ true → AllFit h.rows → AllFit (settled c h).rows
      settle h e good = go h.pending e
        where
          by_id : (o : Option Rule) (vs : List Text) → IfSome o Guards → option_map_or (λ a. t.use_passes again a vs h.rows) o true ≡ true → AllFit (w.used_by_id o vs h.rows)
          by_id None vs g e = good
          by_id (Some a) vs g e = used a g vs h.rows e good

          go : (o : Option (Text × List Text)) → option_map_or (λ p. option_map_or (λ a. t.use_passes again a p.1 h.rows) (arg_by_id c p.0) true) o true ≡ true
              → AllFit (w.settled_rows c o h.rows)
          go None e = good
          go (Some p) e = by_id (arg_by_id c p.0) p.1 (find_each Guards _ c all) e

      react : (a : Rule) → Guards a → (vs : List Text) (h : Held) → t.react_passes c again a vs h ≡ true → AllFit h.rows → AllFit (reacted c a vs h).rows
      react a g vs h e good = used a g vs _ (right _ _ e) (settle h (left _ _ e) good)

      option_met : (a : Rule) → Guards a → (v : Option Text) (h : Held) → t.option_passes c again a v h ≡ true → AllFit h.rows → AllFit (w.option_met c a v h).0.rows
      option_met a g (Some v) h e good = react a g (v ∷ []) h e good
      option_met a g None h e good = settle h e good

      long_met : (o : Option Rule) (v : Option Text) (h : Held) → IfSome o Guards → t.long_passes c again o v h ≡ true → AllFit h.rows → AllFit (w.long_met c o v h).0.rows
      long_met None v h g e good = good
      long_met (Some a) v h g e good = go (takes_values a) e
        where
          flag : (v : Option Text) → (not (is_some v) && t.react_passes c again a [] h) ≡ true → AllFit (w.flag_met c a v h).0.rows
          flag (Some v) e = good
          flag None e = react a g [] h e good

          go : (b : Bool) → (if b then t.option_passes c again a v h else (not (is_some v) && t.react_passes c again a [] h)) ≡ true
              → AllFit (if b then w.option_met c a v h else w.flag_met c a v h).0.rows
          go true e = option_met a g v h e good
          go false e = flag v e

      short_met : (o : Option Rule) (rest : Text) (h : Held) (nextM : Held → Held × Outcome) (nextP : Held → Bool) → IfSome o Guards
          → ((k : Held) → nextP k ≡ true → AllFit k.rows → AllFit (nextM k).0.rows)
          → t.short_passes c again o rest h nextP ≡ true → AllFit h.rows → AllFit (w.short_met c o rest h nextM).0.rows
      short_met None rest h nextM nextP g more e good = good
      short_met (Some a) rest h nextM nextP g more e good = go (takes_values a) e
        where
          go : (b : Bool) → (if b then t.option_passes c again a (attached_value rest) h else (t.react_passes c again a [] h && nextP (reacted c a [] h))) ≡ true
              → AllFit (if b then w.option_met c a (attached_value rest) h else nextM (reacted c a [] h)).0.rows
          go true e = option_met a g _ h e good
          go false e = more _ (right _ _ e) (react a g [] h (left _ _ e) good)

      bundle_step : (o : Option ℕ) (flags : Text) (skip : ℕ) (so_far : Outcome) (h : Held) (nextM : Text → ℕ → Outcome → Held → Held × Outcome) (nextP : Text → ℕ → Held → Bool)
          → ((u : Text) (n : ℕ) (x : Outcome) (k : Held) → nextP u n k ≡ true → AllFit k.rows → AllFit (nextM u n x k).0.rows)
          → t.bundle_step_passes c again o flags skip h nextP ≡ true → AllFit h.rows → AllFit (w.bundle_step c o flags skip so_far h nextM).0.rows
      bundle_step None flags skip so_far h nextM nextP more e good = good
      bundle_step (Some x) flags zero so_far h nextM nextP more e good =
          short_met (arg_by_short c x) _ h _ _ (find_each Guards _ c all) (λ k. more _ 0 _ k) e good
      bundle_step (Some x) flags (suc skip) so_far h nextM nextP more e good = more _ skip so_far h e good

      bundle_met : (k : ℕ) (flags : Text) (skip : ℕ) (so_far : Outcome) (h : Held) → t.flags_pass c again k flags skip h ≡ true → AllFit h.rows
          → AllFit (w.bundle_met c k flags skip so_far h).0.rows
      unfolding w.bundle_met t.flags_pass
      bundle_met zero flags skip so_far h e good = good
      bundle_met (suc k) flags skip so_far h e good =
          bundle_step (slice_get (chars flags) 0) flags skip so_far h _ _ (λ u n x. bundle_met k u n x) e good

      plain_word : (waiting : Waiting) (word : Text) (h : Held) → AllFit h.rows → AllFit (w.plain_word c waiting word h).0.rows
      plain_word w.idle word h good = good
      plain_word w.positional word h good = good
      plain_word (w.option key) word h good = go (arg_by_id c key)
        where
          go : (o : Option Rule) → AllFit (w.option_word o key word h).0.rows
          go None = good
          go (Some a) = good

      after_flag : (waiting : Waiting) (word : Text) (h : Held) (x : Outcome) → AllFit h.rows → AllFit (w.after_flag c waiting word h x).0.rows
      after_flag waiting word h w.done good = good
      after_flag waiting word h (w.waits key) good = good
      after_flag waiting word h w.plain good = plain_word waiting word h good
      after_flag waiting word h w.refused good = plain_word waiting word h good

      flag_word : (waiting : Waiting) (word : Text) (o : Option (Text × Option Text)) (h : Held) → t.flag_word_passes c again o word h ≡ true → AllFit h.rows
          → AllFit (w.long_or_other c waiting word o h).0.rows
      flag_word waiting word (Some p) h e good = after_flag waiting word _ _ (long_met (arg_by_long c p.0) p.1 h (find_each Guards _ c all) e good)
      flag_word waiting word None h e good = go (short_of word) e
        where
          go : (o : Option Text) → option_map_or (λ flags. t.bundle_passes c again flags h) o true ≡ true → AllFit (w.short_or_plain c waiting word o h).0.rows
          go None e = plain_word waiting word h good
          go (Some flags) e = after_flag waiting word _ _ (bundle_met (length flags) flags h.skip _ _ e good)

  -- ---- the walk over the words of a command with no subcommand

  module _ (s : Shape) (all : Each Guards s.rules) where
    other_word : (o : Option Text) (waiting : Waiting) (position : ℕ) (word : Text) (h : Held) → t.other_passes s o word h ≡ true → AllFit h.rows
        → AllFit (w.subcommand_or_other s.rules o waiting position word h).0.rows
    other_word (Some name) waiting position word h e good = good
    other_word None waiting position word h e good = go (bytes_eq word (45 ∷ 45 ∷ [])) e
      where
        go : (b : Bool) → (b || t.flag_word_passes s.rules s.args_override_self (long_of word) word h) ≡ true
            → AllFit (if b then (h, w.trailing position) else w.long_or_other s.rules waiting word (long_of word) h).0.rows
        go true e = good
        go false e = flag_word s.args_override_self s.rules all waiting word (long_of word) h e good

    word_met : (names : Names) (is_trailing : Bool) (waiting : Waiting) (position : ℕ) (word : Text) (h : Held) → t.word_passes s names is_trailing waiting word h ≡ true
        → AllFit h.rows → AllFit (w.word_met s.rules names is_trailing waiting position word h).0.rows
    word_met names true waiting position word h e good = good
    word_met names false waiting position word h e good = other_word (w.subcommand_met names waiting word) waiting position word h e good

    step : (word : Text) (k : Walk) (h : Held) (x : Step) → t.step_passes s k.position h x ≡ true → AllFit h.rows → AllFit (w.after_step s.rules word k h x).held.rows
    step word k h (w.next waiting) e good = good
    step word k h (w.trailing n) e good = good
    step word k h (w.subcommand name) e good = good
    step word k h w.value e good = go (arg_by_index s.rules k.position) e
      where
        held : (a : Rule) (b : Bool) → (b || t.settle_passes s.rules s.args_override_self h) ≡ true → AllFit (if b then h else settled s.rules h).rows
        held a true e = good
        held a false e = settle s.args_override_self s.rules all h e good

        go : (o : Option Rule) → option_map_or (λ a. t.positional_passes s.rules s.args_override_self a h) o false ≡ true
            → AllFit (w.to_positional s.rules o word k h).held.rows
        go None e = good
        go (Some a) e = held a (w.is_pending a h.pending && w.takes_several a) e

    turn : (names : Names) (k : Walk) (word : Text) → t.turn_passes s names k word ≡ true → AllFit k.held.rows → AllFit (walked s.rules names k word).held.rows
    unfolding walked
    turn names k word e good = go k.stopped e
      where
        met : Held × Step
        met = w.word_met s.rules names k.is_trailing k.waiting k.position word k.held

        go : (o : Option (Text × List Text)) → (is_some o || (t.word_passes s names k.is_trailing k.waiting word k.held && t.step_passes s k.position met.0 met.1)) ≡ true
            → AllFit (w.walked_from s.rules names o k word).held.rows
        go (Some p) e = good
        go None e = step word k met.0 met.1 (right _ _ e) (word_met names k.is_trailing k.waiting k.position word k.held (left _ _ e) good)

    walk : (names : Names) (k : Walk) (words : List Text) → t.walk_passes s names k words ≡ true → AllFit k.held.rows → AllFit (fold (walked s.rules names) k words).held.rows
    unfolding t.walk_passes
    walk names k [] e good = good
    walk names k (word ∷ rest) e good = walk names (walked s.rules names k word) rest (right _ _ e) (turn names k word (left _ _ e) good)

    defaults : (rules : List Rule) (rows : List Row) → Each Guards rules → AllFit rows → AllFit (fold w.with_default rows rules)
    defaults [] rows g good = good
    defaults (a ∷ rest) rows g good = defaults rest (w.with_default rows a) g.1 (go (w.has_row a.id rows))
      where
        go : (b : Bool) → AllFit (if b then rows else w.default_rows a.id (w.reading_by a) a.defaults rows)
        go true = good
        go false = subst (λ (vs : List Text). AllFit (w.default_rows a.id (w.reading_by a) vs rows)) (sym g.0.defaults) good

    -- the rows at the end
    pub level : (names : Names) (words : List Text) (has : Bool) → t.level_passes s names w.nothing_held words has ≡ true
        → AllFit (w.rows_after s.rules names words)
    level names words has e =
        let end = (w.walk s.rules names w.nothing_held words).held in
        let walked_good = walk names (w.walk_from w.nothing_held) words (left _ _ e) tt in
        defaults s.rules _ all (settle s.args_override_self s.rules all end (left _ _ (right _ _ e)) walked_good)

  -- what is found first is a P
  pub first : (rows : List Row) → AllFit rows → IfSome (w.first_of id rows) P
  first [] good = tt
  first (r ∷ rs) good = go (bytes_eq r.id id) refl (first rs good.1)
    where
      head : (vs : List Text) → Each P vs → IfSome (slice_get vs 0) P
      head [] h = tt
      head (v ∷ vs) h = h.0

      go : (b : Bool) → bytes_eq r.id id ≡ b → IfSome (w.first_of id rs) P
          → IfSome (option_and_then (λ (x : Row). slice_get x.values 0) (if b then Some r else find (λ x. bytes_eq x.id id) rs)) P
      go true is rest = head r.values (good.0 is)
      go false is rest = rest

-- A parse with no fault is one that clap takes.
use Rattle.std.proofs.Common.{◌≡◌, ◌∙◌, ◌≤◌, ◌==◌, ◌&&◌, ◌||◌, not, nat_lt, nat_le, ℕ, Bool, true, false, zero, suc, refl, sym, ap, arith, List, [], ◌∷◌, length, Option, Some, None, is_some}
use Rattle.std.proofs.Common.{inl, inr, true≢false, lt-ltb}
use Rattle.std.proofs.lemmas.Bool.{cases_lt, eqb-true, le-leb}
use Rattle.std.specs.Prelude.{if◌then◌else◌, slice_get, codes}
use Rattle.std.specs.List.{list_all, list_any}
use Rattle.std.specs.Option.{option_map_or}
use Rattle.std.specs.Str.{bytes_eq, chars}
use Rattle.clap.specs.Lexer.{long_of, short_of}
use Rattle.clap.specs.Facts.{explicit_source, unwrap_or_range}
use Rattle.clap.specs.Kinds.{Kinds, check_kinds, or_else, range_kinds}
use Rattle.clap.specs.Walk.{Held, Names, Row, Rule, Step, Text, Waiting, Walk, action_of, arg_by_id, arg_by_index, arg_by_long, arg_by_short, attached_value, has_row, is_pending, most_values, reacted, subcommand_met, takes_several, takes_values, value, walk, walk_from, walked, word_met, finished, next, trailing, subcommand, values_or_missing}
use Rattle.clap.specs.Simple.{Shape}
use Rattle.clap.specs.Takes as t
use Rattle.clap.specs.Faults as f
use Rattle.clap.specs.declared.error.kind.ErrorKind.{ErrorKind}
use Rattle.clap.specs.declared.builder.action.ArgAction.{ArgAction}
use Rattle.clap.specs.declared.builder.action.ArgAction.TheVariants.{Set, Append, SetTrue, SetFalse, Count, Help, HelpShort, HelpLong, Version}

-- ---- lists of kinds, and tests

some_kind : {X : Type 0} (k : ErrorKind) (ks : Kinds) → k ∷ ks ≡ [] → X
some_kind k ks e = absurd (omega (arith, ap length e))

or_none : (a b : Kinds) → or_else a b ≡ [] → (a ≡ []) × (b ≡ [])
or_none [] b e = (refl, e)
or_none (k ∷ ks) b e = some_kind k ks e

both : (a b : Bool) → a ≡ true → b ≡ true → (a && b) ≡ true
both a b p q = rw (p, q) refl

kind_unless : (b : Bool) (k : ErrorKind) (ks : Kinds) → (if b then [] else k ∷ ks) ≡ [] → b ≡ true
kind_unless true k ks e = refl
kind_unless false k ks e = some_kind k ks e

kind_if : (b : Bool) (k : ErrorKind) (ks rest : Kinds) → (if b then k ∷ ks else rest) ≡ [] → (b ≡ false) × (rest ≡ [])
kind_if true k ks rest e = some_kind k ks e
kind_if false k ks rest e = (refl, e)

-- ---- values

values : (a : Rule) (vs : List Text) → f.values_fault a vs ≡ [] → t.values_pass a vs ≡ true
values a [] e = refl
values a (v ∷ vs) e =
    let p = or_none _ _ e in
    both _ _ (kind_unless (t.value_passes a v) _ _ p.0) (values a vs p.1)

repeats : (b again : Bool) (k : ErrorKind) → (if b && not again then k ∷ [] else []) ≡ [] → (not b || again) ≡ true
repeats true true k e = refl
repeats true false k e = some_kind k [] e
repeats false again k e = refl

sets : (again : Bool) (a : Rule) (vs : List Text) (rows : List Row) → f.set_fault again a vs rows ≡ [] → t.set_passes again a vs rows ≡ true
sets again a vs rows e =
    let p = or_none _ _ e in
    both _ _ (repeats (has_row a.id rows) again _ p.0) (values a vs p.1)

counts : (a : Rule) (vs : List Text) (rows : List Row) → f.count_fault a vs rows ≡ [] → t.count_passes a vs rows ≡ true
counts a [] rows e = kind_unless _ _ _ e
counts a (v ∷ vs) rows e = values a (v ∷ vs) e

acts : (x : ArgAction) (again : Bool) (a : Rule) (vs : List Text) (rows : List Row) → f.action_fault x again a vs rows ≡ [] → t.action_passes x again a vs rows ≡ true
acts Set again a vs rows e = sets again a vs rows e
acts SetTrue again a vs rows e = sets again a vs rows e
acts SetFalse again a vs rows e = sets again a vs rows e
acts Append again a vs rows e = values a vs e
acts Count again a vs rows e = counts a vs rows e
acts Help again a vs rows e = some_kind _ _ e
acts HelpShort again a vs rows e = some_kind _ _ e
acts HelpLong again a vs rows e = some_kind _ _ e
acts Version again a vs rows e = some_kind _ _ e

not_lt : (a b : ℕ) → nat_lt a b ≡ false → b ≤ a
not_lt a b e = elim (cases_lt a b) [
  | inl h ↦ absurd (true≢false (sym (lt-ltb a b h) ∙ e))
  | inr h ↦ h
]

ranges : (least most n : ℕ) → range_kinds least most n ≡ [] → (nat_le least n ≡ true) × (nat_le n most ≡ true)
ranges least most n e = go (least == most) refl _ _ _ (kind_if _ _ _ _ e).1
  where
    go : (b : Bool) → (least == most) ≡ b → (k l m : ErrorKind) → (if b then (if least == n then [] else k ∷ []) else (if nat_lt n least then l ∷ [] else (if nat_lt most n then m ∷ [] else []))) ≡ [] → (nat_le least n ≡ true) × (nat_le n most ≡ true)
    go true is k l m rest =
        let same = eqb-true least n (kind_unless (least == n) _ _ rest) in
        let equal = eqb-true least most is in
        (le-leb least n (omega arith), le-leb n most (omega arith))
    go false is k l m rest =
        let p = kind_if (nat_lt n least) _ _ _ rest in
        let q = kind_if (nat_lt most n) _ _ _ p.1 in
        (le-leb least n (not_lt n least p.0), le-leb n most (not_lt most n q.0))

uses : (again : Bool) (a : Rule) (vs : List Text) (rows : List Row) → f.use_fault again a vs rows ≡ [] → t.use_passes again a vs rows ≡ true
uses again a vs rows e =
    let p = or_none _ _ e in
    let r = ranges (unwrap_or_range a.range).start_inclusive (most_values a) (length vs) p.0 in
    both _ _ r.0 (both _ _ r.1 (acts (action_of a) again a (values_or_missing a vs) rows p.1))

-- ---- one word

module _ (c : List Rule) (again : Bool) where
  settles : (h : Held) → f.settle_fault c again h ≡ [] → t.settle_passes c again h ≡ true
  settles h e = go h.pending e
    where
      of_rule : (o : Option Rule) (vs : List Text) → option_map_or (λ a. f.use_fault again a vs h.rows) o [] ≡ []
          → option_map_or (λ a. t.use_passes again a vs h.rows) o true ≡ true
      of_rule None vs e = refl
      of_rule (Some a) vs e = uses again a vs h.rows e

      go : (o : Option (Text × List Text)) → option_map_or (λ p. option_map_or (λ a. f.use_fault again a p.1 h.rows) (arg_by_id c p.0) []) o [] ≡ []
          → option_map_or (λ p. option_map_or (λ a. t.use_passes again a p.1 h.rows) (arg_by_id c p.0) true) o true ≡ true
      go None e = refl
      go (Some p) e = of_rule (arg_by_id c p.0) p.1 e

  reacts : (a : Rule) (vs : List Text) (h : Held) → f.react_fault c again a vs h ≡ [] → t.react_passes c again a vs h ≡ true
  reacts a vs h e =
      let p = or_none _ _ e in
      both _ _ (settles h p.0) (uses again a vs _ p.1)

  option_word : (a : Rule) (v : Option Text) (h : Held) → f.option_fault c again a v h ≡ [] → t.option_passes c again a v h ≡ true
  option_word a (Some v) h e = reacts a (v ∷ []) h e
  option_word a None h e = settles h e

  long_word : (o : Option Rule) (v : Option Text) (h : Held) → f.long_fault c again o v h ≡ [] → t.long_passes c again o v h ≡ true
  long_word None v h e = some_kind _ _ e
  long_word (Some a) v h e = go (takes_values a) _ e
    where
      flag : (b : Bool) (k : ErrorKind) → (if b then k ∷ [] else f.react_fault c again a [] h) ≡ [] → (not b && t.react_passes c again a [] h) ≡ true
      flag true k e = some_kind k [] e
      flag false k e = reacts a [] h e

      go : (b : Bool) (k : ErrorKind) → (if b then f.option_fault c again a v h else (if is_some v then k ∷ [] else f.react_fault c again a [] h)) ≡ []
          → (if b then t.option_passes c again a v h else (not (is_some v) && t.react_passes c again a [] h)) ≡ true
      go true k e = option_word a v h e
      go false k e = flag (is_some v) k e

  short_word : (o : Option Rule) (rest : Text) (h : Held) (nextF : Held → Kinds) (nextP : Held → Bool)
      → ((k : Held) → nextF k ≡ [] → nextP k ≡ true)
      → f.short_fault c again o rest h nextF ≡ [] → t.short_passes c again o rest h nextP ≡ true
  short_word None rest h nextF nextP more e = some_kind _ _ e
  short_word (Some a) rest h nextF nextP more e = go (takes_values a) e
    where
      go : (b : Bool) → (if b then f.option_fault c again a (attached_value rest) h else or_else (f.react_fault c again a [] h) (nextF (reacted c a [] h))) ≡ []
          → (if b then t.option_passes c again a (attached_value rest) h else (t.react_passes c again a [] h && nextP (reacted c a [] h))) ≡ true
      go true e = option_word a (attached_value rest) h e
      go false e =
          let p = or_none _ _ e in
          both _ _ (reacts a [] h p.0) (more _ p.1)

  step_of_bundle : (o : Option ℕ) (flags : Text) (skip : ℕ) (h : Held) (nextF : Text → ℕ → Held → Kinds) (nextP : Text → ℕ → Held → Bool)
      → ((u : Text) (n : ℕ) (k : Held) → nextF u n k ≡ [] → nextP u n k ≡ true)
      → f.bundle_step_fault c again o flags skip h nextF ≡ [] → t.bundle_step_passes c again o flags skip h nextP ≡ true
  step_of_bundle None flags skip h nextF nextP more e = refl
  step_of_bundle (Some x) flags zero h nextF nextP more e =
      short_word (arg_by_short c x) _ h _ _ (λ k. more _ 0 k) e
  step_of_bundle (Some x) flags (suc skip) h nextF nextP more e = more _ skip h e

  flags_word : (k : ℕ) (flags : Text) (skip : ℕ) (h : Held) → f.flags_fault c again k flags skip h ≡ [] → t.flags_pass c again k flags skip h ≡ true
  unfolding f.flags_fault t.flags_pass
  flags_word zero flags skip h e = refl
  flags_word (suc k) flags skip h e = step_of_bundle (slice_get (chars flags) 0) flags skip h _ _ (flags_word k) e

  flag_word : (o : Option (Text × Option Text)) (word : Text) (h : Held) → f.flag_word_fault c again o word h ≡ [] → t.flag_word_passes c again o word h ≡ true
  flag_word (Some p) word h e = long_word (arg_by_long c p.0) p.1 h e
  flag_word None word h e = go (short_of word) e
    where
      go : (o : Option Text) → option_map_or (λ flags. f.bundle_fault c again flags h) o [] ≡ [] → option_map_or (λ flags. t.bundle_passes c again flags h) o true ≡ true
      go None e = refl
      go (Some flags) e = flags_word (length flags) flags h.skip _ e

  positional_word : (a : Rule) (h : Held) → f.positional_fault c again a h ≡ [] → t.positional_passes c again a h ≡ true
  positional_word a h e = go (is_pending a h.pending && takes_several a) e
    where
      go : (b : Bool) → (if b then [] else f.settle_fault c again h) ≡ [] → (b || t.settle_passes c again h) ≡ true
      go true e = refl
      go false e = settles h e

-- ---- the walk

module _ (s : Shape) (names : Names) where
  other_word : (o : Option Text) (word : Text) (h : Held) → f.other_fault s o word h ≡ [] → t.other_passes s o word h ≡ true
  other_word (Some name) word h e = go (bytes_eq name (codes "help")) s.disable_help_subcommand _ _ e
    where
      go : (b d : Bool) (k : ErrorKind) (ks : Kinds) → (if b && not d then k ∷ ks else []) ≡ [] → (not b || d) ≡ true
      go true true k ks e = refl
      go true false k ks e = some_kind k ks e
      go false d k ks e = refl
  other_word None word h e = go (bytes_eq word (45 ∷ 45 ∷ [])) e
    where
      go : (b : Bool) → (if b then [] else f.flag_word_fault s.rules s.args_override_self (long_of word) word h) ≡ []
          → (b || t.flag_word_passes s.rules s.args_override_self (long_of word) word h) ≡ true
      go true e = refl
      go false e = flag_word s.rules s.args_override_self (long_of word) word h e

  one_word : (is_trailing : Bool) (waiting : Waiting) (word : Text) (h : Held) → f.word_fault s names is_trailing waiting word h ≡ [] → t.word_passes s names is_trailing waiting word h ≡ true
  one_word true waiting word h e = refl
  one_word false waiting word h e = other_word (subcommand_met names waiting word) word h e

  one_step : (position : ℕ) (h : Held) (step : Step) → f.step_fault s position h step ≡ [] → t.step_passes s position h step ≡ true
  one_step position h value e = go (arg_by_index s.rules position) e
    where
      stray : (b : Bool) (k : ErrorKind) (ks ls : Kinds) → (if b then k ∷ ks else k ∷ ls) ≡ [] → false ≡ true
      stray true k ks ls e = some_kind k ks e
      stray false k ks ls e = some_kind k ls e

      go : (o : Option Rule) → option_map_or (λ a. f.positional_fault s.rules s.args_override_self a h) o (f.stray_fault s) ≡ []
          → option_map_or (λ a. t.positional_passes s.rules s.args_override_self a h) o false ≡ true
      go None e = stray s.is_leaf _ _ _ e
      go (Some a) e = positional_word s.rules s.args_override_self a h e
  one_step position h (next w) e = refl
  one_step position h (trailing n) e = refl
  one_step position h (subcommand name) e = refl

  one_turn : (w : Walk) (word : Text) → f.turn_fault s names w word ≡ [] → t.turn_passes s names w word ≡ true
  one_turn w word e = go (is_some w.stopped) e
    where
      met : Held × Step
      met = word_met s.rules names w.is_trailing w.waiting w.position word w.held

      go : (b : Bool) → (if b then [] else or_else (f.word_fault s names w.is_trailing w.waiting word w.held) (f.step_fault s w.position met.0 met.1)) ≡ []
          → (b || (t.word_passes s names w.is_trailing w.waiting word w.held && t.step_passes s w.position met.0 met.1)) ≡ true
      go true e = refl
      go false e =
          let p = or_none _ _ e in
          both _ _ (one_word w.is_trailing w.waiting word w.held p.0) (one_step w.position met.0 met.1 p.1)

  all_words : (w : Walk) (words : List Text) → f.walk_fault s names w words ≡ [] → t.walk_passes s names w words ≡ true
  unfolding f.walk_fault t.walk_passes
  all_words w [] e = refl
  all_words w (word ∷ rest) e =
      let p = or_none _ _ e in
      both _ _ (one_turn w word p.0) (all_words (walked s.rules names w word) rest p.1)

-- ---- after the walk

each_given : (rows : List Row) (rules : List Rule) → list_any (λ a. a.required && not (t.is_given a.id rows)) rules ≡ false
    → list_all (λ a. not a.required || t.is_given a.id rows) rules ≡ true
each_given rows [] e = refl
each_given rows (a ∷ rest) e = go a.required (t.is_given a.id rows) _ _ (each_given rows rest) e
  where
    go : (r g missing given : Bool) → (missing ≡ false → given ≡ true) → ((r && not g) || missing) ≡ false → ((not r || g) && given) ≡ true
    go true true missing given more e = more e
    go true false missing given more e = absurd (true≢false e)
    go false g missing given more e = more e

either : (a b : Bool) → b ≡ true → (a || b) ≡ true
either true b e = refl
either false b e = e

-- the last checks find nothing missing
none_missing : (help enter missing : Bool) → check_kinds help enter missing ≡ [] → missing ≡ false
none_missing true enter missing e = some_kind _ _ e
none_missing false true missing e = some_kind _ _ e
none_missing false false true e = some_kind _ _ e
none_missing false false false e = refl

valid : (s : Shape) (rows : List Row) → s.arg_required_else_help ≡ false → s.subcommand_required ≡ false → list_all (λ a. a.is_free) s.rules ≡ true
    → f.check_fault s rows false ≡ [] → t.is_valid s rows false ≡ true
valid s rows helps enters free e =
    let none = none_missing (not false && (s.arg_required_else_help && not (list_any (λ r. explicit_source r.source) rows))) (not false && s.subcommand_required)
    (not (s.subcommand_negates_reqs && false) && list_any (λ a. a.required && not (t.is_given a.id rows)) s.rules) e in
    let given = each_given rows s.rules (unless s.subcommand_negates_reqs _ none) in
    both _ _ (rw helps refl) (both _ _ (rw enters refl) (both _ _ free (either _ _ given)))
  where
    unless : (b x : Bool) → (not (b && false) && x) ≡ false → x ≡ false
    unless true x e = e
    unless false x e = e

pub level : (s : Shape) (names : Names) (h : Held) (words : List Text) → s.arg_required_else_help ≡ false → s.subcommand_required ≡ false
    → list_all (λ a. a.is_free) s.rules ≡ true → list_all t.default_passes s.rules ≡ true
    → f.level_fault s names h words false [] ≡ [] → t.level_passes s names h words false ≡ true
level s names h words helps enters free defaults e =
    let p = or_none _ _ e in
    let q = or_none _ _ p.1 in
    let r = or_none _ _ q.1 in
    let end = (walk s.rules names h words).held in
    both _ _ (all_words s names (walk_from h) words p.0)
    (both _ _ (settles s.rules s.args_override_self end q.0) (both _ _ defaults (valid s (finished s.rules end) helps enters free r.1)))

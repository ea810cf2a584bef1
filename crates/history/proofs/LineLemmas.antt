-- What stands where no line does, and the one list of events of a text.
use Rattle.std.proofs.Common.{◌≡◌, ◌≢◌, ℕ, zero, suc, ◌<◌, Bool, true, false, List, [], ◌∷◌, ◌++◌, length, drop, refl, sym, ap, ap₂, ◌∙◌, subst, append_assoc, length-append, ◌==◌, All, arith}
use Rattle.std.specs.Fmt.{decimal}
use Rattle.std.specs.List.{flat_map}
use Rattle.c_tree.specs.declared.event.Event.{Event}
use Rattle.std.proofs.lemmas.Bool.Decides.{nat_tests}
use Rattle.std.proofs.lemmas.List.{append-nil}
use Rattle.std.proofs.lemmas.List.Concat.{flat_map-append}
use Rattle.history.specs.History.{kind_text, line, history, IsEvent}
use Rattle.history.specs.Listing.{NoLine, IsRest, IsListing, AtMostOneListing}
use Rattle.history.specs.Taken.{NoDigit, LacksNumber, TakesNumber, LacksKind, TakesKind, TakesLine}
use Rattle.history.proofs.DigitLemmas.{decimal_once}
use Rattle.history.proofs.KindLemmas.{kind_once}

-- the worker, and what follows it
line_parts : (event : Event) (more : List ℕ) → line event ++ more ≡ decimal event.worker ++ 32 ∷ (kind_text event.kind ++ more)
unfolding line
line_parts event more = append_assoc (decimal event.worker) (32 ∷ kind_text event.kind) more

space_first : (more : List ℕ) → NoDigit (32 ∷ more)
space_first more h = omega (arith, h.0, h.1)

pub lacks_worker : (bytes : List ℕ) → LacksNumber bytes → NoLine bytes
lacks_worker bytes none event more short e =
    none event.worker (32 ∷ (kind_text event.kind ++ more)) short.0 (space_first (kind_text event.kind ++ more)) (e ∙ line_parts event more)

-- what follows the worker of a line that stands there
after_worker : (bytes : List ℕ) (n : ℕ) (rest : List ℕ) → TakesNumber bytes n rest → (event : Event) (more : List ℕ) → IsEvent event → bytes ≡ line event ++ more → rest ≡ 32 ∷ (kind_text event.kind ++ more)
after_worker bytes n rest takes event more short e =
    (decimal_once n event.worker rest (32 ∷ (kind_text event.kind ++ more)) takes.0 short.0 takes.2 (space_first (kind_text event.kind ++ more)) (sym takes.1 ∙ e ∙ line_parts event more)).1

pub lacks_space : (bytes : List ℕ) (n : ℕ) (rest : List ℕ) → TakesNumber bytes n rest → ((more : List ℕ) → rest ≢ 32 ∷ more) → NoLine bytes
lacks_space bytes n rest takes none event more short e =
    none (kind_text event.kind ++ more) (after_worker bytes n rest takes event more short e)

pub lacks_rest : (bytes : List ℕ) (n : ℕ) (rest left : List ℕ) → TakesNumber bytes n rest → rest ≡ 32 ∷ left → LacksKind left → NoLine bytes
lacks_rest bytes n rest left takes there none event more short e =
    none event.kind more short.1 (ap (drop 1) (sym there ∙ after_worker bytes n rest takes event more short e))

pub takes_line : (event : Event) (bytes rest left more : List ℕ) → TakesNumber bytes event.worker rest → rest ≡ 32 ∷ left → TakesKind left event.kind more → TakesLine bytes event more
takes_line event bytes rest left more takes there kind =
    ((takes.0, kind.0), takes.1 ∙ ap (λ l. decimal event.worker ++ l) (there ∙ ap (λ l. 32 ∷ l) kind.1) ∙ sym (line_parts event more))

pub line_once : (a b : Event) (xs ys : List ℕ) → IsEvent a → IsEvent b → line a ++ xs ≡ line b ++ ys → (a ≡ b) × (xs ≡ ys)
line_once a b xs ys ha hb e =
    let workers = decimal_once a.worker b.worker (32 ∷ (kind_text a.kind ++ xs)) (32 ∷ (kind_text b.kind ++ ys)) ha.0 hb.0 (space_first (kind_text a.kind ++ xs)) (space_first (kind_text b.kind ++ ys)) (sym (line_parts a xs) ∙ e ∙ line_parts b ys) in
    let kinds = kind_once a.kind b.kind xs ys ha.1 hb.1 (ap (drop 1) workers.1) in
    (ap₂ (λ n k. record { worker = n; kind = k }) workers.0 kinds.0, kinds.1)

-- a line and the rest of the history
pub first_line : (event : Event) (events : List Event) (rest : List ℕ) → history (event ∷ events) ++ rest ≡ line event ++ (history events ++ rest)
first_line event events rest = append_assoc (line event) (history events) rest

pub event_tail : (event : Event) (events : List Event) → All IsEvent (event ∷ events) → All IsEvent events
event_tail event events h k d lt = h (suc k) d (omega arith)

history_once : (es fs : List Event) (xs ys : List ℕ) → All IsEvent es → All IsEvent fs → NoLine xs → NoLine ys → history es ++ xs ≡ history fs ++ ys → (es ≡ fs) × (xs ≡ ys)
history_once [] [] xs ys he hf nx ny e = (refl, e)
history_once [] (b ∷ fs) xs ys he hf nx ny e = absurd (nx b (history fs ++ ys) (hf 0 b (omega arith)) (e ∙ first_line b fs ys))
history_once (a ∷ es) [] xs ys he hf nx ny e = absurd (ny a (history es ++ xs) (he 0 a (omega arith)) (sym e ∙ first_line a es xs))
history_once (a ∷ es) (b ∷ fs) xs ys he hf nx ny e =
    let once = line_once a b (history es ++ xs) (history fs ++ ys) (he 0 a (omega arith)) (hf 0 b (omega arith)) (sym (first_line a es xs) ∙ e ∙ first_line b fs ys) in
    let r = history_once es fs xs ys (event_tail a es he) (event_tail b fs hf) nx ny once.1 in
    (ap₂ (λ x xs. x ∷ xs) once.0 r.0, r.1)

pub line_shortens : (bytes : List ℕ) (event : Event) (more : List ℕ) → bytes ≡ line event ++ more → length more < length bytes
line_shortens bytes event more e =
    let parts = ap length (e ∙ line_parts event more) in
    let outer = length-append (decimal event.worker) (32 ∷ (kind_text event.kind ++ more)) in
    let inner = length-append (kind_text event.kind) more in
    omega (arith, parts, outer, inner)

no_line_empty : NoLine []
no_line_empty event more short e = omega (arith, line_shortens [] event more e)

rest_lacks : (clean : Bool) (rest : List ℕ) → IsRest clean rest → NoLine rest
rest_lacks true rest h = subst NoLine (sym h) no_line_empty
rest_lacks false rest h = h.1

same_clean : (b c : Bool) (xs ys : List ℕ) → IsRest b xs → IsRest c ys → xs ≡ ys → b ≡ c
same_clean true true xs ys hb hc e = refl
same_clean true false xs ys hb hc e = absurd (hc.0 (sym e ∙ hb))
same_clean false true xs ys hb hc e = absurd (hb.0 (e ∙ hc))
same_clean false false xs ys hb hc e = refl

pub at_most_one_listing : AtMostOneListing
at_most_one_listing bytes es fs b c l m =
    let once = history_once es fs l.1.0 m.1.0 l.0 m.0 (rest_lacks b l.1.0 l.1.2) (rest_lacks c m.1.0 m.1.2) (sym l.1.1 ∙ m.1.1) in
    (once.0, same_clean b c l.1.0 m.1.0 l.1.2 m.1.2 once.1)

events_push : (es : List Event) (e : Event) → All IsEvent es → IsEvent e → All IsEvent (es ++ e ∷ [])
events_push [] e h s zero d lt = s
events_push [] e h s (suc k) d lt = absurd (omega arith)
events_push (a ∷ es) e h s zero d lt = h 0 d (omega arith)
events_push (a ∷ es) e h s (suc k) d lt = events_push es e (event_tail a es h) s k d (omega arith)

flat_map_push : (f : Event → List ℕ) (es : List Event) (e : Event) → flat_map f es ++ f e ≡ flat_map f (es ++ e ∷ [])
flat_map_push f es e = sym (flat_map-append f es (e ∷ []) ∙ ap (λ l. flat_map f es ++ l) (append-nil (f e)))

-- the bytes are the text of these events and the rest
abbrev pub Listed : List ℕ → List Event → List ℕ → Type 0
Listed bytes events rest = All IsEvent events × (bytes ≡ history events ++ rest)

pub listed_more : (bytes : List ℕ) (events : List Event) (rest : List ℕ) (event : Event) (more : List ℕ) → Listed bytes events rest → TakesLine rest event more → Listed bytes (events ++ event ∷ []) more
listed_more bytes events rest event more listed takes = (
  events_push events event listed.0 takes.0,
  listed.1 ∙ ap (λ l. history events ++ l) takes.1
      ∙ sym (append_assoc (history events) (line event) more)
      ∙ ap (λ l. l ++ more) (flat_map_push line events event),
)

some_left : (c : ℕ) (cs : List ℕ) → (length (c ∷ cs) == 0) ≡ false
some_left c cs = grind (arith, nat_tests)

pub listing_done : (bytes : List ℕ) (events : List Event) (rest : List ℕ) (clean : Bool) → Listed bytes events rest → NoLine rest → clean ≡ (length rest == 0) → IsListing bytes events clean
listing_done bytes events [] clean listed none is = rw is (listed.0, ([], listed.1, refl))
listing_done bytes events (c ∷ cs) clean listed none is = rw (is ∙ some_left c cs) (listed.0, (c ∷ cs, listed.1, ((λ e. cc), none)))

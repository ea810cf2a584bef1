-- A run that isn't over, in which nothing but a Step may come, has a thread that may make one.
use Rattle.std.proofs.Common.{◌≡◌, ℕ, zero, suc, ◌+◌, ◌<◌, ◌/◌, ◌%◌, ◌^◌, Bool, true, false, not, ◌&&◌, ◌||◌, ◌==◌, nat_lt, nat_le, List, [], ◌∷◌, length, Option, Some, None, refl, ap, sym, ◌∙◌, arith}
use Rattle.std.specs.Prelude.{find, filter, cond, slice_get}
use Rattle.std.specs.List.{list_any, list_all, range_with_len}
use Rattle.std.specs.Option.{option_or}
use Rattle.std.proofs.lemmas.Bool.Decides.{nat_tests}
use Rattle.c_tree.specs.declared.lifted.LStmt.TheVariants as stmt
use Rattle.c_tree.specs.declared.lifted.Lifted.{Lifted}
use Rattle.c_tree.specs.declared.place.Act.{Act}
use Rattle.c_tree.specs.declared.place.Act.TheVariants.{Do}
use Rattle.c_tree.specs.declared.run.End.{End}
use Rattle.c_tree.specs.declared.run.End.TheVariants as end
use Rattle.c_tree.specs.declared.run.Phase.{Phase}
use Rattle.c_tree.specs.declared.run.Phase.TheVariants as phase
use Rattle.c_tree.specs.declared.run.Picker.{Picker}
use Rattle.c_tree.specs.declared.run.Picker.TheVariants.{Round, Seed}
use Rattle.c_tree.specs.declared.run.Settings.{Settings}
use Rattle.c_tree.specs.declared.state.Frame.{Frame}
use Rattle.c_tree.specs.declared.state.State.{State}
use Rattle.c_tree.specs.Able.{able, standing, waits, is_update_place}
use Rattle.c_tree.specs.Run.{Core, over, threads, live_threads, is_due, is_asked, is_after, is_before, is_parked, may_step, may_park, may_decide, may_resume, or_else, where_true}
use Rattle.c_tree.specs.Plan.{picked, lowest_from, above, eligible, drawn}
use Rattle.c_tree.specs.Step.{is_live, at_frame, top_of, frames_at}
use Rattle.drive.proofs.FilterLemmas.{filter_find}
use Rattle.drive.specs.OnWay.{IsKept}
use Rattle.c_tree.proofs.BoolLemmas.{true_false, and_both, first_false, last_false}

-- a thread waits at update places alone
waits_there : (s : State) (t : ℕ) (f : Frame) (a : Act) → is_update_place a ≡ false → waits s t f a ≡ false
waits_there s t f (Do (stmt.Lock m)) h = cc
waits_there s t f (Do (stmt.Join e)) h = cc
waits_there s t f _ h = refl

able_of : (l u w : Bool) → l ≡ true → (l && u) ≡ false → (u ≡ false → w ≡ false) → (l && not w) ≡ true
able_of true false w l h f = ap not (f refl)
able_of true true w l h f = cc
able_of false u w l h f = cc

live_able : (p : Lifted) (s : State) (t : ℕ) → is_live s t ≡ true → standing p s t ≡ false → able p s t ≡ true
live_able p s t l h =
    let f = top_of (frames_at s t) in
    able_of (is_live s t) (is_update_place (at_frame p f).act) (waits s t f (at_frame p f).act) l h (waits_there s t f (at_frame p f).act)

-- which thread may make a Step
may_of : (d a p k s : Bool) → d ≡ false → a ≡ true → p ≡ false → (k && s) ≡ false → (not d && a && not p && not (k && s)) ≡ true
may_of false true false k s d a p h = ap not h
may_of true _ _ k s d a p h = cc
may_of false false _ k s d a p h = cc
may_of false true true k s d a p h = cc

any_more_step : (p q : ℕ → Bool) (x : ℕ) (b c : Bool) (xs : List ℕ) → (c ≡ true → b ≡ true) → (c || list_any q xs) ≡ true → (list_any q xs ≡ true → list_any p xs ≡ true)
    → (b || list_any p xs) ≡ true
any_more_step p q x true c xs f h go = refl
any_more_step p q x false true xs f h go = let e : false ≡ true = f refl in cc
any_more_step p q x false false xs f h go = go h

any_more : (p q : ℕ → Bool) (xs : List ℕ) → ((t : ℕ) → q t ≡ true → p t ≡ true) → list_any q xs ≡ true → list_any p xs ≡ true
any_more p q [] f h = h
any_more p q (x ∷ xs) f h = any_more_step p q x (p x) (q x) xs (f x) h (any_more p q xs f)

-- where nobody is parked and no update is asked for
not_stuck : (a b c d : Bool) (x y : Option End) → or_else x (or_else y (where_true (a && b && c && not d) end.Deadlock)) ≡ None → a ≡ true → b ≡ true → c ≡ true → d ≡ true
not_stuck a b c true x y o h1 h2 h3 = refl
not_stuck true true true false None None o h1 h2 h3 = cc
not_stuck true true true false (Some z) y o h1 h2 h3 = cc
not_stuck true true true false None (Some z) o h1 h2 h3 = cc
not_stuck false b c false x y o h1 h2 h3 = cc
not_stuck true false c false x y o h1 h2 h3 = cc
not_stuck true true false false x y o h1 h2 h3 = cc

some_able : (k : Settings) (c : Core) → over k c ≡ None → is_due k c ≡ false → is_asked c.phase ≡ false → c.parked ≡ [] → list_any (may_step k c) (threads c) ≡ true
some_able k c o d a n =
    any_more (may_step k c) (able c.program c.state) (threads c)
    (λ t i. may_of (is_due k c) (able c.program c.state t) (is_parked c t) (is_asked c.phase) (standing c.program c.state t) d i
    (ap (λ ps. list_any (λ u. u == t) ps) n) (first_false (is_asked c.phase) (standing c.program c.state t) a))
    (not_stuck (not (is_due k c)) (not (is_asked c.phase)) (length c.parked == 0) (list_any (able c.program c.state) (threads c)) c.ended (where_true (c.steps == k.limit) end.Limit) o
    (ap not d) (ap not a) (ap (λ ps. length ps == 0) n))

-- where an update is asked for
not_parkable : (k s p : Bool) → k ≡ true → p ≡ false → (k && s && not p) ≡ false → s ≡ false
not_parkable true true false h i j = cc
not_parkable true false p h i j = refl
not_parkable false s p h i j = cc
not_parkable true true true h i j = cc

live_may : (k : Settings) (c : Core) (t : ℕ) → is_due k c ≡ false → is_asked c.phase ≡ true → is_live c.state t ≡ true → is_parked c t ≡ false → may_park c t ≡ false → may_step k c t ≡ true
live_may k c t d a l p m =
    let n : standing c.program c.state t ≡ false = not_parkable (is_asked c.phase) (standing c.program c.state t) (is_parked c t) a p m in
    may_of (is_due k c) (able c.program c.state t) (is_parked c t) (is_asked c.phase) (standing c.program c.state t) d (live_able c.program c.state t l n) p
    (last_false (is_asked c.phase) (standing c.program c.state t) n)

asked_step : (p q m r : ℕ → Bool) (x : ℕ) (l u k s : Bool) (xs : List ℕ) → (l ≡ true → u ≡ false → k ≡ false → s ≡ true)
    → list_all p (cond l (x ∷ filter q xs) (filter q xs)) ≡ false → p x ≡ u → cond k (Some x) (find m xs) ≡ None
    → (list_all p (filter q xs) ≡ false → find m xs ≡ None → list_any r xs ≡ true) → (s || list_any r xs) ≡ true
asked_step p q m r x l u k true xs f a e n go = refl
asked_step p q m r x false u false false xs f a e n go = go a n
asked_step p q m r x l u true false xs f a e n go = cc
asked_step p q m r x true false false false xs f a e n go = let g : false ≡ true = f refl refl refl in cc
asked_step p q m r x true true false false xs f a e n go = go (sym (ap (λ b. b && list_all p (filter q xs)) e) ∙ a) n

some_asked : (p q m r : ℕ → Bool) (xs : List ℕ) → ((t : ℕ) → q t ≡ true → p t ≡ false → m t ≡ false → r t ≡ true) → list_all p (filter q xs) ≡ false → find m xs ≡ None → list_any r xs ≡ true
some_asked p q m r [] f a n = cc
some_asked p q m r (x ∷ xs) f a n = asked_step p q m r x (q x) (p x) (m x) (r x) xs (f x) a refl n (some_asked p q m r xs f)

not_all : (k a : Bool) → k ≡ true → (k && a) ≡ false → a ≡ false
not_all true a h i = i
not_all false a h i = cc

some_live : (k : Settings) (c : Core) → is_due k c ≡ false → is_asked c.phase ≡ true → find (may_park c) (threads c) ≡ None → may_decide c ≡ false → list_any (may_step k c) (threads c) ≡ true
some_live k c d a n m =
    some_asked (is_parked c) (is_live c.state) (may_park c) (may_step k c) (threads c) (λ t l p i. live_may k c t d a l p i)
    (not_all (is_asked c.phase) (list_all (is_parked c) (live_threads c)) a m) n

-- a parked thread is found
find_cons : (b : Bool) (x : ℕ) (r : Option ℕ) → cond b (Some x) r ≡ None → b ≡ false
find_cons true x r h = cc
find_cons false x r h = refl

find_rest : (b : Bool) (x : ℕ) (r : Option ℕ) → cond b (Some x) r ≡ None → r ≡ None
find_rest true x r h = cc
find_rest false x r h = h

none_at : (p : ℕ → Bool) (a n i : ℕ) → i < n → find p (range_with_len a n) ≡ None → p (a + i) ≡ false
none_at p a zero i l h = absurd (omega (arith, l))
none_at p a (suc n) zero l h =
    let e : a + 0 ≡ a = omega arith in
    ap p e ∙ find_cons (p a) a (find p (range_with_len (a + 1) n)) h
none_at p a (suc n) (suc i) l h =
    let e : a + suc i ≡ a + 1 + i = omega arith in
    ap p e ∙ none_at p (a + 1) n i (omega (arith, l)) (find_rest (p a) a (find p (range_with_len (a + 1) n)) h)

first_made : (x n : ℕ) (b : Bool) → (nat_lt x n && b) ≡ true → x < n
first_made x n b h = grind (arith, nat_tests)

or_same : (x : ℕ) (b : Bool) → ((x == x) || b) ≡ true
or_same x b = grind (arith, nat_tests)

nobody : (c : Core) (ps : List ℕ) → ps ≡ c.parked → list_all (λ t. nat_lt t (length c.state.threads)) ps ≡ true → is_after c.phase ≡ true
    → find (may_resume c) (threads c) ≡ None → ps ≡ []
nobody c [] e m a n = refl
nobody c (x ∷ ps) e m a n =
    let z : 0 + x ≡ x = omega arith in
    let f : may_resume c x ≡ false = ap (may_resume c) (sym z) ∙ none_at (may_resume c) 0 (length c.state.threads) x (first_made x (length c.state.threads) (list_all (λ t. nat_lt t (length c.state.threads)) ps) m) n in
    let t : may_resume c x ≡ true = and_both (is_after c.phase) (is_parked c x) a (ap (λ qs. list_any (λ u. u == x) qs) (sym e) ∙ or_same x (list_any (λ u. u == x) ps)) in
    absurd (true_false (sym t ∙ f))

some_at : (k : Settings) (c : Core) (p : Phase) → c.phase ≡ p → IsKept c → over k c ≡ None → is_due k c ≡ false → find (may_park c) (threads c) ≡ None → may_decide c ≡ false
    → find (may_resume c) (threads c) ≡ None → list_any (may_step k c) (threads c) ≡ true
some_at k c phase.Before e w o d n m r = some_able k c o d (ap is_asked e) (w.begins (ap is_before e))
some_at k c phase.Asked e w o d n m r = some_live k c d (ap is_asked e) n m
some_at k c phase.Updated e w o d n m r = some_able k c o d (ap is_asked e) (nobody c c.parked refl w.made (ap is_after e) r)
some_at k c (phase.Refused x) e w o d n m r = some_able k c o d (ap is_asked e) (nobody c c.parked refl w.made (ap is_after e) r)

-- each picker finds such a thread
any_step : (p q : ℕ → Bool) (x : ℕ) (xs : List ℕ) (b c : Bool) → (c ≡ true → b ≡ true) → (c || list_any q xs) ≡ true → cond b (Some x) (find p xs) ≡ None
    → (list_any q xs ≡ true → find p xs ≡ None → ⊥) → ⊥
any_step p q x xs true c h a n go = cc
any_step p q x xs false true h a n go = true_false (sym (h refl))
any_step p q x xs false false h a n go = go a n

any_find : (p q : ℕ → Bool) (xs : List ℕ) → ((t : ℕ) → q t ≡ true → p t ≡ true) → list_any q xs ≡ true → find p xs ≡ None → ⊥
any_find p q [] h a n = true_false (sym a)
any_find p q (x ∷ xs) h a n = any_step p q x xs (p x) (q x) (h x) a n (any_find p q xs h)

neither : (a b : Option ℕ) → option_or a b ≡ None → b ≡ None
neither None b h = h
neither (Some x) b h = cc

le_zero : (t : ℕ) (b : Bool) → b ≡ true → (nat_le 0 t && b) ≡ true
le_zero t b h = grind (arith, nat_tests)

within : (xs : List ℕ) (i : ℕ) → i < length xs → slice_get xs i ≡ None → ⊥
within [] i h e = absurd (omega arith)
within (x ∷ xs) zero h e = cc
within (x ∷ xs) (suc i) h e = within xs i (omega arith) e

none_past : (xs : List ℕ) (m : ℕ) → slice_get xs (m % length xs) ≡ None → length xs ≡ 0
none_past [] m h = refl
none_past (x ∷ xs) m h = absurd (within (x ∷ xs) (m % length (x ∷ xs)) (omega arith) h)

finds : (k : Settings) (c : Core) (g : Picker) → list_any (may_step k c) (threads c) ≡ true → picked k c g ≡ None → ⊥
finds k c (Round last) a p =
    any_find (λ t. nat_le 0 t && may_step k c t) (may_step k c) (threads c) (λ t m. le_zero t (may_step k c t) m) a (neither (lowest_from k c (above last)) (lowest_from k c 0) p)
finds k c (Seed x) a p =
    any_find (may_step k c) (may_step k c) (threads c) (λ t m. m) a (filter_find (may_step k c) (threads c) (none_past (eligible k c) (drawn x / 2 ^ 33) p))

pub some_picked : (k : Settings) (c : Core) (g : Picker) → IsKept c → over k c ≡ None → is_due k c ≡ false → find (may_park c) (threads c) ≡ None → may_decide c ≡ false
    → find (may_resume c) (threads c) ≡ None → picked k c g ≡ None → ⊥
some_picked k c g w o d n m r p = finds k c g (some_at k c c.phase refl w o d n m r) p

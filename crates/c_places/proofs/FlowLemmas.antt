-- How many places are laid out, and where it goes on from each.
use Rattle.std.proofs.Common.{◌≡◌, ◌≢◌, ℕ, zero, suc, ◌+◌, ◌<◌, ◌≤◌, List, [], ◌∷◌, ◌++◌, length, refl, sym, ap, ◌∙◌, subst, arith, zero-add, length-append}
use Rattle.c_tree.specs.declared.lifted.LStmt.{LStmt, Row_of-LStmt, end_of-LStmt, more_of-LStmt}
use Rattle.c_tree.specs.declared.lifted.LStmt.TheVariants as s
use Rattle.c_tree.specs.declared.lifted.LStmt.TheBlock.{hidden-the_row-LStmt-0 as row_of}
use Rattle.c_tree.specs.declared.lifted.LFunction.{LFunction}
use Rattle.c_tree.specs.declared.place.Place.{Place}
use Rattle.c_tree.specs.declared.place.PlaceKind.TheVariants as kind
use Rattle.c_tree.specs.declared.place.Act.{Act}
use Rattle.c_tree.specs.declared.place.Act.TheVariants.{Test, EndLoop, Finish}
use Rattle.c_tree.specs.declared.place.Exits.{Exits}
use Rattle.c_tree.specs.declared.place.Follow.TheVariants.{One, Two, Leaves}
use Rattle.c_tree.specs.Layout.{place, count, counts, enter, enters, layout, layouts, places, size_of}
use Rattle.c_tree.specs.Points.{nth, kind_of, kind_at, follow_at}
use Rattle.c_places.specs.Laws.{EachFollower}

-- the places of a loop's parts
loop_length : (c b t : List Place) (p q : Place) (i j k : ℕ) → length c ≡ i → length b ≡ j → length t ≡ k → length (c ++ p ∷ (b ++ (t ++ q ∷ []))) ≡ i + 1 + j + k + 1
loop_length c b t p q i j k x y z =
    let e1 : length (t ++ q ∷ []) ≡ length t + 1 = length-append t (q ∷ []) in
    let e2 : length (b ++ (t ++ q ∷ [])) ≡ length b + length (t ++ q ∷ []) = length-append b (t ++ q ∷ []) in
    length-append c (p ∷ (b ++ (t ++ q ∷ []))) ∙ omega (arith, e1, e2, x, y, z)

mutual
  unfolding count counts enter enters layout layouts

  pub length-layout : (x : Exits) (n next : ℕ) (t : LStmt) → length (layout x n next t) ≡ count t
  length-layout x n next (s.If' e i a j b) =
      let p = length-layouts x (n + 1) next a in
      let q = length-layouts x (n + 1 + counts a) next b in
      let both : length (layouts x (n + 1) next a ++ layouts x (n + 1 + counts a) next b) ≡ counts a + counts b = length-append (layouts x (n + 1) next a) (layouts x (n + 1 + counts a) next b) ∙ omega (arith, p, q) in
      ap suc both ∙ omega arith
  length-layout x n next (s.Loop' h c e i b j t) =
      loop_length (layouts x n (n + counts c) c) (layouts _ (n + counts c + 1) _ b) (layouts x (n + counts c + 1 + counts b) _ t) _ _ _ _ _ (length-layouts x n (n + counts c) c) (length-layouts _ (n + counts c + 1) _ b) (length-layouts x (n + counts c + 1 + counts b) _ t)
  length-layout x n next s.Break = refl
  length-layout x n next s.Continue = refl
  length-layout x n next (s.Assign to e) = refl
  length-layout x n next (s.New slot owner) = refl
  length-layout x n next (s.Getc slot) = refl
  length-layout x n next (s.Print text args) = refl
  length-layout x n next (s.Free e) = refl
  length-layout x n next (s.Call to f args) = refl
  length-layout x n next (s.Spawn to f e) = refl
  length-layout x n next (s.Join e) = refl
  length-layout x n next (s.Lock m) = refl
  length-layout x n next (s.Unlock m) = refl
  length-layout x n next (s.Return value) = refl

  pub length-layouts : (x : Exits) (n next : ℕ) {m : _} (row : Row_of-LStmt m) → length (layouts x n next row) ≡ counts row
  length-layouts x n next end_of-LStmt = refl
  length-layouts x n next (more_of-LStmt t rest) =
      length-append (layout x n (enters x (n + count t) next rest) t) (layouts x (n + count t) next rest)
      ∙ omega (arith, length-layout x n (enters x (n + count t) next rest) t, length-layouts x (n + count t) next rest)

pub length-places : (f : LFunction) → length (places f) ≡ size_of f.body + 2
length-places f =
    let last = 1 + size_of f.body in
    let outside : Exits = record { leave = last; again = last } in
    let body = layouts outside 1 last (row_of f.body) in
    let e : length body ≡ size_of f.body = length-layouts outside 1 last (row_of f.body) in
    let more : length (body ++ place Finish Leaves ∷ []) ≡ length body + 1 = length-append body (place Finish Leaves ∷ []) in
    omega (arith, e, more)

-- what follows a statement, and the exits, stand behind its places and before the end
pub record Room (x : Exits) (n next size end : ℕ) : Type 0 where
  pub next_behind : n + size ≤ next
  pub leave_behind : n + size ≤ x.leave
  pub again_behind : n + size ≤ x.again
  pub next_before : next < end
  pub leave_before : x.leave < end
  pub again_before : x.again < end

-- where it begins, and that it does so between the first number and the end
mutual
  unfolding count counts enter enters

  enter_between : (x : Exits) (n : ℕ) (t : LStmt) (end : ℕ) → n ≤ x.leave → n ≤ x.again → x.leave < end → x.again < end → n + count t ≤ end → (n ≤ enter x n t) × (enter x n t < end)
  enter_between x n (s.If' e i a j b) end p q u v h = (omega arith, omega (arith, h))
  enter_between x n (s.Loop' h c e i b j t) end p q u v r = enters_between x n (n + counts c) c end (omega arith) p q (omega (arith, r)) u v (omega (arith, r))
  enter_between x n s.Break end p q u v h = (p, u)
  enter_between x n s.Continue end p q u v h = (q, v)
  enter_between x n (s.Assign to e) end p q u v h = (omega arith, omega (arith, h))
  enter_between x n (s.New slot owner) end p q u v h = (omega arith, omega (arith, h))
  enter_between x n (s.Getc slot) end p q u v h = (omega arith, omega (arith, h))
  enter_between x n (s.Print text args) end p q u v h = (omega arith, omega (arith, h))
  enter_between x n (s.Free e) end p q u v h = (omega arith, omega (arith, h))
  enter_between x n (s.Call to f args) end p q u v h = (omega arith, omega (arith, h))
  enter_between x n (s.Spawn to f e) end p q u v h = (omega arith, omega (arith, h))
  enter_between x n (s.Join e) end p q u v h = (omega arith, omega (arith, h))
  enter_between x n (s.Lock m) end p q u v h = (omega arith, omega (arith, h))
  enter_between x n (s.Unlock m) end p q u v h = (omega arith, omega (arith, h))
  enter_between x n (s.Return value) end p q u v h = (omega arith, omega (arith, h))

  enters_between : (x : Exits) (n next : ℕ) {m : _} (row : Row_of-LStmt m) (end : ℕ) → n ≤ next → n ≤ x.leave → n ≤ x.again → next < end → x.leave < end → x.again < end → n + counts row ≤ end →
      (n ≤ enters x n next row) × (enters x n next row < end)
  enters_between x n next end_of-LStmt end o p q w u v h = (o, w)
  enters_between x n next (more_of-LStmt t rest) end o p q w u v h = enter_between x n t end p q u v (omega (arith, h))

-- where a block begins that has room
begins : (x : Exits) (n next : ℕ) {m : _} (row : Row_of-LStmt m) (end : ℕ) → Room x n next (counts row) end → (n ≤ enters x n next row) × (enters x n next row < end)
begins x n next row end r = enters_between x n next row end (omega (arith, r)) (omega (arith, r)) (omega (arith, r)) r.next_before r.leave_before r.again_before (omega (arith, r))

-- it goes on from place n to places before the end, and to greater numbers but from a loop's end
pub record Flows (n end : ℕ) (p : Place) : Type 0 where
  pub inside : EachFollower (λ m. m < end) p.follow
  pub on : kind_of p.act ≢ kind.LoopEnd → EachFollower (λ m. n < m) p.follow

-- so it does from each of some places, the first of which has the number n
abbrev pub AllFlow : ℕ → ℕ → List Place → Type 0
AllFlow n end [] = Unit {0}
AllFlow n end (p ∷ ps) = Flows n end p × AllFlow (n + 1) end ps

AllFlow-append : (n end k : ℕ) (ps qs : List Place) → AllFlow n end ps → length ps ≡ k → AllFlow (n + k) end qs → AllFlow n end (ps ++ qs)
AllFlow-append n end k [] qs a e b = let same : n + k ≡ n = omega (arith, e) in subst (λ i. AllFlow i end qs) same b
AllFlow-append n end k (p ∷ ps) qs a e b =
    let behind : n + k ≡ n + 1 + length ps = omega (arith, e) in
    (a.0, AllFlow-append (n + 1) end (length ps) ps qs a.1 refl (subst (λ i. AllFlow i end qs) behind b))

-- of a statement with one place, which `next` follows
one : (n next end : ℕ) (act : Act) → n + 1 ≤ next → next < end → AllFlow n end (place act (One next) ∷ [])
one n next end act h l = (record { inside = l; on = λ _. omega (arith, h) }, tt)

-- of a test
two : (n i j end : ℕ) (act : Act) → (n < i) × (i < end) → (n < j) × (j < end) → Flows n end (place act (Two i j))
two n i j end act a b = record { inside = (a.1, b.1); on = λ _. (a.0, b.0) }

mutual
  unfolding count counts enter enters layout layouts

  flow : (x : Exits) (n next : ℕ) (t : LStmt) (end : ℕ) → Room x n next (count t) end → AllFlow n end (layout x n next t)
  flow x n next (s.If' e i a j b) end r =
      let other = n + 1 + counts a in
      let yes : Room x (n + 1) next (counts a) end = record {
        next_behind = omega (arith, r.next_behind);
        leave_behind = omega (arith, r.leave_behind);
        again_behind = omega (arith, r.again_behind);
        next_before = r.next_before;
        leave_before = r.leave_before;
        again_before = r.again_before;
      } in
      let no : Room x other next (counts b) end = record {
        next_behind = omega (arith, r.next_behind);
        leave_behind = omega (arith, r.leave_behind);
        again_behind = omega (arith, r.again_behind);
        next_before = r.next_before;
        leave_before = r.leave_before;
        again_before = r.again_before;
      } in
      let first = begins x (n + 1) next a end yes in
      let second = begins x other next b end no in (
        two n (enters x (n + 1) next a) (enters x other next b) end (Test e) (omega (arith, first.0), first.1) (omega (arith, second.0), second.1),
        AllFlow-append (n + 1) end (counts a) (layouts x (n + 1) next a) (layouts x other next b) (flows x (n + 1) next a end yes) (length-layouts x (n + 1) next a) (flows x other next b end no),
      )
  flow x n next (s.Loop' h c e i b j t) end r =
      let test = n + counts c in
      let step = test + 1 + counts b in
      let last = step + counts t in
      let again = enters x step last t in
      let inner : Exits = record { leave = next; again = again } in
      let calls : Room x n test (counts c) end = record {
        next_behind = omega arith;
        leave_behind = omega (arith, r.leave_behind);
        again_behind = omega (arith, r.again_behind);
        next_before = omega (arith, r.next_behind, r.next_before);
        leave_before = r.leave_before;
        again_before = r.again_before;
      } in
      let steps : Room x step last (counts t) end = record {
        next_behind = omega arith;
        leave_behind = omega (arith, r.leave_behind);
        again_behind = omega (arith, r.again_behind);
        next_before = omega (arith, r.next_behind, r.next_before);
        leave_before = r.leave_before;
        again_before = r.again_before;
      } in
      let first = begins x n test c end calls in
      let fourth = begins x step last t end steps in
      let body : Room inner (test + 1) again (counts b) end = record {
        next_behind = omega (arith, fourth.0);
        leave_behind = omega (arith, r.next_behind);
        again_behind = omega (arith, fourth.0);
        next_before = fourth.1;
        leave_before = r.next_before;
        again_before = fourth.1;
      } in
      let third = begins inner (test + 1) again b end body in
      let tail : AllFlow last end (place EndLoop (One (enters x n test c)) ∷ []) = (record { inside = first.1; on = λ no. absurd (no refl) }, tt) in
      AllFlow-append n end (counts c) (layouts x n test c) _ (flows x n test c end calls) (length-layouts x n test c) (
        two test (enters inner (test + 1) again b) next end (Test e) (omega (arith, third.0), third.1) (omega (arith, r.next_behind), r.next_before),
        AllFlow-append (test + 1) end (counts b) (layouts inner (test + 1) again b) _ (flows inner (test + 1) again b end body) (length-layouts inner (test + 1) again b)
            (AllFlow-append step end (counts t) (layouts x step last t) _ (flows x step last t end steps) (length-layouts x step last t) tail),
      )
  flow x n next s.Break end r = tt
  flow x n next s.Continue end r = tt
  flow x n next (s.Assign to e) end r = one n next end _ r.next_behind r.next_before
  flow x n next (s.New slot owner) end r = one n next end _ r.next_behind r.next_before
  flow x n next (s.Getc slot) end r = one n next end _ r.next_behind r.next_before
  flow x n next (s.Print text args) end r = one n next end _ r.next_behind r.next_before
  flow x n next (s.Free e) end r = one n next end _ r.next_behind r.next_before
  flow x n next (s.Call to f args) end r = one n next end _ r.next_behind r.next_before
  flow x n next (s.Spawn to f e) end r = one n next end _ r.next_behind r.next_before
  flow x n next (s.Join e) end r = one n next end _ r.next_behind r.next_before
  flow x n next (s.Lock m) end r = one n next end _ r.next_behind r.next_before
  flow x n next (s.Unlock m) end r = one n next end _ r.next_behind r.next_before
  flow x n next (s.Return value) end r = (record { inside = tt; on = λ _. tt }, tt)

  flows : (x : Exits) (n next : ℕ) {m : _} (row : Row_of-LStmt m) (end : ℕ) → Room x n next (counts row) end → AllFlow n end (layouts x n next row)
  flows x n next end_of-LStmt end r = tt
  flows x n next (more_of-LStmt t rest) end r =
      let after = n + count t in
      let behind : Room x after next (counts rest) end = record {
        next_behind = omega (arith, r.next_behind);
        leave_behind = omega (arith, r.leave_behind);
        again_behind = omega (arith, r.again_behind);
        next_before = r.next_before;
        leave_before = r.leave_before;
        again_before = r.again_before;
      } in
      let follow = begins x after next rest end behind in
      let here : Room x n (enters x after next rest) (count t) end = record {
        next_behind = follow.0;
        leave_behind = omega (arith, r.leave_behind);
        again_behind = omega (arith, r.again_behind);
        next_before = follow.1;
        leave_before = r.leave_before;
        again_before = r.again_before;
      } in
      AllFlow-append n end (count t) (layout x n (enters x after next rest) t) (layouts x after next rest) (flow x n (enters x after next rest) t end here) (length-layout x n (enters x after next rest) t) (flows x after next rest end behind)

-- from each place of a function
places_flow : (f : LFunction) → AllFlow 0 (length (places f)) (places f)
places_flow f =
    let size = size_of f.body in
    let last = 1 + size in
    let end = size + 2 in
    let outside : Exits = record { leave = last; again = last } in
    let body = layouts outside 1 last (row_of f.body) in
    let room : Room outside 1 last size end = record {
      next_behind = omega arith;
      leave_behind = omega arith;
      again_behind = omega arith;
      next_before = omega arith;
      leave_before = omega arith;
      again_before = omega arith;
    } in
    let first = begins outside 1 last (row_of f.body) end room in
    let finish : Flows (1 + size) end (place Finish Leaves) = record { inside = tt; on = λ _. tt } in
    let all : AllFlow 0 end (places f) = (
      record { inside = first.1; on = λ _. omega (arith, first.0) },
      AllFlow-append 1 end size body (place Finish Leaves ∷ []) (flows outside 1 last (row_of f.body) end room) (length-layouts outside 1 last (row_of f.body)) (finish, tt),
    ) in
    subst (λ e. AllFlow 0 e (places f)) (sym (length-places f)) all

flow_at : (ps : List Place) (i n end : ℕ) → AllFlow n end ps → i < length ps → Flows (n + i) end (nth ps i)
flow_at [] i n end a l = absurd (omega (arith, l))
flow_at (p ∷ ps) zero n end a l = let same : n ≡ n + 0 = omega arith in subst (λ m. Flows m end p) same a.0
flow_at (p ∷ ps) (suc i) n end a l =
    let same : n + 1 + i ≡ n + suc i = omega arith in
    subst (λ m. Flows m end (nth ps i)) same (flow_at ps i (n + 1) end a.1 (omega (arith, l)))

place_flows : (f : LFunction) (n : ℕ) → n < length (places f) → Flows n (length (places f)) (nth (places f) n)
place_flows f n l = subst (λ m. Flows m (length (places f)) (nth (places f) n)) (zero-add n) (flow_at (places f) n 0 (length (places f)) (places_flow f) l)

pub stays-inside : (f : LFunction) (n : ℕ) → n < length (places f) → EachFollower (λ m. m < length (places f)) (follow_at (places f) n)
stays-inside f n l = (place_flows f n l).inside

pub goes-on : (f : LFunction) (n : ℕ) → n < length (places f) → kind_at (places f) n ≢ kind.LoopEnd → EachFollower (λ m. n < m) (follow_at (places f) n)
goes-on f n l = (place_flows f n l).on

-- The nearest of a name, after one declaration more and one less.
use Rattle.std.proofs.Common.{◌≡◌, ℕ, zero, suc, ◌+◌, ◌-◌, ◌<◌, ◌≤◌, Bool, true, false, cond, ◌||◌, List, [], ◌∷◌, ◌++◌, length, take, drop, map, Option, Some, None, refl, sym, ◌∙◌, ap, subst, nat_eq, nat_lt, arith, length-append}
use Rattle.std.specs.Prelude.{find, reverse, slice_get, nat_le, if◌then◌else◌}
use Rattle.std.specs.Option.{option_map}
use Rattle.std.specs.List.{list_any}
use Rattle.std.specs.Cmp.Lexicographic.{pointwise, same_text, other_text}
use Rattle.std.proofs.lemmas.List.{length-map, length-reverse, length-drop, drop-drop, reverse-append, reverse-reverse}
use Rattle.std.proofs.lemmas.Bool.{leb-true, leb-false}
use Rattle.c_tree.specs.declared.scope.Named.{Named}
use Rattle.c_tree.specs.Scope.{has_name, is_same_name}
use Rattle.c_check.specs.declared.locals.Entry.{Entry}
use Rattle.c_tree.specs.Numbers.{item_at}
use Rattle.c_check.specs.Stack.{Heights, height, height_at, is_at_least, named_by, KnowBefore, IsStackOf}
use Rattle.name_index.proofs.FoundLemmas.{is_same_name-comm}

-- one declaration more
pub stacked : (t n : Heights) (es : List Entry) (block : ℕ) (e : Entry) (key : List ℕ) (top : ℕ) → IsStackOf t es block → e.before ≡ height_at t key → key ≡ e.named.name → top ≡ length es →
    ((q : List ℕ) → height_at n q ≡ cond (pointwise nat_eq key q) (Some top) (height_at t q)) → IsStackOf n (e ∷ es) (block + 1)
stacked t n es block e key top was before is at sets = record {
  nearest = λ q. sets q ∙ (ap (λ k. cond (pointwise nat_eq k q) (Some top) (height_at t q)) is
      ∙ (ap (λ b. cond b (Some top) (height_at t q)) (is_same_name-comm e.named.name q)
      ∙ (ap (λ k. cond (has_name q e.named) (Some k) (height_at t q)) (at ∙ sym (length-map es (λ x. x.named))) ∙ ap (cond (has_name q e.named) (Some (length (named_by es)))) (was.nearest q))));
  before = (before ∙ (ap (height_at t) is ∙ was.nearest e.named.name), was.before);
  within = let w = was.within in omega (arith, w);
}

-- one less
pub unstacked : (t n : Heights) (es : List Entry) (block : ℕ) (e : Entry) → IsStackOf t (e ∷ es) block → block ≡ 0 →
    ((q : List ℕ) → height_at n q ≡ cond (pointwise nat_eq e.named.name q) e.before (height_at t q)) → IsStackOf n es block
unstacked t n es block e was none sets = record {
  nearest = λ q. sets q ∙ (pick q (pointwise nat_eq e.named.name q) (has_name q e.named) refl refl (was.nearest q));
  before = was.before.1;
  within = omega (arith, none);
} where
  pick : (q : List ℕ) (b d : Bool) → b ≡ pointwise nat_eq e.named.name q → d ≡ has_name q e.named →
      height_at t q ≡ (if d then Some (length (named_by es)) else height q (named_by es)) → cond b e.before (height_at t q) ≡ height q (named_by es)
  pick q true d b is h = was.before.0 ∙ ap (λ k. height k (named_by es)) (same_text e.named.name q b)
  pick q false false b is h = h
  pick q false true b is h = absurd (other_text e.named.name q b (sym (same_text q e.named.name is)))

-- the nearest name is there
pub top_is_there : (t : Heights) (es : List Entry) (block : ℕ) (e : Entry) → IsStackOf t (e ∷ es) block → height_at t e.named.name ≡ None → ⊥
top_is_there t es block e was absent = pick (has_name e.named.name e.named) refl (sym absent ∙ was.nearest e.named.name) where
  pick : (b : Bool) → b ≡ has_name e.named.name e.named → None ≡ (if b then Some (length (named_by es)) else height e.named.name (named_by es)) → ⊥
  pick true b e = cc
  pick false b h = other_text e.named.name e.named.name b refl

pub height-bound : (name : List ℕ) (xs : List Named) (i : ℕ) → height name xs ≡ Some i → i < length xs
height-bound name [] i e = absurd (let no : ⊥ = cc in no)
height-bound name (x ∷ xs) i e = pick (has_name name x) e (height-bound name xs i) where
  pick : (b : Bool) → (if b then Some (length xs) else height name xs) ≡ Some i → (height name xs ≡ Some i → i < length xs) → i < suc (length xs)
  pick true e go = let h : length xs ≡ i = cc in omega (arith, h)
  pick false e go = let l = go e in omega (arith, l)

pub slice_get_last : {X : Type 0} (xs : List X) (x : X) (n : ℕ) → n ≡ length xs → slice_get (xs ++ x ∷ []) n ≡ Some x
slice_get_last [] x n e = ap (slice_get (x ∷ [])) e
slice_get_last (y ∷ ys) x n e = ap (slice_get (y ∷ (ys ++ x ∷ []))) e ∙ slice_get_last ys x (length ys) refl

pub slice_get_front : {X : Type 0} (xs : List X) (x : X) (n : ℕ) → n < length xs → slice_get (xs ++ x ∷ []) n ≡ slice_get xs n
slice_get_front [] x n l = absurd (omega (arith, l))
slice_get_front (y ∷ ys) x zero l = refl
slice_get_front (y ∷ ys) x (suc n) l = slice_get_front ys x n (omega (arith, l))

-- what stands at the height of a name is its nearest
pub item_at-height : (name : List ℕ) (es : List Entry) → option_map (λ e. e.named) (item_at (height name (named_by es)) (reverse es)) ≡ find (has_name name) (named_by es)
item_at-height name [] = refl
item_at-height name (e ∷ es) = ap (λ z. option_map (λ e. e.named) (item_at (height name (named_by (e ∷ es))) z)) (reverse-append (e ∷ []) es)
    ∙ pick (has_name name e.named) (height name (named_by es)) refl (item_at-height name es) where
      pick : (b : Bool) (o : Option ℕ) → o ≡ height name (named_by es) → option_map (λ e. e.named) (item_at o (reverse es)) ≡ find (has_name name) (named_by es) →
          option_map (λ e. e.named) (item_at (if b then Some (length (named_by es)) else o) (reverse es ++ e ∷ [])) ≡ cond b (Some e.named) (find (has_name name) (named_by es))
      pick true o h go = ap (option_map (λ e. e.named)) (slice_get_last (reverse es) e (length (named_by es)) (length-map es (λ x. x.named) ∙ sym (length-reverse es)))
      pick false None h go = go
      pick false (Some i) h go =
          let l : i < length (named_by es) = height-bound name (named_by es) i (sym h) in
          ap (option_map (λ e. e.named)) (slice_get_front (reverse es) e i (let a = length-map es (λ x. x.named) in let b = length-reverse es in omega (arith, l, a, b))) ∙ go

-- the names above a height
pub is_at_least-height : (name : List ℕ) (start : ℕ) (xs : List Named) → start ≤ length xs →
    is_at_least start (height name xs) ≡ list_any (has_name name) (take (length xs - start) xs)
is_at_least-height name start [] l = let e : 0 ≡ 0 - start = omega arith in ap (λ n. list_any (has_name name) (take n [])) e
is_at_least-height name start (x ∷ xs) l = pick (is_at_least-height name start xs) (nat_le start (length xs)) refl where
  inner : (b : Bool) → (rest : Bool) → is_at_least start (height name xs) ≡ rest → true ≡ nat_le start (length xs) →
      is_at_least start (if b then Some (length xs) else height name xs) ≡ (b || rest)
  inner true rest e h = sym h
  inner false rest e h = e

  outer : (b : Bool) (o : Option ℕ) → o ≡ height name xs → false ≡ nat_le start (length xs) → is_at_least start (if b then Some (length xs) else o) ≡ false
  outer true o e h = sym h
  outer false None e h = refl
  outer false (Some i) e h =
      let l : length xs < start = leb-false (start) (length xs) (sym h) in
      let m : i < length xs = height-bound name xs i (sym e) in
      below (nat_le start i) refl (omega (arith, l, m)) where
        below : (b : Bool) → b ≡ nat_le start i → i < start → b ≡ false
        below true e l = absurd (let g = leb-true start i (sym e) in omega (arith, l, g))
        below false e l = refl

  pick : (start ≤ length xs → is_at_least start (height name xs) ≡ list_any (has_name name) (take (length xs - start) xs)) → (d : Bool) → d ≡ nat_le start (length xs) →
      is_at_least start (height name (x ∷ xs)) ≡ list_any (has_name name) (take (suc (length xs) - start) (x ∷ xs))
  pick go true h =
      let k : start ≤ length xs = leb-true start (length xs) (sym h) in
      let e : suc (length xs - start) ≡ suc (length xs) - start = omega (arith, k) in
      inner (has_name name x) (list_any (has_name name) (take (length xs - start) xs)) (go k) h
      ∙ ap (λ n. list_any (has_name name) (take n (x ∷ xs))) e
  pick go false h =
      let k : length xs < start = leb-false start (length xs) (sym h) in
      let e : 0 ≡ suc (length xs) - start = omega (arith, k, l) in
      outer (has_name name x) (height name xs) refl h ∙ ap (λ n. list_any (has_name name) (take n (x ∷ xs))) e

-- the same for a list of entries with the nearest last
pub popped : (t n : Heights) (old new : List Entry) (block : ℕ) (e : Entry) → IsStackOf t (reverse old) block → block ≡ 0 → old ≡ new ++ e ∷ [] →
    ((q : List ℕ) → height_at n q ≡ cond (pointwise nat_eq e.named.name q) e.before (height_at t q)) → IsStackOf n (reverse new) block
popped t n old new block e was none is sets =
    unstacked t n (reverse new) block e (subst (λ es. IsStackOf t es block) (ap reverse is ∙ reverse-append new (e ∷ [])) was) none sets

pub never_absent : (t : Heights) (old new : List Entry) (block : ℕ) (e : Entry) → IsStackOf t (reverse old) block → old ≡ new ++ e ∷ [] → height_at t e.named.name ≡ None → ⊥
never_absent t old new block e was is absent =
    top_is_there t (reverse new) block e (subst (λ es. IsStackOf t es block) (ap reverse is ∙ reverse-append new (e ∷ [])) was) absent

pub pushed : (t n : Heights) (old new : List Entry) (block : ℕ) (e : Entry) (key : List ℕ) (top : ℕ) → IsStackOf t (reverse old) block → new ≡ old ++ e ∷ [] →
    e.before ≡ height_at t key → key ≡ e.named.name → top ≡ length old →
    ((q : List ℕ) → height_at n q ≡ cond (pointwise nat_eq key q) (Some top) (height_at t q)) → IsStackOf n (reverse new) (block + 1)
pushed t n old new block e key top was is before same at sets =
    subst (λ es. IsStackOf n es (block + 1)) (sym (ap reverse is ∙ reverse-append old (e ∷ [])))
    (stacked t n (reverse old) block e key top was before same (at ∙ sym (length-reverse old)) sets)

-- the block that is innermost is another
pub in_other_block : (t : Heights) (items : List Entry) (block other : ℕ) → IsStackOf t (reverse items) block → other ≤ length items → IsStackOf t (reverse items) other
in_other_block t items block other was le = record { nearest = was.nearest; before = was.before; within = let e = length-reverse items in omega (arith, le, e) }

pub block_within : (t : Heights) (items : List Entry) (block : ℕ) → IsStackOf t (reverse items) block → block ≤ length items
block_within t items block was = let w = was.within in let e = length-reverse items in omega (arith, w, e)

pub entry_is : (t : Heights) (items slice : List Entry) (name : List ℕ) (o : Option Entry) (names : List Named) (block : ℕ) → IsStackOf t (reverse items) block → slice ≡ items →
    named_by (reverse items) ≡ names → o ≡ item_at (height_at t name) slice → option_map (λ e. e.named) o ≡ find (has_name name) names
entry_is t items slice name o names block was is view e =
    ap (option_map (λ e. e.named)) (e ∙ (ap (item_at (height_at t name)) (is ∙ sym (reverse-reverse items)) ∙ ap (λ k. item_at k (reverse (reverse items))) (was.nearest name)))
    ∙ (item_at-height name (reverse items) ∙ ap (find (has_name name)) view)

pub declared_is : (t : Heights) (items : List Entry) (block : ℕ) (name : List ℕ) (start : ℕ) (o : Option ℕ) (b : Bool) (names : List Named) → IsStackOf t (reverse items) block →
    named_by (reverse items) ≡ names → start ≡ length items - block → o ≡ height_at t name → b ≡ is_at_least start o → b ≡ list_any (has_name name) (take block names)
declared_is t items block name start o b names was view from is e =
    let w = block_within t items block was in
    let n : length names ≡ length items = ap length (sym view) ∙ (length-map (reverse items) (λ x. x.named) ∙ length-reverse items) in
    let k : length names - start ≡ block = omega (arith, from, n, w) in
    e ∙ (ap (is_at_least start) (is ∙ (was.nearest name ∙ ap (height name) view)) ∙ (is_at_least-height name start names (omega (arith, from, n))
    ∙ ap (λ i. list_any (has_name name) (take i names)) k))

-- one name less, of those that are to go
pub one_less : (count : ℕ) (xs ys : List Named) → ys ≡ drop 1 xs → count < length xs → (count ≤ length ys) × (drop (length ys - count) ys ≡ drop (length xs - count) xs)
one_less count xs ys e l =
    let n : length ys ≡ length xs - 1 = ap length e ∙ length-drop 1 xs in
    let k : 1 + (length ys - count) ≡ length xs - count = omega (arith, l, n) in
    (omega (arith, l, n), ap (drop (length ys - count)) e ∙ (drop-drop (length ys - count) 1 xs ∙ ap (λ i. drop i xs) k))

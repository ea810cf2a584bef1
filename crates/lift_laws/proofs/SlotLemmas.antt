-- The names of one function's slots are different.
use Rattle.std.proofs.Common.{◌≡◌, ℕ, zero, suc, ◌+◌, ◌<◌, ◌≤◌, ◌^◌, Bool, true, false, cond, ◌&&◌, ◌||◌, ◌==◌, nat_lt, List, [], ◌∷◌, ◌++◌, length, Option, Some, None, refl, sym, ap, subst, ◌∙◌, arith}
use Rattle.std.specs.Prelude.{map, codes, count_by, nat_le, IsTrue, All, if◌then◌else◌}
use Rattle.std.specs.List.{AllByRecursion, list_all, enumerate_from}
use Rattle.std.specs.Fmt.{decimal}
use Rattle.std.specs.Cmp.Lexicographic.{same_text, other_text}
use Rattle.std.proofs.lemmas.Fmt.{decimal_injective}
use Rattle.std.proofs.lemmas.Bool.{ltb-true, ltb-false}
use Rattle.std.proofs.lemmas.List.{length-append}
use Rattle.std.proofs.lemmas.List.Elements.{recursion_from_All}
use Rattle.std.proofs.lemmas.List.Sums.{sum_by-append, count_by-le-length}
use Rattle.c_tree.specs.Compute.{literals}
use Rattle.c_tree.specs.declared.ty.Ty.{Ty}
use Rattle.c_tree.specs.declared.program.Program.{Program}
use Rattle.c_tree.specs.declared.program.Field.{Field}
use Rattle.c_tree.specs.declared.program.Function.{Function}
use Rattle.c_tree.specs.declared.program.StmtKind.{StmtKind, Row_of-Stmt, end_of-Stmt, more_of-Stmt, more_of-Stmt as one, Held-StmtKind-If-2, None', Some'}
use Rattle.c_tree.specs.declared.program.StmtKind.TheBlock.{hidden-the_row-Stmt-0 as row_of}
use Rattle.c_tree.specs.declared.program.StmtKind.TheVariants as s
use Rattle.c_tree.specs.declared.lifted.Slot.{Slot}
use Rattle.c_tree.specs.Scope.{Variable, is_same_name, file_scope, with_parameters, locals, locals_of, locals_else}
use Rattle.c_tree.specs.Typing.{definitions}
use Rattle.c_tree.specs.Lifting.{Spot, slot_name, slots_from, temporary_slots, body_of, variables_of, lift_function, lift, lift_all, lift_limit}
use Rattle.c_tree.specs.Formed.{AreDifferent, HasDifferentSlots}
use Rattle.c_tree.specs.ReadForm.{HasReadForm, IsName, is_name, is_name_byte, IsReadStmt, AreReadStmts, IsReadElse, IsReadField, IsReadFunction}
use Rattle.lift_laws.proofs.LimitLemmas.{both_true, none_passed, each_within, each_second}
use Rattle.lift_laws.proofs.ApartLemmas.{Apart, each_weaker, each_filter, distinct}
use Rattle.lift_laws.proofs.FormedLemmas.{all-map}

-- a name has no dot
abbrev pub NoDot : List ℕ → Type 0
NoDot name = AllByRecursion (λ b. b ≡ 46 → ⊥) name

pub no_dot_byte : (b : ℕ) → is_name_byte b ≡ true → b ≡ 46 → ⊥
no_dot_byte b h e = let same : is_name_byte 46 ≡ true = subst (λ c. is_name_byte c ≡ true) e h in cc

pub no_dot_rest : (bs : List ℕ) → list_all is_name_byte bs ≡ true → NoDot bs
no_dot_rest [] h = tt
no_dot_rest (b ∷ bs) h = let both = both_true (is_name_byte b) (list_all is_name_byte bs) h in (no_dot_byte b both.0, no_dot_rest bs both.1)

pub no_dot : (name : List ℕ) → IsName name → NoDot name
no_dot [] h = tt
no_dot (b ∷ bs) h = no_dot_rest (b ∷ bs) h

pub dot_in : (b d : List ℕ) → NoDot (b ++ (46 ∷ []) ++ d) → ⊥
dot_in [] d h = h.0 refl
dot_in (x ∷ b) d h = dot_in b d h.1

pub ends_at_dot : (a b d e : List ℕ) → NoDot a → NoDot b → a ++ (46 ∷ []) ++ d ≡ b ++ (46 ∷ []) ++ e → (a ≡ b) × (d ≡ e)
ends_at_dot [] [] d e h k is = (refl, cc)
ends_at_dot [] (y ∷ b) d e h k is = absurd (k.0 (let q : y ≡ 46 = cc in q))
ends_at_dot (x ∷ a) [] d e h k is = absurd (h.0 (let q : x ≡ 46 = cc in q))
ends_at_dot (x ∷ a) (y ∷ b) d e h k is =
    let first : x ≡ y = cc in
    let r = ends_at_dot a b d e h.1 k.1 (let q : a ++ (46 ∷ []) ++ d ≡ b ++ (46 ∷ []) ++ e = cc in q) in
    (ap (λ z. z ∷ a) first ∙ ap (λ zs. y ∷ zs) r.0, r.1)

-- a name and its number are told by the slot's name
abbrev pub numbered_name : Bool → List ℕ → ℕ → List ℕ
numbered_name b name j = if b then name else name ++ (46 ∷ []) ++ decimal j

pub slot_name_is : (name : List ℕ) (j : ℕ) → slot_name name j ≡ numbered_name (nat_lt j 2) name j
slot_name_is name j = refl

pub slot_names_differ : (a b : List ℕ) (i j : ℕ) → IsName a → IsName b → 0 < i → i < j → j < 1000 → a ≡ b → slot_name a i ≡ slot_name b j → ⊥
slot_names_differ a b i j h k some less small same e = pick (nat_lt i 2) (nat_lt j 2) refl refl e where
  pick : (x y : Bool) → x ≡ nat_lt i 2 → y ≡ nat_lt j 2 → numbered_name x a i ≡ numbered_name y b j → ⊥
  pick true true p q e = let r = ltb-true j 2 (sym q) in omega (arith, r, some, less)
  pick false true p q e = let r = ltb-true j 2 (sym q) in let s = ltb-false i 2 (sym p) in omega (arith, r, s, less)
  pick true false p q e = dot_in b (decimal j) (subst NoDot e (no_dot a h))
  pick false false p q e =
      let r = decimal_injective i j (omega (arith, less, small)) (omega (arith, small)) (ends_at_dot a b (decimal i) (decimal j) (no_dot a h) (no_dot b k) e).1 in omega (arith, r, less)

pub slot_names_told : (a b : List ℕ) (i j : ℕ) → IsName a → IsName b → slot_name a i ≡ slot_name b j → a ≡ b
slot_names_told a b i j h k e = pick (nat_lt i 2) (nat_lt j 2) e where
  pick : (x y : Bool) → numbered_name x a i ≡ numbered_name y b j → a ≡ b
  pick true true e = e
  pick false true e = absurd (dot_in a (decimal i) (subst NoDot (sym e) (no_dot b k)))
  pick true false e = absurd (dot_in b (decimal j) (subst NoDot e (no_dot a h)))
  pick false false e = (ends_at_dot a b (decimal i) (decimal j) (no_dot a h) (no_dot b k) e).0

-- and no slot of a name begins with a dot
pub no_first_dot : (name d : List ℕ) (j : ℕ) → IsName name → slot_name name j ≡ 46 ∷ d → ⊥
no_first_dot [] d j h e = cc
no_first_dot (b ∷ bs) d j h e = pick (nat_lt j 2) e where
  pick : (x : Bool) → numbered_name x (b ∷ bs) j ≡ 46 ∷ d → ⊥
  pick true e = (no_dot (b ∷ bs) h).0 (let q : b ≡ 46 = cc in q)
  pick false e = (no_dot (b ∷ bs) h).0 (let q : b ≡ 46 = cc in q)

-- how often a name was seen
abbrev pub seen_of : List ℕ → List Variable → ℕ
seen_of name seen = count_by (λ y. is_same_name y.name name) seen

pub same_self : (a : List ℕ) → is_same_name a a ≡ true
same_self a = pick (is_same_name a a) refl where
  pick : (b : Bool) → b ≡ is_same_name a a → is_same_name a a ≡ true
  pick true h = sym h
  pick false h = absurd (other_text a a h refl)

pub seen_more : (name : List ℕ) (seen : List Variable) (y : Variable) → seen_of name seen ≤ seen_of name (seen ++ y ∷ [])
seen_more name seen y = let a = sum_by-append (λ z. cond (is_same_name z.name name) 1 0) seen (y ∷ []) in omega (arith, a)

pub seen_now : (seen : List Variable) (y : Variable) → seen_of y.name seen + 1 ≡ seen_of y.name (seen ++ y ∷ [])
seen_now seen y =
    let a = sum_by-append (λ z. cond (is_same_name z.name y.name) 1 0) seen (y ∷ []) in
    let b : 0 + cond (is_same_name y.name y.name) 1 0 ≡ 1 = ap (λ b. 0 + cond b 1 0) (same_self y.name) in omega (arith, a, b)

abbrev pub Unlike : Slot → Slot → Type 0
Unlike x y = x.name ≡ y.name → ⊥

pub each_later : (name : List ℕ) (n : ℕ) (seen xs : List Variable) → IsName name → 0 < n → n ≤ seen_of name seen → length seen + length xs ≤ 128 → AllByRecursion (λ x. IsName x.name) xs →
    AllByRecursion (λ (s : Slot). slot_name name n ≡ s.name → ⊥) (slots_from seen xs)
each_later name n seen [] is some less few names = tt
each_later name n seen (x ∷ xs) is some less few names = (here, each_later name n (seen ++ x ∷ []) xs is some (omega (arith, less, seen_more name seen x)) (let l = length-append seen (x ∷ []) in omega (arith, l, few)) names.1) where
  here : slot_name name n ≡ slot_name x.name (seen_of x.name seen + 1) → ⊥
  here e =
      let same = slot_names_told name x.name n (seen_of x.name seen + 1) is names.0 e in
      let count = count_by-le-length (λ z. is_same_name z.name x.name) seen in
      let now : n ≤ seen_of x.name seen = subst (λ a. n ≤ seen_of a seen) same less in
      slot_names_differ name x.name n (seen_of x.name seen + 1) is names.0 some (omega (arith, now)) (omega (arith, count, few)) same e

pub apart_slots : (seen xs : List Variable) → length seen + length xs ≤ 128 → AllByRecursion (λ x. IsName x.name) xs → Apart Unlike (slots_from seen xs)
apart_slots seen [] few names = tt
apart_slots seen (x ∷ xs) few names =
    let l = length-append seen (x ∷ []) in
    let now = seen_now seen x in (
      each_later x.name (seen_of x.name seen + 1) (seen ++ x ∷ []) xs names.0 (omega arith) (omega (arith, now)) (omega (arith, l, few)) names.1,
      apart_slots (seen ++ x ∷ []) xs (omega (arith, l, few)) names.1,
    )

-- temporaries
pub each_temporary : (n k : ℕ) (made : List Ty) → n < k → k + length made ≤ 1000 → AllByRecursion (λ (s : Slot). 46 ∷ decimal n ≡ s.name → ⊥) (temporary_slots k made)
each_temporary n k [] less few = tt
each_temporary n k (t ∷ made) less few = (here, each_temporary n (k + 1) made (omega (arith, less)) (omega (arith, few))) where
  here : 46 ∷ decimal n ≡ 46 ∷ decimal k → ⊥
  here e = let r = decimal_injective n k (omega (arith, less, few)) (omega (arith, few)) (let q : decimal n ≡ decimal k = cc in q) in omega (arith, r, less)

pub apart_temporaries : (k : ℕ) (made : List Ty) → k + length made ≤ 1000 → Apart Unlike (temporary_slots k made)
apart_temporaries k [] few = tt
apart_temporaries k (t ∷ made) few = (each_temporary k (k + 1) made (omega arith) (omega (arith, few)), apart_temporaries (k + 1) made (omega (arith, few)))

pub each_unlike_temporary : (name : List ℕ) (j k : ℕ) (made : List Ty) → IsName name → AllByRecursion (λ (s : Slot). slot_name name j ≡ s.name → ⊥) (temporary_slots k made)
each_unlike_temporary name j k [] is = tt
each_unlike_temporary name j k (t ∷ made) is = (no_first_dot name (decimal k) j is, each_unlike_temporary name j (k + 1) made is)

-- both
pub each_append : {A : Type 0} (P : A → Type 0) (xs ys : List A) → AllByRecursion P xs → AllByRecursion P ys → AllByRecursion P (xs ++ ys)
each_append P [] ys e h = h
each_append P (x ∷ xs) ys e h = (e.0, each_append P xs ys e.1 h)

pub apart_both : (seen xs : List Variable) (k : ℕ) (made : List Ty) → AllByRecursion (λ x. IsName x.name) xs → Apart Unlike (slots_from seen xs) → Apart Unlike (temporary_slots k made) →
    Apart Unlike (slots_from seen xs ++ temporary_slots k made)
apart_both seen [] k made names a b = b
apart_both seen (x ∷ xs) k made names a b = (
  each_append (λ (s : Slot). slot_name x.name (seen_of x.name seen + 1) ≡ s.name → ⊥) (slots_from (seen ++ x ∷ []) xs) (temporary_slots k made) a.0 (each_unlike_temporary x.name (seen_of x.name seen + 1) k made names.0),
  apart_both (seen ++ x ∷ []) xs k made names.1 a.1 b,
)

-- the names that a function declares
abbrev pub AreNamed : List Variable → Type 0
AreNamed xs = AllByRecursion (λ x. IsName x.name) xs

mutual
  unfolding IsReadStmt AreReadStmts IsReadElse

  pub named_locals : (kind : StmtKind) → IsReadStmt kind → AreNamed (locals kind)
  named_locals s.Empty h = tt
  named_locals (s.Block' _ body) h = named_block body h
  named_locals (s.Declare u name value) h = (h.0, tt)
  named_locals (s.If' test _ (one _ body _) other) h = each_append (λ x. IsName x.name) (locals body) (locals_else other) (named_locals body h.2) (named_else other h.3)
  named_locals (s.While' test _ (one _ body _)) h = named_locals body h.2
  named_locals (s.For' _ starts test step _ (one _ body _)) h = each_append (λ x. IsName x.name) (locals_of starts) (locals body) (named_block starts h.1) (named_locals body h.5)
  named_locals s.Break h = tt
  named_locals s.Continue h = tt
  named_locals (s.Return value) h = tt
  named_locals (s.Assign x op y) h = tt
  named_locals (s.Run x) h = tt
  named_locals (s.Free x) h = tt
  named_locals (s.Print text args) h = tt

  pub named_block : {m : _} → (body : Row_of-Stmt m) → AreReadStmts body → AreNamed (locals_of body)
  named_block end_of-Stmt h = tt
  named_block (more_of-Stmt _ kind rest) h = each_append (λ x. IsName x.name) (locals kind) (locals_of rest) (named_locals kind h.0) (named_block rest h.1)

  pub named_else : (other : Held-StmtKind-If-2) → IsReadElse other → AreNamed (locals_else other)
  named_else None' h = tt
  named_else (Some' _ (one _ kind _)) h = named_locals kind h.1

pub named_parameters : (qs : List Field) → AllByRecursion IsReadField qs → AreNamed (map (λ q. let x : Variable = record { name = q.name.it; ty = q.ty } in x) qs)
named_parameters [] h = tt
named_parameters (q ∷ qs) h = (h.0.0, named_parameters qs h.1)

pub named_variables : (f : Function) → IsReadFunction f → AreNamed (variables_of f)
named_variables f h =
    each_append (λ x. IsName x.name) _ (locals_of (row_of (body_of f.body))) (named_parameters f.params (recursion_from_All IsReadField f.params h.1)) (named_block (row_of (body_of f.body)) h.2)

-- the slots of a function, and of all
pub length-slots : (seen xs : List Variable) → length (slots_from seen xs) ≡ length xs
length-slots seen [] = refl
length-slots seen (x ∷ xs) = let r = length-slots (seen ++ x ∷ []) xs in omega (arith, r)

pub length-temporaries : (k : ℕ) (made : List Ty) → length (temporary_slots k made) ≡ length made
length-temporaries k [] = refl
length-temporaries k (t ∷ made) = let r = length-temporaries (k + 1) made in omega (arith, r)

pub different_slots : (xs : List Variable) (made : List Ty) → AreNamed xs → length (slots_from [] xs ++ temporary_slots 1 made) ≤ 128 → AreDifferent (map (λ x. x.name) (slots_from [] xs ++ temporary_slots 1 made))
different_slots xs made names few =
    let l = length-append (slots_from [] xs) (temporary_slots 1 made) in
    let a = length-slots [] xs in
    let b = length-temporaries 1 made in
    distinct (λ x. x.name) (slots_from [] xs ++ temporary_slots 1 made)
    (apart_both [] xs 1 made names (apart_slots [] xs (omega (arith, l, a, few)) names) (apart_temporaries 1 made (omega (arith, l, b, few))))

pub function_slots : (p : Program) (f : Function) → IsReadFunction f → length (lift_function p f).slots ≤ 128 → AreDifferent (map (λ x. x.name) (lift_function p f).slots)
function_slots p f read few =
    let w : Spot = record { scope = with_parameters (file_scope p) f.params; slots = length (variables_of f); ret = f.ret } in
    different_slots (variables_of f) (lift_all w [] (row_of (body_of f.body))).made (named_variables f read) few

pub slots_are_different : (p : Program) → HasReadForm p → lift_limit p ≡ None → HasDifferentSlots (lift p)
slots_are_different p read kept = all-map (lift_function p) (λ f. AreDifferent (map (λ x. x.name) f.slots)) (definitions p) (each (definitions p) reads few) where
  reads : AllByRecursion IsReadFunction (definitions p)
  reads = each_filter IsReadFunction _ p.functions (recursion_from_All IsReadFunction p.functions read.functions)

  few : AllByRecursion (λ f. length (lift_function p f).slots ≤ 128) (definitions p)
  few = each_second _ (λ f. length (lift_function p f).slots ≤ 128) (definitions p) (each_within p (definitions p) (none_passed p (definitions p) kept))

  each : (fs : List Function) → AllByRecursion IsReadFunction fs → AllByRecursion (λ f. length (lift_function p f).slots ≤ 128) fs → AllByRecursion (λ f. AreDifferent (map (λ x. x.name) (lift_function p f).slots)) fs
  each [] h k = tt
  each (f ∷ fs) h k = (function_slots p f h.0 k.0, each fs h.1 k.1)

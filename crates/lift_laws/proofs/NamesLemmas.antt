-- The names of one kind are different in a well-typed program, and the declarations of one function agree.
use Rattle.std.proofs.Common.{◌≡◌, ℕ, zero, suc, ◌+◌, Bool, true, false, cond, ◌&&◌, ◌||◌, List, [], ◌∷◌, ◌++◌, Option, Some, None, refl, sym, ap, subst, ◌∙◌, arith, append_assoc}
use Rattle.std.specs.Prelude.{map, find, filter, not, is_some, slice_get}
use Rattle.std.specs.List.{AllByRecursion, IsDistinct, list_any, enumerate_from}
use Rattle.std.specs.Cmp.Lexicographic.{same_text, other_text}
use Rattle.std.proofs.lemmas.List.{append-nil}
use Rattle.c_tree.specs.declared.ty.Ty.{Ty}
use Rattle.c_tree.specs.declared.ty.Ty.TheVariants as ty
use Rattle.c_tree.specs.declared.cause.CheckCause.TheVariants as c
use Rattle.c_tree.specs.declared.scope.Fault.{Fault}
use Rattle.c_tree.specs.declared.scope.Named.{Named}
use Rattle.c_tree.specs.declared.scope.Meaning.{Meaning}
use Rattle.c_tree.specs.declared.scope.Meaning.TheVariants as m
use Rattle.c_tree.specs.declared.program.At.{At}
use Rattle.c_tree.specs.declared.program.Program.{Program}
use Rattle.c_tree.specs.declared.program.Field.{Field}
use Rattle.c_tree.specs.declared.program.Function.{Function}
use Rattle.c_tree.specs.declared.program.GlobalDecl.{GlobalDecl}
use Rattle.c_tree.specs.Fault.{fault, unless}
use Rattle.c_tree.specs.Scope.{is_same_name, is_same_type, has_name, named, declared, names_of, in_order, routine}
use Rattle.c_tree.specs.Typing.{second_names, may_follow, name_repeats, agree, are_same_types, has_body, definitions}
use Rattle.lift_laws.proofs.NoFaults.{no_left, no_right, passes}
use Rattle.lift_laws.proofs.LimitLemmas.{both_true}
use Rattle.lift_laws.proofs.ApartLemmas.{Apart, each_weaker, apart_weaker, apart_left, apart_right, apart_push, apart_filter, apart_in_order, same_flip, distinct}

-- structs and fields
pub not_false : (b : Bool) → not b ≡ true → b ≡ false
not_false false e = refl
not_false true e = cc

pub none_of : (name : List ℕ) (seen : List (List ℕ)) → list_any (is_same_name name) seen ≡ false → AllByRecursion (λ s. name ≡ s → ⊥) seen
none_of name [] e = tt
none_of name (s ∷ seen) e = pick (is_same_name name s) refl e (none_of name seen) where
  pick : (b : Bool) → b ≡ is_same_name name s → (b || list_any (is_same_name name) seen) ≡ false → (list_any (is_same_name name) seen ≡ false → AllByRecursion (λ s. name ≡ s → ⊥) seen) →
      AllByRecursion (λ s. name ≡ s → ⊥) (s ∷ seen)
  pick false h e more = (other_text name s h, more e)
  pick true h e more = cc

pub record NoSecond (seen : List (List ℕ)) (names : List (At (List ℕ))) : Type 0 where
  pub old : AllByRecursion (λ s. AllByRecursion (λ n. n.it ≡ s → ⊥) names) seen
  pub new : Apart (λ x y. x.it ≡ y.it → ⊥) names

pub each_more : {A B : Type 0} (R : A → B → Type 0) (x : A) (rest : List A) (seen : List B) → AllByRecursion (R x) seen → AllByRecursion (λ s. AllByRecursion (λ n. R n s) rest) seen →
    AllByRecursion (λ s. AllByRecursion (λ n. R n s) (x ∷ rest)) seen
each_more R x rest [] e h = tt
each_more R x rest (s ∷ seen) e h = ((e.0, h.0), each_more R x rest seen e.1 h.1)

pub each_nothing : {A B : Type 0} (R : A → B → Type 0) (seen : List B) → AllByRecursion (λ s. AllByRecursion (λ n. R n s) []) seen
each_nothing R [] = tt
each_nothing R (s ∷ seen) = (tt, each_nothing R seen)

pub no_second : (seen : List (List ℕ)) (names : List (At (List ℕ))) → second_names seen names ≡ [] → NoSecond seen names
no_second seen [] e = record { old = each_nothing (λ (n : At (List ℕ)) s. n.it ≡ s → ⊥) seen; new = tt }
no_second seen (n ∷ rest) e =
    let test = not (list_any (is_same_name n.it) seen) in
    let faults = unless test (fault n.at (c.Twice n.it)) in
    let here = none_of n.it seen (not_false (list_any (is_same_name n.it) seen) (passes test _ (no_left faults (second_names (n.it ∷ seen) rest) e))) in
    let others = no_second (n.it ∷ seen) rest (no_right faults (second_names (n.it ∷ seen) rest) e) in
    let flip : (x : At (List ℕ)) → (x.it ≡ n.it → ⊥) → n.it ≡ x.it → ⊥ = λ x other h. other (sym h) in
    record {
      old = each_more (λ (n : At (List ℕ)) s. n.it ≡ s → ⊥) n rest seen here others.old.1;
      new = (each_weaker flip rest others.old.0, others.new);
    }

pub apart-map : {A B : Type 0} (f : A → B) (R : B → B → Type 0) (xs : List A) → Apart R (map f xs) → Apart (λ x y. R (f x) (f y)) xs
apart-map f R [] e = tt
apart-map f R (x ∷ xs) e = (each xs e.0, apart-map f R xs e.1) where
  each : (ys : List _) → AllByRecursion (R (f x)) (map f ys) → AllByRecursion (λ y. R (f x) (f y)) ys
  each [] e = tt
  each (y ∷ ys) e = (e.0, each ys e.1)

-- functions of one form
abbrev pub types : Function → List Ty
types f = map (λ q. q.ty) f.params

abbrev pub SameForm : Option Function → Option Function → Type 0
SameForm (Some f) (Some g) = (f.ret ≡ g.ret) × (types f ≡ types g)
SameForm (Some f) None = ⊥
SameForm None g = ⊥

pub form_flip : (f g : Option Function) → SameForm f g → SameForm g f
form_flip (Some f) (Some g) e = (sym e.0, sym e.1)
form_flip (Some f) None e = absurd e
form_flip None g e = absurd e

pub form_then : (f g h : Option Function) → SameForm f g → SameForm g h → SameForm f h
form_then (Some f) (Some g) (Some h) d e = (d.0 ∙ e.0, d.1 ∙ e.1)
form_then (Some f) (Some g) None d e = absurd e
form_then (Some f) None h d e = absurd d
form_then None g h d e = absurd d

pub same_type : (a b : Ty) → is_same_type a b ≡ true → a ≡ b
same_type ty.Int ty.Int e = refl
same_type ty.Thread ty.Thread e = refl
same_type ty.Void ty.Void e = refl
same_type ty.AnyPtr ty.AnyPtr e = refl
same_type (ty.Ptr a) (ty.Ptr b) e = ap ty.Ptr (same_text a b (sym e))
same_type ty.Int ty.Thread e = cc
same_type ty.Int ty.Void e = cc
same_type ty.Int ty.AnyPtr e = cc
same_type ty.Int (ty.Ptr b) e = cc
same_type ty.Thread ty.Int e = cc
same_type ty.Thread ty.Void e = cc
same_type ty.Thread ty.AnyPtr e = cc
same_type ty.Thread (ty.Ptr b) e = cc
same_type ty.Void ty.Int e = cc
same_type ty.Void ty.Thread e = cc
same_type ty.Void ty.AnyPtr e = cc
same_type ty.Void (ty.Ptr b) e = cc
same_type ty.AnyPtr ty.Int e = cc
same_type ty.AnyPtr ty.Thread e = cc
same_type ty.AnyPtr ty.Void e = cc
same_type ty.AnyPtr (ty.Ptr b) e = cc
same_type (ty.Ptr a) ty.Int e = cc
same_type (ty.Ptr a) ty.Thread e = cc
same_type (ty.Ptr a) ty.Void e = cc
same_type (ty.Ptr a) ty.AnyPtr e = cc

pub same_types : (as' bs : List Field) → are_same_types as' bs ≡ true → map (λ q. q.ty) as' ≡ map (λ q. q.ty) bs
same_types [] [] e = refl
same_types [] (b ∷ bs) e = cc
same_types (a ∷ as') [] e = cc
same_types (a ∷ as') (b ∷ bs) e =
    let both = both_true (is_same_type a.ty b.ty) (are_same_types as' bs) e in
    ap (λ t. t ∷ map (λ q. q.ty) as') (same_type a.ty b.ty both.0) ∙ ap (λ ts. b.ty ∷ ts) (same_types as' bs both.1)

pub agreed : (f g : Option Function) → agree f g ≡ true → SameForm f g
agreed (Some f) (Some g) e =
    let both = both_true (is_same_type f.ret g.ret) (are_same_types f.params g.params) e in (same_type f.ret g.ret both.0, same_types f.params g.params both.1)
agreed (Some f) None e = cc
agreed None g e = cc

-- two declarations of one name are functions of one form, of which one has a body at most
pub record Goes (p : Program) (x y : Named) : Type 0 where
  pub form : x.name ≡ y.name → SameForm (routine p x.meaning) (routine p y.meaning)
  pub one : x.name ≡ y.name → has_body (routine p x.meaning) ≡ true → has_body (routine p y.meaning) ≡ true → ⊥

pub goes_flip : (p : Program) (x y : Named) → Goes p x y → Goes p y x
goes_flip p x y e = record {
  form = λ h. form_flip (routine p x.meaning) (routine p y.meaning) (e.form (sym h));
  one = λ h b d. e.one (sym h) d b;
}

-- the form is that of the first of the name, and so that of all
pub forms_follow : (p : Program) (x z : Named) (seen : List Named) → Apart (Goes p) seen → find (has_name x.name) seen ≡ Some z → SameForm (routine p z.meaning) (routine p x.meaning) →
    AllByRecursion (λ y. y.name ≡ x.name → SameForm (routine p y.meaning) (routine p x.meaning)) seen
forms_follow p x z [] apart e same = tt
forms_follow p x z (s ∷ rest) apart e same = pick (has_name x.name s) refl e (λ d. forms_follow p x z rest apart.1 d same) where
  pick : (b : Bool) → b ≡ has_name x.name s → cond b (Some s) (find (has_name x.name) rest) ≡ Some z →
      (find (has_name x.name) rest ≡ Some z → AllByRecursion (λ y. y.name ≡ x.name → SameForm (routine p y.meaning) (routine p x.meaning)) rest) →
      AllByRecursion (λ y. y.name ≡ x.name → SameForm (routine p y.meaning) (routine p x.meaning)) (s ∷ rest)
  pick true h e more =
      let is : s ≡ z = cc in
      let first : SameForm (routine p s.meaning) (routine p x.meaning) = subst (λ u. SameForm (routine p u.meaning) (routine p x.meaning)) (sym is) same in
      let step : (y : Named) → Goes p s y → y.name ≡ x.name → SameForm (routine p y.meaning) (routine p x.meaning) =
      λ y goes d. form_then (routine p y.meaning) (routine p s.meaning) (routine p x.meaning)
      (form_flip (routine p s.meaning) (routine p y.meaning) (goes.form (sym (same_text x.name s.name h) ∙ sym d))) first in
      (λ d. first, each_weaker step rest apart.0)
  pick false h e more = (λ d. absurd (other_text x.name s.name h (sym d)), more e)

pub no_names : (p : Program) (x : Named) (seen : List Named) → find (has_name x.name) seen ≡ None → AllByRecursion (λ y. Goes p y x) seen
no_names p x [] e = tt
no_names p x (s ∷ rest) e = pick (has_name x.name s) refl e (no_names p x rest) where
  pick : (b : Bool) → b ≡ has_name x.name s → cond b (Some s) (find (has_name x.name) rest) ≡ None → (find (has_name x.name) rest ≡ None → AllByRecursion (λ y. Goes p y x) rest) →
      AllByRecursion (λ y. Goes p y x) (s ∷ rest)
  pick true h e more = cc
  pick false h e more = (record { form = λ d. absurd (other_text x.name s.name h (sym d)); one = λ d. absurd (other_text x.name s.name h (sym d)) }, more e)

pub bodies_follow : (p : Program) (x : Named) (seen : List Named) → not (has_body (routine p x.meaning) && list_any (λ z. has_name x.name z && has_body (routine p z.meaning)) seen) ≡ true →
    AllByRecursion (λ y. y.name ≡ x.name → has_body (routine p y.meaning) ≡ true → has_body (routine p x.meaning) ≡ true → ⊥) seen
bodies_follow p x [] e = tt
bodies_follow p x (s ∷ rest) e =
    let more = list_any (λ z. has_name x.name z && has_body (routine p z.meaning)) rest in (
      λ d b h. here (has_name x.name s) refl (sym d) b h,
      bodies_follow p x rest (less (has_body (routine p x.meaning)) (has_name x.name s && has_body (routine p s.meaning)) more e),
    ) where
      less : (a b c : Bool) → not (a && (b || c)) ≡ true → not (a && c) ≡ true
      less false b c e = refl
      less true false c e = e
      less true true c e = cc

      none : (a b d : Bool) (c : Bool) → not (a && ((b && d) || c)) ≡ true → a ≡ true → b ≡ true → d ≡ true → ⊥
      none true true true c e u v w = cc
      none false b d c e u v w = cc
      none true false d c e u v w = cc
      none true true false c e u v w = cc

      here : (b : Bool) → b ≡ has_name x.name s → x.name ≡ s.name → has_body (routine p s.meaning) ≡ true → has_body (routine p x.meaning) ≡ true → ⊥
      here false h d b t = other_text x.name s.name h d
      here true h d b t = none (has_body (routine p x.meaning)) (has_name x.name s) (has_body (routine p s.meaning)) (list_any (λ z. has_name x.name z && has_body (routine p z.meaning)) rest) e t (sym h) b

pub goes_from : (p : Program) (x : Named) (seen : List Named) → AllByRecursion (λ y. y.name ≡ x.name → SameForm (routine p y.meaning) (routine p x.meaning)) seen →
    AllByRecursion (λ y. y.name ≡ x.name → has_body (routine p y.meaning) ≡ true → has_body (routine p x.meaning) ≡ true → ⊥) seen → AllByRecursion (λ y. Goes p y x) seen
goes_from p x [] d e = tt
goes_from p x (s ∷ rest) d e = (record { form = d.0; one = e.0 }, goes_from p x rest d.1 e.1)

pub goes_next : (p : Program) (x : Named) (seen : List Named) → Apart (Goes p) seen → may_follow p seen (find (has_name x.name) seen) x ≡ true → AllByRecursion (λ y. Goes p y x) seen
goes_next p x seen apart e = pick (find (has_name x.name) seen) refl e where
  pick : (o : Option Named) → o ≡ find (has_name x.name) seen → may_follow p seen o x ≡ true → AllByRecursion (λ y. Goes p y x) seen
  pick None is e = no_names p x seen (sym is)
  pick (Some z) is e =
      let both = both_true (agree (routine p z.meaning) (routine p x.meaning)) _ e in
      goes_from p x seen (forms_follow p x z seen apart (sym is) (agreed (routine p z.meaning) (routine p x.meaning) both.0)) (bodies_follow p x seen both.1)

pub all_go : (p : Program) (seen names : List Named) → Apart (Goes p) seen → name_repeats p seen names ≡ [] → Apart (Goes p) (seen ++ names)
all_go p seen [] apart e = subst (λ xs. Apart (Goes p) xs) (sym (append-nil seen)) apart
all_go p seen (x ∷ rest) apart e =
    let test = may_follow p seen (find (has_name x.name) seen) x in
    let here = passes test _ (no_left (unless test (fault x.at (c.Twice x.name))) (name_repeats p (seen ++ x ∷ []) rest) e) in
    subst (λ xs. Apart (Goes p) xs) (append_assoc seen (x ∷ []) rest)
    (all_go p (seen ++ x ∷ []) rest (apart_push (Goes p) seen x apart (goes_next p x seen apart here)) (no_right (unless test (fault x.at (c.Twice x.name))) (name_repeats p (seen ++ x ∷ []) rest) e))

pub all_declared : (p : Program) → name_repeats p [] (names_of p) ≡ [] → Apart (Goes p) (declared p)
all_declared p e = apart_in_order (Goes p) (goes_flip p) (declared p) (all_go p [] (names_of p) tt e)

-- kind by kind
pub record Kinds (p : Program) : Type 0 where
  pub globals : Apart (Goes p) (map (λ x. named x.1.name (m.Global x.0)) (enumerate_from 0 p.globals))
  pub mutexes : Apart (Goes p) (map (λ x. named x.1 (m.Mutex x.0)) (enumerate_from 0 p.mutexes))
  pub functions : Apart (Goes p) (map (λ x. named x.1.name (m.Routine x.0)) (enumerate_from 0 p.functions))

pub kinds : (p : Program) → name_repeats p [] (names_of p) ≡ [] → Kinds p
kinds p e = record {
  globals = apart_right (Goes p) D G (apart_left (Goes p) (D ++ G) M (apart_left (Goes p) (D ++ G ++ M) F all));
  mutexes = apart_right (Goes p) (D ++ G) M (apart_left (Goes p) (D ++ G ++ M) F all);
  functions = apart_right (Goes p) (D ++ G ++ M) F all;
} where
  D : List Named
  D = map (λ x. named x.1.name (m.Constant x.0)) (enumerate_from 0 p.defines)

  G : List Named
  G = map (λ x. named x.1.name (m.Global x.0)) (enumerate_from 0 p.globals)

  M : List Named
  M = map (λ x. named x.1 (m.Mutex x.0)) (enumerate_from 0 p.mutexes)

  F : List Named
  F = map (λ x. named x.1.name (m.Routine x.0)) (enumerate_from 0 p.functions)

  all : Apart (Goes p) (D ++ G ++ M ++ F)
  all = all_declared p e

-- rows whose elements are not functions have different names
pub apart_row : {A : Type 0} (p : Program) (name : A → At (List ℕ)) (what : ℕ → Meaning) → ((i : ℕ) → routine p (what i) ≡ None) → (k : ℕ) (xs : List A) →
    Apart (Goes p) (map (λ x. named (name x.1) (what x.0)) (enumerate_from k xs)) → Apart (λ x y. (name x).it ≡ (name y).it → ⊥) xs
apart_row p name what none k [] e = tt
apart_row {A} p name what none k (x ∷ xs) e = (each (k + 1) xs e.0, apart_row p name what none (k + 1) xs e.1) where
  each : (i : ℕ) (ys : List A) → AllByRecursion (Goes p (named (name x) (what k))) (map (λ x. named (name x.1) (what x.0)) (enumerate_from i ys)) →
      AllByRecursion (λ y. (name x).it ≡ (name y).it → ⊥) ys
  each i [] e = tt
  each i (y ∷ ys) e = (λ h. subst (λ o. SameForm o (routine p (what i))) (none k) (e.0.form h), each (i + 1) ys e.1)

-- functions of one name have one form, and one of them at most has a body
pub record GoesWith (f g : Function) : Type 0 where
  pub ret : f.name.it ≡ g.name.it → f.ret ≡ g.ret
  pub params : f.name.it ≡ g.name.it → types f ≡ types g
  pub one : f.name.it ≡ g.name.it → is_some f.body ≡ true → is_some g.body ≡ true → ⊥

pub apart_functions : (p : Program) (k : ℕ) (fs : List Function) → ((j : ℕ) → slice_get p.functions (k + j) ≡ slice_get fs j) →
    Apart (Goes p) (map (λ x. named x.1.name (m.Routine x.0)) (enumerate_from k fs)) → Apart GoesWith fs
apart_functions p k [] at e = tt
apart_functions p k (f ∷ fs) at e = (each (k + 1) fs (next k f fs at) e.0, apart_functions p (k + 1) fs (next k f fs at) e.1) where
  next : (i : ℕ) (g : Function) (gs : List Function) → ((j : ℕ) → slice_get p.functions (i + j) ≡ slice_get (g ∷ gs) j) → (j : ℕ) → slice_get p.functions (i + 1 + j) ≡ slice_get gs j
  next i g gs at j = let s : i + 1 + j ≡ i + suc j = omega arith in ap (slice_get p.functions) s ∙ at (suc j)

  first : (i : ℕ) (g : Function) (gs : List Function) → ((j : ℕ) → slice_get p.functions (i + j) ≡ slice_get (g ∷ gs) j) → routine p (m.Routine i) ≡ Some g
  first i g gs at = let s : i ≡ i + 0 = omega arith in ap (slice_get p.functions) s ∙ at 0

  here : (i : ℕ) (g : Function) → routine p (m.Routine i) ≡ Some g → Goes p (named f.name (m.Routine k)) (named g.name (m.Routine i)) → GoesWith f g
  here i g is e = record {
    ret = λ h. (both i g is e h).0;
    params = λ h. (both i g is e h).1;
    one = λ h b d. e.one h (ap has_body (first k f fs at) ∙ b) (ap has_body is ∙ d);
  } where
    both : (i : ℕ) (g : Function) → routine p (m.Routine i) ≡ Some g → Goes p (named f.name (m.Routine k)) (named g.name (m.Routine i)) → f.name.it ≡ g.name.it → SameForm (Some f) (Some g)
    both i g is e h = subst (λ o. SameForm (Some f) o) is (subst (λ o. SameForm o (routine p (m.Routine i))) (first k f fs at) (e.form h))

  each : (i : ℕ) (gs : List Function) → ((j : ℕ) → slice_get p.functions (i + j) ≡ slice_get gs j) →
      AllByRecursion (Goes p (named f.name (m.Routine k))) (map (λ x. named x.1.name (m.Routine x.0)) (enumerate_from i gs)) → AllByRecursion (GoesWith f) gs
  each i [] at e = tt
  each i (g ∷ gs) at e = (here i g (first i g gs at) e.0, each (i + 1) gs (next i g gs at) e.1)

pub functions_agree : (p : Program) → name_repeats p [] (names_of p) ≡ [] → Apart GoesWith p.functions
functions_agree p e = apart_functions p 0 p.functions (λ j. let s : 0 + j ≡ j = omega arith in ap (slice_get p.functions) s) (kinds p e).functions

pub definitions_apart : (p : Program) → Apart GoesWith p.functions → Apart (λ f g. f.name.it ≡ g.name.it → ⊥) (definitions p)
definitions_apart p e = apart_filter GoesWith (λ f g. f.name.it ≡ g.name.it → ⊥) (λ f. is_some f.body) (λ f g goes b d h. goes.one h b d) p.functions e

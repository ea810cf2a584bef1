-- What the names of a file stand for, where they stand in text order and differ.
use Rattle.std.proofs.Common.{◌≡◌, ◌≢◌, ℕ, zero, suc, ◌+◌, ◌<◌, ◌≤◌, Bool, true, false, ◌&&◌, List, [], ◌∷◌, ◌++◌, length, map, Some, None, refl, sym, ap, ◌∙◌, subst, arith}
use Rattle.std.specs.Prelude.{nat_lt, find, filter, is_some, slice_get}
use Rattle.std.specs.List.{list_any, position_or_len, enumerate_from, AllByRecursion}
use Rattle.std.specs.Cmp.Lexicographic.{bytes_decides}
use Rattle.std.proofs.lemmas.Bool.Decides.{nat_tests}
use Rattle.c_tree.specs.declared.scope.Named.{Named}
use Rattle.c_tree.specs.declared.scope.Meaning.TheVariants as m
use Rattle.c_tree.specs.declared.program.Function.{Function}
use Rattle.c_tree.specs.declared.program.Program.{Program}
use Rattle.c_tree.specs.Scope.{is_same_name, has_name, named, meaning_in, placed, in_order}
use Rattle.c_tree.specs.Lifting.{number_of}
use Rattle.c_tree.specs.Typing.{name_repeats}

pub same_name : (a : List ℕ) → is_same_name a a ≡ true
same_name a = (bytes_decides a a).1 refl

pub other_name : (a b : List ℕ) → a ≢ b → is_same_name a b ≡ false
other_name a b n = go (is_same_name a b) refl
  where
    go : (t : Bool) → is_same_name a b ≡ t → t ≡ false
    go true h = absurd (n ((bytes_decides a b).0 h))
    go false h = refl

pub turned : {a b : List ℕ} → a ≢ b → b ≢ a
turned n e = n (sym e)

-- The function stands there in the list, and none before it has its name.
abbrev pub Stands : List Function → ℕ → Function → Type 0
Stands [] i f = ⊥
Stands (g ∷ gs) zero f = g ≡ f
Stands (g ∷ gs) (suc i) f = (g.name.it ≢ f.name.it) × Stands gs i f

-- the names of some functions, by their numbers from i on
abbrev pub routines : ℕ → List Function → List Named
routines i fs = map (λ x. named x.1.name (m.Routine x.0)) (enumerate_from i fs)

pub found : (fs : List Function) (i j : ℕ) (f : Function) → Stands fs j f → meaning_in (find (has_name f.name.it) (routines i fs)) ≡ m.Routine (i + j)
found [] i j f s = absurd s
found (g ∷ gs) i zero f s =
    let e : i + 0 ≡ i = omega arith in
    let h : is_same_name f.name.it g.name.it ≡ true = subst (λ x. is_same_name f.name.it x.name.it ≡ true) (sym s) (same_name f.name.it) in
    rw (h, e) refl
found (g ∷ gs) i (suc j) f s =
    let e : i + 1 + j ≡ i + suc j = omega arith in
    let h : is_same_name f.name.it g.name.it ≡ false = other_name f.name.it g.name.it (turned s.0) in
    rw h (found gs (i + 1) j f s.1 ∙ ap (λ n. m.Routine n) e)

pub got : (fs : List Function) (j : ℕ) (f : Function) → Stands fs j f → slice_get fs j ≡ Some f
got [] j f s = absurd s
got (g ∷ gs) zero f s = ap (λ x. Some x) s
got (g ∷ gs) (suc j) f s = got gs j f s.1

pub defined : (fs : List Function) (j : ℕ) (f : Function) → Stands fs j f → is_some f.body ≡ true → list_any (λ g. is_same_name g.name.it f.name.it && is_some g.body) fs ≡ true
defined [] j f s b = absurd s
defined (g ∷ gs) zero f s b =
    let h : is_same_name g.name.it f.name.it ≡ true = subst (λ x. is_same_name x.name.it f.name.it ≡ true) (sym s) (same_name f.name.it) in
    let k : is_some g.body ≡ true = subst (λ x. is_some x.body ≡ true) (sym s) b in
    rw (h, k) refl
defined (g ∷ gs) (suc j) f s b =
    let h : is_same_name g.name.it f.name.it ≡ false = other_name g.name.it f.name.it s.0 in
    rw h (defined gs j f s.1 b)

place : (fs : List Function) (j : ℕ) (f : Function) → Stands fs j f → position_or_len (λ n. is_same_name n.it f.name.it) (map (λ g. g.name) fs) ≡ j
place [] j f s = absurd s
place (g ∷ gs) zero f s =
    let h : is_same_name g.name.it f.name.it ≡ true = subst (λ x. is_same_name x.name.it f.name.it ≡ true) (sym s) (same_name f.name.it) in
    rw h refl
place (g ∷ gs) (suc j) f s =
    let h : is_same_name g.name.it f.name.it ≡ false = other_name g.name.it f.name.it s.0 in
    let ih : position_or_len (λ n. is_same_name n.it f.name.it) (map (λ g. g.name) gs) ≡ j = place gs j f s.1 in
    rw (h, ih) (omega arith)

within : (fs : List Function) (j : ℕ) (f : Function) → Stands fs j f → j < length (map (λ g. g.name) fs)
within [] j f s = absurd s
within (g ∷ gs) zero f s = omega arith
within (g ∷ gs) (suc j) f s = let ih : j < length (map (λ g. g.name) gs) = within gs j f s.1 in omega (arith, ih)

is_less : (a b : ℕ) → a < b → nat_lt a b ≡ true
is_less a b lt = grind (arith, nat_tests, lt)

pub number : (fs : List Function) (j : ℕ) (f : Function) → Stands fs j f → number_of (map (λ g. g.name) fs) f.name.it ≡ j
number fs j f s =
    let e = place fs j f s in
    let lt : nat_lt j (length (map (λ g. g.name) fs)) ≡ true = is_less j _ (within fs j f s) in
    rw (e, lt) refl

-- Each function has a body.
abbrev pub HaveBodies : List Function → Type 0
HaveBodies fs = AllByRecursion (λ f. is_some f.body ≡ true) fs

pub all_defined : (fs : List Function) → HaveBodies fs → filter (λ f. is_some f.body) fs ≡ fs
all_defined [] h = refl
all_defined (f ∷ fs) h = rw h.0 (ap (λ x. f ∷ x) (all_defined fs h.1))

-- Text order.

-- The functions stand behind an offset, one behind the other.
abbrev pub InTextOrder : ℕ → List Function → Type 0
InTextOrder low [] = Unit {0}
InTextOrder low (f ∷ fs) = (low ≤ f.name.at) × InTextOrder f.name.at fs

abbrev pub Ascending : ℕ → List Named → Type 0
Ascending low [] = Unit {0}
Ascending low (x ∷ xs) = (low ≤ x.at) × Ascending x.at xs

pub routines_ascend : (low i : ℕ) (fs : List Function) → InTextOrder low fs → Ascending low (routines i fs)
routines_ascend low i [] h = tt
routines_ascend low i (f ∷ fs) h = (h.0, routines_ascend f.name.at (i + 1) fs h.1)

not_less : (a b : ℕ) → b ≤ a → nat_lt a b ≡ false
not_less a b le = grind (arith, nat_tests, le)

placed_first : (x : Named) (xs : List Named) → Ascending x.at xs → placed x xs ≡ x ∷ xs
placed_first x [] h = refl
placed_first x (y ∷ rest) h = let e : nat_lt y.at x.at ≡ false = not_less y.at x.at h.0 in rw e refl

pub kept_order : (low : ℕ) (xs : List Named) → Ascending low xs → in_order xs ≡ xs
kept_order low [] h = refl
kept_order low (x ∷ xs) h = ap (placed x) (kept_order x.at xs h.1) ∙ placed_first x xs h.1

-- Names that differ.

-- None has this name.
abbrev pub NoneNamed : List ℕ → List Named → Type 0
NoneNamed name xs = AllByRecursion (λ x. name ≢ x.name) xs

-- The names differ.
abbrev pub Differ : List Named → Type 0
Differ [] = Unit {0}
Differ (x ∷ xs) = NoneNamed x.name xs × Differ xs

none_found : (name : List ℕ) (xs : List Named) → AllByRecursion (λ x. x.name ≢ name) xs → find (has_name name) xs ≡ None
none_found name [] h = refl
none_found name (x ∷ xs) h = let e : is_same_name name x.name ≡ false = other_name name x.name (turned h.0) in rw e (none_found name xs h.1)

firsts : (x : Named) (rest seen : List Named) → AllByRecursion (λ y. NoneNamed y.name (x ∷ rest)) seen → AllByRecursion (λ y. y.name ≢ x.name) seen
firsts x rest [] h = tt
firsts x rest (y ∷ seen) h = (h.0.0, firsts x rest seen h.1)

more_seen : (x : Named) (rest seen : List Named) → AllByRecursion (λ y. NoneNamed y.name (x ∷ rest)) seen → NoneNamed x.name rest → AllByRecursion (λ y. NoneNamed y.name rest) (seen ++ x ∷ [])
more_seen x rest [] h n = (n, tt)
more_seen x rest (y ∷ seen) h n = (h.0.1, more_seen x rest seen h.1 n)

no_repeats : (p : Program) (seen rest : List Named) → AllByRecursion (λ y. NoneNamed y.name rest) seen → Differ rest → name_repeats p seen rest ≡ []
no_repeats p seen [] h d = refl
no_repeats p seen (x ∷ rest) h d =
    let e : find (has_name x.name) seen ≡ None = none_found x.name seen (firsts x rest seen h) in
    rw e (no_repeats p (seen ++ x ∷ []) rest (more_seen x rest seen h d.0) d.1)

pub differing : (p : Program) (xs : List Named) → Differ xs → name_repeats p [] xs ≡ []
differing p xs d = no_repeats p [] xs tt d

-- No function has this name; the names of the functions differ.
abbrev pub NoFunction : List ℕ → List Function → Type 0
NoFunction name fs = AllByRecursion (λ f. name ≢ f.name.it) fs

abbrev pub FunctionsDiffer : List Function → Type 0
FunctionsDiffer [] = Unit {0}
FunctionsDiffer (f ∷ fs) = NoFunction f.name.it fs × FunctionsDiffer fs

pub none_of_routines : (name : List ℕ) (i : ℕ) (fs : List Function) → NoFunction name fs → NoneNamed name (routines i fs)
none_of_routines name i [] h = tt
none_of_routines name i (f ∷ fs) h = (h.0, none_of_routines name (i + 1) fs h.1)

pub routines_differ : (i : ℕ) (fs : List Function) → FunctionsDiffer fs → Differ (routines i fs)
routines_differ i [] h = tt
routines_differ i (f ∷ fs) h = (none_of_routines f.name.it (i + 1) fs h.0, routines_differ (i + 1) fs h.1)

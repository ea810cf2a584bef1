-- The faults of a file's declarations, one after the other.
use Rattle.std.proofs.Common.{◌≡◌, ℕ, zero, suc, ◌+◌, ◌-◌, ◌<◌, ◌≤◌, min, ◌∙◌, arith, Bool, true, false, cond, not, ◌&&◌, ◌||◌, List, [], ◌∷◌, ◌++◌, length, get_or, take, drop, map, Option, Some, None, refl, sym, ap, append_assoc, nat_lt}
use Rattle.std.specs.Prelude.{is_some, codes, filter, nat_le, reverse}
use Rattle.std.specs.List.{list_any, flat_map}
use Rattle.std.proofs.lemmas.Bool.{leb-true, leb-false}
use Rattle.std.proofs.lemmas.List.{drop_more, drop_all, reverse-append}
use Rattle.std.proofs.lemmas.List.Folds.{list_any-append}
use Rattle.c_tree.specs.Compute.{literals}
use Rattle.c_tree.specs.declared.ty.Ty.{Ty}
use Rattle.c_tree.specs.declared.ty.Ty.TheVariants as ty
use Rattle.c_tree.specs.declared.cause.CheckCause.TheVariants as c
use Rattle.c_tree.specs.declared.cause.LimitKind.TheVariants as limit
use Rattle.c_tree.specs.declared.scope.Fault.{Fault}
use Rattle.c_tree.specs.declared.program.Program.{Program}
use Rattle.c_tree.specs.declared.program.At.{At}
use Rattle.c_tree.specs.declared.program.Struct.{Struct}
use Rattle.c_tree.specs.declared.program.Field.{Field}
use Rattle.c_tree.specs.declared.program.Function.{Function}
use Rattle.c_tree.specs.declared.program.GlobalDecl.{GlobalDecl}
use Rattle.c_tree.specs.declared.program.Stmt.{Stmt}
use Rattle.c_tree.specs.Fault.{fault, unless}
use Rattle.c_tree.specs.Scope.{Scope, file_scope, is_same_name, is_defined, with_parameters}
use Rattle.c_tree.specs.Types.{is_int}
use Rattle.c_tree.specs.Typing.{has_no_parameters, parameter_faults, body_faults, type_faults}
use Rattle.c_check.specs.Inner.{Inner, declares, around}
use Rattle.c_check.specs.Words.{noted, of_type}
use Rattle.c_check.specs.Statements.{stand, declared, all_reported}
use Rattle.c_check.specs.Files.{seconds, of_fields, of_struct, of_structs, size_of, lengthed, initialised, of_global, of_globals, all_declared, parametered, bodied, of_function, of_functions, past}
use Rattle.c_tree.specs.Names.{find_name}
use Rattle.name_index.proofs.FoundLemmas.{is_some-position}
use Rattle.c_check.proofs.NoteLemmas.{noting, noted-append, noted-none}

-- parameters
pub all_declared-none : (l : Inner) → all_declared l [] ≡ l
unfolding all_declared
all_declared-none l = refl

pub all_declared-more : (l : Inner) (q : Field) (qs : List Field) → all_declared l (q ∷ qs) ≡ all_declared (declares l q.name.at q.name.it q.ty) qs
unfolding all_declared
all_declared-more l q qs = refl

pub parametered-none : (p : Program) (l : Inner) → parametered p l [] ≡ []
unfolding parametered
parametered-none p l = refl

pub parametered-more : (p : Program) (l : Inner) (q : Field) (qs : List Field) → parametered p l (q ∷ qs) ≡
    declared p l q.name.at q.name.it q.ty ++ parametered p (declares l q.name.at q.name.it q.ty) qs
unfolding parametered declared
parametered-more p l q qs = refl

pub parametered-any : (p : Program) (l : Inner) (ret : Ty) (qs : List Field) → parameter_faults (stand p l ret false) qs ≡ parametered p l qs
unfolding parametered declared
parametered-any p l ret [] = refl
parametered-any p l ret (q ∷ qs) =
    ap (λ xs. declared p l q.name.at q.name.it q.ty ++ xs) (parametered-any p (declares l q.name.at q.name.it q.ty) ret qs)

pub with_parameters-is : (p : Program) (l : Inner) (qs : List Field) → with_parameters (around p l) qs ≡ around p (all_declared l qs)
unfolding all_declared
with_parameters-is p l [] = refl
with_parameters-is p l (q ∷ qs) = with_parameters-is p (declares l q.name.at q.name.it q.ty) qs

pub block-all_declared : (l : Inner) (qs : List Field) → (all_declared l qs).block ≡ l.block + length qs
unfolding all_declared
block-all_declared l [] = omega arith
block-all_declared l (q ∷ qs) = let e = block-all_declared (declares l q.name.at q.name.it q.ty) qs in omega (arith, e)

-- a function
abbrev pub nothing : Inner
nothing = record { names = []; block = 0; slots = [] }

pub bodied-None : (p : Program) (l : Inner) (ret : Ty) → bodied p l ret None ≡ []
unfolding bodied
bodied-None p l ret = refl

pub bodied-Some : (p : Program) (l : Inner) (ret : Ty) (body : List Stmt) → bodied p l ret (Some body) ≡ all_reported p l ret false body
unfolding bodied all_reported
bodied-Some p l ret body = refl

pub of_function-is : (p : Program) (f : Function) → of_function p f ≡
    unless (is_defined p f.name.it) (fault f.name.at (c.Unknown f.name.it))
    ++ unless (not (is_same_name f.name.it (codes "main")) || is_int f.ret && has_no_parameters f.params) (fault f.name.at c.BadMain)
    ++ of_type p f.name.at f.ret ++ parametered p nothing f.params ++ bodied p (all_declared nothing f.params) f.ret f.body
unfolding of_function of_type bodied
of_function-is p f =
    let head = unless (is_defined p f.name.it) (fault f.name.at (c.Unknown f.name.it))
    ++ unless (not (is_same_name f.name.it (codes "main")) || is_int f.ret && has_no_parameters f.params) (fault f.name.at c.BadMain)
    ++ type_faults (file_scope p) f.name.at f.ret in
    let b : length f.params ≡ (all_declared nothing f.params).block = let e = block-all_declared nothing f.params in omega (arith, e) in
    ap (λ xs. head ++ xs ++ body_faults (record { scope = with_parameters (file_scope p) f.params; block = length f.params; ret = f.ret; in_loop = false }) f.body) (parametered-any p nothing f.ret f.params)
    ∙ ap (λ xs. head ++ parametered p nothing f.params ++ xs)
    (ap (λ sc. body_faults (record { scope = sc; block = length f.params; ret = f.ret; in_loop = false }) f.body) (with_parameters-is p nothing f.params)
    ∙ ap (λ n. body_faults (record { scope = around p (all_declared nothing f.params); block = n; ret = f.ret; in_loop = false }) f.body) b)

pub ruleset function_rules = (noting, of_function-is, bodied-None, bodied-Some)

pub of_functions-none : (p : Program) → of_functions p [] ≡ []
unfolding of_functions
of_functions-none p = refl

pub of_functions-more : (p : Program) (f : Function) (rest : List Function) → of_functions p (f ∷ rest) ≡ of_function p f ++ of_functions p rest
unfolding of_functions of_function
of_functions-more p f rest = refl

-- functions past the limit
pub past-none : (n : ℕ) → past n [] ≡ []
unfolding past
past-none zero = refl
past-none (suc n) = refl

abbrev pub has_body : Function → Bool
has_body f = is_some f.body

abbrev pub too_many : Function → List Fault
too_many f = fault f.name.at (c.Limit limit.Functions)

pub past-prototype : (n : ℕ) (f : Function) (rest : List Function) → is_some f.body ≡ false → past n (f ∷ rest) ≡ past n rest
unfolding past
past-prototype n f rest e = ap (λ b. flat_map too_many (drop n (cond b (f ∷ filter has_body rest) (filter has_body rest)))) e

pub past-full : (f : Function) (rest : List Function) → is_some f.body ≡ true → past 0 (f ∷ rest) ≡ too_many f ++ past 0 rest
unfolding past
past-full f rest e = ap (λ b. flat_map too_many (cond b (f ∷ filter has_body rest) (filter has_body rest))) e

pub past-room : (n : ℕ) (f : Function) (rest : List Function) → is_some f.body ≡ true → 0 < n → past n (f ∷ rest) ≡ past (n - 1) rest
unfolding past
past-room zero f rest e l = absurd (omega (arith, l))
past-room (suc m) f rest e l =
    let k : m ≡ suc m - 1 = omega arith in
    ap (λ b. flat_map too_many (drop (suc m) (cond b (f ∷ filter has_body rest) (filter has_body rest)))) e ∙ ap (λ n. flat_map too_many (drop n (filter has_body rest))) k

pub ruleset passing = (noting, past-prototype, past-full, past-room)

-- the loop over functions that are counted
pub past_step : (xs : List Function) (i room left : ℕ) (x : Function) (f1 f2 : Option Fault) → i < length xs → x ≡ get_or xs i x →
    ((rest : List Function) → noted f1 (past room (x ∷ rest)) ≡ noted f2 (past left rest)) → noted f1 (past room (drop i xs)) ≡ noted f2 (past left (drop (i + 1) xs))
past_step xs i room left x f1 f2 lt here step =
    ap (λ zs. noted f1 (past room zs)) (drop_more xs i x lt ∙ ap (λ z. z ∷ drop (i + 1) xs) (sym here)) ∙ step (drop (i + 1) xs)

pub past_end : (xs : List Function) (i room : ℕ) (f : Option Fault) → length xs ≤ i → noted f (past room (drop i xs)) ≡ f
past_end xs i room f le = ap (λ zs. noted f (past room zs)) (drop_all i xs le) ∙ (ap (noted f) (past-none room) ∙ noted-none f)

-- the loop over parameters
pub parameters_step : (p : Program) (l m : Inner) (xs : List Field) (i : ℕ) (x : Field) (f1 f2 : Option Fault) → i < length xs → x ≡ get_or xs i x →
    f2 ≡ noted f1 (declared p l x.name.at x.name.it x.ty) → m ≡ declares l x.name.at x.name.it x.ty →
    noted f1 (parametered p l (drop i xs)) ≡ noted f2 (parametered p m (drop (i + 1) xs))
parameters_step p l m xs i x f1 f2 lt here done moved =
    let rest = drop (i + 1) xs in
    ap (λ zs. noted f1 (parametered p l zs)) (drop_more xs i x lt ∙ ap (λ z. z ∷ rest) (sym here))
    ∙ (ap (noted f1) (parametered-more p l x rest) ∙ (noted-append f1 (declared p l x.name.at x.name.it x.ty) (parametered p (declares l x.name.at x.name.it x.ty) rest)
    ∙ (ap (λ f. noted f (parametered p (declares l x.name.at x.name.it x.ty) rest)) (sym done) ∙ ap (λ z. noted f2 (parametered p z rest)) (sym moved))))

pub all_declared_step : (l m : Inner) (xs : List Field) (i : ℕ) (x : Field) → i < length xs → x ≡ get_or xs i x → m ≡ declares l x.name.at x.name.it x.ty →
    all_declared l (drop i xs) ≡ all_declared m (drop (i + 1) xs)
all_declared_step l m xs i x lt here moved =
    let rest = drop (i + 1) xs in
    ap (all_declared l) (drop_more xs i x lt ∙ ap (λ z. z ∷ rest) (sym here)) ∙ (all_declared-more l x rest ∙ ap (λ z. all_declared z rest) (sym moved))

pub parameters_end : (p : Program) (l : Inner) (xs : List Field) (i : ℕ) (f : Option Fault) → length xs ≤ i → noted f (parametered p l (drop i xs)) ≡ f
parameters_end p l xs i f le = ap (λ zs. noted f (parametered p l zs)) (drop_all i xs le) ∙ (ap (noted f) (parametered-none p l) ∙ noted-none f)

pub all_declared_end : (l : Inner) (xs : List Field) (i : ℕ) → length xs ≤ i → all_declared l (drop i xs) ≡ l
all_declared_end l xs i le = ap (all_declared l) (drop_all i xs le) ∙ all_declared-none l

-- globals
pub of_global-is : (p : Program) (before : ℕ) (g : GlobalDecl) → of_global p before g ≡
    of_type p g.name.at g.ty ++ lengthed p g.count ++ unless (nat_lt 0 (size_of p g.count) && nat_le (size_of p g.count) 65536) (fault g.name.at (c.Limit limit.ArrayLength))
    ++ initialised p g.ty g.init ++ unless (nat_le (before + size_of p g.count) 1000000) (fault g.name.at (c.Limit limit.GlobalWords))
unfolding of_global of_type lengthed size_of initialised
of_global-is p before g = refl

pub of_globals-none : (p : Program) (before : ℕ) → of_globals p before [] ≡ []
unfolding of_globals
of_globals-none p before = refl

pub of_globals-more : (p : Program) (before : ℕ) (g : GlobalDecl) (rest : List GlobalDecl) → of_globals p before (g ∷ rest) ≡ of_global p before g ++ of_globals p (before + size_of p g.count) rest
unfolding of_globals of_global size_of
of_globals-more p before g rest = refl

pub ruleset global_rules = (noting, of_global-is)

pub nat_le-same : (x y m : ℕ) → (x ≤ m → y ≤ m) → (y ≤ m → x ≤ m) → nat_le x m ≡ nat_le y m
nat_le-same x y m to from = pick (nat_le x m) (nat_le y m) refl refl where
  pick : (a b : Bool) → a ≡ nat_le x m → b ≡ nat_le y m → a ≡ b
  pick true true e d = refl
  pick false false e d = refl
  pick true false e d = absurd (let l : y ≤ m = to (leb-true x m (sym e)) in let g : m < y = leb-false y m (sym d) in omega (arith, l, g))
  pick false true e d = absurd (let l : x ≤ m = from (leb-true y m (sym d)) in let g : m < x = leb-false x m (sym e) in omega (arith, l, g))

-- far past the limit it does not matter how many words stand before
pub of_globals-capped : (p : Program) (a b : ℕ) (gs : List GlobalDecl) → min a 1000001 ≡ min b 1000001 → of_globals p a gs ≡ of_globals p b gs
of_globals-capped p a b [] same = of_globals-none p a ∙ sym (of_globals-none p b)
of_globals-capped p a b (g ∷ rest) same =
    let s = size_of p g.count in
    let head = of_type p g.name.at g.ty ++ lengthed p g.count ++ unless (nat_lt 0 s && nat_le s 65536) (fault g.name.at (c.Limit limit.ArrayLength)) ++ initialised p g.ty g.init in
    let words : nat_le (a + s) 1000000 ≡ nat_le (b + s) 1000000 = nat_le-same (a + s) (b + s) 1000000 (λ l. omega (arith, l, same)) (λ l. omega (arith, l, same)) in
    of_globals-more p a g rest
    ∙ (ap (λ xs. xs ++ of_globals p (a + s) rest) (of_global-is p a g ∙ (ap (λ t. head ++ unless t (fault g.name.at (c.Limit limit.GlobalWords))) words ∙ sym (of_global-is p b g)))
    ∙ (ap (λ xs. of_global p b g ++ xs) (of_globals-capped p (a + s) (b + s) rest (omega (arith, same))) ∙ sym (of_globals-more p b g rest)))

-- the loop over globals
pub globals_step : (p : Program) (before n : ℕ) (xs : List GlobalDecl) (i : ℕ) (x : GlobalDecl) (f1 f2 : Option Fault) → i < length xs → x ≡ get_or xs i x →
    f2 ≡ noted f1 (of_global p before x) → n ≡ min (before + size_of p x.count) 1000001 →
    noted f1 (of_globals p before (drop i xs)) ≡ noted f2 (of_globals p n (drop (i + 1) xs))
globals_step p before n xs i x f1 f2 lt here done next =
    let rest = drop (i + 1) xs in
    ap (λ zs. noted f1 (of_globals p before zs)) (drop_more xs i x lt ∙ ap (λ z. z ∷ rest) (sym here))
    ∙ (ap (noted f1) (of_globals-more p before x rest) ∙ (noted-append f1 (of_global p before x) (of_globals p (before + size_of p x.count) rest)
    ∙ (ap (λ f. noted f (of_globals p (before + size_of p x.count) rest)) (sym done) ∙ ap (noted f2) (of_globals-capped p (before + size_of p x.count) n rest (omega (arith, next))))))

pub globals_end : (p : Program) (before : ℕ) (xs : List GlobalDecl) (i : ℕ) (f : Option Fault) → length xs ≤ i → noted f (of_globals p before (drop i xs)) ≡ f
globals_end p before xs i f le = ap (λ zs. noted f (of_globals p before zs)) (drop_all i xs le) ∙ (ap (noted f) (of_globals-none p before) ∙ noted-none f)

-- structs
pub of_fields-none : (p : Program) → of_fields p [] ≡ []
unfolding of_fields
of_fields-none p = refl

pub of_fields-more : (p : Program) (q : Field) (rest : List Field) → of_fields p (q ∷ rest) ≡ of_type p q.name.at q.ty ++ of_fields p rest
unfolding of_fields of_type
of_fields-more p q rest = refl

pub of_struct-is : (p : Program) (d : Struct) → of_struct p d ≡ seconds [] (map (λ f. f.name) d.fields) ++ of_fields p d.fields
unfolding of_struct seconds of_fields
of_struct-is p d = refl

pub ruleset struct_rules = (noting, of_struct-is)

pub of_structs-none : (p : Program) → of_structs p [] ≡ []
unfolding of_structs
of_structs-none p = refl

pub of_structs-more : (p : Program) (d : Struct) (rest : List Struct) → of_structs p (d ∷ rest) ≡ of_struct p d ++ of_structs p rest
unfolding of_structs of_struct
of_structs-more p d rest = refl

-- names that stand a second time
pub seconds-none : (seen : List (List ℕ)) → seconds seen [] ≡ []
unfolding seconds
seconds-none seen = refl

abbrev pub second : List (List ℕ) → At (List ℕ) → List Fault
second seen n = unless (not (list_any (is_same_name n.it) seen)) (fault n.at (c.Twice n.it))

pub seconds-more : (seen : List (List ℕ)) (n : At (List ℕ)) (rest : List (At (List ℕ))) → seconds seen (n ∷ rest) ≡ second seen n ++ seconds (n.it ∷ seen) rest
unfolding seconds
seconds-more seen n rest = refl

pub list_any-reverse : {X : Type 0} (p : X → Bool) (xs : List X) → list_any p (reverse xs) ≡ list_any p xs
list_any-reverse p [] = refl
list_any-reverse p (x ∷ xs) =
    ap (list_any p) (reverse-append (x ∷ []) xs) ∙ (list_any-append p (reverse xs) (x ∷ []) ∙ (ap (λ b. b || (p x || false)) (list_any-reverse p xs) ∙ flipped (p x) (list_any p xs))) where
      flipped : (a b : Bool) → (b || (a || false)) ≡ (a || b)
      flipped true true = refl
      flipped true false = refl
      flipped false true = refl
      flipped false false = refl

-- a loop over items that have names
pub seconds_step : {X : Type 0} (name : X → At (List ℕ)) (xs : List X) (i : ℕ) (x : X) (seen now : List (List ℕ)) (f1 f2 : Option Fault) → i < length xs → x ≡ get_or xs i x →
    f2 ≡ noted f1 (second (reverse seen) (name x)) → now ≡ seen ++ (name x).it ∷ [] →
    noted f1 (seconds (reverse seen) (map name (drop i xs))) ≡ noted f2 (seconds (reverse now) (map name (drop (i + 1) xs)))
seconds_step name xs i x seen now f1 f2 lt here done added =
    let rest = map name (drop (i + 1) xs) in
    ap (λ zs. noted f1 (seconds (reverse seen) (map name zs))) (drop_more xs i x lt ∙ ap (λ z. z ∷ drop (i + 1) xs) (sym here))
    ∙ (ap (noted f1) (seconds-more (reverse seen) (name x) rest) ∙ (noted-append f1 (second (reverse seen) (name x)) (seconds ((name x).it ∷ reverse seen) rest)
    ∙ (ap (λ f. noted f (seconds ((name x).it ∷ reverse seen) rest)) (sym done)
    ∙ ap (λ zs. noted f2 (seconds zs rest)) (sym (ap reverse added ∙ reverse-append seen ((name x).it ∷ []))))))

pub seconds_end : {X : Type 0} (name : X → At (List ℕ)) (xs : List X) (i : ℕ) (seen : List (List ℕ)) (f : Option Fault) → length xs ≤ i →
    noted f (seconds seen (map name (drop i xs))) ≡ f
seconds_end name xs i seen f le = ap (λ zs. noted f (seconds seen (map name zs))) (drop_all i xs le) ∙ (ap (noted f) (seconds-none seen) ∙ noted-none f)

pub second_is : (seen : List (List ℕ)) (n : At (List ℕ)) (b : Bool) (o : Option ℕ) (f1 f2 : Option Fault) → o ≡ find_name n.it seen → b ≡ is_some o →
    f2 ≡ noted f1 (unless (not b) (fault n.at (c.Twice n.it))) → f2 ≡ noted f1 (second (reverse seen) n)
second_is seen n b o f1 f2 is e done =
    done ∙ ap (λ z. noted f1 (unless (not z) (fault n.at (c.Twice n.it))))
    (e ∙ (ap is_some is ∙ (is_some-position (is_same_name n.it) 0 seen ∙ sym (list_any-reverse (is_same_name n.it) seen))))

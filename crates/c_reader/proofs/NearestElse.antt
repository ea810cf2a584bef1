-- The rule that an else belongs to the nearest if changes no live list.
use Rattle.std.proofs.Common.{◌≡◌, ℕ, zero, suc, ◌≤◌, List, [], ◌∷◌, ◌++◌, ◌⊎◌, inl, inr, Bool, true, false, Some, length, refl, sym, ◌∙◌, ap, subst, append_assoc, arith}
use Rattle.std.specs.Prelude.{◌&&◌, not}
use Rattle.c_grammar.specs.declared.kind.Kind.TheVariants as kind
use Rattle.c_grammar.specs.declared.rule.Rule.{Rule}
use Rattle.c_grammar.specs.declared.rule.Rule.TheVariants as rule
use Rattle.c_grammar.specs.declared.action.Action.TheVariants as action
use Rattle.c_grammar.specs.declared.symbol.Mark.TheVariants.{Open}
use Rattle.c_grammar.specs.declared.symbol.Symbol.{Symbol}
use Rattle.c_grammar.specs.declared.symbol.Symbol.TheVariants.{Take, Unless, Act, Expand}
use Rattle.c_grammar.specs.Effects.{State, empty}
use Rattle.c_grammar.specs.Pieces.{Piece}
use Rattle.c_grammar.specs.Rules.{alternatives, start}
use Rattle.c_grammar.specs.Reading.{Among, first, later, Part, Any, Goes, stop, take_token, pass, act, expand}
use Rattle.c_reader.specs.Picks.{is_kind}
use Rattle.c_reader.specs.Loose.{loose, SameLive}
use Rattle.c_reader.proofs.Choice.{all_of, both_left, both_right, and_true, not_both, kind_is, kind_from_code}
use Rattle.c_reader.proofs.Tables.{all_kinds, kind_place}

-- Whether tokens are live does not depend on the state.
live_any : {g : Rule → List (List Symbol)} {symbols : List Symbol} {state state' : State} {ts : List Piece} → Goes g (Part Any) symbols state ts → Goes g (Part Any) symbols state' ts
live_any (stop ok) = stop tt
live_any (take_token e g) = take_token e (live_any g)
live_any (pass n g) = pass n (live_any g)
live_any (act g) = act (live_any g)
live_any (expand m g) = expand m (live_any g)

head_is : {x y : Symbol} {xs ys : List Symbol} → x ∷ xs ≡ y ∷ ys → x ≡ y
head_is e = cc

tail_is : {x y : Symbol} {xs ys : List Symbol} → x ∷ xs ≡ y ∷ ys → xs ≡ ys
tail_is e = cc

module _ {h : Rule → List (List Symbol)} {old new : List Symbol} (f : (state : State) (ts : List Piece) → Goes h (Part Any) old state ts → Goes h (Part Any) new state ts) where
  live_behind : (front : List Symbol) {symbols : List Symbol} {state : State} {ts : List Piece} → Goes h (Part Any) symbols state ts → symbols ≡ front ++ old → Goes h (Part Any) (front ++ new) state ts
  live_behind [] {symbols} {state} {ts} g e = f state ts (subst (λ s. Goes h (Part Any) s state ts) e g)
  live_behind (s ∷ front) (stop ok) e = stop tt
  live_behind (s ∷ front) (take_token k g) e = rw (← head_is e) (take_token k (live_behind front g (tail_is e)))
  live_behind (s ∷ front) (pass n g) e = rw (← head_is e) (pass n (live_behind front g (tail_is e)))
  live_behind (s ∷ front) (act g) e = rw (← head_is e) (act (live_behind front g (tail_is e)))
  live_behind (s ∷ front) (expand {alternative = alternative} {state = state} {ps = ts} m g) e =
      rw (← head_is e) (expand m (subst (λ x. Goes h (Part Any) x state ts) (append_assoc alternative front new) (live_behind (alternative ++ front) g (ap (λ x. alternative ++ x) (tail_is e) ∙ sym (append_assoc alternative front old)))))

-- no else stands among the symbols themselves
abbrev no_else : List Symbol → Bool
no_else [] = true
no_else (Take k d ∷ symbols) = not (is_kind k (Some kind.Else)) && no_else symbols
no_else (Unless k ∷ symbols) = false
no_else (Act a ∷ symbols) = no_else symbols
no_else (Expand r ∷ symbols) = no_else symbols

no_else-append : (front behind : List Symbol) → no_else front ≡ true → no_else behind ≡ true → no_else (front ++ behind) ≡ true
no_else-append [] behind f b = b
no_else-append (Take k d ∷ front) behind f b = and_true _ _ (both_left (not (is_kind k (Some kind.Else))) _ f) (no_else-append front behind (both_right (not (is_kind k (Some kind.Else))) _ f) b)
no_else-append (Unless k ∷ front) behind f b = cc
no_else-append (Act a ∷ front) behind f b = no_else-append front behind f b
no_else-append (Expand r ∷ front) behind f b = no_else-append front behind f b

abbrev else_part : List Symbol
else_part = Expand rule.Stmt ∷ Act action.Leave ∷ Act action.IfElse ∷ []

sorted : (r : Rule) (front : List Symbol) → Among front (loose r) → (no_else front ≡ true) ⊎ ((r ≡ rule.ElsePart) × (front ≡ Take kind.Else Open ∷ else_part))
sorted rule.ElsePart front first = inr (refl, refl)
sorted rule.ElsePart front (later first) = inl refl
sorted rule.ElsePart front (later (later m)) = elim m [ ]
sorted r front m = inl (all_of no_else m refl)

else_taken : (K : List Symbol) {state : State} {us : List Piece} (t : Piece) (ts : List Piece) → Goes loose (Part Any) (Take kind.Else Open ∷ (else_part ++ K)) state us → us ≡ t ∷ ts
    → Goes loose (Part Any) (else_part ++ K) empty ts
else_taken K t ts (stop ok) e = cc
else_taken K t ts (take_token {ps = ts'} k g) e = let d : ts' ≡ ts = cc in subst (λ x. Goes loose (Part Any) (else_part ++ K) empty x) d (live_any g)

-- Where an else goes on behind a finished statement, it goes on as that statement's own.
own_else : {K : List Symbol} {state : State} {us : List Piece} → Goes loose (Part Any) K state us → (t : Piece) (ts : List Piece) → us ≡ t ∷ ts → t.kind ≡ kind.Else → no_else K ≡ true
    → Goes loose (Part Any) (else_part ++ K) empty ts
own_else (stop ok) t ts e k n = cc
own_else (take_token {kind = q} {p = t'} e' g) t ts e k n =
    let d : t' ≡ t = cc in absurd (not_both (is_kind q (Some kind.Else)) (kind_is kind.Else q (sym k ∙ ap (λ x. x.kind) (sym d) ∙ e')) (both_left (not (is_kind q (Some kind.Else))) _ n))
own_else (pass p g) t ts e k n = cc
own_else (act {symbols = K} g) t ts e k n = live_behind {h = loose} {old = K} (λ state us d. act (live_any d)) else_part (own_else g t ts e k n) refl
own_else (expand {r = r} {alternative = front} {symbols = K} {state = state} {ps = us} m g) t ts e k n = go (sorted r front m) (λ ok. own_else g t ts e k (no_else-append front K ok n))
  where
    go : (no_else front ≡ true) ⊎ ((r ≡ rule.ElsePart) × (front ≡ Take kind.Else Open ∷ else_part)) → (no_else front ≡ true → Goes loose (Part Any) (else_part ++ (front ++ K)) empty ts)
        → Goes loose (Part Any) (else_part ++ (Expand r ∷ K)) empty ts
    go (inl ok) ih = live_behind {h = loose} {old = front ++ K} {new = Expand r ∷ K} (λ state us d. expand m d) else_part (ih ok) refl
    go (inr p) ih = subst (λ x. Goes loose (Part Any) (else_part ++ (Expand x ∷ K)) empty ts) (sym p.0)
        (live_behind {h = loose} {old = K} {new = Expand rule.ElsePart ∷ K} (λ state us d. expand (later first) (act (live_any d))) else_part
        (else_taken K t ts (subst (λ x. Goes loose (Part Any) (x ++ K) state us) p.1 g) e) refl)

abbrev Tight : ℕ → Type 0
Tight n = (K : List Symbol) (state : State) (us : List Piece) → Goes loose (Part Any) K state us → length us ≤ n → no_else K ≡ true → Goes alternatives (Part Any) K state us

-- the part without an else, before an else and before another token
left_out : (n : ℕ) (K : List Symbol) (state : State) (us : List Piece) → ((m : ℕ) → suc m ≤ n → Tight m) → Goes loose (Part Any) (Act action.If ∷ K) state us → length us ≤ n → no_else K ≡ true
    → Goes alternatives (Part Any) (Act action.If ∷ K) state us → Goes alternatives (Part Any) (Expand rule.ElsePart ∷ K) state us
left_out n K state [] ih g le ok d = stop tt
left_out n K state (t ∷ ts) ih g le ok d = go (is_kind kind.Else (Some t.kind)) refl
  where
    inner : Goes loose (Part Any) (Act action.If ∷ K) state (t ∷ ts) → t.kind ≡ kind.Else → Goes loose (Part Any) (else_part ++ K) empty ts
    inner (act g') k = own_else g' t ts refl k ok

    go : (b : Bool) → is_kind kind.Else (Some t.kind) ≡ b → Goes alternatives (Part Any) (Expand rule.ElsePart ∷ K) state (t ∷ ts)
    go true e = let k : t.kind ≡ kind.Else = kind_from_code all_kinds kind_place t.kind kind.Else e in
        expand first (take_token k (live_any (ih (length ts) (omega arith) (else_part ++ K) empty ts (inner g k) (omega arith) ok)))
    go false e = expand (later first) (pass (λ k. let f : is_kind kind.Else (Some t.kind) ≡ true = kind_is t.kind kind.Else k in cc) d)

module _ (n : ℕ) (ih : (m : ℕ) → suc m ≤ n → Tight m) where
  tight_step : {K : List Symbol} {state : State} {us : List Piece} → Goes loose (Part Any) K state us → length us ≤ n → no_else K ≡ true → Goes alternatives (Part Any) K state us
  tight_step (stop ok) le n' = stop tt
  tight_step (take_token {kind = q} e g) le n' = take_token e (tight_step g (omega arith) (both_right (not (is_kind q (Some kind.Else))) _ n'))
  tight_step (pass p g) le n' = cc
  tight_step (act g) le n' = act (tight_step g le n')
  tight_step (expand {r = rule.ElsePart} first (stop ok)) le n' = stop tt
  tight_step (expand {r = rule.ElsePart} first (take_token e g)) le n' = expand first (take_token e (tight_step g (omega arith) n'))
  tight_step (expand {r = rule.ElsePart} {symbols = K} {state = state} {ps = us} (later first) g) le n' = left_out n K state us ih g le n' (tight_step g le n')
  tight_step (expand {r = rule.ElsePart} (later (later m)) g) le n' = elim m [ ]
  tight_step (expand {r = r} {alternative = front} {symbols = K} m g) le n' = expand m (tight_step g le (no_else-append front K (all_of no_else {xs = alternatives r} m refl) n'))

tight : (n m : ℕ) → suc m ≤ n → Tight m
tight zero m h = absurd (omega arith)
tight (suc n) m h = λ K state us g le ok. tight_step m (λ k lt. tight n k (omega arith)) g le ok

-- and the other way
loosened : {symbols : List Symbol} {state : State} {ts : List Piece} → Goes alternatives (Part Any) symbols state ts → Goes loose (Part Any) symbols state ts
loosened (stop ok) = stop tt
loosened (take_token e g) = take_token e (loosened g)
loosened (pass n g) = pass n (loosened g)
loosened (act g) = act (loosened g)
loosened (expand {r = rule.ElsePart} first g) = expand first (loosened g)
loosened (expand {r = rule.ElsePart} (later first) (stop ok)) = stop tt
loosened (expand {r = rule.ElsePart} (later first) (pass n g)) = expand (later first) (loosened g)
loosened (expand {r = rule.ElsePart} (later (later m)) g) = elim m [ ]
loosened (expand {r = r} m g) = expand m (loosened g)

pub same_live : SameLive
same_live ts = (λ g. tight (suc (length ts)) (length ts) (omega arith) start empty ts g (omega arith) refl, λ g. loosened g)

-- The events of an update, each where it is legal, and what they leave.
use Rattle.std.proofs.Common.{◌≡◌, ℕ, suc, ◌+◌, ◌≤◌, Bool, true, false, not, ◌&&◌, ◌||◌, List, [], ◌∷◌, length, Option, Some, None, Result, Ok, Err, refl, ap, ◌∙◌, arith}
use Rattle.std.specs.Prelude.{◌==◌, cond, if◌then◌else◌}
use Rattle.std.specs.List.{list_any}
use Rattle.std.proofs.lemmas.Bool.Decides.{nat_tests}
use Rattle.c_tree.specs.declared.event.EventKind.TheVariants as e
use Rattle.c_tree.specs.declared.event.Reason.{Reason}
use Rattle.c_tree.specs.declared.event.Reason.TheVariants as why
use Rattle.c_tree.specs.declared.run.End.{End}
use Rattle.c_tree.specs.declared.run.Phase.{Phase}
use Rattle.c_tree.specs.declared.run.Phase.TheVariants as phase
use Rattle.c_tree.specs.declared.run.Settings.{Settings}
use Rattle.c_tree.specs.declared.state.State.{State}
use Rattle.c_tree.specs.Run as r

while_none : (x : Option End) (next : Option r.Core) → x ≡ None → r.while_on x next ≡ next
while_none None next e = refl
while_none (Some x) next e = cc

legal_true : (b : Bool) (c : r.Core) → b ≡ true → r.legal b c ≡ Some c
legal_true true c e = refl
legal_true false c e = cc

pub next-Request : (k : Settings) (c : r.Core) → r.over k c ≡ None → r.is_due k c ≡ true
    → r.next k c e.Request ≡ Some (record c { phase = phase.Asked })
unfolding r.next
next-Request k c o m = while_none (r.over k c) _ o ∙ legal_true (r.is_due k c) _ m

pub next-Park : (k : Settings) (c : r.Core) (t : ℕ) → r.over k c ≡ None → r.may_park c t ≡ true
    → r.next k c (e.Park t) ≡ Some (record c { parked = t ∷ c.parked })
unfolding r.next
next-Park k c t o m = while_none (r.over k c) _ o ∙ legal_true (r.may_park c t) _ m

pub next-Resume : (k : Settings) (c : r.Core) (t : ℕ) → r.over k c ≡ None → r.may_resume c t ≡ true
    → r.next k c (e.Resume t) ≡ Some (record c { parked = r.without t c.parked })
unfolding r.next
next-Resume k c t o m = while_none (r.over k c) _ o ∙ legal_true (r.may_resume c t) _ m

update_true : (b : Bool) (k : Settings) (c : r.Core) (x : Result State Reason) (s : State) → b ≡ true → x ≡ Ok s
    → (if b then r.updated k c x else None) ≡ Some (record c { program = r.new_program k c; state = s; phase = phase.Updated })
update_true true k c (Ok y) s e f = let q : y ≡ s = cc in ap (λ z. let o : Option r.Core = Some (record c { program = r.new_program k c; state = z; phase = phase.Updated }) in o) q
update_true true k c (Err y) s e f = cc
update_true false k c x s e f = cc

pub next-Update : (k : Settings) (c : r.Core) (s : State) → r.over k c ≡ None → r.may_decide c ≡ true → r.decided k c ≡ Ok s
    → r.next k c e.Update ≡ Some (record c { program = r.new_program k c; state = s; phase = phase.Updated })
unfolding r.next
next-Update k c s o m d = while_none (r.over k c) _ o ∙ update_true (r.may_decide c) k c (r.decided k c) s m d

same : (n : ℕ) → (n == n) ≡ true
same n = grind (arith, nat_tests)

both : (a b : Bool) → a ≡ true → b ≡ true → (a && b) ≡ true
both true b e f = f
both false b e f = cc

same_reason : (x : Reason) → r.is_same_reason x x ≡ true
same_reason (why.Unmapped a b) = both (a == a) (b == b) (same a) (same b)
same_reason (why.Held a) = same a
same_reason (why.Removed a) = same a
same_reason (why.Check a b) = both (a == a) (b == b) (same a) (same b)
same_reason (why.Global a b) = both (a == a) (b == b) (same a) (same b)
same_reason (why.Field a b c) = both ((a == a) && (b == b)) (c == c) (both (a == a) (b == b) (same a) (same b)) (same c)
same_reason (why.Slot a b c d) =
    both ((a == a) && (b == b) && (c == c)) (d == d) (both ((a == a) && (b == b)) (c == c) (both (a == a) (b == b) (same a) (same b)) (same c)) (same d)
same_reason why.Memory = refl
same_reason (why.Depth a) = same a

or_true : (a b : Bool) → b ≡ true → (a || b) ≡ true
or_true true b e = refl
or_true false b e = e

pub refused_by : (x : Reason) (d : Result State Reason) → d ≡ Err x → (r.is_memory x || r.refuses x d) ≡ true
refused_by x d e = or_true (r.is_memory x) (r.refuses x d) (ap (r.refuses x) e ∙ same_reason x)

pub refused_short : (x : Reason) (d : Result State Reason) → x ≡ why.Memory → (r.is_memory x || r.refuses x d) ≡ true
refused_short x d e = ap (λ y. r.is_memory y || r.refuses y d) e

pub next-Refuse : (k : Settings) (c : r.Core) (x : Reason) → r.over k c ≡ None → r.may_decide c ≡ true → r.may_refuse k c x ≡ true
    → r.next k c (e.Refuse x) ≡ Some (record c { phase = phase.Refused x })
unfolding r.next
next-Refuse k c x o m d = while_none (r.over k c) _ o ∙ legal_true (r.may_decide c && r.may_refuse k c x) _ (both (r.may_decide c) _ m d)

-- what the tests say of the phase
left : (a b : Bool) → (a && b) ≡ true → a ≡ true
left true b e = refl
left false b e = cc

right : (a b : Bool) → (a && b) ≡ true → b ≡ true
right true b e = e
right false b e = cc

pub before_not_after : (p : Phase) → r.is_before p ≡ true → r.is_after p ≡ false
before_not_after phase.Before e = refl
before_not_after phase.Asked e = refl
before_not_after phase.Updated e = cc
before_not_after (phase.Refused x) e = cc

pub before_not_asked : (p : Phase) → r.is_before p ≡ true → r.is_asked p ≡ false
before_not_asked phase.Before e = refl
before_not_asked phase.Asked e = cc
before_not_asked phase.Updated e = refl
before_not_asked (phase.Refused x) e = refl

pub asked_is : (p : Phase) → r.is_asked p ≡ true → p ≡ phase.Asked
asked_is phase.Before e = cc
asked_is phase.Asked e = refl
asked_is phase.Updated e = cc
asked_is (phase.Refused x) e = cc

pub due_before : (k : Settings) (c : r.Core) → r.is_due k c ≡ true → r.is_before c.phase ≡ true
due_before k c m =
    let a = left (r.is_at k.armed c.steps && r.is_before c.phase) _ (left (r.is_at k.armed c.steps && r.is_before c.phase && _) _ m) in
    right (r.is_at k.armed c.steps) (r.is_before c.phase) a

pub park_asked : (c : r.Core) (t : ℕ) → r.may_park c t ≡ true → r.is_asked c.phase ≡ true
park_asked c t m = left (r.is_asked c.phase) _ (left (r.is_asked c.phase && _) _ m)

pub decide_asked : (c : r.Core) → r.may_decide c ≡ true → r.is_asked c.phase ≡ true
decide_asked c m = left (r.is_asked c.phase) _ m

pub resume_after : (c : r.Core) (t : ℕ) → r.may_resume c t ≡ true → r.is_after c.phase ≡ true
resume_after c t m = left (r.is_after c.phase) _ m

pub resume_parked : (c : r.Core) (t : ℕ) → r.may_resume c t ≡ true → r.is_parked c t ≡ true
resume_parked c t m = right (r.is_after c.phase) _ m

-- a thread that was parked is one fewer
no_longer : (b : Bool) (n : ℕ) (us : List ℕ) (u : ℕ) → length us ≤ n → length (cond (not b) (u ∷ us) us) ≤ suc n
no_longer true n us u h = omega arith
no_longer false n us u h = omega arith

pub without_shorter : (t : ℕ) (us : List ℕ) → length (r.without t us) ≤ length us
without_shorter t [] = omega arith
without_shorter t (u ∷ us) = no_longer (u == t) (length us) (r.without t us) u (without_shorter t us)

one_fewer : (b : Bool) (n : ℕ) (us : List ℕ) (u : ℕ) (rest : Bool) → (b || rest) ≡ true → length us ≤ n → (rest ≡ true → length us + 1 ≤ n)
    → length (cond (not b) (u ∷ us) us) + 1 ≤ suc n
one_fewer true n us u rest e h f = omega arith
one_fewer false n us u rest e h f = let g = f e in omega (arith, g)

pub without_fewer : (t : ℕ) (us : List ℕ) → list_any (λ u. u == t) us ≡ true → length (r.without t us) + 1 ≤ length us
without_fewer t [] e = cc
without_fewer t (u ∷ us) e = one_fewer (u == t) (length us) (r.without t us) u (list_any (λ v. v == t) us) e (without_shorter t us) (without_fewer t us)

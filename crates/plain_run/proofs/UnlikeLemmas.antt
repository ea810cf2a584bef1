-- An outcome that the update doesn't come to is not legal.
use Rattle.std.proofs.Common.{◌≡◌, ℕ, Bool, true, false, ◌&&◌, ◌||◌, ◌==◌, Option, Some, None, Result, Ok, Err, refl, ap, sym, ◌∙◌, arith, inl, inr}
use Rattle.std.specs.Prelude.{is_some, if◌then◌else◌}
use Rattle.std.proofs.lemmas.Bool.Decides.{nat_tests}
use Rattle.c_tree.specs.declared.event.EventKind.{EventKind}
use Rattle.c_tree.specs.declared.event.EventKind.TheVariants as e
use Rattle.c_tree.specs.declared.event.Reason.{Reason}
use Rattle.c_tree.specs.declared.event.Reason.TheVariants as why
use Rattle.c_tree.specs.declared.run.End.{End}
use Rattle.c_tree.specs.declared.run.Settings.{Settings}
use Rattle.c_tree.specs.declared.state.State.{State}
use Rattle.c_tree.specs.Run as r
use Rattle.c_tree.specs.Plan.{is_memory_refusal}
use Rattle.plain_run.specs.Decision.{IsDecision, IsOutcome, kind_decided}
use Rattle.plain_run.specs.declared.decision.Decision.{Decision}
use Rattle.plain_run.specs.declared.decision.Decision.TheVariants as decision
use Rattle.c_tree.proofs.BoolLemmas.{true_false, and_first, and_last}

-- reasons that are told apart
number_is : (a b : ℕ) → (a == b) ≡ true → a ≡ b
number_is a b h = grind (arith, nat_tests)

same_reason : (x y : Reason) → r.is_same_reason x y ≡ true → x ≡ y
same_reason (why.Unmapped a b) (why.Unmapped c d) h =
    ap (λ n. why.Unmapped n b) (number_is a c (and_first (a == c) (b == d) h)) ∙ ap (λ n. why.Unmapped c n) (number_is b d (and_last (a == c) (b == d) h))
same_reason (why.Held a) (why.Held b) h = ap why.Held (number_is a b h)
same_reason (why.Removed a) (why.Removed b) h = ap why.Removed (number_is a b h)
same_reason (why.Check a b) (why.Check c d) h =
    ap (λ n. why.Check n b) (number_is a c (and_first (a == c) (b == d) h)) ∙ ap (λ n. why.Check c n) (number_is b d (and_last (a == c) (b == d) h))
same_reason (why.Global a b) (why.Global c d) h =
    ap (λ n. why.Global n b) (number_is a c (and_first (a == c) (b == d) h)) ∙ ap (λ n. why.Global c n) (number_is b d (and_last (a == c) (b == d) h))
same_reason (why.Field a b c) (why.Field d f g) h =
    let most = and_first (a == d && b == f) (c == g) h in
    ap (λ n. why.Field n b c) (number_is a d (and_first (a == d) (b == f) most))
    ∙ (ap (λ n. why.Field d n c) (number_is b f (and_last (a == d) (b == f) most)) ∙ ap (λ n. why.Field d f n) (number_is c g (and_last (a == d && b == f) (c == g) h)))
same_reason (why.Slot a b c d) (why.Slot f g i j) h =
    let most = and_first (a == f && b == g && c == i) (d == j) h in
    let first = and_first (a == f && b == g) (c == i) most in
    ap (λ n. why.Slot n b c d) (number_is a f (and_first (a == f) (b == g) first))
    ∙ (ap (λ n. why.Slot f n c d) (number_is b g (and_last (a == f) (b == g) first))
    ∙ (ap (λ n. why.Slot f g n d) (number_is c i (and_last (a == f && b == g) (c == i) most)) ∙ ap (λ n. why.Slot f g i n) (number_is d j (and_last (a == f && b == g && c == i) (d == j) h))))
same_reason why.Memory why.Memory h = refl
same_reason (why.Depth a) (why.Depth b) h = ap why.Depth (number_is a b h)
same_reason _ _ h = cc

-- a decision that memory was not short for
decided_is : (k : Settings) (c : r.Core) (reason : Reason) → IsDecision k c (decision.Refused reason) → r.is_memory reason ≡ false → r.decided k c ≡ Err reason
decided_is k c reason (inl q) m = q
decided_is k c reason (inr q) m = absurd (true_false (sym (ap r.is_memory q) ∙ m))

no_update : (o : Option End) (b : Bool) (k : Settings) (c : r.Core) (x : Result State Reason) (reason : Reason) → x ≡ Err reason → r.while_on o (if b then r.updated k c x else None) ≡ None
no_update None true k c (Ok s) reason h = cc
no_update None true k c (Err y) reason h = refl
no_update None false k c x reason h = refl
no_update (Some y) b k c x reason h = refl

not_refused : (o : Option End) (a f m b : Bool) (c : r.Core) → m ≡ false → b ≡ false → r.while_on o (r.legal (a && (f && (m || b))) c) ≡ None
not_refused (Some y) a f m b c h i = refl
not_refused None true true true b c h i = cc
not_refused None true true false true c h i = cc
not_refused None true true false false c h i = refl
not_refused None true false m b c h i = refl
not_refused None false f m b c h i = refl

unlike : (x y : Reason) (b : Bool) → r.is_same_reason x y ≡ b → (x ≡ y → ⊥) → b ≡ false
unlike x y true h n = absurd (n (same_reason x y h))
unlike x y false h n = refl

other : (x y : Reason) → ((e.Refuse y ≡ e.Refuse x) → ⊥) → r.is_same_reason x y ≡ false
other x y n = unlike x y (r.is_same_reason x y) refl (λ q. n (ap (λ z. e.Refuse z) (sym q)))

-- an outcome other than the one that was decided is not legal
pub unlike_decision : (k : Settings) (c : r.Core) (d : Decision) (kind : EventKind) → IsOutcome kind → IsDecision k c d → is_memory_refusal (kind_decided d) ≡ false
    → (kind_decided d ≡ kind → ⊥) → is_memory_refusal kind ≡ false → r.next k c kind ≡ None
unfolding r.next
unlike_decision k c d (e.Step t) i x m n q = absurd i
unlike_decision k c d e.Request i x m n q = absurd i
unlike_decision k c d (e.Park t) i x m n q = absurd i
unlike_decision k c d (e.Resume t) i x m n q = absurd i
unlike_decision k c (decision.Updated parts new) e.Update i x m n q = absurd (n refl)
unlike_decision k c (decision.Refused reason) e.Update i x m n q =
    no_update (r.over k c) (r.may_decide c) k c (r.decided k c) reason (decided_is k c reason x m)
unlike_decision k c (decision.Updated parts new) (e.Refuse y) i x m n q =
    not_refused (r.over k c) (r.may_decide c) (is_some k.armed) (r.is_memory y) (r.refuses y (r.decided k c)) _ q (ap (r.refuses y) x.0)
unlike_decision k c (decision.Refused reason) (e.Refuse y) i x m n q =
    not_refused (r.over k c) (r.may_decide c) (is_some k.armed) (r.is_memory y) (r.refuses y (r.decided k c)) _ q
    (ap (r.refuses y) (decided_is k c reason x m) ∙ other y reason n)

-- a reason other than want of memory
pub not_short : (x : Reason) → (x ≡ why.Memory → ⊥) → r.is_memory x ≡ false
not_short x n = unlike x why.Memory (r.is_memory x) refl n

-- an event other than the refusal for want of memory is no such refusal
pub no_memory_refusal : (kind : EventKind) → (kind ≡ e.Refuse why.Memory → ⊥) → is_memory_refusal kind ≡ false
no_memory_refusal (e.Refuse x) n = not_short x (λ q. n (ap (λ z. e.Refuse z) q))
no_memory_refusal e.Request n = refl
no_memory_refusal (e.Step t) n = refl
no_memory_refusal (e.Park t) n = refl
no_memory_refusal e.Update n = refl
no_memory_refusal (e.Resume t) n = refl

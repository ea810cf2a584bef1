-- A source has one verdict.
use Rattle.std.proofs.Common.{◌≡◌, ◌∙◌, ℕ, List, Option, Some, None, refl, sym, ap, subst}
use Rattle.c_check.specs.Laws.{RefusedIsNotWellTyped}
use Rattle.c_grammar.specs.Source.{IsProgramOf, OneAnswer}
use Rattle.c_tree.specs.declared.cause.CheckCause.{CheckCause}
use Rattle.c_tree.specs.declared.cause.LimitKind.{LimitKind}
use Rattle.c_tree.specs.declared.cause.SourceCause.{SourceCause}
use Rattle.c_tree.specs.declared.cause.SourceCause.TheVariants as cause
use Rattle.c_tree.specs.declared.lifted.Lifted.{Lifted}
use Rattle.c_tree.specs.declared.program.At.{At}
use Rattle.c_tree.specs.declared.program.Program.{Program}
use Rattle.c_tree.specs.Lifting.{lift, lift_limit}
use Rattle.c_tree.specs.Typing.{IsWellTyped, first_cause}
use Rattle.c_source.specs.Laws.{OneVerdict}
use Rattle.c_source.specs.Source.{IsAccepted, IsRefused, unread, ill_typed, too_large}

one_program : OneAnswer → (source : List ℕ) (p q : Lifted) → IsAccepted source p → IsAccepted source q → p ≡ q
one_program one source p q a b = a.lifted ∙ ap lift (one.one_program source a.tree b.tree a.read b.read) ∙ sym b.lifted

-- a well-typed tree has no first cause
no_cause : RefusedIsNotWellTyped → (p q : Program) (at : ℕ) (c : CheckCause) → p ≡ q → IsWellTyped p → first_cause q ≡ Some (record { at = at; it = c }) → ⊥
no_cause law p q at c same typed is = law p at c (ap first_cause same ∙ is) typed

-- so does a limit that is kept and passed
no_limit : (p q : Program) (at : ℕ) (kind : LimitKind) → p ≡ q → lift_limit p ≡ None → lift_limit q ≡ Some (at, kind) → ⊥
no_limit p q at kind same none some = let e = sym none ∙ ap lift_limit same ∙ some in cc

never_both : OneAnswer → RefusedIsNotWellTyped → (source : List ℕ) (at : ℕ) (p : Lifted) (c : SourceCause) → IsAccepted source p → IsRefused source at c → ⊥
never_both one law source at p c a (unread why is fault) = one.never_both source at a.tree why a.read fault
never_both one law source at p c a (ill_typed tree why is read first) = no_cause law a.tree tree at why (one.one_program source a.tree tree a.read read) a.typed first
never_both one law source at p c a (too_large tree kind is read typed limit) = no_limit a.tree tree at kind (one.one_program source a.tree tree a.read read) a.small limit

same_at : (a b : ℕ) (c d : CheckCause) (x y : At CheckCause) → x.at ≡ a → x.it ≡ c → y.at ≡ b → y.it ≡ d → Some x ≡ Some y → (a ≡ b) × (c ≡ d)
same_at a b c d x y p q r s e = let same : x ≡ y = cc in (sym p ∙ ap (λ z. z.at) same ∙ r, sym q ∙ ap (λ z. z.it) same ∙ s)

same_limit : (a b : ℕ) (c d : LimitKind) (x y : ℕ × LimitKind) → x.0 ≡ a → x.1 ≡ c → y.0 ≡ b → y.1 ≡ d → Some x ≡ Some y → (a ≡ b) × (c ≡ d)
same_limit a b c d x y p q r s e = let same : x ≡ y = cc in (sym p ∙ ap (λ z. z.0) same ∙ r, sym q ∙ ap (λ z. z.1) same ∙ s)

one_refusal : OneAnswer → RefusedIsNotWellTyped → (source : List ℕ) (a b : ℕ) (c d : SourceCause) → IsRefused source a c → IsRefused source b d → (a ≡ b) × (c ≡ d)
one_refusal one law source a b c d (unread x is fault) (unread y it other) =
    let same = one.one_fault source a b x y fault other in (same.0, is ∙ ap cause.Read same.1 ∙ sym it)
one_refusal one law source a b c d (unread x is fault) (ill_typed tree y it read first) = absurd (one.never_both source a tree x read fault)
one_refusal one law source a b c d (unread x is fault) (too_large tree k it read typed limit) = absurd (one.never_both source a tree x read fault)
one_refusal one law source a b c d (ill_typed tree x is read first) (unread y it fault) = absurd (one.never_both source b tree y read fault)
one_refusal one law source a b c d (ill_typed tree x is read first) (ill_typed other y it there then) =
    let same = same_at a b x y (record { at = a; it = x }) (record { at = b; it = y }) refl refl refl refl (sym first ∙ ap first_cause (one.one_program source tree other read there) ∙ then) in (same.0, is ∙ ap cause.Check same.1 ∙ sym it)
one_refusal one law source a b c d (ill_typed tree x is read first) (too_large other k it there typed limit) =
    absurd (no_cause law other tree a x (one.one_program source other tree there read) typed first)
one_refusal one law source a b c d (too_large tree k is read typed limit) (unread y it fault) = absurd (one.never_both source b tree y read fault)
one_refusal one law source a b c d (too_large tree k is read typed limit) (ill_typed other y it there first) =
    absurd (no_cause law tree other b y (one.one_program source tree other read there) typed first)
one_refusal one law source a b c d (too_large tree k is read typed limit) (too_large other m it there also passed) =
    let same = same_limit a b k m (a, k) (b, m) refl refl refl refl (sym limit ∙ ap lift_limit (one.one_program source tree other read there) ∙ passed) in (same.0, is ∙ ap cause.Lift same.1 ∙ sym it)

pub one_verdict : OneAnswer → RefusedIsNotWellTyped → OneVerdict
one_verdict one law = record { one_program = one_program one; one_refusal = one_refusal one law; never_both = never_both one law }

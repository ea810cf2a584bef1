use Rattle.std.proofs.Common.{[], ◌∷◌, ◌++◌, refl, sym, subst}
use Rattle.patch_match.specs.Matching.{TellsOf}
use Rattle.patch_match.proofs.ClaimLemmas.{pushed, noted, unnoted, other_kind}
use Rattle.patch_match.proofs.matching.note_entry.Goals as goal

pub returns-then-i-kind : goal.returns-then-i-kind
returns-then-i-kind c = λ es h.
    subst (λ x. TellsOf c.args.named.now c.args.kind c.args.old.now c.args.new.now (es ++ x ∷ [])) (sym c.in-Match.is)
    (unnoted c.args.old.now c.args.new.now c.args.kind c.args.named.now es _
    (other_kind c.args.old.now c.args.new.now c.args.kind c.in-Match.i (pushed [] es) c.in-Match.a c.in-Match.b c.if-i-kind.true) h)

pub returns-in-Match : goal.returns-in-Match
returns-in-Match c = λ es h.
    subst (λ x. TellsOf c.note_match.new.named c.args.kind c.args.old.now c.args.new.now (es ++ x ∷ [])) (sym c.in-Match.is)
    (noted c.args.old.now c.args.new.now c.args.kind c.in-Match.i c.args.named.now c.note_match.new.named es c.in-Match.a c.in-Match.b c.if-i-kind.false h c.note_match.ensures)

pub returns-in-Field : goal.returns-in-Field
returns-in-Field c = λ es h.
    subst (λ x. TellsOf c.args.named.now c.args.kind c.args.old.now c.args.new.now (es ++ x ∷ [])) (sym c.in-Field.is)
    (unnoted c.args.old.now c.args.new.now c.args.kind c.args.named.now es _ refl h)

pub returns-in-Init : goal.returns-in-Init
returns-in-Init c = λ es h.
    subst (λ x. TellsOf c.args.named.now c.args.kind c.args.old.now c.args.new.now (es ++ x ∷ [])) (sym c.in-Init.is)
    (unnoted c.args.old.now c.args.new.now c.args.kind c.args.named.now es _ refl h)

pub returns-in-Point : goal.returns-in-Point
returns-in-Point c = λ es h.
    subst (λ x. TellsOf c.args.named.now c.args.kind c.args.old.now c.args.new.now (es ++ x ∷ [])) (sym c.in-Point.is)
    (unnoted c.args.old.now c.args.new.now c.args.kind c.args.named.now es _ refl h)

pub returns-in-Check : goal.returns-in-Check
returns-in-Check c = λ es h.
    subst (λ x. TellsOf c.args.named.now c.args.kind c.args.old.now c.args.new.now (es ++ x ∷ [])) (sym c.in-Check.is)
    (unnoted c.args.old.now c.args.new.now c.args.kind c.args.named.now es _ refl h)

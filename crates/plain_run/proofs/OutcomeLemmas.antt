-- The outcome of an update, decided and made.
use Rattle.std.proofs.Common.{◌≡◌, ◌≤◌, Bool, true, false, ◌&&◌, ◌||◌, map, length, Option, Some, None, Result, Ok, Err, inl, inr, refl, ap, sym, subst, ◌∙◌}
use Rattle.std.specs.Prelude.{is_some}
use Rattle.c_tree.specs.declared.event.EventKind.TheVariants as e
use Rattle.c_tree.specs.declared.event.Reason.{Reason}
use Rattle.c_tree.specs.declared.event.Reason.TheVariants as why
use Rattle.c_tree.specs.declared.lifted.Lifted.{Lifted}
use Rattle.c_tree.specs.declared.place.Places.{Places}
use Rattle.c_tree.specs.declared.run.Armed.{Armed}
use Rattle.c_tree.specs.declared.run.Phase.{Phase}
use Rattle.c_tree.specs.declared.run.Phase.TheVariants as phase
use Rattle.c_tree.specs.declared.run.Settings.{Settings}
use Rattle.c_tree.specs.declared.state.State.{State}
use Rattle.c_tree.specs.Layout.{places}
use Rattle.c_tree.specs.Run as r
use Rattle.c_tree.specs.Update.{update}
use Rattle.state_transform.specs.Parts.{with_parts}
use Rattle.state_transform.specs.declared.parts.Parts.{Parts}
use Rattle.plain_run.specs.CoreAt.{core_at, core_now, new_of, present}
use Rattle.plain_run.specs.Decision.{IsReason, IsUpdate}
use Rattle.plain_run.specs.Made.{Makes, on}
use Rattle.plain_run.specs.Ready.{IsFit, IsReady}
use Rattle.plain_run.specs.Settled.{AwaitsOutcome}
use Rattle.plain_run.specs.declared.now.Now.{Now}
use Rattle.plain_run.proofs.EventLemmas.{armed_next, parts}
use Rattle.plain_run.proofs.NextLemmas.{asked_is, decide_asked, next-Refuse, next-Update, refused_by, refused_short}
use Rattle.plain_run.proofs.ThreadsKept.{decided_threads}

asked_present : (p : Phase) (k : Settings) → p ≡ phase.Asked → present p k.armed k.program ≡ k.program
asked_present p k e = ap (λ q. present q k.armed k.program) e

-- where the outcome may come the update is asked for
pub outcome_asked : (k : Settings) (now : Now) → on k (core_now k now) (r.may_decide (core_now k now)) ≡ true → r.is_asked now.phase ≡ true
outcome_asked k now m = decide_asked (core_now k now) (parts (r.over k (core_now k now)) (r.may_decide (core_now k now)) m).1

awaits_phase : (k : Settings) (ps : Places) (now : Now) → AwaitsOutcome k ps now → now.phase ≡ phase.Asked
awaits_phase k ps now a = asked_is now.phase (outcome_asked k now a.may)

-- a refusal
reason_given : (k : Settings) (c : r.Core) (x : Reason) → IsReason k c x → (r.is_memory x || r.refuses x (r.decided k c)) ≡ true
reason_given k c x (inl e) = refused_by x (r.decided k c) e
reason_given k c x (inr e) = refused_short x (r.decided k c) e

both_true : (a b : Bool) → a ≡ true → b ≡ true → (a && b) ≡ true
both_true true b e f = f
both_true false b e f = cc

pub refuse_makes : (x : Reason) (now : Now) (k : Settings) (ps : Places) → AwaitsOutcome k ps now → IsReason k (core_now k now) x
    → Makes k (e.Refuse x) now ps (record now { phase = phase.Refused x })
refuse_makes x now k ps a d =
    let c = core_now k now in
    let now2 : Now = record now { phase = phase.Refused x } in
    let both = parts (r.over k c) (r.may_decide c) a.may in
    let legal = both_true (is_some k.armed) (r.is_memory x || r.refuses x (r.decided k c)) (a.ready.armed (outcome_asked k now a.may)) (reason_given k c x d) in
    let pq = asked_present now.phase k (awaits_phase k ps now a) in
    let nx = next-Refuse k c x both.0 both.1 legal ∙ ap (λ p. let o : Option r.Core = Some (core_at p now2) in o) pq in
    record {
      next = nx;
      ready = record {
        placed = a.ready.placed ∙ ap (λ p. map places p.functions) pq;
        few = a.ready.few;
        within = a.ready.within;
        limit = a.ready.limit;
        fits = a.ready.fits;
        armed = armed_next k c (core_now k now2) (e.Refuse x) a.ready.armed nx;
      };
    }

-- an Update
new_is : (o : Option Armed) (p q : Lifted) → p ≡ q → new_of o p ≡ (elim o as (λ _. Lifted) [ None ↦ q | Some a ↦ a.patch.new ])
new_is None p q e = e
new_is (Some a) p q e = refl

pub update_makes : (parts_of : Parts) (new : Places) (now : Now) (k : Settings) (old : Places) → AwaitsOutcome k old now → IsUpdate k (core_now k now) parts_of new
    → Makes k e.Update now new (record now { state = with_parts parts_of now.state; phase = phase.Updated })
update_makes parts_of new now k old a d =
    let c = core_now k now in
    let s = with_parts parts_of now.state in
    let now2 : Now = record now { state = s; phase = phase.Updated } in
    let both = parts (r.over k c) (r.may_decide c) a.may in
    let pq : new_of k.armed k.program ≡ r.new_program k c = new_is k.armed k.program c.program (sym (asked_present now.phase k (awaits_phase k old now a))) in
    let nx = next-Update k c s both.0 both.1 d.0 ∙ ap (λ p. let o : Option r.Core = Some (core_at p now2) in o) (sym pq) in
    let kept : length s.threads ≡ length now.state.threads = decided_threads k.armed now.state s d.0 in
    record {
      next = nx;
      ready = record {
        placed = d.1 ∙ ap (λ p. map places p.functions) (sym pq);
        few = subst (λ n. n ≤ 1000) (sym kept) a.ready.few;
        within = a.ready.within;
        limit = a.ready.limit;
        fits = a.ready.fits;
        armed = armed_next k c (core_now k now2) e.Update a.ready.armed nx;
      };
    }

-- what is decided
armed_fits : (p : Lifted) (o : Option Armed) (a : Armed) → o ≡ Some a → IsFit p o → IsFit p (Some a)
armed_fits p o a e f = subst (λ x. IsFit p x) e f

-- the places are those of the patch's old program
pub patch_placed : (k : Settings) (ps : Places) (now : Now) (a : Armed) → IsReady k ps (core_now k now) → r.is_asked now.phase ≡ true → k.armed ≡ Some a
    → ps.functions ≡ map places a.patch.old.functions
patch_placed k ps now a s m e =
    let same : a.patch.old ≡ k.program = (armed_fits k.program k.armed a e s.fits).same in
    s.placed ∙ ap (λ p. map places p.functions) (asked_present now.phase k (asked_is now.phase m) ∙ sym same)

decided_patch : (k : Settings) (c : r.Core) (a : Armed) → k.armed ≡ Some a → r.decided k c ≡ update a.patch c.state
decided_patch k c a e = ap (λ o. elim o as (λ _. Result State Reason) [ None ↦ Err why.Memory | Some b ↦ update b.patch c.state ]) e

new_patch : (k : Settings) (c : r.Core) (a : Armed) → k.armed ≡ Some a → r.new_program k c ≡ a.patch.new
new_patch k c a e = ap (λ o. elim o as (λ _. Lifted) [ None ↦ c.program | Some b ↦ b.patch.new ]) e

pub decide_updated : (k : Settings) (c : r.Core) (a : Armed) (parts_of : Parts) (new : Places) → k.armed ≡ Some a
    → update a.patch c.state ≡ Ok (with_parts parts_of c.state) → new.functions ≡ map places a.patch.new.functions → IsUpdate k c parts_of new
decide_updated k c a parts_of new e u n = (decided_patch k c a e ∙ u, n ∙ ap (λ p. map places p.functions) (sym (new_patch k c a e)))

pub decide_refused : (k : Settings) (c : r.Core) (a : Armed) (x : Reason) → k.armed ≡ Some a → update a.patch c.state ≡ Err x → IsReason k c x
decide_refused k c a x e u = inl (decided_patch k c a e ∙ u)

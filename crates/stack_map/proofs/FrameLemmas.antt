-- The new frames of an old one.
use Rattle.std.proofs.Common.{◌≡◌, ℕ, List, ◌++◌, map, Some, refl, sym, ◌∙◌, ap, append_assoc}
use Rattle.std.specs.Prelude.{Result, Ok, Err}
use Rattle.c_tree.specs.declared.event.Reason.{Reason}
use Rattle.c_tree.specs.declared.event.Reason.TheVariants as why
use Rattle.c_tree.specs.declared.mapping.LEntry.{LEntry}
use Rattle.c_tree.specs.declared.state.Frame.{Frame}
use Rattle.c_tree.specs.declared.state.State.{State}
use Rattle.c_tree.specs.Link.{Link}
use Rattle.c_tree.specs.MapStack.{frames_by, map_frame, part_frames, parts_at}
use Rattle.c_tree.specs.Refusal.{onward}
use Rattle.c_tree.specs.Step.{view_of}
use Rattle.stack_map.specs.declared.known.Known.{Known}
use Rattle.stack_map.specs.declared.parts.Part as code
use Rattle.stack_map.specs.Added.{after}
use Rattle.stack_map.specs.Moved.{Tells, part, parts}

-- the parts that are known of a frame's place make its frames
pub framed : (k : Link) (es : List LEntry) (s : State) (t i n : ℕ) (f : Frame) (known : Known) (ps : List code.Part) → Tells k es known →
    known.function ≡ f.function → known.place ≡ f.place → known.parts ≡ Some ps → i ≡ n →
    part_frames (view_of s f) (λ j c. why.Slot t i j c) 0 (map part ps) ≡ map_frame k es s t n f
framed k es s t i n f known ps tells function place is number =
    ap (λ z. part_frames (view_of s f) (λ j c. why.Slot t z j c) 0 (map part ps)) number
    ∙ ap (λ o. frames_by o (view_of s f) t n)
    (sym (ap (λ o. parts o) is) ∙ (tells ∙ (ap (λ z. parts_at k es z known.place) function ∙ ap (λ z. parts_at k es f.function z) place)))

same_made : (a b : List Frame) → (let r : Result (List Frame) Reason = Ok a in r) ≡ Ok b → a ≡ b
same_made a b e = cc

no_frames : (a : List Frame) (r : Reason) → (let x : Result (List Frame) Reason = Err r in x) ≡ Ok a → ⊥
no_frames a r e = cc

-- the frames of one old frame were made, and the old frames behind it are left
pub frames_more : (made now : List Frame) (first rest : Result (List Frame) Reason) → after made first ≡ Ok now →
    after made (onward first (λ fs. onward rest (λ gs. Ok (fs ++ gs)))) ≡ after now rest
frames_more made now (Err r) rest e = absurd (no_frames now r e)
frames_more made now (Ok fs) (Err r) e = refl
frames_more made now (Ok fs) (Ok gs) e =
    ap (λ hs. let r : Result (List Frame) Reason = Ok hs in r) (sym (append_assoc made fs gs) ∙ ap (λ hs. hs ++ gs) (same_made (made ++ fs) now e))

-- Where a formed program starts, the core stands for the first state.
use Rattle.std.proofs.Common.{◌≡◌, inl, ℕ, ◌-◌, ◌<◌, pos, List, [], ◌∷◌, ◌++◌, length, take, replicate, Option, Some, None, refl, sym, ap, ◌∙◌, subst, arith}
use Rattle.std.specs.Prelude.{slice_get, MatchOption, ⊤}
use Rattle.std.proofs.lemmas.List.Elements.{All-nil, All-cons}
use Rattle.std.proofs.lemmas.Option.{slice_get_within}
use Rattle.c_tree.specs.declared.lifted.LFunction.{LFunction}
use Rattle.c_tree.specs.declared.lifted.Lifted.{Lifted}
use Rattle.c_tree.specs.Formed.{IsFormed, IsMain}
use Rattle.c_tree.specs.Start.{start}
use Rattle.c_tree.specs.Step.{function_of, fresh}
use Rattle.state_laws.proofs.Places.{function_told}
use Rattle.store_mem.specs.Laws.{with_threads}
use Rattle.target_code.specs.declared.activation.Mode.TheVariants.{Running}
use Rattle.target_code.specs.declared.code.CodeFunction.{CodeFunction}
use Rattle.target_code.specs.Between.{Stands, running, IsRunning, IsAtRest, IsBetween}
use Rattle.target_code.specs.Code.{code_of}
use Rattle.target_code.specs.Machine.{function_in, begins}
use Rattle.target_code.specs.Seen.{seen}
use Rattle.target_code.specs.Target.{Target}
use Rattle.target_code.specs.TargetRun.{core_of, state_of}
use Rattle.target_laws.proofs.Places.{code_at}
use Rattle.target_laws.proofs.SeenFrames.{stands_seen}
use Rattle.target_laws.proofs.Turned.{fits_fresh}

main_is : (p : Lifted) (o : Option LFunction) → slice_get p.functions p.main ≡ o → IsMain o → (p.main < length p.functions) × ((function_of p p.main).params ≡ 0)
main_is p None e h = absurd h
main_is p (Some f) e h =
    (slice_get_within p.functions p.main f e, ap (λ (k : LFunction). k.params) (function_told p p.main f e) ∙ h.1)

begins_main : (p : Lifted) → p.main < length p.functions → (function_of p p.main).params ≡ 0 → begins (code_of p) p.main (pos 0) ≡ running (fresh p p.main []) 1 [] (pos 0) 0
begins_main p within params =
    let c = function_in (code_of p) p.main in
    let code = code_at p p.main within in
    let none : c.params ≡ 0 = ap (λ (k : CodeFunction). k.params) code.is ∙ params in
    let slots : c.slots ≡ length (function_of p p.main).slots = ap (λ (k : CodeFunction). k.slots) code.is in
    let made : ℕ → ℕ → Target = λ n k. record {
      mode = Running;
      activations = record { function = p.main; pc = 1; slots = take n (pos 0 ∷ []) ++ replicate (k - length (take n (pos 0 ∷ []))) (pos 0) } ∷ [];
      returned = pos 0;
      saved = [];
      count = 0;
    } in
    ap (λ n. made n c.slots) none ∙ ap (λ n. made 0 n) slots

pub first_between : (p : Lifted) (input : List ℕ) → IsFormed p → (state_of (core_of p input) ≡ start p input) × IsBetween p (core_of p input)
first_between p input formed =
    let m = main_is p (slice_get p.functions p.main) refl formed.main in
    let f = fresh p p.main [] in
    let x = begins (code_of p) p.main (pos 0) in
    let is = begins_main p m.0 m.1 in
    let stands : Stands p f 1 = record { fits = fits_fresh p p.main [] m.0 (omega arith); mark = refl } in
    let seen_is : seen (code_of p) x ≡ f ∷ [] = ap (λ k. seen (code_of p) k) is ∙ stands_seen p f 1 [] (pos 0) 0 stands tt in
    let there : IsRunning p (running f 1 [] (pos 0) 0) = record { frame = f; pc = 1; waits = []; is = refl; stands = stands; wait = tt } in
    let runs : IsAtRest p x = inl (subst (λ k. IsRunning p k) (sym is) there) in
    let long : 0 < length (f ∷ []) = omega arith in (
      ap (λ l. with_threads (Some l ∷ []) (start p input)) seen_is,
      record {
        formed = formed;
        code = refl;
        fields = refl;
        shared = refl;
        marked = (subst (λ l. 0 < length l) (sym seen_is) long, tt);
        threads = All-cons (λ o. MatchOption o ⊤ (λ x. IsAtRest p x)) (Some x) [] runs (All-nil (λ o. MatchOption o ⊤ (λ x. IsAtRest p x)));
      },
    )

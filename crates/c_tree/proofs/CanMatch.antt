-- A match entry can match by its names exactly where its numbers pass the tests of the chain.
use Rattle.std.proofs.Common.{◌≡◌, ℕ, Bool, true, false, not, List, Option, Some, None, Ok, refl, sym, ◌∙◌, ap}
use Rattle.std.specs.Prelude.{◌==◌, ◌&&◌, ◌||◌, if◌then◌else◌, is_ok}
use Rattle.std.proofs.lemmas.Bool.{eqb-true}
use Rattle.c_tree.specs.declared.cause.EntryCause.TheVariants as c
use Rattle.c_tree.specs.declared.lifted.Lifted.{Lifted}
use Rattle.c_tree.specs.declared.mapping.LEntry.{LEntry}
use Rattle.c_tree.specs.declared.mapping.LEntry.TheVariants as l
use Rattle.c_tree.specs.Step.{function_of}
use Rattle.c_tree.specs.Refusal.{refuse_if}
use Rattle.c_tree.specs.Names.{is_number, find_name, names_in}
use Rattle.c_tree.specs.StartForm.{is_start}
use Rattle.c_tree.specs.Suits.{start_differs}
use Rattle.c_tree.specs.Causes.{exactly_one, some_passes, is_main, can_start, breaks_start}
use Rattle.c_tree.specs.Entries.{can_match}
use Rattle.c_tree.specs.Chain.{lifted_match}
use Rattle.c_tree.proofs.BoolLemmas.{and_same}

-- starts by names and by numbers
pub none_start : (old new : Lifted) (i f : ℕ) (a : List ℕ) → find_name a (names_in old i) ≡ Some f → breaks_start old new i a None ≡ (i == 0 && start_differs old new f None)
none_start old new i f a e = and_same (i == 0) (i == 0) (is_main old a) (start_differs old new f None) refl (λ s. known (eqb-true i 0 s)) where
  whole : (b : Bool) → b ≡ ((if b then true else false) || false)
  whole true = refl
  whole false = refl

  known : i ≡ 0 → is_main old a ≡ start_differs old new f None
  known s = ap (λ o. is_number o old.main) (ap (λ z. find_name a (names_in old z)) (sym s) ∙ e) ∙ whole (f == old.main)

pub some_start : (old new : Lifted) (i f g : ℕ) (a b : List ℕ) → find_name a (names_in old i) ≡ Some f → find_name b (names_in new i) ≡ Some g →
    breaks_start old new i a (Some b) ≡ (i == 0 && start_differs old new f (Some g))
some_start old new i f g a b e w =
    and_same (i == 0) (i == 0) (exactly_one (is_main old a) (is_main new b) || can_start old a && not (can_start new b)) (start_differs old new f (Some g)) refl (λ s. known (eqb-true i 0 s))
  where
    test : Option ℕ → Option ℕ → Bool
    test o p =
        exactly_one (is_number o old.main) (is_number p new.main)
        || some_passes (λ f. is_start (function_of old f)) o && not (some_passes (λ f. is_start (function_of new f)) p)

    known : i ≡ 0 → test (find_name a (names_in old 0)) (find_name b (names_in new 0)) ≡ start_differs old new f (Some g)
    known s =
        ap (λ o. test o (find_name b (names_in new 0))) (ap (λ z. find_name a (names_in old z)) (sym s) ∙ e)
        ∙ ap (λ p. test (Some f) p) (ap (λ z. find_name b (names_in new z)) (sym s) ∙ w)

-- a match entry can match where the chain lets it pass
unless_refuses : (b : Bool) (y : LEntry) → is_ok (refuse_if b c.StartDiffers (Ok y)) ≡ not b
unless_refuses true y = refl
unless_refuses false y = refl

pub match_passes : (old new : Lifted) (i : ℕ) (a : List ℕ) (b : Option (List ℕ)) → is_ok (lifted_match old new i a b) ≡ can_match old new i a b
match_passes old new i a None = pick (find_name a (names_in old i)) refl where
  pick : (o : Option ℕ) → find_name a (names_in old i) ≡ o → is_ok (lifted_match old new i a None) ≡ can_match old new i a None
  pick None e = rw e refl
  pick (Some f) e =
      let tests : is_ok (lifted_match old new i a None) ≡ not (i == 0 && start_differs old new f None) = rw e (unless_refuses (i == 0 && start_differs old new f None) (l.Match i f None)) in
      let names : can_match old new i a None ≡ not (breaks_start old new i a None) = rw e refl in
      tests ∙ (ap (λ z. not z) (sym (none_start old new i f a e)) ∙ sym names)
match_passes old new i a (Some b) = pick (find_name a (names_in old i)) (find_name b (names_in new i)) refl refl where
  pick : (o p : Option ℕ) → find_name a (names_in old i) ≡ o → find_name b (names_in new i) ≡ p → is_ok (lifted_match old new i a (Some b)) ≡ can_match old new i a (Some b)
  pick None p e w = rw e refl
  pick (Some f) None e w = rw (e, w) refl
  pick (Some f) (Some g) e w =
      let tests : is_ok (lifted_match old new i a (Some b)) ≡ not (i == 0 && start_differs old new f (Some g)) =
      rw (e, w) (unless_refuses (i == 0 && start_differs old new f (Some g)) (l.Match i f (Some g))) in
      let names : can_match old new i a (Some b) ≡ not (breaks_start old new i a (Some b)) = rw (e, w) refl in
      tests ∙ (ap (λ z. not z) (sym (some_start old new i f g a b e w)) ∙ sym names)

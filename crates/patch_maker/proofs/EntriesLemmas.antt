-- Entries that are judged one after the other.
use Rattle.std.proofs.Common.{◌≡◌, ◌∙◌, ℕ, suc, ◌+◌, ◌<◌, Bool, true, false, List, [], ◌∷◌, ◌++◌, length, get_or, map, drop, refl, sym, ap, subst, arith}
use Rattle.std.proofs.Math.ListN.{get_or-map}
use Rattle.std.proofs.Math.Seq.{drop-cons}
use Rattle.std.specs.Prelude.{◌||◌, Result, Ok, Err, IfOk}
use Rattle.std.specs.List.{list_any}
use Rattle.std.proofs.lemmas.List.{append_assoc, append-nil, length-map}
use Rattle.std.proofs.lemmas.List.Folds.{list_any-append}
use Rattle.c_tree.specs.declared.cause.EntryCause.{EntryCause}
use Rattle.c_tree.specs.declared.cause.EntryCause.TheVariants as c
use Rattle.c_tree.specs.declared.program.At.{At}
use Rattle.c_tree.specs.declared.mapping.Entry.{Entry}
use Rattle.c_tree.specs.declared.mapping.LEntry.{LEntry}
use Rattle.c_tree.specs.Causes.{clash}
use Rattle.c_tree.specs.Entries.{Unsound, all_entries, sound_entry, with_number}
use Rattle.c_tree.specs.Link.{Link}
use Rattle.c_tree.specs.Refusal.{onward, refuse_if}
use Rattle.c_tree.specs.Sound.{numbers_clash}
use Rattle.map_entries.specs.declared.refused.EntryRefused.{EntryRefused}
use Rattle.map_entries.specs.declared.refused.EntryRefused.TheVariants.{Cause, Memory}
use Rattle.map_entries.specs.Gives.{Gives}
use Rattle.patch_laws.proofs.Clash.{clash_by_numbers}
use Rattle.patch_laws.proofs.AskedInOrder.{asked_alone, earlier_last}
use Rattle.patch_maker.specs.Judged.{AreJudged, IsStop, Mirrors}

-- entries in front of what others come to
abbrev pub front : List LEntry → Result (List LEntry) Unsound → Result (List LEntry) Unsound
front done r = onward r (λ rest. Ok (done ++ rest))

-- the entries so far, in front of what the others come to, are all
pub record SoFar (k : Link) (xs : List Entry) (i : ℕ) (done : List LEntry) : Type 0 where
  pub earlier : List Entry
  pub mirrors : Mirrors k earlier done
  pub whole : all_entries k 1 [] xs ≡ front done (all_entries k (i + 1) earlier (drop i xs))

pub at_start : (k : Link) (xs : List Entry) → SoFar k xs 0 []
at_start k xs = record { earlier = []; mirrors = λ x y is. refl; whole = alone (all_entries k 1 [] xs) }
  where
    alone : (r : Result (List LEntry) Unsound) → r ≡ front [] r
    alone (Ok ys) = refl
    alone (Err u) = refl

-- an entry without its own cause is unsound only by an earlier one
beside : (k : Link) (earlier : List Entry) (x : Entry) (r : Result LEntry EntryCause) → sound_entry k [] x ≡ r
    → sound_entry k earlier x ≡ onward r (λ y. refuse_if (list_any (clash x) earlier) c.Twice (Ok y))
beside k earlier x r is = earlier_last k earlier x ∙ ap (λ s. onward s (λ y. refuse_if (list_any (clash x) earlier) c.Twice (Ok y))) is

pub twice : (k : Link) (earlier : List Entry) (done : List LEntry) (x : Entry) (y : LEntry) → Mirrors k earlier done → sound_entry k [] x ≡ Ok y
    → list_any (numbers_clash y) done ≡ true → sound_entry k earlier x ≡ Err c.Twice
twice k earlier done x y mirrors is clashes = beside k earlier x (Ok y) is ∙ ap (λ b. refuse_if b c.Twice (Ok y)) (mirrors x y is ∙ clashes)

pub sound : (k : Link) (earlier : List Entry) (done : List LEntry) (x : Entry) (y : LEntry) → Mirrors k earlier done → sound_entry k [] x ≡ Ok y
    → list_any (numbers_clash y) done ≡ false → sound_entry k earlier x ≡ Ok y
sound k earlier done x y mirrors is apart = beside k earlier x (Ok y) is ∙ ap (λ b. refuse_if b c.Twice (Ok y)) (mirrors x y is ∙ apart)

pub unsound : (k : Link) (earlier : List Entry) (x : Entry) (e : EntryRefused) → Gives (Err e) (sound_entry k [] x) → Gives (Err e) (sound_entry k earlier x)
unsound k earlier x (Cause cause) is = beside k earlier x (Err cause) is
unsound k earlier x (Memory e) is = tt

or_swapped : (a b : Bool) → a || b ≡ b || (a || false)
or_swapped true true = refl
or_swapped true false = refl
or_swapped false true = refl
or_swapped false false = refl

more_mirrors : (k : Link) (earlier : List Entry) (done : List LEntry) (x : Entry) (y : LEntry) → Mirrors k earlier done → sound_entry k [] x ≡ Ok y → Mirrors k (x ∷ earlier) (done ++ y ∷ [])
more_mirrors k earlier done x y mirrors is a b also =
    ap (λ p. p || list_any (clash a) earlier) (clash_by_numbers k a x b y (asked_alone k a ∙ also) (asked_alone k x ∙ is)) ∙ ap (λ p. numbers_clash b y || p) (mirrors a b also)
    ∙ or_swapped (numbers_clash b y) (list_any (numbers_clash b) done) ∙ sym (list_any-append (numbers_clash b) done (y ∷ []))

append_one : (done : List LEntry) (y : LEntry) (r : Result (List LEntry) Unsound) → front done (onward r (λ ys. Ok (y ∷ ys))) ≡ front (done ++ y ∷ []) r
append_one done y (Ok ys) = ap Ok (sym (append_assoc done (y ∷ []) ys))
append_one done y (Err u) = refl

-- one entry more is sound
pub go_on : (k : Link) (xs : List Entry) (i : ℕ) (done : List LEntry) (x : Entry) (y : LEntry) (so : SoFar k xs i done) → drop i xs ≡ x ∷ drop (i + 1) xs → sound_entry k [] x ≡ Ok y
    → sound_entry k so.earlier x ≡ Ok y → SoFar k xs (i + 1) (done ++ y ∷ [])
go_on k xs i done x y so next is good = record {
  earlier = x ∷ so.earlier;
  mirrors = more_mirrors k so.earlier done x y so.mirrors is;
  whole = so.whole ∙ ap (λ ys. front done (all_entries k (i + 1) so.earlier ys)) next
      ∙ ap (λ r. front done (onward (with_number (i + 1) r) (λ z. onward (all_entries k (i + 1 + 1) (x ∷ so.earlier) (drop (i + 1) xs)) (λ zs. Ok (z ∷ zs))))) good
      ∙ append_one done y (all_entries k (i + 1 + 1) (x ∷ so.earlier) (drop (i + 1) xs));
}

-- the next entry is unsound
stop : (k : Link) (xs : List Entry) (i n : ℕ) (done : List LEntry) (x : Entry) (cause : EntryCause) (so : SoFar k xs i done) → drop i xs ≡ x ∷ drop (i + 1) xs → n ≡ i + 1
    → sound_entry k so.earlier x ≡ Err cause → all_entries k 1 [] xs ≡ Err (record { entry = n; cause = cause })
stop k xs i n done x cause so next number bad =
    so.whole ∙ ap (λ ys. front done (all_entries k (i + 1) so.earlier ys)) next
    ∙ ap (λ r. front done (onward (with_number (i + 1) r) (λ z. onward (all_entries k (i + 1 + 1) (x ∷ so.earlier) (drop (i + 1) xs)) (λ zs. Ok (z ∷ zs))))) bad
    ∙ ap (λ (m : ℕ). Err (record { entry = m; cause = cause })) (sym number)

-- all entries are sound
pub at_end : (k : Link) (xs : List Entry) (i : ℕ) (done : List LEntry) → SoFar k xs i done → drop i xs ≡ [] → AreJudged k xs done
at_end k xs i done so none = record { are = so.whole ∙ ap (λ ys. front done (all_entries k (i + 1) so.earlier ys)) none ∙ ap Ok (append-nil done) }

-- what is left at a place begins with the entry that stands there
pub next_entry : (xs : List (At Entry)) (i : ℕ) (d x : At Entry) → i < length xs → x ≡ get_or xs i d → drop i (map (λ e. e.it) xs) ≡ x.it ∷ drop (i + 1) (map (λ e. e.it) xs)
next_entry xs i d x less is =
    let it : At Entry → Entry = λ e. e.it in
    let inside : i < length (map it xs) = let same = length-map xs it in omega (arith, less, same) in
    let more : suc i ≡ i + 1 = omega arith in
    drop-cons (map it xs) i d.it inside ∙ ap (λ y. y ∷ drop (suc i) (map it xs)) (get_or-map it xs i d ∙ ap it (sym is)) ∙ ap (λ n. x.it ∷ drop n (map it xs)) more

-- an entry was judged sound
pub went_on : (k : Link) (xs : List Entry) (i : ℕ) (done more : List LEntry) (x : Entry) (y : LEntry) (so : SoFar k xs i done) (r : Result LEntry EntryRefused) → drop i xs ≡ x ∷ drop (i + 1) xs
    → r ≡ Ok y → Gives r (sound_entry k so.earlier x) → IfOk r (λ z. sound_entry k [] x ≡ Ok z) → more ≡ done ++ y ∷ [] → SoFar k xs (i + 1) more
went_on k xs i done more x y so r next is gives lifted all =
    let good : sound_entry k so.earlier x ≡ Ok y = subst (λ (q : Result LEntry EntryRefused). Gives q (sound_entry k so.earlier x)) is gives in
    let numbered : sound_entry k [] x ≡ Ok y = subst (λ (q : Result LEntry EntryRefused). IfOk q (λ z. sound_entry k [] x ≡ Ok z)) is lifted in
    subst (λ (es : List LEntry). SoFar k xs (i + 1) es) (sym all) (go_on k xs i done x y so next numbered good)

-- an entry was judged unsound
pub stopped : (k : Link) (xs : List Entry) (i n : ℕ) (done : List LEntry) (x : Entry) (cause : EntryCause) (so : SoFar k xs i done) (r : Result LEntry EntryRefused) (e : EntryRefused)
    → drop i xs ≡ x ∷ drop (i + 1) xs → n ≡ i + 1 → r ≡ Err e → e ≡ Cause cause → Gives r (sound_entry k so.earlier x) → IsStop k xs n cause
stopped k xs i n done x cause so r e next number is named gives =
    let bad : sound_entry k so.earlier x ≡ Err cause = subst (λ (q : Result LEntry EntryRefused). Gives q (sound_entry k so.earlier x)) (is ∙ ap Err named) gives in
    record { is = stop k xs i n done x cause so next number bad }

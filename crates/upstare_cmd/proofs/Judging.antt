-- What three texts came to, part by part, and what that means to a command.
use Rattle.std.proofs.Common.{◌≡◌, ℕ, List, inl, inr, sym, subst}
use Rattle.std.specs.Prelude.{Result, Ok, Err, IfOk}
use Rattle.std.specs.declared.alloc.AllocError.{AllocError}
use Rattle.c_grammar.specs.Mapping.{IsMappingOf}
use Rattle.c_tree.specs.declared.lifted.Lifted.{Lifted}
use Rattle.c_tree.specs.declared.mapping.LEntry.{LEntry}
use Rattle.c_tree.specs.declared.mapping.Mapping.{Mapping}
use Rattle.c_tree.specs.declared.mapping.Patch as made
use Rattle.c_tree.specs.Entries.{Unsound}
use Rattle.patch_maker.specs.Made.{IsPatch}
use Rattle.patch_maker.specs.declared.refused.PatchRefused.{PatchRefused}
use Rattle.patch_maker.specs.declared.refused.PatchRefused.TheVariants as patch_refused
use Rattle.patch_maker.specs.Made as maker
use Rattle.c_source.specs.Source.{IsAccepted}
use Rattle.answers.specs.Answer.{Answer}
use Rattle.upstare_cmd.specs.Asked.{TextNames}
use Rattle.upstare_cmd.specs.Meaning.{entries_of}
use Rattle.upstare_cmd.specs.Parts.{OfMapping, OfSource, OfTexts}
use Rattle.upstare_cmd.specs.Replies.{map_unsound}
use Rattle.upstare_cmd.specs.Views as inner
use Rattle.upstare_cmd.specs.declared.judged.Judged.{Judged}
use Rattle.upstare_cmd.specs.declared.judged.Judged.TheVariants.{Patch, Refused}

abbrev Entries : Type 0
Entries = Result (List LEntry) Unsound

-- the line of the first unsound entry tells of what the entries came to
entries_down : (name : List ℕ) (p q : Lifted) (m : Mapping) (why : PatchRefused) (a : Answer) → maker.IsRefusal p q m why → inner.TurnsDownEntry name why a
    → inner.TurnsDownEntries name (entries_of p q m) a
entries_down name p q m (patch_refused.Entry number why) a is down =
    subst (λ r. inner.TurnsDownEntries name r a) (sym is.is) down
entries_down name p q m (patch_refused.Memory e) a is down = absurd down

-- of a mapping that is judged between two programs
pub of_entries : (names : TextNames) (s : List ℕ) (p : Lifted) (t : List ℕ) (q : Lifted) (m : Mapping) (why : PatchRefused) (a : Answer) → maker.IsRefusal p q m why → inner.TurnsDownEntry names.map why a
    → inner.TurnsDownEntries names.map (entries_of p q m) a
of_entries names s p t q m why a is down = entries_down names.map p q m why a is down

mapping_is : (names : TextNames) (s : List ℕ) (p : Lifted) (t : List ℕ) (q : Lifted) (text : List ℕ) (m : Mapping) (j : Judged) → IsMappingOf text m
    → inner.IsOfEntries names s p t q m j → inner.IsOfMapping names s p t q text j
mapping_is names s p t q text m (Patch x) is of = (m, is, of)
mapping_is names s p t q text m (Refused a) is of = inl (m, is, of)

pub of_mapping : (names : TextNames) (s : List ℕ) (p : Lifted) (t : List ℕ) (q : Lifted) (text : List ℕ) (m : Mapping) (r : Result Judged AllocError) → IsMappingOf text m
    → IfOk r (inner.IsOfEntries names s p t q m) → IfOk r (inner.IsOfMapping names s p t q text)
of_mapping names s p t q text m (Ok j) is of = mapping_is names s p t q text m j is of
of_mapping names s p t q text m (Err e) is of = of

new_is : (names : TextNames) (s : List ℕ) (p : Lifted) (t : List ℕ) (q : Lifted) (text : List ℕ) (j : Judged) → IsAccepted t q
    → inner.IsOfMapping names s p t q text j → inner.IsOfNew names s p t text j
new_is names s p t q text (Patch x) is of = (q, is, of)
new_is names s p t q text (Refused a) is of = inl (q, is, of)

pub of_new : (names : TextNames) (s : List ℕ) (p : Lifted) (t : List ℕ) (q : Lifted) (text : List ℕ) (r : Result Judged AllocError) → IsAccepted t q
    → IfOk r (inner.IsOfMapping names s p t q text) → IfOk r (inner.IsOfNew names s p t text)
of_new names s p t q text (Ok j) is of = new_is names s p t q text j is of
of_new names s p t q text (Err e) is of = of

old_is : (names : TextNames) (s : List ℕ) (p : Lifted) (t text : List ℕ) (j : Judged) → IsAccepted s p → inner.IsOfNew names s p t text j → inner.IsOfTexts names s t text j
old_is names s p t text (Patch x) is of = (p, is, of)
old_is names s p t text (Refused a) is of = inl (p, is, of)

pub of_old : (names : TextNames) (s : List ℕ) (p : Lifted) (t text : List ℕ) (r : Result Judged AllocError) → IsAccepted s p → IfOk r (inner.IsOfNew names s p t text) → IfOk r (inner.IsOfTexts names s t text)
of_old names s p t text (Ok j) is of = old_is names s p t text j is of
of_old names s p t text (Err e) is of = of

-- What is meant of the patch of three texts.
pub of_patch : (names : TextNames) (s t text : List ℕ) (x : made.Patch) (Taken : Lifted → Lifted → Entries → Type 0) (a : Answer) → inner.IsOfTexts names s t text (Patch x)
    → ((p q : Lifted) (m : Mapping) → IsPatch s p t q m x → Taken p q (entries_of p q m)) → OfTexts names s t text Taken a
of_patch names s t text x Taken a (p, old, (q, new, (m, is, of))) taken = inl (p, old, inl (q, new, inl (m, is, taken p q m of)))

-- What is meant where one of three texts is refused.
weaker : (name : List ℕ) (p q : Lifted) (Taken : Lifted → Lifted → Entries → Type 0) (a : Answer) (r : Entries)
    → ((p q : Lifted) (why : Unsound) → a ≡ map_unsound name why.entry why.cause → Taken p q (Err why)) → inner.TurnsDownEntries name r a → Taken p q r
weaker name p q Taken a (Ok entries) taken down = absurd down
weaker name p q Taken a (Err why) taken down = taken p q why down

weaker_map : (names : TextNames) (p q : Lifted) (text : List ℕ) (Taken : Lifted → Lifted → Entries → Type 0) (a : Answer)
    → ((p q : Lifted) (why : Unsound) → a ≡ map_unsound names.map why.entry why.cause → Taken p q (Err why))
    → OfMapping names.map text (λ m. inner.TurnsDownEntries names.map (entries_of p q m) a) a → OfMapping names.map text (λ m. Taken p q (entries_of p q m)) a
weaker_map names p q text Taken a taken (inl (m, is, down)) = inl (m, is, weaker names.map p q Taken a (entries_of p q m) taken down)
weaker_map names p q text Taken a taken (inr down) = inr down

weaker_new : (names : TextNames) (p : Lifted) (t text : List ℕ) (Taken : Lifted → Lifted → Entries → Type 0) (a : Answer)
    → ((p q : Lifted) (why : Unsound) → a ≡ map_unsound names.map why.entry why.cause → Taken p q (Err why))
    → OfSource names.new t (λ q. OfMapping names.map text (λ m. inner.TurnsDownEntries names.map (entries_of p q m) a) a) a
    → OfSource names.new t (λ q. OfMapping names.map text (λ m. Taken p q (entries_of p q m)) a) a
weaker_new names p t text Taken a taken (inl (q, is, down)) = inl (q, is, weaker_map names p q text Taken a taken down)
weaker_new names p t text Taken a taken (inr down) = inr down

pub of_refused : (names : TextNames) (s t text : List ℕ) (Taken : Lifted → Lifted → Entries → Type 0) (a : Answer)
    → ((p q : Lifted) (why : Unsound) → a ≡ map_unsound names.map why.entry why.cause → Taken p q (Err why))
    → OfTexts names s t text (λ p q r. inner.TurnsDownEntries names.map r a) a → OfTexts names s t text Taken a
of_refused names s t text Taken a taken (inl (p, is, down)) = inl (p, is, weaker_new names p t text Taken a taken down)
of_refused names s t text Taken a taken (inr down) = inr down

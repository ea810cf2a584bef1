-- Bytes have one answer.
use Rattle.std.proofs.Common.{◌≡◌, ◌≢◌, ◌∙◌, ℕ, zero, suc, ◌+◌, ◌≤◌, ◌<◌, List, [], ◌∷◌, length, take, map, inl, inr, refl, sym, ap, subst, arith}
use Rattle.std.proofs.lemmas.List.{take-take}
use Rattle.std.specs.Prelude.{◌⊎◌, Result, Ok, Err}
use Rattle.c_grammar.specs.Mapping.{IsMappingOf, OneMapAnswer}
use Rattle.c_grammar.specs.Rules.{first_map_start, map_start}
use Rattle.c_tree.specs.declared.cause.FileCause.{FileCause}
use Rattle.c_tree.specs.declared.cause.FileCause.TheVariants as cause
use Rattle.c_tree.specs.declared.lifted.Lifted.{Lifted}
use Rattle.c_tree.specs.declared.mapping.LEntry.{LEntry}
use Rattle.c_tree.specs.declared.mapping.Mapping.{Mapping}
use Rattle.c_tree.specs.declared.mapping.Patch.{Patch}
use Rattle.c_tree.specs.Canonical.{canonical_entries, canonical_text}
use Rattle.c_tree.specs.Entries.{Unsound}
use Rattle.map_lang.specs.Formats.{FirstMappingsAreMappings, MappingsOfOnePartAreFirst}
use Rattle.patch_form.specs.declared.format.Format.{Format}
use Rattle.patch_form.specs.declared.format.Format.TheVariants.{One, Two}
use Rattle.patch_form.specs.Framing.{framed, before_old, before_new, before_map, IsFraming, IsCutShort, IsBadAt}
use Rattle.patch_form.specs.Laws.{OneFraming, NoneIsShort, NoneIsBad, NoShortIsBad, OneOffset}
use Rattle.c_reader.specs.Spelling.{CanBeSpelt}
use Rattle.c_reader.proofs.Spelling.{liftings_spelt}
use Rattle.c_source.specs.Laws.{OneVerdict}
use Rattle.c_source.specs.Source.{IsAccepted, IsRefused}
use Rattle.patch_file.specs.Formats.{CanBeIn, IsMappingAs, start_of}
use Rattle.patch_file.specs.Laws.{OneAnswer}
use Rattle.patch_file.specs.Refused.{IsFirstDifference, TextsRefused, old_source, new_source, map_text, entry, not_canonical, IsFileRefused, too_long, short, bad_head, texts}
use Rattle.patch_file.specs.Whole.{IsFileOf, IsWhole, file_in, map_of}
use Rattle.patch_file.proofs.Files.{as_large}
use Rattle.patch_file.proofs.SingleParts.{single_mapping}
use Rattle.read_back.specs.Laws.{CanonicalTextReadsBack}

-- the laws that this one rests on
pub record Laws : Type 0 where
  pub source : OneVerdict
  pub mapping : OneMapAnswer map_start
  pub first_mapping : OneMapAnswer first_map_start
  pub first : FirstMappingsAreMappings
  pub single : MappingsOfOnePartAreFirst
  pub canonical : CanonicalTextReadsBack
  pub texts : OneFraming
  pub not_short : NoneIsShort
  pub not_bad : NoneIsBad
  pub short : NoShortIsBad
  pub offset : OneOffset

-- a text has one answer in each format
answers : Laws → (f : Format) → OneMapAnswer (start_of f)
answers laws One = laws.first_mapping
answers laws Two = laws.mapping

-- what the entries of a mapping come to between two programs
abbrev answer : Lifted → Lifted → Mapping → Result (List LEntry) Unsound
answer p q m = canonical_entries p q (map (λ x. x.it) m.entries)

same_answer : (p q p' q' : Lifted) (m m' : Mapping) → p ≡ p' → q ≡ q' → m ≡ m' → answer p q m ≡ answer p' q' m'
same_answer p q p' q' m m' a b c = ap (λ x. answer x q m) a ∙ ap (λ x. answer p' x m) b ∙ ap (λ x. answer p' q' x) c

abbrev ok : List LEntry → Result (List LEntry) Unsound
ok es = Ok es

abbrev err : Unsound → Result (List LEntry) Unsound
err u = Err u

same_ok : (a b : List LEntry) → ok a ≡ ok b → a ≡ b
same_ok a b e = cc

no_ok : {X : Type 0} (a : List LEntry) (u : Unsound) → ok a ≡ err u → X
no_ok a u e = cc

same_err : (u v : Unsound) → err u ≡ err v → u ≡ v
same_err u v e = cc

-- a number is below another, equal to it or above it
nat_cases : (i j : ℕ) → (i < j) ⊎ ((i ≡ j) ⊎ (j < i))
nat_cases zero zero = inr (inl refl)
nat_cases zero (suc j) = inl (omega arith)
nat_cases (suc i) zero = inr (inr (omega arith))
nat_cases (suc i) (suc j) = go (nat_cases i j)
  where
    go : (i < j) ⊎ ((i ≡ j) ⊎ (j < i)) → (suc i < suc j) ⊎ ((suc i ≡ suc j) ⊎ (suc j < suc i))
    go (inl less) = inl (omega (arith, less))
    go (inr (inl same)) = inr (inl (ap suc same))
    go (inr (inr more)) = inr (inr (omega (arith, more)))

-- the first difference is one
shorter : (i j : ℕ) (xs ys : List ℕ) → i < j → take j xs ≡ take j ys → take (i + 1) xs ≡ take (i + 1) ys
shorter i j xs ys less same =
    sym (take-take (i + 1) j xs (omega (arith, less))) ∙ ap (take (i + 1)) same ∙ take-take (i + 1) j ys (omega (arith, less))

one_difference : (i j : ℕ) (xs ys : List ℕ) → IsFirstDifference i xs ys → IsFirstDifference j xs ys → i ≡ j
one_difference i j xs ys a b = go (nat_cases i j)
  where
    go : (i < j) ⊎ ((i ≡ j) ⊎ (j < i)) → i ≡ j
    go (inl less) = absurd (a.differ (shorter i j xs ys less b.same))
    go (inr (inl same)) = same
    go (inr (inr more)) = absurd (b.differ (shorter j i xs ys more a.same))

differs_itself : (i : ℕ) (xs ys : List ℕ) → xs ≡ ys → IsFirstDifference i xs ys → ⊥
differs_itself i xs ys same d = d.differ (ap (take (i + 1)) same)

-- two texts of one mapping first differ from the canonical text at one offset
one_end : Laws → (form : Format) (old new mapping : List ℕ) (p p' q q' : Lifted) (m m' : Mapping) (es es' : List LEntry) (i i' a b : ℕ) {c d : FileCause}
    → IsAccepted old p → IsAccepted old p' → IsAccepted new q → IsAccepted new q' → IsMappingAs form mapping m → IsMappingAs form mapping m'
    → answer p q m ≡ Ok es → answer p' q' m' ≡ Ok es' → IsFirstDifference i mapping (canonical_text p q es) → IsFirstDifference i' mapping (canonical_text p' q' es')
    → (a ≡ length (before_map form old new mapping) + i) × (b ≡ length (before_map form old new mapping) + i') → (c ≡ cause.NotCanonical) × (d ≡ cause.NotCanonical) → (a ≡ b) × (c ≡ d)
one_end laws form old new mapping p p' q q' m m' es es' i i' a b acc acc' ace ace' read read' is is' differs differs' at why =
    let olds = laws.source.one_program old p p' acc acc' in
    let news = laws.source.one_program new q q' ace ace' in
    let same = same_ok es es' (sym is ∙ same_answer p q p' q' m m' olds news ((answers laws form).one_mapping mapping m m' read read') ∙ is') in
    let text : canonical_text p q es ≡ canonical_text p' q' es' = ap (λ x. canonical_text x q es) olds ∙ ap (λ x. canonical_text p' x es) news ∙ ap (λ x. canonical_text p' q' x) same in
    let there = one_difference i i' mapping (canonical_text p' q' es') (subst (λ (t : List ℕ). IsFirstDifference i mapping t) text differs) differs' in
    (at.0 ∙ ap (λ n. length (before_map form old new mapping) + n) there ∙ sym at.1, why.0 ∙ sym why.1)

-- three texts are refused at one offset for one cause
one_text : Laws → (form : Format) (old new mapping : List ℕ) (a b : ℕ) (c d : FileCause) → TextsRefused form old new mapping a c → TextsRefused form old new mapping b d → (a ≡ b) × (c ≡ d)
one_text laws form old new mapping a b e f (old_source i c refused at why) (old_source i' c' refused' at' why') =
    let same = laws.source.one_refusal old i i' c c' refused refused' in (at ∙ ap (λ n. length (before_old form old) + n) same.0 ∙ sym at', why ∙ ap cause.OldSource same.1 ∙ sym why')
one_text laws form old new mapping a b e f (old_source i c refused at why) (new_source p' i' c' old1' refused' at' why') =
    absurd (laws.source.never_both old i p' c old1' refused)
one_text laws form old new mapping a b e f (old_source i c refused at why) (map_text p' q' i' c' old1' new1' fault' at' why') =
    absurd (laws.source.never_both old i p' c old1' refused)
one_text laws form old new mapping a b e f (old_source i c refused at why) (entry p' q' m' u' old1' new1' read' is' at' why') =
    absurd (laws.source.never_both old i p' c old1' refused)
one_text laws form old new mapping a b e f (old_source i c refused at why) (not_canonical p' q' m' es' i' old1' new1' read' is' differs' at' why') =
    absurd (laws.source.never_both old i p' c old1' refused)
one_text laws form old new mapping a b e f (new_source p i c old1 refused at why) (old_source i' c' refused' at' why') =
    absurd (laws.source.never_both old i' p c' old1 refused')
one_text laws form old new mapping a b e f (new_source p i c old1 refused at why) (new_source p' i' c' old1' refused' at' why') =
    let same = laws.source.one_refusal new i i' c c' refused refused' in (at ∙ ap (λ n. length (before_new form old new) + n) same.0 ∙ sym at', why ∙ ap cause.NewSource same.1 ∙ sym why')
one_text laws form old new mapping a b e f (new_source p i c old1 refused at why) (map_text p' q' i' c' old1' new1' fault' at' why') =
    absurd (laws.source.never_both new i q' c new1' refused)
one_text laws form old new mapping a b e f (new_source p i c old1 refused at why) (entry p' q' m' u' old1' new1' read' is' at' why') =
    absurd (laws.source.never_both new i q' c new1' refused)
one_text laws form old new mapping a b e f (new_source p i c old1 refused at why) (not_canonical p' q' m' es' i' old1' new1' read' is' differs' at' why') =
    absurd (laws.source.never_both new i q' c new1' refused)
one_text laws form old new mapping a b e f (map_text p q i c old1 new1 fault at why) (old_source i' c' refused' at' why') =
    absurd (laws.source.never_both old i' p c' old1 refused')
one_text laws form old new mapping a b e f (map_text p q i c old1 new1 fault at why) (new_source p' i' c' old1' refused' at' why') =
    absurd (laws.source.never_both new i' q c' new1 refused')
one_text laws form old new mapping a b e f (map_text p q i c old1 new1 fault at why) (map_text p' q' i' c' old1' new1' fault' at' why') =
    let same = (answers laws form).one_fault mapping i i' c c' fault fault' in (at ∙ ap (λ n. length (before_map form old new mapping) + n) same.0 ∙ sym at', why ∙ ap cause.Map same.1 ∙ sym why')
one_text laws form old new mapping a b e f (map_text p q i c old1 new1 fault at why) (entry p' q' m' u' old1' new1' read' is' at' why') =
    absurd ((answers laws form).never_both mapping i m' c read' fault)
one_text laws form old new mapping a b e f (map_text p q i c old1 new1 fault at why) (not_canonical p' q' m' es' i' old1' new1' read' is' differs' at' why') =
    absurd ((answers laws form).never_both mapping i m' c read' fault)
one_text laws form old new mapping a b e f (entry p q m u old1 new1 read is at why) (old_source i' c' refused' at' why') =
    absurd (laws.source.never_both old i' p c' old1 refused')
one_text laws form old new mapping a b e f (entry p q m u old1 new1 read is at why) (new_source p' i' c' old1' refused' at' why') =
    absurd (laws.source.never_both new i' q c' new1 refused')
one_text laws form old new mapping a b e f (entry p q m u old1 new1 read is at why) (map_text p' q' i' c' old1' new1' fault' at' why') =
    absurd ((answers laws form).never_both mapping i' m c' read fault')
one_text laws form old new mapping a b e f (entry p q m u old1 new1 read is at why) (entry p' q' m' u' old1' new1' read' is' at' why') =
    let same = same_err u u' (sym is ∙ same_answer p q p' q' m m' (laws.source.one_program old p p' old1 old1') (laws.source.one_program new q q' new1 new1') ((answers laws form).one_mapping mapping m m' read read') ∙ is') in (at ∙ sym at', why ∙ ap (λ v. cause.Entry v.entry v.cause) same ∙ sym why')
one_text laws form old new mapping a b e f (entry p q m u old1 new1 read is at why) (not_canonical p' q' m' es' i' old1' new1' read' is' differs' at' why') =
    no_ok es' u (sym is' ∙ same_answer p' q' p q m' m (laws.source.one_program old p' p old1' old1) (laws.source.one_program new q' q new1' new1) ((answers laws form).one_mapping mapping m' m read' read) ∙ is)
one_text laws form old new mapping a b e f (not_canonical p q m es i old1 new1 read is differs at why) (old_source i' c' refused' at' why') =
    absurd (laws.source.never_both old i' p c' old1 refused')
one_text laws form old new mapping a b e f (not_canonical p q m es i old1 new1 read is differs at why) (new_source p' i' c' old1' refused' at' why') =
    absurd (laws.source.never_both new i' q c' new1 refused')
one_text laws form old new mapping a b e f (not_canonical p q m es i old1 new1 read is differs at why) (map_text p' q' i' c' old1' new1' fault' at' why') =
    absurd ((answers laws form).never_both mapping i' m c' read fault')
one_text laws form old new mapping a b e f (not_canonical p q m es i old1 new1 read is differs at why) (entry p' q' m' u' old1' new1' read' is' at' why') =
    no_ok es u' (sym is ∙ same_answer p q p' q' m m' (laws.source.one_program old p p' old1 old1') (laws.source.one_program new q q' new1 new1') ((answers laws form).one_mapping mapping m m' read read') ∙ is')
one_text laws form old new mapping a b e f (not_canonical p q m es i old1 new1 read is differs at why) (not_canonical p' q' m' es' i' old1' new1' read' is' differs' at' why') =
    one_end laws form old new mapping p p' q q' m m' es es' i i' a b old1 old1' new1 new1' read read' is is' differs differs' (at, at') (why, why')

-- the text of a patch's entries is a mapping in a format, whose canonical entries they are
record IsReadBack (f : Format) (p : Patch) : Type 0 where
  mapping : Mapping
  read : IsMappingAs f (map_of p) mapping
  entries : answer p.old p.new mapping ≡ Ok p.entries

-- the names of an accepted program can be spelt
accepted_spelt : (source : List ℕ) (p : Lifted) → IsAccepted source p → CanBeSpelt p
accepted_spelt source p a = subst CanBeSpelt (sym a.lifted) (liftings_spelt source a.tree a.read a.small)

-- a mapping whose patch can be written in a format is one in that format
read_as : Laws → (f : Format) (p : Patch) (m : Mapping) → CanBeIn f p → IsMappingOf (map_of p) m → answer p.old p.new m ≡ Ok p.entries → IsMappingAs f (map_of p) m
read_as laws One p m can read are = laws.single (map_of p) m read (single_mapping p.old p.new m p.entries are can)
read_as laws Two p m can read are = read

-- So is that of a whole patch in each format that it can be written in.
read_back : Laws → (f : Format) (p : Patch) → CanBeIn f p → IsWhole p → IsReadBack f p
read_back laws f p can whole =
    let old = accepted_spelt p.old_text p.old whole.old in
    let new = accepted_spelt p.new_text p.new whole.new in
    let again = laws.canonical whole.text p.old p.new whole.mapping p.entries old new whole.read whole.entries in
    record { mapping = again.0; read = read_as laws f p again.0 can again.1 again.2; entries = again.2 }

-- a whole patch's texts are not refused
no_text : Laws → (f : Format) (p : Patch) (old new mapping : List ℕ) (at : ℕ) (c : FileCause) → CanBeIn f p → IsWhole p → old ≡ p.old_text → new ≡ p.new_text → mapping ≡ map_of p
    → TextsRefused f old new mapping at c → ⊥
no_text laws f p old new mapping at c can whole o n m refused =
    inner (subst (λ (t : List ℕ). TextsRefused f p.old_text p.new_text t at c) m (subst (λ (t : List ℕ). TextsRefused f p.old_text t mapping at c) n (subst (λ (t : List ℕ). TextsRefused f t new mapping at c) o refused)))
  where
    again : IsReadBack f p
    again = read_back laws f p can whole

    one : OneMapAnswer (start_of f)
    one = answers laws f

    inner : TextsRefused f p.old_text p.new_text (map_of p) at c → ⊥
    inner (old_source i why is e f) = laws.source.never_both p.old_text i p.old why whole.old is
    inner (new_source x i why acc is e f) = laws.source.never_both p.new_text i p.new why whole.new is
    inner (map_text x y i why acc ace is e f) = one.never_both (map_of p) i again.mapping why again.read is
    inner (entry x y k u acc ace read is e f) =
        no_ok p.entries u (sym again.entries ∙ same_answer p.old p.new x y again.mapping k (laws.source.one_program p.old_text p.old x whole.old acc)
        (laws.source.one_program p.new_text p.new y whole.new ace) (one.one_mapping (map_of p) again.mapping k again.read read) ∙ is)
    inner (not_canonical x y k es i acc ace read is differs e f) =
        let olds = laws.source.one_program p.old_text p.old x whole.old acc in
        let news = laws.source.one_program p.new_text p.new y whole.new ace in
        let same = same_ok p.entries es (sym again.entries ∙ same_answer p.old p.new x y again.mapping k olds news (one.one_mapping (map_of p) again.mapping k again.read read) ∙ is) in
        let text : map_of p ≡ canonical_text x y es = ap (λ z. canonical_text z p.new p.entries) olds ∙ ap (λ z. canonical_text x z p.entries) news ∙ ap (λ z. canonical_text x y z) same in
        differs_itself i (map_of p) (canonical_text x y es) text differs

framing : (f : Format) (bytes : List ℕ) (p : Patch) → bytes ≡ file_in f p → IsFraming bytes
framing f bytes p is = (f, (p.old_text, (p.new_text, (map_of p, is))))

never_both : Laws → (bytes : List ℕ) (at : ℕ) (p : Patch) (c : FileCause) → IsFileOf bytes p → IsFileRefused bytes at c → ⊥
never_both laws bytes at p c (whole, (f, can, is)) (too_long more e g) = omega (arith, ap length is, as_large f p, whole.small, more)
never_both laws bytes at p c (whole, (f, can, is)) (short fits cut e g) = laws.not_short bytes (framing f bytes p is) cut
never_both laws bytes at p c (whole, (f, can, is)) (bad_head fits bad g) = laws.not_bad bytes at (framing f bytes p is) bad
never_both laws bytes at p c (whole, (f, can, is)) (texts g old new mapping fits bytes_are refused) =
    let same = laws.texts g f old new mapping p.old_text p.new_text (map_of p) (sym bytes_are ∙ is) in
    no_text laws f p old new mapping at c can whole same.1 same.2 same.3 (subst (λ h. TextsRefused h old new mapping at c) same.0 refused)

one_patch : Laws → (bytes : List ℕ) (p q : Patch) → IsFileOf bytes p → IsFileOf bytes q → p ≡ q
one_patch laws bytes p q (a, (f, can, is)) (b, (g, may, it)) =
    let x = read_back laws Two p tt a in
    let y = read_back laws Two q tt b in
    let same = laws.texts f g p.old_text p.new_text (map_of p) q.old_text q.new_text (map_of q) (sym is ∙ it) in
    let olds = laws.source.one_program q.old_text p.old q.old (subst (λ (t : List ℕ). IsAccepted t p.old) same.1 a.old) b.old in
    let news = laws.source.one_program q.new_text p.new q.new (subst (λ (t : List ℕ). IsAccepted t p.new) same.2 a.new) b.new in
    let maps = laws.mapping.one_mapping (map_of q) x.mapping y.mapping (subst (λ (t : List ℕ). IsMappingOf t x.mapping) same.3 x.read) y.read in
    let entries = same_ok p.entries q.entries (sym x.entries ∙ same_answer p.old p.new q.old q.new x.mapping y.mapping olds news maps ∙ y.entries) in
    λ i. record { old_text = same.1 i; old = olds i; new_text = same.2 i; new = news i; entries = entries i }

one_refusal : Laws → (bytes : List ℕ) (a b : ℕ) (c d : FileCause) → IsFileRefused bytes a c → IsFileRefused bytes b d → (a ≡ b) × (c ≡ d)
one_refusal laws bytes a b c d (too_long more at why) (too_long more' at' why') = (at ∙ sym at', why ∙ sym why')
one_refusal laws bytes a b c d (too_long more at why) (short fits cut at' why') = absurd (omega (arith, more, fits))
one_refusal laws bytes a b c d (too_long more at why) (bad_head fits bad why') = absurd (omega (arith, more, fits))
one_refusal laws bytes a b c d (too_long more at why) (texts f old new mapping fits are refused) = absurd (omega (arith, more, fits))
one_refusal laws bytes a b c d (short fits cut at why) (too_long more at' why') = absurd (omega (arith, more, fits))
one_refusal laws bytes a b c d (short fits cut at why) (short fits' cut' at' why') = (at ∙ sym at', why ∙ sym why')
one_refusal laws bytes a b c d (short fits cut at why) (bad_head fits' bad why') = absurd (laws.short bytes b cut bad)
one_refusal laws bytes a b c d (short fits cut at why) (texts f old new mapping fits' are refused) = absurd (laws.not_short bytes (f, (old, (new, (mapping, are)))) cut)
one_refusal laws bytes a b c d (bad_head fits bad why) (too_long more at' why') = absurd (omega (arith, more, fits))
one_refusal laws bytes a b c d (bad_head fits bad why) (short fits' cut at' why') = absurd (laws.short bytes a cut bad)
one_refusal laws bytes a b c d (bad_head fits bad why) (bad_head fits' bad' why') = (laws.offset bytes a b bad bad', why ∙ sym why')
one_refusal laws bytes a b c d (bad_head fits bad why) (texts f old new mapping fits' are refused) = absurd (laws.not_bad bytes a (f, (old, (new, (mapping, are)))) bad)
one_refusal laws bytes a b c d (texts f old new mapping fits are refused) (too_long more at' why') = absurd (omega (arith, more, fits))
one_refusal laws bytes a b c d (texts f old new mapping fits are refused) (short fits' cut at' why') = absurd (laws.not_short bytes (f, (old, (new, (mapping, are)))) cut)
one_refusal laws bytes a b c d (texts f old new mapping fits are refused) (bad_head fits' bad why') = absurd (laws.not_bad bytes b (f, (old, (new, (mapping, are)))) bad)
one_refusal laws bytes a b c d (texts f old new mapping fits are refused) (texts f' old' new' mapping' fits' are' refused') =
    let same = laws.texts f' f old' new' mapping' old new mapping (sym are' ∙ are) in
    one_text laws f old new mapping a b c d refused
    (subst (λ (t : List ℕ). TextsRefused f old new t b d) same.3 (subst (λ (t : List ℕ). TextsRefused f old t mapping' b d) same.2 (subst (λ (t : List ℕ). TextsRefused f t new' mapping' b d) same.1
    (subst (λ g. TextsRefused g old' new' mapping' b d) same.0 refused'))))

pub one_answer : Laws → OneAnswer
one_answer laws = record { one_patch = one_patch laws; one_refusal = one_refusal laws; never_both = never_both laws }

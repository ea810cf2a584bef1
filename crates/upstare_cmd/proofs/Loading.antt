-- The run of a load, from its texts to what it answers.
use Rattle.std.proofs.Common.{◌≡◌, ◌∙◌, ℕ, ◌*◌, ◌≤◌, List, [], ◌∷◌, length, Some, None, sym, ap, subst, arith}
use Rattle.std.specs.Prelude.{Result, Ok, Err, IfOk}
use Rattle.std.specs.declared.alloc.AllocError.{AllocError}
use Rattle.c_tree.specs.declared.lifted.Lifted.{Lifted}
use Rattle.c_tree.specs.declared.mapping.LEntry.{LEntry}
use Rattle.c_tree.specs.declared.mapping.Mapping.{Mapping}
use Rattle.c_tree.specs.declared.mapping.Patch as made
use Rattle.c_tree.specs.Entries.{Unsound}
use Rattle.c_grammar.specs.Mapping.{IsMappingOf, OneMapAnswer}
use Rattle.c_grammar.specs.Rules.{map_start}
use Rattle.c_source.specs.Laws.{OneVerdict}
use Rattle.c_source.specs.Source.{IsAccepted}
use Rattle.load_laws.specs.Laws.{IsAcceptedLoad, LoadsAreAccepted}
use Rattle.c_tree.specs.declared.run.Settings.{Settings}
use Rattle.c_tree.specs.Plan.{IsPlanned}
use Rattle.c_tree.specs.Run.{is_short}
use Rattle.c_tree.specs.declared.run.Picker.TheVariants as picker
use Rattle.load_texts.specs.Texts as load
use Rattle.patch_maker.specs.Made.{IsPatch}
use Rattle.world_core.specs.History.{History, IsRun, core, over, single}
use Rattle.answers.specs.Answer as meant
use Rattle.upstare_cmd.specs.Arming.{armed, begun_with}
use Rattle.upstare_cmd.specs.Asked.{load_names}
use Rattle.upstare_cmd.specs.Meaning.{LoadMeans, LoadTells, Loads, Means, TextsMean, entries_of, entry_unsound, load_patch, load_settings, mapping_refused, new_refused, old_refused, patched, settings}
use Rattle.upstare_cmd.specs.Parts.{OfEntries, OfTexts}
use Rattle.reports.specs.Line as line
use Rattle.answers.specs.Status.{code, status_of}
use Rattle.upstare_cmd.specs.Update.{update_words}
use Rattle.answers.specs.declared.status.Status.{Status}
use Rattle.c_tree.specs.declared.run.End.{End}
use Rattle.answers.specs.Views as view
use Rattle.upstare_cmd.specs.Views as inner
use Rattle.answers.specs.declared.answer.Answer.{Answer}
use Rattle.upstare_cmd.specs.declared.judged.Judged.TheVariants as judged
use Rattle.upstare_cmd.proofs.Judging.{of_patch, of_refused}
use Rattle.upstare_cmd.proofs.Meant.{texts_mean}
use Rattle.upstare_cmd.proofs.Single.{run_single, single_is}
use Rattle.command_line.specs.Command.{Load}

-- what is answered of a run that is over
pub tells : (h : History) (n : ℕ) (end : End) (output : List ℕ) (steps : ℕ) (update bytes text empty : List ℕ) (pieces : List meant.Piece) (status : Status)
    → over h ≡ Some end → h.earlier ≡ [] → IsRun h → output ≡ (core h).state.output → steps ≡ (core h).steps → update ≡ update_words h → bytes ≡ update → text ≡ line.loaded n steps bytes
    → pieces ≡ meant.ToOut text ∷ meant.ToOut output ∷ [] → empty ≡ [] → status ≡ status_of end
    → LoadTells h.settings n h.events (record { pieces = pieces; line = empty; status = code status })
tells h n end output steps update bytes text empty pieces status ended one leads printed counted updated same told put none is =
    let all : pieces ≡ meant.ToOut (line.loaded n steps update) ∷ meant.ToOut output ∷ [] =
    put ∙ ap (λ t. meant.ToOut t ∷ meant.ToOut output ∷ []) (told ∙ ap (line.loaded n steps) same) in (
      output,
      steps,
      update,
      end,
      record {
        core = core h;
        leads = run_single h one leads;
        ends = ended;
        printed = sym printed;
        counted = sym counted;
        updated = ap update_words (sym (single_is h one)) ∙ sym updated;
      },
      λ i. record { pieces = all i; line = none i; status = code (is i) },
    )

-- the events that were driven are planned, and the answer tells their run
pub told_of_driven : (k : Settings) (n : ℕ) (h : History) (r : Result Answer AllocError) → IsPlanned k (is_short (core h)) (picker.Round None) h.events → h.settings ≡ k → h.earlier ≡ []
    → IfOk r (λ a. LoadTells h.settings n h.events (view.answer a)) → IfOk r (λ a. Loads n k (view.answer a))
told_of_driven k n h (Ok a) planned same one tells =
    let alone : History → Type 0 = λ g. IsPlanned k (is_short (core g)) (picker.Round None) h.events in
    let short : Settings → Type 0 = λ x. IsPlanned k (is_short (core (single x h.events))) (picker.Round None) h.events in
    (h.events, subst short same (subst alone (single_is h one) planned), subst (λ (x : Settings). LoadTells x n h.events (view.answer a)) same tells)
told_of_driven k n h (Err e) planned same one tells = tt

-- what a World was begun with are the settings of the load
pub of_begun : (p : Lifted) (x : made.Patch) (n at : ℕ) (input : List ℕ) (h : History) (r : Result Answer AllocError) → p ≡ x.old → at ≡ 34 * n → input ≡ []
    → h ≡ begun_with (settings p (armed (Some (x, at))) input 1000000) → IfOk r (λ a. Loads n h.settings (view.answer a)) → IfOk r (λ a. Loads n (load_settings n x) (view.answer a))
of_begun p x n at input h r old late empty begun loads =
    let same : h.settings ≡ load_settings n x =
    ap (λ (g : History). g.settings) begun ∙ (λ i. settings (old i) (armed (Some (x, late i))) (empty i) 1000000) in
    subst (λ (k : Settings). IfOk r (λ a. Loads n k (view.answer a))) same loads

pub of_same : (n : ℕ) (x y : made.Patch) (r : Result Answer AllocError) → y ≡ x → IfOk r (λ a. Loads n (load_settings n y) (view.answer a)) → IfOk r (λ a. Loads n (load_settings n x) (view.answer a))
of_same n x y r is loads = subst (λ (z : made.Patch). IfOk r (λ a. Loads n (load_settings n z) (view.answer a))) is loads

-- the patch of a load's texts is that of its programs and entries
patch_is : (n : ℕ) (p q : Lifted) (m : Mapping) (x : made.Patch) → IsPatch (load.old_source n) p (load.new_source n) q m x → x ≡ load_patch n p q x.entries
patch_is n p q m x is = λ i. record { old_text = is.old_text i; old = is.old i; new_text = is.new_text i; new = is.new i; entries = x.entries }

-- What a load means by its three texts, which are judged as any others.
abbrev pub LoadTextsMean : ℕ → meant.Answer → Type 0
LoadTextsMean n a =
    TextsMean load_names (load.old_source n) (load.new_source n) (load.mapping n) (λ p q entries x. Loads n (load_settings n (load_patch n p q entries)) x) a

abbrev Entries : Type 0
Entries = Result (List LEntry) Unsound

no_ok : (es : List LEntry) (why : Unsound) → ◌≡◌ {A = Entries} (Ok es) (Err why) → ⊥
no_ok es why e = cc

same_ok : (es fs : List LEntry) → ◌≡◌ {A = Entries} (Ok es) (Ok fs) → es ≡ fs
same_ok es fs e = cc

-- the texts are accepted, so what they mean is their run
pub accepted_means : OneVerdict → OneMapAnswer map_start → LoadsAreAccepted → (n : ℕ) → 1 ≤ n → n ≤ 1000 → (a : meant.Answer) → LoadTextsMean n a → LoadMeans n a
accepted_means source mapping law n least most a means = go means
  where
    t : IsAcceptedLoad n
    t = law n least most

    -- what another reading of the texts comes to
    come_to : (p q : Lifted) (m : Mapping) → IsAccepted (load.old_source n) p → IsAccepted (load.new_source n) q → IsMappingOf (load.mapping n) m
        → (p ≡ t.old) × (q ≡ t.new) × (entries_of p q m ≡ Ok t.lifted)
    come_to p q m old new read =
        let olds = source.one_program (load.old_source n) p t.old old t.old_accepted in
        let news = source.one_program (load.new_source n) q t.new new t.new_accepted in
        let maps = mapping.one_mapping (load.mapping n) m t.entries read t.read in
        (olds, news, ap (λ x. entries_of x q m) olds ∙ ap (λ x. entries_of t.old x m) news ∙ ap (λ x. entries_of t.old t.new x) maps ∙ t.sound)

    go : LoadTextsMean n a → LoadMeans n a
    go (old_refused at why is e) = absurd (source.never_both (load.old_source n) at t.old why t.old_accepted is)
    go (new_refused p at why accepted is e) = absurd (source.never_both (load.new_source n) at t.new why t.new_accepted is)
    go (mapping_refused p q at why old new is e) = absurd (mapping.never_both (load.mapping n) at t.entries why t.read is)
    go (entry_unsound p q m why old new is come e) = absurd (no_ok t.lifted why (sym (come_to p q m old new is).2 ∙ come))
    go (patched p q m entries old new is come runs) =
        let same = come_to p q m old new is in
        let lifted = same_ok entries t.lifted (sym come ∙ same.2) in
        record {
          texts = t;
          loads =
              subst (λ x. Loads n (load_settings n (load_patch n x t.new t.lifted)) a) same.0
              (subst (λ x. Loads n (load_settings n (load_patch n p x t.lifted)) a) same.1
              (subst (λ x. Loads n (load_settings n (load_patch n p q x)) a) lifted runs));
        }

-- what is said of the patch of a load's texts: its run
abbrev Runs : ℕ → Lifted → Lifted → List LEntry → meant.Answer → Type 0
Runs n p q entries a = Loads n (load_settings n (load_patch n p q entries)) a

loaded : (n : ℕ) (x : made.Patch) (a : meant.Answer) (p q : Lifted) (m : Mapping) → Loads n (load_settings n x) a → IsPatch (load.old_source n) p (load.new_source n) q m x
    → OfEntries load_names.map (λ entries. Runs n p q entries a) (entries_of p q m) a
loaded n x a p q m loads is =
    subst (λ r. OfEntries load_names.map (λ entries. Runs n p q entries a) r a) (sym is.entries.are)
    (subst (λ (y : made.Patch). Loads n (load_settings n y) a) (patch_is n p q m x is) loads)

-- What a load means, where its texts have a patch.
pub of_load : (n : ℕ) (old new text : List ℕ) (x : made.Patch) (r : Result Answer AllocError) → old ≡ load.old_source n → new ≡ load.new_source n → text ≡ load.mapping n
    → inner.IsOfTexts load_names old new text (judged.Patch x) → IfOk r (λ a. Loads n (load_settings n x) (view.answer a)) → IfOk r (λ a. LoadTextsMean n (view.answer a))
of_load n old new text x (Ok y) a b c of loads =
    let texts : inner.IsOfTexts load_names (load.old_source n) (load.new_source n) (load.mapping n) (judged.Patch x) =
    subst (λ s. inner.IsOfTexts load_names s (load.new_source n) (load.mapping n) (judged.Patch x)) a
    (subst (λ t. inner.IsOfTexts load_names old t (load.mapping n) (judged.Patch x)) b (subst (λ t. inner.IsOfTexts load_names old new t (judged.Patch x)) c of)) in
    texts_mean load_names (load.old_source n) (load.new_source n) (load.mapping n) (Runs n) (view.answer y)
    (of_patch load_names (load.old_source n) (load.new_source n) (load.mapping n) x
    (λ p q r. OfEntries load_names.map (λ entries. Runs n p q entries (view.answer y)) r (view.answer y)) (view.answer y) texts
    (λ p q m is. loaded n x (view.answer y) p q m loads is))
of_load n old new text x (Err e) a b c of loads = tt

-- What a load means, where one of its texts is refused.
pub of_refused_load : (n : ℕ) (old new text : List ℕ) (y : meant.Answer) → old ≡ load.old_source n → new ≡ load.new_source n → text ≡ load.mapping n
    → OfTexts load_names old new text (λ p q r. inner.TurnsDownEntries load_names.map r y) y → LoadTextsMean n y
of_refused_load n old new text y a b c down =
    let Down : List ℕ → List ℕ → List ℕ → Type 0 = λ s t u. OfTexts load_names s t u (λ p q r. inner.TurnsDownEntries load_names.map r y) y in
    texts_mean load_names (load.old_source n) (load.new_source n) (load.mapping n) (Runs n) y
    (of_refused load_names (load.old_source n) (load.new_source n) (load.mapping n) (λ p q r. OfEntries load_names.map (λ entries. Runs n p q entries y) r y) y (λ p q why is. is)
    (subst (λ s. Down s (load.new_source n) (load.mapping n)) a (subst (λ t. Down old t (load.mapping n)) b (subst (λ u. Down old new u) c down))))

-- A load reads no text.
pub means_none : (n : ℕ) (texts : List (List ℕ)) (r : Result Answer AllocError) → length texts ≡ 0 → IfOk r (λ a. LoadMeans n (view.answer a)) → IfOk r (λ a. Means (Load n) texts (view.answer a))
means_none n [] r none meant = meant
means_none n (x ∷ rest) r none meant = absurd (omega arith)

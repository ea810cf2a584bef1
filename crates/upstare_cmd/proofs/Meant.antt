-- From what the parts of a command mean to what the command means.
use Rattle.std.proofs.Common.{◌≡◌, ℕ, Bool, List, [], ◌∷◌, ◌++◌, refl, ap, subst, inl, inr}
use Rattle.std.specs.Prelude.{Option, Some, None, option_to_list, Result, Ok, Err, IfOk}
use Rattle.std.specs.declared.alloc.AllocError.{AllocError}
use Rattle.c_tree.specs.declared.event.Event.{Event}
use Rattle.c_tree.specs.declared.lifted.Lifted.{Lifted}
use Rattle.c_tree.specs.declared.mapping.LEntry.{LEntry}
use Rattle.c_tree.specs.declared.mapping.Mapping.{Mapping}
use Rattle.c_tree.specs.declared.run.Armed.{Armed}
use Rattle.c_tree.specs.declared.run.Settings.{Settings}
use Rattle.c_tree.specs.Entries.{Unsound}
use Rattle.c_tree.specs.Plan.{refused_at}
use Rattle.c_tree.specs.Run.{first}
use Rattle.c_grammar.specs.Mapping.{IsMappingOf}
use Rattle.c_source.specs.Source.{IsAccepted}
use Rattle.history.specs.Listing.{IsListing}
use Rattle.command_line.specs.Command.{Run, RunWords, UpdateWords}
use Rattle.answers.specs.Answer.{Answer}
use Rattle.upstare_cmd.specs.Asked.{TextNames, named, run_files, update_files}
use Rattle.answers.specs.Wanted.{input_file, schedule_file}
use Rattle.upstare_cmd.specs.Meaning.{AreSettings, AreTextsOf, IsArmedWith, IsGiven, Means, RunMeans, RunTexts, SourceMeans, TextsMean, entries_of, settings, not_accepted, printed, old_refused, new_refused, mapping_refused, entry_unsound, patched, source_refused, patch_refused, patch_differs, schedule_refused, ended}
use Rattle.upstare_cmd.specs.Parts.{ArmedMeans, Listed, OfEntries, OfSource, OfTexts, Plans, ProgramMeans}
use Rattle.upstare_cmd.specs.Replies.{prints}
use Rattle.answers.specs.Views as view
use Rattle.answers.specs.Views.{Fit}
use Rattle.answers.specs.declared.answer.Answer as code

-- of one source
source_means : (name source : List ℕ) (text : Lifted → List ℕ) (a : Answer) → OfSource name source (λ p. a ≡ prints (text p)) a → SourceMeans name source text a
source_means name source text a (inl (p, accepted, is)) = printed p accepted is
source_means name source text a (inr (at, why, refused, is)) = not_accepted at why refused is

pub of_source : (name source : List ℕ) (text : Lifted → List ℕ) (r : Result code.Answer AllocError)
    → IfOk r (λ a. OfSource name source (λ p. view.answer a ≡ prints (text p)) (view.answer a)) → IfOk r (λ a. SourceMeans name source text (view.answer a))
of_source name source text (Ok a) meant = source_means name source text (view.answer a) meant
of_source name source text (Err e) meant = tt

-- of two sources and a mapping
entries_mean : (names : TextNames) (old new mapping : List ℕ) (Says : Lifted → Lifted → List LEntry → Answer → Type 0) (a : Answer) (p q : Lifted) (m : Mapping) (r : Result (List LEntry) Unsound)
    → IsAccepted old p → IsAccepted new q → IsMappingOf mapping m → entries_of p q m ≡ r → OfEntries names.map (λ entries. Says p q entries a) r a
    → TextsMean names old new mapping Says a
entries_mean names old new mapping Says a p q m (Ok entries) old_is new_is is come says_so = patched p q m entries old_is new_is is come says_so
entries_mean names old new mapping Says a p q m (Err why) old_is new_is is come says_so = entry_unsound p q m why old_is new_is is come says_so

pub texts_mean : (names : TextNames) (old new mapping : List ℕ) (Says : Lifted → Lifted → List LEntry → Answer → Type 0) (a : Answer)
    → OfTexts names old new mapping (λ p q r. OfEntries names.map (λ entries. Says p q entries a) r a) a → TextsMean names old new mapping Says a
texts_mean names old new mapping Says a (inr (at, why, is, says)) = old_refused at why is says
texts_mean names old new mapping Says a (inl (p, old_is, inr (at, why, is, says))) = new_refused p at why old_is is says
texts_mean names old new mapping Says a (inl (p, old_is, inl (q, new_is, inr (at, why, is, says)))) = mapping_refused p q at why old_is new_is is says
texts_mean names old new mapping Says a (inl (p, old_is, inl (q, new_is, inl (m, is, of)))) = entries_mean names old new mapping Says a p q m (entries_of p q m) old_is new_is is refl of

-- the words and the texts of a run, one by one
abbrev run_words : List ℕ → Option UpdateWords → Option (List ℕ) → Option ℕ → Option (List ℕ) → ℕ → Option (List ℕ) → RunWords
run_words f u i sd sc st h = record { file = f; update = u; input = i; seed = sd; schedule = sc; steps = st; history = h }

abbrev texts_of : List ℕ → Option (List ℕ) → Option (List ℕ) → Option (List ℕ) → RunTexts
texts_of source b x s = record { source = source; patch = b; input = x; schedule = s }

-- by the text of a schedule
listed_means : (f : List ℕ) (u : Option UpdateWords) (i : Option (List ℕ)) (sd : Option ℕ) (name : List ℕ) (st : ℕ) (h : Option (List ℕ)) (source : List ℕ) (b x : Option (List ℕ)) (text : List ℕ)
    (k : Settings) (a : Answer) (events : List Event) (clean : Bool) (r : Option ℕ) → AreSettings (run_words f u i sd (Some name) st h) (texts_of source b x (Some text)) k
    → IsListing text events clean → refused_at k clean 1 (first k) events ≡ r → Listed k name h events r a
    → RunMeans (run_words f u i sd (Some name) st h) (texts_of source b x (Some text)) a
listed_means f u i sd name st h source b x text k a events clean None set lists at told = ended k events set (clean, lists, at) told
listed_means f u i sd name st h source b x text k a events clean (Some n) set lists at told = schedule_refused k name text events clean n set refl refl lists at told

plans_mean : (f : List ℕ) (u : Option UpdateWords) (i : Option (List ℕ)) (sd : Option ℕ) (sc : Option (List ℕ)) (st : ℕ) (h : Option (List ℕ)) (source : List ℕ) (b x s : Option (List ℕ))
    (k : Settings) (a : Answer) → IsGiven sc s → AreSettings (run_words f u i sd sc st h) (texts_of source b x s) k → Plans k (run_words f u i sd sc st h) sc (option_to_list s) a
    → RunMeans (run_words f u i sd sc st h) (texts_of source b x s) a
plans_mean f u i sd None st h source b x None k a given set (events, planned, tells) = ended k events set planned tells
plans_mean f u i sd None st h source b x (Some text) k a given set plans = absurd given
plans_mean f u i sd (Some name) st h source b x None k a given set plans = absurd given
plans_mean f u i sd (Some name) st h source b x (Some text) k a given set (events, clean, lists, told) =
    listed_means f u i sd name st h source b x text k a events clean (refused_at k clean 1 (first k) events) set lists refl told

-- with its input
input_means : (f : List ℕ) (u : Option UpdateWords) (i : Option (List ℕ)) (sd : Option ℕ) (sc : Option (List ℕ)) (st : ℕ) (h : Option (List ℕ)) (source : List ℕ) (b x s : Option (List ℕ))
    (p : Lifted) (armed : Option Armed) (a : Answer) → IsGiven i x → IsGiven sc s → IsAccepted source p → IsArmedWith u b source armed
    → ArmedMeans (run_words f u i sd sc st h) p armed (option_to_list x ++ option_to_list s) a → RunMeans (run_words f u i sd sc st h) (texts_of source b x s) a
input_means f u None sd sc st h source b None s p armed a given lists accepted arms plans =
    plans_mean f u None sd sc st h source b None s (settings p armed [] st) a lists (record { accepted = accepted; armed = arms; input = refl; limit = refl }) plans
input_means f u None sd sc st h source b (Some input) s p armed a given lists accepted arms plans = absurd given
input_means f u (Some name) sd sc st h source b None s p armed a given lists accepted arms plans = absurd given
input_means f u (Some name) sd sc st h source b (Some input) s p armed a given lists accepted arms plans =
    plans_mean f u (Some name) sd sc st h source b (Some input) s (settings p armed input st) a lists (record { accepted = accepted; armed = arms; input = refl; limit = refl }) plans

-- with its patch
update_means : (f : List ℕ) (u : Option UpdateWords) (i : Option (List ℕ)) (sd : Option ℕ) (sc : Option (List ℕ)) (st : ℕ) (h : Option (List ℕ)) (source : List ℕ) (b x s : Option (List ℕ))
    (p : Lifted) (a : Answer) → IsGiven u b → IsGiven i x → IsGiven sc s → IsAccepted source p
    → ProgramMeans (run_words f u i sd sc st h) source (option_to_list b ++ (option_to_list x ++ option_to_list s)) p a
    → RunMeans (run_words f u i sd sc st h) (texts_of source b x s) a
update_means f None i sd sc st h source None x s p a given reads lists accepted means = input_means f None i sd sc st h source None x s p None a reads lists accepted tt means
update_means f None i sd sc st h source (Some bytes) x s p a given reads lists accepted means = absurd given
update_means f (Some up) i sd sc st h source None x s p a given reads lists accepted means = absurd given
update_means f (Some up) i sd sc st h source (Some bytes) x s p a given reads lists accepted (inl (q, is, inl (same, means))) =
    input_means f (Some up) i sd sc st h source (Some bytes) x s p (Some (record { patch = q; at = up.at })) a reads lists accepted (is, same, refl) means
update_means f (Some up) i sd sc st h source (Some bytes) x s p a given reads lists accepted (inl (q, is, inr (at, differ, says))) =
    patch_differs p up bytes q at accepted refl refl is differ says
update_means f (Some up) i sd sc st h source (Some bytes) x s p a given reads lists accepted (inr (at, why, is, says)) = patch_refused p up bytes at why accepted refl refl is says

run_of_source : (w : RunWords) (source : List ℕ) (b x s : Option (List ℕ)) (a : Answer) → IsGiven w.update b → IsGiven w.input x → IsGiven w.schedule s
    → OfSource w.file source (λ p. ProgramMeans w source (option_to_list b ++ (option_to_list x ++ option_to_list s)) p a) a → RunMeans w (texts_of source b x s) a
run_of_source w source b x s a given reads lists (inl (p, accepted, means)) =
    update_means w.file w.update w.input w.seed w.schedule w.steps w.history source b x s p a given reads lists accepted means
run_of_source w source b x s a given reads lists (inr (at, why, is, says)) = source_refused at why is says

-- texts that fit a run's files are those of its files
schedule_given : (sc : Option (List ℕ)) (rest : List (List ℕ)) → Fit (named schedule_file sc) rest → (s : Option (List ℕ)) × (rest ≡ option_to_list s) × IsGiven sc s
schedule_given None [] fit = (None, refl, tt)
schedule_given None (y ∷ rest) fit = absurd fit
schedule_given (Some name) [] fit = absurd fit
schedule_given (Some name) (y ∷ []) fit = (Some y, refl, tt)
schedule_given (Some name) (y ∷ z ∷ rest) fit = absurd fit.1

input_given : (i sc : Option (List ℕ)) (rest : List (List ℕ)) → Fit (named input_file i ++ named schedule_file sc) rest
    → (x s : Option (List ℕ)) × (rest ≡ option_to_list x ++ option_to_list s) × IsGiven i x × IsGiven sc s
input_given None sc rest fit = let g = schedule_given sc rest fit in (None, g.0, g.1, tt, g.2)
input_given (Some name) sc [] fit = absurd fit
input_given (Some name) sc (y ∷ rest) fit = let g = schedule_given sc rest fit.1 in (Some y, g.0, ap (λ ts. y ∷ ts) g.1, tt, g.2)

update_given : (u : Option UpdateWords) (i sc : Option (List ℕ)) (texts : List (List ℕ)) → Fit (update_files u ++ (named input_file i ++ named schedule_file sc)) texts
    → (b x s : Option (List ℕ)) × (texts ≡ option_to_list b ++ (option_to_list x ++ option_to_list s)) × IsGiven u b × IsGiven i x × IsGiven sc s
update_given None i sc texts fit = let g = input_given i sc texts fit in (None, g.0, g.1, g.2, tt, g.3, g.4)
update_given (Some up) i sc [] fit = absurd fit
update_given (Some up) i sc (y ∷ rest) fit = let g = input_given i sc rest fit.1 in (Some y, g.0, g.1, ap (λ ts. y ∷ ts) g.2, tt, g.3, g.4)

run_means : (w : RunWords) (source : List ℕ) (texts : List (List ℕ)) (a : Answer) → Fit (update_files w.update ++ run_files w) texts
    → OfSource w.file source (λ p. ProgramMeans w source texts p a) a → Means (Run w) (source ∷ texts) a
run_means w source texts a fit meant =
    let g = update_given w.update w.input w.schedule texts fit in
    let P : List (List ℕ) → Type 0 = λ ts. OfSource w.file source (λ p. ProgramMeans w source ts p a) a in (
      texts_of source g.0 g.1 g.2,
      record { read = ap (λ ts. source ∷ ts) g.3; patch = g.4; input = g.5; schedule = g.6 },
      run_of_source w source g.0 g.1 g.2 a g.4 g.5 g.6 (subst P g.3 meant),
    )

pub of_run : (w : RunWords) (source : List ℕ) (texts : List (List ℕ)) (r : Result code.Answer AllocError) → Fit (update_files w.update ++ run_files w) texts
    → IfOk r (λ a. OfSource w.file source (λ p. ProgramMeans w source texts p (view.answer a)) (view.answer a)) → IfOk r (λ a. Means (Run w) (source ∷ texts) (view.answer a))
of_run w source texts (Ok a) fit meant = run_means w source texts (view.answer a) fit meant
of_run w source texts (Err e) fit meant = tt

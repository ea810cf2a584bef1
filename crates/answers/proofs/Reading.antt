-- How the files of a command are read one after another.
use Rattle.std.proofs.Common.{◌≡◌, ℕ, suc, ◌+◌, ◌<◌, ◌≤◌, List, [], ◌∷◌, ◌++◌, length, get_or, take, drop, refl, sym, ap, subst, ◌∙◌, inl, inr, arith, add-one, drop-cons}
use Rattle.std.proofs.lemmas.List.{take_all, take_more, take-append-drop, map-append}
use Rattle.std.specs.Prelude.{Option, Result, Ok, Err, IfOk, IsErrOf, Vec}
use Rattle.std.specs.declared.alloc.Global.{Global}
use Rattle.up_base.specs.Outside.{Contents, Shelf, Holds, HoldsMore, Lacks, Reads}
use Rattle.up_base.specs.Reading.{asked, counted, faulted, missed, overran}
use Rattle.up_base.specs.declared.reading.Reading.{Reading}
use Rattle.up_base.specs.declared.refusal.ReadEnd.{ReadEnd}
use Rattle.up_base.specs.declared.refusal.ReadEnd.TheVariants as ends
use Rattle.answers.specs.Answer.{Answer}
use Rattle.answers.specs.Wanted.{Wanted}
use Rattle.answers.specs.Reading.{AreBegun, AreRead, Begins, IsLong, IsLost, Stops}
use Rattle.answers.specs.declared.read.WantedFile.{WantedFile}
use Rattle.answers.specs.Views.{Asks, Rereads, IsText, IsStop, Fit, file, files}

-- what a read came to is what its file comes to
one_begun : (f : Wanted) (result : Result (Vec ℕ Global) ReadEnd) (before now : Reading) → now ≡ counted f.limit result before → Begins (f ∷ []) before now
one_begun f (Ok bytes) before now e = inr (inl e)
one_begun f (Err ends.Failed) before now e = inr (inr (inl e))
one_begun f (Err ends.Missing) before now e = inr (inr (inr (inl e)))
one_begun f (Err ends.TooLong) before now e = inr (inr (inr (inr (inl e))))
one_begun f (Err (ends.Memory x)) before now e = inr (inl e)

one_whole : (f : Wanted) (result : Result (Vec ℕ Global) ReadEnd) (before now : Shelf) → now.reading ≡ counted f.limit result before.reading
    → IfOk result (λ v. (length v.items ≤ f.limit) × Holds before.held f.name v.items) → IfOk result (λ v. IsText f before now v.items)
one_whole f (Ok bytes) before now e got = record { small = got.0; holds = got.1; counts = e }
one_whole f (Err x) before now e got = tt

counts_as : (limit : ℕ) (result : Result (Vec ℕ Global) ReadEnd) (x : ReadEnd) (before now : Reading) → now ≡ counted limit result before → IsErrOf result x
    → now ≡ counted limit (Err x) before
counts_as limit result x before now e is = e ∙ ap (λ r. counted limit r before) is

asks_it : (f : Wanted) (before now : Shelf) (result : Result (Vec ℕ Global) ReadEnd) → Reads before now f.name f.limit result → Asks f before now result
asks_it f before now result reads = record {
  rereads = record { held = reads.held; writes = reads.writes };
  begins = one_begun f result before.reading now.reading reads.counts;
  whole = one_whole f result before now reads.counts reads.whole;
  failed = λ is. inl (counts_as f.limit result ends.Failed before.reading now.reading reads.counts is);
  missing = λ is. inr (counts_as f.limit result ends.Missing before.reading now.reading reads.counts is, reads.missing is);
  long = λ is. (counts_as f.limit result ends.TooLong before.reading now.reading reads.counts is, reads.long is);
}

pub asks : (f : Wanted) (name : List ℕ) (limit : ℕ) (before now : Shelf) (result : Result (Vec ℕ Global) ReadEnd) → name ≡ f.name → limit ≡ f.limit
    → Reads before now name limit result → Asks f before now result
asks f name limit before now result named bound reads =
    let P : List ℕ → Type 0 = λ x. Reads before now x limit result in
    let Q : ℕ → Type 0 = λ l. Reads before now f.name l result in
    asks_it f before now result (subst Q bound (subst P named reads))

-- What was begun with one file more.
one_before : (f : Wanted) (fs : List Wanted) (before now : Reading) → Begins fs (asked f.limit before) now → Begins (f ∷ fs) before now
one_before f fs before now (inl same) = inr (inl same)
one_before f fs before now (inr begun) = inr (inr (inr (inr (inr begun))))

-- What was begun of one file is begun of more.
more_behind : (f : Wanted) (gs : List Wanted) (before now : Reading) → Begins (f ∷ []) before now → Begins (f ∷ gs) before now
more_behind f gs before now (inl same) = inl same
more_behind f gs before now (inr (inl all)) = inr (inl all)
more_behind f gs before now (inr (inr (inl fault))) = inr (inr (inl fault))
more_behind f gs before now (inr (inr (inr (inl gone)))) = inr (inr (inr (inl gone)))
more_behind f gs before now (inr (inr (inr (inr (inl long))))) = inr (inr (inr (inr (inl long))))
more_behind f gs before now (inr (inr (inr (inr (inr begun))))) = absurd begun

then_begins : (fs : List Wanted) (f : Wanted) (gs : List Wanted) (h : Option Contents) (before mid now : Reading) (texts : List (List ℕ)) → AreRead fs h before texts mid
    → Begins (f ∷ []) mid now → Begins (fs ++ f ∷ gs) before now
then_begins [] f gs h before mid now texts read begins = let P : Reading → Type 0 = λ r. Begins (f ∷ gs) r now in subst P read.1 (more_behind f gs mid now begins)
then_begins (g ∷ fs) f gs h before mid now [] read begins = absurd read
then_begins (g ∷ fs) f gs h before mid now (t ∷ texts) read begins =
    one_before g (fs ++ f ∷ gs) before now (then_begins fs f gs h (asked g.limit before) mid now texts read.2 begins)

read_begins : (fs : List Wanted) (h : Option Contents) (before now : Reading) (texts : List (List ℕ)) → AreRead fs h before texts now → Begins fs before now
read_begins [] h before now texts read = inl read.1
read_begins (f ∷ fs) h before now [] read = absurd read
read_begins (f ∷ fs) h before now (t ∷ texts) read = one_before f fs before now (read_begins fs h (asked f.limit before) now texts read.2)

-- One more file was read.
one_more : (fs : List Wanted) (f : Wanted) (h : Option Contents) (before mid now : Reading) (texts : List (List ℕ)) (text : List ℕ) → AreRead fs h before texts mid → length text ≤ f.limit
    → Holds h f.name text → now ≡ asked f.limit mid → AreRead (fs ++ f ∷ []) h before (texts ++ text ∷ []) now
one_more [] f h before mid now texts text read small holds counts =
    let P : List (List ℕ) → Type 0 = λ ts. AreRead (f ∷ []) h before (ts ++ text ∷ []) now in
    subst P (sym read.0) (small, holds, (refl, counts ∙ ap (asked f.limit) read.1))
one_more (g ∷ fs) f h before mid now [] text read small holds counts = absurd read
one_more (g ∷ fs) f h before mid now (t ∷ texts) text read small holds counts =
    (read.0, read.1, one_more fs f h (asked g.limit before) mid now texts text read.2 small holds counts)

-- The next file ends the call.
stops_at : (fs : List Wanted) (f : Wanted) (gs : List Wanted) (h : Option Contents) (before mid now : Reading) (texts : List (List ℕ)) (a : Answer) → AreRead fs h before texts mid
    → Stops (f ∷ []) h mid now a → Stops (fs ++ f ∷ gs) h before now a
stops_at [] f gs h before mid now texts a read stop = let P : Reading → Type 0 = λ r. Stops (f ∷ gs) h r now a in subst P read.1 (stops_first f gs h mid now a stop)
  where
    stops_first : (f : Wanted) (gs : List Wanted) (h : Option Contents) (mid now : Reading) (a : Answer) → Stops (f ∷ []) h mid now a → Stops (f ∷ gs) h mid now a
    stops_first f gs h mid now a (inl it) = inl it
    stops_first f gs h mid now a (inr (inl it)) = inr (inl it)
    stops_first f gs h mid now a (inr (inr it)) = absurd it.3
stops_at (g ∷ fs) f gs h before mid now [] a read stop = absurd read
stops_at (g ∷ fs) f gs h before mid now (t ∷ texts) a read stop =
    inr (inr (t, read.0, read.1, stops_at fs f gs h (asked g.limit before) mid now texts a read.2 stop))

pub fit : (fs : List Wanted) (h : Option Contents) (before now : Reading) (texts : List (List ℕ)) → AreRead fs h before texts now → Fit fs texts
fit [] h before now texts read = let P : List (List ℕ) → Type 0 = λ ts. Fit [] ts in subst P (sym read.0) tt
fit (f ∷ fs) h before now [] read = absurd read
fit (f ∷ fs) h before now (t ∷ texts) read = (read.0, fit fs h (asked f.limit before) now texts read.2)

-- So many of the wanted files were read, each whole.
pub record SoFar (before now : Shelf) (fs : List Wanted) (texts : List (List ℕ)) : Type 0 where
  pub rereads : Rereads before now
  pub read : AreRead fs before.held before.reading texts now.reading

pub none_read : (s : Shelf) → SoFar s s [] []
none_read s = record { rereads = record { held = refl; writes = refl }; read = (refl, refl) }

pub then_reads : (s t u : Shelf) → Rereads s t → Rereads t u → Rereads s u
then_reads s t u a b = record { held = b.held ∙ a.held; writes = b.writes ∙ a.writes }

since_holds : (f : Wanted) (s t : Shelf) (text : List ℕ) → Rereads s t → Holds t.held f.name text → Holds s.held f.name text
since_holds f s t text reads holds = let P : Option Contents → Type 0 = λ h. Holds h f.name text in subst P reads.held holds

-- the first i + 1 files, and all files, by the one at i
front : (ws : List WantedFile) (i : ℕ) (w d : WantedFile) → i < length ws → w ≡ get_or ws i d → files (take (i + 1) ws) ≡ files (take i ws) ++ file w ∷ []
front ws i w d h is =
    let e : take (i + 1) ws ≡ take i ws ++ w ∷ [] = take_more ws i d h ∙ ap (λ x. take i ws ++ x ∷ []) (sym is) in
    ap files e ∙ map-append file (take i ws) (w ∷ [])

whole : (ws : List WantedFile) (i : ℕ) (w d : WantedFile) → i < length ws → w ≡ get_or ws i d → files ws ≡ files (take i ws) ++ file w ∷ files (drop (i + 1) ws)
whole ws i w d h is =
    let rest : drop i ws ≡ w ∷ drop (i + 1) ws = rw (add-one i) (drop-cons ws i d h ∙ ap (λ x. x ∷ drop (suc i) ws) (sym is)) in
    ap files (sym (take-append-drop i ws)) ∙ map-append file (take i ws) (drop i ws) ∙ ap (λ x. files (take i ws) ++ files x) rest

pub more_read : (ws : List WantedFile) (i : ℕ) (w d : WantedFile) (s t u : Shelf) (texts new : List (List ℕ)) (text : List ℕ) → i < length ws → w ≡ get_or ws i d
    → new ≡ texts ++ text ∷ [] → SoFar s t (files (take i ws)) texts → Rereads t u → IsText (file w) t u text → SoFar s u (files (take (i + 1) ws)) new
more_read ws i w d s t u texts new text h is same so reads got =
    let P : List Wanted → Type 0 = λ fs. AreRead fs s.held s.reading (texts ++ text ∷ []) u.reading in
    let Q : List (List ℕ) → Type 0 = λ xs. AreRead (files (take (i + 1) ws)) s.held s.reading xs u.reading in
    record {
      rereads = then_reads s t u so.rereads reads;
      read = subst Q (sym same) (subst P (sym (front ws i w d h is))
          (one_more (files (take i ws)) (file w) s.held s.reading t.reading u.reading texts text so.read got.small (since_holds (file w) s t text so.rereads got.holds) got.counts));
    }

pub stops_here : (ws : List WantedFile) (i : ℕ) (w d : WantedFile) (s t u : Shelf) (texts : List (List ℕ)) (a : Answer) → i < length ws → w ≡ get_or ws i d
    → SoFar s t (files (take i ws)) texts → IsStop (file w) t u a → Stops (files ws) s.held s.reading u.reading a
stops_here ws i w d s t u texts a h is so stop =
    let P : List Wanted → Type 0 = λ fs. Stops fs s.held s.reading u.reading a in
    let Q : Option Contents → Type 0 = λ held. Stops (file w ∷ []) held t.reading u.reading a in
    subst P (sym (whole ws i w d h is))
    (stops_at (files (take i ws)) (file w) (files (drop (i + 1) ws)) s.held s.reading t.reading u.reading texts a so.read (subst Q so.rereads.held stop.stops))

pub begins_here : (ws : List WantedFile) (i : ℕ) (w d : WantedFile) (s t : Shelf) (now : Reading) (texts : List (List ℕ)) → i < length ws → w ≡ get_or ws i d
    → SoFar s t (files (take i ws)) texts → Begins (file w ∷ []) t.reading now → Begins (files ws) s.reading now
begins_here ws i w d s t now texts h is so begins =
    let P : List Wanted → Type 0 = λ fs. Begins fs s.reading now in
    subst P (sym (whole ws i w d h is)) (then_begins (files (take i ws)) (file w) (files (drop (i + 1) ws)) s.held s.reading t.reading now texts so.read begins)

pub all_read : (ws : List WantedFile) (i : ℕ) (s t : Shelf) (texts : List (List ℕ)) → length ws ≤ i → SoFar s t (files (take i ws)) texts
    → AreRead (files ws) s.held s.reading texts t.reading
all_read ws i s t texts h so = let P : List WantedFile → Type 0 = λ xs. AreRead (files xs) s.held s.reading texts t.reading in subst P (take_all i ws h) so.read

pub all_begun : (ws : List WantedFile) (i : ℕ) (s t : Shelf) (texts : List (List ℕ)) → length ws ≤ i → SoFar s t (files (take i ws)) texts
    → Begins (files ws) s.reading t.reading
all_begun ws i s t texts h so = read_begins (files ws) s.held s.reading t.reading texts (all_read ws i s t texts h so)

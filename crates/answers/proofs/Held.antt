-- Files that are told to hold texts within their limits end no call, and what is read are these texts.
use Rattle.std.proofs.Common.{◌≡◌, ℕ, List, [], ◌∷◌, length, sym, ap, ◌∙◌, inl, inr, arith}
use Rattle.std.specs.Prelude.{Option, Some, None}
use Rattle.up_base.specs.Outside.{Contents, Rose}
use Rattle.up_base.specs.Reading.{asked, faulted}
use Rattle.up_base.specs.declared.reading.Reading.{Reading}
use Rattle.answers.specs.Answer.{Answer}
use Rattle.answers.specs.Reading.{AreHeld, AreRead, Stops}
use Rattle.answers.specs.Wanted.{Wanted}

same_text : (o : Option (List ℕ)) (x y : List ℕ) → o ≡ Some x → o ≡ Some y → x ≡ y
same_text o x y p q = let e = sym p ∙ q in cc

-- a count with one more rose
rose_by : (r now : Reading) → now ≡ faulted r → Rose r.faults now.faults
rose_by r now e = let same : now.faults ≡ (faulted r).faults = ap (λ (x : Reading). x.faults) e in omega (arith, same)

-- No file that is there, within its limit, ends the call.
pub never_stops : (fs : List Wanted) (m : Contents) (before now : Reading) (a : Answer) (texts : List (List ℕ)) → AreHeld fs (Some m) texts
    → (Rose before.faults now.faults → ⊥) → Stops fs (Some m) before now a → ⊥
never_stops [] m before now a texts held none stop = stop
never_stops (f ∷ fs) m before now a [] held none stop = absurd held
never_stops (f ∷ fs) m before now a (t ∷ texts) held none (inl (inl failed, is)) = none (rose_by (asked f.limit before) now failed)
never_stops (f ∷ fs) m before now a (t ∷ texts) held none (inl (inr (counted, gone), is)) = let e = sym gone ∙ held.0 in cc
never_stops (f ∷ fs) m before now a (t ∷ texts) held none (inr (inl ((counted, (bytes, there, longer)), is))) =
    let same : bytes ≡ t = same_text (m f.name) bytes t there held.0 in
    let e : length bytes ≡ length t = ap length same in
    absurd (omega (arith, e, longer, held.1))
never_stops (f ∷ fs) m before now a (t ∷ texts) held none (inr (inr (text, le, there, rest))) = never_stops fs m (asked f.limit before) now a texts held.2 none rest

pub never_stops_untold : (fs : List Wanted) (h : Option Contents) (before now : Reading) (a : Answer) (texts : List (List ℕ)) → AreHeld fs None texts → Stops fs h before now a → ⊥
never_stops_untold [] h before now a texts held stop = stop
never_stops_untold (f ∷ fs) h before now a texts held stop = absurd held

-- What was read is what the files hold.
pub same_texts : (fs : List Wanted) (m : Contents) (before now : Reading) (xs ys : List (List ℕ)) → AreHeld fs (Some m) xs → AreRead fs (Some m) before ys now → ys ≡ xs
same_texts [] m before now xs ys held read = read.0 ∙ sym held
same_texts (f ∷ fs) m before now [] ys held read = absurd held
same_texts (f ∷ fs) m before now (x ∷ xs) [] held read = absurd read
same_texts (f ∷ fs) m before now (x ∷ xs) (y ∷ ys) held read =
    let one : y ≡ x = same_text (m f.name) y x read.1 held.0 in
    let rest : ys ≡ xs = same_texts fs m (asked f.limit before) now xs ys held.2 read.2 in
    cc

-- A command that reads nothing is asked for no text.
pub no_texts : (fs : List Wanted) (h : Option Contents) (before now : Reading) (xs ys : List (List ℕ)) → AreHeld fs None xs → AreRead fs h before ys now → ys ≡ xs
no_texts [] h before now xs ys held read = read.0 ∙ sym held
no_texts (f ∷ fs) h before now xs ys held read = absurd held

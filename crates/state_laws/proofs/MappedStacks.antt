-- The new stacks are valid in the new program.
use Rattle.std.proofs.Common.{◌≡◌, ℕ, ◌+◌, ◌<◌, ◌≤◌, Bool, true, false, List, [], ◌∷◌, ◌++◌, Option, Some, None, refl, sym, ◌∙◌, ap, subst, length, nat_lt, append-nil, ltb-false}
use Rattle.std.specs.Prelude.{suc, ℤ, ⊤, map, cond, if◌then◌else◌, is_some, Ok, All, MatchOption}
use Rattle.std.specs.List.{AllZip, count_by, fold}
use Rattle.std.proofs.lemmas.Option.{none-some, same_Some}
use Rattle.std.proofs.lemmas.List.{length-append}
use Rattle.std.proofs.lemmas.List.Sums.{sum_by-cons}
use Rattle.c_tree.specs.declared.lifted.Lifted.{Lifted}
use Rattle.c_tree.specs.declared.mapping.LEntry.{LEntry}
use Rattle.c_tree.specs.declared.state.Frame.{Frame}
use Rattle.c_tree.specs.declared.state.State.{State}
use Rattle.c_tree.specs.declared.event.Reason.{Reason}
use Rattle.c_tree.specs.declared.event.Reason.TheVariants as why
use Rattle.c_tree.specs.Value.{View}
use Rattle.c_tree.specs.Step.{function_of, view_of}
use Rattle.c_tree.specs.Limits.{max_frames}
use Rattle.c_tree.specs.Valid.{ValidFrame, IsCallOf, Chained, ChainedFrames, ValidStack, outermost, StartsAreKept}
use Rattle.c_tree.specs.StartForm.{CanStart}
use Rattle.c_tree.specs.declared.place.PlaceKind.{PlaceKind}
use Rattle.c_tree.specs.declared.place.Act.{Act}
use Rattle.c_tree.specs.Layout.{places, place_at}
use Rattle.c_tree.specs.Refusal.{onward, first_some}
use Rattle.c_tree.specs.Points.{kind_in}
use Rattle.c_tree.specs.Link.{Link, match_at}
use Rattle.c_tree.specs.Suits.{reads_slots}
use Rattle.c_tree.specs.MapStack.{Part, parts_at, count_of, new_depth, too_deep, part_frames, frames_by, map_frame, map_frames}
use Rattle.c_tree.specs.Fillings.{filled}
use Rattle.c_tree.specs.Update.{thread_deep, all_deep, map_thread, map_threads}
use Rattle.state_laws.proofs.PlaceKinds.{is_plain, is_call_kind}
use Rattle.state_laws.proofs.TypedValues.{same_ok, not_ok}
use Rattle.state_laws.proofs.Filled.{Gives, filled_fits, onward_known}
use Rattle.state_laws.proofs.MappedParts.{Old, all_nil, all_cons, all_head, all_tail, all_join}

-- a call at the old place becomes a call of the matched callee at the new one
abbrev pub Calls : Link → Act → Act → Type 0
Calls k old new = (c : ℕ) → IsCallOf c old → (d : ℕ) × ((match_at k.functions c ≡ Some d) × IsCallOf d new)

-- a place where a thread can stand
abbrev pub Stands : PlaceKind → Type 0
Stands k = (is_plain k ≡ false) × (is_call_kind k ≡ false)

-- what is done where a part stands, and where a frame stands
abbrev pub part_act : Lifted → Part → Act
part_act p x = (place_at (function_of p x.function) x.place).act

abbrev pub frame_act : Lifted → Frame → Act
frame_act p g = (place_at (function_of p g.function) g.place).act

-- a part of a frame of an old function
pub record PartFits (k : Link) (n : ℕ) (f : ℕ) (p : Part) : Type 0 where
  pub function : p.function < length k.new.functions
  pub place : p.place < length (places (function_of k.new p.function))
  pub fillings : AllZip (λ s e. Gives (reads_slots k f) n e s.ty) (function_of k.new p.function).slots p.fillings

-- the last part of a frame of an old function at an old place
pub record LastFits (k : Link) (f : ℕ) (i : ℕ) (p : Part) : Type 0 where
  pub calls : Calls k (place_at (function_of k.old f) i).act (part_act k.new p)
  pub stands : Stands (kind_in (function_of k.old f) i) → Stands (kind_in (function_of k.new p.function) p.place)

-- a part and those after it: each but the last is at a call of the next one's function
abbrev pub PartsLead : Link → ℕ → ℕ → Part → List Part → Type 0
PartsLead k f i p [] = LastFits k f i p
PartsLead k f i p (q ∷ rest) = IsCallOf q.function (part_act k.new p) × PartsLead k f i q rest

-- the parts of a frame of an old function at an old place: one at least, and the first is of the match
abbrev pub PartsFit : Link → ℕ → ℕ → ℕ → List Part → Type 0
PartsFit k n f i [] = ⊥
PartsFit k n f i (p ∷ added) = (match_at k.functions f ≡ Some p.function) × All (λ q. PartFits k n f q) (p ∷ added) × PartsLead k f i p added

abbrev pub MapsWell : Link → List LEntry → ℕ → Type 0
MapsWell k entries n = (f i : ℕ) (parts : List Part) → parts_at k entries f i ≡ Some parts → PartsFit k n f i parts

-- an old frame and the last of its new ones
pub record LastMoved (k : Link) (f : Frame) (g : Frame) : Type 0 where
  pub calls : Calls k (frame_act k.old f) (frame_act k.new g)
  pub stands : Stands (kind_in (function_of k.old f.function) f.place) → Stands (kind_in (function_of k.new g.function) g.place)

-- a new frame of an old one and those after it: each but the last is at a call of the next one's function
abbrev pub Leads : Link → Frame → Frame → List Frame → Type 0
Leads k f g [] = LastMoved k f g
Leads k f g (h ∷ more) = IsCallOf h.function (frame_act k.new g) × Leads k f h more

-- an old frame and its new ones
pub record Moved (k : Link) (n : ℕ) (f : Frame) (g : Frame) (added : List Frame) : Type 0 where
  pub matched : match_at k.functions f.function ≡ Some g.function
  pub valid : All (λ g. ValidFrame k.new n g) (g ∷ added)
  pub leads : Leads k f g added

abbrev pub framed : Part → List ℤ → Frame
framed p vs = record { function = p.function; place = p.place; slots = vs }

-- the frames of parts are valid, and lead on as the parts do
pub record Framed (k : Link) (n : ℕ) (f : Frame) (p : Part) (fs : List Frame) : Type 0 where
  pub values : List ℤ
  pub more : List Frame
  pub are : fs ≡ framed p values ∷ more
  pub valid : All (λ g. ValidFrame k.new n g) (framed p values ∷ more)
  pub leads : Leads k f (framed p values) more

joined : (xs ys cs ds fs : List Frame) → xs ++ ys ≡ fs → xs ≡ cs → ys ≡ ds → fs ≡ cs ++ ds
joined xs ys cs ds fs e p q = sym e ∙ (ap (λ zs. zs ++ ys) p ∙ ap (λ zs. cs ++ zs) q)

pub one_framed : (k : Link) (n : ℕ) (s : State) (f : Frame) (because : ℕ → ℕ → Reason) (j : ℕ) (p : Part) (vs : List ℤ) → Old k.old n s →
    ValidFrame k.old n f → PartFits k n f.function p → filled (view_of s f) because j p.fillings ≡ Ok vs → ValidFrame k.new n (framed p vs)
one_framed k n s f because j p vs a v fits w = record {
  function = fits.function;
  place = fits.place;
  slots = filled_fits (reads_slots k f.function) n (view_of s f) because j (function_of k.new p.function).slots p.fillings vs
      (record { slots = v.slots; own = tt; globals = a.globals; objects = a.objects }) fits.fillings w;
}

pub parts_framed : (k : Link) (n : ℕ) (s : State) (f : Frame) (because : ℕ → ℕ → Reason) (j : ℕ) (p : Part) (added : List Part) (fs : List Frame) → Old k.old n s →
    ValidFrame k.old n f → All (λ q. PartFits k n f.function q) (p ∷ added) → PartsLead k f.function f.place p added → part_frames (view_of s f) because j (p ∷ added) ≡ Ok fs → Framed k n f p fs
parts_framed k n s f because j p [] fs a v fits leads w =
    let r = onward_known (filled (view_of s f) because j p.fillings) (λ vs. Ok (framed p vs ∷ [])) fs w in
    record {
      values = r.0;
      more = [];
      are = sym (same_ok (framed p r.0 ∷ []) fs r.1.1);
      valid = all_cons (λ g. ValidFrame k.new n g) (framed p r.0) [] (one_framed k n s f because j p r.0 a v (all_head (λ q. PartFits k n f.function q) p [] fits) r.1.0) (all_nil (λ g. ValidFrame k.new n g));
      leads = record { calls = leads.calls; stands = leads.stands };
    }
parts_framed k n s f because j p (q ∷ rest) fs a v fits leads w =
    let r = onward_known (filled (view_of s f) because j p.fillings) (λ vs. onward (part_frames (view_of s f) because (j + length p.fillings) (q ∷ rest)) (λ gs. Ok (framed p vs ∷ gs))) fs w in
    let t = onward_known (part_frames (view_of s f) because (j + length p.fillings) (q ∷ rest)) (λ gs. Ok (framed p r.0 ∷ gs)) fs r.1.1 in
    let on = parts_framed k n s f because (j + length p.fillings) q rest t.0 a v (all_tail (λ q. PartFits k n f.function q) p (q ∷ rest) fits) leads.1 t.1.0 in
    record {
      values = r.0;
      more = framed q on.values ∷ on.more;
      are = joined (framed p r.0 ∷ []) t.0 (framed p r.0 ∷ []) (framed q on.values ∷ on.more) fs (same_ok (framed p r.0 ∷ t.0) fs t.1.1) refl on.are;
      valid = all_cons (λ g. ValidFrame k.new n g) (framed p r.0) (framed q on.values ∷ on.more)
          (one_framed k n s f because j p r.0 a v (all_head (λ q. PartFits k n f.function q) p (q ∷ rest) fits) r.1.0) on.valid;
      leads = (leads.0, on.leads);
    }

pub frame_mapped : (k : Link) (entries : List LEntry) (n : ℕ) (s : State) (t i : ℕ) (f : Frame) (fs : List Frame) → Old k.old n s → MapsWell k entries n →
    ValidFrame k.old n f → map_frame k entries s t i f ≡ Ok fs → (g : Frame) × ((added : List Frame) × ((fs ≡ g ∷ added) × Moved k n f g added))
frame_mapped k entries n s t i f fs a m v w = pick (parts_at k entries f.function f.place) refl w where
  because : ℕ → ℕ → Reason
  because = λ j c. why.Slot t i j c

  parts : (ps : List Part) → PartsFit k n f.function f.place ps → part_frames (view_of s f) because 0 ps ≡ Ok fs → (g : Frame) × ((added : List Frame) × ((fs ≡ g ∷ added) × Moved k n f g added))
  parts [] fit w = absurd fit
  parts (p ∷ added) fit w =
      let r = parts_framed k n s f because 0 p added fs a v fit.1 fit.2 w in
      (framed p r.values, (r.more, (r.are, record { matched = fit.0; valid = r.valid; leads = r.leads })))

  pick : (o : Option (List Part)) → parts_at k entries f.function f.place ≡ o → frames_by o (view_of s f) t i ≡ Ok fs → (g : Frame) × ((added : List Frame) × ((fs ≡ g ∷ added) × Moved k n f g added))
  pick None e w = absurd (not_ok fs (why.Unmapped t i) w)
  pick (Some ps) e w = parts ps (m f.function f.place ps e) w

pub call_moved : (act : Act) (c d : ℕ) → c ≡ d → IsCallOf c act → IsCallOf d act
call_moved act c d e x = subst (λ i. IsCallOf i act) e x

-- the new frames of an old one are chained, alone and to those of the frame inside it
pub alone_chained : (k : Link) (f g : Frame) (added : List Frame) → Leads k f g added → Chained k.new g added
alone_chained k f g [] l = tt
alone_chained k f g (h ∷ more) l = (l.0, alone_chained k f h more l.1)

pub both_chained : (k : Link) (f x : Frame) (g : Frame) (added : List Frame) (y : Frame) (inner : List Frame) → Leads k f g added → IsCallOf x.function (frame_act k.old f) →
    match_at k.functions x.function ≡ Some y.function → Chained k.new y inner → Chained k.new g (added ++ y ∷ inner)
both_chained k f x g [] y inner l c m on =
    let d = l.calls x.function c in
    let same : d.0 ≡ y.function = same_Some d.0 y.function (sym d.1.0 ∙ m) in
    (call_moved (frame_act k.new g) d.0 y.function same d.1.1, on)
both_chained k f x g (h ∷ more) y inner l c m on = (l.0, both_chained k f x h more y inner l.1 c m on)

-- the innermost frame stands
abbrev pub InnermostStands : Lifted → List Frame → Type 0
InnermostStands p [] = ⊥
InnermostStands p (f ∷ []) = Stands (kind_in (function_of p f.function) f.place)
InnermostStands p (f ∷ g ∷ inner) = InnermostStands p (g ∷ inner)

pub alone_stands : (k : Link) (f g : Frame) (added : List Frame) → Leads k f g added → Stands (kind_in (function_of k.old f.function) f.place) → InnermostStands k.new (g ∷ added)
alone_stands k f g [] l s = l.stands s
alone_stands k f g (h ∷ more) l s = alone_stands k f h more l.1 s

pub inner_stands : (p : Lifted) (g : Frame) (added : List Frame) (y : Frame) (inner : List Frame) → InnermostStands p (y ∷ inner) → InnermostStands p (g ∷ added ++ y ∷ inner)
inner_stands p g [] y inner s = s
inner_stands p g (h ∷ more) y inner s = inner_stands p h more y inner s

-- the new frames of a thread's old ones, of which f is the outermost
pub record StackMoved (k : Link) (n : ℕ) (f : Frame) (fs : List Frame) (g : Frame) (gs : List Frame) : Type 0 where
  pub matched : match_at k.functions f.function ≡ Some g.function
  pub valid : All (λ g. ValidFrame k.new n g) (g ∷ gs)
  pub chained : Chained k.new g gs
  pub stands : InnermostStands k.old (f ∷ fs) → InnermostStands k.new (g ∷ gs)

pub frames_mapped : (k : Link) (entries : List LEntry) (n : ℕ) (s : State) (t i : ℕ) (f : Frame) (fs new : List Frame) → Old k.old n s → MapsWell k entries n →
    All (λ f. ValidFrame k.old n f) (f ∷ fs) → Chained k.old f fs → map_frames k entries s t i (f ∷ fs) ≡ Ok new → (g : Frame) × ((gs : List Frame) × ((new ≡ g ∷ gs) × StackMoved k n f fs g gs))
frames_mapped k entries n s t i f [] new a m v c w =
    let r = onward_known (map_frame k entries s t i f) (λ gs. Ok (gs ++ [])) new w in
    let g = frame_mapped k entries n s t i f r.0 a m (all_head (λ f. ValidFrame k.old n f) f [] v) r.1.0 in
    let to : Moved k n f g.0 g.1.0 = g.1.1.1 in (
      g.0,
      (
        g.1.0,
        (
          sym (same_ok (r.0 ++ []) new r.1.1) ∙ (append-nil r.0 ∙ g.1.1.0),
          record { matched = to.matched; valid = to.valid; chained = alone_chained k f g.0 g.1.0 to.leads; stands = λ q. alone_stands k f g.0 g.1.0 to.leads q },
        ),
      ),
    )
frames_mapped k entries n s t i f (x ∷ fs) new a m v c w =
    let r = onward_known (map_frame k entries s t i f) (λ gs. onward (map_frames k entries s t (i + 1) (x ∷ fs)) (λ hs. Ok (gs ++ hs))) new w in
    let q = onward_known (map_frames k entries s t (i + 1) (x ∷ fs)) (λ hs. Ok (r.0 ++ hs)) new r.1.1 in
    let g = frame_mapped k entries n s t i f r.0 a m (all_head (λ f. ValidFrame k.old n f) f (x ∷ fs) v) r.1.0 in
    let to : Moved k n f g.0 g.1.0 = g.1.1.1 in
    let y = frames_mapped k entries n s t (i + 1) x fs q.0 a m (all_tail (λ f. ValidFrame k.old n f) f (x ∷ fs) v) c.1 q.1.0 in
    let on : StackMoved k n x fs y.0 y.1.0 = y.1.1.1 in (
      g.0,
      (
        g.1.0 ++ y.0 ∷ y.1.0,
        (
          joined r.0 q.0 (g.0 ∷ g.1.0) (y.0 ∷ y.1.0) new (same_ok (r.0 ++ q.0) new q.1.1) g.1.1.0 y.1.1.0,
          record {
            matched = to.matched;
            valid = all_join (λ g. ValidFrame k.new n g) (g.0 ∷ g.1.0) (y.0 ∷ y.1.0) to.valid on.valid;
            chained = both_chained k f x g.0 g.1.0 y.0 y.1.0 to.leads c.0 on.matched on.chained;
            stands = λ z. inner_stands k.new g.0 g.1.0 y.0 y.1.0 (on.stands z);
          },
        ),
      ),
    )

-- as many new frames as there are parts
pub parts_counted : (x : View) (because : ℕ → ℕ → Reason) (j : ℕ) (parts : List Part) (fs : List Frame) → part_frames x because j parts ≡ Ok fs → length fs ≡ length parts
parts_counted x because j [] fs w = ap (λ gs. length gs) (sym (same_ok [] fs w))
parts_counted x because j (p ∷ rest) fs w =
    let r = onward_known (filled x because j p.fillings) (λ vs. onward (part_frames x because (j + length p.fillings) rest) (λ gs. Ok (framed p vs ∷ gs))) fs w in
    let q = onward_known (part_frames x because (j + length p.fillings) rest) (λ gs. Ok (framed p r.0 ∷ gs)) fs r.1.1 in
    ap (λ gs. length gs) (sym (same_ok (framed p r.0 ∷ q.0) fs q.1.1)) ∙ ap (λ m. suc m) (parts_counted x because (j + length p.fillings) rest q.0 q.1.0)

pub frame_counted : (o : Option (List Part)) (x : View) (t i : ℕ) (fs : List Frame) → frames_by o x t i ≡ Ok fs → length fs ≡ count_of o
frame_counted None x t i fs w = absurd (not_ok fs (why.Unmapped t i) w)
frame_counted (Some parts) x t i fs w = parts_counted x (λ j c. why.Slot t i j c) 0 parts fs w

pub frames_counted : (k : Link) (entries : List LEntry) (s : State) (t i : ℕ) (fs gs : List Frame) → map_frames k entries s t i fs ≡ Ok gs → length gs ≡ new_depth k entries fs
frames_counted k entries s t i [] gs w = ap (λ hs. length hs) (sym (same_ok [] gs w))
frames_counted k entries s t i (f ∷ fs) gs w =
    let r = onward_known (map_frame k entries s t i f) (λ gs. onward (map_frames k entries s t (i + 1) fs) (λ hs. Ok (gs ++ hs))) gs w in
    let q = onward_known (map_frames k entries s t (i + 1) fs) (λ hs. Ok (r.0 ++ hs)) gs r.1.1 in
    ap (λ hs. length hs) (sym (same_ok (r.0 ++ q.0) gs q.1.1))
    ∙ (length-append r.0 q.0
    ∙ (ap (λ m. m + length q.0) (frame_counted (parts_at k entries f.function f.place) (view_of s f) t i r.0 r.1.0)
    ∙ (ap (λ m. count_of (parts_at k entries f.function f.place) + m) (frames_counted k entries s t (i + 1) fs q.0 q.1.0)
    ∙ sym (sum_by-cons (λ m. m) (count_of (parts_at k entries f.function f.place)) (map (λ f. count_of (parts_at k entries f.function f.place)) fs)))))

pub not_deep : (d t : ℕ) → (if nat_lt max_frames d then Some (why.Depth t) else None) ≡ None → d ≤ max_frames
not_deep d t e = pick (nat_lt max_frames d) refl e where
  pick : (b : Bool) → nat_lt max_frames d ≡ b → (if b then Some (why.Depth t) else None) ≡ None → d ≤ max_frames
  pick false g e = ltb-false max_frames d g
  pick true g e = absurd (none-some (why.Depth t) (sym e))

-- a mapped stack that is not too deep is valid, and its outermost function is the match of the old one
pub stack_moved : (k : Link) (entries : List LEntry) (n : ℕ) (s : State) (t : ℕ) (fs gs : List Frame) → Old k.old n s → MapsWell k entries n → too_deep k entries t fs ≡ None →
    ValidStack k.old n fs → map_frames k entries s t 0 fs ≡ Ok gs → ValidStack k.new n gs × (match_at k.functions (outermost fs) ≡ Some (outermost gs))
stack_moved k entries n s t [] gs a m d v w = absurd v.chained
stack_moved k entries n s t (f ∷ fs) gs a m d v w =
    let g = frames_mapped k entries n s t 0 f fs gs a m v.each v.chained w in
    let to : StackMoved k n f fs g.0 g.1.0 = g.1.1.1 in
    let few : new_depth k entries (f ∷ fs) ≤ max_frames = not_deep (new_depth k entries (f ∷ fs)) t d in (
      record {
        each = subst (λ gs. All (λ g. ValidFrame k.new n g) gs) (sym g.1.1.0) to.valid;
        chained = subst (λ gs. ChainedFrames k.new gs) (sym g.1.1.0) to.chained;
        depth = subst (λ d. d ≤ max_frames) (sym (frames_counted k entries s t 0 (f ∷ fs) gs w)) few;
      },
      to.matched ∙ ap (λ gs. Some (outermost gs)) (sym g.1.1.0),
    )

abbrev pub IsStack : Lifted → ℕ → Option (List Frame) → Type 0
IsStack p n o = MatchOption o ⊤ (λ frames. ValidStack p n frames)

-- an old thread and its new one: both have ended, or both live with matched outermost functions
abbrev pub ThreadMoved : Link → Option (List Frame) → Option (List Frame) → Type 0
ThreadMoved k None None = Unit {0}
ThreadMoved k (Some fs) (Some gs) = match_at k.functions (outermost fs) ≡ Some (outermost gs)
ThreadMoved k _ _ = ⊥

pub thread_mapped : (k : Link) (entries : List LEntry) (n : ℕ) (s : State) (t : ℕ) (o b : Option (List Frame)) → Old k.old n s → MapsWell k entries n →
    thread_deep k entries t o ≡ None → IsStack k.old n o → map_thread k entries s t o ≡ Ok b → IsStack k.new n b × ThreadMoved k o b
thread_mapped k entries n s t None b a m d v w = subst (λ b. IsStack k.new n b × ThreadMoved k None b) (same_ok None b w) (tt, tt)
thread_mapped k entries n s t (Some fs) b a m d v w =
    let r = onward_known (map_frames k entries s t 0 fs) (λ gs. Ok (Some gs)) b w in
    let q = stack_moved k entries n s t fs r.0 a m d v r.1.0 in
    subst (λ b. IsStack k.new n b × ThreadMoved k (Some fs) b) (same_ok (Some r.0) b r.1.1) (q.0, q.1)

pub first_none : {A : Type 0} (o : Option A) (rest : List (Option A)) → first_some (o ∷ rest) ≡ None → (o ≡ None) × (first_some rest ≡ None)
first_none None rest e = (refl, e)
first_none (Some x) rest e = absurd (none-some x (sym e))

pub record ThreadsMapped (k : Link) (n : ℕ) (os : List (Option (List Frame))) (bs : List (Option (List Frame))) : Type 0 where
  pub valid : All (λ b. IsStack k.new n b) bs
  pub moved : AllZip (λ o b. ThreadMoved k o b) os bs

pub threads_mapped : (k : Link) (entries : List LEntry) (n : ℕ) (s : State) (t : ℕ) (os bs : List (Option (List Frame))) → Old k.old n s → MapsWell k entries n →
    first_some (all_deep k entries t os) ≡ None → All (λ o. IsStack k.old n o) os → map_threads k entries s t os ≡ Ok bs → ThreadsMapped k n os bs
threads_mapped k entries n s t [] bs a m d v w =
    subst (λ bs. ThreadsMapped k n [] bs) (same_ok [] bs w) (record { valid = all_nil (λ b. IsStack k.new n b); moved = tt })
threads_mapped k entries n s t (o ∷ os) bs a m d v w =
    let none = first_none (thread_deep k entries t o) (all_deep k entries (t + 1) os) d in
    let r = onward_known (map_thread k entries s t o) (λ a. onward (map_threads k entries s (t + 1) os) (λ bs. Ok (a ∷ bs))) bs w in
    let q = onward_known (map_threads k entries s (t + 1) os) (λ bs. Ok (r.0 ∷ bs)) bs r.1.1 in
    let b = thread_mapped k entries n s t o r.0 a m none.0 (all_head (λ o. IsStack k.old n o) o os v) r.1.0 in
    let more = threads_mapped k entries n s (t + 1) os q.0 a m none.1 (all_tail (λ o. IsStack k.old n o) o os v) q.1.0 in
    subst (λ bs. ThreadsMapped k n (o ∷ os) bs) (same_ok (r.0 ∷ q.0) bs q.1.1)
    (record { valid = all_cons (λ b. IsStack k.new n b) r.0 q.0 b.0 more.valid; moved = (b.1, more.moved) })

pub moved_long : (k : Link) (os bs : List (Option (List Frame))) → AllZip (λ o b. ThreadMoved k o b) os bs → length bs ≡ length os
moved_long k [] [] z = refl
moved_long k [] (b ∷ bs) z = absurd z
moved_long k (o ∷ os) [] z = absurd z
moved_long k (o ∷ os) (b ∷ bs) z = ap (λ m. suc m) (moved_long k os bs z.1)

-- how many live, counted on from a
abbrev pub tally : ℕ → List (Option (List Frame)) → ℕ
tally a xs = fold (λ a x. a + cond (is_some x) 1 0) a xs

pub moved_tally : (k : Link) (a : ℕ) (os bs : List (Option (List Frame))) → AllZip (λ o b. ThreadMoved k o b) os bs → tally a bs ≡ tally a os
moved_tally k a [] [] z = refl
moved_tally k a [] (b ∷ bs) z = absurd z
moved_tally k a (o ∷ os) [] z = absurd z
moved_tally k a (None ∷ os) (None ∷ bs) z = moved_tally k (a + 0) os bs z.1
moved_tally k a (Some fs ∷ os) (Some gs ∷ bs) z = moved_tally k (a + 1) os bs z.1
moved_tally k a (None ∷ os) (Some gs ∷ bs) z = absurd z.0
moved_tally k a (Some fs ∷ os) (None ∷ bs) z = absurd z.0

pub moved_live : (k : Link) (os bs : List (Option (List Frame))) → AllZip (λ o b. ThreadMoved k o b) os bs → count_by (λ o. is_some o) bs ≡ count_by (λ o. is_some o) os
moved_live k os bs z = moved_tally k 0 os bs z

-- what the matches keep: `main`, and functions that can be started
pub record StartsKept (k : Link) : Type 0 where
  pub main : match_at k.functions k.old.main ≡ Some k.new.main
  pub start : (f g : ℕ) → match_at k.functions f ≡ Some g → CanStart (function_of k.old f) → CanStart (function_of k.new g)

abbrev pub CanStartThread : Lifted → Option (List Frame) → Type 0
CanStartThread p o = MatchOption o ⊤ (λ frames. CanStart (function_of p (outermost frames)))

pub others_start : (k : Link) (os bs : List (Option (List Frame))) → StartsKept k → AllZip (λ o b. ThreadMoved k o b) os bs → All (λ o. CanStartThread k.old o) os → All (λ b. CanStartThread k.new b) bs
others_start k [] [] h z a = all_nil (λ b. CanStartThread k.new b)
others_start k [] (b ∷ bs) h z a = absurd z
others_start k (o ∷ os) [] h z a = absurd z
others_start k (o ∷ os) (b ∷ bs) h z a = all_cons (λ b. CanStartThread k.new b) b bs (one o b z.0 (all_head (λ o. CanStartThread k.old o) o os a)) (others_start k os bs h z.1 (all_tail (λ o. CanStartThread k.old o) o os a)) where
  one : (o b : Option (List Frame)) → ThreadMoved k o b → CanStartThread k.old o → CanStartThread k.new b
  one None None m c = tt
  one (Some fs) (Some gs) m c = h.start (outermost fs) (outermost gs) m c
  one None (Some gs) m c = absurd m
  one (Some fs) None m c = tt

pub starts_kept : (k : Link) (os bs : List (Option (List Frame))) → StartsKept k → AllZip (λ o b. ThreadMoved k o b) os bs → StartsAreKept k.old os → StartsAreKept k.new bs
starts_kept k [] bs h z a = absurd a
starts_kept k (o ∷ os) [] h z a = absurd z
starts_kept k (o ∷ os) (b ∷ bs) h z a = (one o b z.0 a.0, others_start k os bs h z.1 a.1) where
  one : (o b : Option (List Frame)) → ThreadMoved k o b → MatchOption o ⊥ (λ frames. outermost frames ≡ k.old.main) → MatchOption b ⊥ (λ frames. outermost frames ≡ k.new.main)
  one None b m c = absurd c
  one (Some fs) None m c = absurd m
  one (Some fs) (Some gs) m c =
      let there : match_at k.functions k.old.main ≡ Some (outermost gs) = subst (λ f. match_at k.functions f ≡ Some (outermost gs)) c m in
      same_Some (outermost gs) k.new.main (sym there ∙ h.main)

-- a stack that stands becomes a stack that stands
pub standing_moved : (k : Link) (entries : List LEntry) (n : ℕ) (s : State) (t : ℕ) (fs gs : List Frame) → Old k.old n s → MapsWell k entries n →
    All (λ f. ValidFrame k.old n f) fs → ChainedFrames k.old fs → map_frames k entries s t 0 fs ≡ Ok gs → InnermostStands k.old fs → InnermostStands k.new gs
standing_moved k entries n s t [] gs a m v c w i = absurd c
standing_moved k entries n s t (f ∷ fs) gs a m v c w i =
    let g = frames_mapped k entries n s t 0 f fs gs a m v c w in
    let to : StackMoved k n f fs g.0 g.1.0 = g.1.1.1 in
    subst (λ gs. InnermostStands k.new gs) (sym g.1.1.0) (to.stands i)

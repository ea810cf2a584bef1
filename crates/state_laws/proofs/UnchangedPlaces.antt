-- An unchanged function keeps its places.
use Rattle.std.proofs.Common.{◌≡◌, ℕ, ◌+◌, ◌<◌, true, List, [], ◌∷◌, ◌++◌, refl, sym, ◌∙◌, ap, length, arith}
use Rattle.std.specs.Prelude.{zero, suc, ◌&&◌, slice_get, Ok}
use Rattle.std.specs.List.{AllZip}
use Rattle.c_tree.specs.declared.lifted.LFunction.{LFunction}
use Rattle.c_tree.specs.declared.lifted.LStmt.{LStmt, Row_of-LStmt, end_of-LStmt, more_of-LStmt}
use Rattle.c_tree.specs.declared.lifted.LStmt.TheBlock.{hidden-the_row-LStmt-0 as row_of}
use Rattle.c_tree.specs.declared.lifted.LStmt.TheVariants as t
use Rattle.c_tree.specs.declared.state.State.{State}
use Rattle.c_tree.specs.Step.{function_of}
use Rattle.c_tree.specs.Valid.{Valid}
use Rattle.c_tree.specs.declared.place.Act.TheVariants.{Finish}
use Rattle.c_tree.specs.declared.place.Place.{Place}
use Rattle.c_tree.specs.declared.place.Exits.{Exits}
use Rattle.c_tree.specs.Layout.{place, count, counts, enter, enters, layout, layouts, places, place_at, nowhere}
use Rattle.c_tree.specs.Points.{kind_of, kind_in}
use Rattle.c_tree.specs.Names.{is_number}
use Rattle.c_tree.specs.Link.{Link, match_at, link_of, is_image}
use Rattle.c_tree.specs.Same.{same, same_list, same_slot, same_stmt, same_rows, same_body, same_slots}
use Rattle.c_tree.specs.Sound.{Sound}
use Rattle.c_tree.specs.declared.mapping.Patch.{Patch}
use Rattle.c_tree.specs.Formed.{IsFormed}
use Rattle.c_tree.specs.Update.{update}
use Rattle.state_laws.proofs.TypedValues.{no_false}
use Rattle.state_laws.proofs.Filled.{and_both}
use Rattle.state_laws.proofs.MappedStacks.{Calls}
use Rattle.state_laws.proofs.SoundFits.{UnchangedKept, inside, number_known}
use Rattle.state_laws.proofs.SoundUpdate.{sound_update_by}
use Rattle.state_laws.proofs.Forms.{form_of}

pub zip_join : {A B : Type 0} (R : A → B → Type 0) (xs cs : List A) (bs ds : List B) → AllZip R xs bs → AllZip R cs ds → AllZip R (xs ++ cs) (bs ++ ds)
zip_join R [] cs [] ds p q = q
zip_join R [] cs (b ∷ bs) ds p q = absurd p
zip_join R (a ∷ xs) cs [] ds p q = absurd p
zip_join R (a ∷ xs) cs (b ∷ bs) ds p q = (p.0, zip_join R xs cs bs ds p.1 q)

abbrev pub Alike : Link → List Place → List Place → Type 0
Alike k ps qs = AllZip (λ p q. Calls k p.act q.act × (kind_of q.act ≡ kind_of p.act)) ps qs

mutual
  unfolding count counts enter enters layout layouts same_stmt same_rows

  pub same_places : (k : Link) (a b : LStmt) (x z : Exits) (i j u v : ℕ) → same_stmt k a b ≡ true → Alike k (layout x i u a) (layout z j v b)
  same_places k (t.Assign a0 a1) (t.Assign b0 b1) x z i j u v e = ((λ c f. absurd f, refl), tt)
  same_places k (t.Assign a0 a1) y x z i j u v e = absurd (no_false e)
  same_places k (t.New a0 a1) (t.New b0 b1) x z i j u v e = ((λ c f. absurd f, refl), tt)
  same_places k (t.New a0 a1) y x z i j u v e = absurd (no_false e)
  same_places k (t.Getc a0) (t.Getc b0) x z i j u v e = ((λ c f. absurd f, refl), tt)
  same_places k (t.Getc a0) y x z i j u v e = absurd (no_false e)
  same_places k (t.Print a0 a1) (t.Print b0 b1) x z i j u v e = ((λ c f. absurd f, refl), tt)
  same_places k (t.Print a0 a1) y x z i j u v e = absurd (no_false e)
  same_places k (t.Free a0) (t.Free b0) x z i j u v e = ((λ c f. absurd f, refl), tt)
  same_places k (t.Free a0) y x z i j u v e = absurd (no_false e)
  same_places k (t.Spawn a0 a1 a2) (t.Spawn b0 b1 b2) x z i j u v e = ((λ c f. absurd f, refl), tt)
  same_places k (t.Spawn a0 a1 a2) y x z i j u v e = absurd (no_false e)
  same_places k (t.Join a0) (t.Join b0) x z i j u v e = ((λ c f. absurd f, refl), tt)
  same_places k (t.Join a0) y x z i j u v e = absurd (no_false e)
  same_places k (t.Lock a0) (t.Lock b0) x z i j u v e = ((λ c f. absurd f, refl), tt)
  same_places k (t.Lock a0) y x z i j u v e = absurd (no_false e)
  same_places k (t.Unlock a0) (t.Unlock b0) x z i j u v e = ((λ c f. absurd f, refl), tt)
  same_places k (t.Unlock a0) y x z i j u v e = absurd (no_false e)
  same_places k (t.Return a0) (t.Return b0) x z i j u v e = ((λ c f. absurd f, refl), tt)
  same_places k (t.Return a0) y x z i j u v e = absurd (no_false e)
  same_places k (t.Call to f xs) (t.Call too g ys) x z i j u v e =
      let p = and_both (same_slot to too && is_number (match_at k.functions f) g) (same_list k xs ys) e in
      let q = and_both (same_slot to too) (is_number (match_at k.functions f) g) p.0 in
      ((λ c w. (g, (ap (λ h. match_at k.functions h) (sym w) ∙ number_known (match_at k.functions f) g q.1, refl)), refl), tt)
  same_places k (t.Call to f xs) y x z i j u v e = absurd (no_false e)
  same_places k t.Break t.Break x z i j u v e = tt
  same_places k t.Break y x z i j u v e = absurd (no_false e)
  same_places k t.Continue t.Continue x z i j u v e = tt
  same_places k t.Continue y x z i j u v e = absurd (no_false e)
  same_places k (t.If' s _ a _ b) (t.If' s' _ c _ d) x z i j u v e =
      let p = and_both (same k s s' && same_rows k a _ c) (same_rows k b _ d) e in
      let q = and_both (same k s s') (same_rows k a _ c) p.0 in (
        (λ c w. absurd w, refl),
        zip_join (λ p q. Calls k p.act q.act × (kind_of q.act ≡ kind_of p.act)) (layouts x (i + 1) u a) (layouts x (i + 1 + counts a) u b) (layouts z (j + 1) v c) (layouts z (j + 1 + counts c) v d)
            (same_layouts k a c x z (i + 1) (j + 1) u v q.1) (same_layouts k b d x z (i + 1 + counts a) (j + 1 + counts c) u v p.1),
      )
  same_places k (t.If' s _ a _ b) y x z i j u v e = absurd (no_false e)
  same_places k (t.Loop' _ c s _ b _ n) (t.Loop' _ c' s' _ b' _ n') x z i j u v e =
      let p = and_both (same_rows k c _ c' && same k s s' && same_rows k b _ b') (same_rows k n _ n') e in
      let q = and_both (same_rows k c _ c' && same k s s') (same_rows k b _ b') p.0 in
      let r = and_both (same_rows k c _ c') (same k s s') q.0 in
      zip_join (λ p q. Calls k p.act q.act × (kind_of q.act ≡ kind_of p.act)) (layouts x i (i + counts c) c) _ (layouts z j (j + counts c') c') _ (same_layouts k c c' x z i j (i + counts c) (j + counts c') r.0) (
        (λ c w. absurd w, refl),
        zip_join (λ p q. Calls k p.act q.act × (kind_of q.act ≡ kind_of p.act)) _ _ _ _ (same_layouts k b b' _ _ _ _ _ _ q.1)
            (zip_join (λ p q. Calls k p.act q.act × (kind_of q.act ≡ kind_of p.act)) _ _ _ _ (same_layouts k n n' _ _ _ _ _ _ p.1) ((λ c w. absurd w, refl), tt)),
      )
  same_places k (t.Loop' _ c s _ b _ n) y x z i j u v e = absurd (no_false e)

  pub same_layouts : (k : Link) {m : _} (a : Row_of-LStmt m) {n : _} (b : Row_of-LStmt n) (x z : Exits) (i j u v : ℕ) → same_rows k a _ b ≡ true → Alike k (layouts x i u a) (layouts z j v b)
  same_layouts k end_of-LStmt end_of-LStmt x z i j u v e = tt
  same_layouts k end_of-LStmt (more_of-LStmt b bs) x z i j u v e = absurd (no_false e)
  same_layouts k (more_of-LStmt a more) end_of-LStmt x z i j u v e = absurd (no_false e)
  same_layouts k (more_of-LStmt a more) (more_of-LStmt b bs) x z i j u v e =
      let p = and_both (same_stmt k a b) (same_rows k more _ bs) e in
      zip_join (λ p q. Calls k p.act q.act × (kind_of q.act ≡ kind_of p.act)) (layout x i (enters x (i + count a) u more) a) (layouts x (i + count a) u more) (layout z j (enters z (j + count b) v bs) b) (layouts z (j + count b) v bs)
      (same_places k a b x z i j (enters x (i + count a) u more) (enters z (j + count b) v bs) p.0) (same_layouts k more bs x z (i + count a) (j + count b) u v p.1)

pub alike_at : (k : Link) (a b : LFunction) (i : ℕ) → Alike k (places a) (places b) → i < length (places a) → (i < length (places b)) × Calls k (place_at a i).act (place_at b i).act × (kind_in b i ≡ kind_in a i)
alike_at k a b i z l = pick (places a) (places b) i z l where
  pick : (ps qs : List Place) (i : ℕ) → Alike k ps qs → i < length ps → (i < length qs) × Calls k (nowhere (slice_get ps i)).act (nowhere (slice_get qs i)).act × (kind_of (nowhere (slice_get qs i)).act ≡ kind_of (nowhere (slice_get ps i)).act)
  pick [] qs i z l = absurd (omega (arith, l))
  pick (p ∷ ps) [] i z l = absurd z
  pick (p ∷ ps) (q ∷ qs) zero z l = (omega arith, z.0.0, z.0.1)
  pick (p ∷ ps) (q ∷ qs) (suc i) z l = let r = pick ps qs i z.1 (omega (arith, l)) in (let s : i < length qs = r.0 in omega (arith, s), r.1, r.2)

pub unchanged_kept : (k : Link) → UnchangedKept k
unchanged_kept k f g i e plain =
    let a = function_of k.old f in
    let b = function_of k.new g in
    let p = and_both (is_image k a.ret b.ret && same_slots k a.slots b.slots) (same_body k a.body b.body) e in
    alike_at k a b i
    ((λ c w. absurd w, refl), zip_join (λ p q. Calls k p.act q.act × (kind_of q.act ≡ kind_of p.act)) _ (place Finish _ ∷ []) _ (place Finish _ ∷ []) (same_layouts k (row_of a.body) (row_of b.body) _ _ _ _ _ _ p.1) ((λ c w. absurd w, refl), tt))
    (inside a i plain)

-- the update of a valid state by a sound patch is a valid state of the new program
pub update_is_valid : (patch : Patch) (s next : State) → IsFormed patch.old → IsFormed patch.new → Sound patch.old patch.new patch.entries → Valid patch.old s → update patch s ≡ Ok next → Valid patch.new next
unfolding update
update_is_valid patch s next a b sound v e =
    let k : Link = link_of patch.old patch.new patch.entries in
    sound_update_by patch.old patch.new patch.entries s next (form_of patch.old a) (form_of patch.new b) (unchanged_kept k) sound v e

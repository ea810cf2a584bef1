-- Refusals of the parts, and what is meant then.
use Rattle.std.proofs.Common.{◌≡◌, ℕ, List, [], ◌∷◌, length, get_or, sym, ap, subst, ◌∙◌, inr, arith}
use Rattle.std.specs.Prelude.{Result, Ok, Err, IfOk}
use Rattle.std.specs.declared.alloc.AllocError.{AllocError}
use Rattle.up_base.specs.Outside.{Shelf}
use Rattle.c_tree.specs.declared.lifted.Lifted.{Lifted}
use Rattle.c_tree.specs.declared.mapping.Mapping.{Mapping}
use Rattle.map_lang.specs.Refusal as mapping
use Rattle.map_lang.specs.declared.refused.MapRefused.{MapRefused}
use Rattle.map_lang.specs.declared.refused.MapRefused.TheVariants as map_refused
use Rattle.c_source.specs.Refusal as source
use Rattle.c_source.specs.declared.refused.SourceRefused.{SourceRefused}
use Rattle.c_source.specs.declared.refused.SourceRefused.TheVariants as refused
use Rattle.answers.specs.Answer.{Answer}
use Rattle.answers.specs.Wanted.{Wanted}
use Rattle.upstare_cmd.specs.Asked.{wanted}
use Rattle.upstare_cmd.specs.Carries.{Intends, means}
use Rattle.upstare_cmd.specs.Meaning.{Means}
use Rattle.upstare_cmd.specs.Job.{job_of}
use Rattle.upstare_cmd.specs.Parts.{OfMapping, OfSource}
use Rattle.answers.specs.Reading.{AreRead}
use Rattle.command_line.specs.Command.{Command}
use Rattle.answers.specs.declared.answer.Answer as code
use Rattle.answers.specs.Views as view
use Rattle.upstare_cmd.specs.Views as inner

-- The line of a refusal is what is meant where a source is judged.
pub judged : (name bytes : List ℕ) (Taken : Answer → Lifted → Type 0) (why : SourceRefused) (a : Answer) → source.IsRefusal bytes why → inner.TurnsDown name why a → OfSource name bytes (Taken a) a
judged name bytes Taken (refused.At at why) a is down = inr (at, why, is, down)
judged name bytes Taken (refused.Memory e) a is down = absurd down

pub turned_down : (name bytes : List ℕ) (Taken : Answer → Lifted → Type 0) (why : SourceRefused) (r : Result code.Answer AllocError) → source.IsRefusal bytes why
    → IfOk r (λ a. inner.TurnsDown name why (view.answer a)) → IfOk r (λ a. OfSource name bytes (Taken (view.answer a)) (view.answer a))
turned_down name bytes Taken why (Ok a) is down = judged name bytes Taken why (view.answer a) is down
turned_down name bytes Taken why (Err e) is down = down

-- The line of a refusal is what is meant where a text is judged as a mapping.
pub map_judged : (name bytes : List ℕ) (Taken : Answer → Mapping → Type 0) (why : MapRefused) (a : Answer) → mapping.IsRefusal bytes why → inner.TurnsDownMap name why a → OfMapping name bytes (Taken a) a
map_judged name bytes Taken (map_refused.At at why) a is down = inr (at, why, is, down)
map_judged name bytes Taken (map_refused.Memory e) a is down = absurd down

pub map_turned_down : (name bytes : List ℕ) (Taken : Answer → Mapping → Type 0) (why : MapRefused) (r : Result code.Answer AllocError) → mapping.IsRefusal bytes why
    → IfOk r (λ a. inner.TurnsDownMap name why (view.answer a)) → IfOk r (λ a. OfMapping name bytes (Taken (view.answer a)) (view.answer a))
map_turned_down name bytes Taken why (Ok a) is down = map_judged name bytes Taken why (view.answer a) is down
map_turned_down name bytes Taken why (Err e) is down = down

-- What a command over one source means.
one_text : (xs : List (List ℕ)) (x d : List ℕ) → length xs ≡ 1 → x ≡ get_or xs 0 d → xs ≡ x ∷ []
one_text [] x d one is = absurd (omega arith)
one_text (y ∷ []) x d one is = ap (λ z. z ∷ []) (sym is)
one_text (y ∷ z ∷ rest) x d one is = absurd (omega arith)

pub means_one : (c d : Command) (texts : List (List ℕ)) (x e source : List ℕ) (r : Result code.Answer AllocError) → c ≡ d → length texts ≡ 1 → x ≡ get_or texts 0 e → source ≡ x
    → IfOk r (λ a. Means d (source ∷ []) (view.answer a)) → IfOk r (λ a. Means c texts (view.answer a))
means_one c d texts x e source r same one is bytes meant =
    let P : Command → List (List ℕ) → Type 0 = λ k ts. IfOk r (λ a. Means k ts (view.answer a)) in
    let all : texts ≡ source ∷ [] = one_text texts x e one is ∙ ap (λ z. z ∷ []) (sym bytes) in
    subst (λ ts. P c ts) (sym all) (subst (λ k. P k (source ∷ [])) (sym same) meant)

pub intended : (c : Command) (fs : List Wanted) (s t : Shelf) (texts ys : List (List ℕ)) (r : Result code.Answer AllocError) → fs ≡ wanted c → AreRead fs s.held s.reading texts t.reading → ys ≡ texts
    → IfOk r (λ a. Means c ys (view.answer a)) → IfOk r (λ a. Intends (job_of c) s t (view.answer a))
intended c fs s t texts ys (Ok a) same read is meant =
    let P : List Wanted → Type 0 = λ gs. AreRead gs s.held s.reading texts t.reading in
    let Q : List (List ℕ) → Type 0 = λ zs. AreRead (wanted c) s.held s.reading zs t.reading in
    means ys (subst Q (sym is) (subst P same read)) meant
intended c fs s t texts ys (Err e) same read is meant = meant

use Rattle.std.proofs.Common.{◌≡◌, ◌≢◌, ◌<◌, ◌+◌, ◌-◌, ◌++◌, ℕ, length, take, drop, get_or, refl, sym, ap, ◌∙◌, subst, arith}
use Rattle.std.specs.Str.Parse.{digits_value}
use Rattle.std.proofs.lemmas.List.{take_rest, drop-drop, length-drop}
use Rattle.patch_form.specs.Framing.{number_line}
use Rattle.patch_form.specs.Parts.{IsNumberLine, IsCut, IsBad}
use Rattle.patch_form.proofs.Numbers.{line_short, line_bad, line_whole}
use Rattle.patch_form.proofs.number.take_length.Goals as goal
use Rattle.patch_form.proofs.number.take_length.Goals.{then-len-eq0-via-then-len-eq0, then-len-eq0-via-else-len-eq0+then-rest-len-ne10}

pub returns-then-len-rest : goal.returns-then-len-rest
returns-then-len-rest c =
    let bytes = c.args.bytes.now in
    let at = c.args.at in
    let e = c.number_len-len.ensures in
    subst (IsCut IsNumberLine) (take_rest bytes at)
    (line_short (take (length bytes - at) (drop at bytes)) c.number_len-len.result (record { within = e.within; digits = e.digits; lone = e.zero; whole = e.whole }) c.if-len-rest.true)

pub returns-then-len-eq0 : goal.returns-then-len-eq0
returns-then-len-eq0 c =
    let bytes = c.args.bytes.now in
    let at = c.args.at in
    let len = c.number_len-len.result in
    let rest = take (length bytes - at) (drop at bytes) in
    let e = c.number_len-len.ensures in
    let not_end : 0 < len → get_or rest len 0 ≢ 10 =
    elim c.then-len-eq0.branch [
      | then-len-eq0-via-then-len-eq0 w ↦ λ some. absurd (omega arith)
      | then-len-eq0-via-else-len-eq0+then-rest-len-ne10 w ↦ λ some. w.if-rest-len-ne10.true
    ] in (
      len,
      refl,
      subst (IsBad IsNumberLine len) (take_rest bytes at)
          (line_bad rest len (record { within = e.within; digits = e.digits; lone = e.zero; whole = e.whole }) (omega arith) not_end),
    )

pub returns : goal.returns
returns c =
    let bytes = c.args.bytes.now in
    let at = c.args.at in
    let len = c.number_len-len.result in
    let rest = take (length bytes - at) (drop at bytes) in
    let e = c.number_len-len.ensures in
    let there : rest ≡ drop at bytes = take_rest bytes at in
    let whole = line_whole rest len (record { within = e.within; digits = e.digits; lone = e.zero; whole = e.whole }) (omega arith) (omega arith) c.if-rest-len-ne10.false in
    let behind : drop (len + 1) rest ≡ drop (at + len + 1) bytes = ap (drop (len + 1)) there ∙ drop-drop (len + 1) at bytes ∙ ap (λ (n : ℕ). drop n bytes) (omega arith) in (
      omega (arith, ap length there, length-drop at bytes),
      (digits_value 10 (take len rest), c.value_of.ensures, sym there ∙ whole ∙ ap (λ l. number_line (digits_value 10 (take len rest)) ++ l) behind),
    )

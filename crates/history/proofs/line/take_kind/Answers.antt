use Rattle.std.proofs.Common.{◌≡◌, ◌++◌, rules}
use Rattle.c_tree.specs.declared.event.EventKind.TheVariants as k
use Rattle.history.specs.declared.word.Word.TheVariants as w
use Rattle.history.specs.Taken.{letters}
use Rattle.history.proofs.KindLemmas.{lacks_word, lacks_kind, takes_kind}
use Rattle.history.proofs.line.take_kind.Goals as goal

pub returns-in_err-word : goal.returns-in_err-word
returns-in_err-word c = rw c.from_residual.ensures (lacks_word c.args.bytes.now c.in_err-word.ensures)

pub returns-in_err-thread-in-Step : goal.returns-in_err-thread-in-Step
returns-in_err-thread-in-Step c =
    let there : c.args.bytes.now ≡ letters w.Step ++ c.in_ok-word.rest.now = search rules in
    rw c.from_residual-in_err-thread-in-Step.ensures (lacks_kind w.Step c.args.bytes.now c.in_ok-word.rest.now there c.in_err-thread-in-Step.ensures)

pub returns-in_ok-thread-in-Step : goal.returns-in_ok-thread-in-Step
returns-in_ok-thread-in-Step c =
    let there : c.args.bytes.now ≡ letters w.Step ++ c.in_ok-word.rest.now = search rules in
    takes_kind (k.Step c.in_ok-thread-in-Step.thread) c.args.bytes.now c.in_ok-word.rest.now c.in_ok-thread-in-Step.rest.now there c.in_ok-thread-in-Step.ensures

pub returns-in_err-rest-in-Request : goal.returns-in_err-rest-in-Request
returns-in_err-rest-in-Request c =
    let there : c.args.bytes.now ≡ letters w.Request ++ c.in_ok-word.rest.now = search rules in
    rw c.from_residual-in_err-rest-in-Request.ensures (lacks_kind w.Request c.args.bytes.now c.in_ok-word.rest.now there c.in_err-rest-in-Request.ensures)

pub returns-in_ok-rest-in-Request : goal.returns-in_ok-rest-in-Request
returns-in_ok-rest-in-Request c =
    let there : c.args.bytes.now ≡ letters w.Request ++ c.in_ok-word.rest.now = search rules in
    takes_kind k.Request c.args.bytes.now c.in_ok-word.rest.now c.in_ok-rest-in-Request.rest.now there c.in_ok-rest-in-Request.ensures

pub returns-in_err-thread-in-Park : goal.returns-in_err-thread-in-Park
returns-in_err-thread-in-Park c =
    let there : c.args.bytes.now ≡ letters w.Park ++ c.in_ok-word.rest.now = search rules in
    rw c.from_residual-in_err-thread-in-Park.ensures (lacks_kind w.Park c.args.bytes.now c.in_ok-word.rest.now there c.in_err-thread-in-Park.ensures)

pub returns-in_ok-thread-in-Park : goal.returns-in_ok-thread-in-Park
returns-in_ok-thread-in-Park c =
    let there : c.args.bytes.now ≡ letters w.Park ++ c.in_ok-word.rest.now = search rules in
    takes_kind (k.Park c.in_ok-thread-in-Park.thread) c.args.bytes.now c.in_ok-word.rest.now c.in_ok-thread-in-Park.rest.now there c.in_ok-thread-in-Park.ensures

pub returns-in_err-rest-in-Update : goal.returns-in_err-rest-in-Update
returns-in_err-rest-in-Update c =
    let there : c.args.bytes.now ≡ letters w.Update ++ c.in_ok-word.rest.now = search rules in
    rw c.from_residual-in_err-rest-in-Update.ensures (lacks_kind w.Update c.args.bytes.now c.in_ok-word.rest.now there c.in_err-rest-in-Update.ensures)

pub returns-in_ok-rest-in-Update : goal.returns-in_ok-rest-in-Update
returns-in_ok-rest-in-Update c =
    let there : c.args.bytes.now ≡ letters w.Update ++ c.in_ok-word.rest.now = search rules in
    takes_kind k.Update c.args.bytes.now c.in_ok-word.rest.now c.in_ok-rest-in-Update.rest.now there c.in_ok-rest-in-Update.ensures

pub returns-in_err-reason-in-Refuse : goal.returns-in_err-reason-in-Refuse
returns-in_err-reason-in-Refuse c =
    let there : c.args.bytes.now ≡ letters w.Refuse ++ c.in_ok-word.rest.now = search rules in
    rw c.from_residual-in_err-reason-in-Refuse.ensures (lacks_kind w.Refuse c.args.bytes.now c.in_ok-word.rest.now there c.in_err-reason-in-Refuse.ensures)

pub returns-in_ok-reason-in-Refuse : goal.returns-in_ok-reason-in-Refuse
returns-in_ok-reason-in-Refuse c =
    let there : c.args.bytes.now ≡ letters w.Refuse ++ c.in_ok-word.rest.now = search rules in
    takes_kind (k.Refuse c.in_ok-reason-in-Refuse.reason) c.args.bytes.now c.in_ok-word.rest.now c.in_ok-reason-in-Refuse.rest.now there c.in_ok-reason-in-Refuse.ensures

pub returns-in_err-thread-in-Resume : goal.returns-in_err-thread-in-Resume
returns-in_err-thread-in-Resume c =
    let there : c.args.bytes.now ≡ letters w.Resume ++ c.in_ok-word.rest.now = search rules in
    rw c.from_residual-in_err-thread-in-Resume.ensures (lacks_kind w.Resume c.args.bytes.now c.in_ok-word.rest.now there c.in_err-thread-in-Resume.ensures)

pub returns-in_ok-thread-in-Resume : goal.returns-in_ok-thread-in-Resume
returns-in_ok-thread-in-Resume c =
    let there : c.args.bytes.now ≡ letters w.Resume ++ c.in_ok-word.rest.now = search rules in
    takes_kind (k.Resume c.in_ok-thread-in-Resume.thread) c.args.bytes.now c.in_ok-word.rest.now c.in_ok-thread-in-Resume.rest.now there c.in_ok-thread-in-Resume.ensures

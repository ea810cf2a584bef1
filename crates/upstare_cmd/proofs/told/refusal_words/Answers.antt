use Rattle.world_core.specs.Refused.{named_at_refusal}
use Rattle.upstare_cmd.proofs.Running.{refused_by}
use Rattle.upstare_cmd.proofs.told.refusal_words.Goals as goal

pub returns-in-Some : goal.returns-in-Some
returns-in-Some c =
    refused_by c.args.world.now.settings.armed c.in-Some.patch.now _ (named_at_refusal c.args.world.now) c.args.reason c.refused_words.result
    c.in-Some.ensures.value c.named_at_refusal.ensures c.refused_words.ensures

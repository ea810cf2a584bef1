use Rattle.upstare_cmd.proofs.Running.{of_texts}
use Rattle.upstare_cmd.proofs.run.run_meant.Goals as goal

pub returns : goal.returns
returns c = of_texts _ _ _ _ _ _ c.in-Some.ensures.cases.0 c.as_bytes.ensures c.requires.fit c.source_meant.ensures

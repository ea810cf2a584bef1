use Rattle.std.proofs.Common.{◌∙◌}
use Rattle.c_tokens.specs.Text.{scanned}
use Rattle.map_lang.proofs.Readings.{plain, whole_answer, scan_is}
use Rattle.map_lang.proofs.reading.read_text.Goals as goal

pub returns-in-Ok-map_tokens : goal.returns-in-Ok-map_tokens
returns-in-Ok-map_tokens c =
    whole_answer c.args.begin.now c.args.bytes.now (scanned (plain c.as_slice.result.now) c.in-Ok.field-0.fault) c.read_scan.result
    (scan_is c.args.bytes.now c.in-Ok.field-0 c.as_slice.result.now c.in-Ok.ensures (c.as_slice.ensures.value ∙ c.in-Ok-map_tokens.ensures)) c.read_scan.ensures

use Rattle.std.proofs.Common.{◌≡◌, [], rules}
use Rattle.upstare_cmd.proofs.Loading.{of_begun}
use Rattle.upstare_cmd.proofs.load.patch_loaded.Goals as goal

pub returns : goal.returns
returns c =
    let empty : c.from_vec-empty.result ≡ [] = search rules in
    of_begun c.in_ok-program.program c.args.patch c.args.n c.request_at.result c.from_vec-empty.result c.in_ok-world.world c.driven.result
    c.in_ok-program.ensures c.request_at.ensures empty c.in_ok-world.ensures c.driven.ensures

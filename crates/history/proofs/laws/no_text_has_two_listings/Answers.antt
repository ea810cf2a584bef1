use Rattle.history.proofs.LineLemmas.{at_most_one_listing}
use Rattle.history.proofs.laws.no_text_has_two_listings.Goals as goal

pub returns : goal.returns
returns c = at_most_one_listing

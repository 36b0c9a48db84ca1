-- `variables::chains::one_more_fits` meets its contract. Assumes nothing.
use Rattle.variables.proofs.ChainLaws.{fits_test}
use Rattle.variables.proofs.chains.one_more_fits.Goals as goal

pub returns : goal.returns
returns c = fits_test c.args.links

use Rattle.lt_rewrite.proofs.Entries.{chains_end}
use Rattle.lt_rewrite.proofs.ChainWalks.{chain_ends_within}
use Rattle.lt_rewrite.proofs.laws.chains_end.Goals as goal

-- a chain that ends uses no record twice, so it has no more values than there are records
-- the first value of a chain is that of a record, so all chains end if those from the records' values do
pub returns : goal.returns
returns c = record { short = chain_ends_within; end = chains_end }

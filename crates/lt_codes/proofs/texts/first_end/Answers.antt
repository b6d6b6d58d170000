use Rattle.lt_codes.proofs.SplitLemmas.{first_found, first_none}
use Rattle.lt_codes.proofs.texts.first_end.Goals as goal

-- what is before the first hyphen is the first subtag, so its length is where that ends
pub returns-in-Some : goal.returns-in-Some
returns-in-Some c = first_found c.args.text.now c.in-Some.first.now _ c.in-Some.ensures

-- without a hyphen the whole text is the first subtag
pub returns-in-None : goal.returns-in-None
returns-in-None c = first_none c.args.text.now c.in-None.ensures

-- Each subcommand has a reader of its values: what that refuses is no command of the subcommand (the clause
-- `unnamed`).
use Rattle.lt_words.proofs.reading.read_command.Goals as goal

-- the subcommand is `tsv`, and its values name no command
pub returns-in-Tsv-clause-unnamed : goal.returns-in-Tsv-clause-unnamed
returns-in-Tsv-clause-unnamed c = rw c.in-Tsv.is c.read_tsv.ensures.unnamed

-- the subcommand is `csv`, and its values name no command
pub returns-in-Csv-clause-unnamed : goal.returns-in-Csv-clause-unnamed
returns-in-Csv-clause-unnamed c = rw c.in-Csv.is c.read_csv.ensures.unnamed

-- the subcommand is `equal`, and its values name no command
pub returns-in-Equal-clause-unnamed : goal.returns-in-Equal-clause-unnamed
returns-in-Equal-clause-unnamed c = rw c.in-Equal.is c.read_equal.ensures.unnamed

-- the subcommand is `canon`, and its values name no command
pub returns-in-Canon-clause-unnamed : goal.returns-in-Canon-clause-unnamed
returns-in-Canon-clause-unnamed c = rw c.in-Canon.is c.read_canon.ensures.unnamed

-- the subcommand is `codes`, and its values name no command
pub returns-in-Codes-clause-unnamed : goal.returns-in-Codes-clause-unnamed
returns-in-Codes-clause-unnamed c = rw c.in-Codes.is c.read_codes.ensures.unnamed

-- the subcommand is `show`, and its values name no command
pub returns-in-Show-clause-unnamed : goal.returns-in-Show-clause-unnamed
returns-in-Show-clause-unnamed c = rw c.in-Show.is c.read_show.ensures.unnamed

-- the subcommand is `match`, and its values name no command
pub returns-in-Match-clause-unnamed : goal.returns-in-Match-clause-unnamed
returns-in-Match-clause-unnamed c = rw c.in-Match.is c.read_match.ensures.unnamed

-- For each command: which files and streams are left as they were, and the plan that the command's own function
-- makes.
use Rattle.std.proofs.Common.{refl}
use Rattle.lt_tool.proofs.plans.make_plan.Goals as goal

-- `classify` reads neither a file nor the input
pub returns-in-Classify : goal.returns-in-Classify
returns-in-Classify g c = rw c.in-Classify.is (refl, refl, rw c.as_bytes.ensures.value at c.classify.ensures)

-- `check` reads the first file alone
pub returns-in-Check : goal.returns-in-Check
returns-in-Check g c = rw c.in-Check.is (refl, refl, c.check.ensures)

-- `canon` reads no table of codes, and the input not yet
pub returns-in-Canon : goal.returns-in-Canon
returns-in-Canon g c = rw c.in-Canon.is (refl, c.plan_tags.ensures)

-- `codes` reads a table of codes too, and the input not yet
pub returns-in-Codes : goal.returns-in-Codes
returns-in-Codes g c = rw c.in-Codes.is (refl, c.plan_tags-in-Codes.ensures)

-- `tsv` may read the heading of the input, to find a column by its name
pub returns-in-Tsv : goal.returns-in-Tsv
returns-in-Tsv g c = rw c.in-Tsv.is c.plan_rows.ensures

-- `csv` may read the heading of the input, to find a column by its name
pub returns-in-Csv : goal.returns-in-Csv
returns-in-Csv g c = rw c.in-Csv.is c.plan_rows-in-Csv.ensures

-- `match` with ranges reads the first file alone
pub returns-in-Match : goal.returns-in-Match
returns-in-Match g c = rw c.in-Match.is (refl, refl, c.plan_match.ensures)

-- `match` with a header reads the first file alone
pub returns-in-Serve : goal.returns-in-Serve
returns-in-Serve g c = rw c.in-Serve.is (refl, refl, rw c.as_bytes-in-Serve.ensures.value at c.plan_serve.ensures)

-- `extlang` reads the first file alone
pub returns-in-Extlang : goal.returns-in-Extlang
returns-in-Extlang g c = rw c.in-Extlang.is (refl, refl, rw c.as_bytes-in-Extlang.ensures.value at c.extlang.ensures)

-- `equal` reads the first file alone
pub returns-in-Equal : goal.returns-in-Equal
returns-in-Equal g c =
    rw c.in-Equal.is (refl, refl, rw (c.as_bytes-in-Equal.ensures.value, c.as_bytes-in-Equal-2.ensures.value) at c.equal.ensures)

-- `explain` reads the first file alone
pub returns-in-Explain : goal.returns-in-Explain
returns-in-Explain g c = rw c.in-Explain.is (refl, refl, rw c.as_bytes-in-Explain.ensures.value at c.plan_explain.ensures)

-- `verify` reads the first file alone, and the input not yet
pub returns-in-Verify : goal.returns-in-Verify
returns-in-Verify g c = rw c.in-Verify.is (refl, refl, rw c.as_bytes-in-Verify.ensures.value at c.plan_verify.ensures)

-- `upgrade` reads both files, and not the input
pub returns-in-Upgrade : goal.returns-in-Upgrade
returns-in-Upgrade g c = rw c.in-Upgrade.is (refl, c.upgrade.ensures)

-- `show` reads the first file alone
pub returns-in-Show : goal.returns-in-Show
returns-in-Show g c = rw c.in-Show.is (refl, refl, c.plan_show.ensures)

-- `json` reads the first file alone, and the input not yet
pub returns-in-Json : goal.returns-in-Json
returns-in-Json g c = rw c.in-Json.is (refl, refl, c.plan_json.ensures)

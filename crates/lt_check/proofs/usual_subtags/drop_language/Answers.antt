use Rattle.std.proofs.Common.{arith}
use Rattle.std.proofs.lemmas.List.Folds.{list_any-append}
use Rattle.lt_subtag.specs.Bytes.{folded}
use Rattle.lt_check.specs.Flags.{stays_beside}
use Rattle.lt_check.proofs.FlagLemmas.{language_first}
use Rattle.lt_check.proofs.usual_subtags.drop_language.Goals as goal

-- If the flags told which subtags of `R` stay beside the records `es`, they tell so beside `es` and this record: the
-- flag of the language that it replaces is cleared, and no other subtag is this language.
pub returns-in-Some : goal.returns-in-Some
returns-in-Some c = λ R es tell k s n h.
    let told = c.put_subtag.ensures (stays_beside R es) tell k s n h in
    let one = (c.in-Some.ensures {u = tt}).language (folded s) in
    grind (arith, list_any-append, language_first)

-- the same where the record replaces no tag that has neither extlangs nor variants: all flags stay
pub returns-in_default : goal.returns-in_default
returns-in_default c = λ R es tell k s n h.
    let told = tell k s n h in
    let one = (c.in_default.ensures {u = tt}).language (folded s) in
    grind (arith, list_any-append)

use Rattle.lt_check.proofs.Judging.{not_by_record}
use Rattle.lt_check.proofs.checking.meets.Goals as goal

-- the last arm is never reached: the condition is decided record by record, and each such condition has an arm above
pub unreachable-requires : goal.unreachable-requires
unreachable-requires g c =
    not_by_record c.args.condition c.requires.by_record c.in_default.not-RegisteredValue c.in_default.not-EndingChain
    c.in_default.not-FittingExtlang c.in_default.not-FittingVariantValue c.in_default.not-FinalPrefixes
    c.in_default.not-LangtagPrefixes c.in_default.not-ValidWhole c.in_default.not-NoRangeValue

-- true exactly if the record meets the condition: the test tells so of C9
pub returns-in-ValidWhole : goal.returns-in-ValidWhole
returns-in-ValidWhole g c = rw c.in-ValidWhole.is c.has_valid_whole.ensures

-- true exactly if the record meets the condition: the test tells so of C7, whatever the registry
pub returns-in-LangtagPrefixes : goal.returns-in-LangtagPrefixes
returns-in-LangtagPrefixes g c = rw c.in-LangtagPrefixes.is (c.has_langtag_prefixes.ensures (g.L.Lookup.listed c.args.table.now))

use Rattle.std.proofs.lemmas.Bool.Decides.{Decides-like}
use Rattle.lt_check.specs.WholeChecks.{RestsAlone, Agrees}
use Rattle.lt_check.proofs.WholeRecords.{tag_proper, value_proper, at_end}
use Rattle.lt_check.proofs.whole_checks.judge_whole.Goals as goal

-- the core that is settled must be proper: it is that of the record's value, which is valid, as C9 is met
pub settled-requires-clause-proper : goal.settled-requires-clause-proper
settled-requires-clause-proper g c =
    value_proper _ c.requires.lower _ c.requires.listed _ _ c.in-Some.ensures.0 c.in-Some.ensures.1 _ c.in-Some-core_alone.ensures.value

-- if the record's tag is a core alone, its core must be proper: the tag is no grandfathered one by C8, and a redundant
-- one is valid by C9
pub comes_to-requires-clause-proper : goal.comes_to-requires-clause-proper
comes_to-requires-clause-proper g c = tag_proper _ c.requires.lower c.know_entries.ensures _ c.requires.listed _ _
    c.in-Some.ensures.0 c.in-Some.ensures.1

-- each answer is true exactly if the record meets its condition, C10 or C11: the value has one core normal form, `end`,
-- so what was found of `end` decides both
pub returns : goal.returns
returns g c =
    let at = at_end (g.L.Lookup.listed c.args.table.now) c.requires.lower c.args.entry.now _ _ _ _ c.in-Some.ensures.0
    c.in-Some.ensures.1 c.in-Some-core_alone.ensures.value c.in_ok-end.ensures.normal in
    record {
      rests = at (λ _. RestsAlone (g.L.Lookup.listed c.args.table.now)) _ c.rests-rests.ensures;
      agrees = Decides-like _
          (λ f t u n v c s p d tc up m moved l. f t u n v p d up l c s tc m moved)
          (λ f t u n v p d up l c s tc m moved. f t u n v c s p d tc up m moved l)
          (at (Agrees (g.L.Lookup.listed c.args.table.now)) _ c.in_ok-agrees.ensures);
    }

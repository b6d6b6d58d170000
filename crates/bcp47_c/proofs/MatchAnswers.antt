-- Whether a range matches a tag is whether one of the range's parts matches one of the tag's lists of subtags, since the
-- entries determine these. It is what `answer_match` compares.
use Rattle.std.proofs.Common.{ℕ, ◌≡◌, ◌↔◌, Bool, IsTrue, List, [], inl, subst}
use Rattle.std.specs.Prelude.{if◌then◌else◌}
use Rattle.lt_tag.specs.Parts.{TagForm}
use Rattle.lt_registry.specs.Parts.{EntryParts}
use Rattle.lt_check.specs.Conditions.{IsChecked}
use Rattle.lt_canon.specs.Texts.{ReadsAs}
use Rattle.lt_range.specs.Ranges.{RangeParts}
use Rattle.lt_range.specs.Matched.{AnyMatches, AreRangesOf, MatchesTag}
use Rattle.lt_range.specs.Spellings.{HasSpellings, Spellings}
use Rattle.lt_range.specs.Laws.{MatchingIsDetermined}
use Rattle.lt_range.proofs.MatchLaws.{determined}
use Rattle.bcp47_c.specs.Matches.{IsMatchOf, TellsMatch}
use Rattle.bcp47_c.specs.Outcomes.{ended, IsDelivered}
use Rattle.lt_range.specs.declared.matching.Scheme.{Scheme}
use Rattle.bcp47_c.specs.declared.outcomes.Outcome.{Outcome}
use Rattle.bcp47_c.specs.declared.outcomes.Said.{Said}

-- the entries determine the ranges and the lists: if the texts match, they match by these
by_parts : (R : List EntryParts) → IsChecked R → (scheme : Scheme) (range : List ℕ) (ranges : List RangeParts)
    (tag : TagForm) (lists : Spellings) → AreRangesOf R range ranges → HasSpellings R tag lists
    → MatchesTag R scheme range tag → AnyMatches scheme ranges lists
by_parts R C scheme range ranges tag lists p l m =
    let D : MatchingIsDetermined R = determined R C in
    let listed = subst (λ (x : Spellings). AnyMatches scheme m.ranges x) (D.list tag m.lists lists m.has l) m.matches in
    subst (λ (x : List RangeParts). AnyMatches scheme x lists) (D.range range m.ranges ranges m.are_ranges p) listed

-- if `answer` is whether one of the range's parts, `ranges`, matches one of the tag's lists of subtags, `lists`, it is
-- whether the range matches the tag
pub told_by_parts : (R : List EntryParts) → IsChecked R → (scheme : Scheme) (range text : List ℕ) (ranges : List
    RangeParts) (lists : Spellings) (answer : Bool) → AreRangesOf R range ranges
    → ReadsAs text (λ tag. HasSpellings R tag lists) → IsTrue answer ↔ AnyMatches scheme ranges lists
    → IsMatchOf R scheme range text answer
told_by_parts R C scheme range text ranges lists answer p q d = record {
  ranges = ranges;
  are_ranges = p;
  tag = q.tag;
  read = q.read;
  lists = lists;
  has = q.holds;
  matches = (
    λ h. record { ranges = ranges; are_ranges = p; lists = lists; has = q.holds; matches = d.0 h },
    λ m. d.1 (by_parts R C scheme range ranges q.tag lists p q.holds m),
  );
}

-- if `answer` is whether the range matches the tag, and the status for it, `said`, is delivered, that is what
-- `TellsMatch` asks
pub told_match : (R : List EntryParts) (scheme : Scheme) (range text before after : List ℕ) (answer : Bool)
    (said : Said) (o : Outcome) → IsMatchOf R scheme range text answer → said ≡ ended (if answer then 0 else 6)
    → IsDelivered said [] before after o → TellsMatch R scheme range text before after o
told_match R scheme range text before after answer said o m e d =
    inl (record {
      answer = answer;
      is_answer = m;
      delivered = subst (λ (s : Said). IsDelivered s [] before after o) e d;
    })

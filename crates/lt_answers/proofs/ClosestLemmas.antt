-- Lemmas for `take_line` of `closest`: which line is the closest, that is, the one that lookup finds, among the lines
-- so far and one more. At the end the closest of all lines is what lookup finds.
use Rattle.std.proofs.Common.{◌≡◌, ◌<◌, ◌≤◌, ◌+◌, ◌++◌, ◌∷◌, ◌∙◌, ℕ, zero, suc, List, [], Option, Some, None, inl, inr}
use Rattle.std.proofs.Common.{length, take, drop, get_or, sym, ap, refl, subst, arith, length-append, length-take-le}
use Rattle.std.proofs.Common.{take_all}
use Rattle.std.specs.List.{AllByRecursion}
use Rattle.std.proofs.Math.Seq.{get_or-append_seam}
use Rattle.std.proofs.lemmas.Bool.Decides.{leb_tells}
use Rattle.std.proofs.lemmas.List.{get_or_append_left}
use Rattle.std.proofs.lemmas.Option.{slice_get-get_or}
use Rattle.lt_registry.specs.Parts.{EntryParts}
use Rattle.lt_range.specs.Ranges.{RangeParts}
use Rattle.lt_range.specs.Matching.{FallsBackTo}
use Rattle.lt_range.specs.Lookup.{Finds, FindsNone, tag_at}
use Rattle.lt_range.specs.Spellings.{count_in, MatchesSome, Spellings}
use Rattle.lt_range.proofs.FrontLemmas.{parted}
use Rattle.lt_answers.specs.Closest.{ClosestAmong, FallsFirst, Holds, IsCloser, IsClosest, NoneFalls, TakesLine}
use Rattle.lt_answers.specs.Closest.{TakesSubtags, line_at, range_at}
use Rattle.lt_range.specs.Matched.{HasNoSubtags, HasSubtags}
use Rattle.lt_answers.specs.LookedUp.{FindsLine, FindsNoLine, LineHas, LinesHave}
use Rattle.lt_answers.specs.Selection.{longest_kept}
use Rattle.lt_answers.proofs.MatchedLemmas.{content-length}
use Rattle.lt_jar.specs.Lines.{content_of}
use Rattle.lt_answers.specs.declared.closest.Closest.{Closest}

-- ---- one more element

-- a list, `xs`, and one more element, `x`; `d` is what a place outside of the list gives
module _ {X : Type 0} (xs : List X) (x d : X) where
  -- the elements before the last are those of the list
  pub before_last : (i : ℕ) → i < length xs → get_or (xs ++ x ∷ []) i d ≡ get_or xs i d
  before_last i within = get_or_append_left xs (x ∷ []) d i within

  -- the last element is the one that was added
  pub at_last : get_or (xs ++ x ∷ []) (length xs) d ≡ x
  at_last = get_or-append_seam xs x [] d

  -- there is one element more than in the list
  pub one_longer : length (xs ++ x ∷ []) ≡ length xs + 1
  one_longer = length-append xs (x ∷ [])

  -- what is true of each element of the list and of the one that was added is true of each
  pub each_more : (P : X → Type 0) → ((i : ℕ) → i < length xs → P (get_or xs i d)) → P x → (i : ℕ)
      → i < length (xs ++ x ∷ []) → P (get_or (xs ++ x ∷ []) i d)
  each_more P each last i within = elim (leb_tells (suc i) (length xs)) [
    | inl before ↦ subst P (sym (before_last i (omega (arith, before.1)))) (each i (omega (arith, before.1)))
    | inr after ↦
        let here : i ≡ length xs = omega (arith, after.1, within, one_longer) in
        subst (λ (n : ℕ). P (get_or (xs ++ x ∷ []) n d)) (sym here) (subst P (sym at_last) last)
  ]

-- what is true of the range at each place below `n` is true of the first `n` ranges
pub all_front : (P : RangeParts → Type 0) (ranges : List RangeParts) (n : ℕ) → n ≤ length ranges
    → ((i : ℕ) → i < n → P (range_at ranges i)) → AllByRecursion P (take n ranges)
all_front P ranges zero few each = tt
all_front P [] (suc n) few each = tt
all_front P (range ∷ ranges) (suc n) few each = (
  each 0 (omega arith),
  all_front P ranges n (omega (arith, few))
      (λ i within. each (suc i) (omega (arith, within))),
)

-- ---- one more tag

-- tags with the spellings `lists`, and one more with the spellings `list`
module _ (lists : List Spellings) (list : Spellings) where
  -- a range that found none of the tags, and does not fall back to the further one, finds none still
  pub none_more : (range : RangeParts) → FindsNone lists range → (MatchesSome FallsBackTo range list → ⊥)
      → FindsNone (lists ++ list ∷ []) range
  none_more range none not = each_more lists list [] (λ (l : Spellings). MatchesSome FallsBackTo range l → ⊥) none not

  -- a range finds the same tag still if it does not fall back to the further one, or if that has no more subtags
  finds_still : (range : RangeParts) (place : ℕ) → Finds range lists place
      → (MatchesSome FallsBackTo range list → count_in list ≤ count_in (tag_at lists place)) → Finds range (lists ++ list ∷ []) place
  finds_still range place f short =
      let same : tag_at (lists ++ list ∷ []) place ≡ tag_at lists place = before_last lists list [] place f.within in
      record {
        within = omega (arith, f.within, one_longer lists list []);
        found = subst (MatchesSome FallsBackTo range) (sym same) f.found;
        longest = subst (λ (t : Spellings). (i : ℕ) → i < length (lists ++ list ∷ [])
            → MatchesSome FallsBackTo range (tag_at (lists ++ list ∷ []) i) → count_in (tag_at (lists ++ list ∷ []) i) ≤ count_in t)
            (sym same)
            (each_more lists list [] (λ (l : Spellings). MatchesSome FallsBackTo range l → count_in l ≤ count_in
            (tag_at lists place)) f.longest short);
        first = λ i before falls.
            let here : tag_at (lists ++ list ∷ []) i ≡ tag_at lists i = before_last lists list [] i (omega (arith, before, f.within)) in
            let less : count_in (tag_at lists i) < count_in (tag_at lists place) = f.first i before (subst
            (MatchesSome FallsBackTo range) here falls) in
            omega (arith, less, ap count_in here, ap count_in same);
      }

  -- a range that falls back to the further tag finds it, if each earlier one to which it falls back has fewer subtags
  finds_last : (range : RangeParts) → MatchesSome FallsBackTo range list
      → ((i : ℕ) → i < length lists → MatchesSome FallsBackTo range (tag_at lists i) → count_in (tag_at lists i) < count_in list)
      → Finds range (lists ++ list ∷ []) (length lists)
  finds_last range falls longer =
      let same : tag_at (lists ++ list ∷ []) (length lists) ≡ list = at_last lists list [] in
      record {
        within = omega (arith, one_longer lists list []);
        found = subst (MatchesSome FallsBackTo range) (sym same) falls;
        longest = subst (λ (t : Spellings). (i : ℕ) → i < length (lists ++ list ∷ [])
            → MatchesSome FallsBackTo range (tag_at (lists ++ list ∷ []) i) → count_in (tag_at (lists ++ list ∷ []) i) ≤ count_in t)
            (sym same)
            (each_more lists list [] (λ (l : Spellings). MatchesSome FallsBackTo range l → count_in l ≤ count_in list)
            (λ i within f. omega (arith, longer i within f)) (λ f. omega arith));
        first = λ i before f.
            let here : tag_at (lists ++ list ∷ []) i ≡ tag_at lists i = before_last lists list [] i before in
            let less : count_in (tag_at lists i) < count_in list = longer i before (subst (MatchesSome FallsBackTo range) here f) in
            omega (arith, less, ap count_in here, ap count_in same);
      }

  module _ (ranges : List RangeParts) where
    -- the closest tag stays the closest if no range before its own falls back to the further tag, and if that has no
    -- more subtags where its own range falls back to it
    still : (range count place : ℕ) → IsClosest ranges lists range count place → NoneFalls ranges range list
        → (MatchesSome FallsBackTo (range_at ranges range) list → count_in list ≤ count)
        → IsClosest ranges (lists ++ list ∷ []) range count place
    still range count place c none short = record {
      within = c.within;
      before = λ i less. none_more (range_at ranges i) (c.before i less) (none i less);
      finds = finds_still (range_at ranges range) place c.finds (λ falls. omega (arith, short falls, c.counted));
      counted = c.counted ∙ ap count_in (sym (before_last lists list [] place c.finds.within));
    }

    -- the further tag is the closest if `range` is the first that falls back to it, no range before that found any tag,
    -- and `range` falls back only to earlier tags of fewer subtags
    last : (range : ℕ) → FallsFirst ranges list range → ((i : ℕ) → i < range → FindsNone lists (range_at ranges i))
        → ((i : ℕ) → i < length lists → MatchesSome FallsBackTo (range_at ranges range) (tag_at lists i)
        → count_in (tag_at lists i) < count_in list)
        → IsClosest ranges (lists ++ list ∷ []) range (count_in list) (length lists)
    last range f before longer = record {
      within = f.within;
      before = λ i less. none_more (range_at ranges i) (before i less) (f.before i less);
      finds = finds_last (range_at ranges range) f.falls longer;
      counted = ap count_in (sym (at_last lists list []));
    }

-- a line with a tag to which no range falls back changes nothing
pub takes_none : (ranges : List RangeParts) (list : Spellings) (line : List ℕ) (old : Option Closest)
    → NoneFalls ranges (length ranges) list → TakesSubtags ranges list line old old
takes_none ranges list line None none = λ lines lists same held. λ i within. none_more lists list (range_at ranges i)
    (held i within) (none i within)
takes_none ranges list line (Some closest) none = λ lines lists same held. (
  held.0,
  still lists list ranges closest.range closest.count held.0 held.1
      (λ i less. none i (omega (arith, less, held.1.within)))
      (λ falls. absurd (none closest.range held.1.within falls)),
  before_last lines line [] held.0 (omega (arith, held.1.finds.within, same)) ∙ held.2,
)

-- a line with a tag that is not closer changes nothing; `range` is the first that falls back to it
pub takes_other : (ranges : List RangeParts) (list : Spellings) (line : List ℕ) (old : Option Closest) (range : ℕ)
    → FallsFirst ranges list range → (IsCloser old range (count_in list) → ⊥) → TakesSubtags ranges list line old old
takes_other ranges list line None range f not = absurd (not tt)
takes_other ranges list line (Some closest) range f not = λ lines lists same held. (
  held.0,
  still lists list ranges closest.range closest.count held.0 held.1
      (λ i less. elim (leb_tells closest.range range) [
        | inl later ↦ f.before i (omega (arith, less, later.1))
        | inr sooner ↦ absurd (not (inl sooner.1))
      ])
      (λ falls. elim (leb_tells (count_in list) closest.count) [
        | inl short ↦ short.1
        | inr long ↦ elim (leb_tells closest.range range) [
          | inl later ↦ elim (leb_tells range closest.range) [
            | inl equal ↦ absurd (not (inr (omega (arith, later.1, equal.1), long.1)))
            | inr after ↦ absurd (f.before closest.range after.1 falls)
          ]
          | inr sooner ↦ absurd (not (inl sooner.1))
        ]
      ]),
  before_last lines line [] held.0 (omega (arith, held.1.finds.within, same)) ∙ held.2,
)

-- if a tag is closer by `range`, then no range before that found a tag, and `range` falls back only to tags of fewer
-- subtags so far
before_closer : (ranges : List RangeParts) (list : Spellings) (old : Option Closest) (range : ℕ)
    → range < length ranges → IsCloser old range (count_in list)
    → (lines : List (List ℕ)) (lists : List Spellings) → ClosestAmong ranges lines lists old
    → ((i : ℕ) → i < range → FindsNone lists (range_at ranges i))
    × ((i : ℕ) → i < length lists → MatchesSome FallsBackTo (range_at ranges range) (tag_at lists i)
    → count_in (tag_at lists i) < count_in list)
before_closer ranges list None range within closer lines lists held = (
  λ i less. held i (omega (arith, less, within)),
  λ i here falls. absurd (held range within i here falls),
)
before_closer ranges list (Some closest) range within (inl sooner) lines lists held =
    (λ i less. held.1.before i (omega (arith, less, sooner)), λ i here falls. absurd (held.1.before range sooner i here falls))
before_closer ranges list (Some closest) range within (inr same) lines lists held = (
  λ i less. held.1.before i (omega (arith, less, same.0)),
  λ i here falls.
      let most : count_in (tag_at lists i) ≤ count_in (tag_at lists held.0) = held.1.finds.longest i here
      (subst (λ (n : ℕ). MatchesSome FallsBackTo (range_at ranges n) (tag_at lists i)) same.0 falls) in
      omega (arith, most, held.1.counted, same.1),
)

-- a line with a tag that is closer becomes the closest line, `new`
pub takes_closer : (ranges : List RangeParts) (list : Spellings) (line : List ℕ) (old : Option Closest) (new
    : Closest) → FallsFirst ranges list new.range → IsCloser old new.range (count_in list)
    → new.count ≡ count_in list → new.line.items ≡ line → TakesSubtags ranges list line old (Some new)
takes_closer ranges list line old new f closer counted copied = λ lines lists same held.
    let rest = before_closer ranges list old new.range f.within closer lines lists held in (
      length lists,
      subst (λ (n : ℕ). IsClosest ranges (lists ++ list ∷ []) new.range n (length lists)) (sym counted)
          (last lists list ranges new.range f rest.0 rest.1),
      subst (λ (n : ℕ). line_at (lines ++ line ∷ []) n ≡ new.line.items) same (at_last lines line [] ∙ sym copied),
    )

-- ---- lines

-- the spellings of some lines, and then those of one more, are the spellings of all these lines
pub lines_more : (R : List EntryParts) (lines : List (List ℕ)) (lists : List Spellings) (line : List ℕ) (list
    : Spellings) → LinesHave R lines lists → LineHas R line list
    → LinesHave R (lines ++ line ∷ []) (lists ++ list ∷ [])
lines_more R [] lists line list none has = rw none (list, [], has, refl, refl)
lines_more R (first ∷ lines) lists line list (one, more, here, split, have) has =
    (one, more ++ list ∷ [], here, ap (λ (l : List Spellings). l ++ list ∷ []) split, lines_more R lines more line list have has)

-- there are as many lists of spellings as lines
pub same_count : (R : List EntryParts) (lines : List (List ℕ)) (lists : List Spellings) → LinesHave R lines lists
    → length lines ≡ length lists
same_count R [] lists none = ap length (sym none)
same_count R (first ∷ lines) lists (one, more, here, split, have) = ap suc (same_count R lines more have) ∙ ap length (sym split)

-- `kept` is what is kept of a further line
module _ (R : List EntryParts) (ranges : List RangeParts) (kept : List ℕ) where
  -- a further line changes what its spellings change
  line_taken : (list : Spellings) (line : List ℕ) (old new : Option Closest) → LineHas R line list
      → TakesSubtags ranges list line old new → (lines : List (List ℕ)) → Holds R ranges lines old
      → Holds R ranges (lines ++ line ∷ []) new
  line_taken list line old new has takes lines held = record {
    lists = held.lists ++ list ∷ [];
    have = lines_more R lines held.lists line list held.have has;
    among = takes lines held.lists (same_count R lines held.lists held.have) held.among;
  }

  -- a line with spellings is short enough to be kept whole, and changes what they change
  pub takes_line : (list : Spellings) (old new : Option Closest) → HasSubtags R (content_of kept) list
      → TakesSubtags ranges list kept old new → TakesLine R ranges kept old new
  takes_line list old new has takes = λ lines line is held.
      let short : length line ≤ longest_kept = front_short line list (subst (λ (l : List ℕ). HasSubtags R (content_of l) list) is has) in
      let whole : kept ≡ line = is ∙ take_all longest_kept line short in
      subst (λ (l : List ℕ). Holds R ranges (lines ++ l ∷ []) new) whole (line_taken list kept old new (inl has) takes lines held)
    where
      front_short : (line : List ℕ) (list : Spellings) → HasSubtags R (content_of (take longest_kept line)) list
          → length line ≤ longest_kept
      front_short line list h = elim (leb_tells (length line) longest_kept) [
        | inl short ↦ short.1
        | inr long ↦ absurd
            (omega (
              arith,
              h.read.short,
              content-length (take longest_kept line),
              length-take-le longest_kept line
                  (omega (arith, long.1)),
            ))
      ]

  -- a line without spellings is found by no range, and changes nothing
  pub takes_nothing : (old : Option Closest) → HasNoSubtags R (content_of kept) → TakesLine R ranges kept old old
  takes_nothing old none = λ lines line is held.
      line_taken [] line old old (inr (none_whole line is, refl))
      (takes_none ranges [] line old (λ i within falls. absurd falls)) lines held
    where
      none_whole : (line : List ℕ) → kept ≡ take longest_kept line → HasNoSubtags R (content_of line)
      none_whole line is = λ list h.
          none list (subst (λ (l : List ℕ). HasSubtags R (content_of l) list)
          (sym (is ∙ take_all longest_kept line (omega (arith, h.read.short, content-length line)))) h)

-- ---- the end

-- the lines are all that were read
module _ (R : List EntryParts) (ranges : List RangeParts) (lines : List (List ℕ)) where
  -- if no line is the closest of all, lookup finds none
  pub finds_none : Holds R ranges lines None → FindsNoLine R ranges lines
  finds_none held = record {
    lists = held.lists;
    have = held.have;
    none = subst (AllByRecursion (FindsNone held.lists)) (take_all (length ranges) ranges (omega arith))
        (all_front (FindsNone held.lists) ranges (length ranges) (omega arith) held.among);
  }

  -- lookup finds the closest of all lines
  pub finds_line : (closest : Closest) → Holds R ranges lines (Some closest) → FindsLine R ranges lines closest.line.items
  finds_line closest held =
      let place : ℕ = held.among.0 in
      let is : IsClosest ranges held.lists closest.range closest.count place = held.among.1 in
      record {
        lists = held.lists;
        have = held.have;
        place = place;
        found = record {
          before = take closest.range ranges;
          range = range_at ranges closest.range;
          after = drop (closest.range + 1) ranges;
          there = parted ranges closest.range _ is.within;
          none_before = all_front (FindsNone held.lists) ranges closest.range (omega (arith, is.within)) is.before;
          finds = is.finds;
        };
        there = slice_get-get_or lines place [] (omega
            (arith, is.finds.within, same_count R lines held.lists held.have))
            ∙ ap (λ (l : List ℕ). Some l) held.among.2;
      }

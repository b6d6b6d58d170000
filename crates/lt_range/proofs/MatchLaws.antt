-- The laws of matching, for a registry that passes the check: equivalent tags match the same ranges, equivalent ranges
-- match the same tags, a range that is a valid tag matches only if equivalent tags match as they are spelled, and the
-- entries determine the spellings of a tag and the ranges of a text.
use Rattle.std.proofs.Common.{◌≡◌, ℕ, Bool, true, false, inl, inr, List, [], ◌∷◌, ◌++◌, Ok, map, refl, sym, ap, ◌∙◌, subst}
use Rattle.std.specs.List.{AllByRecursion}
use Rattle.lt_tag.specs.Parts.{TagForm}
use Rattle.lt_tag.specs.WellFormed.{spell}
use Rattle.lt_tag.specs.Faults.{HasTag}
use Rattle.lt_tag.proofs.OneTagLemmas.{one_tag_of_text}
use Rattle.lt_registry.specs.Parts.{EntryParts}
use Rattle.lt_registry.specs.Validity.{IsValid}
use Rattle.lt_rewrite.specs.TagSteps.{AreEquivalent}
use Rattle.lt_check.specs.Conditions.{IsChecked}
use Rattle.lt_canon.specs.ExtlangForm.{extlang_form, IsExtlangFormOf}
use Rattle.lt_canon.proofs.CanonicalForms.{extlang_answer}
use Rattle.lt_canon.proofs.RepeatedVariants.{canonical_or_repeats, repeat_together, equivalence_is_equality}
use Rattle.lt_canon.proofs.EndForms.{equivalent_sym, equivalent_trans, star_equivalent}
use Rattle.lt_range.specs.Ranges.{RangeParts, range_of_tag}
use Rattle.lt_range.specs.Matched.{AnyMatches, AreRangesOf, HasSubtags, IsRangeOfText, MatchesAs}
use Rattle.lt_range.specs.Matching.{MatchesBy}
use Rattle.lt_range.specs.Laws.{EquivalentTagsMatchAlike, EquivalentRangesMatchAlike}
use Rattle.lt_range.specs.Laws.{MatchesOnlyAsSpelled, MatchingIsDetermined}
use Rattle.lt_range.specs.Spellings.{AreOthers, first_of, HasSpellings, MatchesSome, Spellings}
use Rattle.lt_range.specs.declared.matching.Scheme.{Scheme}
use Rattle.lt_range.proofs.SpellingLemmas.{one_canonical, one_others}

-- the list is the subtags of a valid tag that is equivalent to `t`
pub record IsSpellingOf (R : List EntryParts) (t : TagForm) (list : List (List ℕ)) : Type 0 where
  pub tag : TagForm
  pub valid : IsValid R tag
  pub equivalent : AreEquivalent R t tag
  pub is : list ≡ spell tag

module _ (R : List EntryParts) (C : IsChecked R) where
  -- equivalent valid tags have the same spellings
  pub same_spellings : (t u : TagForm) (lists : Spellings) → IsValid R u → AreEquivalent R t u → HasSpellings R t lists
      → HasSpellings R u lists
  same_spellings t u lists W e h = elim (canonical_or_repeats R C u W) [
    | inl d ↦
        let one : h.is_form.canonical ≡ d.0 = (equivalence_is_equality R C).equal t u h.is_form.canonical d.0
        h.is_form.canonical_form d.1 e in
        let form : IsExtlangFormOf R u h.form = extlang_answer R C u d.0 h.form d.1 (h.is_form.is ∙ ap (extlang_form R) one) in
        let same : h.is_form.canonical ≡ form.canonical = one ∙ one_canonical R C u d.0 form.canonical d.1 form.canonical_form in
        record {
          form = h.form;
          is_form = form;
          others = h.others;
          are_others = subst (λ (c : TagForm). AreOthers R c R h.others) same h.are_others;
          spelled = h.spelled;
        }
    | inr r ↦ absurd (h.is_form.canonical_form.repeats_none (repeat_together R C u t W h.is_form.canonical_form.valid (equivalent_sym e) r))
  ]

  -- equivalent valid tags match the same ranges, by each scheme
  pub equivalent_tags : EquivalentTagsMatchAlike R
  equivalent_tags scheme text t u W e m = record {
    ranges = m.ranges;
    are_ranges = m.are_ranges;
    lists = m.lists;
    has = same_spellings t u m.lists W e m.has;
    matches = m.matches;
  }

  -- a text that is read as `t` has the spellings of `t`
  pub spellings_of_text : (text : List ℕ) (t : TagForm) (lists : Spellings) → HasTag text t → HasSubtags R text lists
      → HasSpellings R t lists
  spellings_of_text text t lists read h = subst (λ (x : TagForm). HasSpellings R x lists) (one_tag_of_text text h.tag t h.read read) h.holds

  -- if the texts `a` and `b` are read as equivalent valid tags, the ranges by which `a` matches are those by which `b`
  -- does
  same_ranges : (a b : List ℕ) (t u : TagForm) (ranges : List RangeParts) → HasTag a t → HasTag b u → IsValid R t
      → IsValid R u → AreEquivalent R t u → AreRangesOf R a ranges → AreRangesOf R b ranges
  same_ranges a b t u ranges h k V W e (inl c) = inl (record {
    lists = c.lists;
    has = record { tag = u; read = k; holds = same_spellings t u c.lists W e (spellings_of_text a t c.lists h c.has) };
    are = c.are;
  })
  same_ranges a b t u ranges h k V W e (inr n) = absurd (n.0 t h V)

  -- the ranges of equivalent valid tags match the same tags, by each scheme
  pub equivalent_ranges : EquivalentRangesMatchAlike R
  equivalent_ranges scheme a b t u v h k V W e m = record {
    ranges = m.ranges;
    are_ranges = same_ranges a b t u m.ranges h k V W e m.are_ranges;
    lists = m.lists;
    has = m.has;
    matches = m.matches;
  }

  -- a tag is equivalent to its extlang form
  form_equivalent : (t form : TagForm) → IsExtlangFormOf R t form → AreEquivalent R t form
  form_equivalent t form h = equivalent_trans (star_equivalent h.canonical_form.reached) (equivalent_sym (star_equivalent h.back.reached))

  -- each of the other spellings of the canonical form of a tag is equivalent to the tag
  others_spelled : (t c : TagForm) (es : List EntryParts) (lists : Spellings) → AreEquivalent R t c → AreOthers R c es lists
      → AllByRecursion (IsSpellingOf R t) lists
  others_spelled t c [] lists e h = subst (λ (l : Spellings). AllByRecursion (IsSpellingOf R t) l) (sym h) tt
  others_spelled t c (x ∷ xs) lists e (inl h) =
      let w = h.1.form in
      let here : IsSpellingOf R t (spell h.0) = record {
        tag = h.0;
        valid = w.valid;
        equivalent = equivalent_trans e (equivalent_sym (star_equivalent w.reached));
        is = refl;
      } in
      subst (λ (l : Spellings). AllByRecursion (IsSpellingOf R t) l) (sym h.2.1) (here, others_spelled t c xs h.2.0 e h.2.2)
  others_spelled t c (x ∷ xs) lists e (inr h) = others_spelled t c xs lists e h.1

  -- each spelling of a tag is equivalent to the tag
  all_spelled : (t : TagForm) (lists : Spellings) → HasSpellings R t lists → AllByRecursion (IsSpellingOf R t) lists
  all_spelled t lists h =
      let first : IsSpellingOf R t (spell h.form) = record {
        tag = h.form;
        valid = h.is_form.valid;
        equivalent = form_equivalent t h.form h.is_form;
        is = refl;
      } in
      subst (λ (l : Spellings). AllByRecursion (IsSpellingOf R t) l) (sym h.spelled)
      (first, others_spelled t h.is_form.canonical R h.others (star_equivalent h.is_form.canonical_form.reached) h.are_others)

  -- a range that matches one of the spellings of a tag matches a valid tag that is equivalent to it
  some_tag : (M : RangeParts → List (List ℕ) → Type 0) (range : RangeParts) (t : TagForm) (lists : Spellings)
      → AllByRecursion (IsSpellingOf R t) lists → MatchesSome M range lists
      → (list : List (List ℕ)) × IsSpellingOf R t list × M range list
  some_tag M range t [] s m = absurd m
  some_tag M range t (l ∷ ls) s (inl m) = (l, s.0, m)
  some_tag M range t (l ∷ ls) s (inr m) = some_tag M range t ls s.1 m

  -- if one of the ranges of the spellings of a tag matches, that of a valid tag does that is equivalent to it
  some_range : (scheme : Scheme) (t : TagForm) (own lists : Spellings) → AllByRecursion (IsSpellingOf R t) own
      → AnyMatches scheme (map range_of_tag own) lists
      → (list : List (List ℕ)) × IsSpellingOf R t list × MatchesSome (MatchesBy scheme) (range_of_tag list) lists
  some_range scheme t [] lists s m = absurd m
  some_range scheme t (l ∷ ls) lists s (inl m) = (l, s.0, m)
  some_range scheme t (l ∷ ls) lists s (inr m) = some_range scheme t ls lists s.1 m

  -- the text of a valid tag matches only by the ranges of the tag's spellings
  tag_ranges : (text : List ℕ) (t : TagForm) (ranges : List RangeParts) → HasTag text t → IsValid R t
      → AreRangesOf R text ranges → (lists : Spellings) × HasSpellings R t lists × (ranges ≡ map range_of_tag lists)
  tag_ranges text t ranges read V (inl c) = (c.lists, spellings_of_text text t c.lists read c.has, c.are)
  tag_ranges text t ranges read V (inr n) = absurd (n.0 t read V)

  -- what the ranges of a valid tag match, valid tags that are equivalent to the two match as they are written
  pub only_as_spelled : MatchesOnlyAsSpelled R
  only_as_spelled scheme text t u read V m =
      let r = tag_ranges text t m.ranges read V m.are_ranges in
      let own = some_range scheme t r.0 m.lists (all_spelled t r.0 r.1)
      (subst (λ (x : List RangeParts). AnyMatches scheme x m.lists) r.2 m.matches) in
      let other = some_tag (MatchesBy scheme) (range_of_tag own.0) u m.lists (all_spelled u m.lists m.has) own.2 in
      let written : MatchesBy scheme (range_of_tag (spell own.1.tag)) other.0 =
      subst (λ (l : List (List ℕ)). MatchesBy scheme (range_of_tag l) other.0) own.1.is other.2 in
      record {
        range = own.1.tag;
        range_valid = own.1.valid;
        range_equivalent = own.1.equivalent;
        tag = other.1.tag;
        tag_valid = other.1.valid;
        tag_equivalent = other.1.equivalent;
        matches = subst (λ (l : List (List ℕ)). MatchesBy scheme (range_of_tag (spell own.1.tag)) l) other.1.is written;
      }

  -- a tag has one list of spellings
  one_list : (t : TagForm) (a b : Spellings) → HasSpellings R t a → HasSpellings R t b → a ≡ b
  one_list t a b h k =
      let one : h.is_form.canonical ≡ k.is_form.canonical = one_canonical R C t h.is_form.canonical k.is_form.canonical
      h.is_form.canonical_form k.is_form.canonical_form in
      let forms : h.form ≡ k.form = h.is_form.is ∙ ap (extlang_form R) one ∙ sym k.is_form.is in
      let others : h.others ≡ k.others = one_others R C k.is_form.canonical R h.others k.others
      (subst (λ (c : TagForm). AreOthers R c R h.others) one h.are_others) k.are_others in
      h.spelled ∙ ap (λ (f : TagForm). spell f ∷ h.others) forms ∙ ap (λ (o : Spellings). spell k.form ∷ o) others ∙ sym k.spelled

  -- a text has one list of spellings
  one_of_text : (text : List ℕ) (a b : Spellings) → HasSubtags R text a → HasSubtags R text b → a ≡ b
  one_of_text text a b h k = one_list k.tag a b (spellings_of_text text k.tag a k.read h) k.holds

  -- one range matches in place of one that is no valid tag
  one_in_place : (wild : Bool) (named : List (List ℕ)) (a b : RangeParts) → MatchesAs R wild named a → MatchesAs R wild named b → a ≡ b
  one_in_place true named a b h k = h ∙ sym k
  one_in_place false [] a b h k = h ∙ sym k
  one_in_place false (s ∷ ss) a b (inl h) (inl k) = h.2
      ∙ ap (λ (l : Spellings). range_of_tag (first_of l ++ ss)) (one_of_text s h.0 k.0 h.1 k.1) ∙ sym k.2
  one_in_place false (s ∷ ss) a b (inl h) (inr k) = absurd (k.0 h.0 h.1)
  one_in_place false (s ∷ ss) a b (inr h) (inl k) = absurd (h.0 k.0 k.1)
  one_in_place false (s ∷ ss) a b (inr h) (inr k) = h.1 ∙ sym k.1

  -- one range matches in place of a text that is no valid tag
  one_as_written : (text : List ℕ) (a b : RangeParts) → IsRangeOfText R text a → IsRangeOfText R text b → a ≡ b
  one_as_written text a b h k =
      let e : Ok h.written ≡ Ok k.written = sym h.read ∙ k.read in
      let one : h.written ≡ k.written = cc in
      one_in_place k.written.wild k.written.named a b (subst (λ (w : RangeParts). MatchesAs R w.wild w.named a) one h.matches) k.matches

  -- a text matches by one list of ranges
  one_ranges : (text : List ℕ) (a b : List RangeParts) → AreRangesOf R text a → AreRangesOf R text b → a ≡ b
  one_ranges text a b (inl h) (inl k) = h.are ∙ ap (map range_of_tag) (one_of_text text h.lists k.lists h.has k.has) ∙ sym k.are
  one_ranges text a b (inl h) (inr k) = absurd (k.0 h.has.tag h.has.read h.has.holds.is_form.canonical_form.valid)
  one_ranges text a b (inr h) (inl k) = absurd (h.0 k.has.tag k.has.read k.has.holds.is_form.canonical_form.valid)
  one_ranges text a b (inr h) (inr k) = h.1.1 ∙ ap (λ (r : RangeParts). r ∷ []) (one_as_written text h.1.0 k.1.0 h.1.2 k.1.2) ∙ sym k.1.1

  -- the entries determine the spellings of a tag, and the ranges by which a text matches
  pub determined : MatchingIsDetermined R
  determined = record { list = one_list; range = one_ranges }

-- A text that is no valid tag matches by the range that it is, with its first subtag in its extlang form, if this by
-- itself is a tag that has one. `append_ranges` and `known_subtags` need this: when a text is no valid tag, and which
-- range or refusal follows.
use Rattle.std.proofs.Common.{◌≡◌, ◌∙◌, ◌∷◌, ◌++◌, false, ℕ, inl, inr, List, [], Ok, Err, IfOk, IfErr, refl, sym, subst}
use Rattle.std.specs.Prelude.{OnOk, Result}
use Rattle.lt_tag.specs.Parts.{TagForm}
use Rattle.lt_tag.proofs.OneTagLemmas.{one_tag_of_text}
use Rattle.lt_tag.specs.declared.faults.TagFault.{TagFault}
use Rattle.lt_registry.specs.Parts.{EntryParts}
use Rattle.lt_registry.specs.Validity.{IsValid}
use Rattle.lt_rewrite.specs.TagSteps.{CanRepeat}
use Rattle.lt_registry.specs.declared.faults.ValidFault.{ValidFault}
use Rattle.lt_tag.specs.declared.faults.OutOfMemory.{OutOfMemory}
use Rattle.lt_canon.specs.Texts.{IsTextRefusal}
use Rattle.lt_canon.specs.declared.refusals.TextRefusal.{TextRefusal}
use Rattle.lt_canon.specs.declared.refusals.TextRefusal.TheVariants as texts
use Rattle.lt_canon.proofs.CanonicalForms.{text_repeats_answered}
use Rattle.lt_range.specs.Ranges.{RangeParts, range_of_tag}
use Rattle.lt_range.specs.Matched.{AreRangesOf, HasNoSubtags, HasSubtags, IsNoValidTag, IsRangeOfText, MatchesAs}
use Rattle.lt_range.specs.Spellings.{first_of, Spellings}
use Rattle.lt_range.specs.Refusals.{IsRangeRefusal, IsPlainRefusal}
use Rattle.lt_range.specs.declared.refusals.RangeRefusal.{RangeRefusal}
use Rattle.lt_range.specs.declared.refusals.RangeRefusal.TheVariants as refusals

module _ (R : List EntryParts) (text : List ℕ) where
  -- a text that is refused as no tag is no valid tag
  pub unread : (refusal : TextRefusal) (fault : TagFault) → refusal ≡ texts.NotATag fault → IsTextRefusal R text refusal
      → IsNoValidTag R text
  unread refusal fault is h = λ tag read valid.
      text_repeats_answered R text (texts.NotATag fault) (subst (λ (r : TextRefusal). IsTextRefusal R text r) is h) tag read

  -- a text that is refused as a tag that is not valid is no valid tag
  pub unvalid : (refusal : TextRefusal) (fault : ValidFault) → refusal ≡ texts.Invalid fault
      → IsTextRefusal R text refusal → IsNoValidTag R text
  unvalid refusal fault is h = λ tag read valid.
      let other = text_repeats_answered R text (texts.Invalid fault) (subst (λ (r : TextRefusal). IsTextRefusal R text r) is h) in
      other.2 (subst (λ (t : TagForm). IsValid R t) (one_tag_of_text text tag other.0 read other.1) valid)

  -- a text that is refused is no tag that has an extlang form
  refused_none : (refusal : TextRefusal) → IsTextRefusal R text refusal → (refusal ≡ texts.OutOfMemory → ⊥) → HasNoSubtags R text
  refused_none (texts.NotATag fault) owed other = λ list h. text_repeats_answered R text (texts.NotATag fault) owed h.tag h.read
  refused_none (texts.Invalid fault) owed other = λ list h. unvalid (texts.Invalid fault) fault refl owed h.tag h.read
      h.holds.is_form.canonical_form.valid
  refused_none (texts.ReplacementRepeats v) owed other = λ list h.
      let a = text_repeats_answered R text (texts.ReplacementRepeats v) owed in
      h.holds.is_form.canonical_form.repeats_none (subst (λ (t : TagForm). CanRepeat R t) (one_tag_of_text text a.0 h.tag a.1 h.read) a.3)
  refused_none texts.OutOfMemory owed other = absurd (other refl)

  -- a text that is refused, but not for lack of memory, is no tag that has an extlang form; `kind` is the refusal as
  -- the program tells it apart
  pub none_of : (refusal kind : TextRefusal) → refusal ≡ kind → IsTextRefusal R text refusal
      → (kind ≡ texts.OutOfMemory → ⊥) → HasNoSubtags R text
  none_of refusal kind is owed other = refused_none refusal owed (λ e. other (sym is ∙ e))

  -- if the range of a text that is no valid tag was added to `old`, the text matches by what was added
  pub plain_ok : (r : Result (Unit {0}) RangeRefusal) (old new : List RangeParts) → IsNoValidTag R text
      → OnOk r ((range : RangeParts) × (new ≡ old ++ range ∷ []) × IsRangeOfText R text range)
      → OnOk r ((more : List RangeParts) × (new ≡ old ++ more) × AreRangesOf R text more)
  plain_ok (Ok u) old new n h = (h.0 ∷ [], h.1, inr (n, (h.0, refl, h.2)))
  plain_ok (Err refusal) old new n h = tt

  -- if `r` is why a text that is no valid tag is no range, the text is refused so
  pub plain_err : (r : Result (Unit {0}) RangeRefusal) → IsNoValidTag R text → IfErr r (IsPlainRefusal text)
      → IfErr r (λ refusal. IsRangeRefusal R text refusal)
  plain_err (Ok u) n h = tt
  plain_err (Err (refusals.NotARange fault)) n h = (n, h)
  plain_err (Err (refusals.ReplacementRepeats v)) n h = absurd h
  plain_err (Err refusals.OutOfMemory) n h = tt

-- if the first subtag of a range by itself is a tag with the spellings `lists`, the range with the first of these in its
-- place is the one that matches
pub some_as : (R : List EntryParts) (written : RangeParts) (s : List ℕ) (ss : List (List ℕ)) (lists : Spellings)
    (r : Result RangeParts OutOfMemory) → written.wild ≡ false → written.named ≡ s ∷ ss
    → HasSubtags R s lists → IfOk r (λ range. range ≡ range_of_tag (first_of lists ++ ss))
    → IfOk r (λ range. MatchesAs R written.wild written.named range)
some_as R written s ss lists (Ok range) w n has is =
    let here : MatchesAs R false (s ∷ ss) range = inl (lists, has, is) in
    rw (w, n) here
some_as R written s ss lists (Err e) w n has is = tt

-- if the first subtag of a range by itself is no such tag, the range matches as it is
pub none_as : (R : List EntryParts) (written : RangeParts) (s : List ℕ) (ss : List (List ℕ)) → written.wild ≡ false
    → written.named ≡ s ∷ ss → HasNoSubtags R s
    → MatchesAs R written.wild written.named written
none_as R written s ss w n none =
    let here : MatchesAs R false (s ∷ ss) (range_of_tag (s ∷ ss)) = inr (none, refl) in
    rw (w, n) here

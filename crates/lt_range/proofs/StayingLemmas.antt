-- A text whose subtags *stay* as they are, and whose language is no extlang too, is matched by its own subtags:
-- `staying_subtags` needs this.
use Rattle.std.proofs.Common.{◌≡◌, [], ◌∷◌, ℕ, false, List, Option, None, Some, is_some, refl, sym, subst}
use Rattle.std.specs.Option.{option_map_or}
use Rattle.lt_tag.specs.Conventional.{conventional}
use Rattle.lt_tag.specs.Faults.{HasList}
use Rattle.lt_tag.specs.Laws.{TextOfTagHasItsList}
use Rattle.lt_tag.specs.Lists.{list_of}
use Rattle.lt_tag.specs.Values.{core_alone}
use Rattle.lt_registry.specs.Entries.{is_registered}
use Rattle.lt_registry.specs.Parts.{EntryParts}
use Rattle.lt_registry.specs.declared.entries.Kind.TheVariants as kinds
use Rattle.lt_check.specs.Conditions.{IsChecked}
use Rattle.lt_check.specs.Staying.{IsStaying}
use Rattle.lt_canon.specs.ExtlangForm.{prefix_of}
use Rattle.lt_canon.proofs.CanonicalForms.{prefixless_extlang}
use Rattle.lt_canon.proofs.StayingTags.{stays_canonical}
use Rattle.lt_range.specs.OtherSpellings.{StaysAs}

-- a language without an entry as an extlang has no Prefix
no_prefix : (found : Option EntryParts) → is_some found ≡ false
    → None ≡ prefix_of (option_map_or (λ (e : EntryParts). e.prefixes) found [])
no_prefix None none = refl
no_prefix (Some e) none = cc

module _ (R : List EntryParts) (text : List ℕ) (stay : IsStaying R text) where
  -- the text in conventional case has the same list of subtags as the text
  pub shown_listed : TextOfTagHasItsList → HasList (conventional (list_of text)) × (list_of (conventional (list_of text)) ≡ list_of text)
  shown_listed law =
      subst (λ (ss : List (List ℕ)). HasList (conventional ss) × (list_of (conventional ss) ≡ ss)) stay.1.read.spelled
      (law (core_alone stay.0) stay.1.read.tag)

  -- if its language is registered as no extlang, the text stays as it is
  pub stays_as : IsChecked R
      → ((s : List ℕ) (ss : List (List ℕ)) → list_of text ≡ s ∷ ss → is_registered R kinds.Extlang s ≡ false)
      → StaysAs R text (list_of text)
  stays_as C none =
      let c = stay.0 in
      let t = core_alone c in
      let no : is_registered R kinds.Extlang c.language ≡ false = none c.language _ (sym stay.1.read.spelled) in
      record {
        tag = t;
        read = stay.1.read;
        canonical = stays_canonical R text c stay.1 C;
        form = prefixless_extlang R t c refl (no_prefix _ no);
        spelled = sym stay.1.read.spelled;
      }

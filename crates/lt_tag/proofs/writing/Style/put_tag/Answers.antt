use Rattle.std.proofs.Common.{◌≡◌, ◌-◌, ◌++◌, ℕ, [], ◌∷◌, refl, sym, ap, ◌∙◌, arith}
use Rattle.std.specs.Prelude.{Some, slice_index_or}
use Rattle.std.proofs.lemmas.Bool.Decides.{nat_tests}
use Rattle.std.proofs.lemmas.Result.{IfOk-weaker}
use Rattle.lt_tag.specs.Parts.{TagForm, LangTag, PrivateUse, Grandfathered}
use Rattle.lt_tag.specs.Lists.{pieces}
use Rattle.lt_tag.specs.Grandfathered.{grandfathered_texts, grandfathered_list}
use Rattle.lt_tag.specs.Spelling.{spell_extensions, spell_private}
use Rattle.lt_tag.specs.Values.{IsTagValue, core_of, extensions_of, private_of, number_of}
use Rattle.lt_tag.specs.WellFormed.{spell}
use Rattle.lt_tag.proofs.PrintingLemmas.{prints_append, prints_as}
use Rattle.lt_tag.proofs.writing.Style.put_tag.Goals as goal
use Rattle.lt_tag.specs.Splitting.{spell_source}

-- a grandfathered tag spells the pieces of its text
spelled : (form : TagForm) (number : ℕ) → Some number ≡ number_of form
    → pieces (slice_index_or grandfathered_texts (number - 1) []) ≡ spell form
unfolding grandfathered_list
spelled form number e = grind (arith, nat_tests)

-- the pieces of the text of a grandfathered tag are printed
pub returns-in-Some-clause-put : goal.returns-in-Some-clause-put
returns-in-Some-clause-put g c =
    IfOk-weaker c.put_pieces.result _ _
    (λ u last. prints_as (ap pieces c.text_of.ensures ∙ spelled c.args.tag.now c.in-Some.number (sym c.in-Some.is
    ∙ c.grandfathered.ensures.value)) last)
    c.put_pieces.ensures.put

-- any other tag spells its core, its extensions and its private use, of which some may be missing
parts_spelled : (form : TagForm) → IsTagValue form → ((number : ℕ) → number_of form ≡ Some number → ⊥)
    → spell_source (core_of form) ++ (spell_extensions (extensions_of form) ++ spell_private (private_of form)) ≡ spell form
parts_spelled (LangTag core extensions private) value other = refl
parts_spelled (PrivateUse []) value other = absurd (omega (arith, value.tag.some))
parts_spelled (PrivateUse (s ∷ ss)) value other = refl
parts_spelled (Grandfathered number) value other = absurd (other number refl)

-- any other tag is printed part by part
pub returns-clause-put : goal.returns-clause-put
returns-clause-put g c =
    IfOk-weaker c.put_private.result _ _
    (λ u last. prints_as (rw (c.core.ensures.value, c.extensions.ensures.value, c.private.ensures.value)
    (parts_spelled c.args.tag.now c.core.ensures.tag
    (λ number e. c.in_default.not-Some number (c.grandfathered.ensures.value ∙ e))))
    (prints_append c.in_ok-put_optional_core.ensures.put (prints_append c.in_ok-put_extensions.ensures.put last)))
    c.put_private.ensures.put

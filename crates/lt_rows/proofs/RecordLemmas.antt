-- One half of the law `records_are_those_of_the_grammar`: no line feed outside of quotes parts a record of the grammar
-- of RFC 4180, and it does not end within quotes. GrammarLemmas has the other half.
use Rattle.std.proofs.Common.{refl, ◌≡◌, ◌≢◌, ◌++◌, [], ◌∷◌, ◌∙◌, ℕ, true, false, List, ap, subst, sym, inl, inr}
use Rattle.std.proofs.Common.{append_assoc, ne_eqb, arith}
use Rattle.std.specs.List.{AllByRecursion}
use Rattle.lt_rows.specs.Quotes.{IsFreeOutside, is_quoted, place_after, place_at}
use Rattle.lt_rows.specs.Records.{IsBody, IsClosedRecord, IsCsvField, IsCsvRecord, IsPlain, IsPlainField, further}
use Rattle.lt_rows.specs.declared.quotes.Place.{Place}
use Rattle.lt_rows.specs.declared.quotes.Place.TheVariants as places
use Rattle.lt_rows.proofs.GrammarLemmas.{outside_delimiter, outside_other}

-- lemmas on CSV whose delimiter is the byte d, which is neither a quote (34) nor a line feed (10)
module _ (d : ℕ) (unquoted : d ≢ 34) (fed : d ≢ 10) where
  -- a good text: its line feeds (10) are all within quotes, and its end is not, if its first byte stands at this place
  record IsGood (place : Place) (text : List ℕ) : Type 0 where
    pub free : IsFreeOutside d 10 place text
    pub closed : is_quoted (place_at d place text) ≡ false

  -- a byte in front of a good text, which begins at the place `next`, makes a good one, unless it is a line feed (10)
  -- outside of quotes
  one_more : (place next : Place) (byte : ℕ) (text : List ℕ) → place_after d place byte ≡ next
      → (byte ≡ 10 → is_quoted place ≡ true) → IsGood next text → IsGood place (byte ∷ text)
  one_more place next byte text step free g = record {
    free = (free, subst (λ p. IsFreeOutside d 10 p text) (sym step) g.free);
    closed = subst (λ p. is_quoted (place_at d p text) ≡ false) (sym step) g.closed;
  }

  -- plain text in front of a text that is good at a plain place makes a good one
  plain_good : (text more : List ℕ) → IsPlain d text → IsGood places.Plain more → IsGood places.Plain (text ++ more)
  plain_good [] more is g = g
  plain_good (byte ∷ text) more is g =
      one_more places.Plain places.Plain byte (text ++ more) (outside_other d unquoted byte is.0 is.1)
      (λ e. absurd (is.1 e)) (plain_good text more is.2 g)

  -- a plain field in front of a text that is good at a fresh place, since the field may be empty, and at a plain one
  -- makes a good text
  plain_field_good : (text more : List ℕ) → IsPlainField d text → IsGood places.Fresh more → IsGood places.Plain more
      → IsGood places.Fresh (text ++ more)
  plain_field_good [] more is fresh plain = fresh
  plain_field_good (byte ∷ text) more is fresh plain =
      one_more places.Fresh places.Plain byte (text ++ more)
      (rw (ne_eqb byte 34 is.0) (outside_other d unquoted byte is.1.0 is.1.1)) (λ e. absurd (is.1.1 e))
      (plain_good text more is.1.2 plain)

  -- text between a field's quotes, and the quote (34) that closes it, in front of a good text make a good text
  body_good : (body more : List ℕ) → IsBody body → IsGood places.Fresh more → IsGood places.Quoted (body ++ 34 ∷ more)
  body_good [] more is g = one_more places.Quoted places.Fresh 34 more refl (λ _. refl) g
  body_good (byte ∷ []) more is g =
      one_more places.Quoted places.Quoted byte (34 ∷ more) (rw (ne_eqb byte 34 is) refl) (λ _. refl) (body_good [] more tt g)
  body_good (byte ∷ next ∷ body) more (inl is) g =
      one_more places.Quoted places.Quoted byte (next ∷ body ++ 34 ∷ more) (rw (ne_eqb byte 34 is.0) refl) (λ _. refl)
      (body_good (next ∷ body) more is.1 g)
  body_good (byte ∷ next ∷ body) more (inr is) g =
      one_more places.Quoted places.Fresh byte (next ∷ body ++ 34 ∷ more) (rw is.0 refl) (λ _. refl)
      (one_more places.Fresh places.Quoted next (body ++ 34 ∷ more) (rw is.1 refl) (λ e. absurd (never next is.1 e))
      (body_good body more is.2 g))
    where
      never : (byte : ℕ) → byte ≡ 34 → byte ≡ 10 → ⊥
      never byte quote feed = omega (arith, quote, feed)

  -- a field in front of a text that is good at a fresh place and at a plain one makes a good text
  field_good : (field more : List ℕ) → IsCsvField d field → IsGood places.Fresh more → IsGood places.Plain more
      → IsGood places.Fresh (field ++ more)
  field_good field more (inl is) fresh plain = plain_field_good field more is fresh plain
  field_good field more (inr is) fresh plain = subst (IsGood places.Fresh)
      (sym (ap (λ l. l ++ more) is.field_is ∙ ap (λ l. 34 ∷ l) (append_assoc is.body (34 ∷ is.rest) more)))
      (one_more places.Fresh places.Quoted 34 (is.body ++ 34 ∷ (is.rest ++ more)) refl (λ e. absurd (omega (arith, e)))
      (body_good is.body (is.rest ++ more) is.is_body (plain_field_good is.rest more is.is_rest fresh plain)))

  -- further fields, which are empty or begin with a delimiter, are good text at a fresh place and at a plain one
  further_good : (fields : List (List ℕ)) → AllByRecursion (IsCsvField d) fields
      → IsGood places.Fresh (further d fields) × IsGood places.Plain (further d fields)
  further_good [] each = (record { free = tt; closed = refl }, record { free = tt; closed = refl })
  further_good (field ∷ fields) each =
      let more = further_good fields each.1 in
      let one = field_good field (further d fields) each.0 more.0 more.1 in (
        one_more places.Fresh places.Fresh d (field ++ further d fields)
            (rw (ne_eqb d 34 unquoted) (outside_delimiter d unquoted)) (λ e. absurd (fed e)) one,
        one_more places.Plain places.Fresh d (field ++ further d fields) (outside_delimiter d unquoted) (λ e. absurd (fed e)) one,
      )

  -- a record of the grammar has line feeds (10) only within quotes, and ends outside of quotes
  pub record_is_closed : (text : List ℕ) → IsCsvRecord d text → IsClosedRecord d text
  record_is_closed text r =
      let more = further_good r.others r.are_others in
      let g = subst (IsGood places.Fresh) (sym r.text_is) (field_good r.first (further d r.others) r.is_first more.0 more.1) in
      record { free = g.free; closed = g.closed }

-- One half of the law `records_are_those_of_the_grammar`: a text that no line feed outside of quotes parts, and that
-- does not end within quotes, is a record of the grammar of RFC 4180. RecordLemmas has the other half.
use Rattle.std.proofs.Common.{refl, ◌≡◌, ◌≢◌, ◌++◌, [], ◌∷◌, ◌∙◌, ◌⊎◌, ℕ, true, false, List, sym, ap, subst, inl, inr}
use Rattle.std.proofs.Common.{append_assoc, ne_eqb, ◌==◌, ◌||◌, if◌then◌else◌}
use Rattle.std.specs.List.{AllByRecursion}
use Rattle.std.proofs.lemmas.Bool.{cases_eq, eq-eqb}
use Rattle.lt_rows.specs.Quotes.{IsFreeOutside, is_quoted, place_after, place_at, place_outside}
use Rattle.lt_rows.specs.Records.{IsBody, IsClosedRecord, IsCsvField, IsCsvRecord, IsPlain, IsPlainField, further}
use Rattle.lt_rows.specs.declared.quotes.Place.{Place}
use Rattle.lt_rows.specs.declared.quotes.Place.TheVariants as places

-- text between a field's quotes stays such text with a byte in front of it that is no quote (34)
body-cons : (byte : ℕ) (body : List ℕ) → byte ≢ 34 → IsBody body → IsBody (byte ∷ body)
body-cons byte [] other is = other
body-cons byte (next ∷ body) other is = inl (other, is)

-- lemmas on CSV whose delimiter is the byte d, which is no quote (34)
module _ (d : ℕ) (unquoted : d ≢ 34) where
  -- the text is fields, each with a delimiter before it
  record IsFurther (text : List ℕ) : Type 0 where
    pub fields : List (List ℕ)
    pub each : AllByRecursion (IsCsvField d) fields
    pub text_is : text ≡ further d fields

  -- the text is the rest of a plain field, and then further fields
  record HasPlain (text : List ℕ) : Type 0 where
    pub plain : List ℕ
    pub more : List ℕ
    pub text_is : text ≡ plain ++ more
    pub is_plain : IsPlain d plain
    pub others : IsFurther more

  -- the text is a plain field, and then further fields
  record HasPlainField (text : List ℕ) : Type 0 where
    pub plain : List ℕ
    pub more : List ℕ
    pub text_is : text ≡ plain ++ more
    pub is_plain : IsPlainField d plain
    pub others : IsFurther more

  -- the text is the rest of what is between a field's quotes, the quote (34) that closes it, plain text, and then
  -- further fields
  record HasBody (text : List ℕ) : Type 0 where
    pub body : List ℕ
    pub rest : List ℕ
    pub more : List ℕ
    pub text_is : text ≡ body ++ 34 ∷ (rest ++ more)
    pub is_body : IsBody body
    pub is_rest : IsPlainField d rest
    pub others : IsFurther more

  -- the text is a quote (34), and then what such a quote opens
  record HasQuote (text : List ℕ) : Type 0 where
    pub inner : List ℕ
    pub text_is : text ≡ 34 ∷ inner
    pub has : HasBody inner

  -- what the text is read as, by the place where its first byte stands
  abbrev Parsed : Place → List ℕ → Type 0
  Parsed places.Fresh text = HasPlainField text ⊎ HasQuote text
  Parsed places.Plain text = HasPlain text
  Parsed places.Quoted text = HasBody text

  -- the empty text has no further fields
  none : IsFurther []
  none = record { fields = []; each = tt; text_is = refl }

  -- a text that begins with a field is a record
  as_record : (text : List ℕ) → HasPlainField text ⊎ HasQuote text → IsCsvRecord d text
  as_record text (inl p) = record {
    first = p.plain;
    others = p.others.fields;
    is_first = inl p.is_plain;
    are_others = p.others.each;
    text_is = p.text_is ∙ ap (λ l. p.plain ++ l) p.others.text_is;
  }
  as_record text (inr q) = record {
    first = 34 ∷ q.has.body ++ 34 ∷ q.has.rest;
    others = q.has.others.fields;
    is_first = inr (record { body = q.has.body; rest = q.has.rest; field_is = refl; is_body = q.has.is_body; is_rest = q.has.is_rest });
    are_others = q.has.others.each;
    text_is = q.text_is
        ∙ ap (λ l. 34 ∷ l) (q.has.text_is ∙ ap (λ l. q.has.body ++ 34 ∷ (q.has.rest ++ l)) q.has.others.text_is
        ∙ sym (append_assoc q.has.body (34 ∷ q.has.rest) (further d q.has.others.fields)));
  }

  -- a text that begins with a field, with a delimiter in front of it, is further fields
  from_delimiter : (text : List ℕ) → HasPlainField text ⊎ HasQuote text → IsFurther (d ∷ text)
  from_delimiter text p =
      let r = as_record text p in
      record { fields = r.first ∷ r.others; each = (r.is_first, r.are_others); text_is = ap (λ l. d ∷ l) r.text_is }

  -- after a delimiter outside of quotes a field begins
  pub outside_delimiter : place_outside d d ≡ places.Fresh
  outside_delimiter = elim (d == 10) as (λ t. (if t || (d == d) then places.Fresh else places.Plain) ≡ places.Fresh)
      [ true ↦ refl | false ↦ ap (λ t. if t then places.Fresh else places.Plain) (eq-eqb d d refl) ]

  -- after a byte outside of quotes that is neither a delimiter nor a line feed (10), a field goes on plain
  pub outside_other : (byte : ℕ) → byte ≢ d → byte ≢ 10 → place_outside d byte ≡ places.Plain
  outside_other byte other feed = rw (ne_eqb byte 10 feed, ne_eqb byte d other) refl

  -- a text whose line feeds (10) are all within quotes, and whose end is not, is read as `Parsed` says, from any place
  -- on
  parsed : (place : Place) (text : List ℕ) → IsFreeOutside d 10 place text → is_quoted (place_at d place text) ≡ false → Parsed place text
  parsed places.Fresh [] free closed = inl (record { plain = []; more = []; text_is = refl; is_plain = tt; others = none })
  parsed places.Plain [] free closed = record { plain = []; more = []; text_is = refl; is_plain = tt; others = none }
  parsed places.Quoted [] free closed = let bad : true ≡ false = closed in cc
  parsed places.Fresh (byte ∷ text) free closed = elim (cases_eq byte 34) [
    | inl quote ↦
        let next : place_after d places.Fresh byte ≡ places.Quoted = rw quote refl in
        inr (record {
          inner = text;
          text_is = ap (λ b. b ∷ text) quote;
          has = parsed places.Quoted text
              (subst (λ p. IsFreeOutside d 10 p text) next free.1)
              (subst (λ p. is_quoted (place_at d p text) ≡ false) next closed);
        })
    | inr other ↦ inl (elim (cases_eq byte d) [
      | inl same ↦
          let next : place_after d places.Fresh byte ≡ places.Fresh = rw (ne_eqb byte 34 other, same) outside_delimiter in
          record {
            plain = [];
            more = byte ∷ text;
            text_is = refl;
            is_plain = tt;
            others = rw same
                (from_delimiter text (parsed places.Fresh text (subst (λ p. IsFreeOutside d 10 p text) next free.1)
                (subst (λ p. is_quoted (place_at d p text) ≡ false) next closed)));
          }
      | inr differ ↦
          let feed : byte ≢ 10 = λ e. let bad : false ≡ true = free.0 e in cc in
          let next : place_after d places.Fresh byte ≡ places.Plain = rw (ne_eqb byte 34 other) (outside_other byte differ feed) in
          let p = parsed places.Plain text (subst (λ p. IsFreeOutside d 10 p text) next free.1)
          (subst (λ p. is_quoted (place_at d p text) ≡ false) next closed) in
          record {
            plain = byte ∷ p.plain;
            more = p.more;
            text_is = ap (λ l. byte ∷ l) p.text_is;
            is_plain = (other, (differ, feed, p.is_plain));
            others = p.others;
          }
    ])
  ]
  parsed places.Plain (byte ∷ text) free closed = elim (cases_eq byte d) [
    | inl same ↦
        let next : place_after d places.Plain byte ≡ places.Fresh = rw same outside_delimiter in
        record {
          plain = [];
          more = byte ∷ text;
          text_is = refl;
          is_plain = tt;
          others = rw same
              (from_delimiter text (parsed places.Fresh text (subst (λ p. IsFreeOutside d 10 p text) next free.1)
              (subst (λ p. is_quoted (place_at d p text) ≡ false) next closed)));
        }
    | inr differ ↦
        let feed : byte ≢ 10 = λ e. let bad : false ≡ true = free.0 e in cc in
        let next : place_after d places.Plain byte ≡ places.Plain = outside_other byte differ feed in
        let p = parsed places.Plain text (subst (λ p. IsFreeOutside d 10 p text) next free.1)
        (subst (λ p. is_quoted (place_at d p text) ≡ false) next closed) in
        record {
          plain = byte ∷ p.plain;
          more = p.more;
          text_is = ap (λ l. byte ∷ l) p.text_is;
          is_plain = (differ, feed, p.is_plain);
          others = p.others;
        }
  ]
  parsed places.Quoted (byte ∷ text) free closed = elim (cases_eq byte 34) [
    | inl quote ↦
        let next : place_after d places.Quoted byte ≡ places.Fresh = rw quote refl in
        let after = parsed places.Fresh text (subst (λ p. IsFreeOutside d 10 p text) next free.1)
        (subst (λ p. is_quoted (place_at d p text) ≡ false) next closed) in
        elim after [
          | inl p ↦ record {
            body = [];
            rest = p.plain;
            more = p.more;
            text_is = rw quote (ap (λ l. 34 ∷ l) p.text_is);
            is_body = tt;
            is_rest = p.is_plain;
            others = p.others;
          }
          | inr q ↦ record {
            body = 34 ∷ 34 ∷ q.has.body;
            rest = q.has.rest;
            more = q.has.more;
            text_is = rw quote (ap (λ l. 34 ∷ l) (q.text_is ∙ ap (λ l. 34 ∷ l) q.has.text_is));
            is_body = inr (refl, refl, q.has.is_body);
            is_rest = q.has.is_rest;
            others = q.has.others;
          }
        ]
    | inr other ↦
        let next : place_after d places.Quoted byte ≡ places.Quoted = rw (ne_eqb byte 34 other) refl in
        let p = parsed places.Quoted text (subst (λ p. IsFreeOutside d 10 p text) next free.1)
        (subst (λ p. is_quoted (place_at d p text) ≡ false) next closed) in
        record {
          body = byte ∷ p.body;
          rest = p.rest;
          more = p.more;
          text_is = ap (λ l. byte ∷ l) p.text_is;
          is_body = body-cons byte p.body other p.is_body;
          is_rest = p.is_rest;
          others = p.others;
        }
  ]

  -- a text whose line feeds (10) are all within quotes, and whose end is not, is a record of the grammar
  pub closed_is_record : (text : List ℕ) → IsClosedRecord d text → IsCsvRecord d text
  closed_is_record text c = as_record text (parsed places.Fresh text c.free c.closed)

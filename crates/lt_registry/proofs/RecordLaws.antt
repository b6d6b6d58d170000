-- A record gives at most one entry, and none if it has a fault. And each refusal of `read_entry` is the first fault of
-- the record, or memory ran out.
use Rattle.std.proofs.Common.{◌≡◌, ℕ, ◌≤◌, true, false, eqb, List, [], Option, Some, None, refl, sym, ap, ◌∙◌, arith}
use Rattle.std.proofs.Common.{zero, suc, ◌⊎◌, inl, inr, subst, ◌≢◌, if◌then◌else◌, Result, Ok, Err}
use Rattle.std.specs.Prelude.{Ok, Err, Result, IfOk, IfErr}
use Rattle.std.specs.List.{AllByRecursion}
use Rattle.std.proofs.lemmas.Bool.{cases_eq}
use Rattle.lt_tag.specs.Parts.{TagForm}
use Rattle.lt_tag.specs.Faults.{HasTag}
use Rattle.lt_tag.proofs.OneTagLemmas.{one_tag}
use Rattle.lt_jar.specs.Records.{Field}
use Rattle.lt_registry.specs.Records.{ends_of, bodies, subtags_named, body, type_name, subtag_name}
use Rattle.lt_registry.specs.Records.{tag_name, value_name, repeats_field, kind_of, HasKind, name_field, IsName}
use Rattle.lt_registry.specs.Records.{IsValue, IsValueOf, prefix_name, prefixes_in, IsEntryOf, HasRecordFault}
use Rattle.lt_registry.specs.Records.{record_rank}
use Rattle.lt_registry.specs.Entries.{IsPrefix, is_whole_kind}
use Rattle.lt_registry.specs.declared.entries.Kind.{Kind}
use Rattle.lt_registry.specs.declared.entries.EntryName.{EntryName}
use Rattle.lt_registry.specs.declared.faults.RecordFaultKind.{RecordFaultKind}
use Rattle.lt_registry.specs.Parts.{EntryParts}
use Rattle.lt_registry.specs.RecordSteps.{kind_or, kind_by, IsNameIn, IsNameFault, IsTextFault, IsValueFault, IsPrefixFault}
use Rattle.lt_registry.specs.RecordRefusals.{IsRefused}
use Rattle.lt_registry.specs.declared.entries.EntryValue.{EntryValue}
use Rattle.lt_registry.specs.declared.entries.EntryName.TheVariants as names
use Rattle.lt_registry.specs.declared.faults.RecordFaultKind.TheVariants as faults
use Rattle.lt_registry.specs.declared.entries.Kind.TheVariants as kinds
use Rattle.lt_registry.specs.declared.entries.EntryValue.TheVariants as values
use Rattle.lt_registry.proofs.RecordTexts.{IsSubtagsResult, name_fits, prefixes_are}

-- a record has at most one kind
pub one_kind : (r : List Field) (k l : Kind) → HasKind r k → HasKind r l → k ≡ l
one_kind r k l h g =
    let same : h.0 ≡ g.0 = cc (h.1, g.1) in
    cc (ap kind_of (sym same) ∙ h.2, g.2)

-- a record that has a kind doesn't have UnknownType
no_unknown_type : (r : List Field) (k : Kind) → HasKind r k → HasRecordFault r faults.UnknownType → ⊥
no_unknown_type r k h f =
    let same : h.0 ≡ f.0 = cc (h.1, f.1) in
    cc (ap kind_of (sym same) ∙ h.2, f.2)

-- a kind that is not of whole tags has its name in the field Subtag
pub field_of_subtag : (k : Kind) → is_whole_kind k ≡ false → name_field k ≡ subtag_name
field_of_subtag k e = ap (λ b. if b then tag_name else subtag_name) e

-- a kind of whole tags has its name in the field Tag
pub field_of_tag : (k : Kind) → is_whole_kind k ≡ true → name_field k ≡ tag_name
field_of_tag k e = ap (λ b. if b then tag_name else subtag_name) e

-- a record that has a kind, and the field for that kind's name, doesn't have MissingName
no_missing_name : (r : List Field) (k : Kind) (s : List ℕ) → HasKind r k → body (name_field k) r ≡ Some s
    → HasRecordFault r faults.MissingName → ⊥
no_missing_name r k s h there f =
    let same : f.0 ≡ k = one_kind r f.0 k f.1 h in
    cc (there, ap (λ (z : Kind). body (name_field z) r) (sym same) ∙ f.2)

-- a record whose field Subtag is read as `a` doesn't have another fault of that field
no_subtag_fault : (r : List Field) (k : Kind) (s : List ℕ) (fault : RecordFaultKind) (a : Result EntryName
    RecordFaultKind) → HasKind r k → body subtag_name r ≡ Some s → subtags_named k s ≡ a → a ≢ Err fault
    → (l : Kind) (t : List ℕ) → HasKind r l → body subtag_name r ≡ Some t → subtags_named l t ≡ Err fault → ⊥
no_subtag_fault r k s fault a h there told other l t g here bad =
    let kind : k ≡ l = one_kind r k l h g in
    let text : s ≡ t = cc (there, here) in
    other (sym told ∙ ap (λ (z : Kind). subtags_named z s) kind ∙ ap (subtags_named l) text ∙ bad)

-- the field Subtag of a record that isn't of a whole tag has this fault
abbrev IsSubtagFault : List Field → RecordFaultKind → Type 0
IsSubtagFault r fault = (k : Kind) × (s : List ℕ) × HasKind r k × (is_whole_kind k ≡ false)
    × (body subtag_name r ≡ Some s) × (subtags_named k s ≡ Err fault)

-- a record of a whole tag has no fault of the field Subtag
not_subtags : (r : List Field) (k : Kind) (fault : RecordFaultKind) → HasKind r k → is_whole_kind k ≡ true → IsSubtagFault r fault → ⊥
not_subtags r k fault h whole f =
    cc (whole, ap is_whole_kind (one_kind r k f.0 h f.2) ∙ f.3)

-- a record that has a name has no fault of the field Subtag
no_named_fault : (r : List Field) (k : Kind) (name : EntryName) (fault : RecordFaultKind) → HasKind r k
    → IsNameIn k r name → IsSubtagFault r fault → ⊥
no_named_fault r k (names.Whole t) fault h (s, there, is) f = not_subtags r k fault h is.0 f
no_named_fault r k name fault h (s, there, is) f =
    let e : body subtag_name r ≡ Some s = ap (λ z. body z r) (sym (field_of_subtag k is.0)) ∙ there in
    no_subtag_fault r k s fault (Ok name) h e is.1 (λ w. cc) f.0 f.1 f.2 f.4 f.5

-- a record that has a name doesn't have BadTag
no_bad_tag : (r : List Field) (k : Kind) (name : EntryName) → HasKind r k → IsNameIn k r name → HasRecordFault r faults.BadTag → ⊥
no_bad_tag r k (names.Whole t) h (s, there, is) f =
    let e : body tag_name r ≡ Some s = ap (λ z. body z r) (sym (field_of_tag k is.0)) ∙ there in
    let same : s ≡ f.1 = cc (e, f.4) in
    f.5 t (subst (λ z. HasTag z t) same is.1)
no_bad_tag r k _ h (s, there, is) f = cc (ap is_whole_kind (one_kind r k f.0 h f.2) ∙ f.3, is.0)

-- if `v` is what a Preferred-Value of the text `s` gives, then this text gives a value
value_there : (k : Kind) (s : List ℕ) (v : Option EntryValue) → IsValueOf k (Some s) v → (w : EntryValue) × IsValue k s w
value_there k s None is = absurd is
value_there k s (Some v) is = (v, is)

-- a record whose Preferred-Value gives a value, or that has none, doesn't have BadPreferred
no_bad_value : (r : List Field) (k : Kind) (v : Option EntryValue) → HasKind r k → IsValueOf k (body value_name r) v
    → HasRecordFault r faults.BadPreferred → ⊥
no_bad_value r k v h is f =
    let got = value_there k f.1 v (subst (λ o. IsValueOf k o v) f.3 is) in
    f.4 got.0 (subst (λ (z : Kind). IsValue z f.1 got.0) (one_kind r k f.0 h f.2) got.1)

-- a record that gives an entry has no fault
pub entry_faultless : (r : List Field) (n : ℕ) (e : EntryParts) → IsEntryOf r n e → (fault : RecordFaultKind) → HasRecordFault r fault → ⊥
entry_faultless r n e h faults.RepeatedField f = cc (f, h.once)
entry_faultless r n e h faults.MissingType f = cc (h.kind.1, f)
entry_faultless r n e h faults.UnknownType f = no_unknown_type r e.kind h.kind f
entry_faultless r n e h faults.MissingName f = no_missing_name r e.kind h.named.0 h.kind h.named.1 f
entry_faultless r n e h faults.BadRange f = no_named_fault r e.kind e.name faults.BadRange h.kind h.named f
entry_faultless r n e h faults.BadSubtag f = no_named_fault r e.kind e.name faults.BadSubtag h.kind h.named f
entry_faultless r n e h faults.BadTag f = no_bad_tag r e.kind e.name h.kind h.named f
entry_faultless r n e h faults.BadPreferred f = no_bad_value r e.kind e.value h.kind h.valued f
entry_faultless r n e h faults.BadPrefix f = cc (h.prefixed, ap (λ (z : Kind). prefixes_in z r) (one_kind r e.kind f.0 h.kind f.1) ∙ f.2)
entry_faultless r n e h faults.OutOfMemory f = f

-- the first fault of a record: there is none of a lesser rank

-- the kind of fault that has the rank `n`
abbrev pub ranked : ℕ → RecordFaultKind
ranked n =
    if eqb n 0 then faults.RepeatedField else
    (if eqb n 1 then faults.MissingType else
    (if eqb n 2 then faults.UnknownType else
    (if eqb n 3 then faults.MissingName else
    (if eqb n 4 then faults.BadRange else
    (if eqb n 5 then faults.BadSubtag else
    (if eqb n 6 then faults.BadTag else
    (if eqb n 7 then faults.BadPreferred else (if eqb n 8 then faults.BadPrefix else faults.OutOfMemory))))))))

-- the kind of fault that has the rank of `k` is `k`
pub ranked_again : (k : RecordFaultKind) → ranked (record_rank k) ≡ k
ranked_again faults.RepeatedField = refl
ranked_again _ = refl

module _ (r : List Field) where
  -- the record has no fault whose rank is less than `n`
  abbrev ClearTo : ℕ → Type 0
  ClearTo zero = Unit {0}
  ClearTo (suc n) = ClearTo n × (HasRecordFault r (ranked n) → ⊥)

  -- if the record has no fault whose rank is less than `n`, each of its faults has at least the rank `n`
  pub past : (n : ℕ) → ClearTo n → (other : RecordFaultKind) → HasRecordFault r other → n ≤ record_rank other
  past zero c other f = omega arith
  past (suc n) c other f =
      elim (cases_eq n (record_rank other)) [
        | inl e ↦ absurd (c.1 (subst (HasRecordFault r) (sym (ranked_again other) ∙ ap ranked (sym e)) f))
        | inr ne ↦ let le = past n c.0 other f in omega (arith, le, ne)
      ]

  -- the record has the kind `k`, and repeats no field
  module _ (k : Kind) (once : repeats_field r ≡ false) (kind : HasKind r k) where
    -- a record that has a kind and repeats no field has no fault with a rank below 3, that of MissingName
    kind_clear : ClearTo 3
    kind_clear = (((tt, λ f. cc (f, once)), λ f. cc (kind.1, f)), no_unknown_type r k kind)

    -- a record that has a kind and a Subtag, and isn't of a whole tag, has no fault with a rank below 4, that of
    -- BadRange
    subtag_named_there : (s : List ℕ) → is_whole_kind k ≡ false → body subtag_name r ≡ Some s → ClearTo 4
    subtag_named_there s whole there = (kind_clear, no_missing_name r k s kind (ap (λ z. body z r) (field_of_subtag k whole) ∙ there))

    -- in a record that has a kind, a fault of the name is the record's first, or memory ran out
    pub name_refused : (fault : RecordFaultKind) → IsNameFault k r fault → IsRefused r fault
    name_refused faults.MissingName f = inr (record { there = (k, kind, f); earliest = past 3 kind_clear })
    name_refused faults.BadRange f =
        inr (record { there = (k, f.0, kind, f.1, f.2, f.3); earliest = past 4 (subtag_named_there f.0 f.1 f.2) })
    name_refused faults.BadSubtag f = inr (record {
      there = (k, f.0, kind, f.1, f.2, f.3);
      earliest = past 5 (
        subtag_named_there f.0 f.1 f.2,
        λ g. no_subtag_fault r k f.0 faults.BadRange
            (Err faults.BadSubtag) kind f.2 f.3 (λ w. cc) g.0 g.1 g.2 g.4 g.5,
      );
    })
    name_refused faults.BadTag f = inr (record {
      there = (k, f.0, kind, f.1, f.2, f.3);
      earliest = past 6 (
        (
          (kind_clear, no_missing_name r k f.0 kind (ap (λ z. body z r) (field_of_tag k f.1) ∙ f.2)),
          not_subtags r k faults.BadRange kind f.1,
        ),
        not_subtags r k faults.BadSubtag kind f.1,
      );
    })
    name_refused faults.OutOfMemory f = inl refl
    name_refused _ f = absurd f

    -- the record has the name `name`
    module _ (name : EntryName) (named : IsNameIn k r name) where
      -- a record that has a kind and a name has no fault with a rank below 7, that of BadPreferred
      name_clear : ClearTo 7
      name_clear = (
        (
          (
            (kind_clear, no_missing_name r k named.0 kind named.1),
            no_named_fault r k name faults.BadRange kind
                named,
          ),
          no_named_fault r k name faults.BadSubtag kind named,
        ),
        no_bad_tag r k name kind named,
      )

      -- in a record that has a kind and a name, a fault of the value is the record's first, or memory ran out
      pub value_refused : (fault : RecordFaultKind) → IsValueFault k r fault → IsRefused r fault
      value_refused faults.BadPreferred f = inr (record { there = (k, f.0, kind, f.1, f.2); earliest = past 7 name_clear })
      value_refused faults.OutOfMemory f = inl refl
      value_refused _ f = absurd f

      -- in a record that has a kind, a name, and a value or none, a fault of the Prefixes is the record's first, or
      -- memory ran out
      pub prefix_refused : (v : Option EntryValue) → IsValueOf k (body value_name r) v → (fault : RecordFaultKind)
          → IsPrefixFault k r fault → IsRefused r fault
      prefix_refused v is faults.BadPrefix f =
          inr (record { there = (k, kind, f); earliest = past 8 (name_clear, no_bad_value r k v kind is) })
      prefix_refused v is faults.OutOfMemory f = inl refl
      prefix_refused v is _ f = absurd f

  -- if the body of Type, `o`, gives a kind, the record has that kind
  kind_there_at : (o : Option (List ℕ)) (k : Kind) → body type_name r ≡ o → kind_by o ≡ Ok k → HasKind r k
  kind_there_at None k e h = cc
  kind_there_at (Some s) k e h = by (kind_of s) refl h
    where
      by : (o : Option Kind) → kind_of s ≡ o → kind_or o ≡ Ok k → HasKind r k
      by None f g = cc
      by (Some l) f g = let same : l ≡ k = cc in (s, e, f ∙ ap Some same)

  -- if the body of Type gives a kind, the record has that kind
  pub kind_there : (k : Kind) → kind_by (body type_name r) ≡ Ok k → HasKind r k
  kind_there k h = kind_there_at (body type_name r) k refl h

-- a record gives one entry

-- a text has at most one tag
one_text_tag : (s : List ℕ) (t u : TagForm) → HasTag s t → HasTag s u → t ≡ u
one_text_tag s t u h g = one_tag t u h.tag g.tag (h.spelled ∙ sym g.spelled)

-- a text gives a record of a kind at most one name
one_name : (k : Kind) (s : List ℕ) (a b : EntryName) → IsName k s a → IsName k s b → a ≡ b
one_name k s (names.Whole t) (names.Whole u) h g = ap names.Whole (one_text_tag s t u h.1 g.1)
one_name k s (names.Whole t) _ h g = cc (h.0, g.0)
one_name k s _ (names.Whole t) h g = cc (g.0, h.0)
one_name k s a b h g = let e : Ok a ≡ Ok b = sym h.1 ∙ g.1 in cc

-- a text gives a record of a kind at most one value
one_value : (k : Kind) (s : List ℕ) (a b : EntryValue) → IsValue k s a → IsValue k s b → a ≡ b
one_value k s (values.One m) (values.One n) h g = let same : m ≡ n = cc (h.1, g.1) in ap values.One same
one_value k s (values.One m) (values.Whole t) h g = cc (g.0, h.0)
one_value k s (values.Whole t) (values.One n) h g = cc (h.0, g.0)
one_value k s (values.Whole t) (values.Whole u) h g = ap values.Whole (one_text_tag s t u h.1 g.1)

-- a record of a kind has at most one value; `o` is the text of its Preferred-Value, if there is one
one_value_of : (k : Kind) (o : Option (List ℕ)) (a b : Option EntryValue) → IsValueOf k o a → IsValueOf k o b → a ≡ b
one_value_of k None None None h g = refl
one_value_of k None None (Some v) h g = absurd g
one_value_of k None (Some v) b h g = absurd h
one_value_of k (Some s) None b h g = absurd h
one_value_of k (Some s) (Some v) None h g = absurd g
one_value_of k (Some s) (Some v) (Some w) h g = ap Some (one_value k s v w h g)

-- a record gives at most one entry
pub one_entry : (r : List Field) (n : ℕ) (e f : EntryParts) → IsEntryOf r n e → IsEntryOf r n f → e ≡ f
one_entry r n e f h g =
    let number : e.number ≡ f.number = h.numbered ∙ sym g.numbered in
    let kind : e.kind ≡ f.kind = one_kind r e.kind f.kind h.kind g.kind in
    let named : IsNameIn f.kind r e.name = subst (λ (z : Kind). IsNameIn z r e.name) kind h.named in
    let text : named.0 ≡ g.named.0 = cc (named.1, g.named.1) in
    let name : e.name ≡ f.name = one_name f.kind g.named.0 e.name f.name (subst (λ z. IsName f.kind z e.name) text named.2) g.named.2 in
    let value : e.value ≡ f.value = one_value_of f.kind (body value_name r) e.value f.value
    (subst (λ (z : Kind). IsValueOf z (body value_name r) e.value) kind h.valued) g.valued in
    let prefixes : e.prefixes ≡ f.prefixes = cc (ap (λ (z : Kind). prefixes_in z r) (sym kind) ∙ h.prefixed, g.prefixed) in
    λ i. record { number = number i; kind = kind i; name = name i; value = value i; prefixes = prefixes i }

-- what the steps of reading a record give

-- what the field Subtag is read as (`a`) is the record's name, or a fault of the name
pub name_told : (r : List Field) (k : Kind) (s : List ℕ) (a : Result EntryName RecordFaultKind)
    → is_whole_kind k ≡ false → body (name_field k) r ≡ Some s → a ≡ subtags_named k s → IfOk a (IsNameIn k r)
    × IfErr a (IsNameFault k r)
name_told r k s (Ok (names.Whole t)) whole there e = absurd (subst IsSubtagsResult (sym e) (name_fits k s (ends_of s)))
name_told r k s (Ok _) whole there e = ((s, there, (whole, sym e)), tt)
name_told r k s (Err fault) whole there e =
    let here : body subtag_name r ≡ Some s = ap (λ z. body z r) (sym (field_of_subtag k whole)) ∙ there in
    let bad : (fault ≡ faults.BadRange) ⊎ (fault ≡ faults.BadSubtag) = subst IsSubtagsResult (sym e) (name_fits k s (ends_of s)) in (
      tt,
      elim bad [
        | inl is ↦ subst (IsNameFault k r) (sym is) (s, whole, here, sym e ∙ ap Err is)
        | inr is ↦ subst
            (IsNameFault k r) (sym is) (s, whole, here, sym e ∙ ap Err is)
      ],
    )

-- a fault of the text of Preferred-Value is one of the record's value
pub text_told : (r : List Field) (k : Kind) (s : List ℕ) → body value_name r ≡ Some s → (fault : RecordFaultKind)
    → IsTextFault k s fault → IsValueFault k r fault
text_told r k s there faults.BadPreferred f = (s, there, f)
text_told r k s there faults.OutOfMemory f = tt
text_told r k s there _ f = absurd f

-- the entry has its forms

-- the Prefixes that a record of the kind gives are lists of one subtag or more
pub prefixes_fit : (k : Kind) (r : List Field) (ps : List (List (List ℕ))) → prefixes_in k r ≡ Some ps → AllByRecursion IsPrefix ps
prefixes_fit kinds.Extlang r ps h = prefixes_are (bodies prefix_name r) ps h
prefixes_fit kinds.Variant r ps h = prefixes_are (bodies prefix_name r) ps h
prefixes_fit _ r ps h = let same : [] ≡ ps = cc in subst (AllByRecursion IsPrefix) same tt

-- only a record of an extlang or a variant gives Prefixes
pub prefixes_where : (k : Kind) (r : List Field) (ps : List (List (List ℕ))) → prefixes_in k r ≡ Some ps → (ps ≡ [])
    ⊎ ((k ≡ kinds.Extlang) ⊎ (k ≡ kinds.Variant))
prefixes_where kinds.Extlang r ps h = inr (inl refl)
prefixes_where kinds.Variant r ps h = inr (inr refl)
prefixes_where _ r ps h = inl (cc)

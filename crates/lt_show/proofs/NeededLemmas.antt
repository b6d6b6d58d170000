-- Records without the fields that `kept_fields` leaves out give the same entries and faults, so a registry can be made
-- of what is kept.
use Rattle.std.proofs.Common.{◌≡◌, ◌+◌, ◌++◌, ◌∷◌, ◌∙◌, inl, inr, ℕ, Bool, true, false, List, [], Some, ap, refl, sym}
use Rattle.std.proofs.Common.{subst, length, map, filter, find, count_by, if◌then◌else◌}
use Rattle.std.proofs.lemmas.Bool.{cases_Bool, false_from_ne_true, or_left, or_right}
use Rattle.std.proofs.lemmas.List.{length-map, map-append}
use Rattle.std.proofs.lemmas.List.Sums.{length-filter}
use Rattle.lt_jar.specs.Records.{Field}
use Rattle.lt_registry.specs.Entries.{is_whole_kind}
use Rattle.lt_registry.specs.Parts.{EntryParts}
use Rattle.lt_registry.specs.RecordRefusals.{IsRecordRefusal}
use Rattle.lt_registry.specs.Records.{EntriesFrom, HasEntries, HasFaultAt, HasRecordFault, IsEntryOf}
use Rattle.lt_registry.specs.Records.{IsFirstRecordFault, IsRecordReached, IsValueOf, bodies, body, date_name}
use Rattle.lt_registry.specs.Records.{has_prefixes, is_called, is_header, is_repeated, name_field, prefix_name}
use Rattle.lt_registry.specs.Records.{prefixes_in, prefixes_of, repeats_field, subtag_name, tag_name, type_name}
use Rattle.lt_registry.specs.Records.{value_name}
use Rattle.lt_registry.specs.declared.entries.Kind.{Kind}
use Rattle.lt_registry.specs.declared.faults.RecordFault.{RecordFault}
use Rattle.lt_registry.specs.declared.faults.RecordFaultKind.{RecordFaultKind}
use Rattle.lt_registry.specs.declared.faults.RecordFaultKind.TheVariants as faults
use Rattle.lt_show.specs.Fields.{is_kept, is_of_entry, is_shown, kept_fields}

-- ---- the fields of one name

-- all fields that pass the test `p` are kept
module _ (p : Field → Bool) (kept : (f : Field) → p f ≡ true → is_kept f ≡ true) where
  -- a field that is not kept does not pass
  not_passed : (f : Field) → is_kept f ≡ false → p f ≡ false
  not_passed f none = false_from_ne_true (p f) (λ passed. let bad : false ≡ true = sym none ∙ kept f passed in cc)

  -- the same fields pass among the kept ones
  filter_kept : (r : List Field) → filter p (kept_fields r) ≡ filter p r
  filter_kept [] = refl
  filter_kept (f ∷ r) = elim (cases_Bool (is_kept f)) [
    | inl is_in ↦ rw (is_in, filter_kept r) refl
    | inr is_out ↦ rw (is_out, not_passed f is_out) (filter_kept r)
  ]

  -- the first that passes is the same
  find_kept : (r : List Field) → find p (kept_fields r) ≡ find p r
  find_kept [] = refl
  find_kept (f ∷ r) = elim (cases_Bool (is_kept f)) [
    | inl is_in ↦ rw (is_in, find_kept r) refl
    | inr is_out ↦ rw (is_out, not_passed f is_out) (find_kept r)
  ]

  -- as many fields pass among the kept ones
  count_kept : (r : List Field) → count_by p (kept_fields r) ≡ count_by p r
  count_kept r = sym (length-filter p (kept_fields r)) ∙ ap length (filter_kept r) ∙ length-filter p r

-- fields that tell what a record registers are kept
kept_of : (f : Field) → is_of_entry f ≡ true → is_kept f ≡ true
kept_of f is = or_right (is_shown f.0) (is_of_entry f) is

-- so are the fields with each of the names by which an entry is made or the header is known
type_kept : (f : Field) → is_called type_name f ≡ true → is_kept f ≡ true
type_kept f is = kept_of f (search (or_left, or_right))

subtag_kept : (f : Field) → is_called subtag_name f ≡ true → is_kept f ≡ true
subtag_kept f is = kept_of f (search (or_left, or_right))

tag_kept : (f : Field) → is_called tag_name f ≡ true → is_kept f ≡ true
tag_kept f is = kept_of f (search (or_left, or_right))

value_kept : (f : Field) → is_called value_name f ≡ true → is_kept f ≡ true
value_kept f is = kept_of f (search (or_left, or_right))

prefix_kept : (f : Field) → is_called prefix_name f ≡ true → is_kept f ≡ true
prefix_kept f is = kept_of f (search (or_left, or_right))

date_kept : (f : Field) → is_called date_name f ≡ true → is_kept f ≡ true
date_kept f is = kept_of f (search (or_left, or_right))

-- ---- a record

-- two records are alike in all that makes an entry of one: in the first field of each of these names, in all their
-- Prefixes, and in whether a field is repeated
record Alike (r s : List Field) : Type 0 where
  types : body type_name r ≡ body type_name s
  subtags : body subtag_name r ≡ body subtag_name s
  tags : body tag_name r ≡ body tag_name s
  values : body value_name r ≡ body value_name s
  dates : body date_name r ≡ body date_name s
  prefixes : bodies prefix_name r ≡ bodies prefix_name s
  repeats : repeats_field r ≡ repeats_field s

-- the body of the first field of a name is the same, as all fields of it are kept
body_kept : (name : List ℕ) → ((f : Field) → is_called name f ≡ true → is_kept f ≡ true) → (r : List Field)
    → body name (kept_fields r) ≡ body name r
body_kept name kept r = rw (find_kept (is_called name) kept r) refl

-- a field of a name is repeated among the kept fields just if it is in the record, as all fields of the name are kept
repeated_kept : (name : List ℕ) → ((f : Field) → is_called name f ≡ true → is_kept f ≡ true) → (r : List Field)
    → is_repeated name (kept_fields r) ≡ is_repeated name r
repeated_kept name kept r = rw (count_kept (is_called name) kept r) refl

-- what is kept of a record is like the record
kept_alike : (r : List Field) → Alike (kept_fields r) r
kept_alike r = record {
  types = body_kept type_name type_kept r;
  subtags = body_kept subtag_name subtag_kept r;
  tags = body_kept tag_name tag_kept r;
  values = body_kept value_name value_kept r;
  dates = body_kept date_name date_kept r;
  prefixes = rw (filter_kept (is_called prefix_name) prefix_kept r) refl;
  repeats = rw (
    repeated_kept type_name type_kept r,
    repeated_kept subtag_name subtag_kept r,
    repeated_kept tag_name tag_kept r,
    repeated_kept value_name value_kept r,
  ) refl;
}

-- likeness goes both ways
turned : (r s : List Field) → Alike r s → Alike s r
turned r s a = record {
  types = sym a.types;
  subtags = sym a.subtags;
  tags = sym a.tags;
  values = sym a.values;
  dates = sym a.dates;
  prefixes = sym a.prefixes;
  repeats = sym a.repeats;
}

-- `r` and `s` are alike
module _ (r s : List Field) (a : Alike r s) where
  -- they have the same name and the same prefixes, whatever their kind, and both are the header or neither is
  names : (k : Kind) → body (name_field k) s ≡ body (name_field k) r
  names k = elim (is_whole_kind k) as (λ w. body (if w then tag_name else subtag_name) s
      ≡ body (if w then tag_name else subtag_name) r) [ true ↦ sym a.tags | false ↦ sym a.subtags ]

  prefixes_same : (k : Kind) → prefixes_in k s ≡ prefixes_in k r
  prefixes_same k = ap (λ b. if has_prefixes k then prefixes_of b else Some []) (sym a.prefixes)

  header_same : is_header s ≡ is_header r
  header_same = rw (a.dates, a.types) refl

  -- the entry of one is that of the other
  entry_of : (number : ℕ) (e : EntryParts) → IsEntryOf r number e → IsEntryOf s number e
  entry_of number e h = record {
    numbered = h.numbered;
    once = sym a.repeats ∙ h.once;
    kind = (h.kind.0, sym a.types ∙ h.kind.1, h.kind.2);
    named = (h.named.0, names e.kind ∙ h.named.1, h.named.2);
    valued = subst (λ b. IsValueOf e.kind b e.value) a.values h.valued;
    prefixed = prefixes_same e.kind ∙ h.prefixed;
  }

  -- a fault of one is one of the other
  fault_of : (kind : RecordFaultKind) → HasRecordFault r kind → HasRecordFault s kind
  fault_of faults.RepeatedField h = sym a.repeats ∙ h
  fault_of faults.MissingType h = sym a.types ∙ h
  fault_of faults.UnknownType h = (h.0, sym a.types ∙ h.1, h.2)
  fault_of faults.MissingName h = (h.0, (h.1.0, sym a.types ∙ h.1.1, h.1.2), names h.0 ∙ h.2)
  fault_of faults.BadRange h = (h.0, h.1, (h.2.0, sym a.types ∙ h.2.1, h.2.2), h.3, sym a.subtags ∙ h.4, h.5)
  fault_of faults.BadSubtag h = (h.0, h.1, (h.2.0, sym a.types ∙ h.2.1, h.2.2), h.3, sym a.subtags ∙ h.4, h.5)
  fault_of faults.BadTag h = (h.0, h.1, (h.2.0, sym a.types ∙ h.2.1, h.2.2), h.3, sym a.tags ∙ h.4, h.5)
  fault_of faults.BadPreferred h = (h.0, h.1, (h.2.0, sym a.types ∙ h.2.1, h.2.2), sym a.values ∙ h.3, h.4)
  fault_of faults.BadPrefix h = (h.0, (h.1.0, sym a.types ∙ h.1.1, h.1.2), prefixes_same h.0 ∙ h.2)
  fault_of faults.OutOfMemory h = h

-- ---- records

-- the entries of what is kept of records are those of the records
entries_from : (number : ℕ) (records : List (List Field)) (es : List EntryParts)
    → EntriesFrom number (map kept_fields records) es → EntriesFrom number records es
unfolding EntriesFrom
entries_from number [] es h = h
entries_from number (r ∷ records) es (inl h) = inl (
  rw (header_same (kept_fields r) r (kept_alike r)) h.0,
  entries_from (number + 1) records es h.1,
)
entries_from number (r ∷ records) es (inr h) = inr (
  rw (header_same (kept_fields r) r (kept_alike r)) h.0,
  (h.1.0, h.1.1, h.1.2, entry_of (kept_fields r) r (kept_alike r) number h.1.0 h.1.3, entries_from (number + 1) records h.1.1 h.1.4),
)

-- the entries of what is kept of all records, which are counted from 1, are those of the records
pub entries_kept : (records : List (List Field)) (es : List EntryParts) → HasEntries (map kept_fields records) es → HasEntries records es
entries_kept records es h = entries_from 1 records es h

-- `here` is a record among those of which fields are left out: the record `one` that it was, and those before and after
-- that
record Was (records before : List (List Field)) (here : List Field) (after : List (List Field)) : Type 0 where
  front : List (List Field)
  one : List Field
  rest : List (List Field)
  there : records ≡ front ++ one ∷ rest
  fronts : map kept_fields front ≡ before
  is : kept_fields one ≡ here

-- each record among those of which fields are left out was one of `records`
was : (records before : List (List Field)) (here : List Field) (after : List (List Field))
    → map kept_fields records ≡ before ++ here ∷ after → Was records before here after
was [] [] here after e = let bad = e in cc
was [] (b ∷ before) here after e = let bad = e in cc
was (r ∷ records) [] here after e = record { front = []; one = r; rest = records; there = refl; fronts = refl; is = let same = e in cc }
was (r ∷ records) (b ∷ before) here after e =
    let rest : map kept_fields records ≡ before ++ here ∷ after = (let same = e in cc) in
    let first : kept_fields r ≡ b = (let same = e in cc) in
    let w = was records before here after rest in
    record {
      front = r ∷ w.front;
      one = w.one;
      rest = w.rest;
      there = ap (λ (l : List (List Field)). r ∷ l) w.there;
      fronts = rw (first, w.fronts) refl;
      is = w.is;
    }

-- as many records come before it as before the one that it was
before_same : (records before : List (List Field)) (here : List Field) (after : List (List Field)) (w : Was records
    before here after) → length before ≡ length w.front
before_same records before here after w = sym (ap length w.fronts) ∙ length-map w.front kept_fields

-- a record at fault among those of which fields are left out is at fault itself
fault_was : (records : List (List Field)) (kind : RecordFaultKind) (number : ℕ)
    → HasFaultAt (map kept_fields records) kind number → HasFaultAt records kind number
fault_was records kind number f =
    let w = was records f.before f.here f.after f.there in
    let alike : Alike f.here w.one = subst (λ h. Alike h w.one) w.is (kept_alike w.one) in
    record {
      before = w.front;
      here = w.one;
      after = w.rest;
      there = w.there;
      numbered = f.numbered ∙ ap (λ n. n + 1) (before_same records f.before f.here f.after w);
      judged = rw (header_same f.here w.one alike) f.judged;
      fault = fault_of f.here w.one alike kind f.fault;
    }

-- a record at fault is at fault, too, among those of which fields are left out
fault_is : (records : List (List Field)) (kind : RecordFaultKind) (number : ℕ) → HasFaultAt records kind number
    → HasFaultAt (map kept_fields records) kind number
fault_is records kind number f =
    let alike = turned (kept_fields f.here) f.here (kept_alike f.here) in
    record {
      before = map kept_fields f.before;
      here = kept_fields f.here;
      after = map kept_fields f.after;
      there = ap (map kept_fields) f.there ∙ map-append kept_fields f.before (f.here ∷ f.after);
      numbered = f.numbered ∙ ap (λ n. n + 1) (sym (length-map f.before kept_fields));
      judged = rw (header_same f.here (kept_fields f.here) alike) f.judged;
      fault = fault_of f.here (kept_fields f.here) alike kind f.fault;
    }

-- the first record at fault is the same
first_was : (records : List (List Field)) (kind : RecordFaultKind) (number : ℕ)
    → IsFirstRecordFault (map kept_fields records) kind number → IsFirstRecordFault records kind number
first_was records kind number f = record {
  fault = fault_was records kind number f.fault;
  lowest = λ other elsewhere at. f.lowest other elsewhere (fault_is records other elsewhere at);
  earliest = λ other at. f.earliest other (fault_is records other number at);
}

-- a record that has no record at fault before it has none among those with all fields either
reached_was : (records : List (List Field)) (number : ℕ) → IsRecordReached (map kept_fields records) number → IsRecordReached records number
reached_was records number f =
    let w = was records f.before f.here f.after f.there in
    let alike : Alike f.here w.one = subst (λ h. Alike h w.one) w.is (kept_alike w.one) in
    record {
      before = w.front;
      here = w.one;
      after = w.rest;
      there = w.there;
      numbered = f.numbered ∙ ap (λ n. n + 1) (before_same records f.before f.here f.after w);
      judged = rw (header_same f.here w.one alike) f.judged;
      clean = λ other elsewhere at. f.clean other elsewhere (fault_is records other elsewhere at);
    }

-- records are refused as what is kept of them is
pub refusal_kept : (records : List (List Field)) (fault : RecordFault) → IsRecordRefusal (map kept_fields records) fault
    → IsRecordRefusal records fault
refusal_kept records fault (inl lacks) = inl (lacks.0, reached_was records fault.number lacks.1)
refusal_kept records fault (inr first) = inr (first_was records fault.kind fault.number first)

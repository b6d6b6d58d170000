-- What the loops of `Registry::from_records` and `Registry::read` make of the records so far: their entries, or the
-- first fault. And records have at most one list of entries, and none if one of them has a fault.
use Rattle.std.proofs.Common.{◌≡◌, ℕ, ◌+◌, ◌<◌, ◌≤◌, true, false, List, [], ◌∷◌, ◌++◌, length, take, drop, get_or}
use Rattle.std.proofs.Common.{Option, Some, None, refl, sym, ap, ◌∙◌, arith, append_assoc, ◌⊎◌, inl, inr, subst}
use Rattle.std.proofs.Common.{length-append, Result, Ok, Err, append-nil}
use Rattle.std.specs.Prelude.{Ok, Err, Result, All}
use Rattle.std.proofs.Math.Seq.{get_or-append_seam, take-append_seam}
use Rattle.std.proofs.lemmas.List.{append-nil, take_all, length-take-le, length_push}
use Rattle.std.specs.List.{AllByRecursion}
use Rattle.std.proofs.lemmas.Bool.{cases_eq, cases_lt}
use Rattle.std.proofs.lemmas.List.Elements.{All-push, All-nil}
use Rattle.lt_tag.proofs.TagLemmas.{AllByRecursion-weaker}
use Rattle.lt_jar.specs.Records.{Field}
use Rattle.lt_jar.specs.Sources.{Advances, IsFresh, record_in}
use Rattle.lt_jar.specs.declared.devices.Device.{Device}
use Rattle.lt_jar.specs.declared.faults.JarFault.{JarFault}
use Rattle.lt_jar.specs.declared.sources.JarSource.{JarSource}
use Rattle.lt_registry.specs.Records.{HasRecordFault, record_rank, is_header_at, EntriesFrom, HasEntries, HasFaultAt, IsFirstRecordFault}
use Rattle.lt_registry.specs.Entries.{IsEntry, NumbersRise}
use Rattle.lt_registry.specs.declared.faults.RecordFaultKind.{RecordFaultKind}
use Rattle.lt_registry.specs.Parts.{EntryParts}
use Rattle.lt_registry.specs.RecordRefusals.{IsRefused, IsRecordRefusal}
use Rattle.lt_registry.specs.AddedRecords.{IsAdded, IsRefusedAt, Takes, TakesFrom, finished}
use Rattle.lt_registry.specs.declared.drafts.Draft.{Draft}
use Rattle.lt_registry.specs.declared.faults.RecordFault.{RecordFault}
use Rattle.lt_registry.specs.ReadRegistry.{AnswersAs, IsReadWhole, ReadsRegistry}
use Rattle.lt_registry.specs.declared.faults.RegistryFault.{RegistryFault}
use Rattle.lt_registry.specs.declared.faults.RegistryFault.TheVariants as registry_faults
use Rattle.lt_registry.proofs.SplitListLemmas.{all_more}
use Rattle.lt_registry.proofs.ListLemmas.{take_turn, whole_turn}
use Rattle.lt_registry.proofs.ReadingLaws.{HasReadSoFar, read_ended, read_more, read_none, read_stops}
use Rattle.lt_registry.proofs.RecordTexts.{after}
use Rattle.lt_registry.proofs.RecordLaws.{entry_faultless, one_entry, ranked, ranked_again}

-- the entries of records numbered from `n`, and then those of further records numbered from `m`, are the entries of all
entries_append : (n m : ℕ) (rs qs : List (List Field)) (es fs : List EntryParts) → m ≡ n + length rs
    → EntriesFrom n rs es → EntriesFrom m qs fs → EntriesFrom n (rs ++ qs) (es ++ fs)
unfolding EntriesFrom
entries_append n m [] qs es fs same h k =
    let here : m ≡ n = omega (arith, same) in
    subst (λ z. EntriesFrom z qs (es ++ fs)) here (subst (λ zs. EntriesFrom m qs (zs ++ fs)) (sym h) k)
entries_append n m (r ∷ rs) qs es fs same (inl h) k = inl (h.0, entries_append (n + 1) m rs qs es fs (omega (arith, same)) h.1 k)
entries_append n m (r ∷ rs) qs es fs same (inr h) k =
    let x = h.1 in
    inr (h.0, (x.0, x.1 ++ fs, ap (λ zs. zs ++ fs) x.2, x.3, entries_append (n + 1) m rs qs x.1 fs (omega (arith, same)) x.4 k))

-- a record at fault with the number `i + 1` (`m`) is the record `r` at the index `i`
same_record : (records : List (List Field)) (i : ℕ) (r : List Field) (k : RecordFaultKind) (m : ℕ) (h : HasFaultAt
    records k m) → m ≡ i + 1 → r ≡ get_or records i r → h.here ≡ r
same_record records i r k m h same is =
    let place : length h.before ≡ i = omega (arith, h.numbered, same) in
    sym (is ∙ ap (λ zs. get_or zs i r) h.there ∙ ap (λ z. get_or (h.before ++ h.here ∷ h.after) z r) (sym place)
    ∙ get_or-append_seam h.before h.here h.after r)

-- `es` are the entries of the first `i` records, in which there is no fault
pub record Made (records : List (List Field)) (i : ℕ) (es : List EntryParts) : Type 0 where
  pub entries : EntriesFrom 1 (take i records) es
  pub below : AllByRecursion (λ (e : EntryParts). e.number ≤ i) es
  pub rising : NumbersRise es
  pub forms : All IsEntry es
  pub clean : (k : RecordFaultKind) (m : ℕ) → HasFaultAt records k m → i < m

-- the first 0 records have the entries []
pub made_none : (records : List (List Field)) (es : List EntryParts) → es ≡ [] → Made records 0 es
unfolding EntriesFrom
made_none records es none = subst (Made records 0) (sym none)
    (record {
      entries = refl;
      below = tt;
      rising = tt;
      forms = All-nil IsEntry;
      clean = λ k m h. omega (arith, h.numbered);
    })

-- entries whose numbers are at most `i` have numbers that are at most `j`
below_more : (i j : ℕ) → i ≤ j → (es : List EntryParts) → AllByRecursion (λ (e : EntryParts). e.number ≤ i) es
    → AllByRecursion (λ (e : EntryParts). e.number ≤ j) es
below_more i j l es h = AllByRecursion-weaker (λ (e : EntryParts). e.number ≤ i) (λ (e : EntryParts). e.number ≤ j)
    (λ e k. omega (arith, k, l)) es h

-- entries whose numbers rise and are at most `i` may be followed by one with a greater number
rising_with : (i : ℕ) (es : List EntryParts) (e : EntryParts) → NumbersRise es
    → AllByRecursion (λ (x : EntryParts). x.number ≤ i) es → i < e.number → NumbersRise (es ++ e ∷ [])
rising_with i [] e h b l = (tt, tt)
rising_with i (x ∷ es) e h b l = (
  all_more (λ (f : EntryParts). x.number < f.number) es e h.0 (omega (arith, b.0, l)),
  rising_with i es e h.1 b.1 l,
)

-- if the first `i` records have no fault and the next is the header or has none, the first `i + 1` have none
next_clean : (records : List (List Field)) (i : ℕ) (r : List Field) → r ≡ get_or records i r
    → ((k : RecordFaultKind) (m : ℕ) → HasFaultAt records k m → i < m)
    → (is_header_at (i + 1) r ≡ false → (k : RecordFaultKind) → HasRecordFault r k → ⊥) → (k : RecordFaultKind) (m : ℕ)
    → HasFaultAt records k m → i + 1 < m
next_clean records i r is clean none k m h =
    elim (cases_eq m (i + 1)) [
      | inl same ↦
          let here : h.here ≡ r = same_record records i r k m h same is in
          let judged : is_header_at (i + 1) r ≡ false = ap (λ z. is_header_at (i + 1) z) (sym here)
          ∙ ap (λ z. is_header_at z h.here) (sym same) ∙ h.judged in
          absurd (none judged k (subst (λ z. HasRecordFault z k) here h.fault))
      | inr other ↦ let past = clean k m h in omega (arith, past, other)
    ]

-- the entries of the records before the index `i`, and then that of the record there, if it gives one (`fs`), are those
-- of the first `i + 1` records
made_entries : (records : List (List Field)) (i : ℕ) (r : List Field) (es fs : List EntryParts) → i < length records
    → r ≡ get_or records i r → Made records i es → EntriesFrom (i + 1) (r ∷ []) fs
    → EntriesFrom 1 (take (i + 1) records) (es ++ fs)
made_entries records i r es fs l is made h =
    let long = length-take-le i records (omega (arith, l)) in
    subst (λ zs. EntriesFrom 1 zs (es ++ fs)) (sym (take_turn records i r l is))
    (entries_append 1 (i + 1) (take i records) (r ∷ []) es fs (omega (arith, long)) made.entries h)

-- the record at the index `i` adds its entry, if it is no header, to those of the records before it
pub made_next : (records : List (List Field)) (i : ℕ) (r : List Field) (old new : List EntryParts) → i < length records
    → r ≡ get_or records i r → IsAdded r (i + 1) old new → Made records i old → Made records (i + 1) new
unfolding EntriesFrom
made_next records i r old new l is (inl skipped) made =
    subst (Made records (i + 1)) (sym skipped.1) (record {
      entries = subst (EntriesFrom 1 (take (i + 1) records)) (append-nil old)
          (made_entries records i r old [] l is made (inl (skipped.0, refl)));
      below = below_more i (i + 1) (omega arith) old made.below;
      rising = made.rising;
      forms = made.forms;
      clean = next_clean records i r is made.clean (λ judged k f. cc (skipped.0, judged));
    })
made_next records i r old new l is (inr added) made =
    let put = added.1 in
    let number = put.1.numbered in
    subst (Made records (i + 1)) (sym put.3) (record {
      entries = made_entries records i r old (put.0 ∷ []) l is made (inr (added.0, (put.0, [], refl, put.1, refl)));
      below = all_more (λ (x : EntryParts). x.number ≤ i + 1) old put.0
          (below_more i (i + 1) (omega arith) old made.below) (omega (arith, number));
      rising = rising_with i old put.0 made.rising made.below (omega (arith, number));
      forms = All-push IsEntry old put.0 made.forms put.2;
      clean = next_clean records i r is made.clean (λ judged k f. entry_faultless r (i + 1) put.0 put.1 k f);
    })

-- if the first `i` records have no fault and the next gives no entry, the records are refused for its fault
pub made_stops : (records : List (List Field)) (i : ℕ) (r : List Field) (es : List EntryParts) (fault : RecordFault)
    → i < length records → r ≡ get_or records i r → IsRefusedAt r (i + 1) fault → Made records i es
    → IsRecordRefusal records fault
made_stops records i r es fault l is refused made = by refused.refused
  where
    there : records ≡ take i records ++ r ∷ drop (i + 1) records
    there = whole_turn records i r l is

    number : fault.number ≡ length (take i records) + 1
    number = omega (arith, refused.numbered, length-take-le i records (omega (arith, l)))

    judged : is_header_at fault.number r ≡ false
    judged = subst (λ n. is_header_at n r ≡ false) (sym refused.numbered) refused.judged

    low : (k : RecordFaultKind) (m : ℕ) → HasFaultAt records k m → fault.number ≤ m
    low k m h = omega (arith, refused.numbered, made.clean k m h)

    by : IsRefused r fault.kind → IsRecordRefusal records fault
    by (inl memory) =
        inl (
          memory,
          record {
            before = take i records;
            here = r;
            after = drop (i + 1) records;
            there = there;
            numbered = number;
            judged = judged;
            clean = low;
          },
        )
    by (inr first) = inr (record {
      fault = record {
        before = take i records;
        here = r;
        after = drop (i + 1) records;
        there = there;
        numbered = number;
        judged = judged;
        fault = first.there;
      };
      lowest = low;
      earliest = λ k h. first.earliest k
          (subst (λ z. HasRecordFault z k) (same_record records i r k fault.number h refused.numbered is) h.fault);
    })

-- records give at most one list of entries, and none if one of them has a fault

-- records numbered from `n` give at most one list of entries
entries_same : (n : ℕ) (rs : List (List Field)) (es fs : List EntryParts) → EntriesFrom n rs es → EntriesFrom n rs fs → es ≡ fs
unfolding EntriesFrom
entries_same n [] es fs h g = h ∙ sym g
entries_same n (r ∷ rs) es fs (inl h) (inl g) = entries_same (n + 1) rs es fs h.1 g.1
entries_same n (r ∷ rs) es fs (inl h) (inr g) = cc (h.0, g.0)
entries_same n (r ∷ rs) es fs (inr h) (inl g) = cc (g.0, h.0)
entries_same n (r ∷ rs) es fs (inr h) (inr g) =
    let x = h.1 in
    let y = g.1 in
    let first = one_entry r n x.0 y.0 x.3 y.3 in
    let rest = entries_same (n + 1) rs x.1 y.1 x.4 y.4 in
    x.2 ∙ ap (λ z. z ∷ x.1) first ∙ ap (λ zs. y.0 ∷ zs) rest ∙ sym y.2

-- the records of a file give at most one list of entries
pub one_list : (records : List (List Field)) (es fs : List EntryParts) → HasEntries records es → HasEntries records fs → es ≡ fs
one_list records es fs h g = entries_same 1 records es fs h g

-- if records numbered from `n` give entries, the record `here` among them, which is not the header, has no fault
faultless : (n : ℕ) (before : List (List Field)) (here : List Field) (after : List (List Field)) (es : List
    EntryParts) (m : ℕ) (k : RecordFaultKind) → EntriesFrom n (before ++ here ∷ after) es → m ≡ n + length before
    → is_header_at m here ≡ false → HasRecordFault here k → ⊥
unfolding EntriesFrom
faultless n [] here after es m k (inl h) same judged f =
    let number : m ≡ n = omega (arith, same) in
    cc (h.0, ap (λ z. is_header_at z here) (sym number) ∙ judged)
faultless n [] here after es m k (inr h) same judged f = entry_faultless here n h.1.0 h.1.3 k f
faultless n (b ∷ before) here after es m k (inl h) same judged f = faultless (n + 1) before here after es m k h.1
    (omega (arith, same)) judged f
faultless n (b ∷ before) here after es m k (inr h) same judged f = faultless (n + 1) before here after h.1.1 m k h.1.4
    (omega (arith, same)) judged f

-- records that give entries have no fault
pub entries_or_fault : (records : List (List Field)) (es : List EntryParts) (k : RecordFaultKind) (m : ℕ)
    → HasEntries records es → HasFaultAt records k m → ⊥
entries_or_fault records es k m h f = faultless 1 f.before f.here f.after es m k
    (subst (λ zs. EntriesFrom 1 zs es) f.there h) (omega (arith, f.numbered)) f.judged f.fault

-- records have at most one first fault
pub one_record_fault : (records : List (List Field)) (k l : RecordFaultKind) (m n : ℕ) → IsFirstRecordFault records k m
    → IsFirstRecordFault records l n → (k ≡ l) × (m ≡ n)
one_record_fault records k l m n a b =
    let le = a.lowest l n b.fault in
    let ge = b.lowest k m a.fault in
    let same : m ≡ n = omega arith in
    let up : record_rank k ≤ record_rank l = a.earliest l (subst (HasFaultAt records l) (sym same) b.fault) in
    let down : record_rank l ≤ record_rank k = b.earliest k (subst (HasFaultAt records k) same a.fault) in
    let rank : record_rank k ≡ record_rank l = omega arith in
    (sym (ranked_again k) ∙ ap ranked rank ∙ ranked_again l, same)

-- The draft of a registry, one record after another.

-- if `here` is one of `rs` and `r`, but not the last, it is one of `rs`, after the same records `before`
record_back : (before : List (List Field)) (here : List Field) (after rs : List (List Field)) (r : List Field)
    → rs ++ r ∷ [] ≡ before ++ here ∷ after → length before < length rs → (rest : List (List Field))
    × (rs ≡ before ++ here ∷ rest)
record_back before here after [] r e l = absurd (omega (arith, l))
record_back [] here after (x ∷ rs) r e l = let same : x ≡ here = cc in (rs, ap (λ z. z ∷ rs) same)
record_back (b ∷ before) here after (x ∷ rs) r e l =
    let same : x ≡ b = cc in
    let tail : rs ++ r ∷ [] ≡ before ++ here ∷ after = cc in
    let found = record_back before here after rs r tail (omega (arith, l)) in
    (found.0, ap (λ z. z ∷ rs) same ∙ ap (λ zs. b ∷ zs) found.1)

-- a fault of `rs` and `r` that is not at `r` is one of `rs`
fault_back : (rs : List (List Field)) (r : List Field) (k : RecordFaultKind) (m : ℕ) → HasFaultAt (rs ++ r ∷ []) k m
    → m ≤ length rs → HasFaultAt rs k m
fault_back rs r k m h l =
    let found = record_back h.before h.here h.after rs r h.there (omega (arith, h.numbered, l)) in
    record { before = h.before; here = h.here; after = found.0; there = found.1; numbered = h.numbered; judged = h.judged; fault = h.fault }

-- if no record of `rs` with a number below `n` has a fault, none of `rs` and `r` has
clean_on : (rs : List (List Field)) (r : List Field) (n : ℕ) → n ≤ length rs + 1
    → ((k : RecordFaultKind) (m : ℕ) → HasFaultAt rs k m → n ≤ m) → (k : RecordFaultKind) (m : ℕ)
    → HasFaultAt (rs ++ r ∷ []) k m → n ≤ m
clean_on rs r n l clean k m h = by_order (cases_lt m n)
  where
    by_order : (m < n) ⊎ (n ≤ m) → n ≤ m
    by_order (inl low) = clean k m (fault_back rs r k m h (omega (arith, low, l)))
    by_order (inr high) = high

-- a refusal of the records `rs` is one of `rs` and one more record `r` too
refusal_on : (rs : List (List Field)) (r : List Field) (fault : RecordFault) → IsRecordRefusal rs fault
    → IsRecordRefusal (rs ++ r ∷ []) fault
refusal_on rs r fault (inl memory) =
    let at = memory.1 in
    let within : fault.number ≤ length rs + 1 = omega (
      arith,
      at.numbered,
      ap length at.there,
      length-append at.before (at.here ∷ at.after),
    ) in
    inl (
      memory.0,
      record {
        before = at.before;
        here = at.here;
        after = at.after ++ r ∷ [];
        there = ap (λ zs. zs ++ r ∷ []) at.there ∙ append_assoc at.before (at.here ∷ at.after) (r ∷ []);
        numbered = at.numbered;
        judged = at.judged;
        clean = clean_on rs r fault.number within at.clean;
      },
    )
refusal_on rs r fault (inr first) =
    let at = first.fault in
    let low : fault.number ≤ length rs = omega (arith, at.numbered, ap length at.there, length-append at.before (at.here ∷ at.after)) in
    let there = ap (λ zs. zs ++ r ∷ []) at.there ∙ append_assoc at.before (at.here ∷ at.after) (r ∷ []) in
    inr (record {
      fault = record {
        before = at.before;
        here = at.here;
        after = at.after ++ r ∷ [];
        there = there;
        numbered = at.numbered;
        judged = at.judged;
        fault = at.fault;
      };
      lowest = clean_on rs r fault.number (omega (arith, low)) first.lowest;
      earliest = λ k h. first.earliest k (fault_back rs r k fault.number h low);
    })

-- the entries that are made of all records `rs` are made of as many records of `rs` and `r`
made_on : (rs : List (List Field)) (r : List Field) (es : List EntryParts) → Made rs (length rs) es → Made (rs ++ r ∷ []) (length rs) es
made_on rs r es made = record {
  entries = subst (λ zs. EntriesFrom 1 zs es) (take_all (length rs) rs (omega arith) ∙ sym (take-append_seam rs (r ∷ []))) made.entries;
  below = made.below;
  rising = made.rising;
  forms = made.forms;
  clean = λ k m h. let above = clean_on rs r (length rs + 1) (omega arith) (λ j n f. let past = made.clean j n f in
      omega (arith, past)) k m h in omega (arith, above);
}

-- a draft has the entries of the records so far; or, if it has a fault, this is a refusal of the records
abbrev pub HasDrafted : List (List Field) → List EntryParts → Option RecordFault → Type 0
HasDrafted records es None = Made records (length records) es
HasDrafted records es (Some fault) = IsRecordRefusal records fault

-- the draft has counted these records, and has their entries or a refusal of them
pub record IsDraftOf (d : Draft) (records : List (List Field)) : Type 0 where
  pub numbered : d.number ≡ length records
  pub drafted : HasDrafted records d.entries.items d.fault

-- a draft of the records `rs` that takes the record `r` is then one of `rs` and `r`; `old` and `had` are its entries
-- and its fault before, `new` and `has` after
drafted_more : (rs : List (List Field)) (r : List Field) (number : ℕ) (old new : List EntryParts) (had has : Option
    RecordFault) → number ≡ length rs + 1 → TakesFrom r number old new had has → HasDrafted rs old had
    → HasDrafted (rs ++ r ∷ []) new has
drafted_more rs r number old new None None at takes made =
    subst (λ n. Made (rs ++ r ∷ []) n new) (sym (length_push rs r))
    (made_next (rs ++ r ∷ []) (length rs) r old new (omega (arith, length_push rs r))
    (sym (get_or-append_seam rs r [] r)) (subst (λ n. IsAdded r n old new) at takes) (made_on rs r old made))
drafted_more rs r number old new None (Some fault) at takes made =
    made_stops (rs ++ r ∷ []) (length rs) r old fault (omega (arith, length_push rs r))
    (sym (get_or-append_seam rs r [] r)) (subst (λ n. IsRefusedAt r n fault) at takes) (made_on rs r old made)
drafted_more rs r number old new (Some first) has at takes made = subst (HasDrafted (rs ++ r ∷ []) new) (sym takes)
    (refusal_on rs r first made)

-- a draft of some records that takes one more is a draft of all of them
pub draft_more : (records : List (List Field)) (r : List Field) (old new : Draft) → Takes r old new
    → IsDraftOf old records → IsDraftOf new (records ++ r ∷ [])
draft_more records r old new takes is = record {
  numbered = omega (arith, takes.numbered, is.numbered, length_push records r);
  drafted = drafted_more records r new.number old.entries.items new.entries.items old.fault new.fault
      (omega (arith, takes.numbered, is.numbered)) takes.takes is.drafted;
}

-- A registry that is read record by record. `remaining` is what a device has left to read; `first` is the reader at the
-- start, `old` and `new` are it before and after a call; `before` is the device at the start, `now` and `after` are it
-- before and after that call.

-- a reader that has just begun has lent no records, and a new draft is the draft of these
pub draft_none : {R : Type 0} (remaining : R → Option (List ℕ)) (s : JarSource) (device : Device R) (d : Draft)
    → IsFresh s → d.entries.items ≡ [] → d.number ≡ 0 → d.fault ≡ None
    → HasReadSoFar remaining s s device device (IsDraftOf d)
draft_none remaining s device d fresh entries number fault =
    read_none remaining s device (IsDraftOf d) fresh
    (record {
      numbered = number;
      drafted = subst (HasDrafted [] d.entries.items) (sym fault)
          (made_none [] d.entries.items entries);
    })

-- if the reader lends one record more and the draft takes it (`d` to `e`), `e` is the draft of all records lent
pub draft_next : {R : Type 0} (remaining : R → Option (List ℕ)) (first old new : JarSource) (before now after : Device
    R) (d e : Draft) → HasReadSoFar remaining first old before now (IsDraftOf d)
    → Advances remaining old new now after (Ok true) → Takes (record_in new) d e
    → HasReadSoFar remaining first new before after (IsDraftOf e)
draft_next remaining first old new before now after d e so advances takes =
    read_more remaining first old new before now after (IsDraftOf d) (IsDraftOf e) so advances
    (λ records is. draft_more records (record_in new) d e takes is)

-- the answer of a reading: the entries, by `items`, or the fault of a record
abbrev pub answer_of : {A : Type 0} → Result A RecordFault → (A → List EntryParts) → Result (List EntryParts) RegistryFault
answer_of (Ok entries) items = Ok (items entries)
answer_of (Err fault) items = Err (registry_faults.Record fault)

-- if the text has ended, the reading answers the draft's entries, or the fault of a record that the draft has
pub draft_ended : {R : Type 0} (remaining : R → Option (List ℕ)) (first old new : JarSource) (before now after : Device
    R) (d : Draft) → HasReadSoFar remaining first old before now (IsDraftOf d)
    → Advances remaining old new now after (Ok false)
    → ReadsRegistry remaining before after (answer_of (finished d.entries d.fault) (λ v. v.items))
unfolding ReadsRegistry
draft_ended remaining first old new before now after d so advances =
    read_ended remaining first old new before now after (IsDraftOf d) _ _ so advances
    (λ bytes reads records whole draft. by bytes reads records whole d.fault draft.drafted)
  where
    by : (bytes : List ℕ) (reads : ℕ) (records : List (List Field)) → IsReadWhole remaining before after bytes records
        → (o : Option RecordFault) → HasDrafted records d.entries.items o
        → AnswersAs remaining (answer_of (finished d.entries o) (λ v. v.items)) before after bytes reads
    by bytes reads records whole None made = (
      records,
      whole,
      subst (λ rs. EntriesFrom 1 rs d.entries.items)
          (take_all (length records) records (omega arith)) made.entries,
    )
    by bytes reads records whole (Some fault) refusal = (records, whole, refusal)

-- if the reader answers a fault, the reading answers that
pub draft_stops : {R : Type 0} (remaining : R → Option (List ℕ)) (first old new : JarSource) (before now after : Device
    R) (d : Draft) (fault : JarFault) → HasReadSoFar remaining first old before now (IsDraftOf d)
    → Advances remaining old new now after (Err fault) → ReadsRegistry remaining before after (Err (registry_faults.Jar fault))
unfolding ReadsRegistry
draft_stops remaining first old new before now after d fault so advances = read_stops remaining first old new before now
    after (IsDraftOf d) _ _ fault so advances (λ bytes reads is. is) (λ is. is)

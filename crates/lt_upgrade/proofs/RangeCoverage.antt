-- What U1 needs for ranges: of the sorted ranges of a registry only the widest are kept, and a binary search among them
-- tells whether some range holds a given one. A record *covers* the ranges of its kind that lie within its own.
use Rattle.std.proofs.Common.{◌≡◌, ◌↔◌, ℕ, Bool, true, false, ◌&&◌, List, [], ◌∷◌, length, refl, sym, ap, ◌∙◌, ◌==◌}
use Rattle.std.proofs.Common.{◌<◌, IsTrue, inl, inr, All, arith, ◌||◌, zero, suc, ◌≤◌, get_or, eqb, not, Contains}
use Rattle.std.proofs.Common.{Ordering, Less, Equal, Greater}
use Rattle.std.specs.Cmp.{both_ways, IsTotalOrder, unsigned_ties}
use Rattle.std.specs.List.{list_any, AllByRecursion, dedup, dedup_from, cons_option, AllPairs}
use Rattle.std.proofs.lemmas.Bool.{and_parts, and_from, eqb-true, eq-eqb, true≢false, cond_both, cases_lt}
use Rattle.std.proofs.lemmas.Bool.{true_from_ne_false, false_from_ne_true, not-false, and_right}
use Rattle.std.proofs.lemmas.List.Folds.{Any-from_list_any, list_any-from_Any, list_any_at}
use Rattle.lt_registry.specs.Parts.{EntryParts}
use Rattle.lt_registry.specs.Entries.{letters_le, FitsName, IsEntry}
use Rattle.lt_registry.specs.Same.{same_kind}
use Rattle.lt_registry.specs.declared.entries.Kind.{Kind}
use Rattle.lt_registry.specs.declared.entries.EntryName.{EntryName}
use Rattle.lt_upgrade.specs.Upgrade.{IsCovered, StaysRegistered}
use Rattle.lt_upgrade.specs.UpgradeChecking.{covers, some_covers}
use Rattle.lt_rewrite.proofs.Entries.{same_kind_is, same_kind_itself}
use Rattle.std.proofs.lemmas.List.Elements.{All-from_recursion, recursion_from_All}
use Rattle.std.proofs.lemmas.Cmp.{nat_list_cmp_total, upto, then_total, on_total, nat_cmp_total}
use Rattle.std.specs.List.Sorted.{IsSortedBy, IsPartitionedBy, IsPartitionPoint, IsPermutation}
use Rattle.std.specs.Ordering.{ordering_reverse, is_le, is_lt, is_gt, nat_cmp, ordering_then, is_eq}
use Rattle.std.proofs.lemmas.List.Sorted.{ranks_by, sorted_far, list_any-IsPermutation}
use Rattle.lt_upgrade.specs.WidestRanges.{end_cmp, is_up_to, contains, EndsRise, range_end, range_row, range_rows, HoldRanges}
use Rattle.lt_upgrade.specs.declared.widest_ranges.RangeEnd.{RangeEnd}
use Rattle.lt_upgrade.specs.declared.widest_ranges.RangeRow.{RangeRow}
use Rattle.std.specs.Cmp.Lexicographic.{slice_cmp}
use Rattle.lt_registry.proofs.OrderLemmas.{at_most, letters_le_is}
use Rattle.lt_check.specs.NameChecks.{kind_number}
use Rattle.lt_check.proofs.OwnNames.{kinds_same}
use Rattle.lt_registry.specs.declared.entries.EntryName.TheVariants as names

-- the order of ends of ranges is a total order
pub end_total : IsTotalOrder end_cmp
end_total =
    then_total (on_total (λ (e : RangeEnd). e.kind) nat_cmp_total)
    (then_total (on_total (λ (e : RangeEnd). e.length) nat_cmp_total) (on_total (λ (e : RangeEnd). e.subtag) nat_list_cmp_total))

-- an order is greater exactly if it is not less or equal
gt_is : (o : Ordering) → is_gt o ≡ not (is_le o)
gt_is Less = refl
gt_is _ = refl

-- a total order is transitive
pub further : {K : Type 0} {R : K → K → Ordering} → IsTotalOrder R → (a b c : K) → is_le (R a b) ≡ true
    → is_le (R b c) ≡ true → is_le (R a c) ≡ true
further {R = R} total a b c h k = not-false (is_le (R a c)) (sym (gt_is (R a c))
    ∙ upto total a b c (gt_is (R a b) ∙ ap not h) (gt_is (R b c) ∙ ap not k))

-- if an end is not up to another, that one is up to it
other_way : (a b : RangeEnd) → is_up_to a b ≡ false → is_up_to b a ≡ true
other_way a b h = ap is_le (end_total.antisymm b a)
    ∙ (elim (end_cmp a b) as (λ o. is_le o ≡ false → is_le (ordering_reverse o) ≡ true)
    [ Greater ↦ λ h. refl | _ ↦ λ h. cc ]) h

-- sorted ranges

-- the order by which ranges are sorted: one begins before another
abbrev pub begins_before : RangeRow → RangeRow → Bool
begins_before v w = is_lt (end_cmp v.first w.first)

-- a range begins no later than another
abbrev Precedes : RangeRow → RangeRow → Type 0
Precedes v w = is_up_to v.first w.first ≡ true

-- those are left out that end no later than an earlier one

-- a range ends no later than one that is kept
abbrev pub ends_by : RangeRow → RangeRow → Bool
ends_by later kept = is_up_to later.last kept.last

-- where `y` implies `x`, a disjunction with `x` is the same with `y` or without it
absorbed : (x y z : Bool) → (y ≡ true → x ≡ true) → (x || z) ≡ (x || (y || z))
absorbed false true z h = absurd (true≢false (sym (h refl)))
absorbed _ _ z h = refl

-- a range `v` that begins no later and ends no earlier than `w` holds what `w` holds; `a` and `b` are the ends of what
-- is held
contained : (a b : RangeEnd) (v w : RangeRow) → is_up_to v.first w.first ≡ true → is_up_to w.last v.last ≡ true
    → contains a b w ≡ true → contains a b v ≡ true
contained a b v w first last h =
    let p = and_parts (is_up_to w.first a) (is_up_to b w.last) h in
    and_from (is_up_to v.first a) (is_up_to b v.last) (further end_total v.first w.first a first p.0)
    (further end_total b w.last v.last p.1 last)

-- `v` begins no later than `w`, and ends no later
abbrev IsBefore : RangeRow → RangeRow → Type 0
IsBefore v w = (is_up_to v.first w.first ≡ true) × (is_up_to v.last w.last ≡ true)

-- `kept` is what stays of the range `v` and of `rows` after it: it holds what all of them hold (`held`), comes after
-- what is before `v` (`after`), and rises (`rise`)
record AreWidest (v : RangeRow) (rows kept : List RangeRow) : Type 0 where
  held : (a b : RangeEnd) → list_any (contains a b) kept ≡ list_any (contains a b) (v ∷ rows)
  after : (u : RangeRow) → IsBefore u v → AllByRecursion (IsBefore u) kept
  rise : EndsRise kept

-- sorted ranges, `v` and `rows`, without each that ends no later than the last one kept before it, are the widest
widest : (v : RangeRow) (rows : List RangeRow) → All (Precedes v) rows → AllPairs Precedes rows
    → AreWidest v rows (dedup_from ends_by v rows)
widest v [] first up = record { held = λ a b. refl; after = λ u h. (h, tt); rise = (tt, tt) }
widest v (w ∷ rows) first up =
    let next : is_up_to v.first w.first ≡ true = first 0 w (omega arith) in
    let rest : AllPairs Precedes rows = λ i j d below inside. up (suc i) (suc j) d (omega arith) (omega arith) in
    let without = widest v rows (λ k d l. first (suc k) d (omega arith)) rest in
    let beside = widest w rows (λ k d l. up 0 (suc k) d (omega arith) (omega arith)) rest in
    cond_both (ends_by w v) (dedup_from ends_by v rows) (v ∷ dedup_from ends_by w rows) (AreWidest v (w ∷ rows))
    (λ is. record {
      held = λ a b. without.held a b
          ∙ absorbed (contains a b v) (contains a b w) (list_any (contains a b) rows) (contained a b v w next is);
      after = without.after;
      rise = without.rise;
    })
    (λ is. record {
      held = λ a b. ap (λ t. contains a b v || t) (beside.held a b);
      after = λ u h. (
        h,
        beside.after u (
          further end_total u.first v.first w.first h.0 next,
          further end_total u.last v.last w.last
              h.1 (other_way w.last v.last is),
        ),
      );
      rise = (beside.after v (next, other_way w.last v.last is), beside.rise);
    })

-- ranges are sorted, and each that ends no later than the last one kept is left out: those that are kept rise, and hold
-- what all hold
pub widest_of : (rows sorted kept : List RangeRow) → IsPermutation rows sorted → IsSortedBy begins_before sorted
    → kept ≡ dedup ends_by sorted
    → EndsRise kept × ((a b : RangeEnd) → list_any (contains a b) kept ≡ list_any (contains a b) rows)
widest_of rows [] kept moved up is = (rw is tt, λ a b. rw is (sym (list_any-IsPermutation (contains a b) rows [] moved)))
widest_of rows (v ∷ vs) kept moved up is =
    let far : AllPairs Precedes (v ∷ vs) = λ i j d below inside.
    ap is_le (end_total.antisymm (get_or (v ∷ vs) i d).first (get_or (v ∷ vs) j d).first)
    ∙ (elim (end_cmp (get_or (v ∷ vs) j d).first (get_or (v ∷ vs) i d).first) as (λ o. is_lt o ≡ false
    → is_le (ordering_reverse o) ≡ true) [ Less ↦ λ h. cc | _ ↦ λ h. refl ])
    (sorted_far begins_before (ranks_by end_total (λ (r : RangeRow). r.first)) (v ∷ vs) up i j d (omega arith) inside) in
    let k = widest v vs (λ k d l. far 0 (suc k) d (omega arith) (omega arith))
    (λ i j d below inside. far (suc i) (suc j) d (omega arith) (omega arith)) in
    (rw is k.rise, λ a b. rw is (k.held a b ∙ sym (list_any-IsPermutation (contains a b) rows (v ∷ vs) moved)))

-- the last that begins no later than an end is the one that ends last

-- the last of the first `i` ranges ends no earlier than `b`; `d` stands for an index past the end
abbrev pub last_holds : RangeEnd → List RangeRow → ℕ → RangeRow → Bool
last_holds b rows zero d = false
last_holds b rows (suc i) d = is_up_to b (get_or rows i d).last

-- of ranges that rise, neither end of an earlier one is after that of a later one
rise_at : (rows : List RangeRow) → EndsRise rows → (i j : ℕ) (d e : RangeRow) → i ≤ j → j < length rows
    → IsBefore (get_or rows i d) (get_or rows j e)
rise_at (v ∷ rows) up zero zero d e le l = (itself v.first, itself v.last)
  where
    itself : (a : RangeEnd) → is_up_to a a ≡ true
    itself a = true_from_ne_false (is_up_to a a) (λ h. let k = other_way a a h in cc)
rise_at (v ∷ rows) up zero (suc j) d e le l = All-from_recursion (IsBefore v) rows up.0 j e (omega (arith, l))
rise_at (v ∷ rows) up (suc i) (suc j) d e le l = rise_at rows up.1 i j d e (omega (arith, le)) (omega (arith, l))
rise_at _ up i j d e le l = absurd (omega (arith, le, l))

-- where the first `i` of ranges that rise begin no later than `a`, and no others, some range holds `a` to `b` exactly
-- if the last of these does
held_at : (a b : RangeEnd) (rows : List RangeRow) (i : ℕ) (d : RangeRow) → EndsRise rows → i ≤ length rows
    → IsPartitionPoint (λ (v : RangeRow). is_up_to v.first a ≡ true) (λ (v : RangeRow). is_up_to v.first a
    ≡ false) rows i → list_any (contains a b) rows ≡ last_holds b rows i d
held_at a b rows zero d up l point = false_from_ne_true (list_any (contains a b) rows) (λ h.
    let f = Any-from_list_any (contains a b) rows h in
    let p = and_parts (is_up_to f.1.first a) (is_up_to b f.1.last) f.4 in
    let o = point.1 f.0 f.1 (omega arith) f.2 in
    cc)
held_at a b rows (suc i) d up l point = both_ways (list_any (contains a b) rows) (is_up_to b (get_or rows i d).last)
    (λ h.
    let f = Any-from_list_any (contains a b) rows h in
    let p = and_parts (is_up_to f.1.first a) (is_up_to b f.1.last) f.4 in
    elim (cases_lt f.0 (suc i)) [
      | inl n ↦ further end_total b f.1.last (get_or rows i d).last p.1
          (rw f.3 at (rise_at rows up f.0 i f.1 d (omega (arith, n)) (omega (arith, l))).1)
      | inr n ↦ let o = point.1 f.0 f.1 n f.2 in cc
    ])
    (λ h. list_any_at (contains a b) rows i d (omega (arith, l))
    (and_from (is_up_to (get_or rows i d).first a) (is_up_to b (get_or rows i d).last)
    (point.0 i d (omega (arith, l)) (omega arith)) h))

-- the ranges are parted by whether they begin no later than `a`, as a binary search asks, and the index `i` that it
-- finds tells whether some range holds `a` to `b`
pub search_finds : (a b : RangeEnd) (rows found : List RangeRow) (i : ℕ) (d : RangeRow) → EndsRise rows → found ≡ rows → i ≤ length found
    → (IsPartitionedBy (λ (v : RangeRow). is_up_to v.first a) found
    → IsPartitionPoint (λ (v : RangeRow). is_up_to v.first a ≡ true) (λ (v : RangeRow). is_up_to v.first a
    ≡ false) found i) → list_any (contains a b) rows ≡ last_holds b rows i d
search_finds a b rows found i d up same l point =
    held_at a b rows i d up (rw same at l)
    (rw same at
    (point (rw same (λ i j d le l h. further end_total (get_or rows i d).first (get_or rows j d).first a
    (rise_at rows up i j d d le l).0 h))))

-- ---- the ranges among entries contain what the entries cover

-- a range contains what it covers

-- `o` comes first, once as it is and once reversed, and then `p` and `q`: neither comparison says Greater exactly if
-- `o` says Equal (`t`) and neither `p` nor `q` says Greater (`r`)
first_equal : (o p q : Ordering) (t r : Bool) → t ≡ is_eq o → (is_le p && is_le q) ≡ r
    → (is_le (ordering_then o p) && is_le (ordering_then (ordering_reverse o) q)) ≡ (t && r)
first_equal Equal p q t r e h = rw e h
first_equal _ p q t r e h = rw e refl

-- two numbers come first, once `m` before `n` and once reversed, and then `p` and `q`: neither comparison says Greater
-- exactly if the numbers are equal (`t`) and neither `p` nor `q` says Greater (`r`)
layer : (m n : ℕ) (t : Bool) (p q : Ordering) (r : Bool) → t ≡ eqb m n → (is_le p && is_le q) ≡ r
    → (is_le (ordering_then (nat_cmp m n) p) && is_le (ordering_then (nat_cmp n m) q)) ≡ (t && r)
layer m n t p q r test rest =
    ap (λ o. is_le (ordering_then (nat_cmp m n) p) && is_le (ordering_then o q)) (nat_cmp_total.antisymm n m)
    ∙ first_equal (nat_cmp m n) p q t r (test ∙ unsigned_ties m n) rest

-- two kinds are the same exactly if their numbers are
kinds_compared : (k l : Kind) → same_kind k l ≡ eqb (kind_number k) (kind_number l)
kinds_compared k l =
    both_ways (same_kind k l) (eqb (kind_number k) (kind_number l))
    (λ h. eq-eqb (kind_number k) (kind_number l) (ap kind_number (same_kind_is k l h)))
    (λ h. ap (same_kind k) (sym (kinds_same k l (eqb-true (kind_number k) (kind_number l) h))) ∙ same_kind_itself k)

-- the order of bytes is the order of letters
pub letters_compared : (a b : List ℕ) → is_le (slice_cmp nat_cmp a b) ≡ letters_le a b
letters_compared a b = sym (letters_le_is a b
    ∙ elim (slice_cmp nat_cmp a b) as (λ o. at_most o ≡ is_le o) [ Less ↦ refl | Equal ↦ refl | Greater ↦ refl ])

-- the range from `c` to `d` of kind `k` contains, by its ends, that from `a` to `b` of kind `l` exactly if the kinds
-- are the same and the first range covers the second by its letters
range_agrees : (k l : Kind) (c d a b : List ℕ) → length c ≡ length d → length a ≡ length b
    → contains (range_end l a) (range_end l b) (record { first = range_end k c; last = range_end k d })
    ≡ (same_kind k l && covers (names.Range c d) a b)
range_agrees k l c d a b one other =
    layer (kind_number k) (kind_number l) (same_kind k l)
    (ordering_then (nat_cmp (length c) (length a)) (slice_cmp nat_cmp c a))
    (ordering_then (nat_cmp (length b) (length d)) (slice_cmp nat_cmp b d)) (covers (names.Range c d) a b)
    (kinds_compared k l)
    (rw (← other, ← one) (layer (length c) (length a) (length c == length a) (slice_cmp nat_cmp c a)
    (slice_cmp nat_cmp b d) (letters_le c a && letters_le b d) refl
    (rw (letters_compared c a, letters_compared b d) refl)))

module _ (kind : Kind) (first last : List ℕ) (one : length first ≡ length last) where
  -- a range holds the whole range that is asked for, from `first` to `last` of the kind
  abbrev asked : RangeRow → Bool
  asked = contains (range_end kind first) (range_end kind last)

  -- with the range of a record, if its name is one, before `rows`, whose answer is `rest`: one holds the range that is
  -- asked for exactly if the record covers it or `rest` is true
  name_agrees : (k : Kind) (name : EntryName) (rows : List RangeRow) (rest : Bool) → FitsName k name → list_any asked rows ≡ rest
      → list_any asked (cons_option (range_row k name) rows) ≡ ((same_kind k kind && covers name first last) || rest)
  name_agrees k (names.Range a b) rows rest fits h = rw (range_agrees k kind a b first last fits.one_length one, h) refl
  name_agrees k _ rows rest fits h = rw (and_right (same_kind k kind) false refl) h

  -- one of the ranges of a registry holds the range that is asked for exactly if a record covers it
  rows_agree : (R : List EntryParts) → AllByRecursion IsEntry R → list_any asked (range_rows R) ≡ some_covers R kind first last
  rows_agree [] forms = refl
  rows_agree (e ∷ es) forms = name_agrees e.kind e.name (range_rows es) (some_covers es kind first last) forms.0.name
      (rows_agree es forms.1)

-- the ranges of a registry hold what its records cover
pub rows_hold : (R : List EntryParts) → All IsEntry R → HoldRanges R (range_rows R)
rows_hold R forms kind first last one = rows_agree kind first last one R (recursion_from_All IsEntry R forms)

-- a range is covered

-- where the record `f` of the newer registry `B`, of the kind `k`, covers the range from `a` to `b`, `B` has a range
-- that does (`IsCovered`)
covered_at : (B : List EntryParts) (k : Kind) (a b : List ℕ) (f : EntryParts) → Contains B f → f.kind ≡ k
    → (n : EntryName) → f.name ≡ n → covers n a b ≡ true → IsCovered B k a b
covered_at B k a b f c e (names.Range x y) m h =
    let p = and_parts (length x == length a) (letters_le x a && letters_le b y) h in
    let q = and_parts (letters_le x a) (letters_le b y) p.1 in
    record {
      entry = f;
      there = c;
      of_kind = e;
      low = x;
      high = y;
      range = m;
      one_length = eqb-true (length x)
          (length a) p.0;
      from = q.0;
      to = q.1;
    }
covered_at B k a b f c e _ m h = cc

-- `r`, whether some record of the newer registry covers the range of the record `e`, tells whether `e` meets U1
pub covered_compared : (B : List EntryParts) (e : EntryParts) (k : Kind) (a b : List ℕ) (r : Bool)
    → e.name ≡ names.Range a b → k ≡ e.kind → r ≡ some_covers B k a b → IsTrue r ↔ StaysRegistered B e
covered_compared B e k a b r n m same =
    let covering : EntryParts → Bool = λ f. same_kind f.kind k && covers f.name a b in (
      (λ h.
          let found = Any-from_list_any covering B (sym same ∙ h) in
          let f = found.1 in
          let p = and_parts (same_kind f.kind k) (covers f.name a b) found.4 in
          record {
            single = λ s i. cc;
            range = λ c d i.
                let x : a ≡ c = cc in
                let y : b ≡ d = cc in
                rw (← m, ← x, ← y) (covered_at B k a b f (found.0, found.2, found.3) (same_kind_is f.kind k p.0) f.name refl p.1);
          }),
      (λ (s : StaysRegistered B e).
          let c = rw (← m) at (s.range a b n) in
          let passes : (same_kind c.entry.kind k && covers c.entry.name a b) ≡ true = rw (
            c.of_kind,
            same_kind_itself k,
            c.range,
            eq-eqb (length c.low) (length a) c.one_length,
            c.from,
            c.to,
          ) refl in
          same ∙ list_any-from_Any covering B (c.there.0, c.entry, c.there.1, c.there.2, passes)),
    )

-- What `KindIndex::place` needs: a search among the rows of one beginning, as `starts` gives them, finds what a search
-- in all rows does. A beginning is a number of the first two bytes of a subtag, and a span is the part of the rows that
-- have one beginning.
use Rattle.std.proofs.Common.{◌≡◌, ℕ, ◌+◌, ◌-◌, ◌<◌, ◌≤◌, Bool, true, eqb, List, [], ◌∷◌, ◌++◌, length, length-append}
use Rattle.std.proofs.Common.{replicate, get_or, refl, sym, ap, ◌∙◌, arith, inl, inr, Option, Some, None, ◌⊎◌, subst}
use Rattle.std.proofs.Common.{take, drop}
use Rattle.std.specs.List.{find, slice_get, HoldsAt, slice_range}
use Rattle.std.specs.List.Sorted.{IsNonDecreasingBy, IsPartitionPoint}
use Rattle.std.specs.Ordering.{nat_cmp, is_eq, ordering_reverse, ordering_index, is_lt}
use Rattle.std.specs.declared.cmp.Ordering.TheVariants.{Less, Equal, Greater}
use Rattle.std.proofs.lemmas.Bool.{cases_lt, eqb-true, ne_eqb, false_from_ne_true}
use Rattle.std.proofs.lemmas.Bool.Decides.{nat_tests}
use Rattle.std.proofs.lemmas.Cmp.{nat_cmp_total}
use Rattle.std.proofs.lemmas.List.{length-replicate, get_or_append_left, get_or-append_right, get_or-drop}
use Rattle.std.proofs.lemmas.List.{get_or-replicate, get_or-take, get_or_push, length-append, length-drop, length-take}
use Rattle.std.proofs.lemmas.List.{length_push, take-append-drop, take_all}
use Rattle.std.proofs.lemmas.List.Sorted.{searchable_from_sorted}
use Rattle.std.proofs.lemmas.List.Folds.{drop_split, find-append}
use Rattle.std.specs.Option.{option_map, option_or}
use Rattle.std.proofs.lemmas.Option.{slice_get_within, slice_get-get_or, get_or_from_slice_get, slice_get_read, same_Some}
use Rattle.std.proofs.lemmas.List.Elements.{All-push, All-from_get_or}
use Rattle.lt_registry.specs.Sorted.{place_of, RowsRise, beginning, IsInSpan, AreStarts, ends}
use Rattle.lt_registry.specs.declared.rows.Row.{Row}
use Rattle.lt_registry.proofs.SortedLemmas.{find_first, find_none, nats_equal}

-- a later row has a greater number
rise : (rows : List Row) (i m : ℕ) (v w : Row) → RowsRise rows → i < m → slice_get rows i ≡ Some v
    → slice_get rows m ≡ Some w → v.number < w.number
rise rows i m v w up l at to =
    let less = rw (get_or_from_slice_get rows i v v at, get_or_from_slice_get rows m w v to) at
    (up i m v l (slice_get_within rows m w to)) in
    grind (arith, nat_tests)

-- the row at the index `i` is in the span of the beginning `k`, as far as there are starts
pub record IsBegun (starts : List ℕ) (k i : ℕ) : Type 0 where
  pub listed : k < length starts
  pub started : get_or starts k 0 ≤ i
  pub not_ended : k + 1 < length starts → i < get_or starts (k + 1) 0

-- the starts that the first `i` rows make: none is greater than `i`, and they go no further than the beginning of a
-- later row
pub record StartsSoFar (rows : List Row) (i : ℕ) (starts : List ℕ) : Type 0 where
  pub begun : (j : ℕ) (w : Row) → j < i → slice_get rows j ≡ Some w → IsBegun starts (beginning w.number) j
  pub small : (k : ℕ) → k < length starts → get_or starts k 0 ≤ i
  pub short : (m : ℕ) (w : Row) → i ≤ m → slice_get rows m ≡ Some w → length starts ≤ beginning w.number + 1

-- a turn of the loop, for the row `w` at the index `i`: `more` are the starts, lengthened by `i` up to the beginning of
-- that row
module _ (rows : List Row) (i : ℕ) (w : Row) (starts more : List ℕ) (l : i < length rows) (is : w ≡ get_or rows i w)
    (up : RowsRise rows) (g : StartsSoFar rows i starts)
    (made : more ≡ take (beginning w.number + 1) starts ++ replicate (beginning w.number + 1 - length starts) i) where
  -- the row at the index is `w`
  pub here : slice_get rows i ≡ Some w
  here = slice_get_read rows (length rows) i w refl l is

  -- the starts go no further than the beginning of the row `w`
  starts_fit : length starts ≤ beginning w.number + 1
  starts_fit = g.short i w (omega arith) here

  -- no start is cut off, and each new one is `i`
  filled_up : more ≡ starts ++ replicate (beginning w.number + 1 - length starts) i
  filled_up = made
      ∙ ap (λ zs. zs ++ replicate (beginning w.number + 1 - length starts) i) (take_all (beginning w.number + 1) starts
      starts_fit)

  -- the last of the new starts is that of the row's beginning
  long : length more ≡ beginning w.number + 1
  long =
      let sum = ap length filled_up ∙ length-append starts (replicate (beginning w.number + 1 - length starts) i) in
      omega (arith, sum, length-replicate (beginning w.number + 1 - length starts) i, starts_fit)

  -- the starts that were there stay
  kept_start : (k : ℕ) → k < length starts → get_or more k 0 ≡ get_or starts k 0
  kept_start k h = ap (λ zs. get_or zs k 0) filled_up
      ∙ get_or_append_left starts (replicate (beginning w.number + 1 - length starts) i) 0 k h

  -- each start that was not there is `i`
  fresh : (k : ℕ) → length starts ≤ k → k < length more → get_or more k 0 ≡ i
  fresh k low high =
      ap (λ zs. get_or zs k 0) filled_up
      ∙ get_or-append_right starts (replicate (beginning w.number + 1 - length starts) i) (length
      starts) k 0 refl low
      ∙ get_or-replicate (beginning w.number + 1 - length starts) (k - length starts) i 0 (omega (arith, low, high, long))

  -- no start is greater than `i`
  pub low : (k : ℕ) → k < length more → get_or more k 0 ≤ i
  low k h =
      elim (cases_lt k (length starts)) [
        | inl old ↦ omega (arith, kept_start k old, g.small k old)
        | inr new ↦ omega (arith, fresh k new h)
      ]

  -- a row before `i` stays in its span
  still : (k j : ℕ) → j < i → IsBegun starts k j → IsBegun more k j
  still k j before b =
      record {
        listed = omega (arith, b.listed, long, starts_fit);
        started = omega (arith, kept_start k b.listed, b.started);
        not_ended = λ h.
            elim (cases_lt (k + 1) (length starts)) [
              | inl old ↦ omega (arith, kept_start (k + 1) old, b.not_ended old)
              | inr new ↦ omega (arith, fresh (k + 1) new h, before)
            ];
      }

  -- each of the first `i + 1` rows is in the span of its beginning
  pub turn : (j : ℕ) (v : Row) → j < i + 1 → slice_get rows j ≡ Some v → IsBegun more (beginning v.number) j
  turn j v m there =
      elim (cases_lt j i) [
        | inl before ↦ still (beginning v.number) j before (g.begun j v before there)
        | inr not_before ↦
            let last : i ≡ j = omega (arith, m, not_before) in
            let same : w ≡ v = same_Some w v (sym here ∙ ap (slice_get rows) last ∙ there) in
            subst (λ (x : Row). IsBegun more (beginning x.number) j) same
            record {
              listed = omega (arith, long);
              started = omega (arith, low (beginning w.number) (omega (arith, long)), last);
              not_ended = λ h. absurd (omega (arith, h, long));
            }
      ]

  -- the new starts are those that the first `i + 1` rows make
  pub starts_more : StartsSoFar rows (i + 1) more
  starts_more =
      record {
        begun = turn;
        small = λ k h. omega (arith, low k h);
        short = λ m v after there.
            let later : w.number < v.number = rise rows i m w v up (omega (arith, after)) here there in
            let after : beginning w.number ≤ beginning v.number = omega (arith, later) in
            omega (arith, long, after);
      }

-- the starts of all rows, and after them the count of the rows, are where the rows of each beginning start
pub starts_all : (rows : List Row) (starts ends : List ℕ) → StartsSoFar rows (length rows) starts
    → ends ≡ starts ++ length rows ∷ [] → AreStarts rows ends
starts_all rows starts ends g made =
    record {
      spans = λ i w there. ended i (beginning w.number) (slice_get_within rows i w there)
          (g.begun i w (slice_get_within rows i w there) there);
      bounded = subst (λ zs. (k d : ℕ) → k < length zs → get_or zs k d ≤ length rows) (sym made)
          (All-push (λ start. start ≤ length rows) starts (length rows)
          (All-from_get_or (λ start. start ≤ length rows) starts 0 g.small) (omega arith));
    }
  where
    -- with the count of the rows behind them there is one start more
    long : length ends ≡ length starts + 1
    long = ap length made ∙ length_push starts (length rows)

    -- the starts that were there stay
    kept_start : (k : ℕ) → k < length starts → get_or ends k 0 ≡ get_or starts k 0
    kept_start k h = ap (λ zs. get_or zs k 0) made ∙ get_or_append_left starts (length rows ∷ []) 0 k h

    -- the start behind them is the count of the rows
    last : (k : ℕ) → length starts ≡ k → get_or ends k 0 ≡ length rows
    last k h = ap (λ zs. get_or zs k 0) made ∙ get_or_push starts (length rows) 0 k h

    -- a row is in the span of its beginning, which ends at the next start or at the count of the rows
    ended : (i k : ℕ) → i < length rows → IsBegun starts k i → IsInSpan ends k i
    ended i k l b =
        record {
          listed = omega (arith, long, b.listed);
          started = omega (arith, kept_start k b.listed, b.started);
          not_ended =
              elim (cases_lt (k + 1) (length starts)) [
                | inl old ↦ omega (arith, kept_start (k + 1) old, b.not_ended old)
                | inr new ↦ omega (arith, last (k + 1) (omega (arith, new, b.listed)), l)
              ];
        }

-- a search in a part that has all that it looks for

-- a row among the first `n` is at the same index among all
in_front : (rows : List Row) (n j : ℕ) (w : Row) → slice_get (take n rows) j ≡ Some w → (j < n) × (slice_get rows j ≡ Some w)
in_front rows n j w there =
    let within : j < length (take n rows) = slice_get_within (take n rows) j w there in
    let bound : j < n = omega (arith, within, length-take n rows) in (
      bound,
      slice_get-get_or rows j w (omega (arith, within, length-take n rows))
          ∙ ap Some (sym (get_or-take n rows j w bound) ∙ get_or_from_slice_get (take n rows) j w w there),
    )

-- the row at the index `j` after the first `n` rows is at the index `n + j` among all
behind : (rows : List Row) (n j : ℕ) (w : Row) → slice_get (drop n rows) j ≡ Some w → slice_get rows (n + j) ≡ Some w
behind rows n j w there =
    let within : j < length (drop n rows) = slice_get_within (drop n rows) j w there in
    slice_get-get_or rows (n + j) w (omega (arith, within, length-drop n rows))
    ∙ ap Some (sym (get_or-drop n rows j w) ∙ get_or_from_slice_get (drop n rows) j w w there)

-- the first of an option and None that has a value is the option
or_none : {X : Type 0} (o : Option X) → option_or o None ≡ o
or_none None = refl
or_none (Some x) = refl

-- if all rows that pass are between the indexes `a` and `b`, a search there finds what a search in all rows does
found_in_part : (P : Row → Bool) (rows : List Row) (a b : ℕ) → a ≤ b
    → ((i : ℕ) (w : Row) → slice_get rows i ≡ Some w → P w ≡ true → (a ≤ i) × (i < b))
    → find P (slice_range rows a b) ≡ find P rows
found_in_part P rows a b order inside =
    let front : find P (take a rows) ≡ None =
    find_none P (take a rows) (λ j w there. false_from_ne_true (P w) (λ passes.
    let at = in_front rows a j w there in
    let low = inside j w at.1 passes in
    absurd (omega (arith, at.0, low.0)))) in
    let rest : find P (drop b rows) ≡ None =
    find_none P (drop b rows) (λ j w there. false_from_ne_true (P w) (λ passes.
    let high = inside (b + j) w (behind rows b j w there) passes in
    absurd (omega (arith, high.1)))) in
    sym
    (ap (find P) (sym (take-append-drop a rows) ∙ ap (λ zs. take a rows ++ zs) (drop_split rows a b order))
    ∙ find-append P (take a rows) (slice_range rows a b ++ drop b rows)
    ∙ ap (λ o. option_or o (find P (slice_range rows a b ++ drop b rows))) front
    ∙ find-append P (slice_range rows a b) (drop b rows)
    ∙ ap (option_or (find P (slice_range rows a b))) rest
    ∙ or_none (find P (slice_range rows a b)))

-- rows of the number

-- whether a row has the number `n`
abbrev pub has : ℕ → Row → Bool
has n w = eqb w.number n

-- the rows of a number are in the span of its beginning
spanned : (rows : List Row) (starts : List ℕ) (n : ℕ) → AreStarts rows starts → (i : ℕ) (w : Row)
    → slice_get rows i ≡ Some w → has n w ≡ true → IsInSpan starts (beginning n) i
spanned rows starts n g i w there passes = subst (λ m. IsInSpan starts (beginning m) i) (eqb-true w.number n passes) (g.spans i w there)

-- without a span there is no row of the number
no_span : (rows : List Row) (starts : List ℕ) (n : ℕ) → AreStarts rows starts
    → ((i : ℕ) → IsInSpan starts (beginning n) i → ⊥) → None ≡ place_of n rows
no_span rows starts n g none =
    sym (ap (option_map (λ (w : Row). w.place))
    (find_none (has n) rows (λ i w there. false_from_ne_true (has n w) (λ passes. none i (spanned rows starts n g i w there passes)))))

-- if the starts don't go as far as the end of a number's span, no row has the number
pub none_listed : (rows : List Row) (starts : List ℕ) (n : ℕ) → AreStarts rows starts → length starts ≤ beginning n + 1
    → None ≡ place_of n rows
none_listed rows starts n g past = no_span rows starts n g (λ i s. absurd (omega (arith, s.listed, past)))

-- if a number's span ends before it starts, or past the last row, no row has the number
pub none_alike : (rows : List Row) (starts : List ℕ) (n : ℕ) → AreStarts rows starts
    → (get_or starts (beginning n + 1) 0 < get_or starts (beginning n) 0)
    ⊎ (length rows < get_or starts (beginning n + 1) 0) → None ≡ place_of n rows
none_alike rows starts n g (inl turned) = no_span rows starts n g (λ i s. absurd (omega (arith, s.started, s.not_ended, turned)))
none_alike rows starts n g (inr long) = no_span rows starts n g
    (λ i s. absurd (omega (arith, g.bounded (beginning n + 1) 0 s.listed, long)))

-- the place of a number among the rows of its span is that among all rows
pub place_alike : (rows : List Row) (starts : List ℕ) (n : ℕ) → AreStarts rows starts
    → get_or starts (beginning n) 0 ≤ get_or starts (beginning n + 1) 0
    → place_of n (slice_range rows (get_or starts (beginning n) 0) (get_or starts (beginning n + 1) 0)) ≡ place_of n rows
place_alike rows starts n g order =
    ap (option_map (λ (w : Row). w.place)) (found_in_part (has n) rows (get_or starts (beginning n) 0)
    (get_or starts (beginning n + 1) 0) order
    (λ i w there passes. let s = spanned rows starts n g i w there passes in (s.started, s.not_ended)))

-- a part of sorted rows is sorted
pub part_rises : (rows part : List Row) (a b : ℕ) → RowsRise rows → a ≤ b → b ≤ length rows → part ≡ slice_range rows a b → RowsRise part
part_rises rows part a b up order within is i j d l m =
    let short : j < b - a = omega (arith, m, ap length is, length-take (b - a) (drop a rows)) in
    let at : (k : ℕ) → k < b - a → get_or part k d ≡ get_or rows (a + k) d = λ k h. ap (λ zs. get_or zs k d) is
    ∙ get_or-take (b - a) (drop a rows) k d h ∙ get_or-drop a rows k d in
    rw (at i (omega (arith, l, short)), at j short) (up (a + i) (a + j) d (omega (arith, l)) (omega (arith, short, within, order)))

-- what a binary search for a number finds

-- compared with `n`, the numbers of the rows don't fall, as a binary search requires
pub searchable : (rows : List Row) (n : ℕ) → RowsRise rows → IsNonDecreasingBy (λ (w : Row). ordering_index (nat_cmp w.number n)) rows
searchable rows n up =
    searchable_from_sorted nat_cmp_total (λ (w : Row). w.number) rows n
    (λ k d l m. ap is_lt (nat_cmp_total.antisymm (get_or rows (k + 1) d).number (get_or rows k d).number
    ∙ ap ordering_reverse (up k (k + 1) d (omega arith) m)))

-- a row that compares as equal has the place of the number
pub place_found : (rows : List Row) (n i : ℕ) → RowsRise rows → i < length rows → (d : Row)
    → HoldsAt (λ (v : Row). nat_cmp v.number n ≡ Equal) rows i → Some (get_or rows i d).place ≡ place_of n rows
place_found rows n i up l d tied =
    let w : Row = get_or rows i d in
    let there : slice_get rows i ≡ Some w = slice_get-get_or rows i d l in
    let passes : has n w ≡ true = sym (nats_equal w.number n) ∙ ap is_eq (tied d) in
    sym (ap (option_map (λ (v : Row). v.place))
    (find_first (has n) rows i w there passes (λ j v before at.
    let less : v.number < w.number = rise rows j i v w up before at there in
    ne_eqb v.number n (λ e. absurd (omega (arith, less, e, eqb-true w.number n passes))))))

-- if the search ends between lesser and greater numbers, no row has the number
pub place_missing : (rows : List Row) (n i : ℕ)
    → IsPartitionPoint (λ (v : Row). nat_cmp v.number n ≡ Less) (λ (v : Row). nat_cmp v.number n ≡ Greater) rows i
    → None ≡ place_of n rows
place_missing rows n i point =
    sym (ap (option_map (λ (v : Row). v.place))
    (find_none (has n) rows (λ j w there.
    let at : get_or rows j w ≡ w = get_or_from_slice_get rows j w w there in
    let within : j < length rows = slice_get_within rows j w there in
    elim (cases_lt j i) [
      | inl low ↦ sym (nats_equal w.number n) ∙ ap (λ (v : Row). is_eq (nat_cmp v.number n)) (sym at)
          ∙ ap is_eq (point.0 j w (omega arith) low)
      | inr high ↦ sym (nats_equal w.number n) ∙ ap (λ (v : Row). is_eq (nat_cmp v.number n)) (sym at) ∙ ap is_eq (point.1 j w high within)
    ])))

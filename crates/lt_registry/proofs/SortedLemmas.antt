-- A search in the sorted rows of an index finds the first entry that a search through all entries would find. That is
-- shown of rows with any keys, for the indexes of subtags and of whole tags.
use Rattle.std.proofs.Common.{◌≡◌, ℕ, zero, suc, ◌+◌, ◌<◌, ◌≤◌, Bool, true, false, eqb, List, [], ◌∷◌, length, get_or}
use Rattle.std.proofs.Common.{refl, sym, ap, ◌∙◌, arith, inl, inr, ◌&&◌, Option, Some, None, ◌⊎◌, subst}
use Rattle.std.specs.Prelude.{bytes_eq}
use Rattle.std.specs.List.{AllByRecursion, All, AllPairs, Any, Contains, find, slice_get, dedup, dedup_from}
use Rattle.std.specs.List.Sorted.{IsPermutation, IsSorted, IsStrictlySortedBy, IsNonDecreasingBy, IsPartitionPoint}
use Rattle.std.specs.Ordering.{nat_cmp, ordering_then, is_eq, ordering_reverse, ordering_index, is_lt, on}
use Rattle.std.specs.Cmp.{IsTotalOrder, Equal-is}
use Rattle.std.specs.declared.cmp.Ordering.TheVariants.{Less, Equal, Greater}
use Rattle.std.specs.Cmp.Lexicographic.{slice_cmp, pointwise}
use Rattle.std.proofs.lemmas.Bool.{cases_Bool, cases_lt, false_from_ne_true}
use Rattle.std.proofs.Math.Bool.{and-true, and-false}
use Rattle.std.proofs.lemmas.Bool.Decides.{nat_tests}
use Rattle.std.proofs.lemmas.Cmp.{nat_cmp_total, then_total, on_total, tied_back, tied_itself}
use Rattle.std.proofs.lemmas.List.Sorted.{sorted_far, ranks_by, searchable_from_sorted, Contains-permutation, All-permutation}
use Rattle.std.proofs.lemmas.List.MinMax.{ranks_by}
use Rattle.std.specs.Option.{option_cmp, option_eq}
use Rattle.std.specs.declared.cmp.Ordering.{Ordering}
use Rattle.std.proofs.lemmas.List.Filters.{All-dedup}
use Rattle.std.proofs.lemmas.Option.{slice_get_within, slice_get-get_or, get_or_from_slice_get, same_Some}
use Rattle.std.proofs.lemmas.List.Elements.{All-from_recursion, recursion_from_All}
use Rattle.std.proofs.lemmas.List.Kept.{AllPairs-cons, IsStrictlySortedBy-dedup}
use Rattle.lt_tag.specs.Parts.{ExtensionParts, TagForm, LangTag, PrivateUse, Grandfathered}
use Rattle.lt_tag.specs.Order.{subtag_cmp, list_cmp, extension_cmp, tag_cmp}
use Rattle.lt_tag.proofs.TagLemmas.{AllByRecursion-weaker}
use Rattle.lt_registry.specs.Sorted.{IsRowAt, AreRows, IsIndex}
use Rattle.lt_registry.specs.Same.{same_list, same_extension, same_tag}
use Rattle.lt_registry.specs.Parts.{EntryParts}

-- The order of tags says Equal exactly if two tags are the same, so a search by order finds what a test of equality
-- finds.

-- a first order and then a second one say Equal exactly if both do
pub then_equal : (a b : Ordering) → is_eq (ordering_then a b) ≡ (is_eq a && is_eq b)
then_equal Less b = refl
then_equal _ b = refl

-- the order of numbers says Equal exactly if the test finds them equal
pub nats_equal : (m n : ℕ) → is_eq (nat_cmp m n) ≡ eqb m n
nats_equal m n = grind (arith, nat_tests)

-- the order of lists says Equal exactly if the elements are equal one by one, where `R` orders and `E` tests elements
lists_equal : {A : Type 0} (R : A → A → Ordering) (E : A → A → Bool) → ((x y : A) → is_eq (R x y) ≡ E x y)
    → (xs ys : List A) → is_eq (slice_cmp R xs ys) ≡ pointwise E xs ys
lists_equal R E same (x ∷ xs) (y ∷ ys) = then_equal (R x y) (slice_cmp R xs ys) ∙ rw (same x y, lists_equal R E same xs ys) refl
lists_equal R E same [] [] = refl
lists_equal R E same _ _ = refl

-- the order of subtags says Equal exactly if they are equal
subtags_equal : (a b : List ℕ) → is_eq (subtag_cmp a b) ≡ bytes_eq a b
subtags_equal = lists_equal nat_cmp eqb nats_equal

-- the order of lists of subtags says Equal exactly if they are equal
many_equal : (a b : List (List ℕ)) → is_eq (list_cmp a b) ≡ same_list a b
many_equal = lists_equal subtag_cmp bytes_eq subtags_equal

-- the order of optional subtags says Equal exactly if they are equal
options_equal : (a b : Option (List ℕ)) → is_eq (option_cmp subtag_cmp a b) ≡ option_eq bytes_eq a b
options_equal (Some a) (Some b) = subtags_equal a b
options_equal None None = refl
options_equal _ _ = refl

-- the order of extensions says Equal exactly if they are equal
extensions_equal : (a b : ExtensionParts) → is_eq (extension_cmp a b) ≡ same_extension a b
extensions_equal a b = then_equal (nat_cmp a.singleton b.singleton) (list_cmp a.subtags b.subtags)
    ∙ rw (nats_equal a.singleton b.singleton, many_equal a.subtags b.subtags) refl

-- the order of tags says Equal exactly if they are the same
pub tags_equal : (t u : TagForm) → is_eq (tag_cmp t u) ≡ same_tag t u
tags_equal (LangTag c es ps) (LangTag d fs qs) = simp (
  then_equal,
  and-true,
  subtags_equal,
  options_equal,
  many_equal,
  lists_equal extension_cmp same_extension extensions_equal,
)
tags_equal (PrivateUse ps) (PrivateUse qs) = simp (then_equal, and-true, many_equal)
tags_equal (PrivateUse ps) (Grandfathered n) = then_equal (list_cmp ps []) Less ∙ and-false (is_eq (list_cmp ps []))
tags_equal (Grandfathered m) (PrivateUse qs) = then_equal (list_cmp [] qs) Greater ∙ and-false (is_eq (list_cmp [] qs))
tags_equal (Grandfathered m) (Grandfathered n) = nats_equal m n
tags_equal _ _ = refl

-- Sorted rows without repeats, and what a search in them finds.

-- membership by recursion

-- an element of the list has the property `P`
abbrev Has : {X : Type 0} → (X → Type 0) → List X → Type 0
Has P [] = ⊥
Has P (x ∷ xs) = P x ⊎ Has P xs

-- if an element has `P`, and `Q` follows from `P`, then an element has `Q`
has_more : {X : Type 0} (P Q : X → Type 0) → ((x : X) → P x → Q x) → (xs : List X) → Has P xs → Has Q xs
has_more P Q f [] h = absurd h
has_more P Q f (x ∷ xs) (inl p) = inl (f x p)
has_more P Q f (x ∷ xs) (inr h) = inr (has_more P Q f xs h)

-- `Has` gives `Any`, which names the element's index
any_from : {X : Type 0} (P : X → Type 0) (xs : List X) → Has P xs → Any P xs
any_from P [] h = absurd h
any_from P (x ∷ xs) (inl p) = (0, x, omega arith, refl, p)
any_from P (x ∷ xs) (inr h) = let r : Any P xs = any_from P xs h in (suc r.0, r.1, omega (arith, r.2), r.3, r.4)

-- the first element that passes a test

-- if each element fails the test, none is found
pub find_none : {X : Type 0} (P : X → Bool) (xs : List X) → ((p : ℕ) (e : X) → slice_get xs p ≡ Some e → P e ≡ false) → find P xs ≡ None
find_none P [] h = refl
find_none P (x ∷ xs) h = rw (h 0 x refl) (find_none P xs (λ p e k. h (suc p) e k))

-- what is found, and what is not

-- what is found is in the list and passes the test
pub found_passes : {X : Type 0} (P : X → Bool) (xs : List X) (e : X) → find P xs ≡ Some e → (i : ℕ) × (i < length xs)
    × (e ≡ get_or xs i e) × (P e ≡ true)
found_passes P [] e h = cc
found_passes P (x ∷ xs) e h =
    elim (cases_Bool (P x)) [
      | inl t ↦ let told : Some x ≡ Some e = rw t at h in let same = same_Some x e told in (0, omega arith, sym same, ap P (sym same) ∙ t)
      | inr f ↦ let told : find P xs ≡ Some e = rw f at h in let r = found_passes P xs e told in (suc r.0, omega (arith, r.1), r.2, r.3)
    ]

-- if none is found, each element fails the test
pub unfound_fails : {X : Type 0} (P : X → Bool) (xs : List X) → find P xs ≡ None → (i : ℕ) (e : X) → i < length xs
    → get_or xs i e ≡ e → P e ≡ false
unfound_fails P [] h i e l is = absurd (omega (arith, l))
unfound_fails P (x ∷ xs) h zero e l is = ap P (sym is) ∙ false_from_ne_true (P x) (λ t. let bad : Some x ≡ None = rw t at h in cc)
unfound_fails P (x ∷ xs) h (suc i) e l is =
    elim (cases_Bool (P x)) [
      | inl t ↦ let bad : Some x ≡ None = rw t at h in
          cc
      | inr f ↦ let told : find P xs ≡ None = rw f at h in unfound_fails P xs told i e (omega (arith, l)) is
    ]

-- an element that passes where no earlier one does is found
pub find_first : {X : Type 0} (P : X → Bool) (xs : List X) (p : ℕ) (e : X) → slice_get xs p ≡ Some e → P e ≡ true
    → ((j : ℕ) (f : X) → j < p → slice_get xs j ≡ Some f → P f ≡ false) → find P xs ≡ Some e
find_first P [] p e h t n = cc
find_first P (x ∷ xs) zero e h t n = let same : x ≡ e = cc in rw (ap P same ∙ t) (ap Some same)
find_first P (x ∷ xs) (suc p) e h t n = rw (n 0 x (omega arith) refl) (find_first P xs p e h t (λ j f l k. n (suc j) f (omega arith) k))

-- if `m` is not less than `n`, `n` is at most `m`
not_below : (m n : ℕ) → is_lt (nat_cmp m n) ≡ false → n ≤ m
not_below m n h = grind (arith, nat_tests)

-- if a first order and then a second one don't say Less, the first doesn't
front_upto : (a b : Ordering) → is_lt (ordering_then a b) ≡ false → is_lt a ≡ false
front_upto Less b h = h
front_upto _ b h = refl

-- whether there is a row, and its key is equal to `q`
abbrev pub matches : {W K : Type 0} → (K → K → Ordering) → (W → K) → K → Option W → Bool
matches cmp key q None = false
matches cmp key q (Some w) = is_eq (cmp (key w) q)

-- rows of any index: `key` and `place` give the key and the place of a row, and `cmp` orders keys
module _ {W K : Type 0} {cmp : K → K → Ordering} (total : IsTotalOrder cmp) (key : W → K) (place : W → ℕ) where
  -- the order of rows: by the keys, and rows of equal keys by their places
  abbrev pub row_cmp : W → W → Ordering
  row_cmp v w = ordering_then (cmp (key v) (key w)) (nat_cmp (place v) (place w))

  -- whether two rows have equal keys
  abbrev pub same_key : W → W → Bool
  same_key v w = is_eq (cmp (key v) (key w))

  -- the row `v` is not after `w` in that order
  abbrev Precedes : W → W → Type 0
  Precedes v w = (cmp (key v) (key w) ≡ Less) ⊎ ((cmp (key v) (key w) ≡ Equal) × (place v ≤ place w))

  -- no row of the list is after a later one
  abbrev Ascends : List W → Type 0
  Ascends [] = Unit {0}
  Ascends (x ∷ xs) = AllByRecursion (Precedes x) xs × Ascends xs

  -- the order of rows is a total order
  pub row_total : IsTotalOrder row_cmp
  row_total = then_total (on_total key total) (on_total place nat_cmp_total)

  -- `v` is not after `w` if `w` is not before `v`; `o` is the order of their keys
  precedes_by : (v w : W) (o : Ordering) → cmp (key v) (key w) ≡ o → is_lt (row_cmp w v) ≡ false → Precedes v w
  precedes_by v w Less e h = inl e
  precedes_by v w Equal e h =
      let back : cmp (key w) (key v) ≡ Equal = tied_back total (key v) (key w) e in
      inr (e, not_below (place w) (place v) (rw back at h))
  precedes_by v w Greater e h =
      let back : cmp (key w) (key v) ≡ Less = total.antisymm (key w) (key v) ∙ ap ordering_reverse e in
      let bad : true ≡ false = rw back at h in cc

  -- a list ascends if no row is after one of a greater index
  ascends : (xs : List W) → ((i j : ℕ) (d : W) → i < j → j < length xs → Precedes (get_or xs i d) (get_or xs j d)) → Ascends xs
  ascends [] h = tt
  ascends (x ∷ xs) h = (
    recursion_from_All (Precedes x) xs (λ k d l. h 0 (suc k) d (omega arith) (omega arith)),
    ascends xs (λ i j d l m. h (suc i) (suc j) d (omega arith) (omega arith)),
  )

  -- a sorted list ascends
  ascending : (xs : List W) → IsSorted row_cmp xs → Ascends xs
  ascending xs up =
      ascends xs (λ i j d l m. precedes_by (get_or xs i d) (get_or xs j d) (cmp (key (get_or xs i d)) (key (get_or xs j d))) refl
      (sorted_far (λ v w. is_lt (row_cmp v w)) (ranks_by row_total (λ w. w)) xs up i j d (omega arith) m))

  -- `v` has the key of `y`, and its place is not after that of `y`
  abbrev Near : W → W → Type 0
  Near y v = (cmp (key v) (key y) ≡ Equal) × (place v ≤ place y)

  -- if the row `x` has the key of `k` and isn't before it, a row near `k` (of its key and no later place) is near `x`
  near_next : (k x : W) → same_key x k ≡ true → Precedes k x → (v : W) → Near k v → Near x v
  near_next k x e pre v n =
      let back : cmp (key k) (key x) ≡ Equal = tied_back total (key x) (key k) ((Equal-is (cmp (key x) (key k))).0 e) in
      let low : place k ≤ place x = upto pre back in
      (total.congr (key v) (key k) (key x) n.0 ∙ back, omega (arith, n.1))
    where
      upto : Precedes k x → cmp (key k) (key x) ≡ Equal → place k ≤ place x
      upto (inl less) back = let bad : Less ≡ Equal = sym less ∙ back in cc
      upto (inr p) back = p.1

  -- dedup of ascending rows, after the kept row `k`: for each row, one of its key and of no later place stays
  keeps : (k : W) (xs : List W) → AllByRecursion (Precedes k) xs → Ascends xs
      → AllByRecursion (λ y. Has (Near y) (dedup_from same_key k xs)) (k ∷ xs)
  keeps k [] before up = (inl (tied_itself total (key k), omega arith), tt)
  keeps k (x ∷ xs) before up =
      let near = keeps k xs before.1 up.1 in
      let next = keeps x xs up.0 up.1 in
      elim (cases_Bool (same_key x k)) [
        | inl e ↦
            let same : dedup_from same_key k xs ≡ dedup_from same_key k (x ∷ xs) = rw e refl in
            subst (λ ds. AllByRecursion (λ y. Has (Near y) ds) (k ∷ x ∷ xs)) same (
              near.0,
              (
                has_more (Near k) (Near x) (near_next k x e before.0) (dedup_from same_key k xs) near.0,
                near.1,
              ),
            )
        | inr e ↦
            let same : k ∷ dedup_from same_key x xs ≡ dedup_from same_key k (x ∷ xs) = rw e refl in
            subst (λ ds. AllByRecursion (λ y. Has (Near y) ds) (k ∷ x ∷ xs)) same (
              inl (tied_itself total (key k), omega arith),
              AllByRecursion-weaker (λ y. Has (Near y) (dedup_from same_key x xs)) (λ y. Near y k
                  ⊎ Has (Near y) (dedup_from same_key x xs)) (λ y h. inr h) (x ∷ xs) next,
            )
      ]

  -- dedup of ascending rows: for each row, one of its key and of no later place stays
  kept : (xs : List W) → Ascends xs → (y : W) → Contains xs y → Has (Near y) (dedup same_key xs)
  kept [] up y c = absurd (omega (arith, c.1))
  kept (x ∷ xs) up y c =
      subst (λ z. Has (Near z) (dedup_from same_key x xs)) c.2
      (All-from_recursion (λ z. Has (Near z) (dedup_from same_key x xs)) (x ∷ xs) (keeps x xs up.0 up.1) c.0 y c.1)

  -- in a strictly sorted list each row has a lesser key than each later one
  rising_from : (xs : List W) → IsStrictlySortedBy (on key cmp) xs → AllPairs (λ v w. cmp (key v) (key w) ≡ Less) xs
  unfolding IsStrictlySortedBy
  rising_from [] h = λ i j d l m. absurd (omega arith)
  rising_from (x ∷ xs) h = AllPairs-cons (λ v w. cmp (key v) (key w) ≡ Less) x xs
      (All-from_recursion (λ w. cmp (key x) (key w) ≡ Less) xs h.0) (rising_from xs h.1)

  -- `row` gives the row that an entry at a place has, if any
  module _ (row : ℕ → EntryParts → Option W) (placed : (p : ℕ) (e : EntryParts) (w : W) → row p e ≡ Some w
      → place w ≡ p) (R : List EntryParts) where
    -- the rows of all entries (`raw`), sorted by key and place (`sorted`), of each key only the first (`rows`), are an
    -- index
    pub indexed : (raw sorted rows : List W) → AreRows row place R (length R) raw → IsPermutation raw sorted
        → IsSorted row_cmp sorted → rows ≡ dedup same_key sorted → IsIndex row place key cmp R rows
    indexed raw sorted rows g perm up is =
        record {
          rising = subst (AllPairs (λ v w. cmp (key v) (key w) ≡ Less)) (sym is)
              (rising_from (dedup same_key sorted) (IsStrictlySortedBy-dedup (on_total key total) (λ v w. refl) sorted
              (λ k d l m. front_upto _ _ (up k d l m))));
          sound = subst (All (IsRowAt row place R)) (sym is)
              (All-dedup same_key (IsRowAt row place R) sorted
              (All-permutation (IsRowAt row place R) raw sorted perm g.sound));
          complete = λ p e w there gives.
              let here : place w ≡ p = placed p e w gives in
              any_from (λ v. (cmp (key v) (key w) ≡ Equal) × (place v ≤ p)) rows
              (subst (Has (λ v. (cmp (key v) (key w) ≡ Equal) × (place v ≤ p))) (sym is)
              (has_more (Near w) (λ v. (cmp (key v) (key w) ≡ Equal) × (place v ≤ p)) (λ v n. (n.0, omega (arith, n.1)))
              (dedup same_key sorted)
              (kept sorted (ascending sorted up) w
              (Contains-permutation raw sorted w perm
              (g.complete p e w (slice_get_within R p e there) there gives)))));
        }

    -- two rows of an index that have equal keys are the same
    one_row : (rows : List W) → IsIndex row place key cmp R rows → (m i : ℕ) (u w : W) → m < length rows
        → i < length rows → get_or rows m u ≡ u → get_or rows i w ≡ w → cmp (key u) (key w) ≡ Equal → u ≡ w
    one_row rows ix m i u w lm li eu ew tied =
        let at_u : get_or rows i u ≡ w = get_or_from_slice_get rows i w u (slice_get-get_or rows i w li ∙ ap Some ew) in
        elim (cases_lt m i) [
          | inl before ↦
              let less : cmp (key u) (key w) ≡ Less = ap (λ z. cmp (key u) (key z)) (sym at_u)
              ∙ ap (λ z. cmp (key z) (key (get_or rows i u))) (sym eu) ∙ ix.rising m i u before li in
              let bad : Less ≡ Equal = sym less ∙ tied in cc
          | inr behind ↦ elim (cases_lt i m) [
            | inl after ↦
                let less : cmp (key w) (key u) ≡ Less = ap (λ z. cmp (key z) (key u)) (sym at_u)
                ∙ ap (λ z. cmp (key (get_or rows i u)) (key z)) (sym eu) ∙ ix.rising i m u after lm in
                let back : cmp (key w) (key u) ≡ Equal = tied_back total (key u) (key w) tied in
                let bad : Less ≡ Equal = sym less ∙ back in cc
            | inr not_after ↦
                let same : m ≡ i = omega arith in
                sym eu ∙ ap (λ k. get_or rows k u) same ∙ at_u
          ]
        ]

    -- what a search for the key `q` finds is the first entry of that key
    module _ (rows : List W) (ix : IsIndex row place key cmp R rows) (q : K) where
      -- by how their keys compare with `q`, rows don't fall: first those below it, then the equal ones, then those
      -- above it
      pub rises : IsNonDecreasingBy (λ w. ordering_index (cmp (key w) q)) rows
      rises = searchable_from_sorted total key rows q
          (λ k d l m. ap is_lt (total.antisymm (key (get_or rows (k + 1) d)) (key (get_or rows k d))
          ∙ ap ordering_reverse (ix.rising k (k + 1) d (omega arith) m)))

      -- an entry passes the test `P` exactly if its row has the key `q`
      module _ (P : EntryParts → Bool) (agree : (p : ℕ) (e : EntryParts) → slice_get R p ≡ Some e → P e ≡ matches cmp key q (row p e)) where
        -- for each entry that passes the test `P`, the index has a row of the key `q` whose place is not after the
        -- entry's
        near : (j : ℕ) (f : EntryParts) → slice_get R j ≡ Some f → P f ≡ true → Any (λ u. (cmp (key u) q ≡ Equal) × (place u ≤ j)) rows
        near j f there passes = by (row j f) refl (sym (agree j f there) ∙ passes)
          where
            by : (o : Option W) → row j f ≡ o → matches cmp key q o ≡ true → Any (λ u. (cmp (key u) q ≡ Equal) × (place u ≤ j)) rows
            by None gives e = cc
            by (Some v) gives e =
                let n = ix.complete j f v there gives in
                (n.0, n.1, n.2, n.3, (total.congr (key n.1) (key v) q n.4.0 ∙ (Equal-is (cmp (key v) q)).0 e, n.4.1))

        -- the entry of a row with the key `q` is the first that passes
        pub found : (i : ℕ) (w : W) → i < length rows → w ≡ get_or rows i w → cmp (key w) q ≡ Equal → find P R ≡ slice_get R (place w)
        found i w l ew is =
            let there : IsRowAt row place R w = subst (IsRowAt row place R) (sym ew) (ix.sound i w l) in
            find_first P R (place w) there.0 there.1 (agree (place w) there.0 there.1 ∙ ap (matches cmp key q) there.2 ∙ ap is_eq is)
            (λ j f low k. false_from_ne_true (P f) (λ passes.
            let n = near j f k passes in
            let tied : cmp (key n.1) (key w) ≡ Equal = total.congr (key n.1) q (key w) n.4.0 ∙ tied_back total (key w) q is in
            let same : n.1 ≡ w = one_row rows ix n.0 i n.1 w n.2 l n.3 (sym ew) tied in
            absurd (omega (arith, low, n.4.1, ap place same))))
            ∙ sym there.1

        -- if no row has the key `q`, no entry passes
        pub missing : ((i : ℕ) (w : W) → i < length rows → get_or rows i w ≡ w → cmp (key w) q ≡ Equal → ⊥) → find P R ≡ None
        missing none = find_none P R (λ j f k. false_from_ne_true (P f) (λ passes. let n = near j f k passes in none n.0 n.1 n.2 n.3 n.4.0))

        -- if the search ends between lesser and greater keys, no entry passes
        pub absent : (i : ℕ) → IsPartitionPoint (λ w. cmp (key w) q ≡ Less) (λ w. cmp (key w) q ≡ Greater) rows i → find P R ≡ None
        absent i point =
            missing (λ m w l e tied. elim (cases_lt m i) [
              | inl low ↦ let less : cmp (key w) q ≡ Less = ap (λ z. cmp (key z) q) (sym e) ∙ point.0 m w (omega arith) low in cc
              | inr high ↦ let more : cmp (key w) q ≡ Greater = ap (λ z. cmp (key z) q) (sym e) ∙ point.1 m w high l in cc
            ])

-- What `Tallies::count` does for one refused line more, whose fault has a tally already (`counted`) or none yet
-- (`begun`), makes of the tallies of the lines before it the tallies of all lines.
use Rattle.std.proofs.Common.{◌≡◌, ◌≤◌, ◌<◌, ◌+◌, ◌++◌, ◌∷◌, ◌∙◌, inl, inr, ℕ, zero, suc, List, [], true, false, Some}
use Rattle.std.proofs.Common.{None, cond, length, min, nat_lt, sym, ap, refl, subst, arith, get_or, set}
use Rattle.std.specs.List.{AllByRecursion, IsDistinct, count_by, find, position, position_or_len}
use Rattle.std.specs.Option.{option_or}
use Rattle.std.specs.Set.{is_member}
use Rattle.std.specs.Str.{bytes_eq}
use Rattle.std.proofs.lemmas.Bool.{cases_Bool, false_from_ne_true, ltb-false, or_left, or_right}
use Rattle.std.proofs.lemmas.Cmp.{nat_list_eq_equiv}
use Rattle.std.proofs.lemmas.List.{map-append}
use Rattle.std.proofs.lemmas.List.Folds.{find-append, list_any-append}
use Rattle.std.proofs.lemmas.List.Quantifiers.{position-Some}
use Rattle.std.proofs.lemmas.List.Sums.{count_by-le-length, sum_by-append}
use Rattle.std.proofs.lemmas.Map.Keys.{IsDistinct-head, IsDistinct-push, IsDistinct-tail}
use Rattle.std.proofs.lemmas.Slice.Eq.{bytes_eq-Decides}
use Rattle.lt_stream.specs.Tallies.{AreTallies, IsTally, Refused, faults_of, is_by, names_from, with_name}
use Rattle.lt_stream.specs.declared.tallies.Tally.{Tally}

-- where no line was refused, there is no tally
pub no_tallies : AreTallies [] []
unfolding IsDistinct
no_tallies = record { each = tt; once = tt; all = tt; order = refl }

-- two names that differ when they are compared in one order differ in the other
differs : (a b : List ℕ) → bytes_eq a b ≡ false → bytes_eq b a ≡ false
differs a b other = nat_list_eq_equiv.symm b a ∙ other

-- with one line more, a fault refused one more if it refused that line, and else as many as before
count_more : (fault : List ℕ) (lines : List Refused) (line : Refused) → count_by (is_by fault) (lines ++ line ∷ [])
    ≡ count_by (is_by fault) lines + cond (is_by fault line) 1 0
count_more fault lines line =
    sum_by-append (λ (l : Refused). cond (is_by fault l) 1 0) lines (line ∷ [])
    ∙ ap (λ n. count_by (is_by fault) lines + n) (elim (is_by fault line) as (λ t. 0 + cond t 1 0 ≡ cond t 1 0)
    [ true ↦ refl | false ↦ refl ])

-- the tally of another fault is right with one line more too
stays : (lines : List Refused) (line : Refused) (tally : Tally) → bytes_eq tally.fault.items line.fault ≡ false
    → IsTally lines tally → IsTally (lines ++ line ∷ []) tally
stays lines line tally other h = record {
  count = h.count ∙ sym (count_more tally.fault.items lines line ∙ rw other (omega arith));
  earliest = h.earliest;
  is_earliest = find-append (is_by tally.fault.items) lines (line ∷ [])
      ∙ ap (λ f. option_or f (find (is_by tally.fault.items) (line ∷ []))) h.is_earliest;
  number = h.number;
  text = h.text;
}

-- the tallies of other faults are right with one line more too
others_stay : (lines : List Refused) (line : Refused) (tallies : List Tally)
    → AllByRecursion (λ fault. bytes_eq line.fault fault ≡ false) (faults_of tallies)
    → AllByRecursion (IsTally lines) tallies → AllByRecursion (IsTally (lines ++ line ∷ [])) tallies
others_stay lines line [] other h = tt
others_stay lines line (tally ∷ tallies) other h =
    (stays lines line tally (differs line.fault tally.fault.items other.0) h.0, others_stay lines line tallies other.1 h.1)

-- the tally with this count of lines instead of its own
abbrev pub with_count : Tally → ℕ → Tally
with_count tally count = record { fault = tally.fault; lines = count; first = tally.first; text = tally.text }

-- the tally of the fault that refused one line more is right with that line if it counts one more
grows : (lines : List Refused) (line : Refused) (tally : Tally) (count : ℕ) → bytes_eq line.fault tally.fault.items
    ≡ true → count ≡ tally.lines + 1
    → IsTally lines tally → IsTally (lines ++ line ∷ []) (with_count tally count)
grows lines line tally count same more h = record {
  count = more ∙ ap (λ n. n + 1) h.count
      ∙ sym (count_more tally.fault.items lines line
      ∙ rw (nat_list_eq_equiv.symm tally.fault.items line.fault, same) refl);
  earliest = h.earliest;
  is_earliest = find-append (is_by tally.fault.items) lines (line ∷ [])
      ∙ ap (λ f. option_or f (find (is_by tally.fault.items) (line ∷ []))) h.is_earliest;
  number = h.number;
  text = h.text;
}

-- With one line more the tally at the place of its fault is right with one more counted, and the other tallies are
-- right as they are. d is any tally, given for places behind the last.
each_grows : (lines : List Refused) (line : Refused) (tallies : List Tally) (place count : ℕ) (d : Tally) → place < length tallies
    → bytes_eq line.fault (get_or tallies place d).fault.items ≡ true
    → ((k : ℕ) → k < place → bytes_eq line.fault (get_or tallies k d).fault.items ≡ false)
    → IsDistinct bytes_eq (faults_of tallies) → count ≡ (get_or tallies place d).lines + 1
    → AllByRecursion (IsTally lines) tallies
    → AllByRecursion (IsTally (lines ++ line ∷ [])) (set tallies place (with_count (get_or tallies place d) count))
each_grows lines line [] place count d at same before once more h = absurd (omega (arith, at))
each_grows lines line (tally ∷ tallies) zero count d at same before once more h =
    let name : line.fault ≡ tally.fault.items = (bytes_eq-Decides line.fault tally.fault.items).0 same in (
      grows lines line tally count same more h.0,
      others_stay lines line tallies
          (subst (λ (f : List ℕ). AllByRecursion (λ fault. bytes_eq f fault ≡ false) (faults_of tallies)) (sym name)
          (IsDistinct-head bytes_eq tally.fault.items (faults_of tallies) once)) h.1,
    )
each_grows lines line (tally ∷ tallies) (suc place) count d at same before once more h = (
  stays lines line tally (differs line.fault tally.fault.items (before 0 (omega arith))) h.0,
  each_grows lines line tallies place count d (omega (arith, at)) same (λ k less. before (suc k) (omega (arith, less)))
      (IsDistinct-tail bytes_eq tally.fault.items (faults_of tallies) once) more h.1,
)

-- the names of the tallies stay the same when one of them counts one more
same_faults : (tallies : List Tally) (place count : ℕ) (d : Tally) → place < length tallies
    → faults_of (set tallies place (with_count (get_or tallies place d) count)) ≡ faults_of tallies
same_faults [] place count d at = absurd (omega (arith, at))
same_faults (tally ∷ tallies) zero count d at = refl
same_faults (tally ∷ tallies) (suc place) count d at = ap (λ l. tally.fault.items ∷ l)
    (same_faults tallies place count d (omega (arith, at)))

-- the fault of the tally at a place is a member of the faults of the tallies
is_there : (fault : List ℕ) (tallies : List Tally) (place : ℕ) (d : Tally) → place < length tallies
    → bytes_eq fault (get_or tallies place d).fault.items ≡ true
    → is_member bytes_eq (faults_of tallies) fault ≡ true
is_there fault [] place d at same = absurd (omega (arith, at))
is_there fault (tally ∷ tallies) zero d at same = or_left (bytes_eq fault tally.fault.items)
    (is_member bytes_eq (faults_of tallies) fault) same
is_there fault (tally ∷ tallies) (suc place) d at same =
    or_right (bytes_eq fault tally.fault.items) (is_member bytes_eq (faults_of tallies) fault)
    (is_there fault tallies place d (omega (arith, at)) same)

-- what is true of each line, and of one more, is true of all
all_more : (P : Refused → Type 0) (lines : List Refused) (line : Refused) → AllByRecursion P lines → P line
    → AllByRecursion P (lines ++ line ∷ [])
all_more P [] line h last = (last, tt)
all_more P (l ∷ lines) line h last = (h.0, all_more P lines line h.1 last)

-- a tally counts no more lines than there are
fits : (lines : List Refused) (tallies : List Tally) (place : ℕ) (d : Tally) → place < length tallies
    → AreTallies lines tallies → (get_or tallies place d).lines ≤ length lines
fits lines tallies place d at t = by_each tallies place at t.each
  where
    by_each : (some : List Tally) (place : ℕ) → place < length some → AllByRecursion (IsTally lines) some
        → (get_or some place d).lines ≤ length lines
    by_each [] place at h = absurd (omega (arith, at))
    by_each (tally ∷ some) zero at h = omega (arith, h.0.count, count_by-le-length (is_by tally.fault.items) lines)
    by_each (tally ∷ some) (suc place) at h = by_each some place (omega (arith, at)) h.1

-- the names of the faults of these lines and one more are those of these lines, and the name of that line's fault if it
-- is new
names_more : (names : List (List ℕ)) (lines : List Refused) (line : Refused) → names_from names (lines ++ line ∷ [])
    ≡ with_name (names_from names lines) line.fault
names_more names [] line = refl
names_more names (l ∷ lines) line = names_more (with_name names l.fault) lines line

-- if one line more is refused by a fault that has a tally at this place, the tallies are right once that tally counts
-- one more
pub counted : (lines : List Refused) (line : Refused) (tallies : List Tally) (place count : ℕ) (tally : Tally)
    → position (λ (tally : Tally). bytes_eq line.fault tally.fault.items) tallies ≡ Some place → tally ≡ get_or tallies place tally
    → count ≡ min (tally.lines + 1) 18446744073709551615 → length lines + 1 < 18446744073709551616
    → AreTallies lines tallies → AreTallies (lines ++ line ∷ []) (set tallies place (with_count tally count))
counted lines line tallies place count tally found is counts room t =
    let p = position-Some (λ (tally : Tally). bytes_eq line.fault tally.fault.items) tallies place tally found in
    let names = same_faults tallies place count tally p.0 in
    let there = is_there line.fault tallies place tally p.0 p.1 in
    let short = fits lines tallies place tally p.0 t in
    let same : tally.lines ≡ (get_or tallies place tally).lines = ap (λ (other : Tally). other.lines) is in
    let more : count ≡ (get_or tallies place tally).lines + 1 = omega (arith, counts, short, room, same) in
    subst (λ (other : Tally). AreTallies (lines ++ line ∷ []) (set tallies place (with_count other count))) (sym is) (record {
      each = each_grows lines line tallies place count tally p.0 p.1 p.2 t.once more t.each;
      once = rw names t.once;
      all = rw names (all_more (λ l. is_member bytes_eq (faults_of tallies) l.fault ≡ true) lines line t.all there);
      order = names ∙ sym (names_more [] lines line ∙ rw (← t.order, there) refl);
    })

-- ---- the first line of a fault

-- where the search finds no tally of a fault, all are of other faults
unless_there : (fault : List ℕ) (tallies : List Tally) → position (λ (tally : Tally). bytes_eq fault tally.fault.items) tallies ≡ None
    → AllByRecursion (λ other. bytes_eq fault other ≡ false) (faults_of tallies)
unless_there fault tallies none =
    elim (cases_Bool (nat_lt (position_or_len (λ (tally : Tally). bytes_eq fault tally.fault.items) tallies)
    (length tallies))) [
      | inl there ↦
          let bad : Some (position_or_len (λ (tally : Tally). bytes_eq fault tally.fault.items) tallies) ≡ None =
          sym (ap (λ t. cond t (Some (position_or_len (λ (tally : Tally). bytes_eq fault tally.fault.items) tallies)) None) there) ∙ none in
          cc
      | inr far ↦ each_far tallies (ltb-false _ _ far)
    ]
  where
    each_far : (some : List Tally) → length some ≤ position_or_len (λ (tally : Tally). bytes_eq fault tally.fault.items) some
        → AllByRecursion (λ other. bytes_eq fault other ≡ false) (faults_of some)
    each_far [] far = tt
    each_far (tally ∷ some) far = elim (cases_Bool (bytes_eq fault tally.fault.items)) [
      | inl same ↦
          let here : length (tally ∷ some) ≤ 0 = rw same at far in
          absurd (omega (arith, here))
      | inr other ↦
          let later : length (tally ∷ some)
          ≤ 1 + position_or_len (λ (tally : Tally). bytes_eq fault tally.fault.items) some = rw other at far in
          (other, each_far some (omega (arith, later)))
    ]

-- where all faults differ from a fault, it is none of them
no_member : (fault : List ℕ) (faults : List (List ℕ)) → AllByRecursion (λ other. bytes_eq fault other ≡ false) faults
    → is_member bytes_eq faults fault ≡ false
no_member fault [] h = refl
no_member fault (other ∷ faults) h = rw (h.0, no_member fault faults h.1) refl

-- a fault that has no tally refused no line, so its first line is none
no_line : (fault : List ℕ) (faults : List (List ℕ)) (lines : List Refused) → is_member bytes_eq faults fault ≡ false
    → AllByRecursion (λ line. is_member bytes_eq faults line.fault ≡ true) lines
    → (count_by (is_by fault) lines ≡ 0) × (find (is_by fault) lines ≡ None)
no_line fault faults [] none h = (refl, refl)
no_line fault faults (line ∷ lines) none h =
    let other : bytes_eq fault line.fault ≡ false = false_from_ne_true (bytes_eq fault line.fault) (λ same.
    let name : fault ≡ line.fault = (bytes_eq-Decides fault line.fault).0 same in
    let bad : false ≡ true = sym none ∙ ap (is_member bytes_eq faults) name ∙ h.0 in cc) in
    let later = no_line fault faults lines none h.1 in
    (rw other later.0, rw other later.1)

-- if one line more is refused by a fault that has no tally, the tallies are right with a tally of that line put last
pub begun : (lines : List Refused) (line : Refused) (tallies : List Tally) (tally : Tally)
    → position (λ (other : Tally). bytes_eq line.fault other.fault.items) tallies ≡ None
    → tally.fault.items ≡ line.fault → tally.lines ≡ 1 → tally.first ≡ line.number → tally.text.items ≡ line.text
    → AreTallies lines tallies → AreTallies (lines ++ line ∷ []) (tallies ++ tally ∷ [])
begun lines line tallies tally none name one number text t =
    let others = unless_there line.fault tallies none in
    let absent = no_member line.fault (faults_of tallies) others in
    let before = no_line line.fault (faults_of tallies) lines absent t.all in
    let itself : bytes_eq line.fault line.fault ≡ true = nat_list_eq_equiv.refl line.fault in
    let names : faults_of (tallies ++ tally ∷ []) ≡ faults_of tallies ++ line.fault ∷ [] =
    map-append (λ (other : Tally). other.fault.items) tallies (tally ∷ []) ∙ ap (λ f. faults_of tallies ++ f ∷ []) name in
    record {
      each = tallies_more tallies (others_stay lines line tallies others t.each) (record {
        count = one ∙ sym (rw name (count_more line.fault lines line ∙ rw (before.0, itself) refl));
        earliest = line;
        is_earliest = rw name (find-append (is_by line.fault) lines (line ∷ []) ∙ rw (before.1, itself) refl);
        number = number;
        text = text;
      });
      once = rw names (IsDistinct-push nat_list_eq_equiv (faults_of tallies) line.fault t.once absent);
      all = rw names (all_more (λ l. is_member bytes_eq (faults_of tallies ++ line.fault ∷ []) l.fault ≡ true) lines line (kept lines t.all)
          (list_any-append (bytes_eq line.fault) (faults_of tallies) (line.fault ∷ []) ∙ or_right _ _ (or_left _ _ itself)));
      order = names ∙ sym (names_more [] lines line ∙ rw (← t.order, absent) refl);
    }
  where
    tallies_more : (some : List Tally) → AllByRecursion (IsTally (lines ++ line ∷ [])) some
        → IsTally (lines ++ line ∷ []) tally → AllByRecursion (IsTally (lines ++ line ∷ [])) (some ++ tally ∷ [])
    tallies_more [] h last = (last, tt)
    tallies_more (other ∷ some) h last = (h.0, tallies_more some h.1 last)

    kept : (some : List Refused) → AllByRecursion (λ l. is_member bytes_eq (faults_of tallies) l.fault ≡ true) some
        → AllByRecursion (λ l. is_member bytes_eq (faults_of tallies ++ line.fault ∷ []) l.fault ≡ true) some
    kept [] h = tt
    kept (l ∷ some) h = (list_any-append (bytes_eq l.fault) (faults_of tallies) (line.fault ∷ []) ∙ or_left _ _ h.0, kept some h.1)

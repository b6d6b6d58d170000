-- Lemmas for `Shortcuts`. A shortcut leads from a record to one further on in its chain of values, onward by at least
-- `n` values or to the chain's end. Two shortcuts, one after another, lead on by twice as many values, and so in the
-- end to the end of the chain.
use Rattle.std.proofs.Common.{rules, ◌≡◌, ℕ, zero, suc, ◌≤◌, ◌<◌, inl, inr, true, false, List, [], ◌∷◌, Option, Some}
use Rattle.std.proofs.Common.{None, refl, sym, ap, ◌∙◌, subst, length, slice_get, arith, ◌+◌, get_or, take, All, Bor}
use Rattle.std.proofs.Common.{is_some, set, Contains, ltb, ltb-true, ltb-false, length-take, Bool, ◌==◌}
use Rattle.std.specs.List.{AllWithin}
use Rattle.std.proofs.lemmas.Bool.{cases_lt, eqb-true, not-false}
use Rattle.std.specs.Prelude.{◌||◌, not}
use Rattle.std.specs.Option.{option_copied}
use Rattle.lt_registry.specs.Parts.{EntryParts}
use Rattle.lt_registry.specs.Entries.{entry, has_form, IsRegistry, NumbersRise}
use Rattle.lt_registry.specs.declared.entries.Kind.{Kind}
use Rattle.lt_rewrite.specs.CoreSteps.{chase, Ends}
use Rattle.lt_rewrite.specs.Conditions.{next_value, HasEndingChain}
use Rattle.lt_rewrite.proofs.Chains.{chase_rests, chase_next, chase_plus, chase_past}
use Rattle.lt_rewrite.proofs.Entries.{entry_of}
use Rattle.lt_rewrite.specs.ChainEnds.{following}
use Rattle.std.proofs.lemmas.List.Elements.{All-from_recursion}
use Rattle.lt_rewrite.specs.Cycles.{IsFirstCycle}
use Rattle.std.proofs.lemmas.List.{length-set, get_or-take, get_or_default}
use Rattle.std.proofs.lemmas.Option.{slice_get_within, slice_get_read, slice_get-get_or, get_or_from_slice_get, same_Some}
use Rattle.lt_rewrite.specs.Shortcuts.{IsOnward, LeadsTo, IsShortcut, LeadOn}
use Rattle.std.specs.List.Sorted.{IsNonDecreasingBy}
use Rattle.lt_rewrite.proofs.ChainWalks.{chain_ends_within, next, next_by, some, walk_form}

-- what is onward from `t` by `m` values is onward from `s` by `n` + `m`, if `t` is onward from `s` by `n`
onward_trans : (f : List ℕ → Option (List ℕ)) (n m : ℕ) (s t u : List ℕ) → IsOnward f n s t → IsOnward f m t u → IsOnward f (n + m) s u
onward_trans f n m s t u a b = (b.0 + a.0, omega (arith, a.1, b.1), chase_plus f b.0 a.0 s ∙ ap (chase f b.0) a.2 ∙ b.2)

-- what is onward by `n` values is onward by a lower number `m`, as `IsOnward` means at least so many values
onward_less : (f : List ℕ → Option (List ℕ)) (n m : ℕ) (s t : List ℕ) → m ≤ n → IsOnward f n s t → IsOnward f m s t
onward_less f n m s t le a = (a.0, omega (arith, le, a.1), a.2)

-- the next value is onward by 1
onward_next : (f : List ℕ → Option (List ℕ)) (s t : List ℕ) → f s ≡ Some t → IsOnward f 1 s t
onward_next f s t e = (1, omega arith, chase_next f 0 s t e)

-- if no value follows a subtag, it is onward from itself by any number of values, as the end of its chain
pub onward_rest : (f : List ℕ → Option (List ℕ)) (n : ℕ) (s : List ℕ) → f s ≡ None → IsOnward f n s s
onward_rest f n s e = (n, omega arith, chase_rests f n s e)

-- if a chain ends, no value follows what is onward by as many values as there are records
pub onward_end : (R : List EntryParts) (k : Kind) (s t : List ℕ) → IsOnward (next_value R k) (length R) s t
    → Ends (next_value R k) s → next_value R k t ≡ None
onward_end R k s t a ends =
    let done = chain_ends_within R k s ends in
    ap (next_value R k) (sym a.2 ∙ chase_past (next_value R k) (length R) a.0 s a.1 done) ∙ done

-- if a value follows what is onward by as many values as there are records, the chain has no end
pub onward_endless : (R : List EntryParts) (k : Kind) (s t u : List ℕ) → IsOnward (next_value R k) (length R) s t
    → next_value R k t ≡ Some u → Ends (next_value R k) s → ⊥
onward_endless R k s t u a e ends = let none : next_value R k t ≡ None = onward_end R k s t a ends in cc

-- what is onward from a subtag has the form of the kind, if the subtag has it
pub onward_form : (R : List EntryParts) → IsRegistry R → (k : Kind) (n : ℕ) (s t : List ℕ)
    → IsOnward (next_value R k) n s t → has_form k s ≡ true → has_form k t ≡ true
onward_form R G k n s t a h = walk_form R G k a.0 s t a.2 h

-- if `P` holds of each index other than `n` and the number there, and of `n` and `j`, it holds of all indices and their
-- numbers once `j` is set at `n`
pub each_set : (P : ℕ → ℕ → Type 0) (xs : List ℕ) (n j : ℕ)
    → ((i k : ℕ) → (i ≡ n → ⊥) → slice_get xs i ≡ Some k → P i k) → P n j → (i k : ℕ)
    → slice_get (set xs n j) i ≡ Some k → P i k
each_set P [] n j h p i k e = cc
each_set P (x ∷ xs) zero j h p zero k e = let same : j ≡ k = cc in subst (P 0) same p
each_set P (x ∷ xs) zero j h p (suc i) k e = h (suc i) k (λ z. omega (arith, z)) e
each_set P (x ∷ xs) (suc n) j h p zero k e = h zero k (λ z. omega (arith, z)) e
each_set P (x ∷ xs) (suc n) j h p (suc i) k e = each_set (λ m. P (suc m)) xs n j
    (λ m l other. h (suc m) l (λ z. other (omega (arith, z)))) p i k e

-- a shortcut by `n` values is one by a lower number `m`
shortcut_less : (R : List EntryParts) (n m i j : ℕ) → m ≤ n → IsShortcut R n i j → IsShortcut R m i j
shortcut_less R n m i j le a e v there follows =
    let l : LeadsTo R e.kind n v j = a e v there follows in
    let on = onward_less (next_value R e.kind) n m v l.value le l.onward in
    search rules

-- a shortcut from `i` to `j` by `n` values, and one from `j` to `k` by `m`, make one from `i` to `k` by `n` + `m`
shortcut_trans : (R : List EntryParts) (n m i j k : ℕ) → IsShortcut R n i j → IsShortcut R m j k → IsShortcut R (n + m) i k
shortcut_trans R n m i j k a b e v there follows =
    let w : LeadsTo R e.kind n v j = a e v there follows in
    let l : LeadsTo R w.entry.kind m w.value k = b w.entry w.value w.there w.follows in
    let on : IsOnward (next_value R e.kind) m w.value l.value = subst
    (λ (d : Kind). IsOnward (next_value R d) m w.value l.value) w.of_kind l.onward in
    let both = onward_trans (next_value R e.kind) n m v w.value l.value w.onward on in
    let kind = l.of_kind ∙ w.of_kind in
    search rules

-- shortcuts that lead onward by `n` values lead onward by a lower number `m`
pub lead_less : (R : List EntryParts) (n m : ℕ) (places : List ℕ) → m ≤ n → LeadOn R n places → LeadOn R m places
lead_less R n m places le h =
    let each = λ (i j : ℕ) (at : slice_get places i ≡ Some j). shortcut_less R n m i j le (h.shortcut i j at) in
    search rules

-- the shortcuts lead onward by `n` values, and those at places below `index` by twice as many
pub record PartDoubled (R : List EntryParts) (n index : ℕ) (places : List ℕ) : Type 0 where
  pub all : LeadOn R n places
  pub doubled : (i j : ℕ) → i < index → slice_get places i ≡ Some j → IsShortcut R (n + n) i j

-- once `index` is past the last place, all shortcuts are twice as long
pub all_doubled : (R : List EntryParts) (n index : ℕ) (places : List ℕ) → index ≡ length places
    → PartDoubled R n index places → LeadOn R (n + n) places
all_doubled R n index places is h =
    let twice = λ (i j : ℕ) (at : slice_get places i ≡ Some j). h.doubled i j (omega (arith, is, slice_get_within places i j at)) at in
    search rules

-- if the shortcut at `index` leads to `j`, and the one at `j` to `k`, and the one at `index` is set to `k`, one
-- shortcut more is twice as long
pub one_doubled : (R : List EntryParts) (n index j k : ℕ) (places : List ℕ) → slice_get places index ≡ Some j
    → slice_get places j ≡ Some k → PartDoubled R n index places → PartDoubled R n (index + 1) (set places index k)
one_doubled R n index j k places at next h =
    let twice : IsShortcut R (n + n) index k = shortcut_trans R n n index j k (h.all.shortcut index j at) (h.all.shortcut j k next) in
    let within = each_set (λ i l. l < length R) places index k (λ i l other. h.all.within i l) (h.all.within j k next) in
    let shortcut = each_set (IsShortcut R n) places index k (λ i l other. h.all.shortcut i l)
    (shortcut_less R (n + n) n index k (omega arith) twice) in
    let doubled = λ (i l : ℕ) (below : i < index + 1) (there : slice_get (set places index k) i ≡ Some l).
    each_set (λ i l. i < index + 1 → IsShortcut R (n + n) i l) places index k
    (λ i l other there less. h.doubled i l (omega (arith, less, other)) there) (λ less. twice) i l there below in
    let one_each = length-set places index k ∙ h.all.one_each in
    search rules

-- the value of the entry of a subtag that follows in a chain is the next value of the subtag
pub entry_next : (R : List EntryParts) (k : Kind) (s : List ℕ) (e : EntryParts) → entry R k s ≡ Some e → next_value R k s ≡ following k e
entry_next R k s e found = next_by R k s (Some e) (sym found)

-- if the value of the record at `j` is onward by 1 value from the value `w` of the entry at `i`, a shortcut by 1 value
-- leads from `i` to `j`
shortcut_of : (R : List EntryParts) (i j : ℕ) (e : EntryParts) (w : List ℕ) → slice_get R i ≡ Some e
    → following e.kind e ≡ Some w → LeadsTo R e.kind 1 w j → IsShortcut R 1 i j
shortcut_of R i j e w at next leads f v there follows =
    let same : e ≡ f = cc in
    let own : following f.kind f ≡ Some w = subst (λ (x : EntryParts). following x.kind x ≡ Some w) same next in
    let value : w ≡ v = cc in
    subst (λ x. LeadsTo R f.kind 1 x j) value (subst (λ (x : EntryParts). LeadsTo R x.kind 1 w j) same leads)

-- a shortcut by 1 value leads from the entry at `i` to the entry of its value `w`, which is at `j`, if a value follows
-- `w`
pub to_next : (R : List EntryParts) (i j : ℕ) (e next : EntryParts) (w u : List ℕ) → slice_get R i ≡ Some e
    → following e.kind e ≡ Some w → entry R e.kind w ≡ Some next → following next.kind next ≡ Some u
    → slice_get R j ≡ Some next → IsShortcut R 1 i j
to_next R i j e next w u at follows found then there =
    let kind : next.kind ≡ e.kind = (entry_of R e.kind w next found).of_kind in
    let on = onward_next (next_value R e.kind) w u (entry_next R e.kind w next found
    ∙ ap (λ (d : Kind). following d next) (sym kind) ∙ then) in
    shortcut_of R i j e w at follows (search rules)

-- a shortcut by 1 value leads from the entry at `i` to itself, if its value `w` is the end of its chain
pub to_itself : (R : List EntryParts) (i : ℕ) (e : EntryParts) (w : List ℕ) → slice_get R i ≡ Some e
    → following e.kind e ≡ Some w → next_value R e.kind w ≡ None → IsShortcut R 1 i i
to_itself R i e w at follows last =
    shortcut_of R i i e w at follows
    (record { entry = e; there = at; of_kind = refl; value = w; follows = follows; onward = onward_rest (next_value R e.kind) 1 w last })

-- if the entry `next` of `w` has no value that follows, none follows `w`
pub none_after : (R : List EntryParts) (k : Kind) (w : List ℕ) (next : EntryParts) → entry R k w ≡ Some next
    → following next.kind next ≡ None → next_value R k w ≡ None
none_after R k w next found follows = entry_next R k w next found
    ∙ ap (λ (d : Kind). following d next) (sym (entry_of R k w next found).of_kind) ∙ follows

-- if a call gave a value that follows (`o`), there is a value that follows
pub some_follows : (o : Option (Bor (List ℕ))) (r : Option (List ℕ)) → option_copied o ≡ r → is_some o ≡ true → (w : List ℕ) × (r ≡ Some w)
some_follows None r e h = cc
some_follows (Some v) r e h = (v.now, sym e)

-- if a call gave no value that follows (`o`), no value follows
pub none_follows : (o : Option (Bor (List ℕ))) (r : Option (List ℕ)) → option_copied o ≡ r → is_some o ≡ false → r ≡ None
none_follows None r e h = sym e
none_follows (Some v) r e h = cc

-- if the entry `e` is at the index `i` of the table, it is so in the registry `R`, and the place `j` to which its
-- shortcut leads is an index in it
pub led_to : (R es : List EntryParts) (items places : List ℕ) (i j : ℕ) (e : EntryParts) → LeadOn R (length R) places
    → es ≡ R → items ≡ places → slice_get es i ≡ Some e → j ≡ get_or items i j → (slice_get R i ≡ Some e)
    × (slice_get places i ≡ Some j) × (j < length es)
led_to R es items places i j e h same own at read =
    let here : i < length places = omega (arith, slice_get_within es i e at, ap (λ (xs : List EntryParts). length xs) same, h.one_each) in
    let led : slice_get places i ≡ Some j = slice_get_read places (length places) i j refl here
    (read ∙ ap (λ (ps : List ℕ). get_or ps i j) own) in (
      ap (λ xs. slice_get xs i) (sym same) ∙ at,
      led,
      omega (arith, h.within i j led, ap (λ (xs : List EntryParts). length xs) same),
    )

-- the record `last` to which the shortcut of the entry of `s` leads has a value that follows, and this is onward from
-- `s` by as many values as there are records
pub led_far : (R es : List EntryParts) (k : Kind) (s v : List ℕ) (items places : List ℕ) (i j : ℕ) (e last : EntryParts)
    → LeadOn R (length R) places → es ≡ R → items ≡ places → entry R k s ≡ Some e → following k e ≡ Some v
    → slice_get es i ≡ Some e → j ≡ get_or items i j → last ≡ get_or es j last → (w : List ℕ)
    × (following k last ≡ Some w) × IsOnward (next_value R k) (length R) s w
led_far R es k s v items places i j e last h same own found follows at read there =
    let led = led_to R es items places i j e h same own at read in
    let there : slice_get R j ≡ Some last = ap (λ xs. slice_get xs j) (sym same) ∙ slice_get_read es (length es) j last refl led.2 there in
    let kind : e.kind ≡ k = (entry_of R k s e found).of_kind in
    let l : LeadsTo R e.kind (length R) v j = h.shortcut i j led.1 e v led.0 (ap (λ (d : Kind). following d e) kind ∙ follows) in
    let one : l.entry ≡ last = same_Some l.entry last (sym l.there ∙ there) in
    let own : following last.kind last ≡ Some l.value = subst (λ (x : EntryParts). following x.kind x ≡ Some l.value) one l.follows in
    let its : last.kind ≡ k = ap (λ (x : EntryParts). x.kind) (sym one) ∙ l.of_kind ∙ kind in
    let on : IsOnward (next_value R k) (length R) v l.value = subst
    (λ (d : Kind). IsOnward (next_value R d) (length R) v l.value) kind l.onward in
    let next : IsOnward (next_value R k) 1 s v = onward_next (next_value R k) s v (entry_next R k s e found ∙ follows) in (
      l.value,
      ap (λ (d : Kind). following d last) (sym its) ∙ own,
      onward_less (next_value R k) (1 + length R) (length R) s l.value (omega arith)
          (onward_trans (next_value R k) 1 (length R) s v l.value next on),
    )

-- The places of records whose numbers rise.

-- a record further on in the registry has a higher number
rising_at : (R : List EntryParts) → NumbersRise R → (i k : ℕ) (c d : EntryParts) → i < k → k < length R
    → (get_or R i c).number < (get_or R k d).number
rising_at [] rise i k c d h b = absurd (omega (arith, b))
rising_at (x ∷ xs) rise i zero c d h b = absurd (omega (arith, h))
rising_at (x ∷ xs) rise zero (suc k) c d h b = All-from_recursion (λ (f : EntryParts). x.number < f.number) xs rise.0 k d (omega (arith, b))
rising_at (x ∷ xs) rise (suc i) (suc k) c d h b = rising_at xs rise.1 i k c d (omega (arith, h)) (omega (arith, b))

-- the numbers of a registry's records do not fall
pub not_falling : (R : List EntryParts) → NumbersRise R → IsNonDecreasingBy (λ (e : EntryParts). e.number) R
not_falling R rise i k d h b = elim (cases_lt i k) [
  | inl l ↦ omega (arith, rising_at R rise i k d d l b)
  | inr g ↦ let same : i ≡ k = omega (arith, h, g) in omega (arith, ap (λ j. (get_or R j d).number) same)
]

-- a record of the registry that is at no index below `i` and at none above is at `i`
there_at : (R : List EntryParts) (i : ℕ) (e : EntryParts) (c : Contains R e) → (i < c.0 → ⊥) → (c.0 < i → ⊥) → slice_get R i ≡ Some e
there_at R i e c not_before not_after =
    ap (slice_get R) (omega (arith, not_before, not_after)) ∙ slice_get-get_or R c.0 e c.1 ∙ ap some c.2

-- if the record at `i` has the number of the record `f`, `f` is the record at `i`
pub numbered_there : (R : List EntryParts) → NumbersRise R → (i : ℕ) (e f : EntryParts) → slice_get R i ≡ Some e
    → Contains R f → e.number ≡ f.number → slice_get R i ≡ Some f
numbered_there R rise i e f there c same =
    let numbers : (get_or R i e).number ≡ (get_or R c.0 f).number =
    ap (λ (x : EntryParts). x.number) (get_or_from_slice_get R i e e there) ∙ same ∙ ap (λ (x : EntryParts). x.number) (sym c.2) in
    there_at R i f c (λ h. omega (arith, numbers, rising_at R rise i c.0 e f h c.1))
    (λ h. omega (arith, numbers, rising_at R rise c.0 i f e h (slice_get_within R i e there)))

-- if the records at indices below `i` are those with lower numbers than `e`, `e` is at `i`
pub first_not_lower : (R : List EntryParts) → NumbersRise R → (i : ℕ) (e : EntryParts) → Contains R e → i ≤ length R
    → AllWithin (λ (x : EntryParts). ltb x.number e.number ≡ true) R 0 i
    → AllWithin (λ (x : EntryParts). ltb x.number e.number ≡ false) R i (length R) → slice_get R i ≡ Some e
first_not_lower R rise i e c within before after =
    let its : (get_or R c.0 e).number ≡ e.number = ap (λ (x : EntryParts). x.number) c.2 in
    there_at R i e c
    (λ h. let higher = ltb-false _ _ (after i e (omega arith) (omega (arith, h, c.1))) in
    omega (arith, higher, rising_at R rise i c.0 e e h c.1, its))
    (λ h. let lower = ltb-true _ _ (before c.0 e (omega arith) h) in omega (arith, lower, its))

-- if `P` holds of all records before the one at `i`, it holds of all records with lower numbers
pub lower_are_before : (P : EntryParts → Type 0) (R : List EntryParts) (i : ℕ) (e : EntryParts) → NumbersRise R
    → i < length R → e ≡ get_or R i e → All P (take i R) → All (λ (f : EntryParts). f.number < e.number → P f) R
lower_are_before P R i e rise h is all k d within below =
    let its : e.number ≡ (get_or R i d).number = ap (λ (x : EntryParts). x.number) (is ∙ get_or_default R i e d h) in
    elim (cases_lt k i) [
      | inl l ↦ subst P (get_or-take i R k d l) (all k d (omega (arith, l, within, length-take i R)))
      | inr g ↦ absurd (omega (arith, below, its, not_falling R rise i k d g within))
    ]

-- if the chain of the record at `i` has no end, and those of all records before it end, its number is that of the first
-- cycle
pub first_there : (R : List EntryParts) (i : ℕ) (e : EntryParts) → NumbersRise R → i < length R → e ≡ get_or R i e
    → All (HasEndingChain R) (take i R) → (HasEndingChain R e → ⊥) → IsFirstCycle R e.number
first_there R i e rise h is all endless =
    let there : Contains R e = (i, h, sym is) in
    let lower = lower_are_before (HasEndingChain R) R i e rise h is all in
    search rules

-- if `grew` is false after a shortcut was made longer, none before it leads elsewhere, and its new place, `next`, is
-- its old one
pub unmoved : (grew : Bool) (next place : ℕ) → (grew || not (next == place)) ≡ false → (grew ≡ false) × (next ≡ place)
unmoved true next place h = let bad : true ≡ false = h in cc
unmoved false next place h = (refl, eqb-true next place (not-false (next == place) h))

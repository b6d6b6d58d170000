-- What `RangeNames` needs: in a set of ranges that is in order, a look-up tells whether a range is there, and an added
-- range changes only the answer to this range.
use Rattle.std.proofs.Common.{◌≡◌, ◌↔◌, ◌⊎◌, inl, inr, true, not, cond, ℕ, Bool, List, ap, subst, arith, IsTrue, Contains}
use Rattle.std.specs.Bool.{Decides}
use Rattle.std.specs.List.{list_any}
use Rattle.std.specs.Ordering.{nat_cmp, ordering_then, eq_by_cmp}
use Rattle.std.specs.Cmp.{IsTotalOrder}
use Rattle.std.specs.Cmp.Lexicographic.{slice_cmp}
use Rattle.std.specs.declared.cmp.Ordering.{Ordering}
use Rattle.std.proofs.lemmas.Bool.{cases_Bool}
use Rattle.std.proofs.lemmas.Bool.Decides.{Decides-at, Decides-not}
use Rattle.std.proofs.lemmas.Cmp.{eq_by_cmp_equiv, on_total, then_total, nat_cmp_total, nat_list_cmp_total}
use Rattle.std.proofs.lemmas.Map.Lookups.{CmpEqualImpliesEq, exact_bytes, exact_pairs, exact_unsigned}
use Rattle.std.proofs.lemmas.Map.Views.{tells_apart, Contains-from_any, list_any-from_Contains}
use Rattle.lt_check.specs.declared.range_names.RangeName.{RangeName}

-- the order of ranges: by the kind, then the first subtag, then the last
abbrev pub range_order : RangeName → RangeName → Ordering
range_order a b = ordering_then (nat_cmp a.kind b.kind)
    (ordering_then (slice_cmp nat_cmp a.first b.first) (slice_cmp nat_cmp a.last b.last))

-- the order of ranges is a total order
ranges_total : IsTotalOrder range_order
ranges_total = then_total (on_total (λ r. r.kind) nat_cmp_total)
    (then_total (on_total (λ r. r.first) nat_list_cmp_total) (on_total (λ r. r.last) nat_list_cmp_total))

-- only equal ranges tie in the order of ranges
exact_ranges : CmpEqualImpliesEq range_order
exact_ranges a b h =
    ap (λ (p : ℕ × (List ℕ × List ℕ)). record { kind = p.0; first = p.1.0; last = p.1.1 })
    (exact_pairs nat_cmp _ exact_unsigned (exact_pairs _ _ exact_bytes exact_bytes) (a.kind, (a.first, a.last))
    (b.kind, (b.first, b.last)) h)

-- a look-up by the order of ranges decides whether a range is in the list
there : (xs : List RangeName) (a : RangeName) → Decides (list_any (eq_by_cmp range_order a) xs) (Contains xs a)
there xs a = (Contains-from_any (tells_apart exact_ranges) a xs, list_any-from_Contains (eq_by_cmp_equiv ranges_total) a xs)

-- `added`, whether the look-up of a range failed, tells whether the range is new
pub new_or_there : (xs : List RangeName) (a : RangeName) (added : Bool)
    → added ≡ not (list_any (eq_by_cmp range_order a) xs) → IsTrue added ↔ (Contains xs a → ⊥)
new_or_there xs a added e = Decides-at added _ e (Decides-not _ (there xs a))

-- if `ys` answers look-ups as `xs` does, but has the range `a` too, then it contains what `xs` does, and `a`
pub added_to : (xs ys : List RangeName) (a : RangeName)
    → ((q : RangeName) → list_any (eq_by_cmp range_order q) ys
    ≡ cond (eq_by_cmp range_order a q) true (list_any (eq_by_cmp range_order q) xs)) → (q : RangeName) → Contains ys q
    ↔ (Contains xs q ⊎ (a ≡ q))
added_to xs ys a u q =
    let same = u q in (
      (λ c. let now = (there ys q).1 c in elim (cases_Bool (eq_by_cmp range_order a q)) [
        | inl e ↦ inr (tells_apart exact_ranges a q e)
        | inr e ↦ inl ((there xs q).0 (grind arith))
      ]),
      (λ h. (there ys q).0 (elim h [
        | inl c ↦ (let old = (there xs q).1 c in grind arith)
        | inr e ↦ (let here = subst (λ r. eq_by_cmp range_order a r ≡ true) e ((eq_by_cmp_equiv ranges_total).refl a) in grind arith)
      ])),
    )

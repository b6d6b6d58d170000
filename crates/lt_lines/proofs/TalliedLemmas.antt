-- Lemmas for `count_if`: the tallies of some lines become those of these lines and a further one, which is counted if
-- it is refused.
use Rattle.std.proofs.Common.{◌≡◌, ◌≤◌, ◌<◌, ◌+◌, ◌++◌, ◌∷◌, inl, inr, ℕ, List, [], Bool, true, false, length, ap, refl, subst, arith}
use Rattle.lt_stream.specs.Tallies.{Refused}
use Rattle.lt_stream.specs.declared.tallies.Tally.{Tally}
use Rattle.lt_lines.specs.Owed.{AreRepliesFrom, Reply, Terms}
use Rattle.lt_lines.specs.Tallied.{AreRefused, AreTalliesOf, CountsIf, IsRefusedAs}
use Rattle.lt_lines.specs.declared.forms.LineForm.{LineForm}

-- no more lines are refused than are answered, so that their count fits into 64 bits if that of the answers does
refused_fewer : (form : LineForm) (number : ℕ) (lines : List (List ℕ)) (replies : List Reply) (refusals : List Refused)
    → AreRefused form number lines replies refusals → length refusals ≤ length replies
refused_fewer form number (line ∷ lines) (r ∷ replies) refusals (inl kept) = let fewer = refused_fewer form (number + 1)
    lines replies refusals kept.1 in omega (arith, fewer)
refused_fewer form number (line ∷ lines) (r ∷ replies) refusals (inr h) =
    let fewer = refused_fewer form (number + 1) lines replies h.1 h.5 in omega (arith, ap length h.3, fewer)
refused_fewer form number lines replies refusals h = omega (arith, ap length h)

-- after a further line, whose answer `r` is no refusal, the refused lines are the same
none_more : (T : Terms) (form : LineForm) (first : Bool) (number : ℕ) (lines : List (List ℕ)) (replies : List
    Reply) (refusals : List Refused) (line : List ℕ) (r : Reply) → AreRepliesFrom T first lines replies
    → r.refused ≡ false → AreRefused form number lines replies refusals
    → AreRefused form number (lines ++ line ∷ []) (replies ++ r ∷ []) refusals
none_more T form first number [] [] refusals line r each stays h = inl (stays, h)
none_more T form first number (l ∷ lines) (o ∷ replies) refusals line r each stays (inl h) =
    inl (h.0, none_more T form false (number + 1) lines replies refusals line r each.1 stays h.1)
none_more T form first number (l ∷ lines) (o ∷ replies) refusals line r each stays (inr h) =
    inr (h.0, h.1, h.2, h.3, h.4, none_more T form false (number + 1) lines replies h.1 line r each.1 stays h.5)
none_more T form first number lines replies refusals line r each stays h = absurd each

-- after a further line, whose answer `r` is a refusal, the refused lines have one more at their end, `one`
one_more : (T : Terms) (form : LineForm) (first : Bool) (number : ℕ) (lines : List (List ℕ)) (replies : List Reply)
    (refusals : List Refused) (line : List ℕ) (r : Reply) (one : Refused)
    → AreRepliesFrom T first lines replies → r.refused ≡ true → IsRefusedAs form (number + length replies) line r.bytes one
    → AreRefused form number lines replies refusals → AreRefused form number (lines ++ line ∷ []) (replies ++ r ∷ []) (refusals ++ one ∷ [])
one_more T form first number [] [] refusals line r one each refuses is h =
    inr (
      one,
      [],
      refuses,
      ap (λ (l : List Refused). l ++ one ∷ []) h,
      subst (λ (n : ℕ). IsRefusedAs form n line r.bytes one) (omega arith) is,
      refl,
    )
one_more T form first number (l ∷ lines) (o ∷ replies) refusals line r one each refuses is (inl h) =
    inl (
      h.0,
      one_more T form false (number + 1) lines replies refusals line r one each.1 refuses
          (subst (λ (n : ℕ). IsRefusedAs form n line r.bytes one) (omega arith) is) h.1,
    )
one_more T form first number (l ∷ lines) (o ∷ replies) refusals line r one each refuses is (inr h) =
    inr (
      h.0,
      h.1 ++ one ∷ [],
      h.2,
      ap (λ (l : List Refused). l ++ one ∷ []) h.3,
      h.4,
      one_more T form false (number + 1) lines replies h.1 line r one each.1 refuses
          (subst (λ (n : ℕ). IsRefusedAs form n line r.bytes one) (omega arith) is) h.5,
    )
one_more T form first number lines replies refusals line r one each refuses is h = absurd each

-- a further line was answered by `r`, and counted if that is a refusal: the new tallies are those of all lines
pub tallied_more : (T : Terms) (lines : List (List ℕ)) (replies : List Reply) (line : List ℕ) (r : Reply) (old new
    : List Tally) → AreRepliesFrom T true lines replies
    → length replies + 1 < 18446744073709551616 → AreTalliesOf T.form lines replies old
    → CountsIf T.form (length replies + 1) line r.bytes r.refused old new
    → AreTalliesOf T.form (lines ++ line ∷ []) (replies ++ r ∷ []) new
tallied_more T lines replies line r old new each room t counts = by_refused r.refused refl counts
  where
    by_refused : (refused : Bool) → r.refused ≡ refused
        → CountsIf T.form (length replies + 1) line r.bytes refused old new
        → AreTalliesOf T.form (lines ++ line ∷ []) (replies ++ r ∷ []) new
    by_refused false stays same = record {
      refusals = t.refusals;
      are_refused = none_more T T.form true 1 lines replies t.refusals line r each stays t.are_refused;
      tallied = rw same t.tallied;
    }
    by_refused true refuses one = record {
      refusals = t.refusals ++ one.one ∷ [];
      are_refused = one_more T T.form true 1 lines replies t.refusals line r one.one each refuses
          (subst (λ (n : ℕ). IsRefusedAs T.form n line r.bytes one.one) (omega arith) one.is_refused) t.are_refused;
      tallied = one.counted t.refusals (omega (arith, room, refused_fewer T.form 1 lines replies t.refusals t.are_refused)) t.tallied;
    }

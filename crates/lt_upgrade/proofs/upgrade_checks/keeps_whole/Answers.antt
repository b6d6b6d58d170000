use Rattle.std.proofs.Common.{◌≡◌, refl}
use Rattle.lt_upgrade.proofs.UpgradeChecks.{whole_distinct, value_meets}
use Rattle.lt_upgrade.proofs.upgrade_checks.keeps_whole.Goals as goal

-- `meet_in_canonical` may be called, whose tags may not repeat a variant: in a checked registry neither the tag of a
-- whole record nor its value does
pub meet_in_canonical-requires : goal.meet_in_canonical-requires
meet_in_canonical-requires g c =
    let distinct = whole_distinct (g.A.Lookup.listed c.args.older.now) c.table.ensures.checked c.args.entry.now
    c.requires c.in-Some.tag.now c.in-Some.value.now c.in-Some.ensures.0 c.in-Some.ensures.1 in
    record { first = distinct.0; second = distinct.1 }

-- true is right, as U6 is met: a tag that the newer registry replaces by this value, and the value, reach one canonical
-- tag
pub returns-in-Some : goal.returns-in-Some
returns-in-Some g c = (
  (λ h t u n o.
      let tag : c.in-Some.tag.now ≡ t = cc (c.in-Some.ensures.0, n) in
      let value : c.in-Some.value.now ≡ u = cc (c.in-Some.ensures.1, o) in
      rw (← tag, ← value) (value_meets (g.B.Lookup.listed c.args.newer.now) c.table-table.ensures.checked
      c.in-Some.tag.now c.in-Some.value.now
      (rw c.table-table.ensures.value at (c.replaces.ensures c.if-replaces.true)))),
  (λ m. refl),
)

use Rattle.std.proofs.Common.{◌≡◌, ◌≤◌, ◌+◌, ℕ, List, length, ap, length-append, arith}
use Rattle.std.specs.Prelude.{flat_map}
use Rattle.lt_tag.specs.Parts.{KeywordParts, UForm}
use Rattle.lt_tag.specs.Extensions.{spell_keyword, spell_u, IsU}
use Rattle.lt_rewrite.specs.Runs.{kind_rank}
use Rattle.lt_rewrite.specs.Applying.{UnicodeLeads}
use Rattle.lt_rewrite.proofs.PartForms.{attributes_count, u_shaped}
use Rattle.lt_rewrite.proofs.FirstSteps.{adds_keeps}
use Rattle.lt_rewrite.proofs.ListSteps.{drops_few, swaps_few}
use Rattle.lt_rewrite.proofs.ExtensionLeading.{one_subtag, u_parts}
use Rattle.lt_rewrite.proofs.PartRuns.{unicode_explained}
use Rattle.lt_rewrite.proofs.unicode_explaining.explain_u.Goals as goal

-- the places of the attributes and of the keywords keep the bound 1,200,000 that those of the whole extension keep
all_few : (start : ℕ) (p : UForm) (xs : List (List ℕ)) (ks : List KeywordParts) → u_parts xs ks ≡ p
    → start + length (spell_u p) ≤ 1200000
    → start + length (flat_map one_subtag xs) + length (flat_map spell_keyword ks) ≤ 1200000
all_few start p xs ks e h =
    let f = ap (λ u. length (spell_u u)) e in
    omega (arith, h, attributes_count xs, length-append xs (flat_map spell_keyword ks), f)

-- the places are below 2^32, here and in the calls after this: the attributes are among the subtags of the extension
pub explain_drops-requires : goal.explain_drops-requires
explain_drops-requires c =
    omega (
      arith,
      all_few c.args.start c.args.parts.now c.parts.inside.attributes.items c.parts.inside.keywords.items
          c.parts.view_is c.requires.few,
    )

-- after drops there are no more attributes
pub explain_swaps-requires : goal.explain_swaps-requires
explain_swaps-requires c =
    omega (
      arith,
      all_few c.args.start c.args.parts.now c.parts.inside.attributes.items c.parts.inside.keywords.items
          c.parts.view_is c.requires.few,
      drops_few c.in_ok-explain_drops.ensures.adds,
    )

-- after drops and exchanges there are no more attributes, and the keywords begin after them
pub explain_drops-requires-2 : goal.explain_drops-requires-2
explain_drops-requires-2 c =
    omega (
      arith,
      all_few c.args.start c.args.parts.now c.parts.inside.attributes.items c.parts.inside.keywords.items
          c.parts.view_is c.requires.few,
      drops_few c.in_ok-explain_drops.ensures.adds,
      swaps_few c.in_ok-explain_swaps.ensures.adds,
      attributes_count c.explain_swaps.new.parts.items,
      c.len.ensures,
      c.explain_swaps.new.parts.ok.0,
    )

-- after drops the keywords have no more subtags
pub explain_swaps-requires-2 : goal.explain_swaps-requires-2
explain_swaps-requires-2 c =
    omega (
      arith,
      all_few c.args.start c.args.parts.now c.parts.inside.attributes.items c.parts.inside.keywords.items
          c.parts.view_is c.requires.few,
      drops_few c.in_ok-explain_drops.ensures.adds,
      swaps_few c.in_ok-explain_swaps.ensures.adds,
      attributes_count c.explain_swaps.new.parts.items,
      c.len.ensures,
      c.explain_swaps.new.parts.ok.0,
      drops_few c.in_ok-explain_drops-2.ensures.adds,
    )

-- after drops and exchanges the keywords have no more subtags
pub drop_trues-requires : goal.drop_trues-requires
drop_trues-requires c =
    omega (
      arith,
      all_few c.args.start c.args.parts.now c.parts.inside.attributes.items c.parts.inside.keywords.items
          c.parts.view_is c.requires.few,
      drops_few c.in_ok-explain_drops.ensures.adds,
      swaps_few c.in_ok-explain_swaps.ensures.adds,
      attributes_count c.explain_swaps.new.parts.items,
      c.len.ensures,
      c.explain_swaps.new.parts.ok.0,
      drops_few c.in_ok-explain_drops-2.ensures.adds,
      swaps_few c.in_ok-explain_swaps-2.ensures.adds,
    )

-- the runs of the five kinds, one after another, are one run on the parts, after which no step is left
pub returns : goal.returns
returns c =
    let explained = rw c.parts.view_is at
    (unicode_explained c.args.start (c.args.start + c.len.result) (omega (arith, c.len.ensures, c.explain_swaps.new.parts.ok.0))
    (record { adds = c.in_ok-explain_drops.ensures.adds; at_rest = c.in_ok-explain_drops.ensures.at_rest })
    (record { adds = c.in_ok-explain_swaps.ensures.adds; at_rest = c.in_ok-explain_swaps.ensures.at_rest })
    (record { adds = c.in_ok-explain_drops-2.ensures.adds; at_rest = c.in_ok-explain_drops-2.ensures.at_rest })
    (record { adds = c.in_ok-explain_swaps-2.ensures.adds; at_rest = c.in_ok-explain_swaps-2.ensures.at_rest })
    (record { adds = c.in_ok-drop_trues.ensures.adds; at_rest = c.in_ok-drop_trues.ensures.at_rest })) in
    record {
      adds = explained.0;
      at_rest = explained.1;
      shaped = adds_keeps (UnicodeLeads c.args.start) (λ _ step. kind_rank step) IsU
          (λ a b step l i. u_shaped a b l.0 i) _ _ _ _ explained.0;
    }

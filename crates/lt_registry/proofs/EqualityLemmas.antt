-- `==` on entries and their parts is true exactly if what a contract sees of both is equal. `Decides b P` says that the
-- Boolean `b` is true exactly if `P` is.
use denote.Enum.Bare.{same_true, true_same}
use Rattle.std.proofs.Common.{◌≡◌, ℕ, List, Option, Some, None, refl, ap}
use Rattle.std.specs.Bool.{Decides}
use Rattle.std.specs.Ordering.{eq_by_cmp}
use Rattle.std.specs.Option.{option_eq}
use Rattle.std.proofs.lemmas.Bool.Decides.{Decides-and, Decides-eqb}
use Rattle.std.proofs.lemmas.Slice.Eq.{bytes_eq-Decides, slice_eq-Decides}
use Rattle.lt_tag.specs.Parts.{TagForm}
use Rattle.lt_tag.specs.Order.{tag_cmp}
use Rattle.lt_tag.specs.OrderLaws.{tag_total, tags_apart, same_exactly}
use Rattle.lt_registry.specs.Parts.{EntryParts}
use Rattle.lt_registry.specs.Same.{same_list}
use Rattle.lt_registry.specs.declared.entries.EntryName.{EntryName}
use Rattle.lt_registry.specs.declared.entries.EntryName.TheVariants as names
use Rattle.lt_registry.specs.declared.entries.EntryValue.{EntryValue}
use Rattle.lt_registry.specs.declared.entries.EntryValue.TheVariants as values
use Rattle.lt_registry.specs.contracts.entries.Kind as kind
use Rattle.lt_registry.specs.contracts.entries.EntryNamePartialEq.TheImpl as name
use Rattle.lt_registry.specs.contracts.entries.EntryValuePartialEq.TheImpl as value
use Rattle.lt_registry.specs.contracts.entries.EntryPartialEq.TheImpl as entry

-- whether the order of tags finds two equal decides whether they are the same
abbrev tag_decides : (t u : TagForm) → Decides (eq_by_cmp tag_cmp t u) (t ≡ u)
tag_decides t u = same_exactly tag_total tags_apart t u (eq_by_cmp tag_cmp t u) refl

-- `same_list` decides whether two lists of subtags are the same
pub list_decides : (a b : List (List ℕ)) → Decides (same_list a b) (a ≡ b)
list_decides a b = slice_eq-Decides bytes_eq-Decides a b (same_list a b) refl

-- `==` decides whether two names of records are the same
pub name_decides : (a b : EntryName) → Decides (name.ghosts.eq a b) (a ≡ b)
name_decides (names.Single s) (names.Single t) =
    let d = bytes_eq-Decides s t in ((λ h. ap names.Single (d.0 h)), (λ e. d.1 (cc)))
name_decides (names.Range a b) (names.Range c d) =
    let both = Decides-and _ _ (bytes_eq-Decides a c) (bytes_eq-Decides b d) in
    ((λ h. let p = both.0 h in λ i. names.Range (p.0 i) (p.1 i)), (λ e. both.1 (cc, cc)))
name_decides (names.Whole t) (names.Whole u) =
    let d = tag_decides t u in ((λ h. ap names.Whole (d.0 h)), (λ e. d.1 (cc)))
name_decides _ _ = ((λ h. cc), (λ e. cc))

-- `==` decides whether two values of records are the same
pub value_decides : (a b : EntryValue) → Decides (value.ghosts.eq a b) (a ≡ b)
value_decides (values.One s) (values.One t) =
    let d = bytes_eq-Decides s t in ((λ h. ap values.One (d.0 h)), (λ e. d.1 (cc)))
value_decides (values.Whole t) (values.Whole u) =
    let d = tag_decides t u in ((λ h. ap values.Whole (d.0 h)), (λ e. d.1 (cc)))
value_decides _ _ = ((λ h. cc), (λ e. cc))

-- `==` decides whether two optional values of records are the same
option_decides : (a b : Option EntryValue) → Decides (option_eq value.ghosts.eq a b) (a ≡ b)
option_decides None None = ((λ _. refl), (λ _. refl))
option_decides (Some a) (Some b) =
    let d = value_decides a b in ((λ h. ap Some (d.0 h)), (λ e. d.1 (cc)))
option_decides _ _ = ((λ h. cc), (λ e. cc))

-- `==` decides whether two entries are the same
pub entry_decides : (a b : EntryParts) → Decides (entry.ghosts.eq a b) (a ≡ b)
entry_decides a b =
    let all = Decides-and _ _ (Decides-eqb a.number b.number)
    (Decides-and _ _ (same_true kind.the_type tt a.kind b.kind, true_same kind.the_type a.kind b.kind)
    (Decides-and _ _ (name_decides a.name b.name)
    (Decides-and _ _ (option_decides a.value b.value) (slice_eq-Decides list_decides a.prefixes b.prefixes _ refl)))) in (
      (λ h. let p = all.0 h in
          λ i. record { number = p.0 i; kind = p.1.0 i; name = p.1.1.0 i; value = p.1.1.1.0 i; prefixes = p.1.1.1.1 i }),
      (λ e. all.1 (
        ap (λ (x : EntryParts). x.number) e,
        (
          ap (λ (x : EntryParts). x.kind) e,
          (
            ap (λ (x : EntryParts). x.name) e,
            (ap (λ (x : EntryParts). x.value) e, ap (λ (x : EntryParts). x.prefixes) e),
          ),
        ),
      )),
    )

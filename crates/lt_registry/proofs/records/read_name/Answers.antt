use Rattle.std.proofs.Common.{◌≡◌, Some, true, sym, ap, ◌∙◌, subst}
use Rattle.std.specs.Option.{option_copied}
use Rattle.lt_registry.specs.Entries.{is_whole_kind}
use Rattle.lt_registry.specs.Records.{body, name_field, HasNoTag, subtags_named}
use Rattle.lt_registry.specs.RecordSteps.{IsTagOf}
use Rattle.lt_registry.proofs.RecordLaws.{name_told, field_of_tag}
use Rattle.lt_registry.proofs.records.read_name.Goals as goal

-- what `read_subtags` is refused with is a fault of the record's name, since a kind of subtags has its name in Subtag
pub returns-then-not-is_whole_kind-clause-err : goal.returns-then-not-is_whole_kind-clause-err
returns-then-not-is_whole_kind-clause-err c =
    let there : body (name_field c.args.kind) c.args.fields.now.all.now ≡ Some c.in-Some.text.now = sym c.name.ensures
    ∙ ap option_copied c.in-Some.is in
    (name_told c.args.fields.now.all.now c.args.kind c.in-Some.text.now c.read_subtags.result
    (sym c.if-not-is_whole_kind.ensures) there (c.read_subtags.ensures.named
    ∙ ap (subtags_named c.args.kind) c.as_bytes.ensures.value)).1

-- BadTag is a fault of the record's name: a kind of whole tags has its name in Tag, and the text there is no tag
pub returns-in-None-clause-err : goal.returns-in-None-clause-err
returns-in-None-clause-err c =
    let whole : is_whole_kind c.args.kind ≡ true = sym c.if-not-is_whole_kind.ensures in
    let there : body (name_field c.args.kind) c.args.fields.now.all.now ≡ Some c.in-Some.text.now = sym c.name.ensures
    ∙ ap option_copied c.in-Some.is in
    let none : HasNoTag c.as_bytes-2.result.now = subst (IsTagOf c.as_bytes-2.result.now) c.in-None.is c.in_ok-tag.ensures.tag in (
      c.in-Some.text.now,
      whole,
      ap (λ z. body z c.args.fields.now.all.now) (sym (field_of_tag c.args.kind whole))
          ∙ there,
      subst HasNoTag c.as_bytes-2.ensures.value none,
    )

use Rattle.std.proofs.Common.{◌≡◌, ◌∙◌, ℕ, List, false, true, sym, subst}
use Rattle.lt_codes.specs.Index.{IsCode}
use Rattle.lt_codes.specs.Tables.{Agrees}
use Rattle.lt_codes.proofs.RowLemmas.{holds_first, holds_second}
use Rattle.lt_codes.proofs.tables.add_row.Goals as goal

-- the bibliographic code stands before with another subtag, so not all codes agree, and `RepeatedCode` is right
pub returns-then-not-agrees : goal.returns-then-not-agrees
returns-then-not-agrees c = λ all.
    let agrees = subst
    (λ (l : List ℕ). Agrees c.args.table.now (record { code = c.args.row.bibliographic; registered = l }))
    (sym c.registered-registered.ensures) (holds_first (Agrees c.args.table.now) c.args.row all) in
    let bad : c.agrees.result ≡ true = c.agrees.ensures.1 agrees in
    let not : c.agrees.result ≡ false = c.if-not-agrees.true in
    cc

-- the terminologic code stands before with another subtag, so not all codes agree
pub returns-then-not-agrees-2 : goal.returns-then-not-agrees-2
returns-then-not-agrees-2 c = λ all.
    let agrees = subst (λ (l : List ℕ). Agrees c.args.table.now (record { code = c.in-Some.code; registered = l }))
    (sym c.registered-registered.ensures) (holds_second (Agrees c.args.table.now) c.args.row c.in-Some.code
    c.in-Some.is all) in
    let bad : c.agrees-in-Some.result ≡ true = c.agrees-in-Some.ensures.1 agrees in
    let not : c.agrees-in-Some.result ≡ false = c.if-not-agrees-2.true in
    cc

-- the bibliographic code is three letters, as is asked of each code of the row
pub push-requires : goal.push-requires
push-requires c =
    subst (λ (l : List ℕ). IsCode (record { code = c.args.row.bibliographic; registered = l }))
    (sym (c.copy.ensures ∙ c.registered-registered.ensures)) (holds_first IsCode c.args.row c.requires)

-- the terminologic code is three letters, as is asked of each code of the row
pub push-requires-in-Some : goal.push-requires-in-Some
push-requires-in-Some c =
    subst (λ (l : List ℕ). IsCode (record { code = c.in-Some.code; registered = l }))
    (sym c.registered-registered.ensures) (holds_second IsCode c.args.row c.in-Some.code c.in-Some.is c.requires)

-- the bibliographic code is three letters, as is asked of each code of the row
pub push-requires-in-None : goal.push-requires-in-None
push-requires-in-None c =
    subst (λ (l : List ℕ). IsCode (record { code = c.args.row.bibliographic; registered = l }))
    (sym c.registered-registered.ensures) (holds_first IsCode c.args.row c.requires)

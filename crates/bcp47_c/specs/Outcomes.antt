-- What calls of the C library answer (an outcome), and what they leave in a buffer.
use Rattle.std.specs.Prelude.{ℕ, ◌≡◌, ◌≤◌, ◌<◌, ◌==◌, ◌⊎◌, if◌then◌else◌, List, [], take, drop, length}
use Rattle.lt_canon.specs.declared.refusals.TextRefusal.{TextRefusal}
use Rattle.lt_canon.specs.declared.refusals.TextRefusal.TheVariants as refusals
use Rattle.bcp47_c.specs.Numbers.{tag_fault, valid_fault}
use Rattle.bcp47_c.specs.declared.outcomes.Outcome.{Outcome}
use Rattle.bcp47_c.specs.declared.outcomes.Said.{Said}

-- a status without detail and place
abbrev pub ended : ℕ → Said
ended status = record { status = status; detail = 0; place = 0 }

-- the outcome that says this, with the length of a text; the number of the text that it is about and the reserved part
-- are 0
abbrev pub outcome : Said → ℕ → Outcome
outcome said length =
    record {
      status = said.status;
      detail = said.detail;
      place = said.place;
      length = length;
      text = 0;
      reserved = 0;
    }

-- the text is at the front of the buffer, and the rest of the buffer is as before; the buffer was `before` and is
-- `after`
pub record StandsIn (text before after : List ℕ) : Type 0 where
  pub front : take (length text) after ≡ text
  pub rest : drop (length text) after ≡ drop (length text) before

-- If the text fits the buffer, it is written there and what is said is answered. Else nothing is written, and the
-- status is BufferTooSmall (5). The text's length is answered in both cases. The buffer was `before` and is `after`.
pub record IsDelivered (said : Said) (text before after : List ℕ) (o : Outcome) : Type 0 where
  pub fits : length text ≤ length before → (o ≡ outcome said (length text)) × StandsIn text before after
  pub too_long : length before < length text → (o ≡ outcome (ended 5) (length text)) × (after ≡ before)

-- the status, detail and place for a refusal: NotATag (1), Invalid (2), ReplacementRepeats (3) or OutOfMemory (4)
abbrev pub refusal_said : TextRefusal → Said
refusal_said (refusals.NotATag fault) = record { status = 1; detail = tag_fault fault.kind; place = fault.place }
refusal_said (refusals.Invalid fault) = record { status = 2; detail = valid_fault fault.kind; place = fault.place }
refusal_said (refusals.ReplacementRepeats variant) = ended 3
refusal_said refusals.OutOfMemory = ended 4

-- the text that is written with a refusal: the variant that steps can repeat, else none
abbrev pub refusal_text : TextRefusal → List ℕ
refusal_text (refusals.NotATag fault) = []
refusal_text (refusals.Invalid fault) = []
refusal_text (refusals.ReplacementRepeats variant) = variant
refusal_text refusals.OutOfMemory = []

-- the refusal is answered, and its text is written; the buffer was `before` and is `after`
abbrev pub IsRefused : TextRefusal → List ℕ → List ℕ → Outcome → Type 0
IsRefused refusal before after o = IsDelivered (refusal_said refusal) (refusal_text refusal) before after o

-- a text of which `IsOwed` is true is written, and the status is Done (0); the buffer was `before` and is `after`
pub record IsWritten (IsOwed : List ℕ → Type 0) (before after : List ℕ) (o : Outcome) : Type 0 where
  pub text : List ℕ
  pub owed : IsOwed text
  pub delivered : IsDelivered (ended 0) text before after o

-- a refusal of which `IsOwed` is true is answered, and its text is written; the buffer was `before` and is `after`
pub record IsRefusedAsOwed (IsOwed : TextRefusal → Type 0) (before after : List ℕ) (o : Outcome) : Type 0 where
  pub refusal : TextRefusal
  pub owed : IsOwed refusal
  pub refused : IsRefused refusal before after o

-- a text of which `IsText` is true is written, or a refusal of which `IsRefusal` is true is answered; the buffer was
-- `before` and is `after`
abbrev pub Answers : (List ℕ → Type 0) → (TextRefusal → Type 0) → List ℕ → List ℕ → Outcome → Type 0
Answers IsText IsRefusal before after o = IsWritten IsText before after o ⊎ IsRefusedAsOwed IsRefusal before after o

-- the outcome, with the number of the text that it is about
abbrev pub told_of : ℕ → Outcome → Outcome
told_of number o =
    record {
      status = o.status;
      detail = o.detail;
      place = o.place;
      length = o.length;
      text = number;
      reserved = o.reserved;
    }

-- the outcome, with the number of the text that it is about, unless memory ran out (status 4), where it names none
abbrev pub of_text : ℕ → Outcome → Outcome
of_text number o = if o.status == 4 then o else told_of number o

-- ---- rows of fixed size

-- the rows are at the front of a room for rows, and the rest of the room is as before; the room was `before` and is
-- `after`
pub record StandIn {X : Type 0} (rows before after : List X) : Type 0 where
  pub front : take (length rows) after ≡ rows
  pub rest : drop (length rows) after ≡ drop (length rows) before

-- a status, with the number of these rows as the place
abbrev pub counted : {X : Type 0} → ℕ → List X → Said
counted status rows = record { status = status; detail = 0; place = length rows }

-- If the rows fit the room and the text fits the buffer, both are written. Else nothing is, and the status is
-- BufferTooSmall (5). The number of rows and the text's length are answered in both cases. The room for rows was
-- `room` and is `filled`, and the buffer was `before` and is `after`.
pub record AreDelivered {X : Type 0} (rows : List X) (text : List ℕ) (room filled : List X) (before after : List ℕ)
    (o : Outcome) : Type 0 where
  pub fit : length rows ≤ length room → length text ≤ length before
      → (o ≡ outcome (counted 0 rows) (length text)) × StandIn rows room filled × StandsIn text before after
  pub too_many : length room < length rows
      → (o ≡ outcome (counted 5 rows) (length text)) × (filled ≡ room) × (after ≡ before)
  pub too_long : length before < length text
      → (o ≡ outcome (counted 5 rows) (length text)) × (filled ≡ room) × (after ≡ before)

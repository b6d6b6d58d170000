-- Lemmas for `Marked::begin` and `Marked::take_piece`, which answer a text that may begin with a byte order mark, piece
-- by piece: what is true of a piece of its lines is true of a piece of the text.
use Rattle.std.proofs.Common.{Result, Ok, Err, ◌≡◌, ◌↔◌, IsTrue, not, ◌++◌, ◌∷◌, ◌∙◌, ℕ, List, [], Bool, true, false}
use Rattle.std.proofs.Common.{Option, length, sym, ap, refl, subst, arith, append_assoc, append-nil, length-append, inl}
use Rattle.std.proofs.Common.{inr}
use Rattle.std.specs.Io.KnownBytes.{Appends}
use Rattle.std.proofs.KnownBytes.{Appends-nil, Appends-trans}
use Rattle.lt_jar.specs.Devices.{inner_of}
use Rattle.lt_jar.specs.declared.devices.Device.{Device}
use Rattle.lt_rows.specs.Marks.{IsWide, MayBeMark, SplitsMark}
use Rattle.lt_rows.proofs.MarkLemmas.{wide_more}
use Rattle.lt_stream.specs.DeviceOutput.{WritesText}
use Rattle.lt_lines.specs.Answering.{IsFresh, IsTaken, TakesPiece}
use Rattle.lt_lines.specs.Marked.{BeginsText, EndsText, IsNew, TakesText}
use Rattle.lt_lines.specs.Owed.{IsBegunText, MayHaveMark, SplitsText, Terms}
use Rattle.lt_stream.proofs.TallyLemmas.{no_tallies}
use Rattle.lt_lines.specs.declared.answering.Answering.{Answering}
use Rattle.lt_lines.specs.declared.marked.Marked.{Marked}
use Rattle.lt_stream.specs.declared.faults.ToolFault.{ToolFault}
use Rattle.lt_stream.specs.declared.faults.ToolFault.TheVariants as faults
use Rattle.lt_lines.proofs.FormLemmas.{of_none}
use Rattle.lt_lines.proofs.MarkedLemmas.{begun_none, piece_stopped, splits_marked, splits_more, splits_never}

-- anything follows where a flag is both true and false
pub unbegun : {P : Type 0} (b : Bool) → b ≡ true → b ≡ false → P
unbegun b begun not = let bad : true ≡ false = sym begun ∙ not in cc

-- a state that has answered nothing has taken nothing in
fresh_taken : (T : Terms) (state : Answering) → IsFresh state → IsTaken T [] [] state
fresh_taken T state fresh = record {
  lines = [];
  last = [];
  cut = refl;
  each_one = tt;
  last_one = (of_none T.form).unit;
  kept = fresh.items.0 ∙ sym (of_none T.form).kept;
  goes_on = fresh.place.0 ∙ sym (of_none T.form).closed;
  short = λ _. (of_none T.form).short;
  feeds = fresh.place.1;
  owed = [];
  each = tt;
  all = fresh.items.1;
  count = fresh.counts.0;
  refused = fresh.counts.1;
  tallied = record { refusals = []; are_refused = refl; tallied = rw fresh.tallies no_tallies };
  recent = fresh.recent T.ground.entries T.form;
}

-- a state that keeps no bytes and has answered nothing is that of a text of which nothing is read, if it is past the
-- mark exactly where no mark is looked for; `may` tells whether one is
pub new_text : (T : Terms) (state : Marked) (may : Bool) → IsTrue may ↔ MayHaveMark T.form → state.front.items ≡ []
    → state.is_begun ≡ not may → IsFresh state.answering → IsNew T state
new_text T state true tells front begun fresh = record {
  taken = inr (record {
    looked = tells.0 refl;
    begun = begun;
    kept = front;
    may_be = inl (239, 187 ∷ 191 ∷ [], refl);
    nothing = refl;
    none_refused = fresh.tallies;
    taken = fresh_taken T state.answering fresh;
  });
  emptied = fresh.items.1;
}
new_text T state false tells front begun fresh =
    let never : MayHaveMark T.form → ⊥ = λ looked. let bad : false ≡ true = tells.1 looked in cc in
    record {
      taken = inl (record {
        begun = begun;
        emptied = front;
        mark = [];
        text = [];
        split = λ more. splits_never T.form more never;
        narrow = λ more looked. absurd (never looked);
        out = [];
        written_is = refl;
        taken = fresh_taken T state.answering fresh;
      });
      emptied = fresh.items.1;
    }

-- ---- the mark is written

-- The kept first bytes were split into `mark` and `text`. The output is `before` until the mark is written, then
-- `between`, and `after` once the text was taken in. In each case below `begin` did what is said of it (`BeginsText`).
module _ {W : Type 0} (T : Terms) (contents : W → Option (List ℕ)) (old new : Marked) (before between after : Device W)
    (mark text : List ℕ) (split : SplitsMark old.front.items mark text) where
  -- the mark could not be written
  pub begin_unwritten : (f : ToolFault) → WritesText contents mark before after (Err f) → BeginsText T contents old new before after (Err f)
  begin_unwritten f w = record {
    written = w.written;
    appends = w.appends;
    mark = mark;
    text = text;
    split = split;
    done = tt;
    room = tt;
    stopped = λ looked narrow taken.
        inl (
          inl w.stopped,
          record {
            mark = mark;
            text = text;
            split = splits_marked T.form old.front.items mark text
                looked split;
            front = inl w.front;
          },
        );
  }

  -- the mark was written, and the text after it ended the run
  pub begin_stopped : (f : ToolFault) → WritesText contents mark before between (Ok tt)
      → TakesPiece T contents text old.answering new.answering between after (Err f)
      → BeginsText T contents old new before after (Err f)
  begin_stopped f w p = record {
    written = mark ++ p.written;
    appends = Appends-trans _ _ _ _ _ (subst (Appends (contents (inner_of before)) (contents (inner_of between)))
        w.done.0 w.appends) p.appends;
    mark = mark;
    text = text;
    split = split;
    done = tt;
    room = tt;
    stopped = λ looked narrow taken. piece_stopped T old.front.items [] [] text p.written mark old.answering
        new.answering before between after f (splits_marked T.form old.front.items mark text looked split) (λ _. narrow)
        taken w.done.1 p.stopped;
  }

  -- the mark was written, and the text after it was taken in
  pub begin_done : WritesText contents mark before between (Ok tt)
      → TakesPiece T contents text old.answering new.answering between after (Ok tt) → new.is_begun ≡ true
      → new.front.items ≡ []
      → BeginsText T contents old new before after (Ok tt)
  begin_done w p begun emptied = record {
    written = mark ++ p.written;
    appends = Appends-trans _ _ _ _ _ (subst (Appends (contents (inner_of before)) (contents (inner_of between)))
        w.done.0 w.appends) p.appends;
    mark = mark;
    text = text;
    split = split;
    done = (p.done.0 ∙ w.done.1, p.done.1, begun, emptied, (p.written, refl, λ taken. p.done.2 [] [] taken));
    room = λ count has. let long = ap length split.whole ∙ length-append mark text in p.room count (record {
      room = omega (arith, has.room, long);
      feeds = omega (arith, has.feeds, long);
      refused = has.refused;
    });
    stopped = tt;
  }

-- ---- pieces

-- a piece of a text comes in, and is taken as the contract says (`TakesText`)
module _ {W : Type 0} (T : Terms) (contents : W → Option (List ℕ)) (piece : List ℕ) (old new : Marked) (before after : Device W) where
  -- after the mark a piece is taken in by the state that answers lines
  pub text_piece : (r : Result (Unit {0}) ToolFault) → old.is_begun ≡ true → new.is_begun ≡ true
      → new.front.items ≡ old.front.items → TakesPiece T contents piece old.answering new.answering before after r
      → TakesText T contents piece old new before after r
  text_piece (Ok u) begun begins front p = record {
    written = p.written;
    appends = p.appends;
    done = (
      p.done.0,
      λ bytes out t none. elim t [
        | inl a ↦ (
          inl (record {
            begun = begins;
            emptied = front ∙ a.emptied;
            mark = a.mark;
            text = a.text ++ piece;
            split = λ more. rw (append_assoc bytes piece more, append_assoc a.text piece more) (a.split (piece ++ more));
            narrow = λ more looked. rw (append_assoc bytes piece more) (a.narrow (piece ++ more) looked);
            out = a.out ++ p.written;
            written_is = ap (λ (l : List ℕ). l ++ p.written) a.written_is ∙ append_assoc a.mark a.out p.written;
            taken = p.done.2 a.text a.out a.taken;
          }),
          p.done.1,
        )
        | inr k ↦ unbegun old.is_begun begun k.begun
      ],
    );
    stopped = tt;
  }
  text_piece (Err f) begun begins front p = record {
    written = p.written;
    appends = p.appends;
    done = tt;
    stopped = λ bytes out t. elim t [
      | inl a ↦ rw (a.written_is, append_assoc a.mark a.out p.written)
          (piece_stopped T (bytes ++ piece) a.text a.out piece p.written a.mark old.answering new.answering before
          before after f (a.split piece) (a.narrow piece) a.taken refl p.stopped)
      | inr k ↦ unbegun old.is_begun begun k.begun
    ];
  }

-- A piece of a text comes in before it is known whether the text begins with a mark. In each case below it is taken as
-- the contract says (`TakesText`).
module _ {W : Type 0} (T : Terms) (contents : W → Option (List ℕ)) (piece : List ℕ) (old new : Marked)
    (before : Device W) (begun : old.is_begun ≡ false) where
  -- the bytes begin with a byte order mark of UTF-16
  pub text_wide : new.answering ≡ old.answering → IsWide (old.front.items ++ piece)
      → TakesText T contents piece old new before before (Err faults.Utf16)
  text_wide same wide = record {
    written = [];
    appends = Appends-nil _;
    done = tt;
    stopped = λ bytes out t. elim t [
      | inl a ↦ unbegun old.is_begun a.begun begun
      | inr k ↦ inr (inl (
        refl,
        refl,
        subst (λ (l : List ℕ). IsWide (l ++ piece)) k.kept wide,
        append-nil out
            ∙ k.nothing,
        ap (λ (a : Answering). a.tallies) same ∙ k.none_refused,
        k.looked,
      ))
    ];
  }

  -- there was no memory to keep the piece, and nothing was written
  pub text_lacks : TakesText T contents piece old new before before (Err faults.OutOfMemory)
  text_lacks = record {
    written = [];
    appends = Appends-nil _;
    done = tt;
    stopped = λ bytes out t. elim t [
      | inl a ↦ unbegun old.is_begun a.begun begun
      | inr k ↦ inl (
        inr (refl, refl),
        subst (IsBegunText T (bytes ++ piece)) (sym (append-nil out ∙ k.nothing))
            (begun_none T (bytes ++ piece)),
      )
    ];
  }

  -- the bytes may still be part of a mark, and are kept
  pub text_may_be : new.is_begun ≡ false → new.front.items ≡ old.front.items ++ piece → new.answering ≡ old.answering
      → MayBeMark (old.front.items ++ piece) → TakesText T contents piece old new before before (Ok tt)
  text_may_be still front same may = record {
    written = [];
    appends = Appends-nil _;
    done = (
      refl,
      λ bytes out t none. elim t [
        | inl a ↦ unbegun old.is_begun a.begun begun
        | inr k ↦ (
          inr (record {
            looked = k.looked;
            begun = still;
            kept = front ∙ ap (λ (l : List ℕ). l ++ piece) k.kept;
            may_be = subst (λ (l : List ℕ). MayBeMark (l ++ piece)) k.kept may;
            nothing = append-nil out ∙ k.nothing;
            none_refused = ap (λ (a : Answering). a.tallies) same ∙ k.none_refused;
            taken = rw same k.taken;
          }),
          rw same none,
        )
      ],
    );
    stopped = tt;
  }

  -- the bytes tell whether there is a mark: `mid` keeps them all, and they are split
  pub text_begins : (mid : Marked) (after : Device W) (r : Result (Unit {0}) ToolFault)
      → mid.front.items ≡ old.front.items ++ piece → mid.answering ≡ old.answering
      → (IsWide (old.front.items ++ piece) → ⊥) → (MayBeMark (old.front.items ++ piece) → ⊥)
      → BeginsText T contents mid new before after r → TakesText T contents piece old new before after r
  text_begins mid after (Ok u) front same narrow none b = record {
    written = b.written;
    appends = b.appends;
    done = (
      b.done.0,
      λ bytes out t empty. elim t [
        | inl a ↦ unbegun old.is_begun a.begun begun
        | inr k ↦
            let whole : mid.front.items ≡ bytes ++ piece = front ∙ ap (λ (l : List ℕ). l ++ piece) k.kept in
            let kept : old.front.items ++ piece ≡ bytes ++ piece = ap (λ (l : List ℕ). l ++ piece) k.kept in
            let split = splits_marked T.form (bytes ++ piece) b.mark b.text k.looked
            (subst (λ (l : List ℕ). SplitsMark l b.mark b.text) whole b.split) in
            let undecided = subst (λ (l : List ℕ). MayBeMark l → ⊥) kept none in
            let more = b.done.4 in (
              inl (record {
                begun = b.done.2;
                emptied = b.done.3;
                mark = b.mark;
                text = b.text;
                split = λ rest. splits_more T.form (bytes ++ piece) b.mark b.text rest undecided split;
                narrow = λ rest looked. wide_more (bytes ++ piece) rest undecided (subst (λ (l : List ℕ). IsWide l → ⊥) kept narrow);
                out = more.0;
                written_is = ap (λ (l : List ℕ). l ++ b.written) k.nothing ∙ more.1;
                taken = more.2 (rw same k.taken);
              }),
              b.done.1,
            )
      ],
    );
    stopped = tt;
  }
  text_begins mid after (Err f) front same narrow none b = record {
    written = b.written;
    appends = b.appends;
    done = tt;
    stopped = λ bytes out t. elim t [
      | inl a ↦ unbegun old.is_begun a.begun begun
      | inr k ↦ rw k.nothing (subst (λ (l : List ℕ). EndsText T before after l b.written new.answering.tallies f)
          (front ∙ ap (λ (l : List ℕ). l ++ piece) k.kept)
          (b.stopped k.looked (subst (λ (l : List ℕ). IsWide l → ⊥) (sym front) narrow) (rw same k.taken)))
    ];
  }

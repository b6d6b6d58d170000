-- Lemmas for `run_pieces`. What is true at each turn of its loop, that is, after each read (`RunTurn`), stays true in
-- the next one, and each of the five ways in which the loop ends is one that the contract allows.
use Rattle.std.proofs.Common.{◌≡◌, ◌≤◌, ◌<◌, ◌+◌, ◌*◌, ◌++◌, ◌∙◌, inl, inr, ℕ, List, [], Option, None, Result, Ok, Err}
use Rattle.std.proofs.Common.{length, refl, sym, subst, arith, append-nil, length-append}
use Rattle.std.specs.Io.KnownBytes.{Consumes, IsAtEnd, Keeps}
use Rattle.std.proofs.KnownBytes.{Consumes-kept, Consumes-nil, Consumes-trans}
use Rattle.lt_jar.specs.Devices.{HasFailed, failures_of, inner_of, last_given_of, one_more, reads_of}
use Rattle.lt_jar.specs.Sources.{most_reads}
use Rattle.lt_jar.specs.declared.devices.Device.{Device}
use Rattle.lt_stream.specs.Running.{HasRead}
use Rattle.lt_stream.specs.Pieces.{EndFact, FinishesPieces, HasRoom, RunFact, RunsPieces, TakesPiece}
use Rattle.lt_stream.specs.declared.faults.ToolFault.{ToolFault}
use Rattle.lt_stream.specs.declared.faults.ToolFault.TheVariants as faults
use Rattle.lt_stream.proofs.DeviceLemmas.{failed_from}
use Rattle.lt_stream.proofs.ReadLemmas.{ReadsPiece, read_more}

-- So far `turn` reads gave the bytes `read`, at least as many and at most 65,536 times as many, the last of them gave
-- some, no read has failed, and T is true of what took the bytes. The output was `start` at the beginning of the run,
-- and is `now` here.
pub record RunTurn {I O P : Type 0} (T : RunFact O P) (remaining : I → Option (List ℕ)) (input input' : Device I)
    (start now : O) (state : P) (turn : ℕ) : Type 0 where
  pub read : List ℕ
  pub consumes : Consumes (remaining (inner_of input)) (remaining (inner_of input')) read
  pub taken : T start now read state
  pub calls : HasRead input input' turn
  pub some : turn ≤ length read
  pub last_gave : 0 < turn → 0 < last_given_of input'
  pub most : length read ≤ 65536 * turn
  pub failures : failures_of input' ≡ failures_of input

-- before the first read this is true, if T is true of no bytes
pub run_first : {I O P : Type 0} (T : RunFact O P) (remaining : I → Option (List ℕ)) (input : Device I) (start
    : O) (state : P) → T start start [] state
    → RunTurn T remaining input input start start state 0
run_first T remaining input start state first = record {
  read = [];
  consumes = Consumes-nil _;
  taken = first;
  calls = refl;
  some = omega arith;
  last_gave = λ some. absurd (omega (arith, some));
  most = omega arith;
  failures = refl;
}

-- a run for which there is no memory for a piece ends before a read, by OutOfMemory
pub run_lacks : {I O P A : Type 0} (T : RunFact O P) (S F : EndFact O P A) (remaining : I
    → Option (List ℕ)) (input : Device I) (start : O) (state : P) → T start start [] state
    → RunsPieces T S F remaining input input start start state (Err faults.OutOfMemory)
run_lacks T S F remaining input start state first = record {
  read = [];
  reads = 0;
  consumes = Consumes-nil _;
  calls = refl;
  bounded = omega arith;
  ends = inr (inr (inr (inr (record { fault = refl; same = refl; taken = first }))));
}

-- one turn of a run: T is true while it goes on, S where a piece ends it, and F where the reader has no more
module _ {I O P A : Type 0} (T : P → RunFact O P) (S F : P → EndFact O P A) (remaining : I → Option (List ℕ))
    (input before : Device I) (first : P) (start now : O)
    (state : P) (turn : ℕ) (t : RunTurn (T first) remaining input before start now state turn) where
  -- the bytes that were read, with those of one piece more, are fewer than 2 to the 63
  pub run_room : (count : ℕ) → turn < most_reads → count ≤ 65536 → HasRoom T count now state
  run_room count few short = record {
    first = first;
    start = start;
    read = t.read;
    taken = t.taken;
    few = omega (arith, t.most, few, short);
  }

  -- if one piece more is read and taken, the next turn comes
  pub run_next : (after : Device I) (last : O) (new : P) (piece : List ℕ) → ReadsPiece remaining before after piece
      → 0 < length piece → length piece ≤ 65536 → 0 < last_given_of after
      → TakesPiece T S piece now last state new (Ok None) → RunTurn (T first) remaining input after start last new (turn + 1)
  run_next after last new piece r some short gave takes =
      let n = length-append t.read piece in
      record {
        read = t.read ++ piece;
        consumes = Consumes-trans _ _ _ _ _ t.consumes r.consumes;
        taken = takes first start t.read t.taken;
        calls = read_more input before after turn t.calls r.calls;
        some = omega (arith, n, t.some);
        last_gave = λ some. gave;
        most = omega (arith, n, t.most);
        failures = r.failures ∙ t.failures;
      }

  -- if one piece more is read, and ends the run, the run did what the contract says
  pub run_stopped : (after : Device I) (last : O) (new : P) (piece : List ℕ) (r : Result A ToolFault)
      → turn < most_reads → ReadsPiece remaining before after piece
      → S first start last (t.read ++ piece) new r → RunsPieces (T first) (S first) (F first) remaining input after start last new r
  run_stopped after last new piece r few reads stops = record {
    read = t.read ++ piece;
    reads = turn + 1;
    consumes = Consumes-trans _ _ _ _ _ t.consumes reads.consumes;
    calls = read_more input before after turn t.calls reads.calls;
    bounded = omega (arith, few);
    ends = inr (inl (record { same = reads.failures ∙ t.failures; stopped = stops }));
  }

  -- so it did if the reader has no more bytes
  pub run_finished : (after : Device I) (last : O) (new : P) (r : Result A ToolFault) → turn < most_reads
      → ReadsPiece remaining before after [] → IsAtEnd (remaining (inner_of after))
      → FinishesPieces T F now last state new r → RunsPieces (T first) (S first) (F first) remaining input after start last new r
  run_finished after last new r few reads end finishes = record {
    read = t.read ++ [];
    reads = turn + 1;
    consumes = Consumes-trans _ _ _ _ _ t.consumes reads.consumes;
    calls = read_more input before after turn t.calls reads.calls;
    bounded = omega (arith, few);
    ends = inl
        (record {
          end = end;
          same = reads.failures
              ∙ t.failures;
          finished = subst (λ (l : List ℕ). F first start last l new r) (sym (append-nil t.read))
              (finishes first start t.read t.taken);
        });
  }

  -- so it did if the read fails
  pub run_failed : (after : Device I) → turn < most_reads
      → Keeps (remaining (inner_of before)) (remaining (inner_of after)) → reads_of after ≡ one_more (reads_of before)
      → HasFailed before after → RunsPieces (T first) (S first) (F first) remaining input after start now state (Err faults.Read)
  run_failed after few kept more failed = record {
    read = t.read;
    reads = turn + 1;
    consumes = Consumes-kept _ _ _ _ t.consumes kept;
    calls = read_more input before after turn t.calls more;
    bounded = omega (arith, few);
    ends = inr (inr (inl (record { fault = refl; failed = failed_from input before after t.failures failed; taken = t.taken })));
  }

  -- so it did if all reads that it may make are made
  pub run_turns : turn ≡ most_reads
      → RunsPieces (T first) (S first) (F first) remaining input before start now state (Err faults.TooManyTurns)
  run_turns all = record {
    read = t.read;
    reads = turn;
    consumes = t.consumes;
    calls = t.calls;
    bounded = omega (arith, all);
    ends = inr (inr (inr (inl (record {
      fault = refl;
      same = t.failures;
      all_made = all;
      gave_bytes = omega (arith, all, t.some);
      last_gave = t.last_gave (omega (arith, all));
      taken = t.taken;
    }))));
  }

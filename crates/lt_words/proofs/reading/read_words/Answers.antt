use Rattle.std.proofs.Common.{◌≡◌, ◌⊎◌, ℕ, List, [], map, string_bytes, subst, None}
use Rattle.std.proofs.lemmas.Result.{IfOk-weaker, IfErr-weaker}
use Rattle.clap.specs.Words.{IsAmong}
use Rattle.clap.specs.Values.{kind_of}
use Rattle.clap.specs.declared.error.kind.ErrorKind.{ErrorKind}
use Rattle.clap.specs.declared.error.kind.ErrorKind.TheVariants as kind
use Rattle.lt_words.specs.Reading.{IsFaultOf}
use Rattle.lt_words.proofs.ReadingLemmas.{reads_named, refused_failed, refused_unnamed, rows_found, said_of}
use Rattle.lt_words.proofs.reading.read_words.Goals as goal

-- the words have no fault
abbrev is_none : List ErrorKind → Type 0
is_none kinds = kinds ≡ []

-- the words have no fault, and their matches name this command
pub returns-in-Ok-clause-read : goal.returns-in-Ok-clause-read
returns-in-Ok-clause-read c =
    let words : List (List ℕ) = map string_bytes c.args.words.now in
    let same = c.in_ok-langtag.ensures in
    let found = rows_found _ words c.in-Ok.matches same c.in-Ok.ensures.matches in
    let right = said_of is_none _ words same c.in-Ok.ensures.kinds in
    IfOk-weaker c.command_of.result _ _ (λ command named. reads_named words _ command found right named) c.command_of.ensures.named

-- the words have no fault for the parser, but their matches name no command
pub returns-in-Ok-clause-refused : goal.returns-in-Ok-clause-refused
returns-in-Ok-clause-refused c =
    let words : List (List ℕ) = map string_bytes c.args.words.now in
    let same = c.in_ok-langtag.ensures in
    let found = rows_found _ words c.in-Ok.matches same c.in-Ok.ensures.matches in
    let right = said_of is_none _ words same c.in-Ok.ensures.kinds in
    IfErr-weaker c.command_of.result _ _ (λ f unnamed. refused_unnamed words _ f found right unnamed) c.command_of.ensures.unnamed

-- the parser gives an error of a kind that is a fault of the words, or memory ran out
pub returns-in-Err-clause-refused : goal.returns-in-Err-clause-refused
returns-in-Err-clause-refused c =
    let words : List (List ℕ) = map string_bytes c.args.words.now in
    let same = c.in_ok-langtag.ensures in
    let k = kind_of c.in-Err.error in
    let how = said_of (λ (ks : List ErrorKind). (k ≡ kind.OutOfMemory) ⊎ IsAmong k ks) _ words same c.in-Err.ensures.kinds in
    refused_failed words k None c.fault_of.result how (subst (λ (x : ErrorKind). IsFaultOf x None c.fault_of.result)
    c.kind.ensures c.fault_of.ensures)

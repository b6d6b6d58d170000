-- For `read_words`: what the answer of `clap`'s parser says of the words of a command line, which command they name or
-- with which fault they are refused. `clap` calls a command line simple if its contracts state which matches any words
-- have by it, and free if no argument of it has a rule on another one; then they state the faults of the words too.
use Rattle.std.proofs.Common.{◌≡◌, ◌⊎◌, inl, inr, ℕ, List, [], ◌∷◌, Option, true, refl, sym, subst}
use Rattle.clap.specs.Words.{App, HasMatchesOf, IsAmong, Row, Text, fault_of, is_simple, is_simple_and_free, subcommand_of}
use Rattle.clap.specs.Words.{subcommand_rows_of}
use Rattle.clap.specs.declared.parser.matches.ArgMatches.{ArgMatches}
use Rattle.clap.specs.declared.error.kind.ErrorKind.{ErrorKind}
use Rattle.clap.specs.declared.error.kind.ErrorKind.TheVariants as kind
use Rattle.lt_words.specs.CommandLine.{langtag}
use Rattle.lt_words.specs.Reading.{Reads, IsFaultOf, IsNamed, IsRefused, NamesNone}
use Rattle.lt_words.specs.declared.commands.Command.{Command}
use Rattle.lt_words.specs.declared.faults.WordsFault.{WordsFault}
use Rattle.lt_words.specs.declared.faults.WordsFault.TheVariants as fault

-- the program's command line is simple
pub langtag-simple : is_simple langtag ≡ true
langtag-simple = refl

-- the program's command line is simple and free
pub langtag-free : is_simple_and_free langtag ≡ true
langtag-free = refl

-- the subcommand and the rows of its arguments that a parse `m` found are those that `clap` states for the words, if
-- the command line `a` is the program's
pub rows_found : (a : App) (words : List Text) (m : ArgMatches) → a ≡ langtag → HasMatchesOf a words m
    → subcommand_rows_of m ≡ subcommand_of langtag words
rows_found a words m same has = (subst (λ (x : App). HasMatchesOf x words m) same has langtag-simple).1

-- if `clap` says that `P` is true of the faults of the words by the command line `a`, provided that `a` is simple and
-- free, and `a` is the program's command line, then `P` is true of their faults by that
pub said_of : (P : List ErrorKind → Type 0) (a : App) (words : List Text) → a ≡ langtag
    → (is_simple_and_free a ≡ true → P (fault_of a words)) → P (fault_of langtag words)
said_of P a words same said =
    subst (λ (x : App). is_simple_and_free x ≡ true → P (fault_of x words)) same said langtag-free

-- words without a fault, whose parse found what names this command, are read as the command
pub reads_named : (words : List Text) (found : Option (Text × List Row)) (command : Command) → found ≡ subcommand_of langtag words
    → fault_of langtag words ≡ [] → IsNamed found command → Reads words command
reads_named words found command same right named = record {
  right = right;
  names = subst (λ (f : Option (Text × List Row)). IsNamed f command) same named;
}

-- words without a fault are refused with `f` where what their parse found names no command
pub refused_unnamed : (words : List Text) (found : Option (Text × List Row)) (f : WordsFault) → found ≡ subcommand_of langtag words
    → fault_of langtag words ≡ [] → NamesNone found f → IsRefused words f
refused_unnamed words found (fault.Help text) same right unnamed = absurd unnamed
refused_unnamed words found (fault.Version text) same right unnamed = absurd unnamed
refused_unnamed words found (fault.Usage text) same right unnamed = (
  λ command reads. unnamed command (subst (λ (g : Option (Text × List Row)). IsNamed g command) (sym same) reads.names),
  λ asks. let bad = sym right in cc,
  λ asks. let bad = sym right in cc,
)
refused_unnamed words found fault.OutOfMemory same right unnamed = tt

-- a kind of error among one is that one
among_one : (k other : ErrorKind) → IsAmong k (other ∷ []) → k ≡ other
among_one k other (inl e) = e
among_one k other (inr bad) = absurd bad

-- words whose parse failed with an error of the kind `k`, which prints as `printed` if that is known, are refused
-- with the fault `f` of that error
pub refused_failed : (words : List Text) (k : ErrorKind) (printed : Option (List ℕ)) (f : WordsFault)
    → (k ≡ kind.OutOfMemory) ⊎ IsAmong k (fault_of langtag words) → IsFaultOf k printed f → IsRefused words f
refused_failed words k printed (fault.Help text) (inl memory) help = let shown : k ≡ kind.DisplayHelp = help.0 in cc
refused_failed words k printed (fault.Help text) (inr among) help =
    subst (λ (x : ErrorKind). IsAmong x (fault_of langtag words)) help.0 among
refused_failed words k printed (fault.Version text) (inl memory) version = let shown : k ≡ kind.DisplayVersion = version.0 in cc
refused_failed words k printed (fault.Version text) (inr among) version =
    subst (λ (x : ErrorKind). IsAmong x (fault_of langtag words)) version.0 among
refused_failed words k printed (fault.Usage text) (inl memory) usage = absurd (usage.2 memory)
refused_failed words k printed (fault.Usage text) (inr among) usage = (
  λ command reads. subst (λ (ks : List ErrorKind). IsAmong k ks) reads.right among,
  λ asks. usage.0 (among_one k kind.DisplayHelp (subst (λ (ks : List ErrorKind). IsAmong k ks) asks among)),
  λ asks. usage.1 (among_one k kind.DisplayVersion (subst (λ (ks : List ErrorKind). IsAmong k ks) asks among)),
)
refused_failed words k printed fault.OutOfMemory how out = tt

-- Worked examples: what the command line gives for words that are written out.
use Rattle.std.proofs.Common.{◌≡◌, List, [], ◌∷◌, Option, None, Some, codes, option_map, refl}
use Rattle.clap.proofs.OnLiterals.{clap_on_literals}
use Rattle.clap.specs.Words.{Text, fault_of, first_of, subcommand_of}
use Rattle.clap.specs.declared.error.kind.ErrorKind.TheVariants as kind
use Rattle.lt_words.specs.CommandLine.{langtag}
use Rattle.lt_words.specs.Reading.{values_given}

-- the subcommand that the words name, and the first value of the argument `name`, if it has one
read_as : Text → List Text → Option (Text × Option Text)
read_as name words = option_map (λ found. (found.0, first_of name found.1)) (subcommand_of langtag words)

-- a command line of `classify`, with these words after the subcommand
abbrev classify : List Text → List Text
classify words = codes "langtag" ∷ codes "classify" ∷ words

-- a word after `classify` is the tag
tag-read : read_as (codes "TAG") (classify (codes "zh-TW" ∷ [])) ≡ Some (codes "classify", Some (codes "zh-TW"))
unfolding clap_on_literals read_as
tag-read = refl

-- the words with one tag have no fault
tag-right : fault_of langtag (classify (codes "zh-TW" ∷ [])) ≡ []
unfolding clap_on_literals
tag-right = refl

-- an empty word is a tag
empty-read : read_as (codes "TAG") (classify ([] ∷ [])) ≡ Some (codes "classify", Some [])
unfolding clap_on_literals read_as
empty-read = refl

-- an empty tag is no fault of the words
empty-right : fault_of langtag (classify ([] ∷ [])) ≡ []
unfolding clap_on_literals
empty-right = refl

-- words without a subcommand lack one
none-wrong : fault_of langtag (codes "langtag" ∷ []) ≡ kind.MissingSubcommand ∷ []
unfolding clap_on_literals
none-wrong = refl

-- `classify` without a tag lacks an argument
missing-wrong : fault_of langtag (classify []) ≡ kind.MissingRequiredArgument ∷ []
unfolding clap_on_literals
missing-wrong = refl

-- a second tag is an argument too many
second-wrong : fault_of langtag (classify (codes "en" ∷ codes "fr" ∷ [])) ≡ kind.UnknownArgument ∷ []
unfolding clap_on_literals
second-wrong = refl

-- `--help` asks for help
help-asked : fault_of langtag (codes "langtag" ∷ codes "--help" ∷ []) ≡ kind.DisplayHelp ∷ []
unfolding clap_on_literals
help-asked = refl

-- `-V` asks for the version
version-asked : fault_of langtag (codes "langtag" ∷ codes "-V" ∷ []) ≡ kind.DisplayVersion ∷ []
unfolding clap_on_literals
version-asked = refl

-- a command line of `csv`, with these words after the subcommand
abbrev csv : List Text → List Text
csv words = codes "langtag" ∷ codes "csv" ∷ words

-- a delimiter after its option, at the end of the words
delimiter-read : read_as (codes "C") (csv (codes "R" ∷ codes "2" ∷ codes "--delimiter" ∷ codes ";" ∷ []))
    ≡ Some (codes "csv", Some (codes ";"))
unfolding clap_on_literals read_as
delimiter-read = refl

-- a delimiter after `=`, in front of the positionals, and a summary are no fault
delimiter-right : fault_of langtag (csv (codes "--delimiter=tab" ∷ codes "--summary" ∷ codes "R" ∷ codes "2" ∷ [])) ≡ []
unfolding clap_on_literals
delimiter-right = refl

-- a flag that is given has the value `true`
summary-read : read_as (codes "summary") (csv (codes "--summary" ∷ codes "R" ∷ codes "2" ∷ [])) ≡ Some (codes "csv", Some (codes "true"))
unfolding clap_on_literals read_as
summary-read = refl

-- an option that is not given has no value
plain-read : read_as (codes "C") (csv (codes "R" ∷ codes "2" ∷ [])) ≡ Some (codes "csv", None)
unfolding clap_on_literals read_as
plain-read = refl

-- a flag that is not given has the value `false`
plain-told : read_as (codes "summary") (csv (codes "R" ∷ codes "2" ∷ [])) ≡ Some (codes "csv", Some (codes "false"))
unfolding clap_on_literals read_as
plain-told = refl

-- a command line of `tsv`, with these words after the subcommand
abbrev tsv : List Text → List Text
tsv words = codes "langtag" ∷ codes "tsv" ∷ words

-- `tsv` has a flag for a heading
heading-read : read_as (codes "heading") (tsv (codes "--heading" ∷ codes "R" ∷ codes "2" ∷ [])) ≡ Some (codes "tsv", Some (codes "true"))
unfolding clap_on_literals read_as
heading-read = refl

-- `csv` has a flag for rows that stay as they are
keep-read : read_as (codes "keep") (csv (codes "R" ∷ codes "2" ∷ codes "--keep" ∷ [])) ≡ Some (codes "csv", Some (codes "true"))
unfolding clap_on_literals read_as
keep-read = refl

-- `csv` has no flag for a heading, since its records always have one
heading-wrong : fault_of langtag (csv (codes "R" ∷ codes "2" ∷ codes "--heading" ∷ [])) ≡ kind.UnknownArgument ∷ []
unfolding clap_on_literals
heading-wrong = refl

-- a command line of `match`, with these words after the subcommand
abbrev match : List Text → List Text
match words = codes "langtag" ∷ codes "match" ∷ words

-- the subcommand that the words name, and all values of the argument `name`
values_as : Text → List Text → Option (Text × List Text)
values_as name words = option_map (λ found. (found.0, values_given name found.1)) (subcommand_of langtag words)

-- the words that are left are the ranges, also with a flag between them
ranges-read : values_as (codes "RANGE") (match (codes "R" ∷ codes "de" ∷ codes "--extended" ∷ codes "*-CH" ∷ []))
    ≡ Some (codes "match", codes "de" ∷ codes "*-CH" ∷ [])
unfolding clap_on_literals values_as
ranges-read = refl

-- several ranges are no fault
ranges-right : fault_of langtag (match (codes "R" ∷ codes "de" ∷ codes "--extended" ∷ codes "*-CH" ∷ [])) ≡ []
unfolding clap_on_literals
ranges-right = refl

-- `match` has a flag for extended filtering
extended-read : read_as (codes "extended") (match (codes "R" ∷ codes "de" ∷ codes "--extended" ∷ []))
    ≡ Some (codes "match", Some (codes "true"))
unfolding clap_on_literals read_as
extended-read = refl

-- `match` without a range has no range, which is no fault of its words where they have a header
range-missing : values_as (codes "RANGE") (match (codes "R" ∷ [])) ≡ Some (codes "match", [])
unfolding clap_on_literals values_as
range-missing = refl

-- a header after its option is read as it
header-read : read_as (codes "HEADER") (match (codes "--accept" ∷ codes "de, en;q=0.5" ∷ codes "R" ∷ []))
    ≡ Some (codes "match", Some (codes "de, en;q=0.5"))
unfolding clap_on_literals read_as
header-read = refl

-- a header without a range is no fault
header-right : fault_of langtag (match (codes "--accept" ∷ codes "de, en;q=0.5" ∷ codes "R" ∷ [])) ≡ []
unfolding clap_on_literals
header-right = refl

-- a command line of `show`, with these words after the subcommand
abbrev show : List Text → List Text
show words = codes "langtag" ∷ codes "show" ∷ words

-- the words that are left are the tags, also after a flag
tags-read : values_as (codes "TAG") (show (codes "R" ∷ codes "--json" ∷ codes "zh-yue" ∷ codes "en" ∷ []))
    ≡ Some (codes "show", codes "zh-yue" ∷ codes "en" ∷ [])
unfolding clap_on_literals values_as
tags-read = refl

-- `show` has a flag for JSON
json-read : read_as (codes "json") (show (codes "R" ∷ codes "en" ∷ codes "--json" ∷ [])) ≡ Some (codes "show", Some (codes "true"))
unfolding clap_on_literals read_as
json-read = refl

-- `show` without a tag lacks an argument
tag-missing : fault_of langtag (show (codes "R" ∷ [])) ≡ kind.MissingRequiredArgument ∷ []
unfolding clap_on_literals
tag-missing = refl

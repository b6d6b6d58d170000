use Rattle.std.proofs.Common.{◌≡◌, false, drop, map}
use Rattle.lt_words.specs.CommandLine.{rule_for, subcommand, with_rules}
use Rattle.clap.specs.declared.builder.command.Command.TheViews.{out-Command as fields_of}
use Rattle.clap.specs.Words.{app_of}
use Rattle.lt_words.proofs.program.new_subcommand.Given as goal

-- with the arguments that are left added, the command is the subcommand; no argument so far is global
abbrev pub invariant-loop-argument : goal.invariant-loop-argument
invariant-loop-argument l = record {
  app : with_rules (app_of l.command) (map (λ a. rule_for a.now.form a.now.name.now) (drop l.argument-index l.arguments))
      ≡ subcommand l.name (map (λ a. rule_for a.now.form a.now.name.now) l.arguments);
  globals : (fields_of l.command).has_globals ≡ false;
}

-- The options and operands of the command, as clap's rules.
use Rattle.std.specs.Prelude.{Some, true, codes}
use Rattle.clap.specs.Words.{App, Rule, Text, new_rule, new_app, with_rule}
use Rattle.clap.specs.declared.builder.ArgAction.TheVariants.{Set, SetTrue, Append}

-- an option without a value, one with a value, and the words that are none
abbrev pub flag_rule : Text → Rule
flag_rule name = record (new_rule name) { long = Some name; action = Some SetTrue }

abbrev pub value_rule : Text → Rule
value_rule name = record (new_rule name) { long = Some name; action = Some Set }

abbrev pub words_rule : Rule
words_rule = record (new_rule (codes "words")) { action = Some Append }

-- the command without options, clap's own among them
abbrev pub bare_app : App
bare_app = record (new_app (codes "steno")) {
  top = record
      ((new_app (codes "steno")).top)
      { no_binary_name = true; disable_help_flag = true; disable_version_flag = true };
}

-- the command with the options of an answer
abbrev pub answer_app : App
answer_app =
    with_rule (with_rule (with_rule bare_app (flag_rule (codes "ns")))
    (value_rule (codes "packets"))) (value_rule (codes "bytes"))

-- and with those of `load`, before its words
abbrev pub line_app : App
line_app =
    with_rule (with_rule (with_rule (with_rule answer_app (value_rule (codes "block")))
    (value_rule (codes "blocks"))) (value_rule (codes "limit"))) words_rule

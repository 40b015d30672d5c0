-- Which commands some words are, computed.
use Rattle.std.proofs.Common.{◌≡◌, [], ◌∷◌, Some, None, refl}
use Rattle.std.specs.Prelude.{codes}
use Rattle.nsi_base.specs.Digits.{number_of, value_from}
use Rattle.run_totals.specs.declared.report.Report.{Report}
use Rattle.command_words.specs.declared.command.Command.{Command}
use Rattle.command_words.specs.Words.{command_of, options_from, race_of}

pub one_word_is_a_command : command_of (codes "check" ∷ []) ≡ Some Command.Check
unfolding options_from
one_word_is_a_command = refl

pub two_words_are_none : command_of (codes "check" ∷ codes "check" ∷ []) ≡ None
unfolding options_from
two_words_are_none = refl

pub the_most_is_usual : command_of (codes "provide" ∷ []) ≡ Some (Command.Provide 2000000)
unfolding options_from
the_most_is_usual = refl

pub in_any_order_and_either_form : command_of (codes "run" ∷ codes "--summary" ∷ codes "--workers" ∷ codes "4" ∷ codes "--events=10" ∷ [])
    ≡ Some (Command.Run (record { most = 10; workers = 4; report = Report.Summary }))
unfolding options_from number_of value_from
in_any_order_and_either_form = refl

pub none_need_be_given : command_of (codes "run" ∷ []) ≡ Some (Command.Run (record { most = 2000000; workers = 1; report = Report.Trace }))
unfolding options_from
none_need_be_given = refl

pub both_have_to_be_given : command_of (codes "generate" ∷ codes "--from=1" ∷ []) ≡ None
unfolding options_from number_of value_from
both_have_to_be_given = refl

pub a_load : command_of (codes "generate" ∷ codes "--size" ∷ codes "2" ∷ codes "--from=1" ∷ []) ≡ Some (Command.Generate (record { from = 1; size = 2 }))
unfolding options_from number_of value_from
a_load = refl

pub twice_is_none : command_of (codes "run" ∷ codes "--events=1" ∷ codes "--events=1" ∷ []) ≡ None
unfolding options_from number_of value_from
twice_is_none = refl

pub of_another_is_none : command_of (codes "provide" ∷ codes "--workers=1" ∷ []) ≡ None
unfolding options_from
of_another_is_none = refl

pub a_value_is_missing : command_of (codes "run" ∷ codes "--events" ∷ []) ≡ None
unfolding options_from
a_value_is_missing = refl

pub an_empty_value_is_no_number : command_of (codes "run" ∷ codes "--events=" ∷ []) ≡ None
unfolding options_from number_of value_from
an_empty_value_is_no_number = refl

pub an_option_is_no_value : command_of (codes "run" ∷ codes "--events" ∷ codes "--summary" ∷ []) ≡ None
unfolding options_from
an_option_is_no_value = refl

pub a_flag_takes_no_value : command_of (codes "run" ∷ codes "--summary=yes" ∷ []) ≡ None
unfolding options_from
a_flag_takes_no_value = refl

pub help_is_none : command_of (codes "run" ∷ codes "--help" ∷ []) ≡ None
unfolding options_from
help_is_none = refl

pub an_end_is_none : command_of (codes "run" ∷ codes "--" ∷ []) ≡ None
an_end_is_none = refl

pub a_check_of_a_printed_run : command_of (codes "verify" ∷ codes "--events=7" ∷ []) ≡ Some (Command.Verify 7)
unfolding options_from number_of value_from
a_check_of_a_printed_run = refl

pub a_race_is_no_command : command_of (codes "race" ∷ []) ≡ None
a_race_is_no_command = refl

pub a_race : race_of (codes "race" ∷ codes "--events" ∷ codes "9" ∷ []) ≡ Some 9
unfolding options_from number_of value_from
a_race = refl

pub no_race_with_workers : race_of (codes "race" ∷ codes "--workers=2" ∷ []) ≡ None
unfolding options_from
no_race_with_workers = refl

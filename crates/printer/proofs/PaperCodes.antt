-- What each byte is, by the papers' numbers, computed.
use mathlib.Core.Path.{refl}
use mathlib.Core.Bool.{Bool, true, false}
use Rattle.printer.specs.Tools.{lookup, coded}
use Rattle.printer.specs.Escapes.{modes, looks, parameters, choices}
use Rattle.printer.specs.Codes.{firsts, seconds, image_modes, plain_escapes, argument_escapes, other_escapes}
use Rattle.printer.specs.Framing.{is_letter, read_as, controls, escapes, selections, frame}
use Rattle.printer.specs.PaperCodes.{byte_range, control_bytes, between_commands, second_bytes, third_bytes, mode_bytes, image_numbers, passing, arguments_taken, PaperCodes, ArgumentsTaken}

pub paper_codes : (upper : Bool) → PaperCodes upper
unfolding lookup coded is_letter read_as firsts seconds image_modes plain_escapes argument_escapes other_escapes modes looks parameters choices controls escapes selections frame byte_range control_bytes between_commands second_bytes third_bytes mode_bytes image_numbers
paper_codes true = record { between = refl; after_escape = refl; after_advanced = refl; after_mode = refl; after_select = refl }
paper_codes false = record { between = refl; after_escape = refl; after_advanced = refl; after_mode = refl; after_select = refl }

pub arguments-taken : ArgumentsTaken
unfolding byte_range passing arguments_taken
arguments-taken = refl

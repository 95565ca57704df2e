-- The table 'Checked by hand', computed.
use Prim.Native.Nat.{ℕ, ◌*◌, ◌/◌}
use mathlib.Core.Path.{◌≡◌, refl, ◌∙◌}
use mathlib.Core.List.{List, [], ◌∷◌, ◌++◌, map}
use native.Mathlib.Omega.{arith}
use lib.ListN.{length, drop, length-replicate}
use lib.Seq.{take_at, drop_at}
use Rattle.printer.specs.Tools.{lookup, coded}
use Rattle.printer.specs.Escapes.{modes, looks, parameters, choices}
use Rattle.printer.specs.Codes.{firsts, seconds, plain_escapes, argument_escapes, other_escapes}
use Rattle.printer.specs.Framing.{is_letter, read_as, controls, escapes, frame}
use Rattle.printer.specs.Records.{record_size, room_for_byte, style_of, encoded, encoded_all}
use Rattle.printer.specs.Decoding.{marks_of, decoded, decoded_first, decoded_all}
use Rattle.printer.specs.Performing.{perform_all, records_all}
use Rattle.printer.specs.Deciding.{attempt, ranged, letter_events, feed_after_return, column_from, line_from, vertical}
use Rattle.printer.specs.Steps.{step_events, step_of, step_records}
use Rattle.printer.specs.Bounds.{ascending, last_of, channels_below, accepted}
use Rattle.printer.specs.Calls.{start_at, start_of, run_of, call_of}
use Rattle.printer.specs.Cases.{Line, Case, shown_line, lines_of_case, letters, table, CheckedByHand}
use Rattle.printer.specs.Types.{Record}
use Rattle.printer.proofs.Bytes.{length-encoded, length-encoded_all, written_part}

-- Records read back from their bytes one by one: taken from all bytes, as `decodedAll` takes them, the 82 of case 5 need 3 GB to be compared.
again : List Record → List Record
again [] = []
again (r ∷ l) = decoded (encoded r) ++ again l

first_again : (l : List Record) → decoded_first (length l) (encoded_all l) ≡ again l
unfolding decoded_first encoded_all again
first_again [] = refl
first_again (r ∷ l) =
    rw (take_at (encoded r) (encoded_all l) record_size (length-encoded r), drop_at (encoded r) (encoded_all l) record_size (length-encoded r), first_again l)

all_again : (l : List Record) → decoded_all (encoded_all l) ≡ again l
all_again l =
    let e : length (encoded_all l) / record_size ≡ length l = rw (length-encoded_all l) (omega arith) in
    rw e (first_again l)

abbrev records_in : Case → List Record
records_in c = (call_of (start_of (start_at c.resolution)).printer c.input (length c.input) (room_for_byte * length c.input)).records

abbrev lines_again : Case → List Line
lines_again c = drop c.skipped (map shown_line (again (records_in c)))

lines-again : (c : Case) → lines_of_case c ≡ lines_again c
lines-again c =
    rw (length-replicate {A = ℕ} (room_for_byte * length c.input) 0, written_part (records_in c), all_again (records_in c))

all_lines : (l : List Case) → map lines_of_case l ≡ map lines_again l
all_lines [] = refl
all_lines (c ∷ l) = rw (lines-again c, all_lines l)

pub checked_by_hand : CheckedByHand
unfolding lookup coded is_letter read_as firsts seconds plain_escapes argument_escapes other_escapes modes looks parameters choices controls escapes frame style_of encoded encoded_all marks_of decoded decoded_first perform_all records_all attempt ranged letter_events feed_after_return column_from line_from vertical step_events step_of step_records ascending last_of channels_below accepted start_of run_of call_of table letters again
checked_by_hand = record { bytes = refl; cases = all_lines table ∙ refl }

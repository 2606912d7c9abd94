-- The two examples of document 01, "The run printer", computed from the definition.
use Prim.Native.Nat.{ℕ}
use mathlib.Core.Path.{◌≡◌, refl}
use mathlib.Core.List.{List, [], ◌∷◌}
use Rattle.rules.specs.Masks.{has, apart, within, less}
use Rattle.rules.specs.Packets.{padded, passes, put, mix, order_of, insert, union, keep, member, pairs_into, values_of}
use Rattle.rules.specs.Parts.{write, parts, deep, names_open}
use Rattle.rules.specs.Typing.{tested, written, right_masks, fit_masks, wrongs}
use Rattle.rules.specs.Books.{entries, bytes_of, masks_fit}
use Rattle.rules.specs.Checks.{first_failed}
use Rattle.rules.specs.Reading.{byte_if, stands, operands_wrong, read_operands, read_part, read_body, body_start, read_entry}
use Rattle.rules.specs.Reading.{read_entries, masks_right, after, built, part_at, body_at, use_at, main_of, tables_from}
use Rattle.rules.specs.Reading.{policy_of, wrong_body, misfit, wrongs_in, misfits_in, typing_faults, form_checks, book_checks}
use Rattle.rules.specs.Working.{each, out, steps, room, own, widest, width}
use Rattle.rules.specs.States.{join, place, enter, finish, leave, next, live, move, run, counted, made, used, lacking, stuck_steps, stuck_in}
use Rattle.rules.specs.Answers.{packet_checks, start, run_checks, ran}
use Rattle.printer.specs.Printing.{decimal_in, further_values, values_line, packet_lines, refused_line, ran_lines, ran_in, ends_with}
use Rattle.printer.specs.Printing.{print_checks, printed}

-- 00 11, the 17-byte book, the packet 00 05 00 09
abbrev pub before : List ℕ → List ℕ
before schedule =
    0 ∷ 0x11 ∷ 2 ∷ 0 ∷ 0 ∷ 0x0b ∷ 0 ∷ 3 ∷ 7 ∷ 1 ∷ 2 ∷ 3 ∷ 0 ∷ 0 ∷ 1 ∷ 3 ∷ 1 ∷ 0 ∷ 2 ∷ 0 ∷ 5 ∷ 0 ∷ 9 ∷ schedule

-- four schedule bytes: "finished 4 1" and "1 2"; two: "running 2 3 1"
pub examples : (printed (before (0 ∷ 0 ∷ 0 ∷ 0 ∷ []))
    ≡ 102 ∷ 105 ∷ 110 ∷ 105 ∷ 115 ∷ 104 ∷ 101 ∷ 100 ∷ 32 ∷ 52 ∷ 32 ∷ 49 ∷ 10 ∷ 49 ∷ 32 ∷ 50 ∷ 10 ∷ [])
    × (printed (before (0 ∷ 0 ∷ [])) ≡ 114 ∷ 117 ∷ 110 ∷ 110 ∷ 105 ∷ 110 ∷ 103 ∷ 32 ∷ 50 ∷ 32 ∷ 51 ∷ 32 ∷ 49 ∷ 10 ∷ [])
unfolding has apart within less
    padded passes put mix order_of insert union keep member pairs_into values_of
    write parts deep names_open tested written right_masks fit_masks wrongs entries bytes_of masks_fit
    byte_if stands operands_wrong read_operands read_part read_body body_start read_entry read_entries masks_right
    after built part_at body_at use_at main_of tables_from policy_of wrong_body misfit wrongs_in misfits_in typing_faults
    first_failed form_checks book_checks packet_checks run_checks
    each out steps room own widest width
    join place enter finish leave next live move run counted made used lacking stuck_steps stuck_in
    start ran
    decimal_in further_values values_line packet_lines refused_line ran_lines ran_in ends_with print_checks printed
examples = (refl, refl)

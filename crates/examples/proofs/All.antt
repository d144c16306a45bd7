-- Every worked example that document 01 marks P holds of the definitions. Computed; assumes nothing.
use mathlib.Core.Path.{refl}
use Rattle.varint.specs.Varint.{run, number, uvarint, uvarint_at}
use Rattle.varint.specs.Write.{encode_in, encode, write_answer, write_bytes}
use Rattle.zigzag.specs.Zigzag.{signed, twos}
use Rattle.varint.specs.Signed.{varint_at}
use Rattle.token.specs.Marks.{mark_of}
use Rattle.binary.specs.Binary.{double_at, marked, binary_from, binary_at}
use Rattle.binary.specs.Strings.{binary_string_at}
use Rattle.blanks.specs.Skip.{is_blank, ignored, in_line, in_block, skip_from}
use Rattle.pieces.specs.Bytes.{hex_digit, octal_digit}
use Rattle.pieces.specs.Pieces.{hex_of, third_of, octal_of, escape_of, piece_of, walk}
use Rattle.quoted.specs.Quoted.{closing, hidden, stands, quoted_at, quoted_bytes, quoted_string_at}
use Rattle.token.specs.Digits.{is_digit}
use Rattle.number.specs.Bytes.{is_sign, is_exponent, is_pointed, is_text, any, all}
use Rattle.number.specs.Grammar.{front, past, after_sign, digits_left, point_left, mantissa_left, exponent_left, double_left, is_double, is_decimal, value_after, is_up_to}
use Rattle.number.specs.Number.{is_uint64, is_int64, int64_of, uint64_text, double_text, int64_text, number_text, number_of, number_at}
use Rattle.words.specs.Plain.{is_letter, is_plain, plain_run, plain_end}
use Rattle.words.specs.Word.{stands as stands-words, word_of, word_at}
use Rattle.text.specs.Strings.{string_started, string_started_at, text_string_at}
use Rattle.text.specs.Text.{plain_at, started, started_at, text_from, text_at}
use Rattle.lexer.specs.Lexer.{token_from, token_at, kind_at, skip_of, string_at}
use Rattle.automaton.specs.Step.{after, closed, opened, on_object, on_value, end_list, end_map, end_attributes, on_item, on_key, on_equals, step}
use Rattle.scan.specs.Walk.{arrive, on_read, run_for, walk as walk-scan, scan_of}
use Rattle.examples.specs.Examples.{answered, rows, Hold}

pub every_example : Hold rows
unfolding answered rows run number uvarint uvarint_at encode_in encode write_answer write_bytes signed twos varint_at mark_of double_at marked binary_from binary_at binary_string_at is_blank ignored in_line in_block skip_from hex_digit octal_digit hex_of third_of octal_of escape_of piece_of walk closing hidden stands quoted_at quoted_bytes quoted_string_at is_digit is_sign is_exponent is_pointed is_text any all front past after_sign digits_left point_left mantissa_left exponent_left double_left is_double is_decimal value_after is_up_to is_uint64 is_int64 int64_of uint64_text double_text int64_text number_text number_of number_at is_letter is_plain plain_run plain_end stands-words word_of word_at string_started string_started_at text_string_at plain_at started started_at text_from text_at token_from token_at kind_at skip_of string_at after closed opened on_object on_value end_list end_map end_attributes on_item on_key on_equals step arrive on_read run_for walk-scan scan_of
every_example = (refl, (refl, (refl, (refl, (refl, (refl, (refl, (refl, (refl, (refl, (refl, (refl, (refl, (refl, (refl, tt)))))))))))))))

-- The worked stream of document 01, computed of the definitions: three records of twelve tokens, and in four pieces three readings more.
use mathlib.Core.Path.{◌≡◌, refl}
use mathlib.Core.Bool.{false}
use mathlib.Core.List.{List, [], ◌∷◌}
use Prim.Native.Nat.{ℕ}
use lib.ListN.{replicate}
use Rattle.refusal.specs.Paper.{gives}
use Rattle.token.specs.Marks as marks
use Rattle.varint.specs.Varint.{run, number, uvarint, uvarint_at}
use Rattle.zigzag.specs.Zigzag.{signed}
use Rattle.varint.specs.Signed.{varint_at}
use Rattle.binary.specs.Binary.{double_at, marked, binary_from}
use Rattle.lexer.specs.Lexer.{token_from, kind_at}
use Rattle.automaton.specs.Step.{after, closed, opened, on_object, on_value, end_list, end_map, end_attributes, on_item, on_key, on_equals, step}
use Rattle.scan.specs.Walk.{arrive, on_read, run_for, walk, scan_of}
use Rattle.kept.specs.Kept.{block_of, byte_of, open_in, no_blocks, innermost, kinds_then, kind_known, kinds_known, takes, blocks_fit}
use Rattle.blocks.specs.Readings.{binary, on_step, on_token, read_for, read_on}
use Rattle.reader.specs.declared.Mark.TheVariants.{Row, Control}
use Rattle.reader.specs.Fits.{fits}
use Rattle.reader.specs.Meaning.{ended}
use Rattle.reader.specs.Calls.{open_of, offer_of, buffer_of, close_of, skipped_of, next_by}
use Rattle.buffer.specs.Buffer.{is_separator, separators}
use Rattle.blanks.specs.Skip.{is_blank}
use Rattle.stream.specs.Whole.{Out, item, last, streamed, framed, whole}
use Rattle.stream.specs.Tokens.{step_passes, token_passes, tokens_for, tokens_by, whole_tokens}
use Rattle.stream.specs.Drive.{drive_by, drive, joined, enough, Trace, readings_of, lefts_of}

abbrev pieces : List (List ℕ)
pieces =
    (0x7B ∷ 0x01 ∷ 0x02 ∷ []) ∷ (0x61 ∷ 0x3D ∷ 0x02 ∷ 0x02 ∷ 0x7D ∷ 0x3B ∷ 0x0A ∷ 0x5B ∷ 0x02 ∷ 0x02 ∷ 0x02 ∷ []) ∷ []
    ∷ (0x04 ∷ 0x5D ∷ 0x3B ∷ 0x3C ∷ 0x3E ∷ 0x23 ∷ []) ∷ []

abbrev records : Out
records =
    item (0x7B ∷ 0x01 ∷ 0x02 ∷ 0x61 ∷ 0x3D ∷ 0x02 ∷ 0x02 ∷ 0x7D ∷ []) Row 0
    (item (0x5B ∷ 0x02 ∷ 0x02 ∷ 0x02 ∷ 0x04 ∷ 0x5D ∷ []) Row 10 (item (0x3C ∷ 0x3E ∷ 0x23 ∷ []) Control 17 (last (gives ended))))

pub worked_whole : whole 64 0 (joined pieces) ≡ records
unfolding marks.mark_of run number uvarint uvarint_at signed varint_at double_at marked binary_from token_from kind_at after closed opened on_object on_value end_list end_map end_attributes on_item on_key on_equals step arrive on_read run_for walk scan_of is_separator is_blank streamed framed joined
worked_whole = refl

pub worked_tokens : whole_tokens binary 64 (joined pieces) ≡ 12
unfolding marks.mark_of run number uvarint uvarint_at signed varint_at double_at marked binary_from token_from kind_at after closed opened on_object on_value end_list end_map end_attributes on_item on_key on_equals step is_separator is_blank streamed joined block_of byte_of open_in no_blocks innermost kinds_then on_step on_token read_for read_on step_passes token_passes tokens_for tokens_by
worked_tokens = refl

abbrev trace : Trace
trace = drive (enough pieces) false (open_of 0 64).state (replicate 64 0) pieces

pub worked_readings : readings_of trace ≡ 15
unfolding marks.mark_of run number uvarint uvarint_at signed varint_at double_at marked binary_from token_from kind_at after closed opened on_object on_value end_list end_map end_attributes on_item on_key on_equals step is_separator is_blank joined block_of byte_of open_in no_blocks innermost kinds_then on_step on_token read_for read_on kind_known kinds_known takes blocks_fit fits separators open_of offer_of buffer_of close_of skipped_of next_by drive_by readings_of
worked_readings = refl

pub worked_lefts : lefts_of trace ≡ 3
unfolding marks.mark_of run number uvarint uvarint_at signed varint_at double_at marked binary_from token_from kind_at after closed opened on_object on_value end_list end_map end_attributes on_item on_key on_equals step is_separator is_blank joined block_of byte_of open_in no_blocks innermost kinds_then on_step on_token read_for read_on kind_known kinds_known takes blocks_fit fits separators open_of offer_of buffer_of close_of skipped_of next_by drive_by lefts_of
worked_lefts = refl

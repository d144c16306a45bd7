-- The numbers a caller may be given: the table of document 01.
use Rattle.std.specs.Prelude.{ℕ}

-- a byte that starts no token
abbrev pub bad_byte : ℕ
bad_byte = 1

-- string length below zero
abbrev pub negative_length : ℕ
negative_length = 2

-- an eleventh varint byte is present after ten with the top bit set
abbrev pub long_varint : ℕ
long_varint = 3

-- tenth varint byte has low seven bits above 1, whatever its top bit; goes before 3
abbrev pub wide_varint : ℕ
wide_varint = 4

-- bad `\x` escape
abbrev pub bad_hex_escape : ℕ
bad_hex_escape = 5

-- bad uint64 text
abbrev pub bad_uint64 : ℕ
bad_uint64 = 6

-- bad double text
abbrev pub bad_double : ℕ
bad_double = 7

-- bad int64 text
abbrev pub bad_int64 : ℕ
bad_int64 = 8

-- unknown word after `%`
abbrev pub unknown_word : ℕ
unknown_word = 9

-- wrong token where a value is due
abbrev pub not_value : ℕ
not_value = 10

-- wrong token where a key is due
abbrev pub not_key : ℕ
not_key = 11

-- wrong token where `=` is due
abbrev pub not_equals : ℕ
not_equals = 12

-- a block would be the 129th open
abbrev pub too_deep : ℕ
too_deep = 13

-- string bytes wanted and the token is no string
abbrev pub not_string : ℕ
not_string = 14

-- malformed record: offset of the record and the inner number and place
abbrev pub malformed_record : ℕ
malformed_record = 20

-- stream closed inside a record: offset and bytes buffered
abbrev pub cut_short : ℕ
cut_short = 21

-- record needs more than the buffer: offset and N
abbrev pub record_too_long : ℕ
record_too_long = 22

-- buffer length not from 64 to 65,536
abbrev pub buffer_length : ℕ
buffer_length = 23

-- piece offered after closing
abbrev pub after_closing : ℕ
after_closing = 24

-- stream offset after the last byte taken, plus the piece length, above 2^64 - 1
abbrev pub offset_too_high : ℕ
offset_too_high = 25

-- place beyond the slice (equal to its length is allowed)
abbrev pub beyond_slice : ℕ
beyond_slice = 26

-- output shorter than what is to be written
abbrev pub short_output : ℕ
short_output = 27

-- state and buffer do not belong together
abbrev pub strange_state : ℕ
strange_state = 28

-- C call only: format number neither 0 (binary) nor 1 (text), or over 2^63 - 1 bytes
abbrev pub bad_call : ℕ
bad_call = 29
